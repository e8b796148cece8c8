-- Worked values of numbers and of files that are written and read, byte for byte.
use Rattle.std.proofs.Common.{◌≡◌, ℕ, List, [], ◌∷◌, ◌++◌, refl, take, map, true, false, Ok}
use Rattle.std.specs.Prelude.{ℤ, pos, negsuc, codes}
use Rattle.std.specs.List.{range_with_len}
use Rattle.sound_model.specs.Numbers.{scale, clip, file_sample, inner}
use Rattle.sound_model.specs.Wav.{Form, Head, head, walk, sound, header, canon}

-- ---- numbers

scale_is_floor : scale (negsuc 0) 32768 ≡ negsuc 0
scale_is_floor = refl

scale_at_unity : scale (negsuc 76799) 65536 ≡ negsuc 76799
scale_at_unity = refl

scale_by_four : scale (pos 100) 262144 ≡ pos 400
scale_by_four = refl

clip_above : clip (pos 2147483648) ≡ pos 2147483647
clip_above = refl

clip_below : clip (negsuc 2147483648) ≡ negsuc 2147483647
clip_below = refl

file_16_is_floor : file_sample 16 (negsuc 0) ≡ negsuc 0
file_16_is_floor = refl

file_16_is_bounded : file_sample 16 (pos 15360000) ≡ pos 32767
file_16_is_bounded = refl

file_16_is_bounded_below : file_sample 16 (negsuc 15359999) ≡ negsuc 32767
file_16_is_bounded_below = refl

file_24_is_bounded : file_sample 24 (pos 8388608) ≡ pos 8388607
file_24_is_bounded = refl

file_24_is_bounded_below : file_sample 24 (negsuc 8388608) ≡ negsuc 8388607
file_24_is_bounded_below = refl

inner_8 : inner 8 (pos 127) ≡ negsuc 65535
inner_8 = refl

inner_16 : inner 16 (negsuc 0) ≡ negsuc 255
inner_16 = refl

inner_24 : inner 24 (negsuc 0) ≡ negsuc 0
inner_24 = refl

-- ---- files that are written

abbrev mono_16 : Form
mono_16 = record { channels = 1; rate = 48000; bits = 16 }

-- the base export: 100, 200 .. 800 in 16 bits, 60 bytes
abbrev base_file : List ℕ
base_file = 0x52 ∷ 0x49 ∷ 0x46 ∷ 0x46 ∷ 0x34 ∷ 0x00 ∷ 0x00 ∷ 0x00 ∷ 0x57 ∷ 0x41 ∷ 0x56 ∷ 0x45
    ∷ 0x66 ∷ 0x6d ∷ 0x74 ∷ 0x20 ∷ 0x10 ∷ 0x00 ∷ 0x00 ∷ 0x00
    ∷ 0x01 ∷ 0x00 ∷ 0x01 ∷ 0x00 ∷ 0x80 ∷ 0xbb ∷ 0x00 ∷ 0x00 ∷ 0x00 ∷ 0x77 ∷ 0x01 ∷ 0x00 ∷ 0x02 ∷ 0x00 ∷ 0x10 ∷ 0x00
    ∷ 0x64 ∷ 0x61 ∷ 0x74 ∷ 0x61 ∷ 0x10 ∷ 0x00 ∷ 0x00 ∷ 0x00
    ∷ 0x64 ∷ 0x00 ∷ 0xc8 ∷ 0x00 ∷ 0x2c ∷ 0x01 ∷ 0x90 ∷ 0x01 ∷ 0xf4 ∷ 0x01 ∷ 0x58 ∷ 0x02 ∷ 0xbc ∷ 0x02 ∷ 0x20 ∷ 0x03 ∷ []

abbrev base_samples : List ℤ
base_samples = pos 25600 ∷ pos 51200 ∷ pos 76800 ∷ pos 102400 ∷ pos 128000 ∷ pos 153600 ∷ pos 179200 ∷ pos 204800 ∷ []

base_is_written : canon mono_16 base_samples ≡ base_file
unfolding canon header
base_is_written = refl

base_is_read : head true base_file ≡ Ok (record { form = mono_16; data_at = 44; frames = 8 })
unfolding head walk
base_is_read = refl

abbrev base_head : Head
base_head = record { form = mono_16; data_at = 44; frames = 8 }

base_sounds : map (λ i. sound base_head base_file i 0) (range_with_len 0 10) ≡ base_samples ++ (pos 0 ∷ pos 0 ∷ [])
unfolding sound
base_sounds = refl

-- three mono frames of 24 bits: 9 bytes of sound and a pad byte, 54 bytes
abbrev padded_file : List ℕ
padded_file = 0x52 ∷ 0x49 ∷ 0x46 ∷ 0x46 ∷ 0x2e ∷ 0x00 ∷ 0x00 ∷ 0x00 ∷ 0x57 ∷ 0x41 ∷ 0x56 ∷ 0x45
    ∷ 0x66 ∷ 0x6d ∷ 0x74 ∷ 0x20 ∷ 0x10 ∷ 0x00 ∷ 0x00 ∷ 0x00
    ∷ 0x01 ∷ 0x00 ∷ 0x01 ∷ 0x00 ∷ 0x80 ∷ 0xbb ∷ 0x00 ∷ 0x00 ∷ 0x80 ∷ 0x32 ∷ 0x02 ∷ 0x00 ∷ 0x03 ∷ 0x00 ∷ 0x18 ∷ 0x00
    ∷ 0x64 ∷ 0x61 ∷ 0x74 ∷ 0x61 ∷ 0x09 ∷ 0x00 ∷ 0x00 ∷ 0x00
    ∷ 0x00 ∷ 0x64 ∷ 0x00 ∷ 0x00 ∷ 0xc8 ∷ 0x00 ∷ 0x00 ∷ 0x2c ∷ 0x01 ∷ 0x00 ∷ []

padded_is_written : canon (record { channels = 1; rate = 48000; bits = 24 }) (take 3 base_samples) ≡ padded_file
unfolding canon header
padded_is_written = refl

padded_is_read : head true padded_file ≡ Ok (record { form = record { channels = 1; rate = 48000; bits = 24 }; data_at = 44; frames = 3 })
unfolding head walk
padded_is_read = refl

-- ---- a source of 8 bits: bytes 128, 129, 127, 255

abbrev eight_bit_file : List ℕ
eight_bit_file = codes "RIFF" ++ (40 ∷ 0 ∷ 0 ∷ 0 ∷ []) ++ codes "WAVEfmt " ++ (16 ∷ 0 ∷ 0 ∷ 0 ∷ [])
    ++ (1 ∷ 0 ∷ 1 ∷ 0 ∷ 0x80 ∷ 0xbb ∷ 0 ∷ 0 ∷ 0x80 ∷ 0xbb ∷ 0 ∷ 0 ∷ 1 ∷ 0 ∷ 8 ∷ 0 ∷ [])
    ++ codes "data" ++ (4 ∷ 0 ∷ 0 ∷ 0 ∷ 128 ∷ 129 ∷ 127 ∷ 255 ∷ [])

abbrev eight_bit_head : Head
eight_bit_head = record { form = record { channels = 1; rate = 48000; bits = 8 }; data_at = 44; frames = 4 }

eight_bit_is_read : head true eight_bit_file ≡ Ok eight_bit_head
unfolding head walk
eight_bit_is_read = refl

eight_bit_source : map (λ i. file_sample 16 (sound eight_bit_head eight_bit_file i 0)) (range_with_len 0 4) ≡ pos 0 ∷ pos 256 ∷ negsuc 255 ∷ pos 32512 ∷ []
unfolding sound
eight_bit_source = refl

-- ---- a stereo source of 24 bits; the data is cut inside the second frame, which is silent on both channels

abbrev stereo_24 : Head
stereo_24 = record { form = record { channels = 2; rate = 48000; bits = 24 }; data_at = 2; frames = 2 }

cut_frame_is_silent : map (λ c. sound stereo_24 (9 ∷ 9 ∷ 0x00 ∷ 0x64 ∷ 0x00 ∷ 0x00 ∷ 0x9c ∷ 0xff ∷ 0x00 ∷ 0xc8 ∷ 0x00 ∷ 0x00 ∷ 0x38 ∷ []) 0 c) (range_with_len 0 3)
    ++ map (λ c. sound stereo_24 (9 ∷ 9 ∷ 0x00 ∷ 0x64 ∷ 0x00 ∷ 0x00 ∷ 0x9c ∷ 0xff ∷ 0x00 ∷ 0xc8 ∷ 0x00 ∷ 0x00 ∷ 0x38 ∷ []) 1 c) (range_with_len 0 2)
    ≡ pos 25600 ∷ negsuc 25599 ∷ pos 0 ∷ pos 0 ∷ pos 0 ∷ []
unfolding sound
cut_frame_is_silent = refl

-- ---- an extensible file: two frames of two channels and 24 bits, 80 bytes

abbrev pub extensible_file : List ℕ
extensible_file = 0x52 ∷ 0x49 ∷ 0x46 ∷ 0x46 ∷ 0x48 ∷ 0x00 ∷ 0x00 ∷ 0x00 ∷ 0x57 ∷ 0x41 ∷ 0x56 ∷ 0x45
    ∷ 0x66 ∷ 0x6d ∷ 0x74 ∷ 0x20 ∷ 0x28 ∷ 0x00 ∷ 0x00 ∷ 0x00
    ∷ 0xfe ∷ 0xff ∷ 0x02 ∷ 0x00 ∷ 0x80 ∷ 0xbb ∷ 0x00 ∷ 0x00 ∷ 0x00 ∷ 0x65 ∷ 0x04 ∷ 0x00 ∷ 0x06 ∷ 0x00 ∷ 0x18 ∷ 0x00
    ∷ 0x16 ∷ 0x00 ∷ 0x18 ∷ 0x00 ∷ 0x03 ∷ 0x00 ∷ 0x00 ∷ 0x00
    ∷ 0x01 ∷ 0x00 ∷ 0x00 ∷ 0x00 ∷ 0x00 ∷ 0x00 ∷ 0x10 ∷ 0x00 ∷ 0x80 ∷ 0x00 ∷ 0x00 ∷ 0xaa ∷ 0x00 ∷ 0x38 ∷ 0x9b ∷ 0x71
    ∷ 0x64 ∷ 0x61 ∷ 0x74 ∷ 0x61 ∷ 0x0c ∷ 0x00 ∷ 0x00 ∷ 0x00
    ∷ 0x00 ∷ 0x64 ∷ 0x00 ∷ 0x00 ∷ 0x9c ∷ 0xff ∷ 0x00 ∷ 0xc8 ∷ 0x00 ∷ 0x00 ∷ 0x38 ∷ 0xff ∷ []

abbrev extensible_head : Head
extensible_head = record { form = record { channels = 2; rate = 48000; bits = 24 }; data_at = 68; frames = 2 }

extensible_is_read : head true extensible_file ≡ Ok extensible_head
unfolding head walk
extensible_is_read = refl

extensible_stream_is_read : head false extensible_file ≡ Ok extensible_head
unfolding head walk
extensible_stream_is_read = refl

extensible_first_frame : map (λ c. sound extensible_head extensible_file 0 c) (range_with_len 0 2) ≡ pos 25600 ∷ negsuc 25599 ∷ []
unfolding sound
extensible_first_frame = refl

extensible_second_frame : map (λ c. sound extensible_head extensible_file 1 c) (range_with_len 0 2) ≡ pos 51200 ∷ negsuc 51199 ∷ []
unfolding sound
extensible_second_frame = refl
