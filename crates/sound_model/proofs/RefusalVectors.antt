-- Worked values of what is read and what isn't: whole files, each with one thing wrong.
use Rattle.std.proofs.Common.{◌≡◌, ℕ, ◌+◌, List, [], ◌∷◌, ◌++◌, refl, take, drop, length, replicate, true, false, Ok, Err}
use Rattle.std.specs.Prelude.{codes}
use Rattle.std.specs.Int.{w16, w32, to_le_bytes}
use Rattle.sound_model.specs.Wav.{Head, head, walk, NotRiff, NotWave, HeadTooLong, NoData, NoFormat, FormatShort, Format, Channels, Bits, Rate, Align, Truncated}
use Rattle.sound_model.proofs.WavVectors.{extensible_file}

abbrev file_of : List ℕ → List ℕ
file_of chunks = codes "RIFF" ++ to_le_bytes w32 (4 + length chunks) ++ codes "WAVE" ++ chunks

abbrev chunk : List ℕ → List ℕ → List ℕ
chunk name bytes = name ++ to_le_bytes w32 (length bytes) ++ bytes

-- a `fmt ` chunk with this tag, channels, rate, align and bits; the bytes per second are 7, which nothing checks
abbrev format : ℕ → ℕ → ℕ → ℕ → ℕ → List ℕ
format tag channels rate block bits = chunk (codes "fmt ") (to_le_bytes w16 tag ++ to_le_bytes w16 channels ++ to_le_bytes w32 rate
    ++ to_le_bytes w32 7 ++ to_le_bytes w16 block ++ to_le_bytes w16 bits)

-- the extensible format of two channels and 24 bits, with this size of the extension, valid bits, mask and subformat
abbrev extensible_format : ℕ → ℕ → ℕ → List ℕ → List ℕ
extensible_format extension valid mask subformat = chunk (codes "fmt ") (to_le_bytes w16 65534 ++ to_le_bytes w16 2 ++ to_le_bytes w32 48000
    ++ to_le_bytes w32 288000 ++ to_le_bytes w16 6 ++ to_le_bytes w16 24
    ++ to_le_bytes w16 extension ++ to_le_bytes w16 valid ++ to_le_bytes w32 mask ++ subformat)

abbrev pcm_bytes : List ℕ
pcm_bytes = 1 ∷ 0 ∷ 0 ∷ 0 ∷ 0 ∷ 0 ∷ 16 ∷ 0 ∷ 128 ∷ 0 ∷ 0 ∷ 170 ∷ 0 ∷ 56 ∷ 155 ∷ 113 ∷ []

-- two frames of two channels and 24 bits
abbrev twelve : List ℕ
twelve = chunk (codes "data") (0 ∷ 100 ∷ 0 ∷ 0 ∷ 156 ∷ 255 ∷ 0 ∷ 200 ∷ 0 ∷ 0 ∷ 56 ∷ 255 ∷ [])

abbrev mono : List ℕ
mono = format 1 1 48000 2 16

abbrev eight : List ℕ
eight = chunk (codes "data") (100 ∷ 0 ∷ 200 ∷ 0 ∷ 44 ∷ 1 ∷ 144 ∷ 1 ∷ 244 ∷ 1 ∷ 88 ∷ 2 ∷ 188 ∷ 2 ∷ 32 ∷ 3 ∷ [])

-- a list chunk of three bytes, and its pad byte
abbrev odd_list : List ℕ
odd_list = chunk (codes "LIST") (1 ∷ 2 ∷ 3 ∷ []) ++ (0 ∷ [])

abbrev found : ℕ → Head
found at = record { form = record { channels = 1; rate = 48000; bits = 16 }; data_at = at; frames = 8 }

abbrev stereo : ℕ → Head
stereo at = record { form = record { channels = 2; rate = 48000; bits = 24 }; data_at = at; frames = 2 }

-- ---- what is read

odd_list_chunk : head true (file_of (mono ++ odd_list ++ eight)) ≡ Ok (found 56)
unfolding head walk
odd_list_chunk = refl

second_format_is_skipped : head true (file_of (mono ++ format 3 9 1 1 1 ++ eight)) ≡ Ok (found 68)
unfolding head walk
second_format_is_skipped = refl

long_format_is_read : head true (file_of (codes "fmt " ++ to_le_bytes w32 18 ++ drop 8 mono ++ (5 ∷ 5 ∷ []) ++ eight)) ≡ Ok (found 46)
unfolding head walk
long_format_is_read = refl

-- valid bits and mask of any value, an extension longer than 22 bytes, and what follows the subformat
extensible_rest_is_ignored : head true (file_of (extensible_format 24 65535 4294967295 (pcm_bytes ++ (5 ∷ 5 ∷ [])) ++ twelve))
    ≡ Ok (stereo 70)
unfolding head walk
extensible_rest_is_ignored = refl

extensible_zeros_are_ignored : head true (file_of (extensible_format 22 0 0 pcm_bytes ++ twelve)) ≡ Ok (stereo 68)
unfolding head walk
extensible_zeros_are_ignored = refl

what_follows_data_is_ignored : head true (file_of (mono ++ eight ++ codes "fmt ")) ≡ Ok (found 44)
unfolding head walk
what_follows_data_is_ignored = refl

partial_frame_is_ignored : head true (file_of (mono ++ chunk (codes "data") (replicate 17 1))) ≡ Ok (found 44)
unfolding head walk
partial_frame_is_ignored = refl

stream_may_be_cut : head false (take 50 (file_of (mono ++ eight))) ≡ Ok (found 44)
unfolding head walk
stream_may_be_cut = refl

-- ---- what isn't read

empty_file : head true [] ≡ Err NotRiff
unfolding head
empty_file = refl

eleven_bytes : head true (take 11 (file_of (mono ++ eight))) ≡ Err NotRiff
unfolding head
eleven_bytes = refl

not_riff : head true (codes "RIFX" ++ drop 4 (file_of (mono ++ eight))) ≡ Err NotRiff
unfolding head
not_riff = refl

not_wave : head true (codes "RIFF" ++ to_le_bytes w32 4 ++ codes "AVI ") ≡ Err NotWave
unfolding head
not_wave = refl

riff_size_zero : head true (codes "RIFF" ++ to_le_bytes w32 0 ++ drop 8 (file_of (mono ++ eight))) ≡ Err NoData
unfolding head walk
riff_size_zero = refl

no_chunk_at_all : head true (file_of []) ≡ Err NoData
unfolding head walk
no_chunk_at_all = refl

no_data_chunk : head true (file_of (mono ++ codes "dat_" ++ drop 4 eight)) ≡ Err NoData
unfolding head walk
no_data_chunk = refl

-- the format passes what the second field tells, and not the file: no chunk stands after it
format_past_riff_size : head true (codes "RIFF" ++ to_le_bytes w32 12 ++ codes "WAVE" ++ mono ++ eight) ≡ Err NoData
unfolding head walk
format_past_riff_size = refl

-- the next place counts, not the bytes there
head_too_long : head true (file_of (codes "junk" ++ to_le_bytes w32 16777197)) ≡ Err (HeadTooLong 16777218)
unfolding head walk
head_too_long = refl

last_place_is_looked_at : head true (file_of (codes "junk" ++ to_le_bytes w32 16777196)) ≡ Err NoData
unfolding head walk
last_place_is_looked_at = refl

data_before_format : head true (file_of (eight ++ mono)) ≡ Err NoFormat
unfolding head walk
data_before_format = refl

short_format : head true (file_of (codes "fmt " ++ to_le_bytes w32 15 ++ drop 8 mono ++ eight)) ≡ Err (FormatShort 15)
unfolding head walk
short_format = refl

-- a format of 100 bytes, of which 99 stand, whose tag is wrong too
cut_format : head false (file_of (codes "fmt " ++ to_le_bytes w32 100 ++ replicate 99 3)) ≡ Err (FormatShort 100)
unfolding head walk
cut_format = refl

float_tag : head true (file_of (format 3 9 48000 2 16 ++ eight)) ≡ Err (Format 3)
unfolding head walk
float_tag = refl

other_tag : head true (file_of (format 65535 9 48000 2 16 ++ eight)) ≡ Err (Format 65535)
unfolding head walk
other_tag = refl

-- the first byte of the subformat is 3
other_subformat : head true (take 44 extensible_file ++ (0x03 ∷ []) ++ drop 45 extensible_file) ≡ Err (Format 65534)
unfolding head walk
other_subformat = refl

last_byte_of_subformat : head true (file_of (extensible_format 22 24 3 (take 15 pcm_bytes ++ (112 ∷ [])) ++ twelve)) ≡ Err (Format 65534)
unfolding head walk
last_byte_of_subformat = refl

short_extension : head true (file_of (extensible_format 21 24 3 pcm_bytes ++ twelve)) ≡ Err (Format 65534)
unfolding head walk
short_extension = refl

-- a format of 24 bytes, and `data` after it
abbrev short_file : List ℕ
short_file = 0x52 ∷ 0x49 ∷ 0x46 ∷ 0x46 ∷ 0x38 ∷ 0x00 ∷ 0x00 ∷ 0x00 ∷ 0x57 ∷ 0x41 ∷ 0x56 ∷ 0x45
    ∷ 0x66 ∷ 0x6d ∷ 0x74 ∷ 0x20 ∷ 0x18 ∷ 0x00 ∷ 0x00 ∷ 0x00
    ∷ 0xfe ∷ 0xff ∷ 0x02 ∷ 0x00 ∷ 0x80 ∷ 0xbb ∷ 0x00 ∷ 0x00 ∷ 0x00 ∷ 0x65 ∷ 0x04 ∷ 0x00 ∷ 0x06 ∷ 0x00 ∷ 0x18 ∷ 0x00
    ∷ 0x16 ∷ 0x00 ∷ 0x18 ∷ 0x00 ∷ 0x03 ∷ 0x00 ∷ 0x00 ∷ 0x00
    ∷ 0x64 ∷ 0x61 ∷ 0x74 ∷ 0x61 ∷ 0x0c ∷ 0x00 ∷ 0x00 ∷ 0x00
    ∷ 0x00 ∷ 0x64 ∷ 0x00 ∷ 0x00 ∷ 0x9c ∷ 0xff ∷ 0x00 ∷ 0xc8 ∷ 0x00 ∷ 0x00 ∷ 0x38 ∷ 0xff ∷ []

extensible_short : head true short_file ≡ Err (FormatShort 24)
unfolding head walk
extensible_short = refl

extensible_thirty_nine : head true (file_of (extensible_format 22 24 3 (take 15 pcm_bytes) ++ (0 ∷ []) ++ twelve)) ≡ Err (FormatShort 39)
unfolding head walk
extensible_thirty_nine = refl

-- a format of 40 bytes, of which 39 stand, and a subformat that isn't PCM's
cut_subformat : head false (file_of (codes "fmt " ++ to_le_bytes w32 40 ++ drop 8 (extensible_format 22 24 3 (replicate 15 3)))) ≡ Err (FormatShort 40)
unfolding head walk
cut_subformat = refl

-- with PCM's subformat the other fields are judged as ever
extensible_nine_channels : head true (file_of (codes "fmt " ++ to_le_bytes w32 40 ++ (254 ∷ 255 ∷ 9 ∷ 0 ∷ []) ++ drop 12 (extensible_format 22 24 3 pcm_bytes) ++ twelve)) ≡ Err (Channels 9)
unfolding head walk
extensible_nine_channels = refl

no_channels : head true (file_of (format 1 0 1 0 12 ++ eight)) ≡ Err (Channels 0)
unfolding head walk
no_channels = refl

nine_channels : head true (file_of (format 1 9 48000 18 16 ++ eight)) ≡ Err (Channels 9)
unfolding head walk
nine_channels = refl

twelve_bits : head true (file_of (format 1 1 1 2 12 ++ eight)) ≡ Err (Bits 12)
unfolding head walk
twelve_bits = refl

slow_rate : head true (file_of (format 1 1 7999 3 16 ++ eight)) ≡ Err (Rate 7999)
unfolding head walk
slow_rate = refl

fast_rate : head true (file_of (format 1 1 192001 2 16 ++ eight)) ≡ Err (Rate 192001)
unfolding head walk
fast_rate = refl

align_three : head true (file_of (format 1 1 48000 3 16 ++ eight)) ≡ Err (Align 3)
unfolding head walk
align_three = refl

-- 16 bytes told, and 10 left after the header of `data`
odd_list_chunk_cut : head true (take 66 (file_of (mono ++ odd_list ++ eight))) ≡ Err (Truncated 16 10)
unfolding head walk
odd_list_chunk_cut = refl
