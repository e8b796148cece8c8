-- What the data of worked streams sound like, and their blocks.
use Rattle.std.proofs.Common.{◌≡◌, ℕ, pos, List, [], ◌∷◌, refl}
use Rattle.std.specs.Prelude.{negsuc, None}
use Rattle.sound_model.specs.Wav.{sound}
use Rattle.session_model.specs.Frames.{interleaved}
use Rattle.input_blocks.specs.Rest.{StreamForm, stream_told, rest_sound}
use Rattle.input_blocks.specs.State.{InputState, next_block}

abbrev stereo : ℕ → StreamForm
stereo frames = record { form = record { channels = 2; rate = 48000; bits = 16 }; frames = frames }

-- two frames of two channels, and three bytes of a third
abbrev bytes : List ℕ
bytes = 1 ∷ 0 ∷ 2 ∷ 0 ∷ 255 ∷ 255 ∷ 0 ∷ 128 ∷ 3 ∷ 0 ∷ 4 ∷ []

-- the frame that isn't whole is silent, and so are those behind it
whole_frames : interleaved (rest_sound (stereo 5) bytes) 2 0 8 ≡ pos 256 ∷ pos 512 ∷ negsuc 255 ∷ negsuc 8388607 ∷ pos 0 ∷ pos 0 ∷ pos 0 ∷ pos 0 ∷ []
unfolding sound
whole_frames = refl

-- bytes behind the frames that were told aren't heard
told_frames : interleaved (rest_sound (stereo 1) bytes) 2 0 4 ≡ pos 256 ∷ pos 512 ∷ pos 0 ∷ pos 0 ∷ []
unfolding sound
told_frames = refl

no_third_channel : rest_sound (stereo 5) bytes 0 2 ≡ pos 0
unfolding sound
no_third_channel = refl

-- the sound of a file is that of what follows its head
behind_a_head : sound (record { form = (stereo 2).form; data_at = 3; frames = 2 }) (9 ∷ 9 ∷ 9 ∷ bytes) 1 0 ≡ rest_sound (stereo 2) bytes 1 0
unfolding sound
behind_a_head = refl

-- an input of which so many frames were read
abbrev read_so_far : StreamForm → ℕ → InputState (List ℕ)
read_so_far stream done = record { input = []; stream = stream; block = 1; done = done; samples = [] }

-- the second block of one frame
second_block : next_block (record { start = bytes; blocks = 1 }) (read_so_far (stereo 5) 1) ≡ negsuc 255 ∷ negsuc 8388607 ∷ []
unfolding sound
second_block = refl

-- no input is silence of one channel
no_input : next_block (record { start = bytes; blocks = 1 }) (read_so_far (stream_told None) 0) ≡ pos 0 ∷ []
unfolding sound
no_input = refl
