-- The file `g.wav` of a session that is made from a number (own).
use Rattle.std.specs.Prelude.{◌≡◌, ℕ, ◌*◌, ◌%◌, ℤ, pos, ◌&&◌, ◌==◌, nat_lt, if◌then◌else◌, List}
use Rattle.sound_model.specs.Wav.{Form, canon, file_sound}
use Rattle.made_session.specs.Each.{each_below}

-- mono, 48,000 frames a second, 16 bits
abbrev pub tone_form : Form
tone_form = record { channels = 1; rate = 48000; bits = 16 }

-- frame i is the 16-bit sample i mod 128, here at 24-bit scale
abbrev pub tone_sample : ℕ → ℤ
tone_sample i = pos (256 * (i % 128))

-- 4,096 frames
abbrev pub tone_samples : List ℤ
tone_samples = each_below tone_sample 4096

unfoldable pub tone : List ℕ
tone = canon tone_form tone_samples

-- what is heard of it: past its frames, and on other channels, silence
abbrev pub ToneSounds : Type 0
ToneSounds = (i c : ℕ) → file_sound tone i c ≡ (if nat_lt i 4096 && c == 0 then tone_sample i else pos 0)
