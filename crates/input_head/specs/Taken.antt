-- What reading the head of an input takes of its bytes.
use Rattle.std.specs.Prelude.{◌≡◌, ℕ, ◌<◌, ◌≤◌, false, List, drop, Option, Some, None, Ok}
use Rattle.sound_model.specs.Wav.{Head, head}
use Rattle.wav_codec.specs.declared.info.WavInfo.{WavInfo}

-- the first bytes were taken, fewer than so many
abbrev pub LosesFewer : ℕ → List ℕ → List ℕ → Type 0
LosesFewer most before after = (n : ℕ) × (n < most) × (after ≡ drop n before)

-- what is left begins with the data of the input that was found; where there is none, all is left
abbrev pub StandsBehind : List ℕ → List ℕ → Option WavInfo → Type 0
StandsBehind before after None = after ≡ before
StandsBehind before after (Some info) = after ≡ drop info.data_at before

-- Some bytes were taken, and none of the data that the head tells.
pub record TakesNoData (before after : List ℕ) : Type 0 where
  pub taken : ℕ
  pub rest : after ≡ drop taken before
  pub outside_data : (h : Head) → head false before ≡ Ok h → taken ≤ h.data_at
