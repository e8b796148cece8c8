-- The channels that an input has to have, by the tracks that take them.
use Rattle.std.specs.Prelude.{◌≡◌, ℕ, ◌+◌, ◌≤◌, ◌⊎◌, slice_get, Some}
use Rattle.session_model.specs.declared.session.Session.{Session}
use Rattle.session_model.specs.declared.track.Track.{Track}
use Rattle.session_model.specs.Formed.{channels_at}
use Rattle.input_head.specs.Input.{wanted_channels}

-- the session has this track, which takes the input's channels from one on
pub record Takes (s : Session) (first : ℕ) (k : Track) : Type 0 where
  pub place : ℕ
  pub there : slice_get s.tracks.items place ≡ Some k
  pub input : k.input ≡ Some first

-- the last channel of no track lies behind them, and one of them is the last that a track takes, or no track takes any
pub record WantsTheGreatest (s : Session) : Type 0 where
  pub enough : (first : ℕ) (k : Track) → Takes s first k → first + channels_at s k.route ≤ wanted_channels s
  pub least : (wanted_channels s ≡ 0) ⊎ ((first : ℕ) × (k : Track) × Takes s first k × (wanted_channels s ≡ first + channels_at s k.route))

abbrev pub WantedIsTheGreatest : Type 0
WantedIsTheGreatest = (s : Session) → WantsTheGreatest s
