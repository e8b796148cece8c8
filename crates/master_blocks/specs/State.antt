-- What contracts see of the master of a run.
use Rattle.std.specs.Prelude.{◌≡◌}
use Rattle.sound_model.specs.Wav.{Form}
use Rattle.session_model.specs.declared.session.Session.{Session}
use Rattle.session_model.specs.Valid.{IsValid}
use Rattle.engine_model.specs.Played.{master_form}
use Rattle.route_mix.specs.Desks.{DeskState, IsDeskOf, silent_desk}

pub record MasterState (W : Type 0) : Type 0 where
  -- what takes the bytes
  pub sink : W
  -- the form of its file
  pub form : Form
  -- the blocks of the tracks that were put, and what they were mixed to
  pub desk : DeskState

-- It is the master of this session.
pub record IsMasterOf (s : Session) {W : Type 0} (m : MasterState W) : Type 0 where
  pub valid : IsValid s
  pub form : m.form ≡ master_form s
  pub desk : IsDeskOf s m.desk

-- one through which nothing went
abbrev pub new_master : {W : Type 0} → Session → W → MasterState W
new_master s sink = record { sink = sink; form = master_form s; desk = silent_desk s }
