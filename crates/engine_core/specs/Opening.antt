-- What a run on one thread began with, with its control.
use Rattle.std.specs.Prelude.{ℕ, List}
use Rattle.machine_model.specs.Letters.{Letter}
use Rattle.machine_model.specs.Rest.{Phase}
use Rattle.control_desk.specs.State.{ControlState}
use Rattle.run_end.specs.Started.{Started}

pub record Opening (V I C W O : Type 0) : Type 0 where
  -- what its workers began with
  pub started : Started V I W
  -- how many cycles were asked for
  pub cycles : ℕ
  -- control before its first line
  pub control : ControlState C O

-- how a run came where it is
pub data Way : Type 0 where
  -- by letters that were given
  Given : List Letter → Way
  -- and since then by its serial rest, which is in this phase
  InRest : List Letter → Phase → Way

-- a run that began so and came so far
pub record Journey (V I C W O : Type 0) : Type 0 where
  pub opening : Opening V I C W O
  pub way : Way
