-- The letters that a run was given.
use Rattle.std.specs.Prelude.{List, ◌++◌, map}
use Rattle.machine_model.specs.Letters.{Letter}
use Rattle.run_letters.specs.declared.event.Event.{Event}
use Rattle.run_letters.specs.Events.{letter_of}
use Rattle.engine_core.specs.Opening.{Given, Journey, Opening}

-- a run that began so, and was given these letters
pub record Course (V I C W O : Type 0) : Type 0 where
  pub opening : Opening V I C W O
  pub letters : List Letter

module _ {V I C W O : Type 0} where
  abbrev pub given : Course V I C W O → Journey V I C W O
  given on = record { opening = on.opening; way = Given on.letters }

  -- it was given these events too
  abbrev pub and_given : List Event → Course V I C W O → Course V I C W O
  and_given events on = record on { letters = on.letters ++ map letter_of events }
