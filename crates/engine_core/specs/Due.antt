-- What is next of a run with its control between two cycles, and when no cycle is.
use Rattle.std.specs.Prelude.{◌≡◌, Bool, true, false, ◌&&◌, ◌||◌, length}
use Rattle.engine_model.specs.Edits.{has_quit}
use Rattle.machine_model.specs.Rest.{Phase}
use Rattle.control_desk.specs.declared.progress.Progress.{Progress}
use Rattle.control_desk.specs.Seen.{is_over_by}
use Rattle.control_desk.specs.Standing.{Standing, Ready, Awaits, Ended, is_ended}
use Rattle.engine_core.specs.declared.run.Run.{Run}
use Rattle.engine_core.specs.Now.{is_played_out}
use Rattle.engine_core.specs.declared.engine.Engine.{Engine}
use Rattle.engine_core.specs.Events.{Course}
use Rattle.engine_core.specs.Opening.{InRest, Journey}
use Rattle.engine_core.specs.Shows.{edits_of}

-- a line is due: control hasn't ended, and awaits nothing that isn't over
abbrev pub is_line_due : Progress → Standing → Bool
is_line_due seen Ready = true
is_line_due seen (Awaits awaited) = is_over_by seen awaited
is_line_due seen (Ended why) = false

-- no cycle is made any more: the newest edition has quit, or no further cycle can run
abbrev pub is_last_made : {V I W : Type 0} → Run V I W → Bool
is_last_made r = has_quit (edits_of r) (length (edits_of r)) || is_played_out r

module _ {V I C W O : Type 0} where
  abbrev pub is_finished : Engine V I C W O → Bool
  is_finished e = is_ended e.control.standing && is_last_made e.run

  -- **Nothing is left but the butler's last turns**: control has ended, and no cycle is made any more.
  pub record IsFinished (e : Engine V I C W O) : Type 0 where
    pub ended : is_ended e.control.standing ≡ true
    pub last_made : is_last_made e.run ≡ true

  -- since its letters were over a run has gone on by its rest, which is in this phase
  abbrev pub in_rest : Phase → Course V I C W O → Journey V I C W O
  in_rest phase on = record { opening = on.opening; way = InRest on.letters phase }
