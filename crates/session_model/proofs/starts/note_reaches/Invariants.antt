use Rattle.std.proofs.Common.{◌≡◌, take, map}
use Rattle.session_model.specs.Starts.{bare}
use Rattle.session_model.proofs.StartLemmas.{Reaching}
use Rattle.session_model.proofs.starts.note_reaches.Given as goal

abbrev pub invariant-loop-s : goal.invariant-loop-s
invariant-loop-s l = (map bare l.index ≡ map bare l.initial.index) × Reaching l.reach (take l.s-index l.index)
