use Rattle.std.proofs.Common.{◌≡◌}
use Rattle.session_model.proofs.StartLemmas.{Filled}
use Rattle.session_model.proofs.starts.fill.Given as goal

abbrev pub invariant-loop-place : goal.invariant-loop-place
invariant-loop-place l = (l.list.room ≡ l.initial.list.room) × Filled l.regions l.place l.list.items
