use Rattle.std.proofs.Common.{ℕ, ◌<◌, ◌≤◌, get_or}
use Rattle.audio_source.specs.declared.entry.Entry.{Entry}
use Rattle.audio_source.proofs.sources.widest.Given as goal

abbrev pub invariant-loop-entry : goal.invariant-loop-entry
invariant-loop-entry l = (k : ℕ) (d : Entry) → k < l.entry-index → (get_or l.entries k d).info.channels ≤ l.widest
