-- The change of a number is looked up one place before it.
use Rattle.std.proofs.Common.{sym, ◌∙◌}
use Rattle.std.specs.Prelude.{◌-◌, Some, None}
use Rattle.std.proofs.lemmas.Option.{slice_get_past}
use Rattle.journal_judge.proofs.LoopLemmas.{looked_up, names_at}
use Rattle.journal_judge.proofs.plays.names_change.Goals as goal

pub returns-in-Some : goal.returns-in-Some
returns-in-Some c = c.is_of.ensures ∙ sym (names_at c.changes.result.now c.args.history.now.changes c.args.track c.args.number (Some c.in-Some.change.now) c.if-number-eq0.false c.changes.ensures (looked_up c.changes.result.now (c.args.number - 1) c.in-Some.change.now c.in-Some.ensures.lookup.3.0 c.in-Some.ensures.lookup.1))

pub returns-in-None : goal.returns-in-None
returns-in-None c = sym (names_at c.changes.result.now c.args.history.now.changes c.args.track c.args.number None c.if-number-eq0.false c.changes.ensures (slice_get_past c.changes.result.now (c.args.number - 1) c.in-None.ensures.lookup.3))
