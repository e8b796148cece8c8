use Rattle.std.proofs.Common.{sym, ap, ◌∙◌, arith, length, ◌-◌}
use Rattle.std.specs.Prelude.{max}
use Rattle.cycle_journal.specs.JournalView.{seen_take}
use Rattle.take_tests.proofs.CountedLemmas.{go_on_step}
use Rattle.take_tests.proofs.counted.+go_on.Goals as goal

pub returns-then-goes_on : goal.returns-then-goes_on
returns-then-goes_on n c = λ goes. go_on_step c.args.track (seen_take c.args.last) c.args.most c.max.result (length c.args.entries.now - 1) c.args.entries.now c.e-item.result
    c.as_slice.result.now _ c.in-len1-up.len_at_least c.e-item.is (omega arith) c.requires c.as_slice.ensures.value
    (c.max.ensures ∙ ap (λ k. max k c.args.most) c.number.ensures) (sym c.if-goes_on.ensures) (c.go_on.ensures goes)
