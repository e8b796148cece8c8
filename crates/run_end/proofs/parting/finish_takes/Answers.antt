use Rattle.std.proofs.Common.{ap, sym, ◌∙◌}
use Rattle.std.specs.Prelude.{◌||◌}
use Rattle.cycle_journal.specs.JournalView.{seen_entries}
use Rattle.run_end.proofs.PartLemmas.{finished_takes}
use Rattle.run_end.proofs.parting.finish_takes.Goals as goal

pub returns-then-failed : goal.returns-then-failed
returns-then-failed g c = finished_takes g.M.Media.outside g.run (seen_entries c.args.journal.now.items) c.args.files c.args.failed _ c.args.media.now c.finish.new.media c.finish.result c.requires.1.1.1.1
    c.finish.ensures.takes c.finish.ensures.in_part c.finish.ensures.cause c.finish.ensures.goes_on c.finish.ensures.reads (sym (ap (λ b. b || c.is_err-fails.result) c.if-failed.true) ∙ ap (λ b. c.args.failed || b) c.is_err-fails.ensures.value)

pub returns : goal.returns
returns g c = finished_takes g.M.Media.outside g.run (seen_entries c.args.journal.now.items) c.args.files c.args.failed _ c.args.media.now c.finish.new.media c.finish.result c.requires.1.1.1.1
    c.finish.ensures.takes c.finish.ensures.in_part c.finish.ensures.cause c.finish.ensures.goes_on c.finish.ensures.reads (sym (ap (λ b. b || c.is_err-fails.result) c.if-failed.false) ∙ ap (λ b. c.args.failed || b) c.is_err-fails.ensures.value)
