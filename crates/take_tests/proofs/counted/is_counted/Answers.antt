use Rattle.std.proofs.Common.{arith, subst}
use Rattle.cycle_journal.specs.JournalView.{seen_entries}
use Rattle.capture_flush.specs.Finished.{IsCounted}
use Rattle.take_tests.proofs.CountedLemmas.{are_all_counted, counted_more}
use Rattle.take_tests.proofs.counted.is_counted.Goals as goal

pub loop-track-preserved : goal.loop-track-preserved
loop-track-preserved c = counted_more c.loop-track.track (seen_entries c.entries-entries.result.now) c.loop-track.invariant (c.go_on.ensures c.if-not-go_on.false)

pub returns : goal.returns
returns c = λ _ s many. subst (λ l. IsCounted s (seen_entries l)) c.entries-entries.ensures.entries
    (are_all_counted c.args.tracks c.entries-entries.result.now (c.have_notes.ensures c.if-not-have_notes.false)
    (λ t lt. c.loop-track.invariant t (omega (arith, c.loop-track-test.false))) s many)
