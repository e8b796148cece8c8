-- One more track is noted.
use Rattle.std.proofs.Common.{◌<◌, arith}
use Rattle.cycle_journal.specs.declared.note.Play.TheVariants.{Silent}
use Rattle.cycle_journal.specs.declared.note.Take.TheVariants.{Off}
use Rattle.journal_judge.proofs.LoopLemmas.{one_noted_at}
use Rattle.journal_judge.proofs.notes.note_tracks.Goals as goal

pub loop-t-preserved : goal.loop-t-preserved
loop-t-preserved c = let l = c.loop-t in let small : l.t < 32 = omega (arith, c.loop-t-test.true, c.requires.few) in
    let n = one_noted_at c.args.notes.now c.args.tracks.now l.tracks l.t (record { play = Silent; take = Off }) (record { heard = 0; takes = record { greatest = 0; take = 0; index = 0 } }) c.after.result
    (record { long = l.invariant.long; noted = l.invariant.noted; others = l.invariant.others }) c.loop-t-test.true small c.after.ensures in
    record { long = n.long; noted = n.noted; others = n.others }
