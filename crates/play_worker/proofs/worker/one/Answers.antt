use Rattle.play_worker.proofs.PlaysLemmas as lemmas
use Rattle.play_worker.proofs.worker.one.Goals as goal

pub returns-then-entries-room-clause-leaves : goal.returns-then-entries-room-clause-leaves
returns-then-entries-room-clause-leaves g c = let plays = c.requires.1.1.1 in (
  lemmas.by_number g.I.Source.outside g.W.Sink.outside g.at c.args.patience c.args.w plays,
  lemmas.all_made c.args.w.process.journal c.journal.result.now c.journal-2.result.now c.entries.result.now c.room.result c.journal.ensures c.entries.ensures.entries c.journal-2.ensures c.room.ensures
      c.if-entries-room.true plays.playing.within,
)

pub in_edition-requires : goal.in_edition-requires
in_edition-requires g c κs within = let is = c.awaited.ensures in let new = c.in-Ok.ensures in (
  within.0,
  (
    within.1,
    (
      c.requires.1.1.0,
      (
        lemmas.plays_newest g.I.Source.outside g.W.Sink.outside g.at c.args.patience c.awaited.result c.in-Ok.w is.plays new.same (new.reader g.at.session is.plays.reader_of) new.grows,
        lemmas.may_cycle c.args.w c.awaited.result c.in-Ok.w is.same new.same
            (lemmas.has_room c.args.w.process.journal c.journal.result.now c.journal-2.result.now c.entries.result.now c.room.result c.journal.ensures c.entries.ensures.entries c.journal-2.ensures c.room.ensures
            c.if-entries-room.false) is.may new.new,
      ),
    ),
  ),
)

pub returns-in-Err-clause-leaves : goal.returns-in-Err-clause-leaves
returns-in-Err-clause-leaves g c = let is = c.awaited.ensures in let new = c.in-Err.ensures in
    lemmas.by_number g.I.Source.outside g.W.Sink.outside g.at c.args.patience _
    (lemmas.plays_newest g.I.Source.outside g.W.Sink.outside g.at c.args.patience c.awaited.result _ is.plays new.same (new.reader g.at.session is.plays.reader_of) new.grows)

pub returns-in-Err-clause-keeps : goal.returns-in-Err-clause-keeps
returns-in-Err-clause-keeps g c = lemmas.keeps_other c.args.w c.awaited.result _ c.awaited.ensures.same c.in-Err.ensures.same
