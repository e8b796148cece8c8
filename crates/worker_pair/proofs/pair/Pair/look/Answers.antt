use Rattle.std.proofs.Common.{◌≡◌, sym, subst}
use Rattle.process_cycle.specs.Playing.{IsPlaying}
use Rattle.process_cycle.specs.Promised.{IsMastered}
use Rattle.worker_pair.specs.Begun.{looked, playing_at}
use Rattle.worker_pair.specs.Plays.{Looks}
use Rattle.worker_pair.specs.Runs.{Runs}
use Rattle.worker_pair.specs.Steps.{LooksAsMachine}
use Rattle.worker_pair.proofs.LeftLemmas as left
use Rattle.worker_pair.proofs.pair.Pair.look.Goals as goal

pub look-requires : goal.look-requires
look-requires g c κs within = let runs = c.requires.1.1.1.0 in
    (within.0, (within.1, record { playing = runs.playing; edition = runs.entered.edition_of; more = left.played_first g.at c.args.self.now runs.entered }))

pub meet-requires : goal.meet-requires
meet-requires g c κs within = let look = c.look.ensures in (
  within.0,
  (
    within.1.0,
    (
      within.1.1,
      left.may_meet_looked g.M.Media.outside g.I.Source.outside g.W.Sink.outside g.at c.args.self.now c.requires.1.1.1.0
          c.look.new.self look.keeps look.looks look.playing,
    ),
  ),
)

pub returns-clause-runs : goal.returns-clause-runs
returns-clause-runs g c = let M = g.M.Media.outside in let I = g.I.Source.outside in let W = g.W.Sink.outside in let self = c.args.self.now in let runs = c.requires.1.1.1.0 in let look = c.look.ensures in
    let q = c.look.new.self in let r = c.meet.new.self in let ours = r.process.ends in let theirs = r.butler.ends in let meets = c.meet.ensures.meets in let place = playing_at (looked self.playing.edits g.at) in
    let whole : r ≡ left.after_look M I W g.at self runs q look.keeps look.looks look.playing ours theirs meets.ends =
    left.whole M I W g.at self runs q look.keeps look.looks look.playing ours theirs meets.ends r c.meet.ensures.same meets.butler meets.process_is in
    subst (Runs M I W (looked self.playing.edits g.at)) (sym whole) (left.runs_looked M I W g.at self runs q look.keeps look.looks look.playing ours theirs meets.ends
    (subst (IsPlaying I place) meets.process_is (c.meet.ensures.playing look.playing))
    (λ head. subst (IsMastered W place) meets.process_is (c.meet.ensures.master (look.master (runs.mastered head)))))

pub returns-clause-looked : goal.returns-clause-looked
returns-clause-looked g c = c.meet.ensures.looked c.look.ensures.looked

pub returns-clause-looks : goal.returns-clause-looks
returns-clause-looks g c = let M = g.M.Media.outside in let I = g.I.Source.outside in let W = g.W.Sink.outside in let self = c.args.self.now in let runs = c.requires.1.1.1.0 in let look = c.look.ensures in
    let q = c.look.new.self in let r = c.meet.new.self in let ours = r.process.ends in let theirs = r.butler.ends in let meets = c.meet.ensures.meets in
    let whole : r ≡ left.after_look M I W g.at self runs q look.keeps look.looks look.playing ours theirs meets.ends =
    left.whole M I W g.at self runs q look.keeps look.looks look.playing ours theirs meets.ends r c.meet.ensures.same meets.butler meets.process_is in
    subst (Looks self) (sym whole) (left.looks_so M I W g.at self runs q look.keeps look.looks look.playing ours theirs meets.ends)

pub returns-clause-as_machine : goal.returns-clause-as_machine
returns-clause-as_machine g c = let M = g.M.Media.outside in let I = g.I.Source.outside in let W = g.W.Sink.outside in let self = c.args.self.now in let runs = c.requires.1.1.1.0 in let look = c.look.ensures in
    let q = c.look.new.self in let r = c.meet.new.self in let ours = r.process.ends in let theirs = r.butler.ends in let meets = c.meet.ensures.meets in
    let whole : r ≡ left.after_look M I W g.at self runs q look.keeps look.looks look.playing ours theirs meets.ends =
    left.whole M I W g.at self runs q look.keeps look.looks look.playing ours theirs meets.ends r c.meet.ensures.same meets.butler meets.process_is in
    subst (LooksAsMachine g.at.begun.session self) (sym whole) (λ core tied. left.looks_as_machine M I W g.at self runs q look.keeps look.looks look.playing ours theirs meets.ends core tied c.requires.1.1.1.1)
