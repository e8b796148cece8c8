use Rattle.std.proofs.Common.{◌∙◌, ◌+◌, ◌≤◌, ◌++◌, List, suc, drop, rules, sym, ap, subst, arith}
use Rattle.std.specs.Prelude.{All}
use Rattle.std.specs.Option.{option_map_or}
use Rattle.cycle_journal.specs.JournalView.{seen_take, seen_entries}
use Rattle.engine_model.specs.Journal as engine
use Rattle.capture_flush.specs.declared.run.Run.{Run}
use Rattle.capture_flush.specs.Closing.{Ends, HasHeadUnless, ended_by, runs_from, runs_of, track_runs}
use Rattle.capture_flush.specs.Taking.{IsTakingOf, Taking}
use Rattle.capture_flush.proofs.EndsLemmas.{Walked, heads_stay, walked_all, walked_more, walked_none}
use Rattle.capture_flush.proofs.WalkLemmas.{runs_last, runs_more, heads_of_first, heads_of_more, one_longer}
use Rattle.capture_flush.proofs.takes.TakeFiles.close_track.Goals as goal

pub loop-i-init : goal.loop-i-init
loop-i-init g c = record {
  within = omega arith;
  few = omega arith;
  walked = walked_none g.M.Media.outside g.s c.args.self.now c.args.track (runs_of c.args.track (seen_entries c.args.entries.now)) c.args.media.now;
  heads = c.requires.1.1.1.1.1;
  same = search rules;
}

pub close_ended-fails-requires : goal.close_ended-fails-requires
close_ended-fails-requires g c κs within =
    let parts = runs_more c.loop-i.run c.args.track c.loop-i.i c.args.entries.now c.index-entries-i.result (seen_take c.take_of-take.result) c.loop-i-test.true c.index-entries-i.is c.take_of-take.ensures in (
      within,
      (
        subst (IsTakingOf g.s) (sym c.loop-i.invariant.same) c.requires.1.0,
        (
          c.requires.1.1.0,
          (
            omega (arith, c.loop-i.invariant.few, c.loop-i-test.true, c.requires.1.1.1.0),
            λ t. subst (λ (f : Taking). All (HasHeadUnless f g.s c.args.track (g.M.Media.outside.files c.loop-i.media)) (ended_by c.loop-i.run (seen_take c.take_of-take.result))) (sym c.loop-i.invariant.same)
                (heads_of_first c.args.self.now g.s c.args.track _ _ _ (g.M.Media.outside.files c.loop-i.media) parts (c.loop-i.invariant.heads t)),
          ),
        ),
      ),
    )

pub loop-i-preserved : goal.loop-i-preserved
loop-i-preserved g c =
    let k = seen_take c.take_of-take.result in
    let whole : List Run = runs_of c.args.track (seen_entries c.args.entries.now) in
    let first : List Run = ended_by c.loop-i.run k in
    let more : List Run = runs_from c.open_after-run.result c.args.track (seen_entries (drop (c.loop-i.i + 1) c.args.entries.now)) in
    let rest : List Run = runs_from c.loop-i.run c.args.track (seen_entries (drop c.loop-i.i c.args.entries.now)) in
    let parts = runs_more c.loop-i.run c.args.track c.loop-i.i c.args.entries.now c.index-entries-i.result k c.loop-i-test.true c.index-entries-i.is c.take_of-take.ensures
    ∙ ap (λ o. ended_by c.loop-i.run k ++ runs_from o c.args.track (seen_entries (drop (c.loop-i.i + 1) c.args.entries.now))) (sym c.open_after-run.ensures) in
    let ends = subst (λ (f : Taking). Ends g.M.Media.outside g.s (track_runs f c.args.track first) c.loop-i.media c.close_ended-fails.new.media c.close_ended-fails.result) c.loop-i.invariant.same c.close_ended-fails.ensures.ends in
    record {
      within = search rules;
      few = let long : option_map_or (λ r. r.blocks) c.open_after-run.result 0 ≤ suc (option_map_or (λ r. r.blocks) c.loop-i.run 0)
          = subst (λ o. option_map_or (λ (r : Run). r.blocks) o 0 ≤ suc (option_map_or (λ (r : Run). r.blocks) c.loop-i.run 0)) (sym c.open_after-run.ensures) (one_longer c.loop-i.run k) in
          omega (arith, long, c.loop-i.invariant.few);
      walked = subst (λ b. Walked g.M.Media.outside g.s c.args.self.now c.args.track whole more c.args.media.now c.close_ended-fails.new.media b) (sym c.either-failed.ensures)
          (walked_more g.M.Media.outside g.s c.args.self.now c.args.track whole rest first more c.args.media.now c.loop-i.media c.close_ended-fails.new.media c.loop-i.failed c.close_ended-fails.result parts c.loop-i.invariant.walked ends);
      heads = λ t. heads_stay c.args.self.now g.s (track_runs c.args.self.now c.args.track first) ends.cut c.args.track more (g.M.Media.outside.files c.loop-i.media) (g.M.Media.outside.files c.close_ended-fails.new.media) (ends.files t)
          (heads_of_more c.args.self.now g.s c.args.track rest first more (g.M.Media.outside.files c.loop-i.media) parts (c.loop-i.invariant.heads t));
      same = c.close_ended-fails.ensures.same ∙ c.loop-i.invariant.same;
    }

pub close_ended-last-requires : goal.close_ended-last-requires
close_ended-last-requires g c κs within =
    let all = runs_last c.loop-i.run c.args.track c.loop-i.i c.args.entries.now (omega (arith, c.loop-i-test.false)) in
    let P : List Run → Type 0 = λ rs. All (HasHeadUnless c.loop-i.self g.s c.args.track (g.M.Media.outside.files c.loop-i.media)) rs in
    let A : Taking → Type 0 = λ f. All (HasHeadUnless f g.s c.args.track (g.M.Media.outside.files c.loop-i.media)) (runs_from c.loop-i.run c.args.track (seen_entries (drop c.loop-i.i c.args.entries.now))) in (
      within,
      (
        subst (IsTakingOf g.s) (sym c.loop-i.invariant.same) c.requires.1.0,
        (
          c.requires.1.1.0,
          (
            omega (arith, c.loop-i.invariant.few, c.loop-i.invariant.within, c.requires.1.1.1.0),
            λ t. subst P all (subst A (sym c.loop-i.invariant.same) (c.loop-i.invariant.heads t)),
          ),
        ),
      ),
    )

pub returns-clause-ends : goal.returns-clause-ends
returns-clause-ends g c =
    let whole : List Run = runs_of c.args.track (seen_entries c.args.entries.now) in
    let all = runs_last c.loop-i.run c.args.track c.loop-i.i c.args.entries.now (omega (arith, c.loop-i-test.false)) in
    subst (λ b. Ends g.M.Media.outside g.s (track_runs c.args.self.now c.args.track whole) c.args.media.now c.close_ended-last.new.media b) (sym c.either.ensures)
    (walked_all g.M.Media.outside g.s c.args.self.now c.args.track whole _ _ c.args.media.now c.loop-i.media c.close_ended-last.new.media c.loop-i.failed c.close_ended-last.result all c.loop-i.invariant.walked
    (subst (λ (f : Taking). Ends g.M.Media.outside g.s (track_runs f c.args.track (ended_by c.loop-i.run engine.Off)) c.loop-i.media c.close_ended-last.new.media c.close_ended-last.result) c.loop-i.invariant.same c.close_ended-last.ensures.ends))
