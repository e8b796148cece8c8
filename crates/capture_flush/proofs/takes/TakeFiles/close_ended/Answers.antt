use Rattle.std.proofs.Common.{◌≡◌, rules, [], ◌∷◌, ap, ap₂, sym, subst, ◌∙◌}
use Rattle.std.specs.Prelude.{if◌then◌else◌}
use Rattle.cycle_journal.specs.JournalView.{seen_take}
use Rattle.capture_flush.specs.Closing.{Ends, ended_by, track_runs}
use Rattle.capture_flush.proofs.EndsLemmas.{ends_as, ends_none, ends_one}
use Rattle.capture_flush.proofs.WalkLemmas.{ended_few, ended_head}
use Rattle.capture_flush.proofs.takes.TakeFiles.close_ended.Goals as goal

pub close-requires : goal.close-requires
close-requires g c κs within = (
  within,
  (
    c.requires.1.0,
    (
      c.requires.1.1.0,
      (
        ended_few c.args.before c.in-Some-Off.run' c.in-Some-Off.is-0 c.requires.1.1.1.0,
        λ t. ended_head c.args.self.now g.s c.args.track (g.M.Media.outside.files c.args.media.now) c.args.before (seen_take c.args.take) c.in-Some-Off.run' c.in-Some-Off.is-0 (ap seen_take c.in-Some-Off.is-1) (c.requires.1.1.1.1 t)
            (search rules),
      ),
    ),
  ),
)

-- it has failed: nothing is to be closed
pub returns-then-has_failed-clause-ends : goal.returns-then-has_failed-clause-ends
returns-then-has_failed-clause-ends g c = let r = c.in-Some-Off.run' in
    let none : [] ≡ track_runs c.args.self.now c.args.track (ended_by c.args.before (seen_take c.args.take))
    = sym (ap (λ b. if b then [] else (c.args.track, r) ∷ []) (sym c.has_failed.ensures.failed ∙ c.if-has_failed.true)) ∙ ap₂ (λ o k. track_runs c.args.self.now c.args.track (ended_by o (seen_take k))) (sym c.in-Some-Off.is-0) (sym c.in-Some-Off.is-1) in
    ends_as g.M.Media.outside g.s [] (track_runs c.args.self.now c.args.track (ended_by c.args.before (seen_take c.args.take))) c.args.media.now c.args.media.now _ none (ends_none g.M.Media.outside g.s c.args.media.now)

pub returns-else-has_failed-clause-ends : goal.returns-else-has_failed-clause-ends
returns-else-has_failed-clause-ends g c = let r = c.in-Some-Off.run' in
    let same : (c.args.track, r) ∷ [] ≡ track_runs c.args.self.now c.args.track (ended_by c.args.before (seen_take c.args.take))
    = sym (ap (λ b. if b then [] else (c.args.track, r) ∷ []) (sym c.has_failed.ensures.failed ∙ c.if-has_failed.false)) ∙ ap₂ (λ o k. track_runs c.args.self.now c.args.track (ended_by o (seen_take k))) (sym c.in-Some-Off.is-0) (sym c.in-Some-Off.is-1) in
    subst (λ b. Ends g.M.Media.outside g.s (track_runs c.args.self.now c.args.track (ended_by c.args.before (seen_take c.args.take))) c.args.media.now c.close.new.media b) (sym c.is_err.ensures.value)
    (ends_as g.M.Media.outside g.s ((c.args.track, r) ∷ []) (track_runs c.args.self.now c.args.track (ended_by c.args.before (seen_take c.args.take))) c.args.media.now c.close.new.media _ same
    (ends_one g.M.Media.outside g.s c.args.track r c.args.media.now c.close.new.media c.close.result c.close.ensures.all c.close.ensures.part c.close.ensures.cause c.close.ensures.reads))
