use Rattle.std.proofs.Common.{ap, ◌∙◌, sym, subst, refl}
use Rattle.route_lists.specs.Lists.{Follows, IsAt, IsReaderOf}
use Rattle.route_lists.proofs.RuleLemmas.{turns, unmoved}
use Rattle.route_lists.proofs.ReadLemmas.{follows_on, kept_on, stands_still, takes_over}
use Rattle.route_lists.proofs.reading.ListReader.enter.Goals as goal

pub enter_as-requires : goal.enter_as-requires
enter_as-requires c = λ x. turns _ _ x x (unmoved x.edits.items x.ended)

pub catch_up-caught_up-requires : goal.catch_up-caught_up-requires
catch_up-caught_up-requires c = subst (λ s. Follows s.edits.items s.ended c.self.inside.spare) (sym c.get.ensures) (follows_on _ _ _ _ c.in-Ok.ensures.1 c.self.inside.spare c.self.invariant.behind)

-- ---- it stands, or wasn't caught up

pub invariant_of-same-else-stands-2 : goal.invariant_of-same-else-stands-2
invariant_of-same-else-stands-2 c =
    let spare = c.catch_up-caught_up.new.edition in let sees = c.in-Ok.ensures.1 in
    kept_on _ _ _ _ sees _ c.self.inside.edition spare c.leave-reader.ensures.1
    (follows_on _ _ _ _ sees c.self.inside.edition c.self.invariant.seen)
    (subst (λ s. Follows s.edits.items s.ended spare) c.get.ensures c.catch_up-caught_up.ensures.follows)

pub returns-then-stands-2-clause-seen : goal.returns-then-stands-2-clause-seen
returns-then-stands-2-clause-seen c = let is = c.self.view_is in
    stands_still _ _ _ _ c.in-Ok.ensures.1 c.args.self _ c.self.inside.edition c.self.invariant.seen (ap (λ z. z.edition) is) (ap (λ z. z.told) is) (ap (λ z. z.told_end) is) (sym c.ended-stands.ensures ∙ c.if-stands-2.true) refl

pub returns-then-stands-2-clause-stays : goal.returns-then-stands-2-clause-stays
returns-then-stands-2-clause-stays c = λ s of. let both = subst (IsReaderOf s) (sym c.self.view_is) of in (both.0, c.catch_up-caught_up.ensures.stays s both.1)

pub returns-else-stands-2-clause-stays : goal.returns-else-stands-2-clause-stays
returns-else-stands-2-clause-stays c = λ s of. let both = subst (IsReaderOf s) (sym c.self.view_is) of in (both.0, c.catch_up-caught_up.ensures.stays s both.1)

-- ---- the editions change places

pub invariant_of-result-2 : goal.invariant_of-result-2
invariant_of-result-2 c =
    let spare = c.catch_up-caught_up.new.edition in let sees = c.in-Ok.ensures.1 in
    kept_on _ _ _ _ sees _ spare c.self.inside.edition c.leave-reader.ensures.1
    (subst (λ s. Follows s.edits.items s.ended spare) c.get.ensures c.catch_up-caught_up.ensures.follows)
    (follows_on _ _ _ _ sees c.self.inside.edition c.self.invariant.seen)

pub returns-clause-seen : goal.returns-clause-seen
returns-clause-seen c = let is = c.self.view_is in let spare = c.catch_up-caught_up.new.edition in
    takes_over _ _ _ _ c.in-Ok.ensures.1 c.args.self _ c.self.inside.edition c.self.invariant.seen (ap (λ z. z.edition) is) (ap (λ z. z.told) is) (ap (λ z. z.told_end) is) (sym c.ended-stands.ensures ∙ c.if-stands.false)
    (subst (λ s. IsAt s.edits.items s.ended spare) c.get.ensures (c.catch_up-caught_up.ensures.all c.if-not-caught_up.false))

pub returns-clause-stays : goal.returns-clause-stays
returns-clause-stays c = λ s of. let both = subst (IsReaderOf s) (sym c.self.view_is) of in (c.catch_up-caught_up.ensures.stays s both.1, both.0)
