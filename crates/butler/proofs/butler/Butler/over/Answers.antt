use Rattle.std.proofs.Common.{◌≡◌, ◌∙◌, subst}
use Rattle.std.specs.List.{list_all}
use Rattle.butler.specs.ButlerState.{ButlerState}
use Rattle.butler.proofs.SendOnLemmas.{ended_alike}
use Rattle.butler.proofs.butler.Butler.over.Goals as goal

pub returns : goal.returns
returns g c = let takes = c.self.inside.ends.takes.items in let fitted = c.self.invariant.0.takes in
    subst (λ (b : ButlerState g.row.M.Denot). c.ended.result ≡ list_all (λ r. r.ended) b.ends.takes.items) c.self.view_is
    (c.ended.ensures ∙ ended_alike c.self.inside.holds.drain.tracks takes fitted.many (λ t k r hk hr. (fitted.each t k r hk hr).ended))
