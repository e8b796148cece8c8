-- What one route adds to what was found.
use Rattle.std.proofs.Common.{◌≡◌, ◌==◌, ℕ, Bool, true, false, ◌||◌, eqb, refl, ap, ◌∙◌, sym, List, length, take, ◌≤◌, Some, None}
use Rattle.std.specs.Cmp.{nat_eq_equiv}
use Rattle.std.specs.List.{list_any}
use Rattle.std.proofs.lemmas.List.{take_all}
use Rattle.session_model.specs.declared.route.SendLink.{SendLink}
use Rattle.sound_model.specs.Routes.{leads_to, feeds}
use Rattle.session_model.specs.declared.route.Route.{Route}
use Rattle.route_graph.specs.Places.{stands, with_place}
use Rattle.route_graph.specs.Walks.{plain}
use Rattle.route_graph.proofs.PlaceLaws.{stands_with_place}
use Rattle.route_graph.proofs.GraphLaws.{any-send}

or_assoc : (a b c : Bool) → ((a || b) || c) ≡ (a || (b || c))
or_assoc true b c = refl
or_assoc false b c = refl

-- a route with an output
pub spread_some : (q : Route) (old : List ℕ) (to t : ℕ) → q.target ≡ Some to →
    (stands (with_place old to) t || list_any (λ x. x.to == t) q.sends.items) ≡ (stands old t || feeds (plain q) t)
spread_some q old to t e =
    ap (λ b. b || list_any (λ x. x.to == t) q.sends.items) (stands_with_place old to t)
    ∙ or_assoc (stands old t) (eqb t to) (list_any (λ x. x.to == t) q.sends.items)
    ∙ ap (λ b. stands old t || (b || list_any (λ x. x.to == t) q.sends.items)) (nat_eq_equiv.symm t to)
    ∙ ap (λ b. stands old t || (eqb to t || b)) (sym (any-send t q.sends.items))
    ∙ ap (λ o. stands old t || (leads_to t o || feeding)) (sym e)
  where
    feeding : Bool
    feeding = list_any (λ x. x.to == t) (plain q).sends

-- a route without
pub spread_none : (q : Route) (old : List ℕ) (t : ℕ) → q.target ≡ None →
    (stands old t || list_any (λ x. x.to == t) q.sends.items) ≡ (stands old t || feeds (plain q) t)
spread_none q old t e =
    ap (λ b. stands old t || b) (sym (any-send t q.sends.items))
    ∙ ap (λ o. stands old t || (leads_to t o || feeding)) (sym e)
  where
    feeding : Bool
    feeding = list_any (λ x. x.to == t) (plain q).sends

-- at the end of the sends
pub found_some : (q : Route) (old mid found : List ℕ) (sends : List SendLink) (i to t : ℕ) →
    stands found t ≡ (stands mid t || list_any (λ x. x.to == t) (take i sends)) → length sends ≤ i → sends ≡ q.sends.items → q.target ≡ Some to →
    mid ≡ with_place old to → stands found t ≡ (stands old t || feeds (plain q) t)
found_some q old mid found sends i to t e all items target noted =
    e ∙ ap (λ ls. stands mid t || list_any (λ x. x.to == t) ls) (take_all i sends all ∙ items)
    ∙ ap (λ xs. stands xs t || list_any (λ x. x.to == t) q.sends.items) noted ∙ spread_some q old to t target

pub found_none : (q : Route) (old mid found : List ℕ) (sends : List SendLink) (i t : ℕ) →
    stands found t ≡ (stands mid t || list_any (λ x. x.to == t) (take i sends)) → length sends ≤ i → sends ≡ q.sends.items → q.target ≡ None →
    mid ≡ old → stands found t ≡ (stands old t || feeds (plain q) t)
found_none q old mid found sends i t e all items target same =
    e ∙ ap (λ ls. stands mid t || list_any (λ x. x.to == t) ls) (take_all i sends all ∙ items)
    ∙ ap (λ xs. stands xs t || list_any (λ x. x.to == t) q.sends.items) same ∙ spread_none q old t target
