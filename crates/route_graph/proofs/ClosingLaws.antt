-- What a link more changes.
use Rattle.std.proofs.Common.{◌≡◌, ◌==◌, ℕ, zero, suc, ◌<◌, ◌⊎◌, inl, inr, Bool, true, false, ◌||◌, eqb, refl, ap, arith, ◌∙◌, sym, subst, List, [], ◌∷◌, length}
use Rattle.std.specs.List.{list_any}
use Rattle.std.proofs.lemmas.Bool.Decides.{nat_tests}
use Rattle.sound_model.specs.Routes.{Route, Reaches, by_link, then_on, NoCycle, leads_to, feeds, links}
use Rattle.route_graph.specs.Cycles.{Closes, with_send, with_link}
use Rattle.route_graph.specs.Laws.{ClosingIsACycle, OpenLinksMakeNoCycle}
use Rattle.route_graph.proofs.CycleLaws.{then_reaches}

false_is_true : {P : Type 0} → false ≡ true → P
false_is_true e = absurd (nothing e)
  where
    nothing : false ≡ true → ⊥
    nothing h = cc

-- ---- one route with a send more

or_more : (a b c : Bool) → (a || b) ≡ true → (a || (c || b)) ≡ true
or_more true b c e = refl
or_more false b true e = refl
or_more false b false e = e

or_new : (a b : Bool) → (a || (true || b)) ≡ true
or_new true b = refl
or_new false b = refl

or_split : (a b c : Bool) → (a || (c || b)) ≡ true → ((a || b) ≡ true) ⊎ (c ≡ true)
or_split true b c e = inl refl
or_split false b true e = inr refl
or_split false b false e = inl e

self_same : (k : ℕ) → eqb k k ≡ true
self_same k = grind (arith, nat_tests)

old_feeds : (q : Route) (to t : ℕ) → feeds q t ≡ true → feeds (with_send q to) t ≡ true
old_feeds q to t e = or_more (leads_to t q.target) (list_any (λ s. s.to == t) q.sends) (eqb to t) e

new_feeds : (q : Route) (to : ℕ) → feeds (with_send q to) to ≡ true
new_feeds q to = ap (λ b. leads_to to q.target || (b || list_any (λ s. s.to == to) q.sends)) (self_same to) ∙ or_new (leads_to to q.target) (list_any (λ s. s.to == to) q.sends)

feeds_by : (q : Route) (to t : ℕ) → feeds (with_send q to) t ≡ true → (feeds q t ≡ true) ⊎ (t ≡ to)
feeds_by q to t e = go (or_split (leads_to t q.target) (list_any (λ s. s.to == t) q.sends) (eqb to t) e)
  where
    go : (feeds q t ≡ true) ⊎ (eqb to t ≡ true) → (feeds q t ≡ true) ⊎ (t ≡ to)
    go (inl h) = inl h
    go (inr h) = let same : t ≡ to = grind (arith, nat_tests) in inr same

-- ---- the links

old_link : (routes : List Route) (from to f t : ℕ) → links routes f t ≡ true → links (with_link routes from to) f t ≡ true
old_link [] from to f t e = e
old_link (q ∷ qs) zero to zero t e = old_feeds q to t e
old_link (q ∷ qs) zero to (suc f) t e = e
old_link (q ∷ qs) (suc from) to zero t e = e
old_link (q ∷ qs) (suc from) to (suc f) t e = old_link qs from to f t e

new_link : (routes : List Route) (from to : ℕ) → from < length routes → links (with_link routes from to) from to ≡ true
new_link [] from to h = absurd (omega arith)
new_link (q ∷ qs) zero to h = new_feeds q to
new_link (q ∷ qs) (suc from) to h = new_link qs from to (omega arith)

-- a link is an old one, or the new one
abbrev IsNew : ℕ → ℕ → ℕ → ℕ → Type 0
IsNew from to f t = (f ≡ from) × (t ≡ to)

link_by : (routes : List Route) (from to f t : ℕ) → links (with_link routes from to) f t ≡ true → (links routes f t ≡ true) ⊎ IsNew from to f t
link_by [] from to f t e = inl e
link_by (q ∷ qs) zero to zero t e = first (feeds_by q to t e)
  where
    first : (feeds q t ≡ true) ⊎ (t ≡ to) → (feeds q t ≡ true) ⊎ IsNew 0 to 0 t
    first (inl h) = inl h
    first (inr h) = inr (refl, h)
link_by (q ∷ qs) zero to (suc f) t e = inl e
link_by (q ∷ qs) (suc from) to zero t e = inl e
link_by (q ∷ qs) (suc from) to (suc f) t e = later (link_by qs from to f t e)
  where
    later : (links qs f t ≡ true) ⊎ IsNew from to f t → (links qs f t ≡ true) ⊎ IsNew (suc from) to (suc f) t
    later (inl h) = inl h
    later (inr h) = inr (ap suc h.0, h.1)

-- ---- ways

old_way : (routes : List Route) (from to f t : ℕ) → Reaches routes f t → Reaches (with_link routes from to) f t
old_way routes from to f t (by_link l) = by_link (old_link routes from to f t l)
old_way routes from to f t (then_on {next = g} l rest) = then_on (old_link routes from to f g l) (old_way routes from to g t rest)

-- a way goes along old links alone, or up to the new one, and on from it
abbrev UpTo : List Route → ℕ → ℕ → Type 0
UpTo routes a b = (a ≡ b) ⊎ Reaches routes a b

abbrev Parts : List Route → ℕ → ℕ → ℕ → ℕ → Type 0
Parts routes from to f t = (Reaches routes f t) ⊎ (UpTo routes f from × UpTo routes to t)

link_parts : (routes : List Route) (from to f t : ℕ) → (links routes f t ≡ true) ⊎ IsNew from to f t → Parts routes from to f t
link_parts routes from to f t (inl l) = inl (by_link l)
link_parts routes from to f t (inr n) = inr (inl n.0, inl (sym n.1))

step_parts : (routes : List Route) (from to f g t : ℕ) → (links routes f g ≡ true) ⊎ IsNew from to f g → Parts routes from to g t → Parts routes from to f t
step_parts routes from to f g t (inl l) (inl w) = inl (then_on l w)
step_parts routes from to f g t (inl l) (inr (inl e, after)) = let K : ℕ → Type 0 = λ k. Reaches routes f k in inr (inr (subst K e (by_link l)), after)
step_parts routes from to f g t (inl l) (inr (inr w, after)) = inr (inr (then_on l w), after)
step_parts routes from to f g t (inr n) (inl w) = let K : ℕ → Type 0 = λ k. Reaches routes k t in inr (inl n.0, inr (subst K n.1 w))
step_parts routes from to f g t (inr n) (inr (before, after)) = inr (inl n.0, after)

parts : (routes : List Route) (from to f t : ℕ) → Reaches (with_link routes from to) f t → Parts routes from to f t
parts routes from to f t (by_link l) = link_parts routes from to f t (link_by routes from to f t l)
parts routes from to f t (then_on {next = g} l rest) = step_parts routes from to f g t (link_by routes from to f g l) (parts routes from to g t rest)

-- a way back to itself that isn't there without the link closes
back : (routes : List Route) (from to r : ℕ) → NoCycle routes → Parts routes from to r r → Closes routes from to
back routes from to r none (inl w) = absurd (none r w)
back routes from to r none (inr (inl a, inl b)) = inl (sym a ∙ sym b)
back routes from to r none (inr (inl a, inr w)) = let K : ℕ → Type 0 = λ k. Reaches routes to k in inr (subst K a w)
back routes from to r none (inr (inr w, inl b)) = let K : ℕ → Type 0 = λ k. Reaches routes k from in inr (subst K (sym b) w)
back routes from to r none (inr (inr v, inr w)) = inr (then_reaches routes to r from w v)

closed : (routes : List Route) (from to : ℕ) → from < length routes → Closes routes from to → Reaches (with_link routes from to) from from
closed routes from to h (inl e) = let K : ℕ → Type 0 = λ k. Reaches (with_link routes from to) from k in subst K (sym e) (by_link (new_link routes from to h))
closed routes from to h (inr w) = then_on (new_link routes from to h) (old_way routes from to to from w)

pub closing_is_a_cycle : ClosingIsACycle
closing_is_a_cycle routes from to h none = (closed routes from to h, λ w. back routes from to from none (parts routes from to from from w))

pub open_links_make_no_cycle : OpenLinksMakeNoCycle
open_links_make_no_cycle routes from to none open_link r w = open_link (back routes from to r none (parts routes from to r r w))
