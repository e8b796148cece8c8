-- Routes with feeders first are an order exactly where no route leads back to itself.
use Rattle.std.proofs.Common.{◌≡◌, ℕ, zero, suc, ◌+◌, ◌≤◌, ◌<◌, ◌⊎◌, inl, inr, Bool, true, false, ◌&&◌, ◌||◌, eqb, refl, ap, arith, ◌∙◌, sym, subst, List, [], ◌∷◌, ◌++◌, length, take, get_or, Option, Some, None}
use Rattle.std.specs.Prelude.{slice_get, Contains, Result, Ok, Err, IfOk, IfErr}
use Rattle.std.specs.List.{list_any, range_with_len}
use Rattle.std.proofs.lemmas.Bool.{cases_lt}
use Rattle.std.proofs.lemmas.Bool.Decides.{nat_tests}
use Rattle.std.proofs.lemmas.List.Folds.{list_any_at}
use Rattle.std.proofs.lemmas.List.FromFn.{length-range_with_len, get_or-range_with_len}
use Rattle.std.proofs.lemmas.Map.Steps.{le-length_from_below}
use Rattle.std.proofs.lemmas.Map.Views.{Contains-from_any}
use Rattle.std.proofs.lemmas.Option.{slice_get-get_or}
use Rattle.sound_laws.proofs.Cases.{by_test}
use Rattle.sound_laws.proofs.CycleLaws.{cycles_are_found}
use Rattle.sound_model.specs.Routes.{Route, Reaches, by_link, then_on, NoCycle, links, has_chain, has_cycle}
use Rattle.session_model.specs.Lists.{AreApart}
use Rattle.route_graph.specs.Places.{stands, AreOnce}
use Rattle.route_graph.specs.Walks.{IsPeeled}
use Rattle.route_graph.specs.declared.refusal.OrderRefusal.{OrderRefusal}
use Rattle.route_graph.specs.declared.refusal.OrderRefusal.TheVariants.{Cycle, NoMemory}
use Rattle.route_graph.specs.Order.{IsOrder, FeedersFirst, NamesCycle}
use Rattle.route_graph.proofs.CycleLaws.{links-below, in_range}
use Rattle.route_graph.proofs.PlaceLaws.{false_is_true, room, stands-push}
use Rattle.route_graph.proofs.WalkLaws.{stands_at, fresh_at, stands_take, take_get, no_more}

-- ---- where there is no cycle, all are placed

in_list : (p : ℕ → Bool) (n f : ℕ) → f < n → p f ≡ true → list_any p (range_with_len 0 n) ≡ true
in_list p n f h e =
    let it = get_or-range_with_len 0 n f 0 h in let same : get_or (range_with_len 0 n) f 0 ≡ f = it ∙ omega arith in
    list_any_at p (range_with_len 0 n) f 0 (omega (arith, length-range_with_len 0 n)) (ap p same ∙ e)

chain : (routes : List Route) (places : List ℕ) → IsPeeled routes places → (long t : ℕ) → t < length routes → stands places t ≡ false → has_chain routes long t ≡ true
chain routes places peeled zero t h e = refl
chain routes places peeled (suc long) t h e =
    let w = peeled.stuck t h e in let here : w.0 < length routes = links-below routes w.0 t w.2 in
    in_list (λ f. links routes f t && has_chain routes long f) (length routes) w.0 here (rw (w.2, chain routes places peeled long w.0 here w.1) refl)

placed : (routes : List Route) (places : List ℕ) → IsPeeled routes places → NoCycle routes → (t : ℕ) → t < length routes → stands places t ≡ true
placed routes places peeled none t h = by_test (stands places t) (λ e. e)
    (λ e. let found : has_cycle routes ≡ true = in_list (has_chain routes (length routes)) (length routes) t h (chain routes places peeled (length routes) t h e) in
    false_is_true (sym ((cycles_are_found routes).1 none) ∙ found))

pub whole : (routes : List Route) (places : List ℕ) → IsPeeled routes places → NoCycle routes → length places ≡ length routes
whole routes places peeled none =
    let few = no_more places (length routes) peeled.once peeled.low in
    let many = le-length_from_below places (length routes) (placed routes places peeled none) in
    omega arith

-- ---- where all are placed, they are an order

every : (routes : List Route) (places : List ℕ) → IsPeeled routes places → length places ≡ length routes → (t : ℕ) → t < length routes → stands places t ≡ true
every routes places peeled long t h = by_test (stands places t) (λ e. e)
    (λ e. absurd (omega (arith, room places t (length routes) peeled.once peeled.low e h)))

at_place : (places : List ℕ) (t : ℕ) → stands places t ≡ true → Contains places t
at_place places t e = Contains-from_any {eq = eqb} same t places e
  where
    same : (x y : ℕ) → eqb x y ≡ true → x ≡ y
    same x y h = grind (arith, nat_tests)

apart : (places : List ℕ) → AreOnce places → AreApart places
apart places once i j d h g same =
    let here = slice_get-get_or places i d (omega arith) in let there = slice_get-get_or places j d g in
    false_is_true (sym (fresh_at places j (get_or places j d) once there) ∙ stands_take places (i + 1) j (get_or places j d) (omega arith)
    (ap (λ xs. stands xs (get_or places j d)) (take_get places i (get_or places i d) here)
    ∙ stands_last (take i places) (get_or places i d) (get_or places j d) (sym same)))
  where
    stands_last : (xs : List ℕ) (x y : ℕ) → y ≡ x → stands (xs ++ x ∷ []) y ≡ true
    stands_last xs x y e = let yes : eqb y x ≡ true = grind (arith, nat_tests) in stands-push xs x y ∙ ap (λ b. stands xs y || b) yes ∙ or_true (stands xs y)
      where
        or_true : (b : Bool) → (b || true) ≡ true
        or_true true = refl
        or_true false = refl

pub order_of : (routes : List Route) (places : List ℕ) → IsPeeled routes places → length places ≡ length routes → IsOrder routes places
order_of routes places peeled long = record {
  places = λ k d h. peeled.low (get_or places k d) (stands_at places k (get_or places k d) (slice_get-get_or places k d h));
  every = λ t h. at_place places t (every routes places peeled long t h);
  once = apart places peeled.once;
  long = long;
  feeders_first = first;
}
  where
    first : FeedersFirst routes places
    first i j f t at to l = by_order (cases_lt i j)
      where
        by_order : (i < j) ⊎ (j ≤ i) → i < j
        by_order (inl h) = h
        by_order (inr h) = false_is_true (sym (fresh_at places i f peeled.once at) ∙ stands_take places j i f h (peeled.fed j f t to l))

-- ---- an order has no cycle

turn_of : (order : List ℕ) (r : ℕ) → Contains order r → (i : ℕ) × (slice_get order i ≡ Some r)
turn_of order r h = (h.0, slice_get-get_or order h.0 r h.1 ∙ ap Some h.2)

later : (routes : List Route) (order : List ℕ) → IsOrder routes order → (from to i j : ℕ) → Reaches routes from to →
    slice_get order i ≡ Some from → slice_get order j ≡ Some to → to < length routes → i < j
later routes order is from to i j (by_link l) at there h = is.feeders_first i j from to at there l
later routes order is from to i j (then_on {next = g} l rest) at there h =
    let k = turn_of order g (is.every g (in_range routes g to rest)) in
    let first = is.feeders_first i k.0 from g at k.1 l in
    let second = later routes order is g to k.0 j rest k.1 there h in
    omega arith

pub no_cycle : (routes : List Route) (order : List ℕ) → IsOrder routes order → NoCycle routes
no_cycle routes order is r h =
    let here = in_range routes r r h in let k = turn_of order r (is.every r here) in
    omega (arith, later routes order is r r k.0 k.0 h k.1 k.1 here)

-- ---- what is answered

pub listed_order : (routes : List Route) (places : List ℕ) (r : Result (List ℕ) OrderRefusal) → IsOrder routes places → IfOk r (λ o. o ≡ places) → IfOk r (IsOrder routes)
listed_order routes places (Ok o) is same = let K : List ℕ → Type 0 = λ xs. IsOrder routes xs in subst K (sym same) is
listed_order routes places (Err e) is same = tt

pub names_none : {found : Option ℕ} (r : Result (List ℕ) OrderRefusal) → found ≡ None → IfErr r (λ e. e ≡ NoMemory) → NamesCycle found r
names_none (Ok o) none refusal = none
names_none (Err (Cycle k)) none refusal = absurd (nothing refusal)
  where
    nothing : Cycle k ≡ NoMemory → ⊥
    nothing e = cc
names_none (Err NoMemory) none refusal = tt
