-- The tests that compute are the facts.
use Rattle.std.proofs.Common.{◌≡◌, ℕ, zero, suc, ◌+◌, ◌≤◌, ◌<◌, ◌⊎◌, inl, inr, Bool, true, false, ◌&&◌, ◌||◌, refl, ap, arith, ◌∙◌, sym, subst, List, [], ◌∷◌, length, get_or, cond, Option, Some, None}
use Rattle.std.specs.List.{range_with_len, position}
use Rattle.std.proofs.lemmas.Bool.{cases_lt}
use Rattle.std.specs.Prelude.{nat_lt}
use Rattle.std.specs.List.{position_or_len}
use Rattle.std.proofs.lemmas.Bool.Decides.{nat_tests}
use Rattle.std.proofs.lemmas.List.FromFn.{length-range_with_len, get_or-range_with_len}
use Rattle.std.proofs.lemmas.List.Sums.{position_or_len_is}
use Rattle.std.proofs.lemmas.List.Quantifiers.{position-Some}
use Rattle.sound_model.specs.Routes.{Route, Reaches, by_link, then_on, NoCycle, links}
use Rattle.sound_laws.proofs.Cases.{by_test}
use Rattle.sound_model.specs.Reach.{reaches_below, reaches}
use Rattle.route_graph.specs.Cycles.{first_on_cycle, IsFirstOnCycle}
use Rattle.route_graph.specs.Laws.{ReachingIsTested, FirstOnCycleIsFound, NoneIsFoundWithoutCycle}

-- ---- two tests, either of which is enough, and two that are both wanted

either : (a b : Bool) → (a || b) ≡ true → (a ≡ true) ⊎ (b ≡ true)
either true b e = inl refl
either false b e = inr e

both : (a b : Bool) → (a && b) ≡ true → (a ≡ true) × (b ≡ true)
both true b e = (refl, e)
both false b e = absurd (nothing e)
  where
    nothing : false ≡ true → ⊥
    nothing h = cc

first_of_either : (a b : Bool) → a ≡ true → (a || b) ≡ true
first_of_either a b e = rw e refl

second_of_either : (a b : Bool) → b ≡ true → (a || b) ≡ true
second_of_either true b e = refl
second_of_either false b e = e

-- ---- over more routes

abbrev Below : List Route → ℕ → ℕ → ℕ → Type 0
Below routes high from to = reaches_below routes high from to ≡ true

step : (routes : List Route) (high from to : ℕ) →
    reaches_below routes (suc high) from to ≡ (reaches_below routes high from to || (reaches_below routes high from high && reaches_below routes high high to))
unfolding reaches_below
step routes high from to = refl

parts : (routes : List Route) (high from to : ℕ) → Below routes (suc high) from to →
    (Below routes high from to) ⊎ (Below routes high from high × Below routes high high to)
parts routes high from to h = go (either (reaches_below routes high from to) (reaches_below routes high from high && reaches_below routes high high to) (sym (step routes high from to) ∙ h))
  where
    go : (reaches_below routes high from to ≡ true) ⊎ ((reaches_below routes high from high && reaches_below routes high high to) ≡ true) →
        (Below routes high from to) ⊎ (Below routes high from high × Below routes high high to)
    go (inl e) = inl e
    go (inr e) = inr (both (reaches_below routes high from high) (reaches_below routes high high to) e)

more : (routes : List Route) (high from to : ℕ) → Below routes high from to → Below routes (suc high) from to
more routes high from to h = step routes high from to ∙ first_of_either (reaches_below routes high from to) (reaches_below routes high from high && reaches_below routes high high to) h

over : (routes : List Route) (high from to : ℕ) → Below routes high from high → Below routes high high to → Below routes (suc high) from to
over routes high from to h g = step routes high from to ∙ second_of_either (reaches_below routes high from to) (reaches_below routes high from high && reaches_below routes high high to) (rw (h, g) refl)

by_one : (routes : List Route) (high from to : ℕ) → links routes from to ≡ true → Below routes high from to
unfolding reaches_below
by_one routes zero from to e = e
by_one routes (suc high) from to e = more routes high from to (by_one routes high from to e)

-- ways up to a route below `high` and on from it make one
abbrev Joins : List Route → ℕ → Type 0
Joins routes high = (from next to : ℕ) → next < high → Below routes high from next → Below routes high next to → Below routes high from to

joined : (routes : List Route) (high : ℕ) → Joins routes high
joined routes zero from next to low h g = absurd (omega arith)
joined routes (suc high) from next to low h g = go (joined routes high) (cases_lt next high) (parts routes high from next h) (parts routes high next to g)
  where
    here : (a : ℕ) → next ≡ high → Below routes high a next → Below routes high a high
    here a e k = let K : ℕ → Type 0 = λ x. Below routes high a x in subst K e k

    there : (b : ℕ) → next ≡ high → Below routes high next b → Below routes high high b
    there b e k = let K : ℕ → Type 0 = λ x. Below routes high x b in subst K e k

    go : Joins routes high → (next < high) ⊎ (high ≤ next) → (Below routes high from next) ⊎ (Below routes high from high × Below routes high high next) →
        (Below routes high next to) ⊎ (Below routes high next high × Below routes high high to) → Below routes (suc high) from to
    go again (inl below) (inl a) (inl b) = more routes high from to (again from next to below a b)
    go again (inl below) (inl a) (inr b) = over routes high from to (again from next high below a b.0) b.1
    go again (inl below) (inr a) (inl b) = over routes high from to a.0 (again high next to below a.1 b)
    go again (inl below) (inr a) (inr b) = over routes high from to a.0 b.1
    go again (inr above) (inl a) (inl b) = let e : next ≡ high = omega arith in over routes high from to (here from e a) (there to e b)
    go again (inr above) (inl a) (inr b) = let e : next ≡ high = omega arith in over routes high from to (here from e a) b.1
    go again (inr above) (inr a) (inl b) = let e : next ≡ high = omega arith in over routes high from to a.0 (there to e b)
    go again (inr above) (inr a) (inr b) = over routes high from to a.0 b.1

-- ---- the test and the fact

pub links-below : (routes : List Route) (from to : ℕ) → links routes from to ≡ true → from < length routes
links-below [] from to e = absurd (nothing e)
  where
    nothing : false ≡ true → ⊥
    nothing h = cc
links-below (q ∷ qs) zero to e = omega arith
links-below (q ∷ qs) (suc from) to e = let below : from < length qs = links-below qs from to e in omega arith

pub in_range : (routes : List Route) (from to : ℕ) → Reaches routes from to → from < length routes
in_range routes from to (by_link l) = links-below routes from to l
in_range routes from to (then_on {next = g} l rest) = links-below routes from g l

pub then_reaches : (routes : List Route) (from next to : ℕ) → Reaches routes from next → Reaches routes next to → Reaches routes from to
then_reaches routes from next to (by_link l) h = then_on l h
then_reaches routes from next to (then_on {next = g} l rest) h = then_on l (then_reaches routes g next to rest h)

sound : (routes : List Route) (high from to : ℕ) → Below routes high from to → Reaches routes from to
unfolding reaches_below
sound routes zero from to h = by_link h
sound routes (suc high) from to h = go (sound routes high) (parts routes high from to h)
  where
    go : ((f t : ℕ) → Below routes high f t → Reaches routes f t) → (Below routes high from to) ⊎ (Below routes high from high × Below routes high high to) →
        Reaches routes from to
    go again (inl a) = again from to a
    go again (inr a) = then_reaches routes from high to (again from high a.0) (again high to a.1)

complete : (routes : List Route) (from to : ℕ) → Reaches routes from to → Below routes (length routes) from to
complete routes from to (by_link l) = by_one routes (length routes) from to l
complete routes from to (then_on {next = g} l rest) =
    joined routes (length routes) from g to (in_range routes g to rest) (by_one routes (length routes) from g l) (complete routes g to rest)

pub reaching_is_tested : ReachingIsTested
unfolding reaches
reaching_is_tested routes from to = (sound routes (length routes) from to, complete routes from to)

-- ---- the first on a cycle

back : List Route → ℕ → Bool
back routes r = reaches routes r r

opened : (routes : List Route) → first_on_cycle routes ≡ position (back routes) (range_with_len 0 (length routes))
unfolding first_on_cycle back
opened routes = refl

tested : (routes : List Route) (r : ℕ) → back routes r ≡ true → Reaches routes r r
unfolding back
tested routes r e = (reaching_is_tested routes r r).0 e

passes : (routes : List Route) (r : ℕ) → Reaches routes r r → back routes r ≡ true
unfolding back
passes routes r h = (reaching_is_tested routes r r).1 h

fails : (routes : List Route) (r : ℕ) → ¬ (Reaches routes r r) → back routes r ≡ false
fails routes r none = by_test (back routes r) (λ e. absurd (none (tested routes r e))) (λ e. e)

true_is_false : {P : Type 0} → true ≡ false → P
true_is_false e = absurd (nothing e)
  where
    nothing : true ≡ false → ⊥
    nothing h = cc

some_first : (routes : List Route) (r : ℕ) → first_on_cycle routes ≡ Some r → IsFirstOnCycle routes r
some_first routes r e =
    let n = length routes in
    let found = position-Some (back routes) (range_with_len 0 n) r 0 (sym (opened routes) ∙ e) in
    let here : r < n = omega (arith, found.0, length-range_with_len 0 n) in
    let it : get_or (range_with_len 0 n) r 0 ≡ r = get_or-range_with_len 0 n r 0 here ∙ omega arith in
    record {
      on_cycle = tested routes r (ap (back routes) (sym it) ∙ found.1);
      first = λ q below h.
          let same : get_or (range_with_len 0 n) q 0 ≡ q = get_or-range_with_len 0 n q 0 (omega arith) ∙ omega arith in
          true_is_false (sym (passes routes q h) ∙ ap (back routes) (sym same) ∙ found.2 q below);
    }

position_at : (p : ℕ → Bool) (xs : List ℕ) (r : ℕ) → position_or_len p xs ≡ r → r < length xs → position p xs ≡ Some r
position_at p xs r e h = rw e (grind (arith, nat_tests))

first_some : (routes : List Route) (r : ℕ) → IsFirstOnCycle routes r → first_on_cycle routes ≡ Some r
first_some routes r h =
    let n = length routes in
    let here : r < n = in_range routes r r h.on_cycle in
    let long : length (range_with_len 0 n) ≡ n = length-range_with_len 0 n in
    let it : get_or (range_with_len 0 n) r 0 ≡ r = get_or-range_with_len 0 n r 0 here ∙ omega arith in
    opened routes ∙ position_at (back routes) (range_with_len 0 n) r
    (position_or_len_is (back routes) (range_with_len 0 n) r 0 (omega arith)
    (λ k below. let same : get_or (range_with_len 0 n) k 0 ≡ k = get_or-range_with_len 0 n k 0 (omega arith) ∙ omega arith in
    ap (back routes) same ∙ fails routes k (h.first k below))
    (λ _. ap (back routes) it ∙ passes routes r h.on_cycle))
    (omega arith)

pub first_on_cycle_is_found : FirstOnCycleIsFound
first_on_cycle_is_found routes r = (some_first routes r, first_some routes r)

none_before : (p : ℕ → Bool) (xs : List ℕ) → length xs ≤ position_or_len p xs → (k : ℕ) → k < length xs → p (get_or xs k 0) ≡ false
none_before p [] h k below = absurd (omega arith)
none_before p (x ∷ xs) h k below = by_test (p x) (λ e. absurd (omega (arith, at_once e))) (λ e. later k below (none_before p xs) e)
  where
    at_once : p x ≡ true → position_or_len p (x ∷ xs) ≡ 0
    at_once e = rw e refl

    passed : p x ≡ false → position_or_len p (x ∷ xs) ≡ 1 + position_or_len p xs
    passed e = rw e refl

    later : (k : ℕ) → k < length (x ∷ xs) → (length xs ≤ position_or_len p xs → (i : ℕ) → i < length xs → p (get_or xs i 0) ≡ false) → p x ≡ false →
        p (get_or (x ∷ xs) k 0) ≡ false
    later zero g again e = e
    later (suc i) g again e = again (omega (arith, passed e)) i (omega arith)

some_is_none : (n : ℕ) → cond true (Some n) None ≡ None → ⊥
some_is_none n e = cc

none_at : (p : ℕ → Bool) (xs : List ℕ) → position p xs ≡ None → (k : ℕ) → k < length xs → p (get_or xs k 0) ≡ false
none_at p xs e = none_before p xs (past (position_or_len p xs) (length xs) e)
  where
    past : (at n : ℕ) → cond (nat_lt at n) (Some at) None ≡ None → n ≤ at
    past at n e = by_test (nat_lt at n)
        (λ t. absurd (some_is_none at (sym (rw t refl) ∙ e)))
        (λ t. grind (arith, nat_tests))

none_without : (routes : List Route) → first_on_cycle routes ≡ None → NoCycle routes
none_without routes e r h =
    let n = length routes in
    let here : r < n = in_range routes r r h in
    let long : length (range_with_len 0 n) ≡ n = length-range_with_len 0 n in
    let it : get_or (range_with_len 0 n) r 0 ≡ r = get_or-range_with_len 0 n r 0 here ∙ omega arith in
    true_is_false (sym (passes routes r h) ∙ ap (back routes) (sym it)
    ∙ none_at (back routes) (range_with_len 0 n) (sym (opened routes) ∙ e) r (omega arith))

without_none : (routes : List Route) → NoCycle routes → first_on_cycle routes ≡ None
without_none routes none = go (first_on_cycle routes) refl
  where
    go : (o : Option ℕ) → first_on_cycle routes ≡ o → first_on_cycle routes ≡ None
    go None e = e
    go (Some r) e = absurd (none r (some_first routes r e).on_cycle)

pub none_is_found_without_cycle : NoneIsFoundWithoutCycle
none_is_found_without_cycle routes = (none_without routes, without_none routes)
