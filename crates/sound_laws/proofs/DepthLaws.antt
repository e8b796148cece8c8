-- Where no route leads back to itself, no chain of links is longer than there are routes, so a deeper recursion gives the same.
use Rattle.std.proofs.Common.{◌≡◌, ℕ, zero, suc, ◌+◌, ◌≤◌, ◌<◌, ◌⊎◌, inl, inr, Bool, true, false, eqb, refl, ap, arith, ◌∙◌, sym, subst, List, [], ◌∷◌, length, Option, Some, None}
use Rattle.std.specs.Prelude.{ℤ, pos, ◌+ℤ◌, IsTrue, slice_get}
use Rattle.std.specs.List.{AllByRecursion, IsDistinct, list_any}
use Rattle.std.proofs.Math.Path.{fun_ext}
use Rattle.std.proofs.lemmas.Bool.{cases_lt}
use Rattle.std.proofs.lemmas.Bool.Decides.{nat_tests}
use Rattle.std.proofs.lemmas.Map.Steps.{length-le_from_distinct_below}
use Rattle.sound_model.specs.Numbers.{clip}
use Rattle.sound_model.specs.Routes.{Route, Reaches, by_link, then_on, NoCycle, feeds, links, any_solo, fed, fed_by, taken_in, input_here, input_within, route_input}
use Rattle.sound_laws.specs.Desks.{DeeperIsTheSame}
use Rattle.sound_laws.proofs.Cases.{by_test}
use Rattle.sound_laws.proofs.DeskLaws.{only_links_feed}

-- ---- chains of links

-- so many links, one after another, of which the last leads to a route
abbrev pub Chain : List Route → ℕ → ℕ → Type 0
Chain routes zero to = Unit {0}
Chain routes (suc long) to = (f : ℕ) × IsTrue (links routes f to) × Chain routes long f

-- the routes of a chain, from the last one back
visited : (routes : List Route) (long to : ℕ) → Chain routes long to → List ℕ
visited routes zero to chain = to ∷ []
visited routes (suc long) to chain = to ∷ visited routes long chain.0 chain.2

length-visited : (routes : List Route) (long to : ℕ) (chain : Chain routes long to) → length (visited routes long to chain) ≡ suc long
unfolding visited
length-visited routes zero to chain = refl
length-visited routes (suc long) to chain = ap suc (length-visited routes long chain.0 chain.2)

pub links-below : (routes : List Route) (f to : ℕ) → IsTrue (links routes f to) → f < length routes
links-below [] f to h = absurd (false_is_true h)
  where
    false_is_true : false ≡ true → ⊥
    false_is_true e = cc
links-below (q ∷ qs) zero to h = omega arith
links-below (q ∷ qs) (suc f) to h = let below : f < length qs = links-below qs f to h in omega arith

visited-below : (routes : List Route) (long to : ℕ) (chain : Chain routes long to) → to < length routes → AllByRecursion (λ f. f < length routes) (visited routes long to chain)
unfolding visited
visited-below routes zero to chain h = (h, tt)
visited-below routes (suc long) to chain h = (h, visited-below routes long chain.0 chain.2 (links-below routes chain.0 to chain.1))

visited-reach : (routes : List Route) (long f to : ℕ) (chain : Chain routes long f) → Reaches routes f to →
    AllByRecursion (λ g. Reaches routes g to) (visited routes long f chain)
unfolding visited
visited-reach routes zero f to chain h = (h, tt)
visited-reach routes (suc long) f to chain h = (h, visited-reach routes long chain.0 to chain.2 (then_on chain.1 h))

apart_from : (routes : List Route) (to : ℕ) → NoCycle routes → (g : ℕ) → Reaches routes g to → eqb to g ≡ false
apart_from routes to none g h = by_test (eqb to g)
    (λ e. let same : g ≡ to = grind (arith, nat_tests) in let K : ℕ → Type 0 = λ f. Reaches routes f to in absurd (none to (subst K same h)))
    (λ e. e)

every_apart : (routes : List Route) (to : ℕ) → NoCycle routes → (gs : List ℕ) → AllByRecursion (λ g. Reaches routes g to) gs → AllByRecursion (λ g. eqb to g ≡ false) gs
every_apart routes to none [] h = tt
every_apart routes to none (g ∷ gs) h = (apart_from routes to none g h.0, every_apart routes to none gs h.1)

visited-distinct : (routes : List Route) (long to : ℕ) (chain : Chain routes long to) → NoCycle routes → IsDistinct eqb (visited routes long to chain)
unfolding visited IsDistinct
visited-distinct routes zero to chain none = (tt, tt)
visited-distinct routes (suc long) to chain none = (
  every_apart routes to none (visited routes long chain.0 chain.2) (visited-reach routes long chain.0 to chain.2 (by_link chain.1)),
  visited-distinct routes long chain.0 chain.2 none,
)

below_among : (n : ℕ) (gs : List ℕ) → AllByRecursion (λ g. g < n) gs → (q : ℕ) → list_any (eqb q) gs ≡ true → q < n
below_among n [] h q e = absurd (false_is_true e)
  where
    false_is_true : false ≡ true → ⊥
    false_is_true e' = cc
below_among n (g ∷ gs) h q e = by_test (eqb q g)
    (λ same. let first : g < n = h.0 in grind (arith, nat_tests))
    (λ apart. below_among n gs h.1 q (grind (arith, nat_tests)))

-- a chain to a route of the list has fewer links than there are routes
pub no_long_chain : (routes : List Route) (to : ℕ) → NoCycle routes → to < length routes → ¬ (Chain routes (length routes) to)
no_long_chain routes to none here chain =
    let few : length (visited routes (length routes) to chain) ≤ length routes = length-le_from_distinct_below (visited routes (length routes) to chain) (length routes)
    (visited-distinct routes (length routes) to chain none)
    (below_among (length routes) (visited routes (length routes) to chain) (visited-below routes (length routes) to chain here)) in
    let many : length (visited routes (length routes) to chain) ≡ suc (length routes) = length-visited routes (length routes) to chain in
    omega arith

-- ---- two recursions that agree on what leads to a route

fed_by_same : (solo : Bool) (x to channels c f : ℕ) (inputs others : ℕ → ℕ → ℤ) (qs : List Route) →
    ((i : ℕ) → IsTrue (links qs i to) → (k : ℕ) → inputs (f + i) k ≡ others (f + i) k) →
    fed_by solo x to channels c inputs f qs ≡ fed_by solo x to channels c others f qs
fed_by_same solo x to channels c f inputs others [] same = refl
fed_by_same solo x to channels c f inputs others (q ∷ qs) same = both
    (by_test (feeds q to)
    (λ e. ap (fed solo x to channels c q) (fun_ext (first e)))
    (λ e. only_links_feed solo x to channels c q (inputs f) e ∙ sym (only_links_feed solo x to channels c q (others f) e)))
    (fed_by_same solo x to channels c (suc f) inputs others qs rest)
  where
    both : {a b d e : ℤ} → a ≡ b → d ≡ e → a +ℤ d ≡ b +ℤ e
    both h g = cc

    first : feeds q to ≡ true → (k : ℕ) → inputs f k ≡ others f k
    first e k = let here : f + 0 ≡ f = omega arith in let K : ℕ → Type 0 = λ g. inputs g k ≡ others g k in subst K here (same 0 e k)

    rest : (i : ℕ) → IsTrue (links qs i to) → (k : ℕ) → inputs (suc f + i) k ≡ others (suc f + i) k
    rest i e k = let next : f + suc i ≡ suc f + i = omega arith in let K : ℕ → Type 0 = λ g. inputs g k ≡ others g k in subst K next (same (suc i) e k)

taken_in_same : (routes : List Route) (samples : ℕ → ℕ → ℤ) (x : ℕ) (inputs others : ℕ → ℕ → ℤ) (to channels : ℕ) (track : Option ℕ) (c : ℕ) →
    ((i : ℕ) → IsTrue (links routes i to) → (k : ℕ) → inputs i k ≡ others i k) →
    taken_in routes samples x inputs to channels track c ≡ taken_in routes samples x others to channels track c
taken_in_same routes samples x inputs others to channels (Some t) c same = refl
taken_in_same routes samples x inputs others to channels None c same =
    ap clip (fed_by_same (any_solo routes) x to channels c 0 inputs others routes same_from_zero)
  where
    same_from_zero : (i : ℕ) → IsTrue (links routes i to) → (k : ℕ) → inputs (0 + i) k ≡ others (0 + i) k
    same_from_zero i e k = let here : i ≡ 0 + i = omega arith in let K : ℕ → Type 0 = λ g. inputs g k ≡ others g k in subst K here (same i e k)

here_same : (routes : List Route) (samples : ℕ → ℕ → ℤ) (x : ℕ) (inputs others : ℕ → ℕ → ℤ) (to : ℕ) (r : Option Route) (c : ℕ) →
    ((i : ℕ) → IsTrue (links routes i to) → (k : ℕ) → inputs i k ≡ others i k) →
    input_here routes samples x inputs to r c ≡ input_here routes samples x others to r c
here_same routes samples x inputs others to None c same = refl
here_same routes samples x inputs others to (Some r) c same = taken_in_same routes samples x inputs others to r.channels r.track c same

-- ---- depth

pub input-step : (routes : List Route) (samples : ℕ → ℕ → ℤ) (x deep to c : ℕ) →
    input_within (suc deep) routes samples x to c ≡ input_here routes samples x (input_within deep routes samples x) to (slice_get routes to) c
unfolding input_within
input-step routes samples x deep to c = refl

-- without a chain of so many links, so deep is deep enough
deep_enough : (routes : List Route) (samples : ℕ → ℕ → ℤ) (x deep more to c : ℕ) → ¬ (Chain routes deep to) → deep ≤ more →
    input_within more routes samples x to c ≡ input_within deep routes samples x to c
deep_enough routes samples x zero more to c none h = absurd (none tt)
deep_enough routes samples x (suc deep) zero to c none h = absurd (omega arith)
deep_enough routes samples x (suc deep) (suc more) to c none h =
    input-step routes samples x more to c
    ∙ here_same routes samples x (input_within more routes samples x) (input_within deep routes samples x) to (slice_get routes to) c
    (λ i e k. deep_enough routes samples x deep more i k (λ chain. none (i, e, chain)) (omega arith))
    ∙ sym (input-step routes samples x deep to c)

past_get : (routes : List Route) (to : ℕ) → length routes ≤ to → slice_get routes to ≡ None
past_get [] to h = refl
past_get (q ∷ qs) zero h = absurd (omega arith)
past_get (q ∷ qs) (suc to) h = past_get qs to (omega arith)

-- past the last route there is nothing at any depth
nothing_past : (routes : List Route) (samples : ℕ → ℕ → ℤ) (x deep to c : ℕ) → length routes ≤ to → input_within deep routes samples x to c ≡ pos 0
unfolding input_within
nothing_past routes samples x zero to c h = refl
nothing_past routes samples x (suc deep) to c h = ap (λ r. input_here routes samples x (input_within deep routes samples x) to r c) (past_get routes to h)

pub deeper_is_the_same : DeeperIsTheSame
deeper_is_the_same routes samples x further place c none = go (cases_lt place (length routes))
  where
    go : (place < length routes) ⊎ (length routes ≤ place) → input_within (further + length routes) routes samples x place c ≡ route_input routes samples x place c
    go (inl here) = deep_enough routes samples x (length routes) (further + length routes) place c (no_long_chain routes place none here) (omega arith)
    go (inr past) = nothing_past routes samples x (further + length routes) place c past ∙ sym (nothing_past routes samples x (length routes) place c past)
