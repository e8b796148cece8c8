-- The test of a cycle is the fact.
use Rattle.std.proofs.Common.{◌≡◌, ℕ, zero, suc, ◌+◌, ◌≤◌, ◌<◌, ◌⊎◌, inl, inr, Bool, true, false, ◌&&◌, ◌||◌, refl, ap, arith, ◌∙◌, sym, List, length}
use Rattle.std.specs.List.{list_any, range_with_len}
use Rattle.std.proofs.lemmas.Bool.{cases_lt}
use Rattle.sound_model.specs.Routes.{Route, Reaches, by_link, then_on, NoCycle, links, has_chain, has_cycle}
use Rattle.sound_laws.specs.Desks.{CyclesAreFound}
use Rattle.sound_laws.proofs.Cases.{by_test}
use Rattle.sound_laws.proofs.DepthLaws.{Chain, links-below, no_long_chain}

false_is_true : {P : Type 0} → false ≡ true → P
false_is_true e = absurd (nothing e)
  where
    nothing : false ≡ true → ⊥
    nothing h = cc

-- ---- a number in a range that passes a test

found_in : (p : ℕ → Bool) (low n f : ℕ) → low ≤ f → f < low + n → p f ≡ true → list_any p (range_with_len low n) ≡ true
found_in p low zero f h g e = absurd (omega arith)
found_in p low (suc n) f h g e = by_test (p low)
    (λ first. rw first refl)
    (λ first. rw first (found_in p (low + 1) n f (after first (cases_lt low f)) (omega arith) e))
  where
    after : p low ≡ false → (low < f) ⊎ (f ≤ low) → low + 1 ≤ f
    after first (inl above) = omega arith
    after first (inr below) = let same : f ≡ low = omega arith in false_is_true (sym first ∙ ap p (sym same) ∙ e)

both : (a b : Bool) → (a && b) ≡ true → (a ≡ true) × (b ≡ true)
both true b e = (refl, e)
both false b e = false_is_true e

abbrev SomeIn : (ℕ → Bool) → ℕ → Type 0
SomeIn p n = (f : ℕ) × (f < n) × (p f ≡ true)

some_in : (p : ℕ → Bool) (low n : ℕ) → list_any p (range_with_len low n) ≡ true → SomeIn p (low + n)
some_in p low zero e = false_is_true e
some_in p low (suc n) e = by_test (p low)
    (λ first. (low, omega arith, first))
    (λ first. let deeper : SomeIn p (low + 1 + n) = some_in p (low + 1) n (ap (λ b. b || list_any p (range_with_len (low + 1) n)) (sym first) ∙ e) in
    (deeper.0, omega (arith, deeper.1), deeper.2))

-- ---- chains and their test

chain_found : (routes : List Route) (long to : ℕ) → has_chain routes long to ≡ true → Chain routes long to
chain_found routes zero to e = tt
chain_found routes (suc long) to e =
    let one = some_in (λ f. links routes f to && has_chain routes long f) 0 (length routes) e in
    let parts = both (links routes one.0 to) (has_chain routes long one.0) one.2 in
    (one.0, parts.0, chain_found routes long one.0 parts.1)

chain_passes : (routes : List Route) (long to : ℕ) → Chain routes long to → has_chain routes long to ≡ true
chain_passes routes zero to chain = refl
chain_passes routes (suc long) to chain = let below : chain.0 < length routes = links-below routes chain.0 to chain.1 in
    found_in (λ f. links routes f to && has_chain routes long f) 0 (length routes) chain.0 (omega arith) (omega arith)
    (rw (chain.1, chain_passes routes long chain.0 chain.2) refl)

-- ---- round and round

-- a chain goes on along whatever its end reaches
goes_on : (routes : List Route) (k f to : ℕ) → Reaches routes f to → Chain routes k f → (m : ℕ) × (k < m) × Chain routes m to
goes_on routes k f to (by_link l) chain = (suc k, omega arith, (f, l, chain))
goes_on routes k f to (then_on {next = g} l rest) chain =
    let further = goes_on routes (suc k) g to rest (f, l, chain) in (further.0, omega (arith, further.1), further.2)

round : (routes : List Route) (r times : ℕ) → Reaches routes r r → (m : ℕ) × (times ≤ m) × Chain routes m r
round routes r zero h = (0, omega arith, tt)
round routes r (suc times) h = let so_far = round routes r times h in let further = goes_on routes so_far.0 r r h so_far.2 in
    (further.0, omega (arith, so_far.1, further.1), further.2)

shorter : (routes : List Route) (k m to : ℕ) → k ≤ m → Chain routes m to → Chain routes k to
shorter routes zero m to h chain = tt
shorter routes (suc k) zero to h chain = absurd (omega arith)
shorter routes (suc k) (suc m) to h chain = (chain.0, chain.1, shorter routes k m chain.0 (omega arith) chain.2)

in_range : (routes : List Route) (from to : ℕ) → Reaches routes from to → from < length routes
in_range routes from to (by_link l) = links-below routes from to l
in_range routes from to (then_on {next = g} l rest) = links-below routes from g l

none_where_none_found : (routes : List Route) → has_cycle routes ≡ false → NoCycle routes
none_where_none_found routes none r h =
    let far = round routes r (length routes) h in
    let long : has_chain routes (length routes) r ≡ true = chain_passes routes (length routes) r (shorter routes (length routes) far.0 r far.1 far.2) in
    let here : r < length routes = in_range routes r r h in
    false_is_true (sym none ∙ found_in (has_chain routes (length routes)) 0 (length routes) r (omega arith) (omega arith) long)

none_found_where_none : (routes : List Route) → NoCycle routes → has_cycle routes ≡ false
none_found_where_none routes none = by_test (has_cycle routes)
    (λ e. let one = some_in (has_chain routes (length routes)) 0 (length routes) e in
    absurd (no_long_chain routes one.0 none (omega (arith, one.1)) (chain_found routes (length routes) one.0 one.2)))
    (λ e. e)

pub cycles_are_found : CyclesAreFound
cycles_are_found routes = (none_where_none_found routes, none_found_where_none routes)
