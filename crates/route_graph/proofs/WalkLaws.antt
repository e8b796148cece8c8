-- What the walks over the links keep.
use Rattle.std.proofs.Common.{◌≡◌, ℕ, zero, suc, ◌+◌, ◌≤◌, ◌<◌, ◌⊎◌, inl, inr, Bool, true, false, ◌||◌, eqb, refl, ap, arith, ◌∙◌, sym, List, [], ◌∷◌, ◌++◌, length, take, Some, None, slice_index, length-append}
use Rattle.std.specs.Prelude.{slice_get, IsTrue}
use Rattle.std.specs.List.{AllByRecursion}
use Rattle.std.proofs.lemmas.Map.Keys.{IsDistinct-head, IsDistinct-tail}
use Rattle.std.proofs.lemmas.Bool.{cases_lt}
use Rattle.std.proofs.lemmas.Bool.Decides.{nat_tests}
use Rattle.std.proofs.lemmas.List.{take-append-le}
use Rattle.std.proofs.lemmas.List.Folds.{list_any-append}
use Rattle.std.proofs.lemmas.List.{take_more, take_all}
use Rattle.std.proofs.lemmas.Map.Steps.{length-le_from_distinct_below}
use Rattle.std.proofs.lemmas.Option.{slice_get_within, get_or_from_slice_get}
use Rattle.sound_laws.proofs.Cases.{by_test}
use Rattle.sound_model.specs.Routes.{Route, links}
use Rattle.route_graph.specs.Places.{stands, AreOnce, StartsWith}
use Rattle.route_graph.specs.Walks.{waiting, IsSettled, IsPeeled}
use Rattle.route_graph.proofs.PlaceLaws.{false_is_true}
use Rattle.route_graph.proofs.WaitLaws.{all_done, one_undone}

-- ---- the walk

pub take_get : {X : Type 0} (xs : List X) (i : ℕ) (x : X) → slice_get xs i ≡ Some x → take (i + 1) xs ≡ take i xs ++ x ∷ []
take_get xs i x e = take_more xs i x (slice_get_within xs i x e) ∙ ap (λ y. take i xs ++ y ∷ []) (get_or_from_slice_get xs i x x e)

-- what stands among the first places stands among more of them
pub stands_take : (xs : List ℕ) (i k t : ℕ) → i ≤ k → stands (take i xs) t ≡ true → stands (take k xs) t ≡ true
stands_take xs zero k t h e = false_is_true e
stands_take [] (suc i) k t h e = false_is_true e
stands_take (x ∷ xs) (suc i) zero t h e = absurd (omega arith)
stands_take (x ∷ xs) (suc i) (suc k) t h e = by_test (eqb t x)
    (λ same. ap (λ b. b || stands (take k xs) t) same)
    (λ apart. ap (λ b. b || stands (take k xs) t) apart ∙ stands_take xs i k t (omega arith) (sym (ap (λ b. b || stands (take i xs) t) apart) ∙ e))

-- a place that stands is somewhere
pub at_turn : (xs : List ℕ) (t : ℕ) → stands xs t ≡ true → (i : ℕ) × (slice_get xs i ≡ Some t)
at_turn [] t e = false_is_true e
at_turn (x ∷ xs) t e = by_test (eqb t x)
    (λ same. let it : x ≡ t = grind (arith, nat_tests) in (0, ap Some it))
    (λ apart. later (at_turn xs t (sym (ap (λ b. b || stands xs t) apart) ∙ e)))
  where
    later : ((i : ℕ) × (slice_get xs i ≡ Some t)) → (i : ℕ) × (slice_get (x ∷ xs) i ≡ Some t)
    later w = (suc w.0, w.1)

pub stands_at : (xs : List ℕ) (i t : ℕ) → slice_get xs i ≡ Some t → stands xs t ≡ true
stands_at [] i t e = absurd (nothing e)
  where
    nothing : None ≡ Some t → ⊥
    nothing h = cc
stands_at (x ∷ xs) zero t e = let same : x ≡ t = cc in let yes : eqb t x ≡ true = grind (arith, nat_tests) in ap (λ b. b || stands xs t) yes
stands_at (x ∷ xs) (suc i) t e = or_true (eqb t x) (stands xs t) (stands_at xs i t e)
  where
    or_true : (a b : Bool) → b ≡ true → (a || b) ≡ true
    or_true true b h = refl
    or_true false b h = h

-- of places that stand once, the one at a turn doesn't stand before it
pub fresh_at : (xs : List ℕ) (i t : ℕ) → AreOnce xs → slice_get xs i ≡ Some t → stands (take i xs) t ≡ false
fresh_at xs zero t once e = refl
fresh_at [] (suc i) t once e = refl
fresh_at (x ∷ xs) (suc i) t once e =
    let other : eqb x t ≡ false = all_at xs i (IsDistinct-head eqb x xs once) e in let apart : eqb t x ≡ false = grind (arith, nat_tests) in
    ap (λ b. b || stands (take i xs) t) apart ∙ fresh_at xs i t (IsDistinct-tail eqb x xs once) e
  where
    all_at : (ys : List ℕ) (k : ℕ) → AllByRecursion (λ y. eqb x y ≡ false) ys → slice_get ys k ≡ Some t → eqb x t ≡ false
    all_at [] k all g = absurd (nothing g)
      where
        nothing : None ≡ Some t → ⊥
        nothing n = cc
    all_at (y ∷ ys) zero all g = let same : y ≡ t = cc in ap (eqb x) (sym same) ∙ all.0
    all_at (y ∷ ys) (suc k) all g = all_at ys k all.1 g

-- ---- a list that begins with another

pub get_starts : (ys xs : List ℕ) (i t : ℕ) → StartsWith ys xs → slice_get xs i ≡ Some t → slice_get ys i ≡ Some t
get_starts ys xs i t h e = ap (λ l. slice_get l i) h.1 ∙ front xs i e
  where
    front : (zs : List ℕ) (k : ℕ) → slice_get zs k ≡ Some t → slice_get (zs ++ h.0) k ≡ Some t
    front [] k g = absurd (nothing g)
      where
        nothing : None ≡ Some t → ⊥
        nothing n = cc
    front (z ∷ zs) zero g = g
    front (z ∷ zs) (suc k) g = front zs k g

pub get_front : (zs more : List ℕ) (k : ℕ) → k < length zs → slice_get (zs ++ more) k ≡ slice_get zs k
get_front [] more k h = absurd (omega arith)
get_front (z ∷ zs) more zero h = refl
get_front (z ∷ zs) more (suc k) h = get_front zs more k (omega arith)

pub take_starts : (ys xs : List ℕ) (i : ℕ) → StartsWith ys xs → i ≤ length xs → take i ys ≡ take i xs
take_starts ys xs i h g = ap (take i) h.1 ∙ take-append-le i xs h.0 g

pub stands_starts : (ys xs : List ℕ) (t : ℕ) → StartsWith ys xs → stands xs t ≡ true → stands ys t ≡ true
stands_starts ys xs t h e = ap (λ l. stands l t) h.1 ∙ list_any-append (eqb t) xs h.0 ∙ ap (λ b. b || stands h.0 t) e

pub longer : (ys xs : List ℕ) → StartsWith ys xs → length xs ≤ length ys
longer ys xs h = omega (arith, ap length h.1, length-append xs h.0)

-- ---- routes with feeders first

-- once the links of all that stands are taken away, the rest waits for the rest
pub peeled_whole : (routes : List Route) (counts places : List ℕ) (turn : ℕ) → length counts ≡ length routes → IsSettled counts places →
    ((t : ℕ) → t < length counts → slice_index counts t ≡ waiting 0 routes (take turn places) t) →
    ((k f t : ℕ) → slice_get places k ≡ Some t → IsTrue (links routes f t) → stands (take k places) f ≡ true) →
    length places ≤ turn → IsPeeled routes places
peeled_whole routes counts places turn long settled waits fed all = record {
  low = λ t e. omega (arith, settled.low t e);
  once = settled.once;
  fed = fed;
  stuck = λ t h e. left t h e (omega (arith, sym long));
}
  where
    whole : take turn places ≡ places
    whole = take_all turn places all

    left : (t : ℕ) → t < length routes → stands places t ≡ false → t < length counts → (f : ℕ) × (stands places f ≡ false) × IsTrue (links routes f t)
    left t h e here =
        let counted : slice_index counts t ≡ waiting 0 routes places t = waits t here ∙ ap (λ d. waiting 0 routes d t) whole in
        let some : eqb (slice_index counts t) 0 ≡ false = sym (settled.zero t here) ∙ e in
        let more : 0 < slice_index counts t = grind (arith, nat_tests) in
        at_zero t (one_undone 0 routes places t (omega arith))
      where
        at_zero : (t : ℕ) → ((i : ℕ) × (stands places (0 + i) ≡ false) × (links routes i t ≡ true)) → (f : ℕ) × (stands places f ≡ false) × IsTrue (links routes f t)
        at_zero t w = let same : 0 + w.0 ≡ w.0 = omega arith in (w.0, sym (ap (stands places) same) ∙ w.1, w.2)

-- at the end of the turns all that stands had its turn
pub no_more : (places : List ℕ) (n : ℕ) → AreOnce places → ((t : ℕ) → stands places t ≡ true → t < n) → length places ≤ n
no_more places n once low = length-le_from_distinct_below places n once low

-- what is placed is fed by what had its turn, and so by what stands before it
pub fed_more : (routes : List Route) (counts places old : List ℕ) (turn : ℕ) → length counts ≡ length routes → IsSettled counts places → StartsWith places old →
    ((t : ℕ) → t < length counts → slice_index counts t ≡ waiting 0 routes (take turn places) t) →
    ((k f t : ℕ) → slice_get old k ≡ Some t → IsTrue (links routes f t) → stands (take k old) f ≡ true) → turn ≤ length old →
    (k f t : ℕ) → slice_get places k ≡ Some t → IsTrue (links routes f t) → stands (take k places) f ≡ true
fed_more routes counts places old turn long settled starts waits fed done k f t e l = go (cases_lt k (length old))
  where
    go : (k < length old) ⊎ (length old ≤ k) → stands (take k places) f ≡ true
    go (inl before) =
        let there : slice_get old k ≡ Some t = sym (ap (λ l. slice_get l k) starts.1 ∙ get_front old starts.0 k before) ∙ e in
        ap (λ d. stands d f) (take_starts places old k starts (omega arith)) ∙ fed k f t there l
    go (inr new) =
        let here : t < length counts = settled.low t (stands_at places k t e) in
        let none : slice_index counts t ≡ 0 = zero_at (stands_at places k t e) here in
        stands_take places turn k f (omega arith) (all_done 0 routes (take turn places) t (sym (waits t here) ∙ none) f f (omega arith) l)
      where
        zero_at : stands places t ≡ true → t < length counts → slice_index counts t ≡ 0
        zero_at h g = let z : eqb (slice_index counts t) 0 ≡ true = sym (settled.zero t g) ∙ h in grind (arith, nat_tests)
