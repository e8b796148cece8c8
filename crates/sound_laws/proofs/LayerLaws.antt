-- Regions in layers: their order, what is hidden, what says nothing, what adds up.
use Rattle.std.proofs.Common.{◌≡◌, ◌≤◌, get_or, ℕ, true, false, cond, refl, ap, arith, ◌∙◌, sym, List, [], ◌∷◌, ◌++◌, AllPairs, IsPermutation, subst}
use Rattle.std.specs.Prelude.{ℤ}
use Rattle.std.specs.List.{AllByRecursion}
use Rattle.std.proofs.lemmas.Bool.Decides.{nat_tests}
use Rattle.std.proofs.lemmas.List.Sorted.{IsPermutation-refl, IsPermutation-cons, IsPermutation-trans, IsPermutation-sym, IsPermutation-middle}
use Rattle.std.proofs.lemmas.List.Kept.{AllPairs-cons}
use Rattle.std.proofs.lemmas.List.Elements.{All-from_recursion}
use Rattle.sound_model.specs.Regions.{Region, Sounds, covers, region_sample}
use Rattle.sound_model.specs.Layers.{is_below, lay, over, with_region, by_layer}
use Rattle.sound_laws.specs.Tracks.{Hides, HidesAllBelow, RegionsStandInOrder, RegionsAreKept}
use Rattle.sound_laws.proofs.Cases.{by_test}
use Rattle.sound_laws.proofs.NumberLaws.{scale_unity, scale-silence, plus-zero}

-- ---- the step of lay

pub lay-there : (sounds : Sounds) (c x : ℕ) (r : Region) (below : List Region) → covers r x ≡ true →
    lay sounds c x (r ∷ below) ≡ over sounds c x r (lay sounds c x below)
lay-there sounds c x r below h = ap (λ b. cond b (over sounds c x r (lay sounds c x below)) (lay sounds c x below)) h

pub lay-elsewhere : (sounds : Sounds) (c x : ℕ) (r : Region) (below : List Region) → covers r x ≡ false →
    lay sounds c x (r ∷ below) ≡ lay sounds c x below
lay-elsewhere sounds c x r below h = ap (λ b. cond b (over sounds c x r (lay sounds c x below)) (lay sounds c x below)) h

-- what lies above goes on from the sound below
pub lay-above : (sounds : Sounds) (c x : ℕ) (above below other : List Region) → lay sounds c x below ≡ lay sounds c x other →
    lay sounds c x (above ++ below) ≡ lay sounds c x (above ++ other)
lay-above sounds c x [] below other same = same
lay-above sounds c x (q ∷ above) below other same =
    ap (λ s. cond (covers q x) (over sounds c x q s) s) (lay-above sounds c x above below other same)

-- ---- what is hidden

-- an opaque region at full fade gives its own sample, whatever lies below it
over-hides : (sounds : Sounds) (c x : ℕ) (r : Region) (below : ℤ) → Hides r x → over sounds c x r below ≡ region_sample sounds r c x
over-hides sounds c x r below h = rw (h.opaque, h.full, scale_unity, scale-silence, plus-zero) refl

lay-hides : (sounds : Sounds) (c x : ℕ) (r : Region) (below : List Region) → Hides r x →
    lay sounds c x (r ∷ below) ≡ region_sample sounds r c x
lay-hides sounds c x r below h = lay-there sounds c x r below h.there ∙ over-hides sounds c x r (lay sounds c x below) h

pub hides_all_below : HidesAllBelow
hides_all_below sounds above below r c x h =
    lay-above sounds c x above (r ∷ below) (r ∷ []) (lay-hides sounds c x r below h ∙ sym (lay-hides sounds c x r [] h))

-- ---- one region more

pub with-before : (r q : Region) (qs : List Region) → is_below r q ≡ true → with_region r (q ∷ qs) ≡ r ∷ q ∷ qs
with-before r q qs e = ap (λ b. cond b (r ∷ q ∷ qs) (q ∷ with_region r qs)) e

pub with-behind : (r q : Region) (qs : List Region) → is_below r q ≡ false → with_region r (q ∷ qs) ≡ q ∷ with_region r qs
with-behind r q qs e = ap (λ b. cond b (r ∷ q ∷ qs) (q ∷ with_region r qs)) e

-- r came between two parts of a list
pub record Joins (r : Region) (old new : List Region) : Type 0 where
  pub low : List Region
  pub high : List Region
  pub before : old ≡ low ++ high
  pub after : new ≡ low ++ r ∷ high

joins_first : (r q : Region) (qs : List Region) → is_below r q ≡ true → Joins r (q ∷ qs) (with_region r (q ∷ qs))
joins_first r q qs e = record { low = []; high = q ∷ qs; before = refl; after = with-before r q qs e }

joins_later : (r q : Region) (qs : List Region) → is_below r q ≡ false → Joins r qs (with_region r qs) → Joins r (q ∷ qs) (with_region r (q ∷ qs))
joins_later r q qs e h = record {
  low = q ∷ h.low;
  high = h.high;
  before = ap (λ xs. q ∷ xs) h.before;
  after = with-behind r q qs e ∙ ap (λ xs. q ∷ xs) h.after;
}

pub joins : (r : Region) (qs : List Region) → Joins r qs (with_region r qs)
joins r [] = record { low = []; high = []; before = refl; after = refl }
joins r (q ∷ qs) = by_test (is_below r q) (joins_first r q qs) (λ e. joins_later r q qs e (joins r qs))

-- ---- the order

pub below_flips : (q r : Region) → is_below q r ≡ true → is_below r q ≡ false
below_flips q r h = grind (arith, nat_tests)

below_chain : (q r s : Region) → is_below s q ≡ false → is_below r q ≡ true → is_below s r ≡ false
below_chain q r s h g = grind (arith, nat_tests)

every_more : {P Q : Region → Type 0} → ((r : Region) → P r → Q r) → (rs : List Region) → AllByRecursion P rs → AllByRecursion Q rs
every_more more [] all = tt
every_more more (r ∷ rs) all = (more r all.0, every_more more rs all.1)

pub every_with : (P : Region → Type 0) (r : Region) (rs : List Region) → P r → AllByRecursion P rs → AllByRecursion P (with_region r rs)
every_with P r [] here all = (here, tt)
every_with P r (q ∷ qs) here all = by_test (is_below r q)
    (λ e. let K : List Region → Type 0 = AllByRecursion P in subst K (sym (with-before r q qs e)) (here, (all.0, all.1)))
    (λ e. let K : List Region → Type 0 = AllByRecursion P in subst K (sym (with-behind r q qs e)) (all.0, every_with P r qs here all.1))

-- none lies below one that it stands behind
abbrev pub InOrder : List Region → Type 0
InOrder [] = Unit {0}
InOrder (q ∷ qs) = AllByRecursion (λ r. is_below r q ≡ false) qs × InOrder qs

in_order_with : (r : Region) (qs : List Region) → InOrder qs → InOrder (with_region r qs)
in_order_with r [] h = (tt, tt)
in_order_with r (q ∷ qs) h = by_test (is_below r q)
    (λ e. subst InOrder (sym (with-before r q qs e)) ((below_flips r q e, every_more (λ s g. below_chain q r s g e) qs h.0), h))
    (λ e. subst InOrder (sym (with-behind r q qs e)) (every_with (λ s. is_below s q ≡ false) r qs e h.0, in_order_with r qs h.1))

pub in_order_by_layer : (rs : List Region) → InOrder (by_layer rs)
in_order_by_layer [] = tt
in_order_by_layer (r ∷ rs) = in_order_with r (by_layer rs) (in_order_by_layer rs)

abbrev InPairs : List Region → Type 0
InPairs rs = AllPairs (λ q r. is_below r q ≡ false) rs

in_pairs : (rs : List Region) → InOrder rs → InPairs rs
in_pairs [] h = λ i j d before within. absurd (omega arith)
in_pairs (r ∷ rs) h = AllPairs-cons (λ q s. is_below s q ≡ false) r rs (All-from_recursion (λ s. is_below s r ≡ false) rs h.0) (in_pairs rs h.1)

-- what doesn't lie below another is on its layer or above, and on its layer has no lesser id
above_is : (q r : Region) → is_below r q ≡ false → (q.layer ≤ r.layer) × (q.layer ≡ r.layer → q.id ≤ r.id)
above_is q r h = (layers, ids)
  where
    layers : q.layer ≤ r.layer
    layers = grind (arith, nat_tests)

    ids : q.layer ≡ r.layer → q.id ≤ r.id
    ids same = grind (arith, nat_tests)

pub regions_stand_in_order : RegionsStandInOrder
regions_stand_in_order regions i j d before within =
    above_is (get_or (by_layer regions) i d) (get_or (by_layer regions) j d) (in_pairs (by_layer regions) (in_order_by_layer regions) i j d before within)

kept_with : (r : Region) (qs : List Region) → Joins r qs (with_region r qs) → IsPermutation (r ∷ qs) (with_region r qs)
kept_with r qs h = rw (h.after, h.before) (IsPermutation-sym _ _ (IsPermutation-middle h.low r h.high))

pub regions_are_kept : RegionsAreKept
regions_are_kept [] = IsPermutation-refl []
regions_are_kept (r ∷ rs) = IsPermutation-trans _ _ _ (IsPermutation-cons r rs (by_layer rs) (regions_are_kept rs)) (kept_with r (by_layer rs) (joins r (by_layer rs)))
