-- What says nothing of the sound of a track, and what adds up.
use Rattle.std.proofs.Common.{◌≡◌, ◌≢◌, ℕ, ◌+◌, ◌-◌, true, false, cond, refl, ap, arith, ◌∙◌, sym, List, [], ◌∷◌, ◌++◌, reverse, append_assoc, append-nil, subst}
use Rattle.std.specs.Prelude.{ℤ, pos, ◌+ℤ◌}
use Rattle.std.specs.List.{AllByRecursion}
use Rattle.std.proofs.lemmas.Bool.Decides.{nat_tests}
use Rattle.std.proofs.lemmas.Int.{ints}
use Rattle.std.proofs.lemmas.List.{reverse-append}
use Rattle.sound_model.specs.Numbers.{unity, scale, clip}
use Rattle.sound_model.specs.Regions.{Region, Sounds, covers, fade, region_sample}
use Rattle.sound_model.specs.Layers.{is_below, lay, over, with_region, by_layer, track_sample}
use Rattle.sound_laws.specs.Tracks.{Hides, AddsUp, sum_of_regions, BelowIsUnheard, ElsewhereSaysNothing, ListingSaysNothing, TransparentRegionsAddUp}
use Rattle.sound_laws.proofs.Cases.{by_test}
use Rattle.sound_laws.proofs.LayerLaws.{Joins, joins, with-before, with-behind, below_flips, every_with, lay-there, lay-elsewhere, lay-above, hides_all_below}
use Rattle.sound_laws.proofs.NumberLaws.{scale_unity, zero-plus}

-- ---- listing

apart : (q r : Region) → q.id ≢ r.id → is_below q r ≡ false → is_below r q ≡ true
apart q r ids h = grind (arith, nat_tests)

still_apart : (q r s : Region) → is_below r s ≡ true → is_below q s ≡ false → is_below q r ≡ false
still_apart q r s h g = grind (arith, nat_tests)

-- both come before s
swap_before : (q r s : Region) (rs : List Region) → is_below r s ≡ true → is_below q s ≡ true → is_below q r ≡ true →
    with_region q (with_region r (s ∷ rs)) ≡ with_region r (with_region q (s ∷ rs))
swap_before q r s rs h g e = let flipped : is_below r q ≡ false = below_flips q r e in
    ap (with_region q) (with-before r s rs h) ∙ with-before q r (s ∷ rs) e
    ∙ sym (ap (with_region r) (with-before q s rs g) ∙ with-behind r q (s ∷ rs) flipped ∙ ap (λ xs. q ∷ xs) (with-before r s rs h))

-- r comes before s, and q behind it
swap_round : (q r s : Region) (rs : List Region) → is_below r s ≡ true → is_below q s ≡ false →
    with_region q (with_region r (s ∷ rs)) ≡ with_region r (with_region q (s ∷ rs))
swap_round q r s rs h g =
    ap (with_region q) (with-before r s rs h) ∙ with-behind q r (s ∷ rs) (still_apart q r s h g) ∙ ap (λ xs. r ∷ xs) (with-behind q s rs g)
    ∙ sym (ap (with_region r) (with-behind q s rs g) ∙ with-before r s (with_region q rs) h)

-- both come behind s
swap_behind : (q r s : Region) (rs : List Region) → is_below r s ≡ false → is_below q s ≡ false →
    with_region q (with_region r rs) ≡ with_region r (with_region q rs) →
    with_region q (with_region r (s ∷ rs)) ≡ with_region r (with_region q (s ∷ rs))
swap_behind q r s rs h g e =
    ap (with_region q) (with-behind r s rs h) ∙ with-behind q s (with_region r rs) g ∙ ap (λ xs. s ∷ xs) e
    ∙ sym (ap (with_region r) (with-behind q s rs g) ∙ with-behind r s (with_region q rs) h)

with_region-swap : (q r : Region) (rs : List Region) → q.id ≢ r.id → with_region q (with_region r rs) ≡ with_region r (with_region q rs)
with_region-swap q r [] ids = by_test (is_below q r)
    (λ e. with-before q r [] e ∙ sym (with-behind r q [] (below_flips q r e)))
    (λ e. with-behind q r [] e ∙ sym (with-before r q [] (apart q r ids e)))
with_region-swap q r (s ∷ rs) ids = by_test (is_below r s)
    (λ h. by_test (is_below q s)
    (λ g. by_test (is_below q r)
    (λ e. swap_before q r s rs h g e)
    (λ e. sym (swap_before r q s rs g h (apart q r ids e))))
    (λ g. swap_round q r s rs h g))
    (λ h. by_test (is_below q s)
    (λ g. sym (swap_round r q s rs g h))
    (λ g. swap_behind q r s rs h g (with_region-swap q r rs ids)))

by_layer-swap : (front back : List Region) (q r : Region) → q.id ≢ r.id → by_layer (front ++ q ∷ r ∷ back) ≡ by_layer (front ++ r ∷ q ∷ back)
by_layer-swap [] back q r ids = with_region-swap q r (by_layer back) ids
by_layer-swap (s ∷ front) back q r ids = ap (with_region s) (by_layer-swap front back q r ids)

heard : Sounds → ℕ → ℕ → List Region → ℤ
heard sounds c x rs = clip (lay sounds c x (reverse rs))

pub listing_says_nothing : ListingSaysNothing
unfolding track_sample heard
listing_says_nothing sounds front back q r c x ids = ap (heard sounds c x) (by_layer-swap front back q r ids)

-- ---- one region more, and the sound

reverse-middle : (low high : List Region) (r : Region) → reverse (low ++ r ∷ high) ≡ reverse high ++ r ∷ reverse low
reverse-middle low high r = reverse-append low (r ∷ high) ∙ ap (λ xs. xs ++ reverse low) (reverse-append (r ∷ []) high) ∙ append_assoc (reverse high) (r ∷ []) (reverse low)

lay-silent : (sounds : Sounds) (c x : ℕ) (r : Region) (old new : List Region) → Joins r old new → covers r x ≡ false →
    lay sounds c x (reverse new) ≡ lay sounds c x (reverse old)
lay-silent sounds c x r old new h away =
    ap (λ rs. lay sounds c x (reverse rs)) h.after ∙ ap (lay sounds c x) (reverse-middle h.low h.high r)
    ∙ lay-above sounds c x (reverse h.high) (r ∷ reverse h.low) (reverse h.low) (lay-elsewhere sounds c x r (reverse h.low) away)
    ∙ ap (lay sounds c x) (sym (reverse-append h.low h.high)) ∙ ap (λ rs. lay sounds c x (reverse rs)) (sym h.before)

pub elsewhere_says_nothing : ElsewhereSaysNothing
unfolding track_sample
elsewhere_says_nothing sounds regions r c x away =
    ap clip (lay-silent sounds c x r (by_layer regions) (with_region r (by_layer regions)) (joins r (by_layer regions)) away)

-- ---- what is put below a region that hides it

-- r stands somewhere in a list
record HasRegion (r : Region) (rs : List Region) : Type 0 where
  low : List Region
  high : List Region
  is : rs ≡ low ++ r ∷ high

-- a region that comes below r leaves what stands above r
joins_below : (q r : Region) (low high : List Region) → is_below q r ≡ true → (lower : List Region) × (with_region q (low ++ r ∷ high) ≡ lower ++ r ∷ high)
joins_below q r [] high below = (q ∷ [], with-before q r high below)
joins_below q r (s ∷ low) high below = by_test (is_below q s)
    (λ e. (q ∷ s ∷ low, with-before q s (low ++ r ∷ high) e))
    (λ e. let deeper = joins_below q r low high below in (s ∷ deeper.0, with-behind q s (low ++ r ∷ high) e ∙ ap (λ xs. s ∷ xs) deeper.1))

has_with : (q r : Region) (low high : List Region) → HasRegion r (with_region q (low ++ r ∷ high))
has_with q r [] high = by_test (is_below q r)
    (λ e. record { low = q ∷ []; high = high; is = with-before q r high e })
    (λ e. record { low = []; high = with_region q high; is = with-behind q r high e })
has_with q r (s ∷ low) high = by_test (is_below q s)
    (λ e. record { low = q ∷ s ∷ low; high = high; is = with-before q s (low ++ r ∷ high) e })
    (λ e. let deeper : HasRegion r (with_region q (low ++ r ∷ high)) = has_with q r low high in
    record { low = s ∷ deeper.low; high = deeper.high; is = with-behind q s (low ++ r ∷ high) e ∙ ap (λ xs. s ∷ xs) deeper.is })

by_layer-has : (front back : List Region) (r : Region) → HasRegion r (by_layer (front ++ r ∷ back))
by_layer-has [] back r = let h : Joins r (by_layer back) (with_region r (by_layer back)) = joins r (by_layer back) in record { low = h.low; high = h.high; is = h.after }
by_layer-has (q ∷ front) back r = let h : HasRegion r (by_layer (front ++ r ∷ back)) = by_layer-has front back r in
    let K : List Region → Type 0 = λ rs. HasRegion r (with_region q rs) in subst K (sym h.is) (has_with q r h.low h.high)

lay-top : (sounds : Sounds) (c x : ℕ) (r : Region) (low high rs : List Region) → rs ≡ low ++ r ∷ high → Hides r x →
    lay sounds c x (reverse rs) ≡ lay sounds c x (reverse high ++ r ∷ [])
lay-top sounds c x r low high rs e h = ap (λ qs. lay sounds c x (reverse qs)) e ∙ ap (lay sounds c x) (reverse-middle low high r)
    ∙ hides_all_below sounds (reverse high) (reverse low) r c x h

pub below_is_unheard : BelowIsUnheard
unfolding track_sample
below_is_unheard sounds front back q r c x hides below =
    let h : HasRegion r (by_layer (front ++ r ∷ back)) = by_layer-has front back r in
    let lower = joins_below q r h.low h.high below in
    ap clip (lay-top sounds c x r lower.0 h.high (with_region q (by_layer (front ++ r ∷ back))) (ap (with_region q) h.is ∙ lower.1) hides
    ∙ sym (lay-top sounds c x r h.low h.high (by_layer (front ++ r ∷ back)) h.is hides))

-- ---- transparent regions

every_append : (P : Region → Type 0) (rs qs : List Region) → AllByRecursion P rs → AllByRecursion P qs → AllByRecursion P (rs ++ qs)
every_append P [] qs h g = g
every_append P (r ∷ rs) qs h g = (h.0, every_append P rs qs h.1 g)

every_reverse : (P : Region → Type 0) (rs : List Region) → AllByRecursion P rs → AllByRecursion P (reverse rs)
every_reverse P [] h = tt
every_reverse P (r ∷ rs) h = let K : List Region → Type 0 = AllByRecursion P in
    subst K (sym (reverse-append (r ∷ []) rs)) (every_append P (reverse rs) (r ∷ []) (every_reverse P rs h.1) (h.0, tt))

every_by_layer : (P : Region → Type 0) (rs : List Region) → AllByRecursion P rs → AllByRecursion P (by_layer rs)
every_by_layer P [] h = tt
every_by_layer P (r ∷ rs) h = every_with P r (by_layer rs) h.0 (every_by_layer P rs h.1)

sum-middle : (sounds : Sounds) (c x : ℕ) (r : Region) (low high : List Region) →
    sum_of_regions sounds c x (low ++ r ∷ high) ≡ region_sample sounds r c x +ℤ sum_of_regions sounds c x (low ++ high)
sum-middle sounds c x r [] high = refl
sum-middle sounds c x r (q ∷ low) high = ap (λ s. region_sample sounds q c x +ℤ s) (sum-middle sounds c x r low high)
    ∙ past (region_sample sounds q c x) (region_sample sounds r c x) (sum_of_regions sounds c x (low ++ high))
  where
    past : (a b s : ℤ) → a +ℤ (b +ℤ s) ≡ b +ℤ (a +ℤ s)
    past a b s = omega (arith, ints)

sum-with : (sounds : Sounds) (c x : ℕ) (r : Region) (old new : List Region) → Joins r old new →
    sum_of_regions sounds c x new ≡ region_sample sounds r c x +ℤ sum_of_regions sounds c x old
sum-with sounds c x r old new h = ap (sum_of_regions sounds c x) h.after ∙ sum-middle sounds c x r h.low h.high
    ∙ ap (λ rs. region_sample sounds r c x +ℤ sum_of_regions sounds c x rs) (sym h.before)

sum-by_layer : (sounds : Sounds) (c x : ℕ) (rs : List Region) → sum_of_regions sounds c x (by_layer rs) ≡ sum_of_regions sounds c x rs
sum-by_layer sounds c x [] = refl
sum-by_layer sounds c x (r ∷ rs) = sum-with sounds c x r (by_layer rs) (with_region r (by_layer rs)) (joins r (by_layer rs))
    ∙ ap (λ s. region_sample sounds r c x +ℤ s) (sum-by_layer sounds c x rs)

sum-reverse : (sounds : Sounds) (c x : ℕ) (rs : List Region) → sum_of_regions sounds c x (reverse rs) ≡ sum_of_regions sounds c x rs
sum-reverse sounds c x [] = refl
sum-reverse sounds c x (r ∷ rs) = ap (sum_of_regions sounds c x) (reverse-append (r ∷ []) rs) ∙ sum-middle sounds c x r (reverse rs) []
    ∙ ap (λ qs. region_sample sounds r c x +ℤ sum_of_regions sounds c x qs) (append-nil (reverse rs))
    ∙ ap (λ s. region_sample sounds r c x +ℤ s) (sum-reverse sounds c x rs)

-- a transparent region at full fade adds its own sample
over-adds : (sounds : Sounds) (c x : ℕ) (r : Region) (below : ℤ) → r.opaque ≡ false → fade r (x - r.at) ≡ unity →
    over sounds c x r below ≡ region_sample sounds r c x +ℤ below
over-adds sounds c x r below transparent full = rw (transparent, full, scale_unity) refl

not_there : (sounds : Sounds) (c x : ℕ) (r : Region) → covers r x ≡ false → region_sample sounds r c x ≡ pos 0
not_there sounds c x r away = ap (λ b. cond b (scale (sounds r.source (r.start + x - r.at) c) r.gain) (pos 0)) away

lay-sums : (sounds : Sounds) (c x : ℕ) (rs : List Region) → AllByRecursion (AddsUp x) rs → lay sounds c x rs ≡ sum_of_regions sounds c x rs
lay-sums sounds c x [] h = refl
lay-sums sounds c x (r ∷ rs) h = by_test (covers r x)
    (λ e. lay-there sounds c x r rs e ∙ over-adds sounds c x r (lay sounds c x rs) h.0.transparent (h.0.full e)
    ∙ ap (λ s. region_sample sounds r c x +ℤ s) (lay-sums sounds c x rs h.1))
    (λ e. lay-elsewhere sounds c x r rs e ∙ lay-sums sounds c x rs h.1 ∙ sym (zero-plus (sum_of_regions sounds c x rs))
    ∙ ap (λ s. s +ℤ sum_of_regions sounds c x rs) (sym (not_there sounds c x r e)))

pub transparent_regions_add_up : TransparentRegionsAddUp
unfolding track_sample
transparent_regions_add_up sounds regions c x h =
    ap clip (lay-sums sounds c x (reverse (by_layer regions)) (every_reverse (AddsUp x) (by_layer regions) (every_by_layer (AddsUp x) regions h))
    ∙ sum-reverse sounds c x (by_layer regions) ∙ sum-by_layer sounds c x regions)
