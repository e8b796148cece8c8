-- The plain formulas item by item, and how near their items lie.
use Rattle.std.proofs.Common.{◌≡◌, ℕ, zero, suc, ◌+◌, ◌-◌, ◌*◌, ◌/◌, ◌<◌, ◌≤◌, ℤ, pos, negsuc, ◌+ℤ◌, true, false, List, length, get_or, [], ◌∷◌, FitsSigned, w32, refl, sym, ap, subst, ◌∙◌, arith}
use Rattle.std.specs.Simd.Lanes.{zip2}
use Rattle.std.proofs.lemmas.Int.{ints}
use Rattle.std.proofs.Math.Nat.{div-le_of_le-mul, div-lt_iff_lt-mul, mul-le-mul}
use Rattle.std.proofs.lemmas.List.{length-map, get_or-map}
use Rattle.std.proofs.lemmas.List.Elements.{All-get_or, All-from_get_or}
use Rattle.std.proofs.lemmas.Simd.{length-zip2, get_or-zip2}
use Rattle.sound_model.specs.Numbers.{unity, scale}
use Rattle.mix_kernel.specs.Blocks.{scaled, scaled_evenly, summed, laid_over}
use Rattle.mix_kernel.specs.Bounds.{IsNear, AllNear, AllAtMost}

-- ---- how near a scaled number lies

-- scaled by less than m unities, rounded down
pub scale-near : (s : ℤ) (g n m b : ℕ) → IsNear n s → g ≤ m → n * m ≤ 65536 * b → IsNear b (scale s g)
scale-near (pos k) g n m b near quiet fits =
    let low : k * g ≤ n * m = mul-le-mul (omega (arith, ints)) quiet in
    let part : k * g / 65536 ≤ b = div-le_of_le-mul 65536 (omega arith) in
    (omega (arith, ints), omega (arith, ints))
scale-near (negsuc k) g n m b near quiet fits = go (suc k * g) refl
  where
    product : suc k * g ≤ n * m
    product = mul-le-mul (omega (arith, ints)) quiet

    go : (p : ℕ) → suc k * g ≡ p → IsNear b (scale (negsuc k) g)
    go zero e = rw e (omega (arith, ints), omega (arith, ints))
    go (suc j) e = rw e (let part : j / 65536 < b = (div-lt_iff_lt-mul {k = 65536} {x = j} {y = b} (omega arith)).1 (omega (arith, product)) in (omega (arith, ints), omega (arith, ints)))

pub sum-near : (a c : ℤ) (n m : ℕ) → IsNear n a → IsNear m c → IsNear (n + m) (a +ℤ c)
sum-near a c n m h k = (omega (arith, ints), omega (arith, ints))

pub sample-near : (s : ℤ) → FitsSigned w32 s → IsNear 2147483648 s
sample-near s fits = (omega (arith, ints), omega (arith, ints))

abbrev pub AreSamples : List ℤ → Type 0
AreSamples samples = (k : ℕ) → k < length samples → FitsSigned w32 (get_or samples k (pos 0))

-- ---- sums with scaled samples more

module _ (sums samples : List ℤ) (gains : List ℕ) (few : length samples ≡ length sums) (same : length gains ≡ length sums) where
  pub length-scaled : length (scaled samples gains) ≡ length sums
  length-scaled = length-zip2 scale samples gains (few ∙ sym same) ∙ few

  pub length-summed : length (summed sums (scaled samples gains)) ≡ length sums
  length-summed = length-zip2 ◌+ℤ◌ sums (scaled samples gains) (sym length-scaled)

  pub item-scaled : (k : ℕ) → k < length sums → get_or (scaled samples gains) k (pos 0) ≡ scale (get_or samples k (pos 0)) (get_or gains k 0)
  item-scaled k h = get_or-zip2 scale samples gains k (pos 0) 0 (pos 0) (omega arith) (omega arith)

  pub item-summed : (k : ℕ) → k < length sums → get_or sums k (pos 0) +ℤ scale (get_or samples k (pos 0)) (get_or gains k 0) ≡ get_or (summed sums (scaled samples gains)) k (pos 0)
  item-summed k h =
      let there : k < length (scaled samples gains) = omega (arith, length-scaled) in
      sym (get_or-zip2 ◌+ℤ◌ sums (scaled samples gains) k (pos 0) (pos 0) (pos 0) h there ∙ ap (λ v. get_or sums k (pos 0) +ℤ v) (item-scaled k h))

  -- the gains are at most m, and that many unities take a sample at most c from zero
  pub near-summed : (m c : ℕ) → 2147483648 * m ≤ 65536 * c → AllAtMost m gains → AreSamples samples
      → (b : ℕ) → AllNear b sums → AllNear (b + c) (summed sums (scaled samples gains))
  near-summed m c fits quiet fit b near =
      All-from_get_or (IsNear (b + c)) (summed sums (scaled samples gains)) (pos 0)
      (λ k h. let there : k < length sums = omega (arith, length-summed) in
      subst (IsNear (b + c)) (item-summed k there)
      (sum-near (get_or sums k (pos 0)) (scale (get_or samples k (pos 0)) (get_or gains k 0)) b c
      (All-get_or (IsNear b) sums k (pos 0) there near)
      (scale-near (get_or samples k (pos 0)) (get_or gains k 0) 2147483648 m c (sample-near (get_or samples k (pos 0)) (fit k (omega arith)))
      (All-get_or (λ g. g ≤ m) gains k 0 (omega arith) quiet) fits)))

-- ---- the same, of one gain

module _ (sums samples : List ℤ) (gain : ℕ) (few : length samples ≡ length sums) where
  pub length-even : length (scaled_evenly samples gain) ≡ length sums
  length-even = length-map samples (λ s. scale s gain) ∙ few

  pub length-summed_even : length (summed sums (scaled_evenly samples gain)) ≡ length sums
  length-summed_even = length-zip2 ◌+ℤ◌ sums (scaled_evenly samples gain) (sym length-even)

  pub item-summed_even : (k : ℕ) → k < length sums → get_or sums k (pos 0) +ℤ scale (get_or samples k (pos 0)) gain ≡ get_or (summed sums (scaled_evenly samples gain)) k (pos 0)
  item-summed_even k h =
      let there : k < length (scaled_evenly samples gain) = omega (arith, length-even) in
      sym (get_or-zip2 ◌+ℤ◌ sums (scaled_evenly samples gain) k (pos 0) (pos 0) (pos 0) h there
      ∙ ap (λ v. get_or sums k (pos 0) +ℤ v) (get_or-map (λ s. scale s gain) samples k (pos 0) (pos 0) (omega arith)))

  pub near-summed_even : (m c : ℕ) → 2147483648 * m ≤ 65536 * c → gain ≤ m → AreSamples samples
      → (b : ℕ) → AllNear b sums → AllNear (b + c) (summed sums (scaled_evenly samples gain))
  near-summed_even m c fits quiet fit b near =
      All-from_get_or (IsNear (b + c)) (summed sums (scaled_evenly samples gain)) (pos 0)
      (λ k h. let there : k < length sums = omega (arith, length-summed_even) in
      subst (IsNear (b + c)) (item-summed_even k there)
      (sum-near (get_or sums k (pos 0)) (scale (get_or samples k (pos 0)) gain) b c
      (All-get_or (IsNear b) sums k (pos 0) there near)
      (scale-near (get_or samples k (pos 0)) gain 2147483648 m c (sample-near (get_or samples k (pos 0)) (fit k (omega arith))) quiet fits)))

-- ---- an opaque layer

abbrev left : ℤ → ℕ → ℤ
left b f = scale b (unity - f)

module _ (below samples : List ℤ) (fades : List ℕ) (few : length samples ≡ length below) (same : length fades ≡ length below) where
  length-left : length (zip2 left below fades) ≡ length below
  length-left = length-zip2 left below fades (sym same)

  pub length-laid : length (laid_over below samples fades true) ≡ length below
  length-laid = length-zip2 ◌+ℤ◌ (scaled samples fades) (zip2 left below fades) (length-scaled below samples fades few same ∙ sym length-left) ∙ length-scaled below samples fades few same

  pub item-laid : (k : ℕ) → k < length below → scale (get_or samples k (pos 0)) (get_or fades k 0) +ℤ scale (get_or below k (pos 0)) (unity - get_or fades k 0) ≡ get_or (laid_over below samples fades true) k (pos 0)
  item-laid k h =
      let heard : k < length (scaled samples fades) = omega (arith, length-scaled below samples fades few same) in
      let there : k < length (zip2 left below fades) = omega (arith, length-left) in
      let first = item-scaled below samples fades few same k h in
      let second = get_or-zip2 left below fades k (pos 0) 0 (pos 0) h (omega arith) in
      sym (get_or-zip2 ◌+ℤ◌ (scaled samples fades) (zip2 left below fades) k (pos 0) (pos 0) (pos 0) heard there
      ∙ ap (λ v. v +ℤ get_or (zip2 left below fades) k (pos 0)) first
      ∙ ap (λ v. scale (get_or samples k (pos 0)) (get_or fades k 0) +ℤ v) second)

  pub near-laid : AllAtMost 65536 fades → AreSamples samples
      → (b : ℕ) → AllNear b below → AllNear (b + 2147483648) (laid_over below samples fades true)
  near-laid quiet fit b near =
      All-from_get_or (IsNear (b + 2147483648)) (laid_over below samples fades true) (pos 0)
      (λ k h. let there : k < length below = omega (arith, length-laid) in
      subst (IsNear (b + 2147483648)) (item-laid k there)
      (let heard : IsNear 2147483648 (scale (get_or samples k (pos 0)) (get_or fades k 0)) =
      scale-near (get_or samples k (pos 0)) (get_or fades k 0) 2147483648 65536 2147483648 (sample-near (get_or samples k (pos 0)) (fit k (omega arith)))
      (All-get_or (λ g. g ≤ 65536) fades k 0 (omega arith) quiet) (omega arith) in
      let under : IsNear b (scale (get_or below k (pos 0)) (unity - get_or fades k 0)) =
      scale-near (get_or below k (pos 0)) (unity - get_or fades k 0) b 65536 b (All-get_or (IsNear b) below k (pos 0) there near) (omega arith) (omega arith) in
      let both = sum-near (scale (get_or samples k (pos 0)) (get_or fades k 0)) (scale (get_or below k (pos 0)) (unity - get_or fades k 0)) 2147483648 b heard under in
      let swap : 2147483648 + b ≡ b + 2147483648 = omega arith in
      subst (λ n. IsNear n (scale (get_or samples k (pos 0)) (get_or fades k 0) +ℤ scale (get_or below k (pos 0)) (unity - get_or fades k 0))) swap both))

-- ---- a transparent layer

pub transparent : (below samples : List ℤ) (fades : List ℕ) → summed below (scaled samples fades) ≡ laid_over below samples fades false
transparent below samples fades = swapped below (scaled samples fades)
  where
    commute : (a c : ℤ) → a +ℤ c ≡ c +ℤ a
    commute a c = omega (arith, ints)

    swapped : (xs ys : List ℤ) → summed xs ys ≡ summed ys xs
    swapped [] [] = refl
    swapped [] (y ∷ ys) = refl
    swapped (x ∷ xs) [] = refl
    swapped (x ∷ xs) (y ∷ ys) = rw (commute x y, swapped xs ys) refl
