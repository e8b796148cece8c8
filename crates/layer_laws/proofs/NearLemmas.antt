-- Regions laid one over another: the highest last, and within a bound.
use Rattle.std.proofs.Common.{◌≡◌, ℕ, zero, suc, ◌+◌, ◌-◌, ◌*◌, ◌/◌, ◌^◌, ◌≤◌, ◌<◌, ap, arith, sym, subst, List, [], ◌∷◌, length, All}
use Rattle.std.specs.Prelude.{ℤ, pos, negsuc, ◌+ℤ◌}
use Rattle.std.proofs.lemmas.Int.{ints}
use Rattle.std.proofs.lemmas.List.{reverse-append}
use Rattle.std.proofs.lemmas.List.Elements.{All-head, All-tail}
use Rattle.std.proofs.Math.Nat.{div-le_of_le-mul, div-lt_iff_lt-mul, mul-le-mul}
use Rattle.sound_model.specs.Numbers.{unity, scale}
use Rattle.sound_model.specs.Regions.{Region, Sounds, covers, fade, region_sample}
use Rattle.sound_model.specs.Layers.{over, lay}
use Rattle.sound_laws.proofs.Cases.{by_test}
use Rattle.sound_laws.proofs.FadeLaws.{stays_within}
use Rattle.sound_laws.proofs.LayerLaws.{lay-there, lay-elsewhere}
use Rattle.sound_laws.proofs.NumberLaws.{scale-silence}
use Rattle.session_model.specs.Frames.{IsSample}
use Rattle.layer_laws.specs.Laws.{LaysFromTheLowest, IsNear, RegionsStayNear, OverStaysNear, LayersStayNear}

pub lays_from_the_lowest : LaysFromTheLowest
lays_from_the_lowest sounds rs r c x = ap (lay sounds c x) (reverse-append rs (r ∷ []))

-- ---- within a bound

pub near_more : (b d : ℕ) (v : ℤ) → b ≤ d → IsNear b v → IsNear d v
near_more b d v h near = record { low = omega (arith, ints, near.low); high = omega (arith, ints, near.high) }

near_sum : (b d : ℕ) (v w : ℤ) → IsNear b v → IsNear d w → IsNear (d + b) (v +ℤ w)
near_sum b d v w h g = record { low = omega (arith, ints, h.low, g.low); high = omega (arith, ints, h.high, g.high) }

share : (n g b k : ℕ) → n ≤ b → g ≤ k * 65536 → n * g / 65536 ≤ k * b
share n g b k h few = let product : n * g ≤ b * (k * 65536) = mul-le-mul h few in div-le_of_le-mul 65536 (omega arith)

-- the share below silence, where numbers are rounded down
share_below : (n g b k : ℕ) → suc n ≤ b → suc g ≤ k * 65536 → suc ((n * suc g + g) / 65536) ≤ k * b
share_below n g b k h few =
    let product : suc n * suc g ≤ b * (k * 65536) = mul-le-mul h few in
    let whole : n * suc g + g < k * b * 65536 = omega arith in
    (div-lt_iff_lt-mul (omega arith)).1 whole

scale_near : (k b g : ℕ) (s : ℤ) → g ≤ k * 65536 → IsNear b s → IsNear (k * b) (scale s g)
scale_near k b g (pos n) few near = let at_most : n * g / 65536 ≤ k * b = share n g b k (omega (arith, ints, near.high)) few in
    record { low = omega (arith, ints); high = omega (arith, ints) }
scale_near k b zero (negsuc n) few near = rw scale-silence (record { low = omega (arith, ints); high = omega (arith, ints) })
scale_near k b (suc g) (negsuc n) few near = let at_most : suc ((n * suc g + g) / 65536) ≤ k * b = share_below n g b k (omega (arith, ints, near.low)) few in
    let whole : suc n * suc g ≡ suc (n * suc g + g) = omega arith in
    rw whole (record { low = omega (arith, ints); high = omega (arith, ints) })

-- a share of unity
faded_near : (b g : ℕ) (s : ℤ) → g ≤ 65536 → IsNear b s → IsNear b (scale s g)
faded_near b g s few near = near_more (1 * b) b (scale s g) (omega arith) (scale_near 1 b g s (omega arith) near)

pub over_stays_near : OverStaysNear
over_stays_near sounds r c x b below own near = by_test r.opaque
    (λ e. rw e (near_sum (2 ^ 25) b (scale (region_sample sounds r c x) faded) (scale below (unity - faded)) heard (faded_near b (unity - faded) below (omega arith) near)))
    (λ e. rw e (near_sum (2 ^ 25) b (scale (region_sample sounds r c x) faded) below heard near))
  where
    faded : ℕ
    faded = fade r (x - r.at)

    heard : IsNear (2 ^ 25) (scale (region_sample sounds r c x) faded)
    heard = faded_near (2 ^ 25) faded (region_sample sounds r c x) (stays_within r (x - r.at)) own

sample_near : (v : ℤ) → IsSample v → IsNear (2 ^ 23) v
sample_near v h = record { low = h.low; high = omega (arith, ints, h.high) }

pub regions_stay_near : RegionsStayNear
regions_stay_near sounds r c x samples loud = by_test (covers r x)
    (λ e. rw e (scale_near 4 (2 ^ 23) r.gain (sounds r.source (r.start + x - r.at) c) (omega arith) (sample_near (sounds r.source (r.start + x - r.at) c) (samples (r.start + x - r.at)))))
    (λ e. rw e (record { low = record { le = tt }; high = record { le = tt } }))

lay_near : (sounds : Sounds) (rs : List Region) (c x : ℕ) → All (λ r. IsNear (2 ^ 25) (region_sample sounds r c x)) rs → IsNear (length rs * 2 ^ 25) (lay sounds c x rs)
lay_near sounds [] c x all = record { low = record { le = tt }; high = record { le = tt } }
lay_near sounds (r ∷ rs) c x all =
    let Near : ℤ → Type 0 = λ v. IsNear (suc (length rs) * 2 ^ 25) v in
    let below = lay_near sounds rs c x (All-tail (λ q. IsNear (2 ^ 25) (region_sample sounds q c x)) r rs all) in
    by_test (covers r x)
    (λ e. subst Near (sym (lay-there sounds c x r rs e))
    (near_more (length rs * 2 ^ 25 + 2 ^ 25) (suc (length rs) * 2 ^ 25) (over sounds c x r (lay sounds c x rs)) (omega arith)
    (over_stays_near sounds r c x (length rs * 2 ^ 25) (lay sounds c x rs) (All-head (λ q. IsNear (2 ^ 25) (region_sample sounds q c x)) r rs all) below)))
    (λ e. subst Near (sym (lay-elsewhere sounds c x r rs e)) (near_more (length rs * 2 ^ 25) (suc (length rs) * 2 ^ 25) (lay sounds c x rs) (omega arith) below))

pub layers_stay_near : LayersStayNear
layers_stay_near sounds rs c x few all = near_more (length rs * 2 ^ 25) (2 ^ 33) (lay sounds c x rs) (omega arith) (lay_near sounds rs c x all)
