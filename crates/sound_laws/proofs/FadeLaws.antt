-- The fade values of a region.
use Rattle.std.proofs.Common.{◌≡◌, ℕ, ◌*◌, ◌/◌, ◌≤◌, refl, arith}
use Rattle.std.proofs.lemmas.Bool.Decides.{nat_tests}
use Rattle.std.proofs.Math.Nat.{div-le_of_le-mul, mul-le-mul}
use Rattle.sound_model.specs.Regions.{Shape, Linear, Slow, shaped}
use Rattle.sound_laws.specs.Values.{FadeStaysWithin, FadeInRises, FadeOutFalls, FullBetweenFades, FadeInBeginsSilent, FadeOutEndsSilent, SlowLiesBelow, SlowMeetsLinear, SlowFadesLieBelow}
use Rattle.sound_laws.proofs.NumberLaws.{quotient_rises}

share : (k long : ℕ) → k ≤ long → 65536 * k / long ≤ 65536
share k long h = div-le_of_le-mul long (omega arith)

-- ---- a shape keeps 0 and unity, and the order of values

pub slow_lies_below : SlowLiesBelow
slow_lies_below v h = let squares : v * v ≤ 65536 * v = mul-le-mul h (omega arith) in div-le_of_le-mul 65536 (omega arith)

pub slow_meets_linear : SlowMeetsLinear
slow_meets_linear = (refl, refl)

shaped_within : (shape : Shape) (v : ℕ) → v ≤ 65536 → shaped shape v ≤ v
shaped_within Linear v h = omega arith
shaped_within Slow v h = slow_lies_below v h

shaped_rises : (shape : Shape) (u v : ℕ) → u ≤ v → shaped shape u ≤ shaped shape v
shaped_rises Linear u v h = h
shaped_rises Slow u v h = quotient_rises (u * u) (v * v) 65536 (mul-le-mul h h)

-- ---- a share of unity in a shape

shared_within : (shape : Shape) (k long : ℕ) → k ≤ long → shaped shape (65536 * k / long) ≤ 65536
shared_within shape k long h = omega (arith, shaped_within shape (65536 * k / long) (share k long h), share k long h)

shared_below : (shape : Shape) (k long : ℕ) → k ≤ long → shaped shape (65536 * k / long) ≤ 65536 * k / long
shared_below shape k long h = shaped_within shape (65536 * k / long) (share k long h)

shared_rises : (shape : Shape) (j k long : ℕ) → j ≤ k → shaped shape (65536 * j / long) ≤ shaped shape (65536 * k / long)
shared_rises shape j k long h = shaped_rises shape (65536 * j / long) (65536 * k / long) (quotient_rises (65536 * j) (65536 * k) long (omega arith))

shared_silent : (shape : Shape) (k long : ℕ) → k ≡ 0 → shaped shape (65536 * k / long) ≡ 0
shared_silent shape k long h = omega (arith, shared_below shape k long (omega arith))

-- a slow one, as it computes
square_below : (k long : ℕ) → k ≤ long → 65536 * k / long * (65536 * k / long) / 65536 ≤ 65536 * k / long
square_below k long h = slow_lies_below (65536 * k / long) (share k long h)

pub stays_within : FadeStaysWithin
stays_within r i = grind (arith, nat_tests, shared_within)

pub rises_in : FadeInRises
rises_in r i j h below = grind (arith, nat_tests, shared_rises)

pub falls_out : FadeOutFalls
falls_out r i j h behind out = grind (arith, nat_tests, shared_rises)

pub full_between : FullBetweenFades
full_between r i behind before = grind (arith, nat_tests)

pub begins_silent : FadeInBeginsSilent
begins_silent r there = grind (arith, nat_tests, shared_silent)

pub ends_silent : FadeOutEndsSilent
ends_silent r there fits = grind (arith, nat_tests, shared_silent)

pub slow_fades_lie_below : SlowFadesLieBelow
slow_fades_lie_below r i = grind (arith, nat_tests, square_below)
