-- The fade values before, between and after the fades of a region.
use Rattle.std.proofs.Common.{◌≡◌, ℕ, ◌+◌, ◌-◌, ◌*◌, ◌/◌, ◌<◌, ◌≤◌, All, arith}
use Rattle.std.specs.List.{range_with_len}
use Rattle.std.proofs.lemmas.Bool.Decides.{nat_tests}
use Rattle.std.proofs.lemmas.List.Elements.{All-map}
use Rattle.std.proofs.Math.Nat.{div-le_of_le-mul, mul-le-mul}
use Rattle.sound_model.specs.Regions.{Region, Shape, Linear, Slow, shaped, fade}
use Rattle.ramp_fixed.specs.Fades.{fades}

share : (k long : ℕ) → k ≤ long → 65536 * k / long ≤ 65536
share k long h = div-le_of_le-mul long (omega arith)

shaped_within : (shape : Shape) (v : ℕ) → v ≤ 65536 → shaped shape v ≤ 65536
shaped_within Linear v h = h
shaped_within Slow v h = let squares : v * v ≤ 65536 * v = mul-le-mul h (omega arith) in let low : v * v / 65536 ≤ v = div-le_of_le-mul 65536 (omega arith) in omega arith

shared_within : (shape : Shape) (k long : ℕ) → k ≤ long → shaped shape (65536 * k / long) ≤ 65536
shared_within shape k long h = shaped_within shape (65536 * k / long) (share k long h)

pub fade_within : (r : Region) (i : ℕ) → fade r i ≤ 65536
fade_within r i = grind (arith, nat_tests, shared_within)

pub fades_within : (r : Region) (first count : ℕ) → All (λ f. f ≤ 65536) (fades r first count)
fades_within r first count = All-map (λ f. f ≤ 65536) (fade r) (range_with_len first count) (λ k d h. fade_within r _)

pub fade_rises : (r : Region) (i : ℕ) → i < r.fade_in → shaped r.shape_in (65536 * i / r.fade_in) ≡ fade r i
fade_rises r i h = grind (arith, nat_tests)

pub fade_falls : (r : Region) (i : ℕ) → r.fade_in ≤ i → r.long ≤ i + r.fade_out → shaped r.shape_out (65536 * (r.long - 1 - i) / r.fade_out) ≡ fade r i
fade_falls r i h m = grind (arith, nat_tests)

pub fade_full : (r : Region) (i : ℕ) → r.fade_in ≤ i → i + r.fade_out < r.long → fade r i ≡ 65536
fade_full r i h m = grind (arith, nat_tests)
