-- Sums that lie near zero lie within wider bounds too.
use Rattle.std.proofs.Common.{ℕ, ◌+◌, ◌≤◌, ℤ, List, arith}
use Rattle.std.proofs.lemmas.Int.{ints}
use Rattle.std.proofs.lemmas.List.Elements.{All-weaker}
use Rattle.mix_kernel.specs.Bounds.{IsNear, AllNear, GoesOn}

pub near_more : (a b : ℕ) (zs : List ℤ) → a ≤ b → AllNear a zs → AllNear b zs
near_more a b zs h near = All-weaker (IsNear a) (IsNear b) (λ z n. (omega (arith, ints), omega (arith, ints))) zs near

pub goes_more : (a b : ℕ) (old new : List ℤ) → a ≤ b → GoesOn a old new → GoesOn b old new
goes_more a b old new h goes = λ n near. near_more (n + a) (n + b) new (omega arith) (goes n near)
