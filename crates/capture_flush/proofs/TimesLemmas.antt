-- The same zeros, so many times.
use Rattle.std.proofs.Common.{◌≡◌, ℕ, ◌+◌, ◌-◌, ◌*◌, ◌<◌, List, ◌++◌, length, ap, sym, ◌∙◌, arith}
use Rattle.std.specs.Prelude.{replicate}
use Rattle.std.proofs.lemmas.List.{replicate-append-replicate}

zeros_of : ℕ → List ℕ
zeros_of n = replicate n 0

-- one time more
pub once_more : (time : ℕ) (zeros : List ℕ) → zeros ≡ replicate (length zeros) 0 → replicate (time * length zeros) 0 ++ zeros ≡ replicate ((time + 1) * length zeros) 0
unfolding zeros_of
once_more time zeros are = ap (λ zs. replicate (time * length zeros) 0 ++ zs) are ∙ replicate-append-replicate (time * length zeros) (length zeros) 0
    ∙ ap zeros_of (grind arith)

mul_add : (a b c : ℕ) → (a + b) * c ≡ a * c + b * c
mul_add a b c = grind arith

-- these times and those still to come
pub times_from : (time times size : ℕ) → time < times → (rest : ℕ) × (◌≡◌ {A = List ℕ} (replicate (times * size) 0) (replicate ((time + 1) * size) 0 ++ replicate rest 0))
unfolding zeros_of
times_from time times size less = let more : ℕ = times - (time + 1) in
    (more * size, sym (replicate-append-replicate ((time + 1) * size) (more * size) 0 ∙ ap (zeros_of) (all time times size less)))
  where
    all : (time times size : ℕ) → time < times → (time + 1) * size + (times - (time + 1)) * size ≡ times * size
    all time times size less = let e : times ≡ (time + 1) + (times - (time + 1)) = omega arith in let more = times - (time + 1) in
        sym (ap (λ n. n * size) e ∙ mul_add (time + 1) more size)
