-- A list is silence where each of its parts is.
use Rattle.std.proofs.Common.{◌≡◌, ℕ, ◌+◌, ◌*◌, ◌-◌, ◌<◌, ◌≤◌, ◌/◌, ◌++◌, List, length, take, drop, sym, subst, ap, ◌∙◌, arith}
use Rattle.std.specs.Prelude.{ℤ, pos}
use Rattle.std.proofs.lemmas.List.{replicate-append-replicate, take-append-drop, take-replicate, drop-replicate, length-drop, length-take-le}
use Rattle.std.proofs.Math.Seq.{take-add}
use Rattle.piece_item.specs.Silence.{zeros}

-- one part more
pub zero_more : (samples : List ℤ) (n m : ℕ) → take n samples ≡ zeros n → take m (drop n samples) ≡ zeros m → take (n + m) samples ≡ zeros (n + m)
zero_more samples n m front part = take-add n m samples ∙ ap (λ l. l ++ take m (drop n samples)) front ∙ ap (λ l. zeros n ++ l) part ∙ replicate-append-replicate n m (pos 0)

-- a part of silence
pub zero_part : (samples : List ℤ) (n m : ℕ) → n + m ≤ length samples → samples ≡ zeros (length samples) → take m (drop n samples) ≡ zeros m
zero_part samples n m within silent = ap (λ l. take m (drop n l)) silent ∙ ap (take m) (drop-replicate n (length samples) (pos 0)) ∙ take-replicate m (length samples - n) (pos 0) (omega (arith, within))

-- what is left of silence
pub zero_rest : (samples : List ℤ) (n : ℕ) → samples ≡ zeros (length samples) → drop n samples ≡ zeros (length (drop n samples))
zero_rest samples n silent = ap (drop n) silent ∙ drop-replicate n (length samples) (pos 0) ∙ ap zeros (sym (length-drop n samples))

-- the front and what is left
pub zero_all : (samples : List ℤ) (n : ℕ) → n ≤ length samples → take n samples ≡ zeros n → drop n samples ≡ zeros (length (drop n samples)) → samples ≡ zeros (length samples)
zero_all samples n within front rest = sym (take-append-drop n samples) ∙ ap (λ l. l ++ drop n samples) front ∙ ap (λ l. zeros n ++ l) rest
    ∙ replicate-append-replicate n (length (drop n samples)) (pos 0) ∙ ap zeros (omega (arith, length-drop n samples, within))

-- ---- chunks of 64

chunk_long : (samples : List ℤ) (k : ℕ) → k < length samples / 64 → length (take (64 * k + 64 - 64 * k) (drop (64 * k) samples)) ≡ 64
chunk_long samples k lt = length-take-le (64 * k + 64 - 64 * k) (drop (64 * k) samples) (omega (arith, length-drop (64 * k) samples, lt)) ∙ omega arith

-- one chunk more is silence
pub chunk_more : (samples : List ℤ) (k : ℕ) → k < length samples / 64 → take (64 * k) samples ≡ zeros (64 * k) →
    take (64 * k + 64 - 64 * k) (drop (64 * k) samples) ≡ zeros (length (take (64 * k + 64 - 64 * k) (drop (64 * k) samples))) → take (64 * (k + 1)) samples ≡ zeros (64 * (k + 1))
chunk_more samples k lt front part =
    let e : 64 * k + 64 - 64 * k ≡ 64 = omega arith in
    let next : 64 * k + 64 ≡ 64 * (k + 1) = omega arith in
    subst (λ n. take n samples ≡ zeros n) next (zero_more samples (64 * k) 64 front (ap (λ m. take m (drop (64 * k) samples)) (sym e) ∙ part ∙ ap zeros (chunk_long samples k lt)))

-- each chunk of silence is
pub chunk_of : (samples : List ℤ) (k : ℕ) → k < length samples / 64 → samples ≡ zeros (length samples) →
    take (64 * k + 64 - 64 * k) (drop (64 * k) samples) ≡ zeros (length (take (64 * k + 64 - 64 * k) (drop (64 * k) samples)))
chunk_of samples k lt silent = zero_part samples (64 * k) (64 * k + 64 - 64 * k) (omega (arith, lt)) silent ∙ ap zeros (omega (arith, chunk_long samples k lt))
