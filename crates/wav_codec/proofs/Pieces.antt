-- Lemmas on the piece of a file that was asked for: take n (drop p b).
use Rattle.std.proofs.Common.{◌≡◌, ℕ, zero, suc, ◌+◌, ◌-◌, ◌<◌, ◌≤◌, List, length, take, drop, get_or, sym, ap, ◌∙◌, arith, length-take, length-drop}
use Rattle.std.specs.Int.{byte_worth, sum_through}
use Rattle.std.proofs.lemmas.List.{get_or-take, get_or-drop, take-take}
use Rattle.sound_model.specs.Numbers.{number}

-- ---- a part of the piece is a part of the file

get_or-part : (m n p i : ℕ) (b piece : List ℕ) → piece ≡ take n (drop p b) → m + i < n
    → get_or (drop m piece) i 0 ≡ get_or (drop m (drop p b)) i 0
get_or-part m n p i b piece e h =
    get_or-drop m piece i 0 ∙ ap (λ xs. get_or xs (m + i) 0) e ∙ get_or-take n (drop p b) (m + i) 0 h
    ∙ sym (get_or-drop m (drop p b) i 0)

same_sum : (f g : ℕ → ℕ) (k : ℕ) → ((i : ℕ) → i ≤ k → f i ≡ g i) → sum_through f k ≡ sum_through g k
same_sum f g zero h = h 0 (omega arith)
same_sum f g (suc k) h =
    ap (λ n. n + f (suc k)) (same_sum f g k (λ i l. h i (omega arith))) ∙ ap (λ n. sum_through g k + n) (h (suc k) (omega arith))

-- a number in the piece
pub number-part : (k m n p : ℕ) (b piece : List ℕ) → piece ≡ take n (drop p b) → 0 < k → m + k ≤ n
    → number k (drop m piece) ≡ number k (drop m (drop p b))
number-part k m n p b piece e some h =
    same_sum (λ i. byte_worth i (get_or (drop m piece) i 0)) (λ i. byte_worth i (get_or (drop m (drop p b)) i 0)) (k - 1)
    (λ i l. ap (byte_worth i) (get_or-part m n p i b piece e (omega arith)))

-- a word at the front of the piece
pub take-part : (k n p : ℕ) (b piece : List ℕ) → piece ≡ take n (drop p b) → k ≤ n → take k piece ≡ take k (drop p b)
take-part k n p b piece e h = ap (take k) e ∙ take-take k n (drop p b) h

-- ---- how long the piece is

-- a piece that is whole lies within the file
pub whole_piece : (n p : ℕ) (b piece : List ℕ) → piece ≡ take n (drop p b) → n ≤ length piece → 0 < n → p + n ≤ length b
whole_piece n p b piece e whole some =
    omega (arith, whole, ap length e, length-take n (drop p b), length-drop p b)

-- and one that isn't ends where the file does
pub short_piece : (n p : ℕ) (b piece : List ℕ) → piece ≡ take n (drop p b) → length piece < n → length b < p + n
short_piece n p b piece e short =
    omega (arith, short, ap length e, length-take n (drop p b), length-drop p b)
