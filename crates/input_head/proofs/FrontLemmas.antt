-- What a front of a list of bytes has in common with the whole.
use Rattle.std.proofs.Common.{◌≡◌, ℕ, zero, suc, ◌+◌, ◌<◌, ◌≤◌, ◌⊎◌, inl, inr, refl, ap, arith, ◌∙◌, sym, nat_lt, nat_le, ◌&&◌, List, [], ◌∷◌, length, take, drop, length-take}
use Rattle.std.specs.Prelude.{bytes_eq}
use Rattle.std.proofs.lemmas.Bool.{cases_lt, lt-ltb, le-ltb, le-leb, lt-leb}
use Rattle.std.proofs.lemmas.List.{take-take}
use Rattle.sound_model.specs.Numbers.{number}
use Rattle.sound_model.specs.Wav.{begins_at, stands, size_at}
use Rattle.wav_codec.proofs.Pieces.{number-part}

-- bytes that lie in the front
pub same_bytes : (k p n : ℕ) (b : List ℕ) → p + k ≤ n → take k (drop p (take n b)) ≡ take k (drop p b)
same_bytes k zero n b h = take-take k n b (omega arith)
same_bytes k (suc p) zero b h = absurd (omega arith)
same_bytes k (suc p) (suc n) [] h = refl
same_bytes k (suc p) (suc n) (x ∷ b) h = same_bytes k p n b (omega arith)

-- a number that lies in it
pub same_number : (k p n : ℕ) (b : List ℕ) → 0 < k → p + k ≤ n → number k (drop p (take n b)) ≡ number k (drop p b)
same_number k p n b some h = number-part k p n 0 b (take n b) refl some h

pub same_word : (p n : ℕ) (b word : List ℕ) → p + length word ≤ n → begins_at (take n b) p word ≡ begins_at b p word
same_word p n b word h = ap (λ xs. bytes_eq xs word) (same_bytes (length word) p n b h)

-- it ends before a place within it only where the whole does
pub same_end : (m n : ℕ) (b : List ℕ) → m ≤ n → nat_lt (length (take n b)) m ≡ nat_lt (length b) m
same_end m n b h = go (cases_lt (length b) m)
  where
    go : (length b < m) ⊎ (m ≤ length b) → nat_lt (length (take n b)) m ≡ nat_lt (length b) m
    go (inl few) = lt-ltb (length (take n b)) m (omega (arith, length-take n b)) ∙ sym (lt-ltb (length b) m few)
    go (inr enough) = le-ltb (length (take n b)) m (omega (arith, length-take n b)) ∙ sym (le-ltb (length b) m enough)

pub same_reach : (m n : ℕ) (b : List ℕ) → m ≤ n → nat_le m (length (take n b)) ≡ nat_le m (length b)
same_reach m n b h = go (cases_lt (length b) m)
  where
    go : (length b < m) ⊎ (m ≤ length b) → nat_le m (length (take n b)) ≡ nat_le m (length b)
    go (inl few) = lt-leb m (length (take n b)) (omega (arith, length-take n b)) ∙ sym (lt-leb m (length b) few)
    go (inr enough) = le-leb m (length (take n b)) (omega (arith, length-take n b)) ∙ sym (le-leb m (length b) enough)

-- ---- a chunk that lies in it

pub same_stands : (p n : ℕ) (b : List ℕ) → 8 ≤ n → p + 8 ≤ n → stands (take n b) p ≡ stands b p
same_stands p n b second here =
    ap (λ r. nat_le (p + 8) (8 + r) && nat_le (p + 8) (length (take n b))) (same_number 4 4 n b (omega arith) second)
    ∙ ap (λ t. nat_le (p + 8) (8 + number 4 (drop 4 b)) && t) (same_reach (p + 8) n b here)

pub same_size : (p n : ℕ) (b : List ℕ) → p + 8 ≤ n → size_at (take n b) p ≡ size_at b p
same_size p n b here = same_number 4 (p + 4) n b (omega arith) (omega arith)
