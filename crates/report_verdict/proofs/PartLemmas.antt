-- Parts of a file's bytes.
use Rattle.std.proofs.Common.{◌≡◌, ℕ, zero, suc, ◌+◌, ap, ap₂, arith, ◌∙◌, sym, subst, List, [], ◌∷◌, ◌++◌, length, take, drop, take_all}
use Rattle.std.specs.Prelude.{true}
use Rattle.std.proofs.lemmas.Slice.Eq.{bytes_eq-Decides}
use Rattle.std.proofs.lemmas.List.{drop-drop, length-append}
use Rattle.std.proofs.Math.Seq.{drop-append_seam, take-append_seam}
use Rattle.report_verdict.specs.Master.{part_at, stand_at}

-- the piece is the part of the file at a place
abbrev pub IsPartAt : ℕ → List ℕ → List ℕ → Type 0
IsPartAt place piece bytes = part_at place (length piece) bytes ≡ piece

pub part_of : (place : ℕ) (piece bytes : List ℕ) → stand_at place piece bytes ≡ true → IsPartAt place piece bytes
part_of place piece bytes e = (bytes_eq-Decides (part_at place (length piece) bytes) piece).0 e

pub stands : (place : ℕ) (piece bytes : List ℕ) → IsPartAt place piece bytes → stand_at place piece bytes ≡ true
stands place piece bytes e = (bytes_eq-Decides (part_at place (length piece) bytes) piece).1 e

take_both : (n m : ℕ) (xs : List ℕ) → take (n + m) xs ≡ take n xs ++ take m (drop n xs)
take_both zero m xs = let on : zero + m ≡ m = omega arith in ap (λ k. take k xs) on
take_both (suc n) m [] = let on : suc n + m ≡ suc (n + m) = omega arith in ap (λ k. take k []) on ∙ sym (take_all m [] (omega arith))
take_both (suc n) m (x ∷ xs) = let on : suc n + m ≡ suc (n + m) = omega arith in ap (λ k. take k (x ∷ xs)) on ∙ ap (λ ys. x ∷ ys) (take_both n m xs)

-- two parts, one behind the other
pub joined : (place : ℕ) (one two bytes : List ℕ) → IsPartAt place one bytes → IsPartAt (place + length one) two bytes → IsPartAt place (one ++ two) bytes
joined place one two bytes here there = ap (λ n. take n (drop place bytes)) (length-append one two) ∙ take_both (length one) (length two) (drop place bytes)
    ∙ ap₂ (λ xs ys. xs ++ ys) here (ap (take (length two)) (drop-drop (length one) place bytes) ∙ there)

pub at_place : {place other : ℕ} (piece bytes : List ℕ) → place ≡ other → IsPartAt place piece bytes → IsPartAt other piece bytes
at_place piece bytes same part = subst (λ n. IsPartAt n piece bytes) same part

-- all of it
pub whole : (piece bytes : List ℕ) → length bytes ≡ length piece → IsPartAt 0 piece bytes → bytes ≡ piece
whole piece bytes long part = sym (take_all (length piece) bytes (omega (arith, long))) ∙ part

-- and a part of what was put together
pub part_within : (front piece behind : List ℕ) → IsPartAt (length front) piece (front ++ (piece ++ behind))
part_within front piece behind = ap (take (length piece)) (drop-append_seam front (piece ++ behind)) ∙ take-append_seam piece behind
