-- Samples one after another are the first of them, and those of what is left.
use Rattle.std.proofs.Common.{◌≡◌, ℕ, zero, suc, ◌+◌, ◌-◌, ◌*◌, ◌<◌, ◌≤◌, ℤ, refl, sym, ap, ◌∙◌, arith, List, [], ◌∷◌, ◌++◌, length, map, take, drop, All, pos, negsuc, subst, rules, FitsSigned, w32, to_z, of_z}
use Rattle.std.specs.List.{range_with_len}
use Rattle.std.proofs.lemmas.List.{drop-drop, append_assoc, append-nil, take_all}
use Rattle.std.proofs.lemmas.List.FromFn.{map-range_with_len_more}
use Rattle.std.proofs.lemmas.Slice.{take-put_mid}
use borrow.Rule.Slice.PartMut.{put_mid}
use Rattle.sound_model.specs.Numbers.{sample_at}
use Rattle.std.proofs.lemmas.Int.{to_z-of_z, ints}
use Rattle.wav_codec.specs.Samples.{samples_of, IsInside}
use Rattle.wav_codec.proofs.Samples.{IsBytes, inside_of_24, dropped}

split : (f g : ℕ → ℤ) (n m : ℕ) → ((i : ℕ) → i < m → f (n + i) ≡ g i) → map f (range_with_len 0 (n + m)) ≡ map f (range_with_len 0 n) ++ map g (range_with_len 0 m)
split f g n zero same = let none : n + 0 ≡ n = omega arith in ap (λ k. map f (range_with_len 0 k)) none ∙ sym (append-nil (map f (range_with_len 0 n)))
split f g n (suc m) same =
    let longer : n + suc m ≡ n + m + 1 = omega arith in let last : m + 1 ≡ suc m = omega arith in
    ap (λ k. map f (range_with_len 0 k)) longer
    ∙ map-range_with_len_more f 0 (n + m) (n + m) (omega arith)
    ∙ ap (λ v. map f (range_with_len 0 (n + m)) ++ v ∷ []) (same m (omega arith))
    ∙ ap (λ vs. vs ++ g m ∷ []) (split f g n m (λ i l. same i (omega arith)))
    ∙ append_assoc (map f (range_with_len 0 n)) (map g (range_with_len 0 m)) (g m ∷ [])
    ∙ ap (λ vs. map f (range_with_len 0 n) ++ vs) (sym (map-range_with_len_more g 0 m m (omega arith)) ∙ ap (λ k. map g (range_with_len 0 k)) last)

pub samples_split : (n m : ℕ) (bytes : List ℕ) → samples_of 24 (n + m) bytes ≡ samples_of 24 n bytes ++ samples_of 24 m (drop (n * 3) bytes)
samples_split n m bytes = split (λ i. sample_at 24 (drop (i * 3) bytes)) (λ i. sample_at 24 (drop (i * 3) (drop (n * 3) bytes))) n m
    (λ i l. let at : (n + i) * 3 ≡ n * 3 + i * 3 = omega arith in ap (sample_at 24) (ap (λ k. drop k bytes) at ∙ sym (drop-drop (i * 3) (n * 3) bytes)))

-- the four whose bytes stand from a place on
abbrev pub four_at : ℕ → List ℕ → List ℤ
four_at at bytes = sample_at 24 (drop at bytes) ∷ sample_at 24 (drop (at + 3) bytes) ∷ sample_at 24 (drop (at + 6) bytes) ∷ sample_at 24 (drop (at + 9) bytes) ∷ []

fours_are : (at : ℕ) (bytes : List ℕ) → four_at at bytes ≡ samples_of 24 4 (drop at bytes)
fours_are at bytes = rw (drop-drop 3 at bytes, drop-drop 6 at bytes, drop-drop 9 at bytes) refl

-- four more are written
pub four_more : (n m k : ℕ) (bytes : List ℕ) (out copied : List ℤ) → take n out ≡ samples_of 24 n bytes → copied ≡ four_at (n * 3) bytes → n ≤ length out → m ≡ n + 4 →
    take m (put_mid n k out copied) ≡ samples_of 24 m bytes
four_more n m k bytes out copied so_far four within e =
    let long : length copied ≡ 4 = ap length four in
    take-put_mid n k out copied m (omega (arith, e, long)) within
    ∙ ap (λ vs. vs ++ copied) so_far ∙ ap (λ vs. samples_of 24 n bytes ++ vs) (four ∙ fours_are (n * 3) bytes)
    ∙ sym (ap (λ j. samples_of 24 j bytes) e ∙ samples_split n 4 bytes)

-- and then all others
pub all_others : (n k : ℕ) (bytes : List ℕ) (out rest : List ℤ) → take n out ≡ samples_of 24 n bytes → rest ≡ samples_of 24 (length out - n) (drop (n * 3) bytes) → n ≤ length out →
    length (put_mid n k out rest) ≡ length out → length rest ≡ length out - n → put_mid n k out rest ≡ samples_of 24 (length out) bytes
all_others n k bytes out rest so_far others within same long =
    sym (take_all (length out) (put_mid n k out rest) (omega (arith, same)))
    ∙ take-put_mid n k out rest (length out) (omega (arith, long)) within
    ∙ ap (λ vs. vs ++ rest) so_far ∙ ap (λ vs. samples_of 24 n bytes ++ vs) others
    ∙ sym (ap (λ j. samples_of 24 j bytes) sum ∙ samples_split n (length out - n) bytes)
  where
    sum : length out ≡ n + (length out - n)
    sum = omega arith

-- samples that a file can hold stay as they are in lanes of 32 bits
inside_fits : (v : ℤ) → IsInside v → FitsSigned w32 v
inside_fits (pos n) h = let few : n < 2147483648 = omega (arith, ints, h.1) in search rules
inside_fits (negsuc n) h = let few : n < 2147483648 = omega (arith, ints, h.0) in search rules

pub lanes_same : (vs : List ℤ) → All IsInside vs → map (to_z w32) (map (of_z w32) vs) ≡ vs
lanes_same [] all = refl
lanes_same (v ∷ vs) all =
    rw (to_z-of_z w32 v (inside_fits v (all 0 v (omega arith))))
    (ap (λ us. v ∷ us) (lanes_same vs (λ k d h. all (suc k) d (omega (arith, h)))))

pub four_same : (at : ℕ) (bytes : List ℕ) (vs : List ℤ) → IsBytes bytes → vs ≡ four_at at bytes → map (to_z w32) (map (of_z w32) vs) ≡ vs
four_same at bytes vs fits e =
    lanes_same vs (subst (All IsInside) (sym (e ∙ fours_are at bytes)) (inside_of_24 4 (drop at bytes) (dropped bytes fits at)))
