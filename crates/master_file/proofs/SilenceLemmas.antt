-- Silence is so block by block.
use Rattle.std.proofs.Common.{◌≡◌, ℕ, zero, suc, ◌+◌, ◌-◌, ◌*◌, ◌/◌, ◌<◌, refl, ap, arith, ◌∙◌, sym, List, [], ◌∷◌, ◌++◌, length, take, drop}
use Rattle.std.specs.Prelude.{Bool, true, false, ◌&&◌, pos, replicate}
use Rattle.std.proofs.lemmas.Grind.{flat_map-append}
use Rattle.std.proofs.lemmas.List.{drop-drop, drop-take, length-append}
use Rattle.std.proofs.Math.Seq.{drop-append_seam, take-append_seam}
use Rattle.sound_model.specs.Numbers.{sample_bytes}
use Rattle.sound_model.specs.Wav.{sound_bytes}
use Rattle.ses_units.specs.Bits.{bits_of}
use Rattle.session_model.specs.declared.session.Session.{Session}
use Rattle.master_blocks.specs.Bytes.{block_samples, silent_bytes}
use Rattle.report_verdict.specs.Master.{block_place, is_silent_from, stand_at}
use Rattle.report_verdict.proofs.FallLemmas.{both, first_of, second_of}
use Rattle.report_verdict.proofs.FileLemmas.{silence_long}
use Rattle.report_verdict.proofs.PartLemmas.{IsPartAt, joined, part_of, stands}

-- ---- two pieces at a place

front_of : (n m : ℕ) (xs : List ℕ) → take n (take (n + m) xs) ≡ take n xs
front_of zero m xs = refl
front_of (suc n) m [] = let on : suc n + m ≡ suc (n + m) = omega arith in ap (λ k. take (suc n) (take k [])) on
front_of (suc n) m (x ∷ xs) = let on : suc n + m ≡ suc (n + m) = omega arith in ap (λ k. take (suc n) (take k (x ∷ xs))) on ∙ ap (λ ys. x ∷ ys) (front_of n m xs)

module _ (place : ℕ) (one two bytes : List ℕ) where
  as_two : IsPartAt place (one ++ two) bytes → take (length one + length two) (drop place bytes) ≡ one ++ two
  as_two part = let long : length one + length two ≡ length (one ++ two) = sym (length-append one two) in ap (λ n. take n (drop place bytes)) long ∙ part

  first_part : IsPartAt place (one ++ two) bytes → IsPartAt place one bytes
  first_part part = sym (front_of (length one) (length two) (drop place bytes)) ∙ ap (take (length one)) (as_two part) ∙ take-append_seam one two

  second_part : IsPartAt place (one ++ two) bytes → IsPartAt (place + length one) two bytes
  second_part part = ap (take (length two)) (sym (drop-drop (length one) place bytes)) ∙ sym (drop-take (length one) (length two) (drop place bytes))
      ∙ ap (drop (length one)) (as_two part) ∙ drop-append_seam one two

same_truth : (a b : Bool) → (a ≡ true → b ≡ true) → (b ≡ true → a ≡ true) → a ≡ b
same_truth true b to back = sym (to refl)
same_truth false true to back = back refl
same_truth false false to back = refl

stand_both : (place : ℕ) (one two bytes : List ℕ) → stand_at place (one ++ two) bytes ≡ (stand_at place one bytes && stand_at (place + length one) two bytes)
stand_both place one two bytes = same_truth (stand_at place (one ++ two) bytes) (stand_at place one bytes && stand_at (place + length one) two bytes)
    (λ e. let part = part_of place (one ++ two) bytes e in
    both (stands place one bytes (first_part place one two bytes part)) (stands (place + length one) two bytes (second_part place one two bytes part)))
    (λ e. stands place (one ++ two) bytes (joined place one two bytes
    (part_of place one bytes (first_of (stand_at place one bytes) (stand_at (place + length one) two bytes) e))
    (part_of (place + length one) two bytes (second_of (stand_at place one bytes) (stand_at (place + length one) two bytes) e))))

-- ---- blocks of silence

zeros_both : (n m : ℕ) → replicate (n + m) (pos 0) ≡ replicate n (pos 0) ++ replicate m (pos 0)
zeros_both zero m = let on : zero + m ≡ m = omega arith in ap (λ k. replicate k (pos 0)) on
zeros_both (suc n) m = let on : suc n + m ≡ suc (n + m) = omega arith in ap (λ k. replicate k (pos 0)) on ∙ ap (λ xs. pos 0 ∷ xs) (zeros_both n m)

module _ (s : Session) where
  one_and : (more : ℕ) → silent_bytes s (suc more) ≡ silent_bytes s 1 ++ silent_bytes s more
  one_and more = let many : suc more * block_samples s ≡ 1 * block_samples s + more * block_samples s = grind arith in
      ap (λ n. sound_bytes (bits_of s.bits) (replicate n (pos 0))) many ∙ ap (sound_bytes (bits_of s.bits)) (zeros_both (1 * block_samples s) (more * block_samples s))
      ∙ flat_map-append (sample_bytes (bits_of s.bits)) (replicate (1 * block_samples s) (pos 0)) (replicate (more * block_samples s) (pos 0))

  next_place : (n : ℕ) → block_place s n + length (silent_bytes s 1) ≡ block_place s (suc n)
  next_place n = omega (arith, silence_long s 1, go n (block_samples s) (bits_of s.bits / 8))
    where
      go : (k b w : ℕ) → k * b * w + 1 * b * w ≡ suc k * b * w
      go k b w = grind arith

  -- the next block, and those behind it
  pub block_and_rest : (from to : ℕ) (file : List ℕ) → from < to →
      is_silent_from s from to file ≡ (stand_at (block_place s from) (silent_bytes s 1) file && is_silent_from s (suc from) to file)
  block_and_rest from to file less = let more : to - from ≡ suc (to - suc from) = omega (arith, less) in
      ap (λ n. stand_at (block_place s from) (silent_bytes s n) file) more
      ∙ ap (λ xs. stand_at (block_place s from) xs file) (one_and (to - suc from))
      ∙ stand_both (block_place s from) (silent_bytes s 1) (silent_bytes s (to - suc from)) file
      ∙ ap (λ p. stand_at (block_place s from) (silent_bytes s 1) file && stand_at p (silent_bytes s (to - suc from)) file) (next_place from)

  -- behind the last block there is nothing
  pub none_left : (to : ℕ) (file : List ℕ) → is_silent_from s to to file ≡ true
  none_left to file = let none : to - to ≡ 0 = omega arith in ap (λ n. stand_at (block_place s to) (silent_bytes s n) file) none ∙ nothing
    where
      empty : silent_bytes s 0 ≡ []
      empty = let no : 0 * block_samples s ≡ 0 = grind arith in ap (λ n. sound_bytes (bits_of s.bits) (replicate n (pos 0))) no

      nothing : stand_at (block_place s to) (silent_bytes s 0) file ≡ true
      nothing = ap (λ xs. stand_at (block_place s to) xs file) empty ∙ stands (block_place s to) [] file refl

  -- a block that was held against the file
  pub by_one : (block to place : ℕ) (piece file now : List ℕ) (held : Bool) → block < to → place ≡ block_place s block → piece ≡ silent_bytes s 1 → now ≡ file → held ≡ stand_at place piece now →
      is_silent_from s block to file ≡ (held && is_silent_from s (block + 1) to file)
  by_one block to place piece file now held less at is same told = let next : suc block ≡ block + 1 = omega arith in
      block_and_rest block to file less
      ∙ ap (λ b. b && is_silent_from s (suc block) to file) (sym (told ∙ ap (λ p. stand_at p piece now) at ∙ ap (λ xs. stand_at (block_place s block) xs now) is ∙ ap (stand_at (block_place s block) (silent_bytes s 1)) same))
      ∙ ap (λ n. held && is_silent_from s n to file) next
