-- The samples that came of a take, and their bytes, when one more block is kept.
use Rattle.std.proofs.Common.{inl, inr, take, length, subst, append_assoc, ◌≡◌, ℕ, zero, suc, ◌+◌, ◌-◌, ◌*◌, ◌/◌, ◌≤◌, ◌<◌, Bool, true, false, ◌&&◌, List, [], ◌∷◌, ◌++◌, Option, Some, None, refl, sym, ap, ap₂, ◌∙◌, append-nil, arith}
use Rattle.std.specs.Prelude.{ℤ, pos, max, not, ◌==◌, if◌then◌else◌, flat_map, replicate, unwrap_or}
use Rattle.std.specs.List.{range_with_len}
use Rattle.std.proofs.Math.Dec.{eqb-suc-zero}
use Rattle.std.proofs.Math.Seq.{take-append_seam}
use Rattle.std.proofs.lemmas.Bool.{cases_eq, eq-eqb, ne_eqb, eqb-true}
use Rattle.std.proofs.lemmas.Grind.{flat_map-append}
use Rattle.std.proofs.lemmas.List.{replicate-append-replicate}
use Rattle.sound_model.specs.Wav.{sound_bytes}
use Rattle.ses_units.specs.Bits.{bits_of}
use Rattle.session_model.specs.declared.session.Session.{Session}
use Rattle.engine_model.specs.Takes.{silent_block}
use Rattle.capture_flush.specs.declared.track.Place.{Place}
use Rattle.capture_flush.specs.Blocks.{is_kept, last_from, Block, block_samples, kept, block_at, blocks_in}
use Rattle.capture_flush.specs.Flushed.{IsFront, added, block_bytes, flushed_file, flushed_samples, flushed_sound, head_of, is_new, next_index, no_blocks}
use Rattle.capture_flush.proofs.HeaderLemmas.{head_of_none}
use Rattle.capture_flush.proofs.KeptLemmas.{follows, kept_with, kept_without, Follows, blocks_joined, block_before, block_behind, block_past}
use Rattle.capture_flush.proofs.SilenceLemmas.{sound_joined, silent_sound}

-- ---- pieces, one for each number of a range

range_joined : (a k m : ℕ) → range_with_len a (k + m) ≡ range_with_len a k ++ range_with_len (a + k) m
range_joined a zero m = let here : a ≡ a + 0 = omega arith in let all : 0 + m ≡ m = omega arith in ap₂ range_with_len here all
range_joined a (suc k) m = ap (range_with_len a) {x = suc k + m} {y = suc (k + m)} (omega arith)
    ∙ ap (λ l. a ∷ l) (range_joined (a + 1) k m ∙ ap (λ b. range_with_len (a + 1) k ++ range_with_len b m) {x = a + 1 + k} {y = a + suc k} (omega arith))

same_pieces : (f g : ℕ → List ℤ) (a m : ℕ) → ((i : ℕ) → a ≤ i → i < a + m → f i ≡ g i) → flat_map f (range_with_len a m) ≡ flat_map g (range_with_len a m)
same_pieces f g a zero same = refl
same_pieces f g a (suc m) same = ap₂ (λ us vs. us ++ vs) (same a (omega arith) (omega arith)) (same_pieces f g (a + 1) m (λ i low lt. same i (omega arith) (omega arith)))

silent_pieces : (f : ℕ → List ℤ) (w a m : ℕ) → ((i : ℕ) → a ≤ i → i < a + m → f i ≡ replicate w (pos 0)) → flat_map f (range_with_len a m) ≡ replicate (m * w) (pos 0)
silent_pieces f w a zero same = ap (λ n. replicate n (pos 0)) {x = 0} (omega arith)
silent_pieces f w a (suc m) same = ap₂ (λ us vs. us ++ vs) (same a (omega arith) (omega arith)) (silent_pieces f w (a + 1) m (λ i low lt. same i (omega arith) (omega arith)))
    ∙ replicate-append-replicate w (m * w) (pos 0) ∙ ap (λ n. replicate n (pos 0)) (one_more m w)
  where
    one_more : (m w : ℕ) → w + m * w ≡ suc m * w
    one_more m w = grind arith

-- ---- the samples of a take

-- the piece at an index
abbrev piece : Session → ℕ → ℕ → List Block → ℕ → List ℤ
piece s t n blocks i = unwrap_or (block_at n i blocks) (silent_block s t)

-- a block of another take changes nothing
pub count_other : (n : ℕ) (ks : List Block) (b : Block) → (b.take ≡ n → ⊥) → blocks_in n (ks ++ b ∷ []) ≡ blocks_in n ks
count_other n ks b other = blocks_joined n ks (b ∷ []) ∙ ap (λ k. max (blocks_in n ks) (if k then max (suc b.index) 0 else 0)) (ne_eqb b.take n other) ∙ omega arith

pub samples_other : (s : Session) (t n : ℕ) (ks : List Block) (b : Block) → (b.take ≡ n → ⊥) → flushed_samples s t n (ks ++ b ∷ []) ≡ flushed_samples s t n ks
samples_other s t n ks b other = ap (λ k. flat_map (piece s t n (ks ++ b ∷ [])) (range_with_len 0 k)) (count_other n ks b other)
    ∙ same_pieces (piece s t n (ks ++ b ∷ [])) (piece s t n ks) 0 (blocks_in n ks)
    (λ i low lt. ap (λ o. unwrap_or o (silent_block s t)) (block_before n i ks b (ap (λ k. k && (b.index == i)) (ne_eqb b.take n other))))

pub sound_other : (s : Session) (t n : ℕ) (ks : List Block) (b : Block) → (b.take ≡ n → ⊥) → flushed_sound s t n (ks ++ b ∷ []) ≡ flushed_sound s t n ks
sound_other s t n ks b other = ap (sound_bytes (bits_of s.bits)) (samples_other s t n ks b other)

pub file_other : (s : Session) (t n : ℕ) (ks : List Block) (b : Block) → (b.take ≡ n → ⊥) → flushed_file s t n (ks ++ b ∷ []) ≡ flushed_file s t n ks
file_other s t n ks b other = ap₂ (λ k samples. if k == 0 then None else Some (head_of s t k ++ sound_bytes (bits_of s.bits) samples)) (count_other n ks b other) (samples_other s t n ks b other)

-- a block behind those that came: silence for those between, and its samples
pub count_more : (ks : List Block) (b : Block) → blocks_in b.take ks ≤ b.index → blocks_in b.take (ks ++ b ∷ []) ≡ suc b.index
count_more ks b next = blocks_joined b.take ks (b ∷ []) ∙ ap (λ k. max (blocks_in b.take ks) (if k then max (suc b.index) 0 else 0)) (eq-eqb b.take b.take refl) ∙ omega arith

pub samples_more : (s : Session) (t : ℕ) (ks : List Block) (b : Block) → blocks_in b.take ks ≤ b.index →
    flushed_samples s t b.take (ks ++ b ∷ []) ≡ flushed_samples s t b.take ks ++ (replicate ((b.index - blocks_in b.take ks) * block_samples s t) (pos 0) ++ b.samples)
samples_more s t ks b next = ap (λ k. flat_map new (range_with_len 0 k)) (count_more ks b next ∙ parts)
    ∙ ap (flat_map new) (range_joined 0 count (gap + 1)) ∙ flat_map-append new (range_with_len 0 count) (range_with_len (0 + count) (gap + 1))
    ∙ ap₂ (λ us vs. us ++ vs) front
    (ap (flat_map new) (range_joined (0 + count) gap 1) ∙ flat_map-append new (range_with_len (0 + count) gap) (range_with_len (0 + count + gap) 1) ∙ ap₂ (λ us vs. us ++ vs) middle end)
  where
    count : ℕ
    count = blocks_in b.take ks

    gap : ℕ
    gap = b.index - blocks_in b.take ks

    parts : suc b.index ≡ count + (gap + 1)
    parts = omega arith

    new : ℕ → List ℤ
    new = piece s t b.take (ks ++ b ∷ [])

    -- at another index the block isn't seen
    not_yet : (i : ℕ) → i < b.index → block_at b.take i (ks ++ b ∷ []) ≡ block_at b.take i ks
    not_yet i lt = block_before b.take i ks b (ap₂ ◌&&◌ (eq-eqb b.take b.take refl) (ne_eqb b.index i (λ same. omega arith)))

    front : flat_map new (range_with_len 0 count) ≡ flushed_samples s t b.take ks
    front = same_pieces new (piece s t b.take ks) 0 count (λ i low lt. ap (λ o. unwrap_or o (silent_block s t)) (not_yet i (omega arith)))

    middle : flat_map new (range_with_len (0 + count) gap) ≡ replicate (gap * block_samples s t) (pos 0)
    middle = silent_pieces new (block_samples s t) (0 + count) gap
        (λ i low lt. ap (λ o. unwrap_or o (silent_block s t)) (not_yet i (omega arith) ∙ block_past b.take i ks (omega arith)))

    here : block_at b.take b.index (ks ++ b ∷ []) ≡ Some b.samples
    here = block_behind b.take b.index ks (b ∷ []) (block_past b.take b.index ks next)
        ∙ ap₂ (λ x y. if x && y then Some b.samples else None) (eq-eqb b.take b.take refl) (eq-eqb b.index b.index refl)

    end : flat_map new (range_with_len (0 + count + gap) 1) ≡ b.samples
    end = append-nil (new (0 + count + gap)) ∙ ap new place ∙ ap (λ o. unwrap_or o (silent_block s t)) here
      where
        place : 0 + count + gap ≡ b.index
        place = omega arith

-- ---- their bytes

no_sound : (s : Session) (t n : ℕ) (ks : List Block) → blocks_in n ks ≡ 0 → flushed_sound s t n ks ≡ []
no_sound s t n ks none = ap (λ k. sound_bytes (bits_of s.bits) (flat_map (piece s t n ks) (range_with_len 0 k))) none

-- the bytes of a block, behind those of silence for the blocks between
abbrev pub block_sound : Session → ℕ → ℕ → Block → List ℕ
block_sound s t count b = replicate ((b.index - count) * block_bytes s t) 0 ++ sound_bytes (bits_of s.bits) b.samples

pub sound_more : (s : Session) (t : ℕ) (ks : List Block) (b : Block) → blocks_in b.take ks ≤ b.index →
    flushed_sound s t b.take (ks ++ b ∷ []) ≡ flushed_sound s t b.take ks ++ block_sound s t (blocks_in b.take ks) b
sound_more s t ks b next = ap (sound_bytes (bits_of s.bits)) (samples_more s t ks b next)
    ∙ sound_joined s.bits (flushed_samples s t b.take ks) (replicate (gap * block_samples s t) (pos 0) ++ b.samples)
    ∙ ap (λ l. flushed_sound s t b.take ks ++ l) (sound_joined s.bits (replicate (gap * block_samples s t) (pos 0)) b.samples
    ∙ ap (λ l. l ++ sound_bytes (bits_of s.bits) b.samples) (silent_sound s t (gap * block_samples s t) ∙ ap (λ n. replicate n 0) (grouped gap (block_samples s t) (bits_of s.bits / 8))))
  where
    gap : ℕ
    gap = b.index - blocks_in b.take ks

    grouped : (a b c : ℕ) → a * b * c ≡ a * (b * c)
    grouped a b c = grind arith

new_is : (last : Option Place) (n : ℕ) → is_new last n ≡ (next_index last n == 0)
new_is None n = refl
new_is (Some p) n = by (p.take == n)
  where
    by : (b : Bool) → not b ≡ ((if b then suc p.index else 0) == 0)
    by true = sym (eqb-suc-zero p.index)
    by false = refl

-- the bytes of a take's file, none where it isn't there
abbrev pub file_bytes : Session → ℕ → ℕ → List Block → List ℕ
file_bytes s t n ks = unwrap_or (flushed_file s t n ks) []

with_head : (s : Session) (t count : ℕ) (sound more : List ℕ) → (count ≡ 0 → sound ≡ []) →
    unwrap_or (if count == 0 then None else Some (head_of s t count ++ sound)) [] ++ ((if count == 0 then no_blocks s t else []) ++ more) ≡ head_of s t count ++ (sound ++ more)
with_head s t count sound more none = by (count == 0) refl
  where
    by : (b : Bool) → (count == 0) ≡ b → unwrap_or (if b then None else Some (head_of s t count ++ sound)) [] ++ ((if b then no_blocks s t else []) ++ more) ≡ head_of s t count ++ (sound ++ more)
    by true is = let zero_is : count ≡ 0 = eqb-true count 0 is in
        ap₂ (λ head l. head ++ (l ++ more)) (sym (ap (head_of s t) zero_is ∙ head_of_none s t)) (sym (none zero_is))
    by false is = append_assoc (head_of s t count) sound more

-- what is added makes the file that of the blocks with one more, its head still that of before
pub bytes_more : (s : Session) (t : ℕ) (xs : List Block) (b : Block) → Follows s t xs b →
    file_bytes s t b.take (kept s t xs) ++ added s t (last_from s t None xs) b ≡ head_of s t (next_index (last_from s t None xs) b.take) ++ flushed_sound s t b.take (kept s t xs ++ b ∷ [])
bytes_more s t xs b follows = let ks = kept s t xs in let last = last_from s t None xs in
    ap (λ new. file_bytes s t b.take ks ++ ((if new then no_blocks s t else []) ++ block_sound s t (next_index last b.take) b)) (new_is last b.take)
    ∙ ap (λ k. file_bytes s t b.take ks ++ ((if k == 0 then no_blocks s t else []) ++ block_sound s t k b)) (sym follows.count)
    ∙ with_head s t (blocks_in b.take ks) (flushed_sound s t b.take ks) (block_sound s t (blocks_in b.take ks) b) (no_sound s t b.take ks)
    ∙ ap₂ (λ k l. head_of s t k ++ l) follows.count (sym (sound_more s t ks b follows.next))

pub file_more : (s : Session) (t : ℕ) (ks : List Block) (b : Block) → blocks_in b.take ks ≤ b.index →
    flushed_file s t b.take (ks ++ b ∷ []) ≡ Some (head_of s t (suc b.index) ++ flushed_sound s t b.take (ks ++ b ∷ []))
file_more s t ks b next = let sound = flushed_sound s t b.take (ks ++ b ∷ []) in
    ap (λ k. if k == 0 then None else Some (head_of s t k ++ sound)) (count_more ks b next) ∙ ap (λ k. if k then None else Some (head_of s t (suc b.index) ++ sound)) (eqb-suc-zero b.index)

-- ---- what came before stands in front

-- one block more, kept or not, puts something behind the sound of a take
sound_grows : (s : Session) (t n : ℕ) (xs : List Block) (b : Block) → (more : List ℕ) × (flushed_sound s t n (kept s t (xs ++ b ∷ [])) ≡ flushed_sound s t n (kept s t xs) ++ more)
sound_grows s t n xs b = by (is_kept s t (last_from s t None xs) b) refl
  where
    old : List ℕ
    old = flushed_sound s t n (kept s t xs)

    by : (k : Bool) → is_kept s t (last_from s t None xs) b ≡ k → (more : List ℕ) × (flushed_sound s t n (kept s t (xs ++ b ∷ [])) ≡ old ++ more)
    by false is = ([], ap (flushed_sound s t n) (kept_without s t xs b is) ∙ sym (append-nil old))
    by true is = elim (cases_eq b.take n) [
      | inl same ↦ subst (λ m. (more : List ℕ) × (flushed_sound s t m (kept s t (xs ++ b ∷ [])) ≡ flushed_sound s t m (kept s t xs) ++ more)) same
          (block_sound s t (blocks_in b.take (kept s t xs)) b, ap (flushed_sound s t b.take) (kept_with s t xs b is) ∙ sound_more s t (kept s t xs) b (follows s t xs b is).next)
      | inr other ↦ ([], ap (flushed_sound s t n) (kept_with s t xs b is) ∙ ap (sound_bytes (bits_of s.bits)) (samples_other s t n (kept s t xs) b other) ∙ sym (append-nil old))
    ]

sound_goes_on : (s : Session) (t n : ℕ) (xs ys : List Block) → (more : List ℕ) × (flushed_sound s t n (kept s t (xs ++ ys)) ≡ flushed_sound s t n (kept s t xs) ++ more)
sound_goes_on s t n xs [] = let old = flushed_sound s t n (kept s t xs) in ([], ap (λ l. flushed_sound s t n (kept s t l)) (append-nil xs) ∙ sym (append-nil old))
sound_goes_on s t n xs (y ∷ ys) = let old = flushed_sound s t n (kept s t xs) in let next = sound_grows s t n xs y in let rest = sound_goes_on s t n (xs ++ y ∷ []) ys in (
  next.0 ++ rest.0,
  ap (λ l. flushed_sound s t n (kept s t l)) (sym (append_assoc xs (y ∷ []) ys)) ∙ rest.1 ∙ ap (λ l. l ++ rest.0) next.1 ∙ append_assoc old next.0 rest.0,
)

-- the sound of the first blocks is a front of the sound of all
pub sound_front : (s : Session) (t n : ℕ) (xs ys : List Block) → IsFront (flushed_sound s t n (kept s t xs)) (flushed_sound s t n (kept s t (xs ++ ys)))
sound_front s t n xs ys = let old = flushed_sound s t n (kept s t xs) in let on = sound_goes_on s t n xs ys in
    (length old, sym (take-append_seam old on.0) ∙ ap (take (length old)) (sym on.1))
