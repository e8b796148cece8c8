-- What a block adds to its file, which no other file shares, and what is a front of a take.
use Rattle.std.proofs.Common.{◌≡◌, inl, inr, ℕ, zero, suc, ◌-◌, ◌*◌, ◌/◌, ◌≤◌, ◌<◌, Bool, true, false, List, [], ◌∷◌, ◌++◌, length, take, drop, Option, Some, None, refl, sym, ap, subst, ◌∙◌, arith}
use Rattle.std.specs.Prelude.{set, slice_get, replicate, IfSome, ◌==◌, if◌then◌else◌}
use Rattle.std.specs.Option.{option_map_or}
use Rattle.std.specs.Str.{bytes_eq}
use Rattle.std.proofs.Math.Nat.{mul-le-mul}
use Rattle.std.proofs.Math.Seq.{take-length}
use Rattle.std.proofs.lemmas.Bool.{false_from_ne_true, and_parts, eqb-true}
use Rattle.std.proofs.lemmas.Option.{slice_get_cases}
use Rattle.std.proofs.lemmas.List.{length-append}
use Rattle.sound_model.specs.Wav.{sound_bytes}
use Rattle.ses_units.specs.declared.bits.Bits.{Bits}
use Rattle.ses_units.specs.declared.bits.Bits.TheVariants.{B16, B24}
use Rattle.ses_units.specs.Bits.{bits_of}
use Rattle.ses_io.specs.Files.{Files, content, with_file, AppendsSomeTo}
use Rattle.ses_io.proofs.Files.{bytes_eq-true, with_file-other}
use Rattle.session_model.specs.declared.session.Session.{Session}
use Rattle.session_model.specs.declared.route.Route.{Route}
use Rattle.session_model.specs.Valid.{IsValid}
use Rattle.session_model.specs.Formed.{channels_at}
use Rattle.capture_flush.specs.declared.track.Place.{Place}
use Rattle.capture_flush.specs.Blocks.{Block, is_kept, blocks_in, comes_after}
use Rattle.capture_flush.specs.Flushed.{added, block_bytes, flushed_file, flushed_sound, head_of, is_new, next_index, no_blocks, IsFront}
use Rattle.capture_flush.specs.Writes.{with_more}
use Rattle.capture_flush.proofs.HeaderLemmas.{behind_head}
use Rattle.capture_flush.proofs.SilenceLemmas.{sound_long}

-- ---- the item at a place

pub set_here : {X : Type 0} (xs : List X) (i : ℕ) (x : X) → i < length xs → slice_get (set xs i x) i ≡ Some x
set_here [] i x lt = absurd (omega arith)
set_here (y ∷ xs) zero x lt = refl
set_here (y ∷ xs) (suc i) x lt = set_here xs i x (omega arith)

pub set_there : {X : Type 0} (xs : List X) (i k : ℕ) (x : X) → (k ≡ i → ⊥) → slice_get (set xs i x) k ≡ slice_get xs k
set_there [] i k x other = refl
set_there (y ∷ xs) zero zero x other = absurd (other refl)
set_there (y ∷ xs) zero (suc k) x other = refl
set_there (y ∷ xs) (suc i) zero x other = refl
set_there (y ∷ xs) (suc i) (suc k) x other = set_there xs i k x (λ same. other (ap suc same))

-- ---- what is added is some bytes

some_channels : (s : Session) (t : ℕ) → IsValid s → t < length s.tracks.items → 1 ≤ channels_at s t
some_channels s t valid lt = elim ((slice_get_cases s.routes.items t).1) [
  | inl there ↦ subst (λ o. 1 ≤ option_map_or (λ (q : Route). q.channels) o 0) (sym there.2) (valid.formed.routes t there.0 there.2).channels.least
  | inr past ↦ absurd (omega (arith, past.0, valid.formed.limits.master))
]

some_bits : (bits : Bits) → 1 ≤ bits_of bits / 8
some_bits B16 = omega arith
some_bits B24 = omega arith

pub some_added : (s : Session) (t : ℕ) (last : Option Place) (b : Block) → IsValid s → t < length s.tracks.items → is_kept s t last b ≡ true → 0 < length (added s t last b)
some_added s t last b valid lt is =
    let long : length b.samples ≡ s.block * channels_at s t = eqb-true (length b.samples) (s.block * channels_at s t) (and_parts (length b.samples == s.block * channels_at s t) (comes_after last b) is).0 in
    let frames : 1 * 1 ≤ s.block * channels_at s t = mul-le-mul valid.formed.limits.block.least (some_channels s t valid lt) in
    let bytes : 1 * 1 ≤ length b.samples * (bits_of s.bits / 8) = mul-le-mul {n₁ = 1} (omega arith) (some_bits s.bits) in
    let gap : List ℕ = replicate ((b.index - next_index last b.take) * block_bytes s t) 0 in
    omega (arith, bytes, sound_long s.bits b.samples, length-append gap (sound_bytes (bits_of s.bits) b.samples), length-append (if is_new last b.take then no_blocks s t else []) (gap ++ sound_bytes (bits_of s.bits) b.samples))

pub more_is : (files : Files) (name bytes : List ℕ) → 0 < length bytes → with_more files name bytes ≡ with_file files name (content files name ++ bytes)
more_is files name [] some = absurd (omega arith)
more_is files name (b ∷ bytes) some = refl

-- ---- no file changed but one

abbrev pub OnlyAt : Files → Files → List ℕ → Type 0
OnlyAt old new name = (q : List ℕ) → (name ≡ q → ⊥) → new q ≡ old q

pub only_written : (files : Files) (name bytes : List ℕ) → OnlyAt files (with_file files name bytes) name
only_written files name bytes q other = with_file-other files name bytes q (false_from_ne_true (bytes_eq name q) (λ same. other (bytes_eq-true name q same)))

pub only_some : (old new : Files) (name piece : List ℕ) → AppendsSomeTo old new name piece → OnlyAt old new name
only_some old new name piece (inl same) q other = ap (λ files. files q) same
only_some old new name piece (inr some) q other = ap (λ files. files q) some.1.files ∙ only_written old name (content old name ++ take some.0 piece) q other

-- ---- a file's front

-- what is there of a take has a front of a sound that begins with the take's
pub file_in_part : (s : Session) (t n : ℕ) (ks : List Block) (o : Option (List ℕ)) (whole : List ℕ) → o ≡ flushed_file s t n ks → IsFront (flushed_sound s t n ks) whole → IfSome o (λ bytes. IsFront (drop 44 bytes) whole)
file_in_part s t n ks o whole same front = subst (λ (o : Option (List ℕ)). IfSome o (λ bytes. IsFront (drop 44 bytes) whole)) (sym same) (by (blocks_in n ks == 0))
  where
    by : (b : Bool) → IfSome (if b then None else Some (head_of s t (blocks_in n ks) ++ flushed_sound s t n ks)) (λ bytes. IsFront (drop 44 bytes) whole)
    by true = tt
    by false = subst (λ l. IsFront l whole) (sym (behind_head s t (blocks_in n ks) (flushed_sound s t n ks))) front

pub all_is_front : (bytes : List ℕ) → IsFront bytes bytes
all_is_front bytes = (length bytes, sym (take-length bytes))

pub no_file : (s : Session) (t n : ℕ) (ks : List Block) → blocks_in n ks ≡ 0 → flushed_file s t n ks ≡ None
no_file s t n ks none = ap (λ k. if k == 0 then None else Some (head_of s t k ++ flushed_sound s t n ks)) none
