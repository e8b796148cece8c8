-- The file of a take, closed, is the file that the journal means: the header, the sound in its order, and the pad byte.
use Rattle.std.proofs.Common.{◌≡◌, inl, inr, ℕ, ◌-◌, ◌*◌, ◌/◌, ◌%◌, List, [], ◌++◌, length, refl, sym, ap, ap₂, subst, arith, ◌∙◌, append_assoc, drop, take}
use Rattle.std.specs.Prelude.{Bool, true, false, ◌==◌, if◌then◌else◌, Some, None, pos, replicate, unwrap_or, flat_map}
use Rattle.std.specs.List.{range_with_len}
use Rattle.std.proofs.lemmas.Bool.{cases_lt, eqb-true}
use Rattle.std.proofs.lemmas.List.{length-take, take-take}
use Rattle.std.proofs.Math.Seq.{take_all, take-append_seam}
use Rattle.ses_units.specs.Bits.{bits_of}
use Rattle.sound_model.specs.Wav.{canon, header, sound_bytes}
use Rattle.session_model.specs.declared.session.Session.{Session}
use Rattle.engine_model.specs.Journal.{Entry}
use Rattle.engine_model.specs.Takes.{Input, take_file, silent_block, take_form, take_samples}
use Rattle.capture_flush.specs.declared.run.Run.{Run}
use Rattle.capture_flush.specs.Blocks.{Block, block_at, block_samples, blocks_in, taken_blocks}
use Rattle.capture_flush.specs.Closing.{closed_file, ending}
use Rattle.capture_flush.specs.Flushed.{IsFront, block_bytes, flushed_file, flushed_samples, flushed_sound, head_of, no_blocks}
use Rattle.capture_flush.proofs.HeaderLemmas.{behind_head, behind_header}
use Rattle.capture_flush.proofs.NoteLemmas.{CountsUp, notes_of}
use Rattle.capture_flush.proofs.NamedRunLemmas.{IsRunOf}
use Rattle.capture_flush.proofs.SilenceLemmas.{silent_sound, sound_joined, sound_long}
use Rattle.capture_flush.proofs.TakeSoundLemmas.{flushed_first, take_long}

-- ---- the parts of a file

-- the sound of a take, and the pad byte
abbrev pub take_sound : Session → Input → ℕ → ℕ → List Entry → List ℕ
take_sound s input t n journal = sound_bytes (bits_of s.bits) (take_samples s input t n journal)

abbrev pub pad_of : ℕ → List ℕ
pad_of bytes = replicate (bytes % 2) 0

pub file_parts : (s : Session) (input : Input) (t n : ℕ) (journal : List Entry) → take_file s input t n journal
    ≡ header (take_form s t) (length (take_sound s input t n journal)) ++ (take_sound s input t n journal ++ pad_of (length (take_sound s input t n journal)))
unfolding canon header
file_parts s input t n journal = refl

pub behind_file_header : (s : Session) (input : Input) (t n : ℕ) (journal : List Entry) →
    drop 44 (take_file s input t n journal) ≡ take_sound s input t n journal ++ pad_of (length (take_sound s input t n journal))
behind_file_header s input t n journal = ap (drop 44) (file_parts s input t n journal)
    ∙ behind_header (take_form s t) (length (take_sound s input t n journal)) (take_sound s input t n journal ++ pad_of (length (take_sound s input t n journal)))

-- how many bytes it is
pub take_sound_long : (s : Session) (input : Input) (t n : ℕ) (journal : List Entry) → length (take_sound s input t n journal) ≡ notes_of t n journal * block_bytes s t
take_sound_long s input t n journal = sound_long s.bits (take_samples s input t n journal)
    ∙ ap (λ k. k * (bits_of s.bits / 8)) (take_long s input t n 0 journal) ∙ regrouped (notes_of t n journal) (block_samples s t) (bits_of s.bits / 8)
  where
    regrouped : (a b c : ℕ) → a * b * c ≡ a * (b * c)
    regrouped a b c = grind arith

-- its sound is what was flushed, and zeros
pub flushed_and_zeros : (s : Session) (input : Input) (t n : ℕ) (journal : List Entry) → CountsUp t n 0 journal → let bs = taken_blocks s input t journal in
    take_sound s input t n journal ≡ flushed_sound s t n bs ++ replicate ((notes_of t n journal - blocks_in n bs) * block_bytes s t) 0
flushed_and_zeros s input t n journal up = let bs = taken_blocks s input t journal in let lost = notes_of t n journal - blocks_in n bs in
    ap (sound_bytes (bits_of s.bits)) (flushed_first s input t n journal up)
    ∙ sound_joined s.bits (flushed_samples s t n bs) (replicate (lost * block_samples s t) (pos 0))
    ∙ ap (λ l. flushed_sound s t n bs ++ l) (silent_sound s t (lost * block_samples s t) ∙ ap (λ k. replicate k 0) (regrouped lost (block_samples s t) (bits_of s.bits / 8)))
  where
    regrouped : (a b c : ℕ) → a * b * c ≡ a * (b * c)
    regrouped a b c = grind arith

-- ---- the file when it is closed

-- the bytes of a file before it is closed
abbrev pub flushed_bytes : Session → ℕ → ℕ → List Block → List ℕ
flushed_bytes s t n blocks = unwrap_or (flushed_file s t n blocks) []

behind_ending : (s : Session) (t : ℕ) (run : Run) (bs : List Block) → run.filled ≡ blocks_in run.take bs →
    drop 44 (flushed_bytes s t run.take bs ++ ending s t run)
    ≡ flushed_sound s t run.take bs ++ (replicate ((run.blocks - run.filled) * block_bytes s t) 0 ++ pad_of (run.blocks * block_bytes s t))
behind_ending s t run bs is = by (blocks_in run.take bs == 0) refl (ap (λ k. k == 0) is)
  where
    rest : List ℕ
    rest = replicate ((run.blocks - run.filled) * block_bytes s t) 0 ++ pad_of (run.blocks * block_bytes s t)

    head : List ℕ
    head = head_of s t (blocks_in run.take bs)

    nothing : blocks_in run.take bs ≡ 0 → flushed_sound s t run.take bs ≡ []
    nothing none = ap (λ k. sound_bytes (bits_of s.bits) (flat_map (λ i. unwrap_or (block_at run.take i bs) (silent_block s t)) (range_with_len 0 k))) none

    by : (b : Bool) → (blocks_in run.take bs == 0) ≡ b → (run.filled == 0) ≡ b →
        drop 44 (unwrap_or (if b then None else Some (head ++ flushed_sound s t run.take bs)) [] ++ ((if run.filled == 0 then no_blocks s t else []) ++ rest)) ≡ flushed_sound s t run.take bs ++ rest
    by true none empty = ap (λ c. drop 44 ((if c then no_blocks s t else []) ++ rest)) empty ∙ behind_header (take_form s t) (0 * block_bytes s t) rest
        ∙ ap (λ l. l ++ rest) (sym (nothing (eqb-true (blocks_in run.take bs) 0 none)))
    by false none empty = ap (λ c. drop 44 ((head ++ flushed_sound s t run.take bs) ++ ((if c then no_blocks s t else []) ++ rest))) empty
        ∙ ap (drop 44) (append_assoc head (flushed_sound s t run.take bs) rest)
        ∙ behind_head s t (blocks_in run.take bs) (flushed_sound s t run.take bs ++ rest)

pub closed_is_take : (s : Session) (input : Input) (t : ℕ) (journal : List Entry) (run : Run) → IsRunOf s input t journal run →
    closed_file s t run (flushed_bytes s t run.take (taken_blocks s input t journal)) ≡ take_file s input t run.take journal
closed_is_take s input t journal run is = let bs = taken_blocks s input t journal in let sound = take_sound s input t run.take journal in
    let long : length sound ≡ run.blocks * block_bytes s t = take_sound_long s input t run.take journal ∙ ap (λ k. k * block_bytes s t) (sym is.blocks) in
    ap (λ l. header (take_form s t) (run.blocks * block_bytes s t) ++ l)
    (behind_ending s t run bs is.filled
    ∙ sym (append_assoc (flushed_sound s t run.take bs) (replicate ((run.blocks - run.filled) * block_bytes s t) 0) (pad_of (run.blocks * block_bytes s t)))
    ∙ ap (λ l. l ++ pad_of (run.blocks * block_bytes s t)) (ap₂ (λ a b. flushed_sound s t run.take bs ++ replicate ((a - b) * block_bytes s t) 0) is.blocks is.filled
    ∙ sym (flushed_and_zeros s input t run.take journal is.counts)))
    ∙ sym (file_parts s input t run.take journal ∙ ap (λ k. header (take_form s t) k ++ (sound ++ pad_of k)) long)

-- the file closed has behind its header what was held and its ending
pub behind_closed : (s : Session) (t : ℕ) (run : Run) (held : List ℕ) → drop 44 (closed_file s t run held) ≡ drop 44 (held ++ ending s t run)
behind_closed s t run held = behind_header (take_form s t) (run.blocks * block_bytes s t) (drop 44 (held ++ ending s t run))

-- ---- fronts

pub front_of_front : (a b c : List ℕ) → IsFront a b → IsFront b c → IsFront a c
front_of_front a b c front whole = let at = front.1 ∙ ap (take front.0) whole.1 in elim (cases_lt front.0 whole.0) [
  | inl less ↦ (front.0, at ∙ take-take front.0 whole.0 c (omega (arith, less)))
  | inr more ↦ (whole.0, at ∙ take_all front.0 (take whole.0 c) (omega (arith, length-take whole.0 c, more)))
]

pub front_joined : (a b : List ℕ) → IsFront a (a ++ b)
front_joined a b = (length a, sym (take-append_seam a b))

-- what was flushed is a front of the take, from byte 44 on
pub flushed_front_of_take : (s : Session) (input : Input) (t n : ℕ) (journal : List Entry) → CountsUp t n 0 journal →
    IsFront (flushed_sound s t n (taken_blocks s input t journal)) (drop 44 (take_file s input t n journal))
flushed_front_of_take s input t n journal up = let bs = taken_blocks s input t journal in let sound = take_sound s input t n journal in
    let zeros = replicate ((notes_of t n journal - blocks_in n bs) * block_bytes s t) 0 in
    subst (λ l. IsFront (flushed_sound s t n bs) l) (sym (behind_file_header s input t n journal ∙ ap (λ l. l ++ pad_of (length sound)) (flushed_and_zeros s input t n journal up)
    ∙ append_assoc (flushed_sound s t n bs) zeros (pad_of (length sound))))
    (front_joined (flushed_sound s t n bs) (zeros ++ pad_of (length sound)))
