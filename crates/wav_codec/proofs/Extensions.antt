-- Lemmas on what the pieces of an extension say of a file's head.
use Rattle.std.proofs.Common.{◌≡◌, ℕ, suc, ◌+◌, ◌&&◌, nat_le, List, [], ◌∷◌, ◌++◌, length, take, drop, Option, refl, sym, ap, ◌∙◌, arith, drop-drop}
use Rattle.std.specs.Prelude.{bytes_eq, is_some, nat_eq}
use Rattle.std.proofs.Math.Bool.{and_assoc}
use Rattle.std.proofs.lemmas.List.{drop-take, take-take}
use Rattle.sound_model.specs.Numbers.{number}
use Rattle.sound_model.specs.Wav.{begins_at, pcm_subformat, extends_to_pcm}
use Rattle.wav_codec.specs.Fields.{begins_pcm_extension, with_pcm}
use Rattle.wav_codec.specs.Progress.{Agrees, walk_from_format, whole_form}
use Rattle.wav_codec.specs.declared.fields.Fields.{Fields}
use Rattle.wav_codec.specs.declared.scan.Stage.TheVariants.{Extension, Subformat, FormatEnd}
use Rattle.wav_codec.proofs.Pieces.{number-part}

-- a word is there where its two parts are
begins_by_parts : (word other bytes : List ℕ) (n : ℕ)
    → bytes_eq (take (length word + n) bytes) (word ++ other) ≡ (bytes_eq (take (length word) bytes) word && bytes_eq (take n (drop (length word) bytes)) other)
begins_by_parts [] other bytes n = let none : 0 + n ≡ n = omega arith in rw none refl
begins_by_parts (x ∷ word) other [] n = let more : suc (length word) + n ≡ suc (length word + n) = omega arith in rw more refl
begins_by_parts (x ∷ word) other (y ∷ bytes) n = let more : suc (length word) + n ≡ suc (length word + n) = omega arith in
    rw more (ap (λ t. nat_eq y x && t) (begins_by_parts word other bytes n) ∙ sym (and_assoc (nat_eq y x) _ _))

-- the bytes at a place of the chunk, and of the file
chunk_at : (m at q : ℕ) (b : List ℕ) → at + 8 + m ≡ q → drop m (drop (at + 8) b) ≡ drop q b
chunk_at m at q b e = drop-drop m (at + 8) b ∙ ap (λ j. drop j b) e

place : (p m q at : ℕ) → p + m ≡ q → at + p + m ≡ at + q
place p m q at e = omega arith

-- what the extension tells, by its two pieces
extension_read : (at : ℕ) (b piece : List ℕ) → piece ≡ take 16 (drop (at + 24) b)
    → extends_to_pcm (drop (at + 8) b) ≡ (begins_pcm_extension piece && begins_at b (at + 40) (drop 8 pcm_subformat))
extension_read at b piece e =
    let size : number 2 (drop 16 (drop (at + 8) b)) ≡ number 2 piece = ap (number 2) (chunk_at 16 at (at + 24) b (omega arith))
    ∙ sym (number-part 2 0 16 (at + 24) b piece e (omega arith) (omega arith)) in
    let first : take 8 (drop 24 (drop (at + 8) b)) ≡ take 8 (drop 8 piece) = ap (take 8) (chunk_at 24 at (at + 32) b (omega arith))
    ∙ sym (ap (take 8) (ap (drop 8) e ∙ drop-take 8 8 (drop (at + 24) b) ∙ ap (take 8) (drop-drop 8 (at + 24) b ∙ ap (λ j. drop j b) (place 24 8 32 at (omega arith))))
    ∙ take-take 8 8 (drop (at + 32) b) (omega arith)) in
    let second : drop 8 (drop 24 (drop (at + 8) b)) ≡ drop (at + 40) b = ap (drop 8) (chunk_at 24 at (at + 32) b (omega arith))
    ∙ drop-drop 8 (at + 32) b ∙ ap (λ j. drop j b) (place 32 8 40 at (omega arith)) in
    ap (λ n. nat_le 22 n && bytes_eq (take 16 (drop 24 (drop (at + 8) b))) pcm_subformat) size
    ∙ ap (λ t. nat_le 22 (number 2 piece) && t) (begins_by_parts (take 8 pcm_subformat) (drop 8 pcm_subformat) (drop 24 (drop (at + 8) b)) 8
    ∙ ap (λ xs. bytes_eq xs (take 8 pcm_subformat) && bytes_eq (take 8 (drop 8 (drop 24 (drop (at + 8) b)))) (drop 8 pcm_subformat)) first
    ∙ ap (λ xs. bytes_eq (take 8 (drop 8 piece)) (take 8 pcm_subformat) && bytes_eq (take 8 xs) (drop 8 pcm_subformat)) second)
    ∙ sym (and_assoc (nat_le 22 (number 2 piece)) _ _)

-- ---- its two pieces

pub extension_given : (size : Option ℕ) (riff at long : ℕ) (b piece : List ℕ) (fields : Fields)
    → Agrees (record { size = size; stage = Extension riff at long fields }) b → piece ≡ take 16 (drop (at + 24) b)
    → Agrees (record { size = size; stage = Subformat riff at long (with_pcm (begins_pcm_extension piece) fields) }) b
extension_given size riff at long b piece fields agrees e = record {
  size = agrees.size;
  riff = agrees.riff;
  rest = agrees.rest ∙ ap (λ t. walk_from_format (is_some size) b at long (whole_form b at long (with_pcm t fields))) (extension_read at b piece e);
}

pub subformat_given : (size : Option ℕ) (riff at long : ℕ) (b piece : List ℕ) (fields : Fields)
    → Agrees (record { size = size; stage = Subformat riff at long fields }) b → piece ≡ take 8 (drop (at + 40) b)
    → Agrees (record { size = size; stage = FormatEnd riff at long (with_pcm (fields.pcm && bytes_eq piece (drop 8 pcm_subformat)) fields) }) b
subformat_given size riff at long b piece fields agrees e = record {
  size = agrees.size;
  riff = agrees.riff;
  rest = agrees.rest
      ∙ ap (λ xs. walk_from_format (is_some size) b at long (whole_form b at long (with_pcm (fields.pcm && bytes_eq xs (drop 8 pcm_subformat)) fields))) (sym e);
}
