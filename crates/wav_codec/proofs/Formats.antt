-- Lemmas on what the pieces of the first `fmt ` chunk say of a file's head.
use Rattle.std.proofs.Common.{◌≡◌, ℕ, ◌+◌, ◌%◌, ◌<◌, ◌≤◌, ◌≢◌, Bool, true, false, ◌&&◌, ◌||◌, nat_lt, List, length, take, drop, Option, Some, Result, Ok, Err, refl, sym, ap, ◌∙◌, arith, length-take}
use Rattle.std.specs.Prelude.{if◌then◌else◌, codes, bytes_eq, is_some, is_none, ◌==◌}
use Rattle.std.proofs.Math.Bool.{and-false, or-false, or-true}
use Rattle.std.proofs.lemmas.Bool.{lt-ltb, le-ltb, eqb-true}
use Rattle.sound_model.specs.Numbers.{number}
use Rattle.sound_model.specs.Wav.{Form, Refusal, FormatShort, size_at, pcm, extensible, extends_to_pcm, is_pcm, form_of, form_in, is_short, walk, head}
use Rattle.wav_codec.specs.Fields.{fields_at, form_given, with_pcm}
use Rattle.wav_codec.specs.Progress.{Agrees, walk_from_format}
use Rattle.wav_codec.specs.declared.fields.Fields.{Fields}
use Rattle.wav_codec.specs.declared.scan.Stage.TheVariants.{Chunk, Format, Extension, FormatEnd}
use Rattle.wav_codec.proofs.Pieces.{number-part, short_piece}
use Rattle.wav_codec.proofs.Steps.{Given, size_given, format_here}

-- what the `fmt ` chunk of n bytes at a place gives
abbrev given_by : List ℕ → ℕ → ℕ → Result Form Refusal
given_by b at n = if is_short b at n then Err (FormatShort n) else form_in (drop (at + 8) b)

-- ---- its eight bytes

pub short_format : (size : Option ℕ) (riff at long : ℕ) (form : Option Form) (b piece : List ℕ) → Given size riff at form b piece
    → bytes_eq (take 4 piece) (codes "data") ≡ false → (is_none form && bytes_eq (take 4 piece) (codes "fmt ")) ≡ true
    → long ≡ number 4 (drop 4 piece) → long < 16 → head (is_some size) b ≡ Err (FormatShort long)
short_format size riff at long form b piece given not_data named tells few =
    let s : size_at b at ≡ long = sym (tells ∙ size_given size riff at form b piece given) in
    format_here size riff at form b piece given not_data named
    ∙ ap (λ n. walk_from_format (is_some size) b at n (given_by b at n)) s
    ∙ ap (λ t. walk_from_format (is_some size) b at long (if t || nat_lt (length b) (at + 8 + long)
    || (number 2 (drop (at + 8) b) == extensible && nat_lt long 40) then Err (FormatShort long) else form_in (drop (at + 8) b)))
    (lt-ltb long 16 few)

pub format_asked : (size : Option ℕ) (riff at long : ℕ) (form : Option Form) (b piece : List ℕ) → Given size riff at form b piece
    → bytes_eq (take 4 piece) (codes "data") ≡ false → (is_none form && bytes_eq (take 4 piece) (codes "fmt ")) ≡ true
    → long ≡ number 4 (drop 4 piece) → Agrees (record { size = size; stage = Format riff at long }) b
format_asked size riff at long form b piece given not_data named tells =
    let s : size_at b at ≡ long = sym (tells ∙ size_given size riff at form b piece given) in
    record {
      size = given.agrees.size;
      riff = given.agrees.riff;
      rest = format_here size riff at form b piece given not_data named
          ∙ ap (λ n. walk_from_format (is_some size) b at n (given_by b at n)) s;
    }

-- ---- its first 16 bytes

-- a format that is too short, or cut, is refused
short_here : (size : Option ℕ) (riff at long : ℕ) (b : List ℕ) → Agrees (record { size = size; stage = Format riff at long }) b
    → is_short b at long ≡ true → head (is_some size) b ≡ Err (FormatShort long)
short_here size riff at long b agrees short = agrees.rest
    ∙ ap (λ t. walk_from_format (is_some size) b at long (if t then Err (FormatShort long) else form_in (drop (at + 8) b))) short

-- the file ends before them
pub cut_format : (size : Option ℕ) (riff at long : ℕ) (b piece : List ℕ) → Agrees (record { size = size; stage = Format riff at long }) b
    → 16 ≤ long → piece ≡ take 16 (drop (at + 8) b) → length piece ≢ 16 → head (is_some size) b ≡ Err (FormatShort long)
cut_format size riff at long b piece agrees enough e short =
    let few : length piece < 16 = omega (arith, short, ap length e, length-take 16 (drop (at + 8) b)) in
    let ends : length b < at + 8 + 16 = short_piece 16 (at + 8) b piece e few in
    let cut : nat_lt (length b) (at + 8 + long) ≡ true = lt-ltb (length b) (at + 8 + long) (omega arith) in
    let some : nat_lt long 16 ≡ false = le-ltb long 16 enough in
    short_here size riff at long b agrees (rw (some, cut) refl)

-- they are given, and these are their fields
pub record Read (at : ℕ) (b piece : List ℕ) (fields : Fields) : Type 0 where
  pub taken : piece ≡ take 16 (drop (at + 8) b)
  pub given : fields ≡ fields_at piece

tag_read : (at : ℕ) (b piece : List ℕ) (fields : Fields) → Read at b piece fields → fields.tag ≡ number 2 (drop (at + 8) b)
tag_read at b piece fields r = ap (λ (f : Fields). f.tag) r.given ∙ number-part 2 0 16 (at + 8) b piece r.taken (omega arith) (omega arith)

same_form : (p : Bool) (t c r a d t' c' r' a' d' : ℕ) → t ≡ t' → c ≡ c' → r ≡ r' → a ≡ a' → d ≡ d' → form_of p t c r a d ≡ form_of p t' c' r' a' d'
same_form p t c r a d t' c' r' a' d' ht hc hr ha hd =
    ap (λ x. form_of p x c r a d) ht ∙ ap (λ x. form_of p t' x r a d) hc ∙ ap (λ x. form_of p t' c' x a d) hr
    ∙ ap (λ x. form_of p t' c' r' x d) ha ∙ ap (form_of p t' c' r' a') hd

-- they give what the file's bytes give, where it is known whether these tell PCM
form_read : (told : Bool) (at : ℕ) (b piece : List ℕ) (fields : Fields) → Read at b piece fields → told ≡ is_pcm (drop (at + 8) b)
    → form_given (with_pcm told fields) ≡ form_in (drop (at + 8) b)
form_read told at b piece fields r e =
    let part = λ (k m : ℕ) (some : 0 < k) (h : m + k ≤ 16). number-part k m 16 (at + 8) b piece r.taken some h in
    ap (λ f. form_given (with_pcm told f)) r.given
    ∙ same_form told _ _ _ _ _ _ _ _ _ _ (part 2 0 (omega arith) (omega arith)) (part 2 2 (omega arith) (omega arith))
    (part 4 4 (omega arith) (omega arith)) (part 2 12 (omega arith) (omega arith)) (part 2 14 (omega arith) (omega arith))
    ∙ ap (λ t. form_of t (number 2 (drop (at + 8) b)) (number 2 (drop 2 (drop (at + 8) b))) (number 4 (drop 4 (drop (at + 8) b)))
    (number 2 (drop 12 (drop (at + 8) b))) (number 2 (drop 14 (drop (at + 8) b)))) e

-- the tag isn't that of an extensible format
pub plain_fields : (size : Option ℕ) (riff at long : ℕ) (b piece : List ℕ) (fields : Fields)
    → Agrees (record { size = size; stage = Format riff at long }) b → 16 ≤ long → Read at b piece fields → (fields.tag == extensible) ≡ false
    → Agrees (record { size = size; stage = FormatEnd riff at long fields }) b
plain_fields size riff at long b piece fields agrees enough r plain =
    let some : nat_lt long 16 ≡ false = le-ltb long 16 enough in
    let tag : number 2 (drop (at + 8) b) ≡ fields.tag = sym (tag_read at b piece fields r) in
    let other : (number 2 (drop (at + 8) b) == extensible) ≡ false = ap (λ n. n == extensible) tag ∙ plain in
    let short : is_short b at long ≡ nat_lt (length b) (at + 8 + long) = rw (some, other) (or-false (nat_lt (length b) (at + 8 + long))) in
    let told : fields.pcm ≡ is_pcm (drop (at + 8) b) = ap (λ (f : Fields). f.pcm) r.given
    ∙ ap (λ n. n == pcm) (number-part 2 0 16 (at + 8) b piece r.taken (omega arith) (omega arith))
    ∙ sym (ap (λ t. number 2 (drop (at + 8) b) == pcm || (t && extends_to_pcm (drop (at + 8) b))) other ∙ or-false (number 2 (drop (at + 8) b) == pcm)) in
    record {
      size = agrees.size;
      riff = agrees.riff;
      rest = agrees.rest
          ∙ ap (λ t. walk_from_format (is_some size) b at long (if t then Err (FormatShort long) else form_in (drop (at + 8) b))) short
          ∙ ap (λ given. walk_from_format (is_some size) b at long (if nat_lt (length b) (at + 8 + long) then Err (FormatShort long) else given))
          (sym (form_read fields.pcm at b piece fields r told));
    }

-- an extensible format below 40 bytes
pub extensible_short : (size : Option ℕ) (riff at long : ℕ) (b piece : List ℕ) (fields : Fields)
    → Agrees (record { size = size; stage = Format riff at long }) b → Read at b piece fields → (fields.tag == extensible) ≡ true
    → long < 40 → head (is_some size) b ≡ Err (FormatShort long)
extensible_short size riff at long b piece fields agrees r tagged few =
    let tag : (number 2 (drop (at + 8) b) == extensible) ≡ true = ap (λ n. n == extensible) (sym (tag_read at b piece fields r)) ∙ tagged in
    let below : nat_lt long 40 ≡ true = lt-ltb long 40 few in
    short_here size riff at long b agrees (rw (tag, below) (or-true (nat_lt long 16 || nat_lt (length b) (at + 8 + long))))

-- one of 40 bytes or more
pub extensible_fields : (size : Option ℕ) (riff at long : ℕ) (b piece : List ℕ) (fields : Fields)
    → Agrees (record { size = size; stage = Format riff at long }) b → Read at b piece fields → (fields.tag == extensible) ≡ true → 40 ≤ long
    → Agrees (record { size = size; stage = Extension riff at long fields }) b
extensible_fields size riff at long b piece fields agrees r tagged enough =
    let some : nat_lt long 16 ≡ false = le-ltb long 16 (omega arith) in
    let all : nat_lt long 40 ≡ false = le-ltb long 40 enough in
    let tag : number 2 (drop (at + 8) b) ≡ extensible = sym (tag_read at b piece fields r) ∙ eqb-true fields.tag extensible tagged in
    let short : is_short b at long ≡ nat_lt (length b) (at + 8 + long) = rw (some, all, and-false, or-false) refl in
    let told : extends_to_pcm (drop (at + 8) b) ≡ is_pcm (drop (at + 8) b) =
    sym (ap (λ n. n == pcm || (n == extensible && extends_to_pcm (drop (at + 8) b))) tag) in
    record {
      size = agrees.size;
      riff = agrees.riff;
      rest = agrees.rest
          ∙ ap (λ t. walk_from_format (is_some size) b at long (if t then Err (FormatShort long) else form_in (drop (at + 8) b))) short
          ∙ ap (λ given. walk_from_format (is_some size) b at long (if nat_lt (length b) (at + 8 + long) then Err (FormatShort long) else given))
          (sym (form_read (extends_to_pcm (drop (at + 8) b)) at b piece fields r told));
    }

-- ---- all of it

-- the fields are read, and the chunk is whole
pub format_read : (size : Option ℕ) (riff at long next : ℕ) (fields : Fields) (form : Form) (b : List ℕ)
    → Agrees (record { size = size; stage = FormatEnd riff at long fields }) b → at + 8 + long ≤ length b
    → form_given fields ≡ Ok form → next ≡ at + 8 + long + long % 2 → Agrees (record { size = size; stage = Chunk riff next (Some form) }) b
format_read size riff at long next fields form b agrees whole read goes =
    record {
      size = agrees.size;
      riff = agrees.riff;
      rest = agrees.rest
          ∙ ap (λ t. walk_from_format (is_some size) b at long (if t then Err (FormatShort long) else form_given fields))
          (le-ltb (length b) (at + 8 + long) whole)
          ∙ ap (walk_from_format (is_some size) b at long) read ∙ ap (λ p. walk (length b) (is_some size) b p (Some form)) (sym goes);
    }
