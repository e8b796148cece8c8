-- Lemmas on what the eight bytes of a chunk say of a file's head.
use Rattle.std.proofs.Common.{◌≡◌, ℕ, ◌+◌, ◌%◌, ◌<◌, ◌≤◌, true, false, ◌&&◌, List, length, take, drop, Option, Some, None, Result, Ok, Err, refl, sym, ap, ◌∙◌, arith, drop-drop}
use Rattle.std.specs.Prelude.{if◌then◌else◌, codes, bytes_eq, is_some, is_none}
use Rattle.std.proofs.lemmas.Bool.{false≢true}
use Rattle.std.proofs.lemmas.Bool.Decides.{nat_tests}
use Rattle.sound_model.specs.Numbers.{number}
use Rattle.sound_model.specs.Wav.{Form, Refusal, NoData, HeadTooLong, ◌>>=◌, begins_at, last_place, stands, size_at, after, format_at, form_after, head_at, walk, head}
use Rattle.wav_codec.specs.Progress.{Agrees}
use Rattle.wav_codec.specs.declared.scan.Stage.TheVariants.{Chunk}
use Rattle.wav_codec.proofs.Pieces.{number-part, take-part, whole_piece, short_piece}
use Rattle.wav_codec.proofs.Walk.{past_end, walk-past, walk-over, walk-at}

-- ---- where a chunk is looked for

pub past_last_place : (size : Option ℕ) (riff at : ℕ) (form : Option Form) (b : List ℕ)
    → Agrees (record { size = size; stage = Chunk riff at form }) b → last_place < at → head (is_some size) b ≡ Err (HeadTooLong at)
past_last_place size riff at form b agrees past = agrees.rest ∙ walk-past (is_some size) b at form past

pub past_riff : (size : Option ℕ) (riff at : ℕ) (form : Option Form) (b : List ℕ)
    → Agrees (record { size = size; stage = Chunk riff at form }) b → at ≤ last_place → riff < at → head (is_some size) b ≡ Err NoData
past_riff size riff at form b agrees place past =
    let second : riff ≡ number 4 (drop 4 b) = agrees.riff in
    let none : stands b at ≡ false = grind (arith, nat_tests) in
    agrees.rest ∙ walk-over (is_some size) b at form place none

-- ---- the eight bytes of a chunk

pub no_chunk : (size : Option ℕ) (riff at : ℕ) (form : Option Form) (b piece : List ℕ)
    → Agrees (record { size = size; stage = Chunk riff at form }) b → at ≤ last_place
    → piece ≡ take 8 (drop at b) → length piece < 8 → head (is_some size) b ≡ Err NoData
no_chunk size riff at form b piece agrees place e short =
    agrees.rest ∙ walk-over (is_some size) b at form place (past_end b at (short_piece 8 at b piece e short))

-- a chunk that stands, as it was given
pub record Given (size : Option ℕ) (riff at : ℕ) (form : Option Form) (b piece : List ℕ) : Type 0 where
  pub agrees : Agrees (record { size = size; stage = Chunk riff at form }) b
  pub reached : at ≤ last_place
  pub inside : at ≤ riff
  pub taken : piece ≡ take 8 (drop at b)
  pub whole : 8 ≤ length piece

chunk_here : (size : Option ℕ) (riff at : ℕ) (form : Option Form) (b piece : List ℕ) → Given size riff at form b piece
    → head (is_some size) b ≡ (if bytes_eq (take 4 piece) (codes "data") then head_at (is_some size) b at form
    else (form_after b at form >>= λ found. walk (length b) (is_some size) b (after b at) found))
chunk_here size riff at form b piece given =
    let second : riff ≡ number 4 (drop 4 b) = given.agrees.riff in
    given.agrees.rest ∙ walk-at (is_some size) b at form given.reached (omega (arith, given.inside)) (whole_piece 8 at b piece given.taken given.whole (omega arith))
    ∙ ap (λ xs. if bytes_eq xs (codes "data") then head_at (is_some size) b at form
    else (form_after b at form >>= λ found. walk (length b) (is_some size) b (after b at) found)) (sym (take-part 4 8 at b piece given.taken (omega arith)))

pub size_given : (size : Option ℕ) (riff at : ℕ) (form : Option Form) (b piece : List ℕ) → Given size riff at form b piece
    → number 4 (drop 4 piece) ≡ size_at b at
size_given size riff at form b piece given =
    number-part 4 4 8 at b piece given.taken (omega arith) (omega arith) ∙ ap (number 4) (drop-drop 4 at b)

pub data_here : (size : Option ℕ) (riff at : ℕ) (form : Option Form) (b piece : List ℕ) → Given size riff at form b piece
    → bytes_eq (take 4 piece) (codes "data") ≡ true → head (is_some size) b ≡ head_at (is_some size) b at form
data_here size riff at form b piece given named =
    chunk_here size riff at form b piece given
    ∙ ap (λ t. if t then head_at (is_some size) b at form
    else (form_after b at form >>= λ found. walk (length b) (is_some size) b (after b at) found)) named

other_here : (size : Option ℕ) (riff at : ℕ) (form : Option Form) (b piece : List ℕ) → Given size riff at form b piece
    → bytes_eq (take 4 piece) (codes "data") ≡ false
    → head (is_some size) b ≡ (form_after b at form >>= λ found. walk (length b) (is_some size) b (after b at) found)
other_here size riff at form b piece given named =
    chunk_here size riff at form b piece given
    ∙ ap (λ t. if t then head_at (is_some size) b at form
    else (form_after b at form >>= λ found. walk (length b) (is_some size) b (after b at) found)) named

-- a chunk that is skipped leaves the form as it is
kept_form : (form : Option Form) (b : List ℕ) (p : ℕ) → (is_none form && begins_at b p (codes "fmt ")) ≡ false → form_after b p form ≡ Ok form
kept_form (Some f) b p h = refl
kept_form None b p h = ap (λ t. if t then (format_at b p >>= λ f. Ok (Some f)) else Ok None) h

first_form : (form : Option Form) (b : List ℕ) (p : ℕ) → (is_none form && begins_at b p (codes "fmt ")) ≡ true
    → form_after b p form ≡ (format_at b p >>= λ f. Ok (Some f))
first_form (Some f) b p h = absurd (false≢true h)
first_form None b p h = ap (λ t. if t then (format_at b p >>= λ f. Ok (Some f)) else Ok None) h

name_here : (size : Option ℕ) (riff at : ℕ) (form : Option Form) (b piece : List ℕ) → Given size riff at form b piece
    → (is_none form && bytes_eq (take 4 piece) (codes "fmt ")) ≡ (is_none form && begins_at b at (codes "fmt "))
name_here size riff at form b piece given =
    ap (λ xs. is_none form && bytes_eq xs (codes "fmt ")) (take-part 4 8 at b piece given.taken (omega arith))

pub skipped : (size : Option ℕ) (riff at long next : ℕ) (form : Option Form) (b piece : List ℕ) → Given size riff at form b piece
    → bytes_eq (take 4 piece) (codes "data") ≡ false → (is_none form && bytes_eq (take 4 piece) (codes "fmt ")) ≡ false
    → long ≡ number 4 (drop 4 piece) → next ≡ at + 8 + long + long % 2 → Agrees (record { size = size; stage = Chunk riff next form }) b
skipped size riff at long next form b piece given not_data not_format tells goes =
    let kept : form_after b at form ≡ Ok form = kept_form form b at (sym (name_here size riff at form b piece given) ∙ not_format) in
    let onward : next ≡ after b at = goes ∙ ap (λ n. at + 8 + n + n % 2) (tells ∙ size_given size riff at form b piece given) in
    record {
      size = given.agrees.size;
      riff = given.agrees.riff;
      rest = other_here size riff at form b piece given not_data
          ∙ ap (λ r. r >>= λ found. walk (length b) (is_some size) b (after b at) found) kept
          ∙ ap (λ p. walk (length b) (is_some size) b p form) (sym onward);
    }

-- ---- the first `fmt ` chunk

bind_assoc : {A B C : Type 0} (r : Result A Refusal) (f : A → Result B Refusal) (g : B → Result C Refusal)
    → ((r >>= f) >>= g) ≡ (r >>= λ x. f x >>= g)
bind_assoc (Ok x) f g = refl
bind_assoc (Err e) f g = refl

-- the walk goes on from the form of the first `fmt ` chunk
pub format_here : (size : Option ℕ) (riff at : ℕ) (form : Option Form) (b piece : List ℕ) → Given size riff at form b piece
    → bytes_eq (take 4 piece) (codes "data") ≡ false → (is_none form && bytes_eq (take 4 piece) (codes "fmt ")) ≡ true
    → head (is_some size) b ≡ (format_at b at >>= λ f. walk (length b) (is_some size) b (after b at) (Some f))
format_here size riff at form b piece given not_data named =
    other_here size riff at form b piece given not_data
    ∙ ap (λ r. r >>= λ found. walk (length b) (is_some size) b (after b at) found)
    (first_form form b at (sym (name_here size riff at form b piece given) ∙ named))
    ∙ bind_assoc (format_at b at) (λ f. Ok (Some f)) (λ found. walk (length b) (is_some size) b (after b at) found)
