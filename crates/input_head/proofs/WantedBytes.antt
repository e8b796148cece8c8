-- No byte that a scan wants is of the data.
use Rattle.std.proofs.Common.{◌≡◌, ℕ, ◌+◌, ◌-◌, ◌<◌, ◌≤◌, ◌⊎◌, inl, inr, refl, ap, arith, ◌∙◌, sym, nat_lt, Bool, true, false, not, ◌&&◌, ◌||◌, List, [], ◌∷◌, length, take, drop, Option, None, Result, Ok, Err, length-take, length-drop}
use Rattle.std.specs.Prelude.{◌==◌, if◌then◌else◌, codes, bytes_eq, is_some, nat_eq, nat_le}
use Rattle.std.proofs.lemmas.Bool.{cases_lt, lt-ltb, or_left, or_right, false_from_ne_true, and_right, and_parts}
use Rattle.sound_model.specs.Numbers.{number}
use Rattle.sound_model.specs.Wav.{Form, Head, Refusal, FormatShort, Format, NotRiff, NotWave, begins_at, last_place, pcm_subformat, extends_to_pcm, extensible, form_in, is_short, walk, head}
use Rattle.wav_codec.specs.Fields.{form_given, with_pcm}
use Rattle.wav_codec.specs.Progress.{Progress, Agrees, HasRiff, place_of, long_of, wanted_at, wanted_long, wanted_end, walk_from_format, whole_form, rest_of, told}
use Rattle.wav_codec.specs.declared.fields.Fields.{Fields}
use Rattle.wav_codec.specs.declared.scan.Stage.{Stage}
use Rattle.wav_codec.specs.declared.scan.Stage.TheVariants as stage
use Rattle.wav_codec.proofs.Walk.{past_end, walk-past, walk-over}
use Rattle.input_head.proofs.CutLemmas.{cut_head}

refused : {e : Refusal} {h : Head} (r : Result Head Refusal) → r ≡ Err e → r ≡ Ok h → ⊥
refused r one two = cc

-- a word that isn't all there
equal_long : (xs ys : List ℕ) → bytes_eq xs ys ≡ true → length xs ≡ length ys
equal_long [] [] e = refl
equal_long [] (y ∷ ys) e = absurd cc
equal_long (x ∷ xs) [] e = absurd cc
equal_long (x ∷ xs) (y ∷ ys) e = omega (arith, equal_long xs ys (and_parts (nat_eq x y) (bytes_eq xs ys) e).1)

cut_word : (b word : List ℕ) (p : ℕ) → 0 < length word → length b < p + length word → begins_at b p word ≡ false
cut_word b word p some few = false_from_ne_true (begins_at b p word)
    (λ e. omega (arith, equal_long (take (length word) (drop p b)) word e, length-take (length word) (drop p b), length-drop p b))

-- ---- a stream that ends within what is wanted has no head

cut_chunk : (b : List ℕ) (at : ℕ) (form : Option Form) (h : Head) → length b < at + 8 → walk (length b) false b at form ≡ Ok h → ⊥
cut_chunk b at form h few e = go (cases_lt last_place at)
  where
    go : (last_place < at) ⊎ (at ≤ last_place) → ⊥
    go (inl past) = refused _ (walk-past false b at form past) e
    go (inr near) = refused _ (walk-over false b at form near (past_end b at few)) e

no_form : (b : List ℕ) (at long : ℕ) (e : Refusal) (given : Result Form Refusal) (h : Head) → given ≡ Err e → walk_from_format false b at long given ≡ Ok h → ⊥
no_form b at long e given h same found = let P = walk_from_format false b at long in refused (P given) (ap P same) found

cut_fields : (b : List ℕ) (at long : ℕ) → length b < at + 24 → is_short b at long ≡ true
cut_fields b at long few = or_left (nat_lt long 16 || nat_lt (length b) (at + 8 + long)) (number 2 (drop (at + 8) b) == extensible && nat_lt long 40) (go (cases_lt long 16))
  where
    go : (long < 16) ⊎ (16 ≤ long) → (nat_lt long 16 || nat_lt (length b) (at + 8 + long)) ≡ true
    go (inl small) = or_left (nat_lt long 16) (nat_lt (length b) (at + 8 + long)) (lt-ltb long 16 small)
    go (inr enough) = or_right (nat_lt long 16) (nat_lt (length b) (at + 8 + long)) (lt-ltb (length b) (at + 8 + long) (omega arith))

abbrev refusal_in : ℕ → Fields → Bool → Refusal
refusal_in long fields cut = if cut then FormatShort long else Format fields.tag

no_pcm : (b : List ℕ) (at long : ℕ) (fields : Fields) → whole_form b at long (with_pcm false fields) ≡ Err (refusal_in long fields (nat_lt (length b) (at + 8 + long)))
no_pcm b at long fields = go (nat_lt (length b) (at + 8 + long))
  where
    go : (cut : Bool) → (if cut then Err (FormatShort long) else form_given (with_pcm false fields)) ≡ Err (refusal_in long fields cut)
    go true = refl
    go false = refl

not_pcm : (b : List ℕ) (at long : ℕ) (fields : Fields) (pcm : Bool) (h : Head) → pcm ≡ false → walk_from_format false b at long (whole_form b at long (with_pcm pcm fields)) ≡ Ok h → ⊥
not_pcm b at long fields pcm h none e = no_form b at long _ _ h (ap (λ t. whole_form b at long (with_pcm t fields)) none ∙ no_pcm b at long fields) e

cut_extension : (b : List ℕ) (at : ℕ) → length b < at + 48 → extends_to_pcm (drop (at + 8) b) ≡ false
cut_extension b at few = and_right (nat_le 22 (number 2 (drop 16 (drop (at + 8) b)))) (begins_at (drop (at + 8) b) 24 pcm_subformat)
    (cut_word (drop (at + 8) b) pcm_subformat 24 (omega arith) (omega (arith, length-drop (at + 8) b)))

cut_start : (b : List ℕ) (h : Head) → length b < 12 → head false b ≡ Ok h → ⊥
unfolding head
cut_start b h few e = refused _ (ap (λ t. if t || not (begins_at b 0 (codes "RIFF")) then Err NotRiff
    else (if not (begins_at b 8 (codes "WAVE")) then Err NotWave else walk (length b) false b 12 None)) (lt-ltb (length b) 12 few)) e

cut_stage : (s : Stage) (b : List ℕ) (h : Head) → length b < place_of s + long_of s → rest_of false b s ≡ Ok h → ⊥
cut_stage stage.Riff b h few e = cut_start b h few e
cut_stage (stage.Chunk riff at form) b h few e = cut_chunk b at form h few e
cut_stage (stage.Format riff at long) b h few e =
    no_form b at long (FormatShort long) _ h (ap (λ t. if t then Err (FormatShort long) else form_in (drop (at + 8) b)) (cut_fields b at long (omega arith))) e
cut_stage (stage.Extension riff at long fields) b h few e = not_pcm b at long fields _ h (cut_extension b at (omega arith)) e
cut_stage (stage.Subformat riff at long fields) b h few e =
    not_pcm b at long fields _ h (and_right fields.pcm (begins_at b (at + 40) (drop 8 pcm_subformat)) (cut_word b (drop 8 pcm_subformat) (at + 40) (omega arith) (omega arith))) e
cut_stage (stage.FormatEnd riff at long fields) b h few e =
    no_form b at long (FormatShort long) _ h (ap (λ t. if t then Err (FormatShort long) else form_given fields) (lt-ltb (length b) (at + 8 + long) (omega arith))) e

-- ---- so it ends before the data

untold : (p : Progress) → p.size ≡ None → told p ≡ false
untold p none = ap is_some none

pub wanted_before_data : (p : Progress) (b : List ℕ) (h : Head) → p.size ≡ None → 1 ≤ wanted_long p → ((n : ℕ) → wanted_at p ≤ n → Agrees p (take n b))
    → head false b ≡ Ok h → wanted_end p ≤ h.data_at
wanted_before_data p b h none some agrees found = go (cases_lt h.data_at (wanted_end p))
  where
    go : (h.data_at < wanted_end p) ⊎ (wanted_end p ≤ h.data_at) → wanted_end p ≤ h.data_at
    go (inr before) = before
    go (inl within) = absurd (cut_stage p.stage (take (wanted_end p - 1) b) h (omega (arith, length-take (wanted_end p - 1) b))
        (sym (ap (λ t. rest_of t (take (wanted_end p - 1) b) p.stage) (untold p none))
        ∙ sym (agrees (wanted_end p - 1) (omega arith)).rest
        ∙ ap (λ t. head t (take (wanted_end p - 1) b)) (untold p none)
        ∙ cut_head (wanted_end p - 1) b h found (omega arith)))

-- ---- the first piece

-- a scan that agrees with every stream has begun nowhere
pub begins_at_zero : (p : Progress) → ((b : List ℕ) → Agrees p b) → wanted_at p ≡ 0
begins_at_zero p agrees = go p.stage (agrees []).riff (agrees (0 ∷ 0 ∷ 0 ∷ 0 ∷ 1 ∷ 0 ∷ 0 ∷ 0 ∷ [])).riff
  where
    -- no number is 0 and 1
    one : (n : ℕ) → n ≡ 0 → n ≡ 1 → ⊥
    one n none some = omega arith

    go : (s : Stage) → HasRiff s [] → HasRiff s (0 ∷ 0 ∷ 0 ∷ 0 ∷ 1 ∷ 0 ∷ 0 ∷ 0 ∷ []) → place_of s ≡ 0
    go stage.Riff none some = refl
    go (stage.Chunk riff at form) none some = absurd (one riff none some)
    go (stage.Format riff at long) none some = absurd (one riff none some)
    go (stage.Extension riff at long fields) none some = absurd (one riff none some)
    go (stage.Subformat riff at long fields) none some = absurd (one riff none some)
    go (stage.FormatEnd riff at long fields) none some = absurd (one riff none some)
