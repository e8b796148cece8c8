-- A stream that is cut behind its head has the same head.
use Rattle.std.proofs.Common.{◌≡◌, ℕ, zero, suc, ◌+◌, ◌/◌, ◌%◌, ◌<◌, ◌≤◌, ◌⊎◌, inl, inr, refl, ap, arith, ◌∙◌, sym, nat_lt, Bool, true, false, not, ◌&&◌, ◌||◌, List, length, take, drop, Option, Some, None, Result, Ok, Err, length-take, drop-drop}
use Rattle.std.specs.Prelude.{◌==◌, if◌then◌else◌, codes, bytes_eq, nat_le}
use Rattle.std.proofs.lemmas.Bool.{ltb-false, or_parts, and_cases}
use Rattle.sound_model.specs.Numbers.{number}
use Rattle.sound_model.specs.Wav.{Form, Head, Refusal, FormatShort, NotRiff, NotWave, ◌>>=◌, align, begins_at, last_place, stands, size_at, after, pcm, extensible, pcm_subformat, extends_to_pcm, is_pcm, form_of, form_in, is_short, format_at, form_after, head_at, end_at, walk, head}
use Rattle.wav_codec.proofs.Walk.{walk-bound}
use Rattle.input_head.proofs.FrontLemmas.{same_bytes, same_number, same_word, same_end, same_stands, same_size}

-- what was found, 0 where nothing was
abbrev place_found : Result Head Refusal → ℕ
place_found (Ok h) = h.data_at
place_found (Err e) = 0

-- what is found at a chunk: none where the walk ends, the data, or what comes next
abbrev branch : Bool → Bool → ℕ → Result Head Refusal → Result Head Refusal → Result Head Refusal
branch ends here p sound next = if ends then Err (end_at p) else (if here then sound else next)

-- ---- the data stand behind each chunk of the walk

behind_data : (b : List ℕ) (p : ℕ) (form : Option Form) (h : Head) → head_at false b p form ≡ Ok h → p + 8 ≤ h.data_at
behind_data b p None h e = absurd cc
behind_data b p (Some f) h e = omega (arith, ap place_found e)

behind_next : (p q : ℕ) (found : Result (Option Form) Refusal) (rest : Option Form → Result Head Refusal) (h : Head) → p ≤ q
    → ((form : Option Form) → rest form ≡ Ok h → q + 8 ≤ h.data_at) → (found >>= rest) ≡ Ok h → q + 8 ≤ h.data_at
behind_next p q (Err x) rest h more on e = absurd cc
behind_next p q (Ok form) rest h more on e = on form e

behind_chunk : (ends sounds : Bool) (b : List ℕ) (p : ℕ) (form : Option Form) (rest : Option Form → Result Head Refusal) (h : Head)
    → ((f : Option Form) → rest f ≡ Ok h → after b p + 8 ≤ h.data_at)
    → branch ends sounds p (head_at false b p form) (form_after b p form >>= rest) ≡ Ok h → p + 8 ≤ h.data_at
behind_chunk true sounds b p form rest h on e = absurd cc
behind_chunk false true b p form rest h on e = behind_data b p form h e
behind_chunk false false b p form rest h on e =
    omega (arith, behind_next p (after b p) (form_after b p form) rest h (omega arith) on e)

pub behind_walk : (m : ℕ) (b : List ℕ) (p : ℕ) (form : Option Form) (h : Head) → walk m false b p form ≡ Ok h → p + 8 ≤ h.data_at
unfolding walk
behind_walk zero b p form h e = absurd cc
behind_walk (suc m) b p form h e =
    behind_chunk (nat_lt last_place p || not (stands b p)) (begins_at b p (codes "data")) b p form (λ found. walk m false b (after b p) found) h
    (λ found. behind_walk m b (after b p) found h) e

-- ---- a `fmt ` chunk that lies in a front

extends_same : (p n : ℕ) (b : List ℕ) → p + 40 ≤ n → extends_to_pcm (drop p (take n b)) ≡ extends_to_pcm (drop p b)
extends_same p n b h =
    ap (λ xs. nat_le 22 (number 2 xs) && begins_at (drop p (take n b)) 24 pcm_subformat) (drop-drop 16 p (take n b))
    ∙ ap (λ k. nat_le 22 k && begins_at (drop p (take n b)) 24 pcm_subformat) (same_number 2 (p + 16) n b (omega arith) (omega arith))
    ∙ ap (λ xs. nat_le 22 (number 2 xs) && begins_at (drop p (take n b)) 24 pcm_subformat) (sym (drop-drop 16 p b))
    ∙ ap (λ xs. nat_le 22 (number 2 (drop 16 (drop p b))) && bytes_eq (take 16 xs) pcm_subformat) (drop-drop 24 p (take n b))
    ∙ ap (λ xs. nat_le 22 (number 2 (drop 16 (drop p b))) && bytes_eq xs pcm_subformat) (same_bytes 16 (p + 24) n b (omega arith))
    ∙ ap (λ xs. nat_le 22 (number 2 (drop 16 (drop p b))) && bytes_eq (take 16 xs) pcm_subformat) (sym (drop-drop 24 p b))

-- a field of it
field_same : (k m p n : ℕ) (b : List ℕ) → 0 < k → p + m + k ≤ n → number k (drop m (drop p (take n b))) ≡ number k (drop m (drop p b))
field_same k m p n b some h = ap (number k) (drop-drop m p (take n b)) ∙ same_number k (p + m) n b some h ∙ ap (number k) (sym (drop-drop m p b))

pcm_same : (p n : ℕ) (b : List ℕ) → p + 2 ≤ n → ((number 2 (drop p b) == extensible) ≡ false) ⊎ (p + 40 ≤ n) → is_pcm (drop p (take n b)) ≡ is_pcm (drop p b)
pcm_same p n b h (inl plain) =
    ap (λ t. t == pcm || (t == extensible && extends_to_pcm (drop p (take n b)))) (same_number 2 p n b (omega arith) h)
    ∙ ap (λ t. number 2 (drop p b) == pcm || (t && extends_to_pcm (drop p (take n b)))) plain
    ∙ sym (ap (λ t. number 2 (drop p b) == pcm || (t && extends_to_pcm (drop p b))) plain)
pcm_same p n b h (inr long) =
    ap (λ t. t == pcm || (t == extensible && extends_to_pcm (drop p (take n b)))) (same_number 2 p n b (omega arith) h)
    ∙ ap (λ t. number 2 (drop p b) == pcm || (number 2 (drop p b) == extensible && t)) (extends_same p n b long)

same_form : (t t' : Bool) (g c r a d g' c' r' a' d' : ℕ) → t ≡ t' → g ≡ g' → c ≡ c' → r ≡ r' → a ≡ a' → d ≡ d' → form_of t g c r a d ≡ form_of t' g' c' r' a' d'
same_form t t' g c r a d g' c' r' a' d' ht hg hc hr ha hd =
    ap (λ x. form_of x g c r a d) ht ∙ ap (λ x. form_of t' x c r a d) hg ∙ ap (λ x. form_of t' g' x r a d) hc
    ∙ ap (λ x. form_of t' g' c' x a d) hr ∙ ap (λ x. form_of t' g' c' r' x d) ha ∙ ap (form_of t' g' c' r' a') hd

form_same : (p n : ℕ) (b : List ℕ) → p + 16 ≤ n → ((number 2 (drop p b) == extensible) ≡ false) ⊎ (p + 40 ≤ n) → form_in (drop p (take n b)) ≡ form_in (drop p b)
form_same p n b h kind = same_form _ _ _ _ _ _ _ _ _ _ _ _ (pcm_same p n b (omega arith) kind) (same_number 2 p n b (omega arith) (omega arith))
    (field_same 2 2 p n b (omega arith) (omega arith)) (field_same 4 4 p n b (omega arith) (omega arith))
    (field_same 2 12 p n b (omega arith) (omega arith)) (field_same 2 14 p n b (omega arith) (omega arith))

short_same : (p long n : ℕ) (b : List ℕ) → p + 8 + long ≤ n → p + 16 ≤ n → is_short (take n b) p long ≡ is_short b p long
short_same p long n b whole here =
    ap (λ t. nat_lt long 16 || t || (number 2 (drop (p + 8) (take n b)) == extensible && nat_lt long 40)) (same_end (p + 8 + long) n b whole)
    ∙ ap (λ t. nat_lt long 16 || nat_lt (length b) (p + 8 + long) || (t == extensible && nat_lt long 40)) (same_number 2 (p + 8) n b (omega arith) (omega arith))

-- one that isn't short has its fields, and its extension where its tag wants one
kind_of : (p long n : ℕ) (b : List ℕ) → p + 8 + long ≤ n → is_short b p long ≡ false
    → (p + 8 + 16 ≤ n) × (((number 2 (drop (p + 8) b) == extensible) ≡ false) ⊎ (p + 8 + 40 ≤ n))
kind_of p long n b whole enough = let parts = or_parts (nat_lt long 16 || nat_lt (length b) (p + 8 + long)) (number 2 (drop (p + 8) b) == extensible && nat_lt long 40) enough in
    (omega (arith, ltb-false long 16 (or_parts (nat_lt long 16) (nat_lt (length b) (p + 8 + long)) parts.0).0), go (and_cases (number 2 (drop (p + 8) b) == extensible) (nat_lt long 40) parts.1))
  where
    go : ((number 2 (drop (p + 8) b) == extensible) ≡ false) ⊎ (nat_lt long 40 ≡ false) → ((number 2 (drop (p + 8) b) == extensible) ≡ false) ⊎ (p + 8 + 40 ≤ n)
    go (inl plain) = inl plain
    go (inr long_enough) = inr (omega (arith, ltb-false long 40 long_enough))

given_same : (short : Bool) (p long n : ℕ) (b : List ℕ) → is_short b p long ≡ short → p + 8 + long ≤ n
    → (if short then Err (FormatShort long) else form_in (drop (p + 8) (take n b))) ≡ (if short then Err (FormatShort long) else form_in (drop (p + 8) b))
given_same true p long n b e whole = refl
given_same false p long n b e whole = let kind = kind_of p long n b whole e in form_same (p + 8) n b kind.0 kind.1

format_same : (p n : ℕ) (b : List ℕ) → p + 8 + size_at b p ≤ n → p + 16 ≤ n → format_at (take n b) p ≡ format_at b p
format_same p n b whole here =
    ap (λ long. if is_short (take n b) p long then Err (FormatShort long) else form_in (drop (p + 8) (take n b))) (same_size p n b (omega arith))
    ∙ ap (λ t. if t then Err (FormatShort (size_at b p)) else form_in (drop (p + 8) (take n b))) (short_same p (size_at b p) n b whole here)
    ∙ given_same (is_short b p (size_at b p)) p (size_at b p) n b refl whole

form_after_same : (p n : ℕ) (b : List ℕ) (form : Option Form) → p + 8 + size_at b p ≤ n → p + 16 ≤ n → form_after (take n b) p form ≡ form_after b p form
form_after_same p n b (Some f) whole here = refl
form_after_same p n b None whole here =
    ap (λ t. if t then (format_at (take n b) p >>= λ f. Ok (Some f)) else Ok None) (same_word p n b (codes "fmt ") (omega arith))
    ∙ ap (λ r. if begins_at b p (codes "fmt ") then (r >>= λ f. Ok (Some f)) else Ok None) (format_same p n b whole here)

-- ---- the walk

data_same : (p n : ℕ) (b : List ℕ) (form : Option Form) → p + 8 ≤ n → head_at false (take n b) p form ≡ head_at false b p form
data_same p n b None here = refl
data_same p n b (Some f) here = let made : ℕ → Result Head Refusal = λ size. Ok (record { form = f; data_at = p + 8; frames = size / align f }) in ap made (same_size p n b here)

next_same : (found : Result (Option Form) Refusal) (rest rest' : Option Form → Result Head Refusal) (h : Head)
    → ((f : Option Form) → rest f ≡ Ok h → rest' f ≡ Ok h) → (found >>= rest) ≡ Ok h → (found >>= rest') ≡ Ok h
next_same (Err x) rest rest' h on e = absurd cc
next_same (Ok f) rest rest' h on e = on f e

chunk_same : (ends sounds : Bool) (b : List ℕ) (p n : ℕ) (form : Option Form) (rest rest' : Option Form → Result Head Refusal) (h : Head)
    → p + 8 ≤ n → h.data_at ≤ n
    → ((f : Option Form) → rest f ≡ Ok h → after b p + 8 ≤ h.data_at) → ((f : Option Form) → rest f ≡ Ok h → rest' f ≡ Ok h)
    → branch ends sounds p (head_at false b p form) (form_after b p form >>= rest) ≡ Ok h
    → branch ends sounds p (head_at false (take n b) p form) (form_after (take n b) p form >>= rest') ≡ Ok h
chunk_same true sounds b p n form rest rest' h here all behind on e = absurd cc
chunk_same false true b p n form rest rest' h here all behind on e = data_same p n b form here ∙ e
chunk_same false false b p n form rest rest' h here all behind on e =
    let reach : after b p + 8 ≤ h.data_at = behind_next p (after b p) (form_after b p form) rest h (omega arith) behind e in
    ap (λ r. r >>= rest') (form_after_same p n b form (omega (arith, reach)) (omega (arith, reach)))
    ∙ next_same (form_after b p form) rest rest' h on e

-- the chunk after one that stands in the front is the same, too
after_same : (p n : ℕ) (b : List ℕ) → p + 8 ≤ n → after (take n b) p ≡ after b p
after_same p n b here = ap (λ size. p + 8 + size + size % 2) (same_size p n b here)

pub cut_walk : (m n : ℕ) (b : List ℕ) (p : ℕ) (form : Option Form) (h : Head) → h.data_at ≤ n → walk m false b p form ≡ Ok h → walk m false (take n b) p form ≡ Ok h
unfolding walk
cut_walk zero n b p form h all e = absurd cc
cut_walk (suc m) n b p form h all e =
    let here : p + 8 ≤ n = omega (arith, behind_walk (suc m) b p form h e) in
    ap (λ t. branch (nat_lt last_place p || not t) (begins_at (take n b) p (codes "data")) p (head_at false (take n b) p form)
    (form_after (take n b) p form >>= λ found. walk m false (take n b) (after (take n b) p) found)) (same_stands p n b (omega arith) here)
    ∙ ap (λ t. branch (nat_lt last_place p || not (stands b p)) t p (head_at false (take n b) p form)
    (form_after (take n b) p form >>= λ found. walk m false (take n b) (after (take n b) p) found)) (same_word p n b (codes "data") (omega arith))
    ∙ ap (λ q. branch (nat_lt last_place p || not (stands b p)) (begins_at b p (codes "data")) p (head_at false (take n b) p form)
    (form_after (take n b) p form >>= λ found. walk m false (take n b) q found)) (after_same p n b here)
    ∙ chunk_same (nat_lt last_place p || not (stands b p)) (begins_at b p (codes "data")) b p n form (λ found. walk m false b (after b p) found)
    (λ found. walk m false (take n b) (after b p) found) h here all
    (λ found. behind_walk m b (after b p) found h) (λ found. cut_walk m n b (after b p) found h all) e

-- ---- the head

whole_head : (short wave : Bool) (b : List ℕ) (h : Head) → (if short then Err NotRiff else (if wave then Err NotWave else walk (length b) false b 12 None)) ≡ Ok h
    → walk (length b) false b 12 None ≡ Ok h
whole_head true wave b h e = absurd cc
whole_head false true b h e = absurd cc
whole_head false false b h e = e

whole_same : (short wave : Bool) (b : List ℕ) (h : Head) (rest : Result Head Refusal) → rest ≡ Ok h
    → (if short then Err NotRiff else (if wave then Err NotWave else walk (length b) false b 12 None)) ≡ Ok h
    → (if short then Err NotRiff else (if wave then Err NotWave else rest)) ≡ Ok h
whole_same true wave b h rest same e = absurd cc
whole_same false true b h rest same e = absurd cc
whole_same false false b h rest same e = same

-- the walk that a head is found by
pub walk_of : (b : List ℕ) (h : Head) → head false b ≡ Ok h → walk (length b) false b 12 None ≡ Ok h
unfolding head
walk_of b h e = whole_head (nat_lt (length b) 12 || not (begins_at b 0 (codes "RIFF"))) (not (begins_at b 8 (codes "WAVE"))) b h e

-- fewer chunks may be walked where fewer bytes are left
fewer : (n : ℕ) (b : List ℕ) (h : Head) → walk (length b) false (take n b) 12 None ≡ Ok h → walk (length (take n b)) false (take n b) 12 None ≡ Ok h
fewer n b h e = sym (walk-bound (length (take n b)) (length b) false (take n b) 12 None (omega (arith, length-take n b)) (omega arith)) ∙ e

pub cut_head : (n : ℕ) (b : List ℕ) (h : Head) → head false b ≡ Ok h → h.data_at ≤ n → head false (take n b) ≡ Ok h
unfolding head
cut_head n b h e all =
    let some : 12 ≤ n = omega (arith, behind_walk (length b) b 12 None h (walk_of b h e)) in
    ap (λ t. if t || not (begins_at (take n b) 0 (codes "RIFF")) then Err NotRiff else (if not (begins_at (take n b) 8 (codes "WAVE")) then Err NotWave
    else walk (length (take n b)) false (take n b) 12 None)) (same_end 12 n b some)
    ∙ ap (λ t. if nat_lt (length b) 12 || not t then Err NotRiff else (if not (begins_at (take n b) 8 (codes "WAVE")) then Err NotWave
    else walk (length (take n b)) false (take n b) 12 None)) (same_word 0 n b (codes "RIFF") (omega arith))
    ∙ ap (λ t. if nat_lt (length b) 12 || not (begins_at b 0 (codes "RIFF")) then Err NotRiff else (if not t then Err NotWave
    else walk (length (take n b)) false (take n b) 12 None)) (same_word 8 n b (codes "WAVE") (omega arith))
    ∙ whole_same (nat_lt (length b) 12 || not (begins_at b 0 (codes "RIFF"))) (not (begins_at b 8 (codes "WAVE"))) b h _
    (fewer n b h (cut_walk (length b) n b 12 None h all (walk_of b h e))) e
