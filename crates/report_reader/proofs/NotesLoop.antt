-- Notes that are read one after the other, as a loop does.
use Rattle.std.proofs.Common.{◌≡◌, ℕ, zero, suc, ◌-◌, ◌≤◌, true, false, ◌==◌, length, List, [], ◌∷◌, ◌++◌, Option, Some, None, codes, refl, sym, ap, ◌∙◌, append_assoc, append-nil, suc-ne-zero, arith}
use Rattle.std.proofs.lemmas.Bool.{true≢false, eqb-false, eqb-true}
use Rattle.engine_model.specs.Journal.{Note}
use Rattle.report_reader.specs.Fields.{◌>>=◌, after}
use Rattle.report_reader.specs.Notes.{note_in, notes_in}

-- what was read before, and what is still read
abbrev pub with_front : List Note → Option (List Note) → Option (List Note)
with_front front read = read >>= λ notes. Some (front ++ notes)

pub some_bytes : (rest : List ℕ) → (length rest == 0) ≡ false → rest ≡ [] → ⊥
some_bytes [] e none = true≢false e
some_bytes (b ∷ bytes) e none = absurd (cc)

pub no_bytes : (rest : List ℕ) → (length rest == 0) ≡ true → rest ≡ []
no_bytes [] e = refl
no_bytes (b ∷ bytes) e = let none : length (b ∷ bytes) ≡ 0 = eqb-true (length (b ∷ bytes)) 0 e in absurd (suc-ne-zero (length bytes) none)

pub has_room : (n : ℕ) → n ≤ 32 → (n == 32) ≡ false → 32 - n ≡ suc (31 - n)
has_room n few free = let other = eqb-false n 32 free in omega (arith, other)

pub no_room : (n : ℕ) → (n == 32) ≡ true → 32 - n ≡ 0
no_room n full = omega (arith, eqb-true n 32 full)

one_more : (k : ℕ) (rest : List ℕ) → (rest ≡ [] → ⊥) →
    notes_in (suc k) rest ≡ (after (codes " ") rest >>= λ text. note_in text >>= λ note. notes_in k note.1 >>= λ notes. Some (note.0 ∷ notes))
unfolding notes_in
one_more k [] some = absurd (some refl)
one_more k (b ∷ bytes) some = refl

-- the list has no room for a note that stands there
pub too_many : (front : List Note) (left : ℕ) (rest : List ℕ) (total : Option (List Note)) → left ≡ 0 → (rest ≡ [] → ⊥) → with_front front (notes_in left rest) ≡ total → None ≡ total
unfolding notes_in
too_many front left [] total none some so_far = absurd (some refl)
too_many front left (b ∷ bytes) total none some so_far = sym (ap (λ k. with_front front (notes_in k (b ∷ bytes))) none) ∙ so_far

step : (front : List Note) (left k : ℕ) (rest : List ℕ) (total : Option (List Note)) → left ≡ suc k → (rest ≡ [] → ⊥) → with_front front (notes_in left rest) ≡ total →
    with_front front (after (codes " ") rest >>= λ text. note_in text >>= λ note. notes_in k note.1 >>= λ notes. Some (note.0 ∷ notes)) ≡ total
step front left k rest total is some so_far = ap (with_front front) (sym (one_more k rest some)) ∙ ap (λ n. with_front front (notes_in n rest)) (sym is) ∙ so_far

-- no blank stands there
pub no_blank : (front : List Note) (left k : ℕ) (rest : List ℕ) (total : Option (List Note)) → left ≡ suc k → (rest ≡ [] → ⊥) → None ≡ after (codes " ") rest →
    with_front front (notes_in left rest) ≡ total → None ≡ total
no_blank front left k rest total is some none so_far =
    ap (λ o. with_front front (o >>= λ text. note_in text >>= λ note. notes_in k note.1 >>= λ notes. Some (note.0 ∷ notes))) none ∙ step front left k rest total is some so_far

-- behind the blank stands no note
pub no_note : (front : List Note) (left k : ℕ) (rest text : List ℕ) (total : Option (List Note)) → left ≡ suc k → (rest ≡ [] → ⊥) → Some text ≡ after (codes " ") rest → None ≡ note_in text →
    with_front front (notes_in left rest) ≡ total → None ≡ total
no_note front left k rest text total is some blank none so_far =
    ap (λ o. with_front front (o >>= λ note. notes_in k note.1 >>= λ notes. Some (note.0 ∷ notes))) none
    ∙ ap (λ o. with_front front (o >>= λ t. note_in t >>= λ note. notes_in k note.1 >>= λ notes. Some (note.0 ∷ notes))) blank ∙ step front left k rest total is some so_far

regroup : (front : List Note) (note : Note) (read : Option (List Note)) → with_front front (read >>= λ notes. Some (note ∷ notes)) ≡ with_front (front ++ note ∷ []) read
regroup front note (Some notes) = ap (λ ns. Some ns) (sym (append_assoc front (note ∷ []) notes))
regroup front note None = refl

-- a note stands there
pub goes_on : (front : List Note) (left k : ℕ) (rest text : List ℕ) (note : Note) (behind : List ℕ) (total : Option (List Note)) → left ≡ suc k → (rest ≡ [] → ⊥) → Some text ≡ after (codes " ") rest →
    Some (note, behind) ≡ note_in text → with_front front (notes_in left rest) ≡ total → with_front (front ++ note ∷ []) (notes_in k behind) ≡ total
goes_on front left k rest text note behind total is some blank one so_far =
    sym (regroup front note (notes_in k behind))
    ∙ ap (λ o. with_front front (o >>= λ n. notes_in k n.1 >>= λ notes. Some (n.0 ∷ notes))) one
    ∙ ap (λ o. with_front front (o >>= λ t. note_in t >>= λ n. notes_in k n.1 >>= λ notes. Some (n.0 ∷ notes))) blank ∙ step front left k rest total is some so_far

none_left : (left : ℕ) → notes_in left [] ≡ Some []
unfolding notes_in
none_left zero = refl
none_left (suc left) = refl

-- all is read
pub is_done : (front : List Note) (left : ℕ) (rest : List ℕ) (total : Option (List Note)) → rest ≡ [] → with_front front (notes_in left rest) ≡ total → Some front ≡ total
is_done front left rest total none so_far =
    ap (λ ns. Some ns) (sym (append-nil front)) ∙ ap (with_front front) (sym (none_left left)) ∙ ap (λ r. with_front front (notes_in left r)) (sym none) ∙ so_far
