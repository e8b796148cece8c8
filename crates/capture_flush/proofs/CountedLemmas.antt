-- A journal whose takes are counted, read from its first entry on: what each note goes on with.
use Rattle.std.proofs.Common.{◌≡◌, ℕ, suc, ◌≤◌, ◌<◌, List, [], ◌∷◌, ◌++◌, refl, sym, ap, arith, ◌∙◌, append_assoc, append-nil}
use Rattle.std.specs.Prelude.{true, nat_eq, max, reverse, Option, Some, None}
use Rattle.std.specs.Option.{option_map_or}
use Rattle.std.proofs.lemmas.Bool.{and_parts, eqb-true}
use Rattle.std.proofs.lemmas.List.{reverse-append}
use Rattle.engine_model.specs.Journal.{Take, Off, Taken, Lost, Entry, note_of}
use Rattle.engine_model.specs.Fits.{greatest_take, last_take, next_take, take_after, take_number}
use Rattle.capture_flush.specs.declared.run.Run.{Run}
use Rattle.capture_flush.specs.Closing.{open_after}
use Rattle.capture_flush.specs.Finished.{are_counted, goes_on}

-- ---- what follows, where a take may be open and `most` were before

abbrev pub next_number : Option Run → ℕ → ℕ
next_number before most = option_map_or (λ r. r.take) before (suc most)

abbrev pub next_index : Option Run → ℕ
next_index before = option_map_or (λ r. r.blocks) before 0

-- the note is none, or has this number and this index
abbrev pub Goes : ℕ → ℕ → Take → Type 0
Goes number index Off = Unit {0}
Goes number index (Taken n i) = (n ≡ number) × (i ≡ index)
Goes number index (Lost n i head) = (n ≡ number) × (i ≡ index)

-- so it is in each entry
abbrev pub Follows : Option Run → ℕ → ℕ → List Entry → Type 0
Follows before most t [] = Unit {0}
Follows before most t (e ∷ es) = Goes (next_number before most) (next_index before) (note_of t e).take
    × Follows (open_after before (note_of t e).take) (max (take_number (note_of t e).take) most) t es

-- the take that is open is the greatest
abbrev pub IsOpen : Option Run → ℕ → Type 0
IsOpen None most = Unit {0}
IsOpen (Some run) most = (run.take ≡ most) × (run.filled ≤ run.blocks) × (0 < run.blocks)

pub still_open : (before : Option Run) (most : ℕ) (take : Take) → IsOpen before most → Goes (next_number before most) (next_index before) take →
    IsOpen (open_after before take) (max (take_number take) most)
still_open before most Off was goes = tt
still_open None most (Taken n i) was goes = (grind (arith, goes.0), omega arith, omega arith)
still_open (Some run) most (Taken n i) was goes = (grind (arith, goes.0, was.0), omega arith, omega arith)
still_open None most (Lost n i head) was goes = (grind (arith, goes.0), omega arith, omega arith)
still_open (Some run) most (Lost n i head) was goes = (grind (arith, goes.0, was.0), omega (arith, was.1), omega arith)

-- ---- of a counted journal

turned : (e : Entry) (es old : List Entry) → reverse (e ∷ es) ++ old ≡ reverse es ++ (e ∷ old)
turned e es old = ap (λ l. l ++ old) (reverse-append (e ∷ []) es) ∙ append_assoc (reverse es) (e ∷ []) old

counted_before : (t : ℕ) (es old : List Entry) → are_counted t (es ++ old) ≡ true → are_counted t old ≡ true
counted_before t [] old counted = counted
counted_before t (e ∷ es) old counted = counted_before t es old (and_parts (goes_on (next_take t (es ++ old)) (note_of t e).take) (are_counted t (es ++ old)) counted).1

goes : (next : ℕ × ℕ) (number index : ℕ) (take : Take) → next.0 ≡ number → next.1 ≡ index → goes_on next take ≡ true → Goes number index take
goes next number index Off same at on = tt
goes next number index (Taken n i) same at on = let parts = and_parts (nat_eq n next.0) (nat_eq i next.1) on in
    (eqb-true n next.0 parts.0 ∙ same, eqb-true i next.1 parts.1 ∙ at)
goes next number index (Lost n i head) same at on = let parts = and_parts (nat_eq n next.0) (nat_eq i next.1) on in
    (eqb-true n next.0 parts.0 ∙ same, eqb-true i next.1 parts.1 ∙ at)

-- the take that is open is that of the last entry
record Agree (last : Take) (before : Option Run) (most : ℕ) : Type 0 where
  number : (take_after last most).0 ≡ next_number before most
  index : (take_after last most).1 ≡ next_index before

agree : (before : Option Run) (most m : ℕ) (take : Take) → Goes (next_number before m) (next_index before) take → Agree take (open_after before take) most
agree before most m Off on = record { number = refl; index = refl }
agree before most m (Taken n i) on = record { number = refl; index = ap suc on.1 }
agree before most m (Lost n i head) on = record { number = refl; index = ap suc on.1 }

follows_on : (t : ℕ) (es old : List Entry) (before : Option Run) → are_counted t (reverse es ++ old) ≡ true → Agree (last_take t old) before (greatest_take t old) →
    Follows before (greatest_take t old) t es
follows_on t [] old before counted same = tt
follows_on t (e ∷ es) old before counted same = let all : are_counted t (reverse es ++ (e ∷ old)) ≡ true = sym (ap (are_counted t) (turned e es old)) ∙ counted in
    let here = and_parts (goes_on (next_take t old) (note_of t e).take) (are_counted t old) (counted_before t (reverse es) (e ∷ old) all) in
    let on = goes (next_take t old) (next_number before (greatest_take t old)) (next_index before) (note_of t e).take same.number same.index here.0 in
    (on, follows_on t es (e ∷ old) (open_after before (note_of t e).take) all (agree before (greatest_take t (e ∷ old)) (greatest_take t old) (note_of t e).take on))

pub follows : (t : ℕ) (journal : List Entry) → are_counted t (reverse journal) ≡ true → Follows None 0 t journal
follows t journal counted = follows_on t journal [] None (ap (are_counted t) (append-nil (reverse journal)) ∙ counted) (record { number = refl; index = refl })
