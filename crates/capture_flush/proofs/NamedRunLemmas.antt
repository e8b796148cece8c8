-- The takes of a counted journal are those that it names.
use Rattle.std.proofs.Common.{◌≡◌, inl, inr, length, ℕ, zero, suc, ◌≤◌, ◌<◌, List, [], ◌∷◌, ◌++◌, refl, sym, ap, arith, ◌∙◌}
use Rattle.std.specs.Prelude.{Bool, true, false, ◌&&◌, ◌||◌, ◌==◌, nat_lt, max, reverse, if◌then◌else◌, Option, Some, None, All}
use Rattle.std.specs.List.{list_any}
use Rattle.std.proofs.lemmas.Bool.{and_from, and_parts, cases_lt, ltb-true, lt-ltb, ne_eqb, or_parts}
use Rattle.std.proofs.lemmas.List.Elements.{All-weaker}
use Rattle.session_model.specs.declared.session.Session.{Session}
use Rattle.engine_model.specs.Journal.{Take, Off, Taken, Lost, Entry, note_of}
use Rattle.engine_model.specs.Fits.{take_number}
use Rattle.engine_model.specs.Takes.{Input}
use Rattle.capture_flush.specs.declared.run.Run.{Run}
use Rattle.capture_flush.specs.Blocks.{blocks_in, taken_blocks, taken_from}
use Rattle.capture_flush.specs.Closing.{open_after, ended_by, runs_from, runs_of}
use Rattle.capture_flush.specs.Finished.{are_counted, names_take}
use Rattle.capture_flush.proofs.CountedLemmas.{Follows, Goes, IsOpen, follows, next_number, next_index, still_open}
use Rattle.capture_flush.proofs.NoteLemmas.{CountsUp, NoneOf, counts_up, is_of, none_above, none_below, no_notes, notes_of}
use Rattle.capture_flush.proofs.RunLemmas.{RunIs, runs_are}

-- ---- a take that is named

abbrev has_note : ℕ → ℕ → List Entry → Bool
has_note t n es = list_any (λ e. take_number (note_of t e).take == n) es

abbrev has_run : ℕ → List Run → Bool
has_run n runs = list_any (λ (r : Run). r.take == n) runs

abbrev is_open_at : ℕ → Option Run → Bool
is_open_at n None = false
is_open_at n (Some run) = run.take == n

or_from : (a b c : Bool) → (a ≡ true → c ≡ true) → (b ≡ true → c ≡ true) → (a || b) ≡ true → c ≡ true
or_from true b c left right either = left refl
or_from false b c left right either = right either

or_true : (a : Bool) → (a || true) ≡ true
or_true true = refl
or_true false = refl

run_more : (before : Option Run) (most t n : ℕ) (take : Take) (es : List Entry) → 0 < n → Goes (next_number before most) (next_index before) take →
    ((is_open_at n (open_after before take) || has_note t n es) ≡ true → has_run n (runs_from (open_after before take) t es) ≡ true) →
    (is_open_at n before || ((take_number take == n) || has_note t n es)) ≡ true → has_run n (ended_by before take ++ runs_from (open_after before take) t es) ≡ true
run_more None most t n Off es some goes rest named = rest (ap (λ b. b || has_note t n es) (sym (ne_eqb 0 n (λ same. absurd (omega arith)))) ∙ named)
run_more (Some run) most t n Off es some goes rest named = or_from (run.take == n) ((0 == n) || has_note t n es) ((run.take == n) || has_run n (runs_from None t es))
    (λ here. ap (λ b. b || has_run n (runs_from None t es)) here)
    (λ there. ap (λ b. (run.take == n) || b) (rest (ap (λ b. b || has_note t n es) (sym (ne_eqb 0 n (λ same. absurd (omega arith)))) ∙ there)) ∙ or_true (run.take == n)) named
run_more None most t n (Taken m i) es some goes rest named = rest named
run_more (Some run) most t n (Taken m i) es some goes rest named = rest (same_twice (run.take == n) (m == n) (has_note t n es) (ap (λ k. k == n) (sym goes.0)) named)
  where
    same_twice : (a b c : Bool) → a ≡ b → (a || (b || c)) ≡ true → (b || c) ≡ true
    same_twice true b c same either = ap (λ d. d || c) (sym same)
    same_twice false b c same either = either
run_more None most t n (Lost m i head) es some goes rest named = rest named
run_more (Some run) most t n (Lost m i head) es some goes rest named = rest (same_twice (run.take == n) (m == n) (has_note t n es) (ap (λ k. k == n) (sym goes.0)) named)
  where
    same_twice : (a b c : Bool) → a ≡ b → (a || (b || c)) ≡ true → (b || c) ≡ true
    same_twice true b c same either = ap (λ d. d || c) (sym same)
    same_twice false b c same either = either

run_from : (before : Option Run) (most t n : ℕ) (es : List Entry) → 0 < n → IsOpen before most → Follows before most t es →
    (is_open_at n before || has_note t n es) ≡ true → has_run n (runs_from before t es) ≡ true
run_from None most t n [] some is on named = named
run_from (Some run) most t n [] some is on named = named
run_from before most t n (e ∷ es) some is on named = let take = (note_of t e).take in run_more before most t n take es some on.0
    (run_from (open_after before take) (max (take_number take) most) t n es some (still_open before most take is on.0) on.1) named

pub named_run : (t n : ℕ) (journal : List Entry) → are_counted t (reverse journal) ≡ true → names_take t n journal ≡ true → list_any (λ (r : Run). r.take == n) (runs_of t journal) ≡ true
named_run t n journal counted named = let parts = and_parts (nat_lt 0 n) (has_note t n journal) named in
    run_from None 0 t n journal (ltb-true 0 n parts.0) tt (follows t journal counted) parts.1

-- ---- a take that isn't

of_number : (n : ℕ) (take : Take) → 0 < n → is_of n take ≡ (take_number take == n)
of_number n Off some = sym (ne_eqb 0 n (λ same. absurd (omega arith)))
of_number n (Taken m i) some = refl
of_number n (Lost m i head) some = refl

no_note : (t n : ℕ) (es : List Entry) → 0 < n → has_note t n es ≡ false → NoneOf t n es
no_note t n [] some none = tt
no_note t n (e ∷ es) some none = let parts = or_parts (take_number (note_of t e).take == n) (has_note t n es) none in
    (of_number n (note_of t e).take some ∙ parts.0, no_note t n es some parts.1)

pub unnamed : (t n : ℕ) (journal : List Entry) → are_counted t (reverse journal) ≡ true → names_take t n journal ≡ false → NoneOf t n journal
unnamed t zero journal counted not_named = none_below None 0 t 0 journal tt (follows t journal counted) (omega arith)
unnamed t (suc n) journal counted not_named = no_note t (suc n) journal (omega arith) (ap (λ b. b && has_note t (suc n) journal) (sym (lt-ltb 0 (suc n) (omega arith))) ∙ not_named)

-- ---- each take of a counted journal

pub record IsRunOf (s : Session) (input : Input) (t : ℕ) (journal : List Entry) (r : Run) : Type 0 where
  pub number : 0 < r.take
  -- no number is greater than the journal is long
  pub low : r.take ≤ length journal
  pub named : names_take t r.take journal ≡ true
  -- its notes count up
  pub counts : CountsUp t r.take 0 journal
  -- it has as many blocks as the journal has notes of it, and is filled as far as the last that wasn't lost
  pub some : 0 < r.blocks
  pub within : r.filled ≤ r.blocks
  pub blocks : r.blocks ≡ notes_of t r.take journal
  pub filled : r.filled ≡ blocks_in r.take (taken_blocks s input t journal)

some_note : (t n : ℕ) (es : List Entry) → 0 < n → 0 < notes_of t n es → has_note t n es ≡ true
some_note t n [] some notes = absurd (omega arith)
some_note t n (e ∷ es) some notes = by (is_of n (note_of t e).take) (of_number n (note_of t e).take some) notes (some_note t n es some)
  where
    by : (b : Bool) → b ≡ (take_number (note_of t e).take == n) → 0 < (if b then suc (notes_of t n es) else notes_of t n es) → (0 < notes_of t n es → has_note t n es ≡ true) →
        ((take_number (note_of t e).take == n) || has_note t n es) ≡ true
    by true same notes rest = ap (λ b. b || has_note t n es) (sym same)
    by false same notes rest = ap (λ b. (take_number (note_of t e).take == n) || b) (rest notes) ∙ or_true (take_number (note_of t e).take == n)

run_of : (s : Session) (input : Input) (t : ℕ) (journal : List Entry) (r : Run) → Follows None 0 t journal →
    RunIs None 0 (λ n. notes_of t n journal) (λ n. blocks_in n (taken_from s input t 0 journal)) r → IsRunOf s input t journal r
run_of s input t journal r on is = let some : 0 < r.take = omega (arith, is.above) in record {
  number = some;
  low = within;
  named = and_from (nat_lt 0 r.take) (has_note t r.take journal) (lt-ltb 0 r.take some) (some_note t r.take journal some (omega (arith, is.some, is.blocks)));
  counts = counts_up t r.take journal on some;
  some = is.some;
  within = is.within;
  blocks = is.blocks ∙ omega arith;
  filled = is.filled ∙ grind arith;
}
  where
    within : r.take ≤ length journal
    within = elim (cases_lt (length journal) r.take) [
      | inl lt ↦ let none = no_notes t r.take journal (none_above None 0 t r.take journal tt on (omega arith)) in absurd (omega (arith, none, is.some, is.blocks))
      | inr le ↦ le
    ]

pub runs_of_it : (s : Session) (input : Input) (t : ℕ) (journal : List Entry) → are_counted t (reverse journal) ≡ true → All (IsRunOf s input t journal) (runs_of t journal)
runs_of_it s input t journal counted = let on = follows t journal counted in
    All-weaker (RunIs None 0 (λ n. notes_of t n journal) (λ n. blocks_in n (taken_from s input t 0 journal))) (IsRunOf s input t journal)
    (λ r. run_of s input t journal r on) (runs_of t journal) (runs_are s input None 0 t 0 journal tt on)
