-- The notes of one take in a journal: how many they are, that their indices count up, and that none comes after the take ended.
use Rattle.std.proofs.Common.{◌≡◌, inl, inr, ℕ, suc, ◌+◌, ◌≤◌, ◌<◌, List, [], ◌∷◌, ◌++◌, length, refl, sym, ap, subst, arith, ◌∙◌}
use Rattle.std.specs.Prelude.{Bool, true, false, ◌==◌, max, if◌then◌else◌, Option, Some, None}
use Rattle.std.proofs.lemmas.Bool.{cases_eq, cases_lt, eq-eqb, ne_eqb}
use Rattle.session_model.specs.declared.session.Session.{Session}
use Rattle.engine_model.specs.Journal.{Take, Off, Taken, Lost, Entry, note_of}
use Rattle.engine_model.specs.Fits.{take_number}
use Rattle.engine_model.specs.Takes.{Input}
use Rattle.capture_flush.specs.declared.run.Run.{Run}
use Rattle.capture_flush.specs.Blocks.{blocks_in, taken_from, taken_in}
use Rattle.capture_flush.specs.Closing.{open_after}
use Rattle.capture_flush.proofs.CountedLemmas.{Follows, Goes, IsOpen, next_number, next_index, still_open}

-- the note is of take n
abbrev pub is_of : ℕ → Take → Bool
is_of n Off = false
is_of n (Taken m i) = m == n
is_of n (Lost m i head) = m == n

-- how many notes are
abbrev pub notes_of : ℕ → ℕ → List Entry → ℕ
notes_of t n [] = 0
notes_of t n (e ∷ es) = if is_of n (note_of t e).take then suc (notes_of t n es) else notes_of t n es

-- ---- none

abbrev pub NoneOf : ℕ → ℕ → List Entry → Type 0
NoneOf t n [] = Unit {0}
NoneOf t n (e ∷ es) = (is_of n (note_of t e).take ≡ false) × NoneOf t n es

-- a number below the next one
below : (n number index : ℕ) (take : Take) → n < number → Goes number index take → is_of n take ≡ false
below n number index Off lt goes = refl
below n number index (Taken m i) lt goes = ne_eqb m n (λ same. absurd (omega (arith, goes.0)))
below n number index (Lost m i head) lt goes = ne_eqb m n (λ same. absurd (omega (arith, goes.0)))

still_below : (before : Option Run) (most n : ℕ) (take : Take) → IsOpen before most → n < next_number before most → Goes (next_number before most) (next_index before) take →
    n < next_number (open_after before take) (max (take_number take) most)
still_below None most n Off is lt goes = grind (arith, lt)
still_below (Some run) most n Off is lt goes = grind (arith, is.0, lt)
still_below before most n (Taken m i) is lt goes = omega (arith, goes.0)
still_below before most n (Lost m i head) is lt goes = omega (arith, goes.0)

pub none_below : (before : Option Run) (most t n : ℕ) (es : List Entry) → IsOpen before most → Follows before most t es → n < next_number before most → NoneOf t n es
none_below before most t n [] is on lt = tt
none_below before most t n (e ∷ es) is on lt = let take = (note_of t e).take in (
  below n (next_number before most) (next_index before) take lt on.0,
  none_below (open_after before take) (max (take_number take) most) t n es (still_open before most take is on.0) on.1 (still_below before most n take is lt on.0),
)

-- a number above all that may come
above : (before : Option Run) (most n : ℕ) (take : Take) → IsOpen before most → suc most < n → Goes (next_number before most) (next_index before) take →
    (is_of n take ≡ false) × (max (take_number take) most ≤ suc most)
above before most n Off is lt goes = (refl, grind arith)
above None most n (Taken m i) is lt goes = (ne_eqb m n (λ same. absurd (omega (arith, goes.0))), grind (arith, goes.0))
above None most n (Lost m i head) is lt goes = (ne_eqb m n (λ same. absurd (omega (arith, goes.0))), grind (arith, goes.0))
above (Some run) most n (Taken m i) is lt goes = (ne_eqb m n (λ same. absurd (omega (arith, goes.0, is.0))), grind (arith, goes.0, is.0))
above (Some run) most n (Lost m i head) is lt goes = (ne_eqb m n (λ same. absurd (omega (arith, goes.0, is.0))), grind (arith, goes.0, is.0))

pub none_above : (before : Option Run) (most t n : ℕ) (es : List Entry) → IsOpen before most → Follows before most t es → most + length es < n → NoneOf t n es
none_above before most t n [] is on lt = tt
none_above before most t n (e ∷ es) is on lt = let take = (note_of t e).take in let over = above before most n take is (omega arith) on.0 in
    (over.0, none_above (open_after before take) (max (take_number take) most) t n es (still_open before most take is on.0) on.1 (omega (arith, over.1)))

pub no_notes : (t n : ℕ) (es : List Entry) → NoneOf t n es → notes_of t n es ≡ 0
no_notes t n [] none = refl
no_notes t n (e ∷ es) none = ap (λ b. if b then suc (notes_of t n es) else notes_of t n es) none.0 ∙ no_notes t n es none.1

-- how many blocks of take n are there with the block of a note
pub came_more : (s : Session) (input : Input) (t n c : ℕ) (take : Take) (es : List Entry) → is_of n take ≡ false →
    blocks_in n (taken_in s input t c take ++ taken_from s input t (suc c) es) ≡ blocks_in n (taken_from s input t (suc c) es)
came_more s input t n c Off es other = refl
came_more s input t n c (Taken m i) es other = ap (λ b. if b then max (suc i) (blocks_in n (taken_from s input t (suc c) es)) else blocks_in n (taken_from s input t (suc c) es)) other
came_more s input t n c (Lost m i head) es other = refl

pub none_came : (s : Session) (input : Input) (t n c : ℕ) (es : List Entry) → NoneOf t n es → blocks_in n (taken_from s input t c es) ≡ 0
none_came s input t n c [] none = refl
none_came s input t n c (e ∷ es) none = came_more s input t n c (note_of t e).take es none.0 ∙ none_came s input t n (suc c) es none.1

-- ---- their indices

-- a note of take n has index k
abbrev pub HasIndex : ℕ → ℕ → Take → Type 0
HasIndex n k Off = Unit {0}
HasIndex n k (Taken m i) = m ≡ n → i ≡ k
HasIndex n k (Lost m i head) = m ≡ n → i ≡ k

-- the indices of take n count up from k
abbrev pub CountsUp : ℕ → ℕ → ℕ → List Entry → Type 0
CountsUp t n k [] = Unit {0}
CountsUp t n k (e ∷ es) = HasIndex n k (note_of t e).take × CountsUp t n (if is_of n (note_of t e).take then suc k else k) es

has_none : (n k : ℕ) (take : Take) → is_of n take ≡ false → HasIndex n k take
has_none n k Off other = tt
has_none n k (Taken m i) other = λ same. absurd (grind (arith, same, other))
has_none n k (Lost m i head) other = λ same. absurd (grind (arith, same, other))

pub none_count : (t n k : ℕ) (es : List Entry) → NoneOf t n es → CountsUp t n k es
none_count t n k [] none = tt
none_count t n k (e ∷ es) none = (has_none n k (note_of t e).take none.0, none_count t n (if is_of n (note_of t e).take then suc k else k) es none.1)

-- how many blocks of take n were before
abbrev pub blocks_before : Option Run → ℕ → ℕ
blocks_before None n = 0
blocks_before (Some run) n = if run.take == n then run.blocks else 0

counts_here : (before : Option Run) (most n : ℕ) (take : Take) → Goes (next_number before most) (next_index before) take → HasIndex n (blocks_before before n) take
counts_here before most n Off goes = tt
counts_here None most n (Taken m i) goes = λ same. goes.1
counts_here None most n (Lost m i head) goes = λ same. goes.1
counts_here (Some run) most n (Taken m i) goes = λ same. goes.1 ∙ sym (ap (λ b. if b then run.blocks else 0) (eq-eqb run.take n (sym goes.0 ∙ same)))
counts_here (Some run) most n (Lost m i head) goes = λ same. goes.1 ∙ sym (ap (λ b. if b then run.blocks else 0) (eq-eqb run.take n (sym goes.0 ∙ same)))

same_either : (b : Bool) (k : ℕ) → k ≡ (if b then k else k)
same_either true k = refl
same_either false k = refl

-- they are those of the take that is open, where the note is of it
pub blocks_at : (before : Option Run) (most m n : ℕ) → m ≡ next_number before most → blocks_before before n ≡ (if m == n then next_index before else 0)
blocks_at None most m n same = same_either (m == n) 0
blocks_at (Some run) most m n same = ap (λ k. if k == n then run.blocks else 0) (sym same)

more_either : (b : Bool) (k x : ℕ) → x ≡ (if b then k else 0) → (if b then suc k else 0) ≡ (if b then suc x else x)
more_either true k x is = ap suc (sym is)
more_either false k x is = sym is

up_more : (before : Option Run) (most t n : ℕ) (take : Take) (es : List Entry) → IsOpen before most → next_number before most ≤ n →
    Goes (next_number before most) (next_index before) take → Follows (open_after before take) (max (take_number take) most) t es →
    (next_number (open_after before take) (max (take_number take) most) ≤ n → CountsUp t n (blocks_before (open_after before take) n) es) →
    CountsUp t n (if is_of n take then suc (blocks_before before n) else blocks_before before n) es
up_more None most t n Off es is le goes on rest = rest (grind (arith, le))
up_more (Some run) most t n Off es is le goes on rest = elim (cases_eq run.take n) [
  | inl same ↦ none_count t n (blocks_before (Some run) n) es (none_below None (max 0 most) t n es tt on (grind (arith, is.0, same)))
  | inr other ↦ subst (λ k. CountsUp t n k es) (sym (ap (λ b. if b then run.blocks else 0) (ne_eqb run.take n other))) (rest (later run.take n most (is.0) le other))
]
  where
    later : (r n most : ℕ) → r ≡ most → r ≤ n → (r ≡ n → ⊥) → suc (max 0 most) ≤ n
    later r n most is le other = elim (cases_lt r n) [ inl lt ↦ grind (arith, is, lt) | inr ge ↦ absurd (other (omega arith)) ]
up_more before most t n (Taken m i) es is le goes on rest = subst (λ k. CountsUp t n k es)
    (more_either (m == n) (next_index before) (blocks_before before n) (blocks_at before most m n goes.0)) (rest (omega (arith, goes.0)))
up_more before most t n (Lost m i head) es is le goes on rest = subst (λ k. CountsUp t n k es)
    (more_either (m == n) (next_index before) (blocks_before before n) (blocks_at before most m n goes.0)) (rest (omega (arith, goes.0)))

up_from : (before : Option Run) (most t n : ℕ) (es : List Entry) → IsOpen before most → Follows before most t es → next_number before most ≤ n → CountsUp t n (blocks_before before n) es
up_from before most t n [] is on le = tt
up_from before most t n (e ∷ es) is on le = let take = (note_of t e).take in (
  counts_here before most n take on.0,
  up_more before most t n take es is le on.0 on.1
      (up_from (open_after before take) (max (take_number take) most) t n es (still_open before most take is on.0) on.1),
)

-- so they do of each take of a counted journal
pub counts_up : (t n : ℕ) (journal : List Entry) → Follows None 0 t journal → 0 < n → CountsUp t n 0 journal
counts_up t n journal on some = up_from None 0 t n journal tt on (omega arith)
