-- The blocks that a counted journal took are all kept, in their order.
use Rattle.std.proofs.Common.{◌≡◌, inl, inr, ℕ, suc, ◌+◌, ◌*◌, ◌/◌, ◌%◌, ◌≤◌, ◌<◌, List, [], ◌∷◌, ◌++◌, length, refl, sym, ap, subst, arith, ◌∙◌}
use Rattle.std.specs.Prelude.{Bool, true, false, ◌&&◌, ◌||◌, ◌==◌, nat_lt, max, reverse, if◌then◌else◌, Option, Some, None, ℤ}
use Rattle.std.proofs.lemmas.Bool.{and_from, cases_eq, cases_lt, eq-eqb, lt-ltb}
use Rattle.std.proofs.lemmas.List.FromFn.{length-map-range_with_len}
use Rattle.session_model.specs.declared.session.Session.{Session}
use Rattle.session_model.specs.Formed.{channels_at}
use Rattle.engine_model.specs.Journal.{Take, Off, Taken, Lost, Entry, note_of}
use Rattle.engine_model.specs.Fits.{take_number}
use Rattle.engine_model.specs.Takes.{Input, first_channel, input_block}
use Rattle.capture_flush.specs.declared.run.Run.{Run}
use Rattle.capture_flush.specs.declared.track.Place.{Place}
use Rattle.capture_flush.specs.Blocks.{Block, block_samples, comes_after, is_kept, kept, kept_from, place_of, taken_blocks, taken_from, taken_in}
use Rattle.capture_flush.specs.Closing.{open_after}
use Rattle.capture_flush.specs.Finished.{are_counted}
use Rattle.capture_flush.proofs.CountedLemmas.{Follows, Goes, IsOpen, follows, next_number, next_index, still_open}

-- ---- blocks that are all kept

abbrev pub AreKept : Session → ℕ → Option Place → List Block → Type 0
AreKept s t last [] = Unit {0}
AreKept s t last (b ∷ bs) = (is_kept s t last b ≡ true) × AreKept s t (Some (place_of b)) bs

pub kept_all : (s : Session) (t : ℕ) (last : Option Place) (bs : List Block) → AreKept s t last bs → kept_from s t last bs ≡ bs
kept_all s t last [] all = refl
kept_all s t last (b ∷ bs) all = ap (λ c. if c then b ∷ kept_from s t (Some (place_of b)) bs else kept_from s t last bs) all.0
    ∙ ap (λ l. b ∷ l) (kept_all s t (Some (place_of b)) bs all.1)

-- ---- those that came before the next

abbrev Behind : Option Place → Option Run → ℕ → Type 0
Behind None before most = Unit {0}
Behind (Some p) None most = p.take ≤ most
Behind (Some p) (Some run) most = (p.take ≤ run.take) × (p.take ≡ run.take → p.index < run.blocks)

or_left : (a b : Bool) → a ≡ true → (a || b) ≡ true
or_left a b is = ap (λ c. c || b) is

or_right : (a b : Bool) → b ≡ true → (a || b) ≡ true
or_right true b is = refl
or_right false b is = is

next_comes : (last : Option Place) (before : Option Run) (most n i : ℕ) (samples : List ℤ) → Behind last before most → n ≡ next_number before most → i ≡ next_index before →
    comes_after last (record { take = n; index = i; samples = samples }) ≡ true
next_comes None before most n i samples behind same at = refl
next_comes (Some p) None most n i samples behind same at = or_left (nat_lt p.take n) ((n == p.take) && nat_lt p.index i) (lt-ltb p.take n (omega (arith, behind, same)))
next_comes (Some p) (Some run) most n i samples behind same at = elim (cases_eq p.take n) [
  | inl is ↦ or_right (nat_lt p.take n) ((n == p.take) && nat_lt p.index i)
      (and_from (n == p.take) (nat_lt p.index i) (eq-eqb n p.take (sym is)) (lt-ltb p.index i (subst (λ k. p.index < k) (sym at) (behind.1 (is ∙ same)))))
  | inr other ↦ or_left (nat_lt p.take n) ((n == p.take) && nat_lt p.index i) (lt-ltb p.take n (less p.take n (subst (λ k. p.take ≤ k) (sym same) behind.0) other))
]
  where
    less : (a b : ℕ) → a ≤ b → (a ≡ b → ⊥) → a < b
    less a b le other = elim (cases_lt a b) [ inl lt ↦ lt | inr ge ↦ absurd (other (omega arith)) ]

still_behind : (last : Option Place) (before : Option Run) (most : ℕ) (take : Take) → Behind last before most → IsOpen before most → Goes (next_number before most) (next_index before) take →
    Behind last (open_after before take) (max (take_number take) most)
still_behind None before most take behind is goes = tt
still_behind (Some p) None most Off behind is goes = grind (arith, behind)
still_behind (Some p) (Some run) most Off behind is goes = grind (arith, behind.0, is.0)
still_behind (Some p) None most (Taken n i) behind is goes = (omega (arith, behind, goes.0), λ same. absurd (omega (arith, behind, goes.0, same)))
still_behind (Some p) (Some run) most (Taken n i) behind is goes = (omega (arith, behind.0, goes.0), λ same. let lt = behind.1 (same ∙ goes.0) in omega (arith, lt))
still_behind (Some p) None most (Lost n i head) behind is goes = (omega (arith, behind, goes.0), λ same. absurd (omega (arith, behind, goes.0, same)))
still_behind (Some p) (Some run) most (Lost n i head) behind is goes = (omega (arith, behind.0, goes.0), λ same. let lt = behind.1 (same ∙ goes.0) in omega (arith, lt))

-- the block of a taken note is the last from then on
block_behind : (before : Option Run) (most n i : ℕ) → i ≡ next_index before → Behind (Some (record { take = n; index = i })) (open_after before (Taken n i)) (max n most)
block_behind before most n i at = (omega arith, λ same. omega (arith, at))

pub length-input_block : (s : Session) (input : Input) (t c : ℕ) → length (input_block s input t c) ≡ block_samples s t
length-input_block s input t c = let channels = channels_at s t in
    length-map-range_with_len (λ k. input (c * s.block + k / channels) (first_channel s t + k % channels)) 0 (s.block * channels)

taken_more : (s : Session) (input : Input) (last : Option Place) (before : Option Run) (most t c : ℕ) (take : Take) (bs : List Block) → IsOpen before most →
    Goes (next_number before most) (next_index before) take → Behind last before most →
    ((l : Option Place) → Behind l (open_after before take) (max (take_number take) most) → AreKept s t l bs) → AreKept s t last (taken_in s input t c take ++ bs)
taken_more s input last before most t c Off bs is goes behind rest = rest last (still_behind last before most Off behind is goes)
taken_more s input last before most t c (Taken n i) bs is goes behind rest = (
  and_from (length (input_block s input t c) == block_samples s t) (comes_after last (record { take = n; index = i; samples = input_block s input t c }))
      (eq-eqb (length (input_block s input t c)) (block_samples s t) (length-input_block s input t c))
      (next_comes last before most n i (input_block s input t c) behind goes.0 goes.1),
  rest (Some (record { take = n; index = i })) (block_behind before most n i goes.1),
)
taken_more s input last before most t c (Lost n i head) bs is goes behind rest = rest last (still_behind last before most (Lost n i head) behind is goes)

taken_are_kept : (s : Session) (input : Input) (last : Option Place) (before : Option Run) (most t c : ℕ) (es : List Entry) → IsOpen before most → Follows before most t es →
    Behind last before most → AreKept s t last (taken_from s input t c es)
taken_are_kept s input last before most t c [] is on behind = tt
taken_are_kept s input last before most t c (e ∷ es) is on behind = let take = (note_of t e).take in
    taken_more s input last before most t c take (taken_from s input t (suc c) es) is on.0 behind
    (λ l behind. taken_are_kept s input l (open_after before take) (max (take_number take) most) t (suc c) es (still_open before most take is on.0) on.1 behind)

pub all_kept : (s : Session) (input : Input) (t : ℕ) (journal : List Entry) → are_counted t (reverse journal) ≡ true → AreKept s t None (taken_blocks s input t journal)
all_kept s input t journal counted = taken_are_kept s input None None 0 t 0 journal tt (follows t journal counted) tt

pub taken_kept : (s : Session) (input : Input) (t : ℕ) (journal : List Entry) → are_counted t (reverse journal) ≡ true → kept s t (taken_blocks s input t journal) ≡ taken_blocks s input t journal
taken_kept s input t journal counted = kept_all s t None (taken_blocks s input t journal) (all_kept s input t journal counted)
