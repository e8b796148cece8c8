-- A butler needs no list: five numbers a track say what is due.
use Rattle.std.proofs.Common.{◌≡◌, ℕ, suc, ◌<◌, ◌≤◌, inl, inr, List, [], ◌∷◌, refl, sym, subst, arith, ◌∙◌}
use Rattle.std.specs.Prelude.{Bool, true, false, max, ◌-◌, ◌||◌, not, nat_lt, nat_le, nat_eq, if◌then◌else◌, Option, Some, None}
use Rattle.std.specs.List.{list_all}
use Rattle.std.proofs.lemmas.Bool.{and_parts, and_from, ltb-true, leb-true, le-leb, lt-ltb, eq-eqb, cases_lt, or_left, or_right, true≢false}
use Rattle.session_model.specs.declared.edit.Edit.{Edit}
use Rattle.session_model.specs.declared.session.Session.{Session}
use Rattle.engine_model.specs.Due.{Needs, due_after, due_by, greatest, is_stale, past}
use Rattle.engine_model.specs.Edits.{generation, playlist_edition}
use Rattle.engine_model.specs.Items.{Blank, Kind, Piece, Settled, among, blocks, has_mark, newest}
use Rattle.engine_laws.specs.Kept.{is_from}
use Rattle.engine_laws.specs.Tracked.{Tracked, due_now}
use Rattle.engine_laws.proofs.OrderLemmas.{all_at, newest_from}
use Rattle.engine_laws.proofs.ListLemmas.{Found, found}

-- below fresh, from next on, each place is stale
one_stale : (g p base fresh far next : ℕ) (xs : List Kind) → Tracked g p base fresh far xs → base ≤ next → (s : ℕ) → next ≤ s → s < fresh →
    (among s (blocks g xs) ≡ true) × (is_stale g p next xs s ≡ true)
one_stale g p base fresh far next xs tr le s low lt = let b = tr.bounded in let here = tr.whole s (omega arith) (omega arith) in
    (here, and_from (nat_le next s) (nat_lt (newest g s xs) p) (le-leb next s low) (lt-ltb (newest g s xs) p (tr.stale s here lt)))

-- a stale place lies below fresh
stale_below : (g p base fresh far next : ℕ) (xs : List Kind) → Tracked g p base fresh far xs → (s : ℕ) → among s (blocks g xs) ≡ true → is_stale g p next xs s ≡ true → (next ≤ s) × (s < fresh)
stale_below g p base fresh far next xs tr s here st = let parts = and_parts (nat_le next s) (nat_lt (newest g s xs) p) st in
    (leb-true next s parts.0, elim (cases_lt s fresh) [ inl lt ↦ lt | inr ge ↦ absurd (grind (arith, ltb-true (newest g s xs) p parts.1, tr.new s here ge)) ])

farthest_by : (g p base fresh far next : ℕ) (xs : List Kind) (o : Option ℕ) → Tracked g p base fresh far xs → base ≤ next →
    Found (is_stale g p next xs) (blocks g xs) o → o ≡ (if nat_lt next fresh then Some (fresh - 1) else None)
farthest_by g p base fresh far next xs None tr le f = elim (cases_lt next fresh) [
  | inl lt ↦ let one = one_stale g p base fresh far next xs tr le (fresh - 1) (omega arith) (omega arith) in
      absurd (grind (arith, one.1, all_at (λ r. not (is_stale g p next xs r)) (blocks g xs) (fresh - 1) f one.0))
  | inr ge ↦ grind arith
]
farthest_by g p base fresh far next xs (Some s) tr le f = let here = stale_below g p base fresh far next xs tr s f.1 f.0 in let low = here.0 in let high = here.1 in
    let one = one_stale g p base fresh far next xs tr le (fresh - 1) (omega arith) (omega arith) in
    let top = all_at (λ r. nat_le r s || not (is_stale g p next xs r)) (blocks g xs) (fresh - 1) f.2 one.0 in
    let same : s ≡ fresh - 1 = grind (arith, top, one.1, low, high) in
    grind (arith, same, low, high)

-- rule 1 by two numbers
pub farthest_is : (g p base fresh far next : ℕ) (xs : List Kind) → Tracked g p base fresh far xs → base ≤ next →
    greatest (is_stale g p next xs) (blocks g xs) ≡ (if nat_lt next fresh then Some (fresh - 1) else None)
farthest_is g p base fresh far next xs tr le = farthest_by g p base fresh far next xs (greatest (is_stale g p next xs) (blocks g xs)) tr le (found (is_stale g p next xs) (blocks g xs))

-- one more revision: fresh falls by one
pub revise_keeps : (t g p base fresh far next : ℕ) (xs : List Kind) → Tracked g p base fresh far xs → base ≤ next → next < fresh →
    Tracked g p base (fresh - 1) far (Piece t g (fresh - 1) p ∷ xs)
revise_keeps t g p base fresh far next xs tr le lt = let b = tr.bounded in record {
  below = λ s a. grind (arith, a, b, lt, tr.below s);
  whole = λ s x y. grind (arith, tr.whole s x y);
  last = λ x. grind (arith, tr.last);
  bounded = omega arith;
  stale = λ s a l. grind (arith, a, l, tr.stale s);
  new = λ s a l. grind (arith, a, l, tr.new s);
}

-- a new place
pub place_keeps : (t g p base fresh far next : ℕ) (xs : List Kind) → Tracked g p base fresh far xs → fresh ≤ next →
    Tracked g p (if nat_lt far next then next else base) fresh (suc (max far next)) (Piece t g (max far next) p ∷ xs)
place_keeps t g p base fresh far next xs tr le = let b = tr.bounded in record {
  below = λ s a. grind (arith, a, tr.below s);
  whole = λ s x y. grind (arith, x, y, tr.whole s);
  last = λ x. grind arith;
  bounded = grind arith;
  stale = λ s a l. grind (arith, a, l, tr.stale s);
  new = λ s a l. grind (arith, a, l, tr.new s);
}

past_low : (low m : ℕ) (xs : List ℕ) → ((s : ℕ) → among s xs ≡ true → s < m) → low ≤ m → past low xs ≤ m
past_low low m [] f le = le
past_low low m (x ∷ xs) f le = grind (arith, f x (or_left (nat_eq x x) (among x xs) (eq-eqb x x refl)), past_low low m xs (λ s a. f s (or_right (nat_eq x s) (among s xs) a)) le)

past_high : (low s : ℕ) (xs : List ℕ) → among s xs ≡ true → s < past low xs
past_high low s [] a = absurd (grind (arith, a))
past_high low s (x ∷ xs) a = grind (arith, a, past_high low s xs)

past_from : (low : ℕ) (xs : List ℕ) → low ≤ past low xs
past_from low [] = omega arith
past_from low (x ∷ xs) = grind (arith, past_from low xs)

pub past_is : (g p base fresh far next : ℕ) (xs : List Kind) → Tracked g p base fresh far xs → past next (blocks g xs) ≡ max far next
past_is g p base fresh far next xs tr = grind (
  arith,
  past_from next (blocks g xs),
  past_high next (far - 1) (blocks g xs),
  tr.last,
  past_low next (max far next) (blocks g xs) (λ s a. grind (arith, tr.below s a)) (grind arith),
)

-- the numbers say what the list says
due_by_now : (n : Needs) (m : Bool) (fresh far : ℕ) (xs : List ℕ) (c : Bool) → nat_lt n.next fresh ≡ c → past n.next xs ≡ max far n.next →
    due_by n (if c then Some (fresh - 1) else None) m (past n.next xs) ≡ due_now n m fresh far
due_by_now n m fresh far xs true e f = grind (arith, e)
due_by_now n false fresh far xs false e f = grind (arith, e)
due_by_now n true fresh far xs false e f = grind (arith, e, f)

pub due_after_is : (n : Needs) (base fresh far : ℕ) (xs : List Kind) → Tracked n.generation n.touched base fresh far xs → base ≤ n.next →
    due_after n xs ≡ due_now n (has_mark n.edition xs) fresh far
due_after_is n base fresh far xs tr le =
    subst (λ o. due_by n o (has_mark n.edition xs) (past n.next (blocks n.generation xs)) ≡ due_now n (has_mark n.edition xs) fresh far)
    (sym (farthest_is n.generation n.touched base fresh far n.next xs tr le))
    (due_by_now n (has_mark n.edition xs) fresh far (blocks n.generation xs) (nat_lt n.next fresh) refl (past_is n.generation n.touched base fresh far n.next xs tr))

-- a mark changes nothing
pub mark_keeps : (g p base fresh far k h s : ℕ) (xs : List Kind) → Tracked g p base fresh far xs → Tracked g p base fresh far (Settled k h s ∷ xs)
mark_keeps g p base fresh far k h s xs tr = record { below = tr.below; whole = tr.whole; last = tr.last; bounded = tr.bounded; stale = tr.stale; new = tr.new }

-- a later edition of the same generation that touches the track makes all places stale
pub touch_keeps : (session : Session) (edits : List Edit) (t j k base fresh far : ℕ) (xs : List Kind) → list_all (is_from session edits t j) xs ≡ true → playlist_edition session edits t j < playlist_edition session edits t k →
    Tracked (generation edits j) (playlist_edition session edits t j) base fresh far xs → Tracked (generation edits j) (playlist_edition session edits t k) base far far xs
touch_keeps session edits t j k base fresh far xs from lt tr = record {
  below = tr.below;
  whole = tr.whole;
  last = tr.last;
  bounded = omega arith;
  stale = λ s a l. grind (arith, newest_from session edits t j (generation edits j) s xs from);
  new = λ s a l. absurd (grind (arith, tr.below s a));
}

-- in a generation that is new nothing was sent
none_of_new : (session : Session) (edits : List Edit) (t j g s : ℕ) (xs : List Kind) → list_all (is_from session edits t j) xs ≡ true → generation edits j < g → among s (blocks g xs) ≡ false
none_of_new session edits t j g s [] e lt = refl
none_of_new session edits t j g s (Piece u i q n ∷ xs) e lt = grind (arith, e, none_of_new session edits t j g s xs)
none_of_new session edits t j g s (Settled i h q ∷ xs) e lt = grind (arith, e, none_of_new session edits t j g s xs)
none_of_new session edits t j g s (Blank ∷ xs) e lt = none_of_new session edits t j g s xs e lt

pub start_keeps : (session : Session) (edits : List Edit) (t j g p : ℕ) (xs : List Kind) → list_all (is_from session edits t j) xs ≡ true → generation edits j < g → Tracked g p 0 0 0 xs
start_keeps session edits t j g p xs from lt = let none = none_of_new session edits t j g in record {
  below = λ s a. absurd (true≢false (sym a ∙ none s xs from lt));
  whole = λ s x y. absurd (omega arith);
  last = λ x. absurd (omega arith);
  bounded = omega arith;
  stale = λ s a l. absurd (omega arith);
  new = λ s a l. absurd (true≢false (sym a ∙ none s xs from lt));
}
