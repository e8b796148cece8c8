-- What is due isn't held, and what isn't held isn't held later.
use Rattle.std.proofs.Common.{◌≡◌, inl, inr, ℕ, ◌+◌, ◌<◌, List, [], ◌∷◌, refl, sym, subst, arith}
use Rattle.std.specs.Prelude.{Bool, true, false, ◌&&◌, ◌||◌, not, ◌==◌, nat_lt, if◌then◌else◌, Option, Some, None}
use Rattle.std.proofs.lemmas.Bool.{and_parts, and_from, eqb-true, ltb-true, true≢false}
use Rattle.session_model.specs.declared.edit.Edit.{Edit}
use Rattle.session_model.specs.declared.session.Session.{Session}
use Rattle.engine_model.specs.Edits.{generation}
use Rattle.engine_model.specs.Items.{Kind, Piece, Settled, Blank, among, blocks, has_mark}
use Rattle.engine_model.specs.Due.{Ack, Needs, due, due_by, greatest, is_stale, needs, next_block, past}
use Rattle.engine_model.specs.Cycle.{is_held}
use Rattle.engine_laws.specs.Entered.{GoneOn}
use Rattle.engine_laws.specs.SerialLaws.{none_is_held}
use Rattle.engine_laws.proofs.ListLemmas.{Found, found}
use Rattle.engine_laws.proofs.SendLemmas.{it_is, it_is_if}

-- ---- what is due isn't held

-- a block with a piece that isn't held lies near
near_of : (depth g s r : ℕ) (xs : List Kind) → none_is_held depth g s xs ≡ true → among r (blocks g xs) ≡ true → r < s + depth
near_of depth g s r [] none here = absurd (true≢false (sym here))
near_of depth g s r (Piece u h q p ∷ xs) none here = let parts = and_parts (not (is_held depth g s (Piece u h q p))) (none_is_held depth g s xs) none in
    by (h == g) refl here (near_of depth g s r xs parts.1) parts.0
  where
    by : (b : Bool) → (h == g) ≡ b → among r (if b then q ∷ blocks g xs else blocks g xs) ≡ true → (among r (blocks g xs) ≡ true → r < s + depth) → not (is_held depth g s (Piece u h q p)) ≡ true → r < s + depth
    by false e at rest free = rest at
    by true e at rest free = if_here (q == r) refl at rest (grind (arith, e, free))
      where
        if_here : (b : Bool) → (q == r) ≡ b → b || among r (blocks g xs) ≡ true → (among r (blocks g xs) ≡ true → r < s + depth) → q < s + depth → r < s + depth
        if_here true is at rest low = subst (λ n. n < s + depth) (eqb-true q r is) low
        if_here false is at rest low = rest at
near_of depth g s r (Settled k h q ∷ xs) none here = near_of depth g s r xs (and_parts (not (is_held depth g s (Settled k h q))) (none_is_held depth g s xs) none).1 here
near_of depth g s r (Blank ∷ xs) none here = near_of depth g s r xs (and_parts (not (is_held depth g s Blank)) (none_is_held depth g s xs) none).1 here

piece_free : (depth t g s r p : ℕ) → r < s + depth → is_held depth g s (Piece t g r p) ≡ false
piece_free depth t g s r p low = grind arith

mark_free : (depth k g s : ℕ) → is_held depth g s (Settled k g s) ≡ false
mark_free depth k g s = grind arith

due_by_free : (n : Needs) (before : List Kind) (o : Option ℕ) (m : Bool) (x : Kind) → 0 < n.depth → none_is_held n.depth n.generation n.next before ≡ true →
    Found (is_stale n.generation n.touched n.next before) (blocks n.generation before) o → due_by n o m (past n.next (blocks n.generation before)) ≡ Some x → is_held n.depth n.generation n.next x ≡ false
due_by_free n before (Some s) m x deep none f is = subst (λ k. is_held n.depth n.generation n.next k ≡ false) (it_is (Piece n.track n.generation s n.touched) x is)
    (piece_free n.depth n.track n.generation n.next s n.touched (near_of n.depth n.generation n.next s before none f.1))
due_by_free n before None false x deep none f is = subst (λ k. is_held n.depth n.generation n.next k ≡ false) (it_is (Settled n.edition n.generation n.next) x is) (mark_free n.depth n.edition n.generation n.next)
due_by_free n before None true x deep none f is = let far = past n.next (blocks n.generation before) in by far (nat_lt far (n.next + n.depth)) refl is
  where
    none_is_some : None ≡ Some x → ⊥
    none_is_some e = cc

    by : (far : ℕ) (b : Bool) → nat_lt far (n.next + n.depth) ≡ b → (if b && nat_lt far n.cycles then Some (Piece n.track n.generation far n.touched) else None) ≡ Some x → is_held n.depth n.generation n.next x ≡ false
    by far true low at = subst (λ k. is_held n.depth n.generation n.next k ≡ false) (it_is_if (true && nat_lt far n.cycles) (Piece n.track n.generation far n.touched) x at)
        (piece_free n.depth n.track n.generation n.next far n.touched (ltb-true far (n.next + n.depth) low))
    by far false low at = absurd (none_is_some at)

pub due_is_not_held : (session : Session) (edits : List Edit) (cycles t k : ℕ) (acks : List Ack) (before : List Kind) (x : Kind) → 0 < session.depth →
    none_is_held session.depth (generation edits k) (next_block acks (generation edits k)) before ≡ true →
    due session edits cycles t k acks before ≡ Some x → is_held session.depth (generation edits k) (next_block acks (generation edits k)) x ≡ false
due_is_not_held session edits cycles t k acks before x deep none is = let n = needs session edits cycles t k acks in
    due_by_free n before (greatest (is_stale n.generation n.touched n.next before) (blocks n.generation before)) (has_mark n.edition before) x deep none
    (found (is_stale n.generation n.touched n.next before) (blocks n.generation before)) is

-- ---- what isn't held isn't held later

still_free : (depth g s h r : ℕ) (x : Kind) → GoneOn g s h r → not (is_held depth g s x) ≡ true → not (is_held depth h r x) ≡ true
still_free depth g s h r (Piece u i q p) (inl lt) free = grind (arith, free)
still_free depth g s h r (Piece u i q p) (inr same) free = grind (arith, free, same.0, same.1)
still_free depth g s h r (Settled k i q) (inl lt) free = grind (arith, free)
still_free depth g s h r (Settled k i q) (inr same) free = grind (arith, free, same.0, same.1)
still_free depth g s h r Blank on free = refl

pub none_is_held_later : (depth g s h r : ℕ) (xs : List Kind) → GoneOn g s h r → none_is_held depth g s xs ≡ true → none_is_held depth h r xs ≡ true
none_is_held_later depth g s h r [] on none = refl
none_is_held_later depth g s h r (x ∷ xs) on none = let parts = and_parts (not (is_held depth g s x)) (none_is_held depth g s xs) none in
    and_from (not (is_held depth h r x)) (none_is_held depth h r xs) (still_free depth g s h r x on parts.0) (none_is_held_later depth g s h r xs on parts.1)
