-- No piece is sent twice: what is due was never sent.
use Rattle.std.proofs.Common.{◌≡◌, inl, inr, ℕ, ◌+◌, ◌<◌, ◌≤◌, List, [], ◌∷◌, refl, subst, arith}
use Rattle.std.specs.Prelude.{Bool, true, false, ◌&&◌, ◌||◌, not, ◌==◌, nat_lt, nat_le, if◌then◌else◌, Option, Some, None}
use Rattle.std.specs.List.{list_any}
use Rattle.std.proofs.lemmas.Bool.{and_parts, and_from, ltb-true, lt-ltb, eqb-true, or_cases, false≢true, not_from_false, false_from_ne_true, or_left, or_right}
use Rattle.session_model.specs.declared.session.Session.{Session}
use Rattle.session_model.specs.declared.edit.Edit.{Edit}
use Rattle.engine_model.specs.Items.{Kind, Piece, Settled, Blank, among, blocks, newest, has_mark}
use Rattle.engine_model.specs.Order.{is_ordered_newest, may_follow}
use Rattle.engine_model.specs.Due.{Ack, Needs, needs, due, due_by, greatest, is_stale, past}
use Rattle.engine_laws.specs.Kept.{Kept}
use Rattle.engine_laws.proofs.ListLemmas.{Found, found}
use Rattle.engine_laws.proofs.OrderLemmas.{piece_parts, newest_low}
use Rattle.engine_laws.proofs.SendLemmas.{it_is}
use Rattle.machine_laws.specs.Stands.{is_piece, each_once}

-- a piece that was sent has its block among those sent,
sent_block : (g s p : ℕ) (xs : List Kind) → list_any (is_piece g s p) xs ≡ true → among s (blocks g xs) ≡ true
sent_block g s p [] e = absurd (false≢true e)
sent_block g s p (Piece u h r q ∷ xs) e = by (h == g) refl (sent_block g s p xs) e
  where
    by : (b : Bool) → (h == g) ≡ b → (list_any (is_piece g s p) xs ≡ true → among s (blocks g xs) ≡ true) →
        (b && r == s && q == p) || list_any (is_piece g s p) xs ≡ true → among s (if b then r ∷ blocks g xs else blocks g xs) ≡ true
    by false is rest at = rest at
    by true is rest at = elim (or_cases (true && r == s && q == p) (list_any (is_piece g s p) xs) at) [
      | inl here ↦ or_left (r == s) (among s (blocks g xs)) (and_parts (r == s) (q == p) here).0
      | inr there ↦ or_right (r == s) (among s (blocks g xs)) (rest there)
    ]
sent_block g s p (Settled k h r ∷ xs) e = sent_block g s p xs e
sent_block g s p (Blank ∷ xs) e = sent_block g s p xs e

-- and no older a playlist edition than the newest piece of the block
sent_older : (session : Session) (edits : List Edit) (t g s p : ℕ) (xs : List Kind) → is_ordered_newest session edits t xs ≡ true → list_any (is_piece g s p) xs ≡ true → p ≤ newest g s xs
sent_older session edits t g s p [] o e = absurd (false≢true e)
sent_older session edits t g s p (Piece u h r q ∷ xs) o e = let step = and_parts (may_follow session edits t xs (Piece u h r q)) (is_ordered_newest session edits t xs) o in
    by (h == g && r == s) refl (λ at. sent_older session edits t g s p xs step.1 at) (newest_low session edits t h q g s xs (piece_parts session edits t u h r q xs step.0).0) e
  where
    by : (b : Bool) → (h == g && r == s) ≡ b → (list_any (is_piece g s p) xs ≡ true → p ≤ newest g s xs) → newest g s xs ≤ q →
        (b && q == p) || list_any (is_piece g s p) xs ≡ true → p ≤ (if b then q else newest g s xs)
    by false is rest low at = rest at
    by true is rest low at = elim (or_cases (true && q == p) (list_any (is_piece g s p) xs) at) [
      | inl here ↦ subst (λ n. n ≤ q) (eqb-true q p here) (omega arith)
      | inr there ↦ omega (arith, rest there, low)
    ]
sent_older session edits t g s p (Settled k h r ∷ xs) o e =
    sent_older session edits t g s p xs (and_parts (may_follow session edits t xs (Settled k h r)) (is_ordered_newest session edits t xs) o).1 e
sent_older session edits t g s p (Blank ∷ xs) o e = sent_older session edits t g s p xs o e

pub below_past : (start s : ℕ) (xs : List ℕ) → among s xs ≡ true → s < past start xs
below_past start s [] e = absurd (false≢true e)
below_past start s (x ∷ xs) e = elim (or_cases (x == s) (among s xs) e) [
  | inl here ↦ let is = eqb-true x s here in omega (arith, is)
  | inr there ↦ omega (arith, below_past start s xs there)
]

asked : (cycles g s : ℕ) (xs : List Kind) → each_once cycles xs ≡ true → among s (blocks g xs) ≡ true → s < cycles
asked cycles g s [] h e = absurd (false≢true e)
asked cycles g s (Piece u k r q ∷ xs) h e = let one = and_parts (nat_lt r cycles && not (list_any (is_piece k r q) xs)) (each_once cycles xs) h in
    by (k == g) (ltb-true r cycles (and_parts (nat_lt r cycles) (not (list_any (is_piece k r q) xs)) one.0).0) (asked cycles g s xs one.1) e
  where
    by : (b : Bool) → r < cycles → (among s (blocks g xs) ≡ true → s < cycles) → among s (if b then r ∷ blocks g xs else blocks g xs) ≡ true → s < cycles
    by false low rest at = rest at
    by true low rest at = elim (or_cases (r == s) (among s (blocks g xs)) at) [
      | inl here ↦ subst (λ n. n < cycles) (eqb-true r s here) low
      | inr there ↦ rest there
    ]
asked cycles g s (Settled j k r ∷ xs) h e = asked cycles g s xs h e
asked cycles g s (Blank ∷ xs) h e = absurd (false≢true h)

-- ---- one item more

piece_once : (cycles t g s p : ℕ) (xs : List Kind) → each_once cycles xs ≡ true → s < cycles → list_any (is_piece g s p) xs ≡ false → each_once cycles (Piece t g s p ∷ xs) ≡ true
piece_once cycles t g s p xs old low none = and_from (nat_lt s cycles && not (list_any (is_piece g s p) xs)) (each_once cycles xs)
    (and_from (nat_lt s cycles) (not (list_any (is_piece g s p) xs)) (lt-ltb s cycles low) (not_from_false (list_any (is_piece g s p) xs) none)) old

due_by_once : (session : Session) (edits : List Edit) (u cycles : ℕ) (n : Needs) (before : List Kind) (o : Option ℕ) (m : Bool) (x : Kind) → n.cycles ≡ cycles →
    is_ordered_newest session edits u before ≡ true →
    each_once cycles before ≡ true → Found (is_stale n.generation n.touched n.next before) (blocks n.generation before) o →
    due_by n o m (past n.next (blocks n.generation before)) ≡ Some x → each_once cycles (x ∷ before) ≡ true
due_by_once session edits u cycles n before (Some s) m x many order old f is = subst (λ k. each_once cycles (k ∷ before) ≡ true) (it_is (Piece n.track n.generation s n.touched) x is)
    (piece_once cycles n.track n.generation s n.touched before old (asked cycles n.generation s before old f.1) (false_from_ne_true (list_any (is_piece n.generation s n.touched) before) (λ there.
    let low = sent_older session edits u n.generation s n.touched before order there in
    let high = ltb-true (newest n.generation s before) n.touched (and_parts (nat_le n.next s) (nat_lt (newest n.generation s before) n.touched) f.0).1 in omega (arith, low, high))))
due_by_once session edits u cycles n before None false x many order old f is = subst (λ k. each_once cycles (k ∷ before) ≡ true) (it_is (Settled n.edition n.generation n.next) x is) old
due_by_once session edits u cycles n before None true x many order old f is =
    by (past n.next (blocks n.generation before)) (below_past n.next (past n.next (blocks n.generation before)) (blocks n.generation before))
    (nat_lt (past n.next (blocks n.generation before)) (n.next + n.depth)) (nat_lt (past n.next (blocks n.generation before)) n.cycles) refl is
  where
    by : (far : ℕ) → (among far (blocks n.generation before) ≡ true → far < far) → (a b : Bool) → nat_lt far n.cycles ≡ b →
        (if a && b then Some (Piece n.track n.generation far n.touched) else None) ≡ Some x → each_once cycles (x ∷ before) ≡ true
    by far new true true low at = subst (λ k. each_once cycles (k ∷ before) ≡ true) (it_is (Piece n.track n.generation far n.touched) x at)
        (piece_once cycles n.track n.generation far n.touched before old (subst (λ c. far < c) many (ltb-true far n.cycles low))
        (false_from_ne_true (list_any (is_piece n.generation far n.touched) before) (λ there. let no = new (sent_block n.generation far n.touched before there) in omega (arith, no))))
    by far new true false low at = absurd (cc)
    by far new false b low at = absurd (cc)

pub sending_once : (session : Session) (edits : List Edit) (cycles t k : ℕ) (acks : List Ack) (before : List Kind) (x : Kind) → Kept session edits t k before → each_once cycles before ≡ true →
    due session edits cycles t k acks before ≡ Some x → each_once cycles (x ∷ before) ≡ true
sending_once session edits cycles t k acks before x keep old is = let n = needs session edits cycles t k acks in
    due_by_once session edits t cycles n before (greatest (is_stale n.generation n.touched n.next before) (blocks n.generation before)) (has_mark n.edition before) x refl keep.in_order old
    (found (is_stale n.generation n.touched n.next before) (blocks n.generation before)) is
