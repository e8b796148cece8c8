-- Where nothing is due of a track in a run on one thread, it has what the next cycle plays.
use Rattle.std.proofs.Common.{◌≡◌, inl, inr, ℕ, suc, ◌+◌, ◌<◌, ◌≤◌, List, [], ◌∷◌, length, refl, sym, ap, subst, arith, ◌∙◌, le_antisymm}
use Rattle.std.specs.Prelude.{◌⊎◌, Bool, true, false, ◌&&◌, not, nat_lt, nat_le, max, if◌then◌else◌, Option, Some, None}
use Rattle.std.specs.List.{list_all}
use Rattle.std.proofs.lemmas.Bool.{and_parts, and_from, ltb-false, le-leb, eqb-true, not-true, true≢false}
use Rattle.std.proofs.lemmas.Option.{none-some}
use Rattle.session_model.specs.declared.session.Session.{Session}
use Rattle.session_model.specs.declared.edit.Edit.{Edit}
use Rattle.engine_model.specs.Cycle.{is_held, is_in_force, force}
use Rattle.engine_model.specs.Due.{Ack, Needs, needs, due, due_by, greatest, is_stale, next_block, past}
use Rattle.engine_model.specs.Edits.{generation, playlist_edition}
use Rattle.engine_model.specs.Items.{Kind, Piece, Settled, Blank, among, blocks, newest, has_mark}
use Rattle.engine_laws.specs.Kept.{Kept}
use Rattle.engine_laws.specs.Marks.{all_in_force, next_mark}
use Rattle.engine_laws.specs.SerialLaws.{none_is_held, IsReady}
use Rattle.engine_laws.proofs.ListLemmas.{Found, found}
use Rattle.engine_laws.proofs.MarkLemmas.{marked_is, force_is, held_or_in_force}
use Rattle.engine_laws.proofs.OrderLemmas.{all_at, newest_from}
use Rattle.machine_laws.proofs.NearLemmas.{IsNear, some_above}

-- no mark is held, so each is in force
marks_in_force : (depth g s : ℕ) (xs : List Kind) → none_is_held depth g s xs ≡ true → all_in_force g s xs ≡ true
marks_in_force depth g s [] h = refl
marks_in_force depth g s (Piece u i r p ∷ xs) h = marks_in_force depth g s xs (and_parts (not (is_held depth g s (Piece u i r p))) (none_is_held depth g s xs) h).1
marks_in_force depth g s (Settled k i r ∷ xs) h = let parts = and_parts (not (is_held depth g s (Settled k i r))) (none_is_held depth g s xs) h in
    and_from (is_in_force i r g s) (all_in_force g s xs) (twice (is_in_force i r g s) (ap not (sym (held_or_in_force depth g s k i r)) ∙ parts.0)) (marks_in_force depth g s xs parts.1)
  where
    twice : (b : Bool) → not (not b) ≡ true → b ≡ true
    twice true e = refl
    twice false e = e
marks_in_force depth g s (Blank ∷ xs) h = marks_in_force depth g s xs (and_parts (not (is_held depth g s Blank)) (none_is_held depth g s xs) h).1

-- what nothing due says
abbrev Rests : Needs → Option ℕ → Bool → ℕ → Type 0
Rests n o m far = (o ≡ None) × (m ≡ true) × ((n.next + n.depth ≤ far) ⊎ (n.cycles ≤ far))

some_not_none : (x : Kind) → Some x ≡ None → ⊥
some_not_none x e = none-some x (sym e)

at_rest_by : (n : Needs) (o : Option ℕ) (m : Bool) (far : ℕ) → due_by n o m far ≡ None → Rests n o m far
at_rest_by n (Some s) m far is = absurd (some_not_none (Piece n.track n.generation s n.touched) is)
at_rest_by n None false far is = absurd (some_not_none (Settled n.edition n.generation n.next) is)
at_rest_by n None true far is = (refl, refl, by (nat_lt far (n.next + n.depth)) (nat_lt far n.cycles) refl refl is)
  where
    by : (a b : Bool) → nat_lt far (n.next + n.depth) ≡ a → nat_lt far n.cycles ≡ b → (if a && b then Some (Piece n.track n.generation far n.touched) else None) ≡ None →
        (n.next + n.depth ≤ far) ⊎ (n.cycles ≤ far)
    by true true x y e = absurd (some_not_none (Piece n.track n.generation far n.touched) e)
    by true false x y e = inr (ltb-false far n.cycles y)
    by false b x y e = inl (ltb-false far (n.next + n.depth) x)

beyond : (next depth cycles far : ℕ) → 0 < depth → next < cycles → (next + depth ≤ far) ⊎ (cycles ≤ far) → next < far
beyond next depth cycles far deep more (inl low) = omega (arith, deep, low)
beyond next depth cycles far deep more (inr low) = omega (arith, more, low)

pub near_is_ready : (session : Session) (edits : List Edit) (cycles t : ℕ) (acks : List Ack) (sent : List Kind) → Kept session edits t (length edits) sent →
    0 < session.depth → next_block acks (generation edits (length edits)) < cycles → IsNear session.depth (generation edits (length edits)) (next_block acks (generation edits (length edits))) sent →
    due session edits cycles t (length edits) acks sent ≡ None → IsReady session edits t (generation edits (length edits)) (next_block acks (generation edits (length edits))) sent
near_is_ready session edits cycles t acks sent kept deep more near nothing = record {
  there = there;
  fresh = le_antisymm (newest_from session edits t (length edits) g next sent kept.from) (new (nat_lt (newest g next sent) p) refl);
  settled = settled_is (force_is session edits t g next sent kept.in_order (marks_in_force session.depth g next sent near.free))
      (eqb-true (next_mark sent) (suc (length edits)) (sym (marked_is session edits t (length edits) sent kept.in_order kept.from) ∙ rests.1));
}
  where
    g : ℕ
    g = generation edits (length edits)

    p : ℕ
    p = playlist_edition session edits t (length edits)

    next : ℕ
    next = next_block acks (generation edits (length edits))

    rests : Rests (needs session edits cycles t (length edits) acks) (greatest (is_stale g p next sent) (blocks g sent)) (has_mark (length edits) sent) (past next (blocks g sent))
    rests = at_rest_by (needs session edits cycles t (length edits) acks) (greatest (is_stale g p next sent) (blocks g sent)) (has_mark (length edits) sent) (past next (blocks g sent)) nothing

    there : among next (blocks g sent) ≡ true
    there = let up = some_above next next (blocks g sent) (omega arith) (beyond next session.depth cycles (past next (blocks g sent)) deep more rests.2) in
        near.gapless next up.0 (omega arith) up.1 up.2

    none_stale : list_all (λ r. not (is_stale g p next sent r)) (blocks g sent) ≡ true
    none_stale = subst (Found (is_stale g p next sent) (blocks g sent)) rests.0 (found (is_stale g p next sent) (blocks g sent))

    new : (b : Bool) → nat_lt (newest g next sent) p ≡ b → p ≤ newest g next sent
    new false e = ltb-false (newest g next sent) p e
    new true e = absurd (true≢false (sym (and_from (nat_le next next) (nat_lt (newest g next sent) p) (le-leb next next (omega arith)) e)
        ∙ not-true (is_stale g p next sent next) (all_at (λ r. not (is_stale g p next sent r)) (blocks g sent) next none_stale there)))

    settled_is : suc (force g next sent) ≡ max 1 (next_mark sent) → next_mark sent ≡ suc (length edits) → force g next sent ≡ length edits
    settled_is e f = omega (arith, e, f)
