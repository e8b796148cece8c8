-- What a process hears is lawful: a heard number is at least what its settled number asks.
use Rattle.std.proofs.Common.{◌≡◌, ℕ, ◌≤◌, inl, inr, List, [], ◌∷◌, refl, subst, le_trans, arith}
use Rattle.std.specs.Prelude.{Bool, true, false, max, nat_le, if◌then◌else◌}
use Rattle.std.specs.List.{list_all}
use Rattle.std.proofs.lemmas.Bool.{and_parts, leb-true, cases_lt}
use Rattle.session_model.specs.declared.edit.Edit.{Edit}
use Rattle.session_model.specs.declared.session.Session.{Session}
use Rattle.engine_model.specs.Cycle.{force, is_in_force}
use Rattle.engine_model.specs.Edits.{playlist_edition, touches}
use Rattle.engine_model.specs.Items.{Blank, Kind, Piece, Settled, among, blocks, newest}
use Rattle.engine_model.specs.Order.{is_ordered_newest, may_follow, precedes_piece}
use Rattle.engine_laws.proofs.OrderLemmas.{mark_parts, piece_parts, this_mark}
use Rattle.engine_laws.proofs.NumberLemmas.{last_rises}

pe_max : (session : Session) (edits : List Edit) (t a b n : ℕ) → playlist_edition session edits t a ≤ n → playlist_edition session edits t b ≤ n → playlist_edition session edits t (max a b) ≤ n
pe_max session edits t a b n x y = elim (cases_lt a b) [ inl lt ↦ subst (λ m. playlist_edition session edits t m ≤ n) {x = b} {y = max a b} (grind arith) y | inr ge ↦ subst (λ m. playlist_edition session edits t m ≤ n) {x = a} {y = max a b} (grind arith) x ]

pe_if_max : (session : Session) (edits : List Edit) (t a b n : ℕ) (c : Bool) → (c ≡ true → playlist_edition session edits t a ≤ n) → playlist_edition session edits t b ≤ n → playlist_edition session edits t (if c then max a b else b) ≤ n
pe_if_max session edits t a b n true f y = pe_max session edits t a b n (f refl) y
pe_if_max session edits t a b n false f y = y

after_force : (session : Session) (edits : List Edit) (t h p g s : ℕ) (xs : List Kind) → list_all (precedes_piece session edits t h p) xs ≡ true → playlist_edition session edits t (force g s xs) ≤ p
after_force session edits t h p g s [] e = grind arith
after_force session edits t h p g s (Piece u i r q ∷ xs) e = after_force session edits t h p g s xs (and_parts (precedes_piece session edits t h p (Piece u i r q)) (list_all (precedes_piece session edits t h p) xs) e).1
after_force session edits t h p g s (Settled j i r ∷ xs) e = let parts = and_parts (precedes_piece session edits t h p (Settled j i r)) (list_all (precedes_piece session edits t h p) xs) e in
    pe_if_max session edits t j (force g s xs) p (is_in_force i r g s) (λ c. leb-true (playlist_edition session edits t j) p (and_parts (nat_le i h) (nat_le (playlist_edition session edits t j) p) parts.0).1) (after_force session edits t h p g s xs parts.1)
after_force session edits t h p g s (Blank ∷ xs) e = after_force session edits t h p g s xs e

force_low : (h s0 g s : ℕ) → is_in_force h s0 g s ≡ true → h ≤ g
force_low h s0 g s c = grind (arith, c)

force_from : (h s0 g s : ℕ) → is_in_force h s0 g s ≡ true → h ≡ g → s0 ≤ s
force_from h s0 g s c e = grind (arith, c, e)

-- the newest piece of the present place has touched at least what the greatest mark in force says
pub force_holds : (session : Session) (edits : List Edit) (t g s : ℕ) (xs : List Kind) → is_ordered_newest session edits t xs ≡ true → among s (blocks g xs) ≡ true → playlist_edition session edits t (force g s xs) ≤ newest g s xs
force_holds session edits t g s [] o a = grind arith
force_holds session edits t g s (Piece u i r p ∷ xs) o a = let step = and_parts (may_follow session edits t xs (Piece u i r p)) (is_ordered_newest session edits t xs) o in
    grind (arith, a, after_force session edits t i p g s xs (piece_parts session edits t u i r p xs step.0).0, force_holds session edits t g s xs step.1)
force_holds session edits t g s (Settled j i r ∷ xs) o a = let step = and_parts (may_follow session edits t xs (Settled j i r)) (is_ordered_newest session edits t xs) o in
    let both = mark_parts session edits t j i r xs step.0 in
    pe_if_max session edits t j (force g s xs) (newest g s xs) (is_in_force i r g s)
    (λ c. this_mark session edits t j i r g s xs both.0 both.1 (force_low i r g s c) (force_from i r g s c) a) (force_holds session edits t g s xs step.1 a)
force_holds session edits t g s (Blank ∷ xs) o a = force_holds session edits t g s xs o a

-- so what is heard of it is at least what any smaller settled number asks
pub heard_high : (session : Session) (edits : List Edit) (t g s settled : ℕ) (xs : List Kind) → is_ordered_newest session edits t xs ≡ true → among s (blocks g xs) ≡ true → settled ≤ force g s xs → playlist_edition session edits t settled ≤ newest g s xs
heard_high session edits t g s settled xs o a le = le_trans (last_rises (touches session t) edits settled (force g s xs) le) (force_holds session edits t g s xs o a)
