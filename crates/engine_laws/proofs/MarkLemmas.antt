-- One number says of a list's marks what is asked: the newest mark's edition.
use Rattle.std.proofs.Common.{◌≡◌, ℕ, suc, ◌≤◌, List, [], ◌∷◌, refl, arith}
use Rattle.std.specs.Prelude.{true, false, max, not, nat_eq}
use Rattle.std.specs.List.{list_all}
use Rattle.std.proofs.lemmas.Bool.{and_parts}
use Rattle.session_model.specs.declared.edit.Edit.{Edit}
use Rattle.session_model.specs.declared.session.Session.{Session}
use Rattle.engine_model.specs.Cycle.{force, is_held, is_in_force}
use Rattle.engine_model.specs.Items.{Blank, Kind, Piece, Settled, has_mark}
use Rattle.engine_model.specs.Order.{is_ordered_newest, may_follow, precedes_mark}
use Rattle.engine_laws.specs.Kept.{is_from}
use Rattle.engine_laws.specs.Marks.{all_in_force, next_mark}
use Rattle.engine_laws.proofs.OrderLemmas.{mark_parts}

unmarked : (j k g : ℕ) (xs : List Kind) → list_all (precedes_mark j g) xs ≡ true → j ≤ k → has_mark k xs ≡ false
unmarked j k g [] e le = refl
unmarked j k g (Piece u i q p ∷ xs) e le = grind (arith, e, unmarked j k g xs)
unmarked j k g (Settled h i q ∷ xs) e le = grind (arith, e, unmarked j k g xs)
unmarked j k g (Blank ∷ xs) e le = unmarked j k g xs e le

pub marked_is : (session : Session) (edits : List Edit) (t k : ℕ) (xs : List Kind) → is_ordered_newest session edits t xs ≡ true → list_all (is_from session edits t k) xs ≡ true → has_mark k xs ≡ nat_eq (next_mark xs) (suc k)
marked_is session edits t k [] o e = grind arith
marked_is session edits t k (Piece u i q p ∷ xs) o e = marked_is session edits t k xs (and_parts (may_follow session edits t xs (Piece u i q p)) (is_ordered_newest session edits t xs) o).1 (and_parts (is_from session edits t k (Piece u i q p)) (list_all (is_from session edits t k) xs) e).1
marked_is session edits t k (Settled j i q ∷ xs) o e = let step = and_parts (may_follow session edits t xs (Settled j i q)) (is_ordered_newest session edits t xs) o in
    grind (arith, e, unmarked j k i xs (mark_parts session edits t j i q xs step.0).0)
marked_is session edits t k (Blank ∷ xs) o e = marked_is session edits t k xs o e

pub held_or_in_force : (depth g s k i q : ℕ) → is_held depth g s (Settled k i q) ≡ not (is_in_force i q g s)
held_or_in_force depth g s k i q = grind arith

force_below : (g s j h : ℕ) (xs : List Kind) → list_all (precedes_mark j h) xs ≡ true → force g s xs ≤ j
force_below g s j h [] e = grind arith
force_below g s j h (Piece u i q p ∷ xs) e = grind (arith, e, force_below g s j h xs)
force_below g s j h (Settled k i q ∷ xs) e = grind (arith, e, force_below g s j h xs)
force_below g s j h (Blank ∷ xs) e = force_below g s j h xs e

pub force_is : (session : Session) (edits : List Edit) (t g s : ℕ) (xs : List Kind) → is_ordered_newest session edits t xs ≡ true → all_in_force g s xs ≡ true → suc (force g s xs) ≡ max 1 (next_mark xs)
force_is session edits t g s [] o e = grind arith
force_is session edits t g s (Piece u i q p ∷ xs) o e = force_is session edits t g s xs (and_parts (may_follow session edits t xs (Piece u i q p)) (is_ordered_newest session edits t xs) o).1 e
force_is session edits t g s (Settled k i q ∷ xs) o e = let step = and_parts (may_follow session edits t xs (Settled k i q)) (is_ordered_newest session edits t xs) o in
    grind (arith, e, force_below g s k i xs (mark_parts session edits t k i q xs step.0).0)
force_is session edits t g s (Blank ∷ xs) o e = force_is session edits t g s xs o e
