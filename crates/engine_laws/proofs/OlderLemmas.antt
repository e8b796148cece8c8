-- What makes the entries of a process lawful: settled and heard numbers never fall while the place and the received list go on.
use Rattle.std.proofs.Common.{◌≡◌, ℕ, ◌<◌, ◌≤◌, inl, inr, List, [], ◌∷◌, ◌++◌, refl, sym, subst, le_trans, arith}
use Rattle.std.specs.Prelude.{true, false}
use Rattle.std.specs.List.{list_all}
use Rattle.std.proofs.lemmas.Bool.{and_parts, eqb-true}
use Rattle.session_model.specs.declared.edit.Edit.{Edit}
use Rattle.session_model.specs.declared.session.Session.{Session}
use Rattle.engine_model.specs.Cycle.{force, is_in_force}
use Rattle.engine_model.specs.Edits.{playlist_edition}
use Rattle.engine_model.specs.Items.{Blank, Kind, Piece, Settled, among, blocks, newest}
use Rattle.engine_model.specs.Order.{is_ordered_newest, may_follow, precedes_piece}
use Rattle.engine_laws.specs.Entered.{Backed, GoneOn, HeardAt}
use Rattle.engine_laws.proofs.OrderLemmas.{newest_low, newest_rises, piece_parts}
use Rattle.engine_laws.proofs.GrowLemmas.{piece_heads}

still_in_force : (j q g s h r : ℕ) → GoneOn g s h r → is_in_force j q g s ≡ true → is_in_force j q h r ≡ true
still_in_force j q g s h r (inl lt) e = grind (arith, e)
still_in_force j q g s h r (inr same) e = grind (arith, e, same.0, same.1)

pub force_goes_on : (g s h r : ℕ) (xs : List Kind) → GoneOn g s h r → force g s xs ≤ force h r xs
force_goes_on g s h r [] on = grind arith
force_goes_on g s h r (Piece u i q p ∷ xs) on = force_goes_on g s h r xs on
force_goes_on g s h r (Settled j i q ∷ xs) on = grind (arith, still_in_force i q g s h r on, force_goes_on g s h r xs on)
force_goes_on g s h r (Blank ∷ xs) on = force_goes_on g s h r xs on

pub force_grows : (g s : ℕ) (ys xs : List Kind) → force g s xs ≤ force g s (ys ++ xs)
force_grows g s [] xs = omega arith
force_grows g s (Piece u i q p ∷ ys) xs = force_grows g s ys xs
force_grows g s (Settled j i q ∷ ys) xs = grind (arith, force_grows g s ys xs)
force_grows g s (Blank ∷ ys) xs = force_grows g s ys xs

-- the newest piece of a place is of no later playlist edition than it says
pub newest_names : (session : Session) (edits : List Edit) (t g s : ℕ) (xs : List Kind) → is_ordered_newest session edits t xs ≡ true → among s (blocks g xs) ≡ true → newest g s xs ≡ playlist_edition session edits t (newest g s xs)
newest_names session edits t g s [] o a = absurd (grind (arith, a))
newest_names session edits t g s (Piece u i q p ∷ xs) o a = let step = and_parts (may_follow session edits t xs (Piece u i q p)) (is_ordered_newest session edits t xs) o in
    grind (arith, a, eqb-true p (playlist_edition session edits t p) (piece_heads session edits t u i q p xs step.0).1, newest_names session edits t g s xs step.1)
newest_names session edits t g s (Settled j i q ∷ xs) o a = newest_names session edits t g s xs (and_parts (may_follow session edits t xs (Settled j i q)) (is_ordered_newest session edits t xs) o).1 a
newest_names session edits t g s (Blank ∷ xs) o a = newest_names session edits t g s xs o a

-- no newer piece of a place is older
pub newest_grows : (session : Session) (edits : List Edit) (t g s : ℕ) (ys xs : List Kind) → is_ordered_newest session edits t (ys ++ xs) ≡ true → newest g s xs ≤ newest g s (ys ++ xs)
newest_grows session edits t g s [] xs o = omega arith
newest_grows session edits t g s (Piece u i q p ∷ ys) xs o = let step = and_parts (may_follow session edits t (ys ++ xs) (Piece u i q p)) (is_ordered_newest session edits t (ys ++ xs)) o in
    grind (arith, newest_grows session edits t g s ys xs step.1, newest_low session edits t i p g s (ys ++ xs) (piece_parts session edits t u i q p (ys ++ xs) step.0).0)
newest_grows session edits t g s (Settled j i q ∷ ys) xs o = newest_grows session edits t g s ys xs (and_parts (may_follow session edits t (ys ++ xs) (Settled j i q)) (is_ordered_newest session edits t (ys ++ xs)) o).1
newest_grows session edits t g s (Blank ∷ ys) xs o = newest_grows session edits t g s ys xs o

none_after : (session : Session) (edits : List Edit) (t i p g s : ℕ) (xs : List Kind) → list_all (precedes_piece session edits t i p) xs ≡ true → i < g → among s (blocks g xs) ≡ false
none_after session edits t i p g s [] e lt = refl
none_after session edits t i p g s (Piece u h q n ∷ xs) e lt = grind (arith, e, none_after session edits t i p g s xs)
none_after session edits t i p g s (Settled j h q ∷ xs) e lt = grind (arith, e, none_after session edits t i p g s xs)
none_after session edits t i p g s (Blank ∷ xs) e lt = none_after session edits t i p g s xs e lt

-- across generations touched numbers don't fall either
pub newest_later : (session : Session) (edits : List Edit) (t g s h r : ℕ) (xs : List Kind) → is_ordered_newest session edits t xs ≡ true → g < h → among r (blocks h xs) ≡ true → newest g s xs ≤ newest h r xs
newest_later session edits t g s h r [] o lt a = grind arith
newest_later session edits t g s h r (Piece u i q p ∷ xs) o lt a = let step = and_parts (may_follow session edits t xs (Piece u i q p)) (is_ordered_newest session edits t xs) o in
    let parts = piece_parts session edits t u i q p xs step.0 in
    grind (arith, a, newest_low session edits t i p g s xs parts.0, none_after session edits t i p h r xs parts.0, newest_later session edits t g s h r xs step.1 lt)
newest_later session edits t g s h r (Settled j i q ∷ xs) o lt a = newest_later session edits t g s h r xs (and_parts (may_follow session edits t xs (Settled j i q)) (is_ordered_newest session edits t xs) o).1 lt a
newest_later session edits t g s h r (Blank ∷ xs) o lt a = newest_later session edits t g s h r xs o lt a

among_grows : (g s : ℕ) (ys xs : List Kind) → among s (blocks g xs) ≡ true → among s (blocks g (ys ++ xs)) ≡ true
among_grows g s [] xs a = a
among_grows g s (Piece u i q p ∷ ys) xs a = grind (arith, among_grows g s ys xs a)
among_grows g s (Settled j i q ∷ ys) xs a = among_grows g s ys xs a
among_grows g s (Blank ∷ ys) xs a = among_grows g s ys xs a

-- heard numbers never fall: first heard at (g, s) of xs, then at (h, r) of more
pub heard_rises : (session : Session) (edits : List Edit) (t g s h r : ℕ) (ys xs : List Kind) → is_ordered_newest session edits t (ys ++ xs) ≡ true → GoneOn g s h r →
    among s (blocks g xs) ≡ true → among r (blocks h (ys ++ xs)) ≡ true → newest g s xs ≤ newest h r (ys ++ xs)
heard_rises session edits t g s h r ys xs o (inl lt) a b = le_trans (newest_grows session edits t g s ys xs o) (newest_later session edits t g s h r (ys ++ xs) o lt b)
heard_rises session edits t g s h r ys xs o (inr same) a b = let low : s ≤ r = same.1 in
    le_trans (newest_grows session edits t g s ys xs o)
    (subst (λ n. newest g s (ys ++ xs) ≤ newest n r (ys ++ xs)) same.0
    (newest_rises session edits t g s r (ys ++ xs) o low (among_grows g s ys xs a) (subst (λ n. among r (blocks n (ys ++ xs)) ≡ true) (sym same.0) b)))

-- what a process keeps of each entry stands when it receives more
pub backed_grows : (g s k : ℕ) (ys xs : List Kind) → Backed g s k xs → Backed g s k (ys ++ xs)
backed_grows g s k ys xs b = record { settled = le_trans b.settled (force_grows g s ys xs) }

pub heard_grows : (session : Session) (edits : List Edit) (t g s p : ℕ) (ys xs : List Kind) → is_ordered_newest session edits t (ys ++ xs) ≡ true → HeardAt g s p xs → HeardAt g s p (ys ++ xs)
heard_grows session edits t g s p ys xs o h = record { here = among_grows g s ys xs h.here; at_most = le_trans h.at_most (newest_grows session edits t g s ys xs o) }

-- and gives what the next entry at (h, r) has to show of an old one
pub settled_next : (g s h r k : ℕ) (xs : List Kind) → GoneOn g s h r → Backed g s k xs → k ≤ force h r xs
settled_next g s h r k xs on b = le_trans b.settled (force_goes_on g s h r xs on)

pub heard_next : (session : Session) (edits : List Edit) (t g s h r p : ℕ) (xs : List Kind) → is_ordered_newest session edits t xs ≡ true → GoneOn g s h r → HeardAt g s p xs → among r (blocks h xs) ≡ true → p ≤ newest h r xs
heard_next session edits t g s h r p xs o on old new = le_trans old.at_most (heard_rises session edits t g s h r [] xs o on old.here new)
