-- Places: in a loop from its end on, unchanged when the list grows, and those of an edition's transport.
use Rattle.std.proofs.Common.{◌≡◌, ℕ, zero, suc, ◌+◌, ◌<◌, ◌≤◌, List, [], ◌∷◌, ◌++◌, length, refl, ap, arith}
use Rattle.std.specs.Prelude.{Bool, if◌then◌else◌, Some}
use Rattle.std.proofs.lemmas.Bool.{lt-ltb, le-leb}
use Rattle.session_model.specs.declared.edit.Edit.{Edit}
use Rattle.engine_model.specs.Edits.{count_where, generation, starts}
use Rattle.engine_model.specs.Transport.{Wrap, at_rest, moved_by, place, place_from, place_of, until_start}

pub lies_in_loop : (target : ℕ) (w : Wrap) (n : ℕ) → w.from < w.to → target < w.to → w.to ≤ target + n →
    (w.from ≤ place_from target (Some w) n) × (place_from target (Some w) n < w.to)
lies_in_loop target w n some before far = (grind (arith, lt-ltb target w.to before, le-leb w.to (target + n) far), grind (arith, lt-ltb target w.to before, le-leb w.to (target + n) far))

pub count_first : (f : Edit → Bool) (e : Edit) (es : List Edit) (k : ℕ) → count_where f (e ∷ es) (suc k) ≡ (if f e then suc (count_where f es k) else count_where f es k)
count_first f e es zero = grind arith
count_first f e es (suc k) = grind (arith, count_first f e es k)

until_stays : (xs ys : List Edit) (g : ℕ) → g ≤ generation xs (length xs) → until_start g (xs ++ ys) ≡ until_start g xs
until_stays [] ys zero le = refl
until_stays [] ys (suc g) le = absurd (omega arith)
until_stays (e ∷ es) ys zero le = refl
until_stays (e ∷ es) ys (suc g) le = ap (λ l. e ∷ l) (until_stays es ys (if starts e then g else suc g) (grind (arith, le, count_first starts e es (length es))))

pub place_stays : (xs ys : List Edit) (g n : ℕ) → g ≤ generation xs (length xs) → place (xs ++ ys) g n ≡ place xs g n
place_stays xs ys g n le = ap (λ es. place_of (moved_by at_rest es) n) (until_stays xs ys g le)
