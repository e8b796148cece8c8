-- What a window shows is the newest piece that was received, and what isn't held may be offered.
use Rattle.std.proofs.Common.{◌≡◌, ℕ, List, [], ◌∷◌, refl, sym, ◌∙◌, subst, arith}
use Rattle.std.specs.Prelude.{Bool, true, false, ◌&&◌, ◌==◌, nat_le, if◌then◌else◌, Option, Some, None}
use mathlib.Core.Logic.{dite}
use native.Mathlib.Decide.{ℕ_discrete}
use Rattle.engine_model.specs.Items.{Kind, Item, Piece, Settled, Blank, newest}
use Rattle.engine_model.specs.Cycle.{has_piece}
use Rattle.play_window.specs.Offers.{Offered, kinds, last_generation, last_next, AreInOrder, is_later, is_piece_of, is_passed, last_given}
use Rattle.play_window.specs.WindowState.{IsNoEarlier}
use Rattle.play_window.specs.Laws.{Shows, UnheldItemsAreTakenIn, WindowsShowTheNewest}
use Rattle.play_window.proofs.BoxLemmas.{unless, when}
use Rattle.play_window.proofs.GivenLemmas.{passed_is}
use Rattle.play_window.proofs.KeepLemmas.{since}

abbrev shows_of : ℕ → ℕ → List Kind → Option Item → Type 0
shows_of g s xs found = Shows g s (has_piece g s xs) (newest g s xs) found

as_received : (g s : ℕ) (a b : Bool) (n m : ℕ) (found : Option Item) → a ≡ b → n ≡ m → Shows g s a n found → Shows g s b m found
as_received g s a b n m found e f shown = subst (λ (x : ℕ). Shows g s b x found) f (subst (λ (x : Bool). Shows g s x n found) e shown)

-- the item doesn't give the block: all stays as it was
passes : (g s : ℕ) (xs ys : List Kind) (test : Bool) (item : Item) (found : Option Item) → test ≡ false → has_piece g s xs ≡ has_piece g s ys → newest g s xs ≡ newest g s ys → shows_of g s xs found → shows_of g s ys (if test then Some item else found)
passes g s xs ys test item found gone e f shown = subst (shows_of g s ys) (sym (unless test (Some item) found gone)) (as_received g s (has_piece g s xs) (has_piece g s ys) (newest g s xs) (newest g s ys) found e f shown)

-- the item gives the block
gives_it : (g s t : ℕ) (xs : List Kind) (test : Bool) (item : Item) (found : Option Item) → test ≡ true → has_piece g s xs ≡ true → item.kind ≡ Piece t g s (newest g s xs) → shows_of g s xs (if test then Some item else found)
gives_it g s t xs test item found given e kind = subst (shows_of g s xs) (sym (when test (Some item) found given)) (e, (t, kind))

itself : (g s t i r p m : ℕ) → i ≡ g → r ≡ s → p ≡ m → Piece t i r p ≡ Piece t g s m
itself g s t i r p m a b c = cc

one_more : (g s h n : ℕ) (k : Kind) (xs : List Kind) (item : Item) (found : Option Item) → item.kind ≡ k → is_later h k ≡ false → IsNoEarlier h n g s → shows_of g s xs found
    → shows_of g s (k ∷ xs) (if h == g && nat_le n s && is_piece_of g s k then Some item else found)
one_more g s h n Blank xs item found kind now from shown = passes g s xs (Blank ∷ xs) (h == g && nat_le n s && false) item found (grind arith) refl refl shown
one_more g s h n (Settled j i r) xs item found kind now from shown = passes g s xs (Settled j i r ∷ xs) (h == g && nat_le n s && false) item found (grind arith) refl refl shown
one_more g s h n (Piece t i r p) xs item found kind now from shown = dite (ℕ_discrete i g)
    (λ same. dite (ℕ_discrete r s)
    (λ e. gives_it g s t (Piece t i r p ∷ xs) (h == g && nat_le n s && is_piece_of g s (Piece t i r p)) item found (grind (arith, same, e, now, from.generation, from.block)) (grind (arith, same, e)) (kind ∙ itself g s t i r p (newest g s (Piece t i r p ∷ xs)) same e (grind (arith, same, e))))
    (λ other. passes g s xs (Piece t i r p ∷ xs) (h == g && nat_le n s && is_piece_of g s (Piece t i r p)) item found (grind (arith, other)) (grind (arith, same, other)) (grind (arith, same, other)) shown))
    (λ other. passes g s xs (Piece t i r p ∷ xs) (h == g && nat_le n s && is_piece_of g s (Piece t i r p)) item found (grind (arith, other)) (grind (arith, other)) (grind (arith, other)) shown)

given_is : (depth g s : ℕ) (offers : List Offered) → AreInOrder depth offers → IsNoEarlier (last_generation offers) (last_next offers) g s → shows_of g s (kinds offers) (last_given g s offers)
given_is depth g s [] order from = refl
given_is depth g s (o ∷ offers) order from = one_more g s o.generation o.next o.item.kind (kinds offers) o.item (last_given g s offers) refl order.0.now from
    (given_is depth g s offers order.1 (since (last_generation offers) (last_next offers) o.generation o.next g s order.0.generation order.0.next from))

pub windows_show_the_newest : WindowsShowTheNewest
windows_show_the_newest depth g s offers order from = subst (shows_of g s (kinds offers))
    (sym (unless (is_passed g s offers) None (last_given g s offers) (passed_is depth g s offers order from.generation ∙ grind (arith, from.block))))
    (given_is depth g s offers order from)

pub unheld_items_are_taken_in : UnheldItemsAreTakenIn
unheld_items_are_taken_in depth g s (Piece t h r p) = ((λ e. (grind (arith, e), λ same. grind (arith, e, same))), λ both. grind (arith, both.0, both.1))
unheld_items_are_taken_in depth g s (Settled k h r) = ((λ e. (grind (arith, e), λ same. grind (arith, e, same))), λ both. grind (arith, both.0, both.1))
unheld_items_are_taken_in depth g s Blank = ((λ e. (refl, tt)), λ both. refl)
