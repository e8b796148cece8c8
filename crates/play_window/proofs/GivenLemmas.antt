-- Which offers give a piece of a block, and which blocks none was given of.
use Rattle.std.proofs.Common.{◌≡◌, ℕ, ◌+◌, ◌<◌, ◌≤◌, List, [], ◌∷◌, refl, sym, ◌∙◌, arith}
use Rattle.std.specs.Prelude.{Bool, true, false, ◌&&◌, ◌==◌, nat_le, nat_lt, None, Some}
use Rattle.engine_model.specs.Items.{Kind, Piece, Settled, Blank}
use Rattle.play_window.specs.Offers.{Offered, AreInOrder, IsNear, is_piece_of, gives, last_given, last_generation, last_next, is_passed, piece_of}
use Rattle.play_window.specs.WindowState.{WindowState, IsWindowOf, IsNoEarlier, has}
use Rattle.play_window.proofs.BoxLemmas.{unless, when}

-- a piece of generation h whose block isn't passed
abbrev pub is_kept : ℕ → ℕ → Kind → Bool
is_kept h n (Piece t i r p) = i == h && nat_le n r
is_kept h n (Settled k i r) = false
is_kept h n Blank = false

gives_none_far : (depth g s h n : ℕ) (k : Kind) → IsNear depth h n k → (h ≡ g → n + depth ≤ s) → (h == g && nat_le n s && is_piece_of g s k) ≡ false
gives_none_far depth g s h n (Piece t i r p) near far = grind (arith, near, far)
gives_none_far depth g s h n (Settled j i r) near far = grind arith
gives_none_far depth g s h n Blank near far = grind arith

-- what isn't kept gives no block that isn't passed
pub gives_none_dropped : (g s h n : ℕ) (k : Kind) → IsNoEarlier h n g s → is_kept h n k ≡ false → (h == g && nat_le n s && is_piece_of g s k) ≡ false
gives_none_dropped g s h n (Piece t i r p) from dropped = grind (arith, from.block, dropped)
gives_none_dropped g s h n (Settled j i r) from dropped = grind arith
gives_none_dropped g s h n Blank from dropped = grind arith

-- none was given of a later generation, nor of a block further ahead than offers reach
pub none_far : (depth g s : ℕ) (offers : List Offered) → AreInOrder depth offers → last_generation offers ≤ g
    → (last_generation offers ≡ g → last_next offers + depth ≤ s) → last_given g s offers ≡ None
none_far depth g s [] order from far = refl
none_far depth g s (o ∷ offers) order from far =
    unless (gives g s o) (Some o.item) (last_given g s offers) (gives_none_far depth g s o.generation o.next o.item.kind order.0.near far)
    ∙ none_far depth g s offers order.1 (omega (arith, order.0.generation)) (λ e. omega (arith, order.0.generation, order.0.next (omega (arith, order.0.generation)), far (omega (arith, order.0.generation))))

not_passed : (depth g s : ℕ) (offers : List Offered) → AreInOrder depth offers → last_generation offers < g → is_passed g s offers ≡ false
not_passed depth g s [] order later = refl
not_passed depth g s (o ∷ offers) order later = grind (arith, not_passed depth g s offers order.1, order.0.generation)

-- a block of the last generation or a later one is passed where it lies before the last offer's next one
pub passed_is : (depth g s : ℕ) (offers : List Offered) → AreInOrder depth offers → last_generation offers ≤ g
    → is_passed g s offers ≡ (last_generation offers == g && nat_lt s (last_next offers))
passed_is depth g s [] order from = grind arith
passed_is depth g s (o ∷ offers) order from = grind (arith, not_passed depth g s offers order.1, order.0.generation)

-- a block that isn't passed shows what the window has of it
pub shown : (w : WindowState) (offers : List Offered) → IsWindowOf offers w → (g s : ℕ) → w.generation ≤ g → (w.generation == g && nat_lt s w.next) ≡ false → has w g s ≡ piece_of g s offers
shown w offers is g s from ahead = let unpassed : is_passed g s offers ≡ false = passed_is w.depth g s offers is.order (omega (arith, is.generation)) ∙ grind (arith, is.generation, is.next, ahead) in
    is.pieces g s (record { generation = from; block = λ e. grind (arith, ahead) }) ∙ sym (unless (is_passed g s offers) None (last_given g s offers) unpassed)

pub hidden : (w : WindowState) (offers : List Offered) → IsWindowOf offers w → (g s : ℕ) → w.generation ≤ g → (w.generation == g && nat_lt s w.next) ≡ true → None ≡ piece_of g s offers
hidden w offers is g s from behind = let passed : is_passed g s offers ≡ true = passed_is w.depth g s offers is.order (omega (arith, is.generation)) ∙ grind (arith, is.generation, is.next, behind) in
    sym (when (is_passed g s offers) None (last_given g s offers) passed)
