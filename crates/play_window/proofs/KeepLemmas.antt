-- A window stays the window of its offers, where an item is dropped and where it is kept.
use Rattle.std.proofs.Common.{◌≡◌, ◌≢◌, ℕ, ◌+◌, ◌%◌, ◌<◌, ◌≤◌, List, ◌∷◌, length, set, refl, sym, ap, subst, ◌∙◌, arith, Box}
use Rattle.std.specs.Prelude.{true, false, slice_get, Some, None}
use Rattle.std.specs.Global.{Global}
use mathlib.Core.Logic.{dite}
use native.Mathlib.Decide.{ℕ_discrete, dec_le}
use Rattle.engine_model.specs.Items.{Kind, Piece, Settled, Blank}
use Rattle.piece_item.specs.declared.item.Item.{Item}
use Rattle.piece_item.specs.Views.{item_of, kind_of}
use Rattle.disk_ring.proofs.Slots.{apart}
use Rattle.play_window.specs.Offers.{Offered, MayFollow, IsNear, is_later, kinds, gives, is_piece_of, last_given}
use Rattle.play_window.specs.WindowState.{WindowState, IsWindowOf, IsNoEarlier, piece_in}
use Rattle.play_window.proofs.BoxLemmas.{get_written, get_other, unless, when}
use Rattle.play_window.proofs.GivenLemmas.{is_kept, gives_none_dropped, none_far}
use Rattle.play_window.proofs.MarkLemmas.{marked, marked_is}

-- the window after an offer, with these boxes
abbrev pub after : WindowState → Offered → List (Box Item Global) → WindowState
after w o boxes = record { depth = w.depth; samples = w.samples; generation = o.generation; next = o.next; mark = marked o.item.kind w.mark; boxes = boxes }

abbrev seen : ℕ → ℕ → ℕ → ℕ → ℕ → List (Box Item Global) → WindowState
seen depth samples generation next mark boxes = record { depth = depth; samples = samples; generation = generation; next = next; mark = mark; boxes = boxes }

same_seen : (v w : WindowState) → v.depth ≡ w.depth → v.samples ≡ w.samples → v.generation ≡ w.generation → v.next ≡ w.next → v.mark ≡ w.mark → v.boxes ≡ w.boxes → v ≡ w
same_seen v w d s g n m b = ap (λ x. seen x v.samples v.generation v.next v.mark v.boxes) d ∙ ap (λ x. seen w.depth x v.generation v.next v.mark v.boxes) s
    ∙ ap (λ x. seen w.depth w.samples x v.next v.mark v.boxes) g ∙ ap (λ x. seen w.depth w.samples w.generation x v.mark v.boxes) n
    ∙ ap (λ x. seen w.depth w.samples w.generation w.next x v.boxes) m ∙ ap (λ x. seen w.depth w.samples w.generation w.next w.mark x) b

-- what is no earlier than the offer is no earlier than the last one before it
pub since : (h n i m g s : ℕ) → h ≤ i → (h ≡ i → n ≤ m) → IsNoEarlier i m g s → IsNoEarlier h n g s
since h n i m g s low within from = record {
  generation = omega (arith, from.generation);
  block = λ e. omega (arith, from.generation, from.block (omega (arith, from.generation)), within (omega (arith, from.generation)));
}

before : (w : WindowState) (o : Offered) (offers : List Offered) → IsWindowOf offers w → MayFollow w.depth offers o → (g s : ℕ) → IsNoEarlier o.generation o.next g s → IsNoEarlier w.generation w.next g s
before w o offers is may g s from = since w.generation w.next o.generation o.next g s (omega (arith, is.generation, may.generation)) (λ e. omega (arith, is.generation, is.next, may.next (sym is.generation ∙ e))) from

pub goes_on : (w : WindowState) (o : Offered) (offers : List Offered) (boxes : List (Box Item Global)) → IsWindowOf offers w → MayFollow w.depth offers o
    → ((g s : ℕ) → IsNoEarlier o.generation o.next g s → piece_in g s (slice_get boxes (s % w.depth)) ≡ last_given g s (o ∷ offers))
    → IsWindowOf (o ∷ offers) (after w o boxes)
goes_on w o offers boxes is may pieces = record {
  order = (may, is.order);
  generation = refl;
  next = refl;
  pieces = pieces;
  marks = λ g s from. marked_is w.depth g s o.generation o.next w.mark o.item.kind (kinds offers) may.near may.now from
      (is.marks g s (before w o offers is may g s from));
}

-- an item that isn't kept leaves the boxes as they are
pub drops : (w : WindowState) (o : Offered) (offers : List Offered) → IsWindowOf offers w → MayFollow w.depth offers o → is_kept o.generation o.next o.item.kind ≡ false
    → IsWindowOf (o ∷ offers) (after w o w.boxes)
drops w o offers is may dropped = goes_on w o offers w.boxes is may (λ g s from.
    is.pieces g s (before w o offers is may g s from) ∙ sym (unless (gives g s o) (Some o.item) (last_given g s offers) (gives_none_dropped g s o.generation o.next o.item.kind from dropped)))

-- two blocks with one box, of which one is within reach, are one or lie far apart
reach : (n d s q : ℕ) → n ≤ s → n ≤ q → q < n + d → s % d ≡ q % d → q ≢ s → n + d ≤ s
reach n d s q a b c same other = dite (dec_le (n + d) s) (λ far. far) (λ near. absurd (apart n s q d a (omega arith) b c (λ e. other (sym e)) same))

same_piece : (t h r p g s : ℕ) → h ≡ g → r ≡ s → Piece t h r p ≡ Piece t g s p
same_piece t h r p g s e f = cc

-- what a piece of a block is
pub piece_parts : (g s : ℕ) (k : Kind) → is_piece_of g s k ≡ true → (t : ℕ) × ((p : ℕ) × (k ≡ Piece t g s p))
piece_parts g s (Piece t h r p) e = (t, (p, same_piece t h r p g s (grind (arith, e)) (grind (arith, e))))
piece_parts g s (Settled j h r) e = absurd (grind (arith, e))
piece_parts g s Blank e = absurd (grind (arith, e))

-- and it isn't of a later generation
pub is_now : (g s : ℕ) (k : Kind) → is_piece_of g s k ≡ true → is_later g k ≡ false
is_now g s (Piece t h r p) e = grind (arith, e)
is_now g s (Settled j h r) e = absurd (grind (arith, e))
is_now g s Blank e = refl

module _ (w : WindowState) (offers : List Offered) (is : IsWindowOf offers w) (g n : ℕ) (b : Box Item Global) (t q p : ℕ) (kind : kind_of b.value.kind ≡ Piece t g q p)
    (may : MayFollow w.depth offers (record { generation = g; next = n; item = item_of b.value })) (ahead : n ≤ q) (some : 0 < w.depth) (wide : length w.boxes ≡ w.depth) where
  abbrev given : Offered
  given = record { generation = g; next = n; item = item_of b.value }

  abbrev kept : List (Box Item Global)
  kept = set w.boxes (q % w.depth) b

  near : q < n + w.depth
  near = subst (IsNear w.depth g n) kind may.near refl

  place : (s : ℕ) → s % w.depth ≡ q % w.depth → slice_get kept (s % w.depth) ≡ Some b
  place s same = ap (slice_get kept) same ∙ get_written w.boxes (q % w.depth) b (let under : q % w.depth < w.depth = omega arith in omega arith)

  -- the piece's own block
  own : (s : ℕ) → n ≤ s → q ≡ s → piece_in g s (slice_get kept (s % w.depth)) ≡ last_given g s (given ∷ offers)
  own s from e = let itself : is_piece_of g s (kind_of b.value.kind) ≡ true = ap (is_piece_of g s) kind ∙ grind (arith, e) in
      ap (piece_in g s) (place s (ap (λ (x : ℕ). x % w.depth) (sym e)))
      ∙ when (is_piece_of g s (kind_of b.value.kind)) (Some (item_of b.value)) None itself
      ∙ sym (when (gives g s given) (Some (item_of b.value)) (last_given g s offers) (grind (arith, itself, from)))

  -- another block
  other : (h s : ℕ) → IsNoEarlier g n h s → (g ≡ h → q ≢ s) → piece_in h s (slice_get kept (s % w.depth)) ≡ last_given h s (given ∷ offers)
  other h s from apart' = let itself : is_piece_of h s (kind_of b.value.kind) ≡ false = ap (is_piece_of h s) kind ∙ grind (arith, apart') in
      dite (ℕ_discrete (s % w.depth) (q % w.depth))
      (λ same. ap (piece_in h s) (place s same)
      ∙ unless (is_piece_of h s (kind_of b.value.kind)) (Some (item_of b.value)) None itself
      ∙ sym (none_far w.depth h s offers is.order (omega (arith, from.generation, may.generation))
      (λ e. let same_g : g ≡ h = omega (arith, from.generation, may.generation) in
      omega (arith, may.next (omega arith), reach n w.depth s q (from.block same_g) ahead near same (apart' same_g)))))
      (λ differ. ap (piece_in h s) (get_other w.boxes (s % w.depth) (q % w.depth) b differ)
      ∙ is.pieces h s (before w given offers is may h s from))
      ∙ sym (unless (gives h s given) (Some (item_of b.value)) (last_given h s offers) (grind (arith, itself)))

  pieces : (h s : ℕ) → IsNoEarlier g n h s → piece_in h s (slice_get kept (s % w.depth)) ≡ last_given h s (given ∷ offers)
  pieces h s from = dite (ℕ_discrete g h)
      (λ same. dite (ℕ_discrete q s)
      (λ e. subst (λ (x : ℕ). piece_in x s (slice_get kept (s % w.depth)) ≡ last_given x s (given ∷ offers)) same (own s (from.block same) e))
      (λ apart'. other h s from (λ _. apart')))
      (λ later. other h s from (λ e. absurd (later e)))

  keeps_after : IsWindowOf (given ∷ offers) (after w given kept)
  keeps_after = goes_on w given offers kept is may pieces

  -- a piece that is kept stands in its box
  pub keeps : (new : WindowState) → new.depth ≡ w.depth → new.samples ≡ w.samples → new.generation ≡ g → new.next ≡ n → new.mark ≡ w.mark → new.boxes ≡ kept
      → IsWindowOf (given ∷ offers) new
  keeps new d s e f m boxes = subst (IsWindowOf (given ∷ offers)) (sym (same_seen new (after w given kept) d s e f (m ∙ ap (λ k. marked k w.mark) (sym kind)) boxes)) keeps_after
