-- What follows an entry: the position, the rings of acknowledgements, and what the input and the tracks have still.
use Rattle.std.proofs.Common.{◌≡◌, inl, inr, ℕ, ◌<◌, ◌≤◌, List, [], ◌∷◌, ◌++◌, map, refl, ap, ◌∙◌, arith}
use Rattle.std.specs.Prelude.{pos, reverse}
use Rattle.std.proofs.lemmas.List.{map-append, reverse-append}
use Rattle.sound_model.specs.Wav.{sound}
use Rattle.engine_model.specs.Journal as engine
use Rattle.engine_model.specs.Journal.{rolled, is_rolling}
use Rattle.disk_ring.specs.Receiver.{Receiver}
use Rattle.disk_ring.specs.Sender.{Sender}
use Rattle.piece_item.specs.declared.ack.Ack.{Ack}
use Rattle.piece_item.specs.declared.item.Item.{Item}
use Rattle.cycle_journal.specs.declared.entry.State.{State}
use Rattle.cycle_journal.specs.declared.entry.State.TheVariants.{Stopped, Seeking, Rolling}
use Rattle.cycle_journal.specs.JournalView.{seen_state}
use Rattle.input_blocks.specs.Rest.{StreamForm, rest_sound}
use Rattle.track_playback.specs.declared.play_position.PlayPosition.{PlayPosition}
use Rattle.track_playback.specs.Heard.{IsAt}
use Rattle.track_playback.specs.SpareBoxes.{received_items, received_kinds}
use Rattle.process_cycle.specs.Cycles.{Acknowledges, block_after}
use Rattle.process_cycle.specs.Playing.{IsOpenIn}
use Rattle.process_cycle.specs.ProcessState.{ProcessState, items_of, kinds_of}
use Rattle.process_cycle.proofs.MadeLemmas.{seen_as}

-- ---- the next block

-- the last of a list is the first of it backwards
pub last_first : {X Y : Type 0} (f : X → Y) (xs : List X) (x : X) → reverse (map f (xs ++ x ∷ [])) ≡ f x ∷ reverse (map f xs)
last_first f xs x = ap reverse (map-append f xs (x ∷ [])) ∙ reverse-append (map f xs) (f x ∷ [])

pub counts_on : (at : PlayPosition) (state : State) (n k m : ℕ) (notes : List engine.Note) (es : List engine.Entry) → IsAt at state → n ≡ rolled at.generation es → block_after state n ≡ rolled at.generation (seen_as k m (seen_state state) notes ∷ es)
counts_on at Stopped n k m notes es here now = now
counts_on at (Seeking t tail) n k m notes es here now = now
counts_on at (Rolling g s) n k m notes es here now = grind (arith, here.0, now)

pub none_later : (at : PlayPosition) (state : State) (h k m : ℕ) (notes : List engine.Note) (es : List engine.Entry) → IsAt at state → at.generation < h → rolled h es ≡ 0 → rolled h (seen_as k m (seen_state state) notes ∷ es) ≡ 0
none_later at Stopped h k m notes es here above none = none
none_later at (Seeking t tail) h k m notes es here above none = none
none_later at (Rolling g s) h k m notes es here above none = grind (arith, here.0, above, none)

pub no_less : (state : State) (n : ℕ) → n ≤ block_after state n
no_less Stopped n = omega arith
no_less (Seeking t tail) n = omega arith
no_less (Rolling g s) n = omega arith

-- ---- the ends

-- both answers leave an end open
pub open_after : (items : ℕ) (ack : Ack) (a b : Sender Ack) → Acknowledges ack a b → IsOpenIn items 0 a → IsOpenIn items 0 b
open_after items ack a b (inl put) was = record {
  depth = ap (λ x. x.depth) put.1.sent ∙ was.depth;
  room = ap (λ x. x.room) put.1.sent ∙ was.room;
  still_open = ap (λ x. x.closed) put.1.sent ∙ was.still_open;
}
open_after items ack a b (inr full) was = record {
  depth = ap (λ x. x.depth) full.1.heads ∙ was.depth;
  room = ap (λ x. x.room) full.1.heads ∙ was.room;
  still_open = ap (λ x. x.closed) full.1.heads ∙ was.still_open;
}

-- ---- the input

-- it has no more channels than its form tells
pub silent_past : (stream : StreamForm) (start : List ℕ) (i k : ℕ) → stream.form.channels ≤ k → rest_sound stream start i k ≡ pos 0
unfolding sound
silent_past stream start i k past = grind (arith, past)

-- ---- the same kinds

pub kinds_by_items : {I W : Type 0} (p : ProcessState I W) → map (map (λ i. i.kind)) (items_of p) ≡ kinds_of p
kinds_by_items p = by p.ends.plays.items
  where
    by : (rs : List (Receiver Item)) → map (map (λ i. i.kind)) (map received_items rs) ≡ map received_kinds rs
    by [] = refl
    by (r ∷ rs) = ap (λ l. received_kinds r ∷ l) (by rs)
