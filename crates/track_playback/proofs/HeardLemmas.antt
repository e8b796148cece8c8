-- What a window shows of a track, told by all that was received of it.
use Rattle.std.proofs.Common.{◌≡◌, ℕ, ◌<◌, ◌≤◌, List, [], ◌∷◌, ◌++◌, length, refl, ap, ◌∙◌, sym, subst, arith}
use Rattle.std.specs.Prelude.{Bool, true, false, ◌&&◌, ◌==◌, nat_le, if◌then◌else◌, ℤ, map, Option, Some, None, slice_get, slice_index_or}
use Rattle.std.proofs.lemmas.Option.{slice_get-get_or}
use Rattle.engine_laws.proofs.ListLemmas.{item_at}
use mathlib.Core.Logic.{dite}
use native.Mathlib.Decide.{ℕ_discrete}
use Rattle.std.proofs.lemmas.List.{length-map, length-reverse}
use Rattle.engine_model.specs.Items as engine
use Rattle.engine_model.specs.Items.{Piece, Settled, Blank, newest}
use Rattle.engine_model.specs.Cycle.{has_piece, force, is_held}
use Rattle.engine_model.specs.Mixed.{is_block, newest_samples}
use Rattle.piece_item.specs.declared.item.Item.{Item}
use Rattle.piece_item.specs.Views.{item_of, kind_of}
use Rattle.disk_ring.specs.Receiver.{Receiver}
use Rattle.play_window.specs.Offers.{Offered, kinds, last_generation, last_next, AreInOrder, is_later, is_piece_of, is_passed, last_given, piece_of}
use Rattle.play_window.specs.WindowState.{IsNoEarlier}
use Rattle.play_window.specs.Laws.{Shows}
use Rattle.play_window.proofs.BoxLemmas.{unless}
use Rattle.play_window.proofs.GivenLemmas.{passed_is}
use Rattle.play_window.proofs.ShowLemmas.{windows_show_the_newest}
use Rattle.track_playback.specs.declared.playback.SpareBox.{SpareBox}
use Rattle.track_playback.specs.declared.playback.SpareBox.TheVariants.{Husk, Held, Lent}
use Rattle.track_playback.specs.declared.playback.TrackPlayback.{TrackPlayback}
use Rattle.track_playback.specs.declared.play_position.PlayPosition.{PlayPosition}
use Rattle.track_playback.specs.SpareBoxes.{held, received_items, received_kinds, offers}
use Rattle.track_playback.specs.Heard.{IsStillHeld, IsHeard, AreHeard}

abbrev kinds_of : List engine.Item → List engine.Kind
kinds_of items = map (λ x. x.kind) items

-- ---- the samples of the piece that a window shows

abbrev pub samples_in : Option engine.Item → List ℤ
samples_in None = []
samples_in (Some item) = item.samples

-- an offer gives a block that isn't passed where it is a piece of the block
gives_is : (g s h n : ℕ) (k : engine.Kind) → is_later h k ≡ false → IsNoEarlier h n g s → (h == g && nat_le n s && is_piece_of g s k) ≡ is_block g s k
gives_is g s h n Blank now from = grind arith
gives_is g s h n (Settled j i r) now from = grind arith
gives_is g s h n (Piece t i r p) now from = dite (ℕ_discrete i g)
    (λ same. grind (arith, same, now, from.generation, from.block))
    (λ other. grind (arith, other))

-- what is no earlier than the offer is no earlier than the last one before it
since : (h n i m g s : ℕ) → h ≤ i → (h ≡ i → n ≤ m) → IsNoEarlier i m g s → IsNoEarlier h n g s
since h n i m g s low within from = record {
  generation = omega (arith, from.generation);
  block = λ e. omega (arith, from.generation, from.block (omega (arith, from.generation)), within (omega (arith, from.generation)));
}

one_more : (test block : Bool) (item : engine.Item) (found : Option engine.Item) (samples : List ℤ) → test ≡ block → samples_in found ≡ samples
    → samples_in (if test then Some item else found) ≡ (if block then item.samples else samples)
one_more true true item found samples same rest = refl
one_more false false item found samples same rest = rest
one_more true false item found samples same rest = absurd cc
one_more false true item found samples same rest = absurd cc

given_samples : (depth g s : ℕ) (given : List Offered) → AreInOrder depth given → IsNoEarlier (last_generation given) (last_next given) g s
    → samples_in (last_given g s given) ≡ newest_samples g s (map (λ o. o.item) given)
given_samples depth g s [] order from = refl
given_samples depth g s (o ∷ given) order from = one_more (o.generation == g && nat_le o.next s && is_piece_of g s o.item.kind) (is_block g s o.item.kind) o.item (last_given g s given)
    (newest_samples g s (map (λ o. o.item) given)) (gives_is g s o.generation o.next o.item.kind order.0.now from)
    (given_samples depth g s given order.1 (since (last_generation given) (last_next given) o.generation o.next g s order.0.generation order.0.next from))

shown_samples : (depth g s : ℕ) (given : List Offered) → AreInOrder depth given → IsNoEarlier (last_generation given) (last_next given) g s
    → samples_in (piece_of g s given) ≡ newest_samples g s (map (λ o. o.item) given)
shown_samples depth g s given order from = ap samples_in (unless (is_passed g s given) None (last_given g s given) (passed_is depth g s given order from.generation ∙ grind (arith, from.block)))
    ∙ given_samples depth g s given order from

-- ---- a held item is no piece that is played, and no mark in force

held_gives_none : (depth g s : ℕ) (k : engine.Kind) → 0 < depth → is_held depth g s k ≡ true → is_block g s k ≡ false
held_gives_none depth g s (Piece t h r p) some still = grind (arith, some, still)
held_gives_none depth g s (Settled j h r) some still = refl
held_gives_none depth g s Blank some still = refl

held_has_none : (depth g s : ℕ) (k : engine.Kind) (xs : List engine.Kind) → 0 < depth → is_held depth g s k ≡ true → has_piece g s (k ∷ xs) ≡ has_piece g s xs
held_has_none depth g s (Piece t h r p) xs some still = grind (arith, some, still)
held_has_none depth g s (Settled j h r) xs some still = refl
held_has_none depth g s Blank xs some still = refl

held_is_not_newest : (depth g s : ℕ) (k : engine.Kind) (xs : List engine.Kind) → 0 < depth → is_held depth g s k ≡ true → newest g s (k ∷ xs) ≡ newest g s xs
held_is_not_newest depth g s (Piece t h r p) xs some still = grind (arith, some, still)
held_is_not_newest depth g s (Settled j h r) xs some still = refl
held_is_not_newest depth g s Blank xs some still = refl

held_is_not_in_force : (depth g s : ℕ) (k : engine.Kind) (xs : List engine.Kind) → is_held depth g s k ≡ true → force g s (k ∷ xs) ≡ force g s xs
held_is_not_in_force depth g s (Piece t h r p) xs still = refl
held_is_not_in_force depth g s (Settled j h r) xs still = grind (arith, still)
held_is_not_in_force depth g s Blank xs still = refl

-- so it may be left out of what was received
record SaysTheSame (g s : ℕ) (xs ys : List engine.Item) : Type 0 where
  has : has_piece g s (kinds_of xs) ≡ has_piece g s (kinds_of ys)
  newest : newest g s (kinds_of xs) ≡ newest g s (kinds_of ys)
  force : force g s (kinds_of xs) ≡ force g s (kinds_of ys)
  samples : newest_samples g s xs ≡ newest_samples g s ys

but_held : (at : PlayPosition) (spare : SpareBox) (xs : List engine.Item) → 0 < at.depth → IsStillHeld at spare → SaysTheSame at.generation at.next (held spare ++ xs) xs
but_held at (Husk box) xs some still = record { has = refl; newest = refl; force = refl; samples = refl }
but_held at (Held box) xs some still = let k = kind_of box.value.kind in record {
  has = held_has_none at.depth at.generation at.next k (kinds_of xs) some still;
  newest = held_is_not_newest at.depth at.generation at.next k (kinds_of xs) some still;
  force = held_is_not_in_force at.depth at.generation at.next k (kinds_of xs) still;
  samples = ap (λ b. if b then box.value.samples.items else newest_samples at.generation at.next xs) (held_gives_none at.depth at.generation at.next k some still);
}
but_held at Lent xs some still = absurd still

-- ---- a track

-- how many kinds were received
pub kinds_received : (r : Receiver Item) → length (received_kinds r) ≡ length r.received
kinds_received r = length-map (received_items r) (λ x. x.kind) ∙ length-reverse (map item_of r.received) ∙ length-map r.received item_of

kinds_are : (given : List Offered) → kinds given ≡ kinds_of (map (λ o. o.item) given)
kinds_are [] = refl
kinds_are (o ∷ given) = ap (λ l. o.item.kind ∷ l) (kinds_are given)

module _ (at : PlayPosition) (r : Receiver Item) (d : TrackPlayback) (some : 0 < at.depth) (is : IsHeard at r d) where
  abbrev given : List Offered
  given = is.played.shows.given

  same : SaysTheSame at.generation at.next (received_items r) (map (λ o. o.item) given)
  same = subst (λ xs. SaysTheSame at.generation at.next (received_items r) xs) (sym is.played.shows.items)
      (subst (λ xs. SaysTheSame at.generation at.next xs (offers r d.spare)) (sym is.played.last) (but_held at d.spare (offers r d.spare) some is.held))

  late : IsNoEarlier (last_generation given) (last_next given) at.generation at.next
  late = let w = is.played.shows.window in let until = is.played.until in
      record { generation = omega (arith, w.generation, until.generation); block = λ e. omega (arith, w.next, until.block (w.generation ∙ e)) }

  -- the marks in force
  pub settled_by_all : (n : ℕ) → n ≡ force at.generation at.next (kinds given) → n ≡ force at.generation at.next (received_kinds r)
  settled_by_all n e = e ∙ ap (force at.generation at.next) (kinds_are given) ∙ sym same.force

  -- whether there is a piece
  pub there_by_all : (there : Bool) → there ≡ has_piece at.generation at.next (kinds given) → there ≡ has_piece at.generation at.next (received_kinds r)
  there_by_all there e = e ∙ ap (has_piece at.generation at.next) (kinds_are given) ∙ sym same.has

  -- the piece
  pub shown_by_all : (found : Option engine.Item) → found ≡ piece_of at.generation at.next given
      → Shows at.generation at.next (has_piece at.generation at.next (received_kinds r)) (newest at.generation at.next (received_kinds r)) found
  shown_by_all found e = subst (λ o. Shows at.generation at.next (has_piece at.generation at.next (received_kinds r)) (newest at.generation at.next (received_kinds r)) o) (sym e)
      (subst (λ (b : Bool). Shows at.generation at.next b (newest at.generation at.next (received_kinds r)) (piece_of at.generation at.next given))
      (ap (has_piece at.generation at.next) (kinds_are given) ∙ sym same.has)
      (subst (λ (n : ℕ). Shows at.generation at.next (has_piece at.generation at.next (kinds given)) n (piece_of at.generation at.next given))
      (ap (newest at.generation at.next) (kinds_are given) ∙ sym same.newest)
      (windows_show_the_newest d.window.depth at.generation at.next given is.played.shows.window.order late)))

  -- its samples
  pub samples_by_all : (found : Option engine.Item) → found ≡ piece_of at.generation at.next given → newest_samples at.generation at.next (received_items r) ≡ samples_in found
  samples_by_all found e = same.samples ∙ sym (shown_samples d.window.depth at.generation at.next given is.played.shows.window.order late) ∙ ap samples_in (sym e)

  -- how many items were received
  pub tail_is : d.tail ≡ length (received_kinds r)
  tail_is = is.played.tail ∙ sym (kinds_received r)

-- ---- all tracks

-- a track by its playback, with what was received of it
pub record HasRing (at : PlayPosition) (plays : List (Receiver Item)) (playbacks : List TrackPlayback) (t : ℕ) (d : TrackPlayback) : Type 0 where
  pub ring : Receiver Item
  pub there : slice_get plays t ≡ Some ring
  pub heard : IsHeard at ring d

pub ring_of : (at : PlayPosition) (plays : List (Receiver Item)) (playbacks : List TrackPlayback) (t : ℕ) (d : TrackPlayback) → AreHeard at plays playbacks → t < length playbacks → d ≡ slice_index_or playbacks t d → HasRing at plays playbacks t d
ring_of at plays playbacks t d all lt is = let r = item_at plays t (omega (arith, all.count)) in
    record { ring = r.0; there = r.1; heard = all.each t r.0 d r.1 (slice_get-get_or playbacks t d lt ∙ ap Some (sym is)) }

-- a track by what was received of it
pub heard_at : (at : PlayPosition) (plays : List (Receiver Item)) (playbacks : List TrackPlayback) (t : ℕ) (r : Receiver Item) (d : TrackPlayback)
    → AreHeard at plays playbacks → t < length playbacks → slice_get plays t ≡ Some r → IsHeard at r (slice_index_or playbacks t d)
heard_at at plays playbacks t r d all lt there = all.each t r (slice_index_or playbacks t d) there (slice_get-get_or playbacks t d lt)
