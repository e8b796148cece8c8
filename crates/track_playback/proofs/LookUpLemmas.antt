-- A look ends a track's look-up, as the definitions of the engine have it.
use Rattle.std.proofs.Common.{inl, inr, ℕ, ◌<◌, ◌≤◌, List, [], ◌∷◌, length, ap, ◌∙◌, sym, subst, slice_index_or, arith}
use Rattle.std.specs.Prelude.{map, reverse}
use Rattle.std.proofs.lemmas.List.{reverse-append}
use Rattle.std.proofs.lemmas.Option.{get_or_from_slice_get, slice_get_within}
use Rattle.engine_laws.specs.MadeLaws.{HasLookedUp}
use Rattle.engine_laws.proofs.ListLemmas.{item_at}
use Rattle.piece_item.specs.declared.item.Item.{Item}
use Rattle.piece_item.specs.Views.{kind_of}
use Rattle.disk_ring.specs.Receiver.{Receiver}
use Rattle.track_playback.specs.declared.playback.SpareBox.{SpareBox}
use Rattle.track_playback.specs.declared.playback.SpareBox.TheVariants.{Husk, Held, Lent}
use Rattle.track_playback.specs.declared.playback.TrackPlayback.{TrackPlayback}
use Rattle.track_playback.specs.declared.play_position.PlayPosition.{PlayPosition}
use Rattle.track_playback.specs.Answers.{HaveLookedUp}
use Rattle.track_playback.specs.SpareBoxes.{received_kinds, offers, HoldsTheLast}
use Rattle.track_playback.specs.Looks.{EndsWith}
use Rattle.track_playback.proofs.HeardLemmas.{kinds_received}
use Rattle.track_playback.proofs.PlaybacksLemmas.{LookedBelow}

-- one track: the look noted the number received, or the newest item is held
ends_look_up : (at : PlayPosition) (a b : Receiver Item) (spare : SpareBox) → HoldsTheLast b spare → EndsWith at a b spare
    → HasLookedUp at.depth at.generation at.next (received_kinds b) (reverse a.tails) (reverse b.tails)
ends_look_up at a b (Husk box) last ends = inl (ap reverse ends ∙ reverse-append a.tails (length b.received ∷ []) ∙ ap (λ n. n ∷ reverse a.tails) (sym (kinds_received b)))
ends_look_up at a b (Held box) last ends =
    inr (kind_of box.value.kind, map (λ x. x.kind) (offers b (Held box)), ap (map (λ x. x.kind)) last, ends.0, ap reverse ends.1)
ends_look_up at a b Lent last ends = absurd ends

-- all tracks
pub all_looked_up : (at : PlayPosition) (a : List (Receiver Item)) (d : List TrackPlayback) (b : List (Receiver Item)) (e : List TrackPlayback) (n : ℕ)
    → LookedBelow at a d b e n → length a ≤ n → n ≤ length d → HaveLookedUp at a b
all_looked_up at a d b e n below whole within t x y was is =
    let lt : t < n = omega (arith, slice_get_within a t x was, whole) in
    let k = item_at d t (omega (arith, lt, within)) in
    let looks = below.looked t x k.0 lt in
    let one = ends_look_up at (slice_index_or a t x) (slice_index_or b t x) (slice_index_or e t k.0).spare looks.last looks.ends in
    subst (λ r. HasLookedUp at.depth at.generation at.next (received_kinds y) (reverse r.tails) (reverse y.tails)) (get_or_from_slice_get a t x x was)
    (subst (λ r. HasLookedUp at.depth at.generation at.next (received_kinds r) (reverse (slice_index_or a t x).tails) (reverse r.tails)) (get_or_from_slice_get b t y x is) one)
