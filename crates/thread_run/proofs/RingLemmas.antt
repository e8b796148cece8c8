-- The ends that workers give back are those of the same rings.
use Rattle.std.proofs.Common.{◌≡◌, ℕ, ◌<◌, List, length, sym, ap, ◌∙◌, arith}
use Rattle.std.specs.Prelude.{slice_get, Some}
use Rattle.std.proofs.lemmas.Option.{get_or_from_slice_get}
use Rattle.engine_laws.proofs.ListLemmas.{item_at}
use Rattle.disk_ring.specs.Sender.{Sender}
use Rattle.disk_ring.specs.Receiver.{Receiver}
use Rattle.piece_item.specs.declared.butler_ends.ButlerEnds.{ButlerEnds}
use Rattle.process_ends.specs.declared.ends.ProcessEnds.{ProcessEnds}
use Rattle.process_ends.specs.Ends.{AreOfOneRing, AreOtherEnds}
use Rattle.play_worker.specs.Kept.{KeepsRings}
use Rattle.serve_worker.specs.Kept.{KeepsItsEnds}

-- lists of ends, each of the ring that it was of
one_ring_kept : {T : Type 0} (a c : List (Sender T)) (b d : List (Receiver T)) → AreOfOneRing a b → length c ≡ length a → length d ≡ length b →
    ((t : ℕ) (x y : Sender T) → slice_get a t ≡ Some x → slice_get c t ≡ Some y → y.ring ≡ x.ring) → ((t : ℕ) (x y : Receiver T) → slice_get b t ≡ Some x → slice_get d t ≡ Some y → y.ring ≡ x.ring) →
    AreOfOneRing c d
one_ring_kept {T} a c b d one many_c many_d senders receivers = record {
  count = many_d ∙ one.count ∙ sym many_c;
  ring = λ t x y within. let here : t < length a = omega (arith, within, many_c) in let x0 = item_at a t here in let x1 = item_at c t within in
      let y0 = item_at b t (omega (arith, here, one.count)) in let y1 = item_at d t (omega (arith, here, one.count, many_d)) in
      ap (λ (z : Receiver T). z.ring) (get_or_from_slice_get d t y1.0 y y1.1) ∙ receivers t y0.0 y1.0 y0.1 y1.1 ∙ sym (ap (λ (z : Receiver T). z.ring) (get_or_from_slice_get b t y0.0 y y0.1)) ∙ one.ring t x y here
      ∙ ap (λ (z : Sender T). z.ring) (get_or_from_slice_get a t x0.0 x x0.1) ∙ sym (senders t x0.0 x1.0 x0.1 x1.1) ∙ sym (ap (λ (z : Sender T). z.ring) (get_or_from_slice_get c t x1.0 x x1.1));
}

-- so they are the other ends still
pub others_kept : (ours ours_now : ProcessEnds) (theirs theirs_now : ButlerEnds) → AreOtherEnds ours theirs → KeepsRings ours ours_now → KeepsItsEnds theirs theirs_now → AreOtherEnds ours_now theirs_now
others_kept ours ours_now theirs theirs_now others kept keeps = record {
  plays = one_ring_kept theirs.sends.items theirs_now.sends.items ours.plays.items ours_now.plays.items others.plays keeps.many_sends kept.many_plays
      (λ t x y hx hy. (keeps.sends t x y hx hy).ring) (λ t x y hx hy. (kept.plays t x y hx hy).ring);
  takes = one_ring_kept ours.takes.items ours_now.takes.items theirs.takes.items theirs_now.takes.items others.takes kept.many_takes keeps.many_takes
      (λ t x y hx hy. (kept.takes t x y hx hy).ring) (λ t x y hx hy. (keeps.takes t x y hx hy).ring);
  acks = keeps.acks.ring ∙ others.acks ∙ sym kept.to_butler.ring;
}
