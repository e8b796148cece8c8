-- The rings that the ends of a run become.
use Rattle.std.proofs.Common.{◌≡◌, ℕ, zero, suc, List, [], ◌∷◌, length, refl, sym, ap, subst, ◌∙◌, arith}
use Rattle.std.specs.Prelude.{map, slice_get, Some}
use Rattle.std.proofs.lemmas.List.Elements.{All-head, All-tail}
use Rattle.std.proofs.lemmas.Option.{none-some, same_Some}
use Rattle.disk_ring.specs.Sender.{Sender}
use Rattle.disk_ring.specs.Receiver.{Receiver}
use Rattle.disk_ring.specs.Rings.{Whole, joined_of}
use Rattle.piece_item.specs.declared.item.Item.{Item}
use Rattle.piece_item.specs.declared.take_block.TakeBlock.{TakeBlock}
use Rattle.run_rings.specs.declared.joining.TrackRings.{TrackRings}
use Rattle.run_rings.specs.Rings.{AllWhole, joined_all}
use Rattle.track_playback.specs.SpareBoxes.{received_kinds}
use Rattle.worker_pair.proofs.LookLemmas.{kinds_turned}
use Rattle.run_end.specs.Passed.{kinds_received}

module _ (a : List (Sender Item)) (b : List (Receiver Item)) (c : List (Sender TakeBlock)) (d : List (Receiver TakeBlock)) where
  -- the ends of the rings of track t
  pub record Joints (t : ℕ) (r : TrackRings) : Type 0 where
    pub send : Sender Item
    pub play : Receiver Item
    pub capture : Sender TakeBlock
    pub flush : Receiver TakeBlock
    pub send_at : slice_get a t ≡ Some send
    pub play_at : slice_get b t ≡ Some play
    pub capture_at : slice_get c t ≡ Some capture
    pub flush_at : slice_get d t ≡ Some flush
    pub is : r ≡ record { plays = joined_of send play; takes = joined_of capture flush }

pub joints : (a : List (Sender Item)) (b : List (Receiver Item)) (c : List (Sender TakeBlock)) (d : List (Receiver TakeBlock)) (t : ℕ) (r : TrackRings) → slice_get (joined_all a b c d) t ≡ Some r → Joints a b c d t r
joints [] b c d t r here = absurd (none-some r here)
joints (x ∷ a) [] c d t r here = absurd (none-some r here)
joints (x ∷ a) (y ∷ b) [] d t r here = absurd (none-some r here)
joints (x ∷ a) (y ∷ b) (z ∷ c) [] t r here = absurd (none-some r here)
joints (x ∷ a) (y ∷ b) (z ∷ c) (w ∷ d) zero r here = record {
  send = x;
  play = y;
  capture = z;
  flush = w;
  send_at = refl;
  play_at = refl;
  capture_at = refl;
  flush_at = refl;
  is = sym (same_Some (record { plays = joined_of x y; takes = joined_of z w }) r here);
}
joints (x ∷ a) (y ∷ b) (z ∷ c) (w ∷ d) (suc t) r here = let rest = joints a b c d t r here in record {
  send = rest.send;
  play = rest.play;
  capture = rest.capture;
  flush = rest.flush;
  send_at = rest.send_at;
  play_at = rest.play_at;
  capture_at = rest.capture_at;
  flush_at = rest.flush_at;
  is = rest.is;
}

-- as many as there are tracks
pub as_many_joined : (a : List (Sender Item)) (b : List (Receiver Item)) (c : List (Sender TakeBlock)) (d : List (Receiver TakeBlock)) → length b ≡ length a → length c ≡ length a → length d ≡ length a →
    length (joined_all a b c d) ≡ length a
as_many_joined [] b c d p q r = refl
as_many_joined (x ∷ a) [] c d p q r = absurd (omega (arith, p))
as_many_joined (x ∷ a) (y ∷ b) [] d p q r = absurd (omega (arith, q))
as_many_joined (x ∷ a) (y ∷ b) (z ∷ c) [] p q r = absurd (omega (arith, r))
as_many_joined (x ∷ a) (y ∷ b) (z ∷ c) (w ∷ d) p q r = omega (arith, as_many_joined a b c d (omega (arith, p)) (omega (arith, q)) (omega (arith, r)))

-- what was received is what the ends that take received
pub received_joined : (a : List (Sender Item)) (b : List (Receiver Item)) (c : List (Sender TakeBlock)) (d : List (Receiver TakeBlock)) → length b ≡ length a → length c ≡ length a → length d ≡ length a →
    map kinds_received (joined_all a b c d) ≡ map received_kinds b
received_joined [] [] c d p q r = refl
received_joined [] (y ∷ b) c d p q r = absurd (omega (arith, p))
received_joined (x ∷ a) [] c d p q r = absurd (omega (arith, p))
received_joined (x ∷ a) (y ∷ b) [] d p q r = absurd (omega (arith, q))
received_joined (x ∷ a) (y ∷ b) (z ∷ c) [] p q r = absurd (omega (arith, r))
received_joined (x ∷ a) (y ∷ b) (z ∷ c) (w ∷ d) p q r = ap (λ k. k ∷ map kinds_received (joined_all a b c d)) (sym (kinds_turned y.received))
    ∙ ap (λ l. received_kinds y ∷ l) (received_joined a b c d (omega (arith, p)) (omega (arith, q)) (omega (arith, r)))

-- each ring is whole
pub whole_at : (rings : List TrackRings) → AllWhole rings → (t : ℕ) (r : TrackRings) → slice_get rings t ≡ Some r → Whole r.plays × Whole r.takes
whole_at [] all t r here = absurd (none-some r here)
whole_at (x ∷ xs) all zero r here = subst (λ (z : TrackRings). Whole z.plays × Whole z.takes) (same_Some x r here) (All-head (λ (z : TrackRings). Whole z.plays × Whole z.takes) x xs all)
whole_at (x ∷ xs) all (suc t) r here = whole_at xs (All-tail (λ (z : TrackRings). Whole z.plays × Whole z.takes) x xs all) t r here
