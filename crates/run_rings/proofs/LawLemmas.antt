-- What the ends of new rings are to those that get them.
use Rattle.std.proofs.Common.{◌≡◌, ℕ, ◌<◌, false, List, [], length, sym, ap, subst, arith, ◌∙◌}
use Rattle.std.specs.Prelude.{slice_get, slice_index_or, Some}
use Rattle.std.proofs.lemmas.Option.{slice_get_within, get_or_from_slice_get}
use Rattle.session_model.specs.declared.session.Session.{Session}
use Rattle.disk_ring.specs.Sender.{Sender}
use Rattle.disk_ring.specs.Receiver.{Receiver}
use Rattle.process_ends.specs.Ends.{block_of, IsNewIn, IsNewOut, AreOfOneRing}
use Rattle.run_rings.specs.Rings.{IsRing, AreRings}
use Rattle.run_rings.specs.Laws.{NewEndsFit}

-- ---- one ring

module _ {T : Type 0} (depth samples : ℕ) (a : Sender T) (b : Receiver T) (is : IsRing depth samples a b) where
  pub new_in : IsNewIn depth samples a
  new_in = let whole = is.new.sender in record {
    depth = ap (λ k. k.depth) whole;
    room = is.room;
    sent = ap (λ k. k.sent) whole;
    heads = ap (λ k. k.heads) whole;
    closed = ap (λ k. k.closed) whole;
  }

  pub new_out : IsNewOut depth samples b
  new_out = let whole = is.new.receiver in record {
    depth = ap (λ k. k.depth) whole;
    room = ap (λ k. k.room) whole ∙ is.room;
    received = ap (λ k. k.received) whole;
    tails = ap (λ k. k.tails) whole;
    ended = ap (λ k. k.ended) whole;
  }

  pub one_ring : b.ring ≡ a.ring
  one_ring = ap (λ k. k.ring) is.new.receiver

-- ---- those of all tracks

-- some end of any items, to read lists by
some_sender : {S T : Type 0} → Sender S → Sender T
some_sender a = record { ring = a.ring; depth = 0; room = 0; sent = []; closed = false; heads = []; got = 0 }

some_receiver : {S T : Type 0} → Sender S → Receiver T
some_receiver a = record { ring = a.ring; depth = 0; room = 0; received = []; tails = []; ended = false; heard = []; over = false }

module _ {T : Type 0} (s : Session) (many : ℕ) (a : List (Sender T)) (b : List (Receiver T)) (all : AreRings s many a b) where
  pub each_in : {S : Type 0} → Sender S → (t : ℕ) (x : Sender T) → t < many → IsNewIn s.depth (block_of s t) (slice_index_or a t x)
  each_in d t x within = let y : Receiver T = some_receiver d in
      new_in s.depth (block_of s t) (slice_index_or a t x) (slice_index_or b t y) (all.2 t x y within)

  pub each_out : {S : Type 0} → Sender S → (t : ℕ) (y : Receiver T) → t < many → IsNewOut s.depth (block_of s t) (slice_index_or b t y)
  each_out d t y within = let x : Sender T = some_sender d in
      new_out s.depth (block_of s t) (slice_index_or a t x) (slice_index_or b t y) (all.2 t x y within)

  pub of_one_ring : AreOfOneRing a b
  of_one_ring = record {
    count = all.1 ∙ sym all.0;
    ring = λ t x y within. one_ring s.depth (block_of s t) (slice_index_or a t x) (slice_index_or b t y) (all.2 t x y (omega (arith, all.0, within)));
  }

  -- by what a list has at a place
  pub in_there : (t : ℕ) (x : Sender T) → slice_get a t ≡ Some x → IsNewIn s.depth (block_of s t) x
  in_there t x here = subst (IsNewIn s.depth (block_of s t)) (get_or_from_slice_get a t x x here) (each_in x t x (omega (arith, slice_get_within a t x here, all.0)))

  pub out_there : {S : Type 0} → Sender S → (t : ℕ) (y : Receiver T) → slice_get b t ≡ Some y → IsNewOut s.depth (block_of s t) y
  out_there d t y here = subst (IsNewOut s.depth (block_of s t)) (get_or_from_slice_get b t y y here) (each_out d t y (omega (arith, slice_get_within b t y here, all.1)))

-- ---- the run's

pub new_fit : NewEndsFit
new_fit s w new = let many = length s.tracks.items in let ours = w.process in let theirs = w.butler in let d = ours.to_butler in record {
  process = record {
    plays = new.items.1;
    takes = new.takes.0;
    each_play = each_out s many theirs.sends.items ours.plays.items new.items d;
    each_take = each_in s many ours.takes.items theirs.takes.items new.takes d;
    to_butler = new_in s.depth 0 ours.to_butler theirs.acks new.to_butler;
    to_control = new_in s.depth 0 ours.to_control w.acks new.to_control;
  };
  serving = record {
    tracks = new.items.0;
    each = in_there s many theirs.sends.items ours.plays.items new.items;
    captures = new.takes.1;
    each_capture = out_there s many ours.takes.items theirs.takes.items new.takes d;
    acks = new_out s.depth 0 ours.to_butler theirs.acks new.to_butler;
  };
  hearing = new_out s.depth 0 ours.to_control w.acks new.to_control;
  butler = record {
    plays = of_one_ring s many theirs.sends.items ours.plays.items new.items;
    takes = of_one_ring s many ours.takes.items theirs.takes.items new.takes;
    acks = one_ring s.depth 0 ours.to_butler theirs.acks new.to_butler;
  };
  control = one_ring s.depth 0 ours.to_control w.acks new.to_control;
}
