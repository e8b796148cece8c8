-- What is so of the ends of new rings, for the workers that get them.
use Rattle.std.proofs.Common.{◌≡◌, ℕ, List, [], length, refl, sym, ap, subst, arith}
use Rattle.std.specs.Prelude.{false, map, reverse, slice_get, slice_index_or, Some}
use Rattle.std.proofs.lemmas.Bool.{false≢true}
use Rattle.std.proofs.lemmas.Option.{slice_get_within, get_or_from_slice_get}
use Rattle.session_model.specs.declared.session.Session.{Session}
use Rattle.machine_model.specs.Core.{idle_track}
use Rattle.disk_ring.specs.Sender.{Sender}
use Rattle.disk_ring.specs.Receiver.{Receiver}
use Rattle.piece_item.specs.declared.item.Item.{Item}
use Rattle.piece_item.specs.declared.take_block.TakeBlock.{TakeBlock}
use Rattle.read_ahead.specs.Items.{kinds}
use Rattle.process_ends.specs.Ends.{AreNew, IsNewIn, IsNewOut, block_of}
use Rattle.run_rings.specs.declared.run_ends.RunEnds.{RunEnds}
use Rattle.run_rings.specs.Laws.{AreNewForButler}
use Rattle.run_rings.specs.Rings.{AreNewRunEnds, EachHasARing, IsRing}
use Rattle.run_rings.proofs.LawLemmas.{in_there, new_fit, out_there}
use Rattle.worker_pair.specs.Met.{AllKnow, HaveMet, KnowEachOther}
use Rattle.worker_pair.specs.Never.{NothingIsTaken}
use Rattle.worker_pair.specs.Tied.{captured_of, IsTrackOf}

-- the two ends of a new ring know all of each other
know_new : {T : Type 0} (depth samples : ℕ) (a : Sender T) (b : Receiver T) → IsRing depth samples a b → KnowEachOther a b
know_new {T} depth samples a b is = subst (λ (z : Sender T). KnowEachOther z b) (sym is.new.sender)
    (subst (λ (z : Receiver T). KnowEachOther (record { ring = a.ring; depth = depth; room = a.room; sent = []; closed = false; heads = []; got = 0 }) z) (sym is.new.receiver)
    (record { got = refl; heard = refl; over = refl; depth = refl; passed = record { begins = ([], refl); all = λ ended. absurd (false≢true ended); within = omega arith; small = omega arith } }))

-- and so do those of all tracks
all_know : {T : Type 0} (s : Session) (a : List (Sender T)) (b : List (Receiver T)) → EachHasARing s a b → AllKnow a b
all_know {T} s a b all t x y hx hy = know_new s.depth (block_of s t) x y
    (subst (λ (z : Sender T). IsRing s.depth (block_of s t) z y) (get_or_from_slice_get a t x x hx)
    (subst (λ (z : Receiver T). IsRing s.depth (block_of s t) (slice_index_or a t x) z) (get_or_from_slice_get b t y y hy)
    (all.2 t x y (omega (arith, slice_get_within a t x hx, all.0)))))

module _ (s : Session) (w : RunEnds) (new : AreNewRunEnds s w) where
  -- the tracks
  abbrev many : ℕ
  many = length s.tracks.items

  -- the ends of new rings have met
  pub met_first : HaveMet w.process w.butler
  met_first = record {
    plays = all_know s w.butler.sends.items w.process.plays.items new.items;
    takes = all_know s w.process.takes.items w.butler.takes.items new.takes;
    acks = know_new s.depth 0 w.process.to_butler w.butler.acks new.to_butler;
  }

  -- of a track: the butler's end that puts,
  send_first : (t : ℕ) (d : Sender Item) → slice_get w.butler.sends.items t ≡ Some d → IsNewIn s.depth (block_of s t) d
  send_first = (new_fit s w new).serving.each

  -- the process's that takes,
  play_first : (t : ℕ) (r : Receiver Item) → slice_get w.process.plays.items t ≡ Some r → IsNewOut s.depth (block_of s t) r
  play_first = out_there s many w.butler.sends.items w.process.plays.items new.items w.process.to_butler

  -- the one that puts the blocks of its takes,
  take_first : (t : ℕ) (k : Sender TakeBlock) → slice_get w.process.takes.items t ≡ Some k → IsNewIn s.depth (block_of s t) k
  take_first = in_there s many w.process.takes.items w.butler.takes.items new.takes

  -- and the butler's that takes them
  flush_first : (t : ℕ) (f : Receiver TakeBlock) → slice_get w.butler.takes.items t ≡ Some f → IsNewOut s.depth (block_of s t) f
  flush_first = (new_fit s w new).serving.each_capture

  -- its end of the acknowledgements, and control's
  pub acks_first : IsNewOut s.depth 0 w.butler.acks
  acks_first = (new_fit s w new).serving.acks

  pub control_first : IsNewOut s.depth 0 w.acks
  control_first = (new_fit s w new).hearing

  -- nothing was captured
  pub no_take_first : NothingIsTaken w.process.takes.items
  no_take_first t d here = let is = take_first t d here in record { sent = is.sent; heads = is.heads }

  -- what the process may begin with,
  pub new_for_process : AreNew s w.process
  new_for_process = (new_fit s w new).process

  -- and the butler
  pub new_for_butler : AreNewForButler s w.butler
  new_for_butler = (new_fit s w new).serving

  -- each track is as the machine has it at first
  pub tracks_first : (t : ℕ) (d : Sender Item) (r : Receiver Item) (k : Sender TakeBlock) (f : Receiver TakeBlock) → slice_get w.butler.sends.items t ≡ Some d →
      slice_get w.process.plays.items t ≡ Some r → slice_get w.process.takes.items t ≡ Some k → slice_get w.butler.takes.items t ≡ Some f → IsTrackOf idle_track d r k f
  tracks_first t d r k f hd hr hk hf = let sends = send_first t d hd in let plays = play_first t r hr in let takes = take_first t k hk in let flushes = flush_first t f hf in record {
    sent = sym (ap (λ (l : List Item). reverse (kinds l)) sends.sent);
    received = sym (ap (λ (l : List Item). length l) plays.received);
    tails = sym (ap (λ (l : List ℕ). reverse l) plays.tails);
    put = sym (ap (λ (l : List TakeBlock). reverse (map captured_of l)) takes.sent);
    flushed = sym (ap (λ (l : List TakeBlock). length l) flushes.received);
    heads = sym (ap (λ (l : List ℕ). reverse l) takes.heads);
    taking = refl;
  }
