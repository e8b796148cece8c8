-- A meeting changes only what ends were told.
use Rattle.std.proofs.Common.{◌≡◌, ℕ, List, [], length, get_or, sym, ap, ◌∙◌, subst, arith, inl, inr}
use Rattle.std.proofs.Math.Path.{fun_ext}
use Rattle.std.specs.Prelude.{Option, Some, None, map, slice_get, All, Box, IsSomeAnd}
use Rattle.std.specs.Option.{option_map_or}
use Rattle.std.specs.Global.{Global}
use Rattle.std.proofs.lemmas.Option.{slice_get_within, slice_get-get_or, slice_get_cases, slice_get_past}
use Rattle.engine_model.specs.Played.{samples_of, IsGenuine}
use Rattle.audio_source.specs.Told.{source_sound}
use Rattle.disk_ring.specs.Sender.{Sender}
use Rattle.disk_ring.specs.Receiver.{Receiver}
use Rattle.piece_item.specs.declared.item.Item.{Item}
use Rattle.piece_item.specs.declared.ack.Ack.{Ack}
use Rattle.piece_item.specs.declared.butler_ends.ButlerEnds.{ButlerEnds}
use Rattle.piece_item.specs.declared.take_block.TakeBlock.{TakeBlock}
use Rattle.piece_item.specs.Views.{item_of}
use Rattle.ring_meeting.specs.Told.{AreTold}
use Rattle.capture_flush.specs.Blocks.{Block, block_of}
use Rattle.capture_flush.specs.Flushed.{IsFlushed, IsFlushedInPart}
use Rattle.read_ahead.specs.declared.supply.TrackSupply.{TrackSupply}
use Rattle.read_ahead.specs.Serves.{HasSpare}
use Rattle.capture_drain.specs.State.{DrainState, Fits}
use Rattle.capture_drain.specs.Files.{blocks_at}
use Rattle.butler.specs.Sends.{acks_of}
use Rattle.butler.specs.Table.{IsTable}
use Rattle.butler.specs.Serving.{AreStocked, IsTended}
use Rattle.butler.specs.Laws.{MeetingKeeps}

-- a box that fits a ring fits one of the same room
pub fits_as : (p : TrackSupply) (d f : Sender Item) → f.room ≡ d.room → HasSpare p d → HasSpare p f
fits_as p d f same has = record { spare = subst (λ (n : ℕ). IsSomeAnd p.spare (λ (b : Box Item Global). length b.value.samples.items ≡ n)) (sym same) has.spare }

-- the same was received of each track
pub blocks_same : (olds news : List (Receiver TakeBlock)) → length news ≡ length olds →
    ((t : ℕ) (c b : Receiver TakeBlock) → slice_get olds t ≡ Some c → slice_get news t ≡ Some b → b.received ≡ c.received) → blocks_at news ≡ blocks_at olds
blocks_same olds news many same = fun_ext (λ t. at t) where
  F : Option (Receiver TakeBlock) → List Block
  F r = option_map_or (λ r. map block_of r.received) r []

  at : (t : ℕ) → blocks_at news t ≡ blocks_at olds t
  at t = elim (slice_get_cases news t).1 [
    | inl found ↦ (let near = found.1 in let c = get_or olds t found.0 in let hc : slice_get olds t ≡ Some c = slice_get-get_or olds t found.0 (omega arith) in
        ap F found.2 ∙ ap (map block_of) (same t c found.0 hc found.2) ∙ sym (ap F hc))
    | inr past ↦ (let far = past.0 in let gone : slice_get olds t ≡ None = slice_get_past olds t (omega arith) in ap F past.1 ∙ sym (ap F gone))
  ]

-- whether the acknowledgements have ended stays
pub ended_told : (old new : ButlerEnds) → AreTold old new → old.acks.ended ≡ new.acks.ended
ended_told old new told = sym (ap (λ (a : Receiver Ack). a.ended) told.acks)

-- the boxes fit the rings still
pub stocked_told : (supplies : List TrackSupply) (drain : DrainState) (old new : ButlerEnds) → AreTold old new → AreStocked supplies drain old → AreStocked supplies drain new
stocked_told supplies drain old new told stocked = record {
  many = stocked.many ∙ sym told.many;
  each = λ t p f hp hf. let near = slice_get_within new.sends.items t f hf in let d = get_or old.sends.items t f in let hd = slice_get-get_or old.sends.items t f (omega (arith, told.many)) in
      fits_as p d f (ap (λ (z : Sender Item). z.room) (told.sends t d f hd hf)) (stocked.each t p d hp hd);
  takes = record {
    many = stocked.takes.many ∙ sym told.captures;
    each = λ t k b hk hb. let near = slice_get_within new.takes.items t b hb in let c = get_or old.takes.items t b in let hc = slice_get-get_or old.takes.items t b (omega (arith, told.captures)) in
        subst (Fits k) (sym (told.takes t c b hc hb)) (let fits = stocked.takes.each t k c hk hc in record { husk = fits.husk; ended = fits.ended });
  };
}

pub meeting_keeps : {V : Type 0} → MeetingKeeps V
meeting_keeps s edits r old new told = let many = told.many in let captured = told.captures in record {
  serving = λ is. record {
    valid = is.valid;
    entered = is.entered;
    sends = told.many ∙ is.sends;
    takes = told.captures ∙ is.takes;
    supplies = is.supplies;
    sources = is.sources;
    room = is.room;
    some_cycle = is.some_cycle;
    cycles = is.cycles;
    acks_room = ap (λ (a : Receiver Ack). a.room) told.acks ∙ is.acks_room;
    table = subst (λ (a : Receiver Ack). IsTable r.nexts (acks_of a.received)) (sym told.acks) is.table;
    tracks = λ t p f hp hf. let near = slice_get_within new.sends.items t f hf in let d = get_or old.sends.items t f in let hd = slice_get-get_or old.sends.items t f (omega arith) in
        let tended = is.tracks t p d hp hd in
        subst (λ (a : Receiver Ack). IsTended s edits r.cycles t (acks_of a.received) r.hushed p f) (sym told.acks)
        (subst (IsTended s edits r.cycles t (acks_of old.acks.received) r.hushed p) (sym (told.sends t d f hd hf))
        record { depth = tended.depth; room = tended.room; closed = tended.closed; stands = tended.stands; made = tended.made });
    taking = is.taking;
  };
  stocked = stocked_told r.supplies r.drain old new told;
  true_to = λ files is. record {
    lines = is.lines;
    sent = λ t f hf. let near = slice_get_within new.sends.items t f hf in let d = get_or old.sends.items t f in let hd = slice_get-get_or old.sends.items t f (omega arith) in
        subst (λ (z : Sender Item). All (λ (item : Item). IsGenuine s edits (samples_of (source_sound files r.sources.opened) s edits) (item_of item)) z.sent) (sym (told.sends t d f hd hf)) (is.sent t d hd);
    made = is.made;
  };
  takes = λ run files is. subst (λ (blocks : ℕ → List Block). IsFlushed (record { session = run.session; held = run.held; blocks = blocks }) r.drain.files files)
      (sym (blocks_same old.takes.items new.takes.items told.captures (λ t c b hc hb. ap (λ (z : Receiver TakeBlock). z.received) (told.takes t c b hc hb)))) is;
  in_part = λ run files is. subst (λ (blocks : ℕ → List Block). IsFlushedInPart (record { session = run.session; held = run.held; blocks = blocks }) files)
      (sym (blocks_same old.takes.items new.takes.items told.captures (λ t c b hc hb. ap (λ (z : Receiver TakeBlock). z.received) (told.takes t c b hc hb)))) is;
}
