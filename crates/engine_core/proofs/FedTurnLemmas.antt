-- A turn of the butler in a run without letters, while no read of the media has failed: what it sends isn't held, so the run is fed still.
use Rattle.std.proofs.Common.{◌≡◌, inl, inr, ℕ, ◌<◌, ◌≤◌, List, ◌++◌, length, sym, ap, subst, arith, ◌∙◌, le_antisymm}
use Rattle.std.specs.Prelude.{Bool, true, false, reverse, slice_get, Some, Result, Ok, Err}
use Rattle.std.proofs.lemmas.Bool.{cases_lt, true≢false}
use Rattle.std.proofs.lemmas.List.{map-append, reverse-append}
use mathlib.Core.List.{IsPrefix}
use Rattle.ses_io.specs.Outside.{MediaOutside, SourceOutside, SinkOutside}
use Rattle.session_model.specs.declared.session.Session.{Session}
use Rattle.session_model.specs.declared.edit.Edit.{Edit}
use Rattle.engine_model.specs.Due as engine
use Rattle.engine_model.specs.Due.{next_block}
use Rattle.engine_model.specs.Edits.{generation}
use Rattle.engine_model.specs.Journal.{rolled}
use Rattle.engine_laws.specs.Kept.{Kept}
use Rattle.engine_laws.specs.SerialLaws.{none_is_held}
use Rattle.engine_laws.proofs.HeldLemmas.{none_is_held_later}
use Rattle.machine_laws.specs.Stands.{each_once}
use Rattle.machine_laws.proofs.Tracks.{also_there}
use Rattle.edition_log.specs.EditionState.{EditionState}
use Rattle.disk_ring.specs.Receiver.{Receiver}
use Rattle.disk_ring.specs.Sender.{Sender}
use Rattle.piece_item.specs.declared.ack.Ack.{Ack}
use Rattle.piece_item.specs.declared.item.Item.{Item}
use Rattle.piece_item.specs.Views.{kind_of}
use Rattle.read_ahead.specs.Items.{kinds}
use Rattle.read_ahead.specs.declared.supply.TrackSupply.{TrackSupply}
use Rattle.butler.specs.declared.turning.Turn.{Turn}
use Rattle.butler.specs.declared.faults.ButlerFault.{ButlerFault}
use Rattle.butler.specs.declared.faults.ButlerFault.TheVariants.{ReadFault, WriteFault}
use Rattle.butler.specs.ButlerState.{ButlerState}
use Rattle.butler.specs.Sends.{SendsOf, acks_of}
use Rattle.butler.specs.Serving.{IsTended}
use Rattle.process_ends.specs.Ends.{AreOtherEnds, EndsMeet}
use Rattle.process_cycle.specs.ProcessState.{entries_of}
use Rattle.worker_pair.specs.declared.ending.Ending.{Ending}
use Rattle.worker_pair.specs.declared.pair.Pair.{Pair}
use Rattle.worker_pair.specs.Steps.{IsTurned}
use Rattle.worker_pair.specs.Tied.{rings_of}
use Rattle.worker_pair.proofs.MetLemmas.{acks_met, send_met}
use Rattle.worker_pair.proofs.TurnLemmas.{others_turned}
use Rattle.run_end.specs.declared.failures.Failures.{Failures}
use Rattle.engine_core.specs.declared.run.Run.{Run}
use Rattle.run_end.specs.Failures.{after_turn}
use Rattle.engine_core.specs.Fed.{AllHeard, IsFed, IsNewest, sends_of, sent_of}
use Rattle.engine_core.specs.Letters.{TurnsOn}
use Rattle.engine_core.specs.Shows.{edits_of, made_of}
use Rattle.run_end.specs.Started.{Started}
use Rattle.engine_core.specs.Now.{now_of}
use Rattle.engine_core.specs.UnderWay.{IsUnderWay}
use Rattle.engine_core.proofs.FedLists.{sent_free, sent_once}
use Rattle.run_end.proofs.LastTurnLemmas.{same_begins}

-- a read that had failed has
pub read_turned : (answer : Result Turn ButlerFault) (f : Failures) → (after_turn answer f).read ≡ false → f.read ≡ false
read_turned (Ok turn) f fine = fine
read_turned (Err ReadFault) f fine = absurd (true≢false fine)
read_turned (Err WriteFault) f fine = fine

module _ {V I W : Type 0} (media : MediaOutside V) (inputs : SourceOutside I) (sinks : SinkOutside W) (on : Started V I W) (old new : Run V I W) (idle : Bool) (is : IsUnderWay media inputs sinks on old)
    (now : IsUnderWay media inputs sinks on new) (turned : TurnsOn media on old idle new) (fine : new.failed.read ≡ false) (newest : IsNewest old) (fed : IsFed on.begun.session old) (heard : AllHeard old) where
  abbrev s : Session
  s = on.begun.session

  abbrev E : List Edit
  E = edits_of old

  abbrev G : ℕ
  G = generation E (length E)

  abbrev b : ButlerState V
  b = turned.turns.butler

  abbrev taken : List engine.Ack
  taken = acks_of b.ends.acks.received

  turn : IsTurned media (now_of on old) (rings_of old.pair) turned.answer turned.turns.butler
  turn = turned.turns.turn

  met : EndsMeet old.pair.process.ends turned.turns.butler.ends new.pair.process.ends new.pair.butler.ends
  met = turned.turns.met

  pub others : AreOtherEnds old.pair.process.ends turned.turns.butler.ends
  others = others_turned media (now_of on old) (rings_of old.pair) turned.answer turned.turns.butler is.rests.serves turned.turns.turn

  pub read_before : old.failed.read ≡ false
  read_before = read_turned turned.answer old.failed (sym (ap (λ (f : Failures). f.read) turned.failed) ∙ fine)

  pub deep : 0 < s.depth
  deep = omega (arith, is.rests.serves.serving.valid.formed.limits.depth.least)

  reached : fed.from ≤ G
  reached = subst (λ (es : List Edit). fed.from ≤ generation es (length es)) newest.newest fed.reached

  -- all acknowledgements were taken
  pub acks_all : b.ends.acks.received ≡ old.pair.process.ends.to_butler.sent
  acks_all = same_begins b.ends.acks.received old.pair.process.ends.to_butler.sent
      (subst (λ l. IsPrefix l old.pair.process.ends.to_butler.sent) (ap (λ (r : Receiver Ack). r.received) (acks_met old.pair.process.ends new.pair.process.ends b.ends new.pair.butler.ends others met))
      (subst (λ l. IsPrefix new.pair.butler.ends.acks.received l) (ap (λ (d : Sender Ack). d.sent) met.acks.sender) now.rests.serves.met.acks.passed.begins))
      (subst (λ l. IsPrefix l b.ends.acks.received) is.rests.serves.met.acks.heard turn.receives.acks.told)

  pub next_so : (g : ℕ) → next_block taken g ≡ rolled g (made_of old)
  next_so g = ap (λ l. next_block (acks_of l) g) acks_all ∙ fed.acks g

  pub many_sends : length b.ends.sends.items ≡ length (sends_of old)
  many_sends = turn.serving.sends ∙ sym is.rests.serves.serving.sends

  -- what was sent isn't held where the newest edition stands
  free_then : (d : Sender Item) → none_is_held s.depth fed.from (rolled fed.from (made_of old)) (sent_of d) ≡ true → none_is_held s.depth G (rolled G (made_of old)) (sent_of d) ≡ true
  free_then d free = elim (cases_lt fed.from G) [
    | inl lt ↦ none_is_held_later s.depth fed.from (rolled fed.from (made_of old)) G (rolled G (made_of old)) (sent_of d) (inl lt) free
    | inr ge ↦ subst (λ g. none_is_held s.depth g (rolled g (made_of old)) (sent_of d) ≡ true) (le_antisymm reached ge) free
  ]

  -- ---- a track

  -- What a turn has sent of a track.
  pub record IsSent (t : ℕ) (f : Sender Item) : Type 0 where
    pub before : Sender Item
    pub there : slice_get (sends_of old) t ≡ Some before
    pub sends : SendsOf s E old.pair.butler.cycles t taken before f
    pub supply : TrackSupply
    pub tended : IsTended s E b.cycles t taken b.hushed supply f
    pub free : none_is_held s.depth G (rolled G (made_of old)) (sent_of f) ≡ true
    pub once : each_once old.pair.butler.cycles (sent_of f) ≡ true

  pub is_sent : (t : ℕ) (f : Sender Item) → slice_get b.ends.sends.items t ≡ Some f → IsSent t f
  is_sent t f hf = let d = also_there b.ends.sends.items (sends_of old) t f many_sends hf in let p = also_there b.ends.sends.items b.supplies t f (turn.serving.sends ∙ sym turn.serving.supplies) hf in
      let sends = turn.sends t d.0 f d.1 hf in let tended = turn.serving.tracks t p.0 f p.1 hf in let items = kinds sends.items in
      let split : sent_of f ≡ reverse items ++ sent_of d.0 = ap (λ l. reverse (kinds l)) sends.sent ∙ ap reverse (map-append (λ i. kind_of i.kind) d.0.sent sends.items) ∙ reverse-append (kinds d.0.sent) items in record {
        before = d.0;
        there = d.1;
        sends = sends;
        supply = p.0;
        tended = tended;
        free = subst (λ l. none_is_held s.depth G (rolled G (made_of old)) l ≡ true) (sym split) (subst (λ n. none_is_held s.depth G n (reverse items ++ sent_of d.0) ≡ true) (next_so G)
            (sent_free s E old.pair.butler.cycles t taken (sent_of d.0) items deep sends.were_due
            (subst (λ n. none_is_held s.depth G n (sent_of d.0) ≡ true) (sym (next_so G)) (free_then d.0 (fed.free t d.0 d.1)))));
        once = subst (λ l. each_once old.pair.butler.cycles l ≡ true) (sym split)
            (sent_once s E old.pair.butler.cycles t taken (sent_of d.0) items sends.were_due (subst (Kept s E t (length E)) split tended.stands.kept) (fed.once t d.0 d.1));
      }

  -- the end after the meeting
  pub mid : (t : ℕ) (f : Sender Item) → slice_get (sends_of new) t ≡ Some f → (m : Sender Item) × (slice_get b.ends.sends.items t ≡ Some m) × (f.sent ≡ m.sent)
  mid t f hf = let m = also_there (sends_of new) b.ends.sends.items t f met.plays.senders hf in
      (m.0, m.1, ap (λ (z : Sender Item). z.sent) (send_met old.pair.process.ends new.pair.process.ends b.ends new.pair.butler.ends others met t m.0 f m.1 hf))

  pub made_same : made_of new ≡ made_of old
  made_same = ap (λ (p : Pair V I W). entries_of p.process) turned.only

  cycles_same : new.pair.butler.cycles ≡ old.pair.butler.cycles
  cycles_same = ap (λ (e : Ending V). e.butler.cycles) turned.turns.same ∙ turn.rest.cycles

  -- **It is fed still.**
  pub turn_feeds : IsFed s new
  turn_feeds = record {
    from = G;
    reached = subst (λ (e : EditionState). G ≤ generation e.edits (length e.edits)) (sym (ap (λ (p : Pair V I W). p.playing) turned.only))
        (subst (λ (es : List Edit). G ≤ generation es (length es)) (sym newest.newest) (omega arith));
    free = λ t f hf. let m = mid t f hf in subst (λ es. none_is_held s.depth G (rolled G es) (sent_of f) ≡ true) (sym made_same)
        (subst (λ l. none_is_held s.depth G (rolled G (made_of old)) (reverse (kinds l)) ≡ true) (sym m.2) (is_sent t m.0 m.1).free);
    once = λ t f hf. let m = mid t f hf in subst (λ n. each_once n (sent_of f) ≡ true) (sym cycles_same)
        (subst (λ l. each_once old.pair.butler.cycles (reverse (kinds l)) ≡ true) (sym m.2) (is_sent t m.0 m.1).once);
    acks = λ g. ap (λ (d : Sender Ack). next_block (acks_of d.sent) g) met.acks.sender ∙ fed.acks g ∙ ap (rolled g) (sym made_same);
  }

  pub newest_same : IsNewest new
  newest_same = record {
    opens = ap (λ (p : Pair V I W). p.in_cycle) turned.only ∙ newest.opens;
    newest = ap (λ (p : Pair V I W). p.playing.edits) turned.only ∙ newest.newest ∙ sym (ap (λ (p : Pair V I W). p.edition.edits) turned.only);
  }
