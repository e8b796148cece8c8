-- A cycle in which all is ready plays as the plain one, whatever it takes, and all is heard after it still.
use Rattle.std.proofs.Common.{◌≡◌, inr, ℕ, ◌≤◌, List, ◌∷◌, length, refl, sym, ap, subst, arith, ◌∙◌}
use Rattle.std.specs.Prelude.{true, false, reverse, slice_get, Some, Result, Ok, Err}
use Rattle.std.proofs.lemmas.Option.{get_or_from_slice_get, slice_get_within}
use Rattle.ses_io.specs.Outside.{MediaOutside, SourceOutside, SinkOutside}
use Rattle.session_model.specs.declared.session.Session.{Session}
use Rattle.session_model.specs.declared.edit.Edit.{Edit}
use Rattle.engine_model.specs.Due.{next_block}
use Rattle.engine_model.specs.Edits.{generation}
use Rattle.engine_model.specs.Journal.{Entry, rolled}
use Rattle.engine_model.specs.Plain.{plain_entry}
use Rattle.engine_laws.specs.SerialLaws.{none_is_held}
use Rattle.engine_laws.proofs.HeldLemmas.{none_is_held_later}
use Rattle.machine_laws.specs.Stands.{each_once}
use Rattle.machine_laws.proofs.Tracks.{also_there}
use Rattle.machine_laws.proofs.TurnLemmas.{rolled_rises}
use Rattle.edition_log.specs.EditionState.{EditionState}
use Rattle.disk_ring.specs.Receiver.{Receiver}
use Rattle.disk_ring.specs.Sender.{Sender}
use Rattle.piece_item.specs.declared.ack.Ack.{Ack}
use Rattle.piece_item.specs.declared.item.Item.{Item}
use Rattle.cycle_journal.specs.JournalView.{seen_entry}
use Rattle.read_ahead.specs.Items.{kinds}
use Rattle.butler.specs.ButlerState.{ButlerState}
use Rattle.butler.specs.Sends.{acks_of}
use Rattle.process_cycle.specs.declared.fault.CycleFault.{CycleFault}
use Rattle.process_cycle.specs.declared.fault.CycleFault.TheVariants.{InputFault, MasterFault}
use Rattle.process_cycle.specs.ProcessState.{ProcessState, entries_of}
use Rattle.worker_pair.specs.declared.pair.Pair.{Pair}
use Rattle.process_ends.specs.Ends.{AllMeet}
use Rattle.worker_pair.specs.Plays.{Cycles, Looks, MeetsAfter}
use Rattle.run_end.specs.declared.failures.Failures.{Failures}
use Rattle.engine_core.specs.declared.run.Run.{Run}
use Rattle.run_end.specs.Failures.{after_cycle}
use Rattle.engine_core.specs.Fed.{AllHeard, AllReady, IsFed, IsNewest, PlaysAs, plays_of, sends_of, sent_of}
use Rattle.engine_core.specs.Letters.{CyclesOn, MakesCycle}
use Rattle.engine_core.specs.Shows.{edits_of, made_of}
use Rattle.run_end.specs.Started.{Started}
use Rattle.engine_core.specs.Now.{now_of}
use Rattle.engine_core.specs.UnderWay.{IsUnderWay}
use Rattle.engine_core.proofs.FedEntryLemmas as entry

pub read_cycled : (answer : Result (Unit {0}) CycleFault) (f : Failures) → (after_cycle answer f).read ≡ f.read
read_cycled (Ok x) f = refl
read_cycled (Err InputFault) f = refl
read_cycled (Err MasterFault) f = refl

-- the ends after a meeting, and before it
sends_met : {T : Type 0} (a : List (Sender T)) (b : List (Receiver T)) (c : List (Sender T)) (d : List (Receiver T)) → length b ≡ length a → AllMeet a b c d → (t : ℕ) (f : Sender T) →
    slice_get c t ≡ Some f → (x : Sender T) × (slice_get a t ≡ Some x) × (f.sent ≡ x.sent)
sends_met {T} a b c d many meet t f hf = let x = also_there c a t f meet.senders hf in let y = also_there a b t x.0 (sym many) x.1 in (
  x.0,
  x.1,
  ap (λ (z : Sender T). z.sent) (sym (get_or_from_slice_get c t f x.0 hf)) ∙ ap (λ (z : Sender T). z.sent) (meet.each t x.0 y.0 (slice_get_within a t x.0 x.1)).sender
      ∙ ap (λ (z : Sender T). z.sent) (get_or_from_slice_get a t x.0 x.0 x.1),
)

plays_met : {T : Type 0} (a : List (Sender T)) (b : List (Receiver T)) (c : List (Sender T)) (d : List (Receiver T)) → length b ≡ length a → AllMeet a b c d → (t : ℕ) (q : Receiver T) →
    slice_get d t ≡ Some q → (y : Receiver T) × (slice_get b t ≡ Some y) × (q.received ≡ y.received)
plays_met {T} a b c d many meet t q hq = let y = also_there d b t q meet.receivers hq in let x = also_there b a t y.0 many y.1 in (
  y.0,
  y.1,
  ap (λ (z : Receiver T). z.received) (sym (get_or_from_slice_get d t q y.0 hq)) ∙ ap (λ (z : Receiver T). z.received) (meet.each t x.0 y.0 (slice_get_within a t x.0 x.1)).receiver
      ∙ ap (λ (z : Receiver T). z.received) (get_or_from_slice_get b t y.0 y.0 y.1),
)

longer : (e : Entry) (before : List Entry) → before ≡ e ∷ before → ⊥
longer e before same = omega (arith, ap length same)

first_same : (x e : Entry) (before : List Entry) → x ∷ before ≡ e ∷ before → x ≡ e
first_same x e before same = cc

-- What is so after a cycle that was served.
pub record HasPlayed {V I W : Type 0} (s : Session) (served new : Run V I W) : Type 0 where
  pub fed_then : IsFed s new
  pub heard_then : AllHeard new
  pub plays : (e : Entry) → made_of new ≡ e ∷ made_of served → PlaysAs (plain_entry s (edits_of served) (made_of served)) e

module _ {V I W : Type 0} (media : MediaOutside V) (inputs : SourceOutside I) (sinks : SinkOutside W) (on : Started V I W) (served new : Run V I W) (is : IsUnderWay media inputs sinks on served)
    (newest : IsNewest served) (fed : IsFed on.begun.session served) (heard : AllHeard served) (ready : AllReady on.begun.session served) (cycles : CyclesOn inputs sinks on served new) where
  abbrev s : Session
  s = on.begun.session

  abbrev g : Run V I W
  g = cycles.gathered

  abbrev E : List Edit
  E = edits_of served

  -- ---- what the look left

  looked : Looks served.pair cycles.gathered.pair
  looked = entry.looked media inputs sinks on served new is newest fed heard ready cycles

  made_looked : made_of g ≡ made_of served
  made_looked = entry.made_looked media inputs sinks on served new is newest fed heard ready cycles

  acks_looked : g.pair.process.ends.to_butler.sent ≡ served.pair.process.ends.to_butler.sent
  acks_looked = entry.acks_looked media inputs sinks on served new is newest fed heard ready cycles

  many_g : length (plays_of g) ≡ length (sends_of g)
  many_g = entry.many_g media inputs sinks on served new is newest fed heard ready cycles

  -- what a track had sent, and that all of it was received
  sent_looked : (t : ℕ) (x : Sender Item) → slice_get (sends_of g) t ≡ Some x → (d : Sender Item) × (slice_get (sends_of served) t ≡ Some d) × (x.sent ≡ d.sent)
  sent_looked = entry.sent_looked media inputs sinks on served new is newest fed heard ready cycles

  heard_looked : (t : ℕ) (x : Sender Item) (y : Receiver Item) → slice_get (sends_of g) t ≡ Some x → slice_get (plays_of g) t ≡ Some y → y.received ≡ x.sent
  heard_looked = entry.heard_looked media inputs sinks on served new is newest fed heard ready cycles

  -- ---- the cycle

  makes : MakesCycle inputs sinks on cycles.gathered new
  makes = cycles.cycles (ap (λ (p : Pair V I W). p.in_cycle) looked.same ∙ newest.opens)

  pub read_before : new.failed.read ≡ false → served.failed.read ≡ false
  read_before fine = ap (λ (f : Failures). f.read) (sym cycles.gathers.failed) ∙ sym (read_cycled makes.answer g.failed) ∙ sym (ap (λ (f : Failures). f.read) makes.failed) ∙ fine

  -- ---- after the cycle

  playing_new : new.pair.playing ≡ served.pair.playing
  playing_new = ap (λ (p : Pair V I W). p.playing) makes.cycles.same ∙ ap (λ (p : Pair V I W). p.playing) looked.same

  module _ (c : ProcessState I W) (met : MeetsAfter g.pair c new.pair) (plays_same : c.ends.plays.items ≡ plays_of g) (grows : (h : ℕ) → rolled h (made_of served) ≤ rolled h (made_of new))
      (acks : (h : ℕ) → next_block (acks_of c.ends.to_butler.sent) h ≡ rolled h (made_of new)) where
    meet_now : AllMeet (sends_of g) (plays_of g) (sends_of new) (plays_of new)
    meet_now = subst (λ l. AllMeet (sends_of g) l (sends_of new) (plays_of new)) plays_same met.ends.plays

    -- what a track had sent
    sent_before : (t : ℕ) (f : Sender Item) → slice_get (sends_of new) t ≡ Some f → (d : Sender Item) × (slice_get (sends_of served) t ≡ Some d) × (f.sent ≡ d.sent)
    sent_before t f hf = let x = sends_met (sends_of g) (plays_of g) (sends_of new) (plays_of new) many_g meet_now t f hf in
        let d = sent_looked t x.0 x.1 in (d.0, d.1, x.2 ∙ d.2)

    fed_after : IsFed s new
    fed_after = record {
      from = fed.from;
      reached = subst (λ (e : EditionState). fed.from ≤ generation e.edits (length e.edits)) (sym playing_new) fed.reached;
      free = λ t f hf. let d = sent_before t f hf in none_is_held_later s.depth fed.from (rolled fed.from (made_of served)) fed.from (rolled fed.from (made_of new)) (sent_of f) (inr (refl, grows fed.from))
          (subst (λ l. none_is_held s.depth fed.from (rolled fed.from (made_of served)) (reverse (kinds l)) ≡ true) (sym d.2) (fed.free t d.0 d.1));
      once = λ t f hf. let d = sent_before t f hf in
          subst (λ n. each_once n (sent_of f) ≡ true) (sym (ap (λ (b : ButlerState V). b.cycles) met.butler ∙ ap (λ (b : ButlerState V). b.cycles) looked.met.butler))
          (subst (λ l. each_once served.pair.butler.cycles (reverse (kinds l)) ≡ true) (sym d.2) (fed.once t d.0 d.1));
      acks = λ h. ap (λ (d : Sender Ack). next_block (acks_of d.sent) h) met.ends.acks.sender ∙ acks h;
    }

    heard_after : AllHeard new
    heard_after t f q hf hq = let x = sends_met (sends_of g) (plays_of g) (sends_of new) (plays_of new) many_g meet_now t f hf in
        let y = plays_met (sends_of g) (plays_of g) (sends_of new) (plays_of new) many_g meet_now t q hq in y.2 ∙ heard_looked t x.0 y.0 x.1 y.1 ∙ sym x.2

  -- where it stopped nothing was made
  stopped_by : (c : ProcessState I W) → MeetsAfter g.pair c new.pair → c ≡ record g.pair.process { input = c.input; master = c.master } → HasPlayed s served new
  stopped_by c met stopped = let made_is : made_of new ≡ made_of served = ap entries_of met.process_is ∙ ap (λ (z : ProcessState I W). entries_of z) stopped ∙ made_looked in
      let same = ap (λ (z : ProcessState I W). z.ends.plays.items) stopped in
      let acks : (h : ℕ) → next_block (acks_of c.ends.to_butler.sent) h ≡ rolled h (made_of new) = λ h. ap (λ (z : ProcessState I W). next_block (acks_of z.ends.to_butler.sent) h) stopped
      ∙ ap (λ l. next_block (acks_of l) h) acks_looked ∙ fed.acks h ∙ ap (rolled h) (sym made_is) in
      let grows : (h : ℕ) → rolled h (made_of served) ≤ rolled h (made_of new) = λ h. subst (λ es. rolled h (made_of served) ≤ rolled h es) (sym made_is) (omega arith) in record {
        fed_then = fed_after c met same grows acks;
        heard_then = heard_after c met same grows acks;
        plays = λ e more. absurd (longer e (made_of served) (sym made_is ∙ more));
      }

  played_by : served.pair.butler.ends.acks.received ≡ served.pair.process.ends.to_butler.sent → (answer : Result (Unit {0}) CycleFault) → Cycles inputs sinks (now_of on g) g.pair answer new.pair → HasPlayed s served new
  played_by taken (Ok x) c = let made_is : made_of new ≡ seen_entry c.made.made ∷ made_of served = ap entries_of c.met.process_is ∙ entry.entries_now media inputs sinks on served new is newest fed heard ready cycles c.process c.made taken in
      let same = ap (λ (z : ProcessState I W). z.ends.plays.items) c.made.same in
      let acks : (h : ℕ) → next_block (acks_of c.process.ends.to_butler.sent) h ≡ rolled h (made_of new) = λ h. entry.acks_now media inputs sinks on served new is newest fed heard ready cycles c.process c.made taken h ∙ ap (rolled h) (sym made_is) in
      let grows : (h : ℕ) → rolled h (made_of served) ≤ rolled h (made_of new) = λ h. subst (λ es. rolled h (made_of served) ≤ rolled h es) (sym made_is) (rolled_rises h (seen_entry c.made.made) (made_of served)) in record {
        fed_then = fed_after c.process c.met same grows acks;
        heard_then = heard_after c.process c.met same grows acks;
        plays = λ e more. subst (PlaysAs (plain_entry s E (made_of served))) (first_same (seen_entry c.made.made) e (made_of served) (sym made_is ∙ more)) (entry.entry_is_plain media inputs sinks on served new is newest fed heard ready cycles c.process c.made);
      }
  played_by taken (Err InputFault) c = stopped_by c.process c.met c.fault
  played_by taken (Err MasterFault) c = stopped_by c.process c.met c.fault

  -- **The cycle plays as the plain one.**
  pub cycle_plays : served.pair.butler.ends.acks.received ≡ served.pair.process.ends.to_butler.sent → HasPlayed s served new
  cycle_plays taken = played_by taken makes.answer makes.cycles
