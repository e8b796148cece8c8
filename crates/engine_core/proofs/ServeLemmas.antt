-- What turns and looks leave of a run, and how much they leave to do.
use Rattle.std.proofs.Common.{◌≡◌, inl, inr, ℕ, ◌+◌, ◌-◌, ◌*◌, ◌^◌, ◌<◌, List, length, refl, sym, ap, subst, ◌∙◌}
use Rattle.std.specs.Prelude.{Bool, true, false, ◌&&◌, not, nat_lt, if◌then◌else◌, slice_get, sum_by, Some}
use Rattle.std.proofs.lemmas.Option.{get_or_from_slice_get, slice_get_within}
use Rattle.ses_io.specs.Outside.{MediaOutside, SourceOutside, SinkOutside}
use Rattle.machine_laws.proofs.Tracks.{also_there}
use Rattle.disk_ring.specs.Receiver.{Receiver}
use Rattle.disk_ring.specs.Sender.{Sender}
use Rattle.piece_item.specs.declared.item.Item.{Item}
use Rattle.piece_item.specs.declared.take_block.TakeBlock.{TakeBlock}
use Rattle.butler.specs.ButlerState.{ButlerState}
use Rattle.capture_drain.specs.Drains.{total_received}
use Rattle.read_ahead.specs.AllServes.{total_sent}
use Rattle.process_ends.specs.Ends.{AllMeet, AreOtherEnds}
use Rattle.process_cycle.specs.ProcessState.{ProcessState}
use Rattle.worker_pair.specs.declared.pair.Pair.{Pair}
use Rattle.worker_pair.specs.Plays.{Looks}
use Rattle.worker_pair.specs.Steps.{left_to_do}
use Rattle.worker_pair.specs.Tied.{rings_of}
use Rattle.worker_pair.proofs.TotalLemmas.{same_in_all}
use Rattle.engine_core.specs.declared.run.Run.{Run}
use Rattle.run_end.specs.Failures.{has_stopped}
use Rattle.run_end.specs.Started.{Started}
use Rattle.engine_core.specs.UnderWay.{IsUnderWay}
use Rattle.engine_core.specs.Letters.{EntersOn, GathersOn, TurnsOn}
use Rattle.engine_core.proofs.EnterLemmas.{either}
use Rattle.engine_core.proofs.GrowLemmas.{Stays, enter_stays, gather_stays, turn_stays}
use Rattle.engine_core.specs.Cycles.{IsServed}

-- ---- what is kept

module _ {V I W : Type 0} where
  pub served_itself : (r : Run V I W) → IsServed r r
  served_itself r = record { edition = refl; asked = refl; made = refl; stays_open = λ e. e; playing = λ e. refl; fine = λ e. e }

  pub served_on : (a b c : Run V I W) → IsServed a b → IsServed b c → IsServed a c
  served_on a b c one two = record {
    edition = two.edition ∙ one.edition;
    asked = two.asked ∙ one.asked;
    made = two.made ∙ one.made;
    stays_open = λ e. two.stays_open (one.stays_open e);
    playing = λ e. two.playing (one.stays_open e) ∙ one.playing e;
    fine = λ e. one.fine (two.fine e);
  }

  served_by : (old new : Run V I W) → Stays old new → (old.pair.in_cycle ≡ true → new.pair.in_cycle ≡ true) → (old.pair.in_cycle ≡ true → new.pair.playing ≡ old.pair.playing) → IsServed old new
  served_by old new stays opens plays = record { edition = stays.edition; asked = stays.asked; made = stays.made; stays_open = opens; playing = plays; fine = stays.fine }

  pub turn_serves : (media : MediaOutside V) (on : Started V I W) (old new : Run V I W) (idle : Bool) → TurnsOn media on old idle new → IsServed old new
  turn_serves media on old new idle turns = served_by old new (turn_stays media on old new idle turns) (λ opens. ap (λ (p : Pair V I W). p.in_cycle) turns.only ∙ opens) (λ opens. ap (λ (p : Pair V I W). p.playing) turns.only)

  -- where a cycle is open the process enters none
  pub enters_none : (old new : Run V I W) → EntersOn old new → old.pair.in_cycle ≡ true → new ≡ old
  enters_none old new enters opens = elim (either (has_stopped old.failed)) [
    | inl stopped ↦ enters.stays stopped
    | inr goes ↦ (λ i. record {
      pair = (enters.enters goes).stays
          (ap (λ b. not b && nat_lt (length old.pair.process.journal.items) old.pair.process.journal.room && not old.pair.playing.transport.quit) opens) i;
      failed = enters.failed i;
    })
  ]

  pub enter_serves : (old new : Run V I W) → EntersOn old new → IsServed old new
  enter_serves old new enters = served_by old new (enter_stays old new enters) (λ opens. ap (λ (r : Run V I W). r.pair.in_cycle) (enters_none old new enters opens) ∙ opens)
      (λ opens. ap (λ (r : Run V I W). r.pair.playing) (enters_none old new enters opens))

  gathers_in : (old new : Run V I W) → GathersOn old new → old.pair.in_cycle ≡ true → new.pair.in_cycle ≡ true
  gathers_in old new gathers opens = ap (λ (p : Pair V I W). p.in_cycle) (gathers.looks entered).same ∙ entered
    where
      entered : gathers.entered.pair.in_cycle ≡ true
      entered = ap (λ (r : Run V I W). r.pair.in_cycle) (enters_none old gathers.entered gathers.enters opens) ∙ opens

  pub gather_serves : (old new : Run V I W) → GathersOn old new → IsServed old new
  gather_serves old new gathers = served_by old new (gather_stays old new gathers) (gathers_in old new gathers) (λ opens.
      let same = enters_none old gathers.entered gathers.enters opens in
      ap (λ (p : Pair V I W). p.playing) (gathers.looks (ap (λ (r : Run V I W). r.pair.in_cycle) same ∙ opens)).same ∙ ap (λ (r : Run V I W). r.pair.playing) same)

-- ---- how much is left to do

-- the ends of rings that met have sent and received as much as before
module _ {T : Type 0} (a : List (Sender T)) (b : List (Receiver T)) (c : List (Sender T)) (d : List (Receiver T)) (many : length b ≡ length a) (meet : AllMeet a b c d) where
  sent_stands : (t : ℕ) (x f : Sender T) → slice_get a t ≡ Some x → slice_get c t ≡ Some f → length f.sent ≡ length x.sent
  sent_stands t x f hx hf = let y = also_there a b t x (sym many) hx in
      ap (λ (z : Sender T). length z.sent) (sym (get_or_from_slice_get c t f x hf)) ∙ ap (λ (z : Sender T). length z.sent) (meet.each t x y.0 (slice_get_within a t x hx)).sender
      ∙ ap (λ (z : Sender T). length z.sent) (get_or_from_slice_get a t x x hx)

  received_stands : (t : ℕ) (y q : Receiver T) → slice_get b t ≡ Some y → slice_get d t ≡ Some q → length q.received ≡ length y.received
  received_stands t y q hy hq = let x = also_there b a t y many hy in
      ap (λ (z : Receiver T). length z.received) (sym (get_or_from_slice_get d t q y hq)) ∙ ap (λ (z : Receiver T). length z.received) (meet.each t x.0 y (slice_get_within a t x.0 x.1)).receiver
      ∙ ap (λ (z : Receiver T). length z.received) (get_or_from_slice_get b t y y hy)

module _ {V I W : Type 0} where
  -- a look leaves as much
  look_leaves : (p q : Pair V I W) → AreOtherEnds p.process.ends p.butler.ends → Looks p q → left_to_do (rings_of q) ≡ left_to_do (rings_of p)
  look_leaves p q others looks = λ i. (many i * 2 ^ 62 - sent i) + ((put i - received i) + (if failed i then 0 else 1))
    where
      many : length q.butler.ends.sends.items ≡ length p.butler.ends.sends.items
      many = looks.met.ends.plays.senders

      sent : total_sent q.butler.ends.sends.items ≡ total_sent p.butler.ends.sends.items
      sent = same_in_all (λ (x : Sender Item). length x.sent) p.butler.ends.sends.items q.butler.ends.sends.items many
          (sent_stands p.butler.ends.sends.items looks.process.ends.plays.items q.butler.ends.sends.items q.process.ends.plays.items (looks.looks.many ∙ others.plays.count) looks.met.ends.plays)

      captures : length p.butler.ends.takes.items ≡ length looks.process.ends.takes.items
      captures = others.takes.count ∙ ap (λ (z : ProcessState I W). length z.ends.takes.items) (sym looks.keeps.same)

      put : sum_by (λ (x : Sender TakeBlock). length x.sent) q.process.ends.takes.items ≡ sum_by (λ (x : Sender TakeBlock). length x.sent) p.process.ends.takes.items
      put = same_in_all (λ (x : Sender TakeBlock). length x.sent) looks.process.ends.takes.items q.process.ends.takes.items looks.met.ends.takes.senders
          (sent_stands looks.process.ends.takes.items p.butler.ends.takes.items q.process.ends.takes.items q.butler.ends.takes.items captures looks.met.ends.takes)
          ∙ ap (λ (z : ProcessState I W). sum_by (λ (x : Sender TakeBlock). length x.sent) z.ends.takes.items) looks.keeps.same

      received : total_received q.butler.ends.takes.items ≡ total_received p.butler.ends.takes.items
      received = same_in_all (λ (x : Receiver TakeBlock). length x.received) p.butler.ends.takes.items q.butler.ends.takes.items looks.met.ends.takes.receivers
          (received_stands looks.process.ends.takes.items p.butler.ends.takes.items q.process.ends.takes.items q.butler.ends.takes.items captures looks.met.ends.takes)

      failed : q.butler.hushed ≡ p.butler.hushed
      failed = ap (λ (b : ButlerState V). b.hushed) looks.met.butler

  -- and so does the process where it enters
  pub workers_stand : (old new : Run V I W) → EntersOn old new → (new.pair.process ≡ old.pair.process) × (new.pair.butler ≡ old.pair.butler)
  workers_stand old new enters = elim (either (has_stopped old.failed)) [
    | inl stopped ↦ (ap (λ (r : Run V I W). r.pair.process) (enters.stays stopped), ap (λ (r : Run V I W). r.pair.butler) (enters.stays stopped))
    | inr goes ↦ (ap (λ (p : Pair V I W). p.process) (enters.enters goes).same, ap (λ (p : Pair V I W). p.butler) (enters.enters goes).same)
  ]

  enter_leaves : (old new : Run V I W) → EntersOn old new → left_to_do (rings_of new.pair) ≡ left_to_do (rings_of old.pair)
  enter_leaves old new enters = elim (either (has_stopped old.failed)) [
    | inl stopped ↦ ap (λ (r : Run V I W). left_to_do (rings_of r.pair)) (enters.stays stopped)
    | inr goes ↦ ap (λ (p : Pair V I W). left_to_do (rings_of p)) (enters.enters goes).same
  ]

  module _ (media : MediaOutside V) (inputs : SourceOutside I) (sinks : SinkOutside W) (on : Started V I W) where
    gather_leaves : (old new : Run V I W) → IsUnderWay media inputs sinks on old → GathersOn old new → left_to_do (rings_of new.pair) ≡ left_to_do (rings_of old.pair)
    gather_leaves old new is gathers = elim (either gathers.entered.pair.in_cycle) [
      | inr shut ↦ ap (λ (r : Run V I W). left_to_do (rings_of r.pair)) (gathers.stays shut) ∙ enter_leaves old gathers.entered gathers.enters
      | inl opens ↦ look_leaves gathers.entered.pair new.pair others (gathers.looks opens) ∙ enter_leaves old gathers.entered gathers.enters
    ]
      where
        others : AreOtherEnds gathers.entered.pair.process.ends gathers.entered.pair.butler.ends
        others = let stand = workers_stand old gathers.entered gathers.enters in subst (λ (b : ButlerState V). AreOtherEnds gathers.entered.pair.process.ends b.ends) (sym stand.1)
            (subst (λ (z : ProcessState I W). AreOtherEnds z.ends old.pair.butler.ends) (sym stand.0) is.rests.serves.others)

    -- **A turn that isn't idle, and the look after it, leave less.**
    pub serves_less : (old turned new : Run V I W) → TurnsOn media on old false turned → IsUnderWay media inputs sinks on turned → GathersOn turned new →
        left_to_do (rings_of new.pair) < left_to_do (rings_of old.pair)
    serves_less old turned new turns is gathers = subst (λ n. n < left_to_do (rings_of old.pair)) (sym (gather_leaves turned new is gathers)) (turns.turns.less (sym turns.idle_is))
