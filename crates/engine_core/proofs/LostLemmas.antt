-- Why a serial cycle loses no block: each that was captured was taken out of its ring before it.
use Rattle.std.proofs.Common.{◌≡◌, inl, inr, ℕ, suc, ◌<◌, ◌≤◌, List, [], ◌∷◌, length, refl, sym, ap, subst, arith, ◌∙◌, length-append}
use Rattle.std.specs.Prelude.{Bool, true, ℤ, pos, reverse, slice_get, slice_index_or, Some, Result, Ok, Err}
use Rattle.std.proofs.lemmas.List.{length-map, length-reverse}
use Rattle.std.proofs.lemmas.Option.{get_or_from_slice_get, same_Some, slice_get_within}
use Rattle.ses_io.specs.Outside.{MediaOutside, SourceOutside, SinkOutside}
use Rattle.session_model.specs.declared.session.Session.{Session}
use Rattle.engine_model.specs.Journal as engine
use Rattle.engine_model.specs.Journal.{Entry, note_of}
use Rattle.engine_model.specs.Takes.{Input}
use Rattle.machine_laws.proofs.Tracks.{also_there}
use Rattle.disk_ring.specs.Receiver.{Receiver}
use Rattle.disk_ring.specs.Sender.{FoundFull, Sender}
use Rattle.piece_item.specs.declared.take_block.TakeBlock.{TakeBlock}
use Rattle.capture_flush.specs.Blocks.{block_of, place_of, taken_blocks, taken_from, taken_in}
use Rattle.cycle_journal.specs.declared.note.Take.{Take}
use Rattle.cycle_journal.specs.declared.note.Take.TheVariants.{Off, Taken, Lost}
use Rattle.track_capture.specs.Counted.{HasCaptured}
use Rattle.butler.specs.ButlerState.{ButlerState}
use Rattle.process_cycle.specs.declared.fault.CycleFault.{CycleFault}
use Rattle.process_cycle.specs.declared.fault.CycleFault.TheVariants.{InputFault, MasterFault}
use Rattle.process_cycle.specs.Captured.{AreCaptured}
use Rattle.process_ends.specs.Ends.{AllMeet}
use Rattle.process_cycle.specs.ProcessState.{ProcessState, entries_of}
use Rattle.worker_pair.specs.declared.pair.Pair.{Pair}
use Rattle.worker_pair.specs.Plays.{Cycles, Looks}
use Rattle.worker_pair.specs.Tied.{rings_of}
use Rattle.worker_pair.proofs.MetLemmas.{take_met}
use Rattle.worker_pair.proofs.TurnLemmas.{others_turned}
use Rattle.engine_core.specs.declared.run.Run.{Run}
use Rattle.engine_core.specs.Letters.{CyclesOn, EntersOn, GathersOn, MakesCycle, TurnsOn}
use Rattle.engine_core.specs.Lost.{CapturesStand, IsFlushed, LosesNone, NoneIsLost, captures_of}
use Rattle.run_end.specs.Started.{Started}
use Rattle.engine_core.specs.Now.{now_of}
use Rattle.engine_core.specs.UnderWay.{IsUnderWay}
use Rattle.engine_core.proofs.EnterLemmas.{either}
use Rattle.engine_core.proofs.ServeLemmas.{enters_none, workers_stand}
use Rattle.engine_core.proofs.SerialCycleLemmas.{many_made}

-- ---- the ends stand

same_told : (k l : Sender TakeBlock) → k ≡ l → l ≡ record k { got = l.got }
same_told k l e = sym e ∙ ap (λ (z : Sender TakeBlock). record k { got = z.got }) e

-- so it is found full as often
same_heads : (k l : Sender TakeBlock) → l ≡ record k { got = l.got } → l.heads ≡ k.heads
same_heads k l told = ap (λ (z : Sender TakeBlock). z.heads) told

told_twice : (k l m : Sender TakeBlock) → l ≡ record k { got = l.got } → m ≡ record l { got = m.got } → m ≡ record k { got = m.got }
told_twice k l m one two = two ∙ ap (λ (z : Sender TakeBlock). record z { got = m.got }) one

module _ {V I W : Type 0} where
  pub captures_itself : (r : Run V I W) → CapturesStand r r
  captures_itself r = record { many = refl; each = λ t k l here there. same_told k l (same_Some k l (sym here ∙ there)) }

  pub captures_on : (a b c : Run V I W) → CapturesStand a b → CapturesStand b c → CapturesStand a c
  captures_on a b c one two = record {
    many = two.many ∙ one.many;
    each = λ t k m here there. let l = also_there (captures_of a) (captures_of b) t k (sym one.many) here in told_twice k l.0 m (one.each t k l.0 here l.1) (two.each t l.0 m l.1 there);
  }

  captures_same : (old new : Run V I W) → captures_of new ≡ captures_of old → CapturesStand old new
  captures_same old new same = record {
    many = ap length same;
    each = λ t k l here there. same_told k l (same_Some k l (sym here ∙ ap (λ ks. slice_get ks t) (sym same) ∙ there));
  }

  pub captures_turned : (media : MediaOutside V) (inputs : SourceOutside I) (sinks : SinkOutside W) (on : Started V I W) (old new : Run V I W) (idle : Bool) → IsUnderWay media inputs sinks on old →
      TurnsOn media on old idle new → CapturesStand old new
  captures_turned media inputs sinks on old new idle is turned = let others = others_turned media (now_of on old) (rings_of old.pair) turned.answer turned.turns.butler is.rests.serves turned.turns.turn in record {
    many = turned.turns.met.takes.senders;
    each = take_met old.pair.process.ends new.pair.process.ends turned.turns.butler.ends new.pair.butler.ends others turned.turns.met;
  }

  pub captures_entered : (old new : Run V I W) → EntersOn old new → CapturesStand old new
  captures_entered old new enters = captures_same old new (ap (λ (z : ProcessState I W). z.ends.takes.items) (workers_stand old new enters).0)

  -- ---- a look of a run in its cycle

  module _ (old new : Pair V I W) (many : length old.butler.ends.takes.items ≡ length old.process.ends.takes.items) (looks : Looks old new) where
    mid_same : looks.process.ends.takes.items ≡ old.process.ends.takes.items
    mid_same = ap (λ (z : ProcessState I W). z.ends.takes.items) looks.keeps.same

    -- each knows afterwards how many were received
    looked_at : (t : ℕ) (k l : Sender TakeBlock) (f : Receiver TakeBlock) → slice_get old.process.ends.takes.items t ≡ Some k → slice_get old.butler.ends.takes.items t ≡ Some f →
        slice_get new.process.ends.takes.items t ≡ Some l → l ≡ record k { got = length f.received }
    looked_at t k l f hk hf hl = let m = looks.met.ends.takes in let here : slice_get looks.process.ends.takes.items t ≡ Some k = ap (λ ks. slice_get ks t) mid_same ∙ hk in
        sym (get_or_from_slice_get new.process.ends.takes.items t l k hl) ∙ (m.each t k f (slice_get_within looks.process.ends.takes.items t k here)).sender
        ∙ ap (λ (z : Sender TakeBlock). record z { got = length (slice_index_or old.butler.ends.takes.items t f).received }) (get_or_from_slice_get looks.process.ends.takes.items t k k here)
        ∙ ap (λ (z : Receiver TakeBlock). record k { got = length z.received }) (get_or_from_slice_get old.butler.ends.takes.items t f f hf)

    many_looked : length new.process.ends.takes.items ≡ length old.process.ends.takes.items
    many_looked = looks.met.ends.takes.senders ∙ ap length mid_same

    look_told : (t : ℕ) (k l : Sender TakeBlock) → slice_get old.process.ends.takes.items t ≡ Some k → slice_get new.process.ends.takes.items t ≡ Some l → l ≡ record k { got = l.got }
    look_told t k l hk hl = let f = also_there old.process.ends.takes.items old.butler.ends.takes.items t k (sym many) hk in let is = looked_at t k l f.0 hk f.1 hl in
        is ∙ ap (λ n. record k { got = n }) (sym (ap (λ (z : Sender TakeBlock). z.got) is))

  many_takes : (media : MediaOutside V) (inputs : SourceOutside I) (sinks : SinkOutside W) (on : Started V I W) (r : Run V I W) → IsUnderWay media inputs sinks on r →
      length r.pair.butler.ends.takes.items ≡ length r.pair.process.ends.takes.items
  many_takes media inputs sinks on r is = is.rests.serves.others.takes.count

  pub captures_gathered : (media : MediaOutside V) (inputs : SourceOutside I) (sinks : SinkOutside W) (on : Started V I W) (old new : Run V I W) → IsUnderWay media inputs sinks on old →
      GathersOn old new → CapturesStand old new
  captures_gathered media inputs sinks on old new is gathers = captures_on old gathers.entered new (captures_entered old gathers.entered gathers.enters) (elim (either gathers.entered.pair.in_cycle) [
    | inr shut ↦ subst (CapturesStand gathers.entered) (sym (gathers.stays shut)) (captures_itself gathers.entered)
    | inl opens ↦ record {
      many = many_looked gathers.entered.pair new.pair many (gathers.looks opens);
      each = look_told gathers.entered.pair new.pair many (gathers.looks opens);
    }
  ])
    where
      many : length gathers.entered.pair.butler.ends.takes.items ≡ length gathers.entered.pair.process.ends.takes.items
      many = let stand = workers_stand old gathers.entered gathers.enters in ap (λ (b : ButlerState V). length b.ends.takes.items) stand.1 ∙ many_takes media inputs sinks on old is
          ∙ ap (λ (z : ProcessState I W). length z.ends.takes.items) (sym stand.0)

-- ---- how many were captured

few_in : (s : Session) (input : Input) (t c : ℕ) (take : engine.Take) → length (taken_in s input t c take) ≤ 1
few_in s input t c engine.Off = omega arith
few_in s input t c (engine.Taken n i) = omega arith
few_in s input t c (engine.Lost n i head) = omega arith

few_from : (s : Session) (input : Input) (t c : ℕ) (journal : List Entry) → length (taken_from s input t c journal) ≤ length journal
few_from s input t c [] = omega arith
few_from s input t c (e ∷ es) = omega (arith, length-append (taken_in s input t c (note_of t e).take) (taken_from s input t (suc c) es), few_in s input t c (note_of t e).take, few_from s input t (suc c) es)

-- no more blocks than entries
few_captured : (s : Session) (t : ℕ) (entries : List Entry) (d : Sender TakeBlock) → AreCaptured s t entries d → length d.sent ≤ length entries
few_captured s t entries d captured = let silence : Input = λ i k. pos 0 in let blocks = taken_blocks s silence t (reverse entries) in
    omega (arith, length-map d.sent (λ b. place_of (block_of b)), ap length (captured.places silence), length-map blocks place_of, few_from s silence t 0 (reverse entries), length-reverse entries)

-- ---- a capture

-- a ring of which all is received isn't found full
never_full : (d : Sender TakeBlock) (head : ℕ) → 0 < d.depth → length d.sent ≤ 100000 → d.got ≡ length d.sent → d.got ≤ head → FoundFull d head → ⊥
never_full d head deep few emptied rises (inl full) = omega (arith, deep, emptied, rises, full)
never_full d head deep few emptied rises (inr most) = omega (arith, few, most)

captured_so : (s : Session) (t channels : ℕ) (samples : List ℤ) (take : Take) (d f : Sender TakeBlock) → 0 < d.depth → length d.sent ≤ 100000 → d.got ≡ length d.sent →
    HasCaptured s t channels samples d take f → f.heads ≡ d.heads
captured_so s t channels samples Off d f deep few emptied same = ap (λ (z : Sender TakeBlock). z.heads) same
captured_so s t channels samples (Taken n i) d f deep few emptied taken = ap (λ (z : Sender TakeBlock). z.heads) taken.sent
captured_so s t channels samples (Lost n i head) d f deep few emptied refused = absurd (never_full d head deep few emptied refused.head_is.rises refused.full)

-- ends that met have the heads that they had
heads_met : {T : Type 0} (a : List (Sender T)) (b : List (Receiver T)) (c : List (Sender T)) (d : List (Receiver T)) → length b ≡ length a → AllMeet a b c d →
    (t : ℕ) (x f : Sender T) → slice_get a t ≡ Some x → slice_get c t ≡ Some f → f.heads ≡ x.heads
heads_met {T} a b c d many meet t x f hx hf = let y = also_there a b t x (sym many) hx in
    ap (λ (z : Sender T). z.heads) (sym (get_or_from_slice_get c t f x hf)) ∙ ap (λ (z : Sender T). z.heads) (meet.each t x y.0 (slice_get_within a t x hx)).sender
    ∙ ap (λ (z : Sender T). z.heads) (get_or_from_slice_get a t x x hx)

-- ---- the cycle

module _ {V I W : Type 0} (media : MediaOutside V) (inputs : SourceOutside I) (sinks : SinkOutside W) (on : Started V I W) (served new : Run V I W) (is : IsUnderWay media inputs sinks on served)
    (opens : served.pair.in_cycle ≡ true) (flushed : IsFlushed served) (cycles : CyclesOn inputs sinks on served new) where
  abbrev s : Session
  s = on.begun.session

  abbrev g : Run V I W
  g = cycles.gathered

  entered_same : cycles.gathers.entered ≡ served
  entered_same = enters_none served cycles.gathers.entered cycles.gathers.enters opens

  looked : Looks served.pair g.pair
  looked = subst (λ (r : Run V I W). Looks r.pair g.pair) entered_same (cycles.gathers.looks (ap (λ (r : Run V I W). r.pair.in_cycle) entered_same ∙ opens))

  makes : MakesCycle inputs sinks on g new
  makes = cycles.cycles (ap (λ (p : Pair V I W). p.in_cycle) looked.same ∙ opens)

  many : length served.pair.butler.ends.takes.items ≡ length served.pair.process.ends.takes.items
  many = many_takes media inputs sinks on served is

  many_now : length g.pair.butler.ends.takes.items ≡ length g.pair.process.ends.takes.items
  many_now = looked.met.ends.takes.receivers ∙ many ∙ sym (many_looked served.pair g.pair many looked)

  -- each ring is open, and all of it was received
  record IsEmptied (t : ℕ) (d : Sender TakeBlock) : Type 0 where
    deep : 0 < d.depth
    few : length d.sent ≤ 100000
    emptied : d.got ≡ length d.sent

  -- by the ends that it had before the look
  emptied_by : (t : ℕ) (k d : Sender TakeBlock) (f : Receiver TakeBlock) → slice_get (captures_of served) t ≡ Some k → d ≡ record k { got = length f.received } → f.received ≡ k.sent → IsEmptied t d
  emptied_by t k d f hk told all = record {
    deep = omega (arith, ap (λ (z : Sender TakeBlock). z.depth) told, is.depths.takes t k hk, is.rests.serves.serving.valid.formed.limits.depth.least);
    few = omega (
      arith,
      ap (λ (z : Sender TakeBlock). length z.sent) told,
      few_captured s t (entries_of served.pair.process) k (is.rests.promises.captured t k hk),
      many_made served.pair.process,
      is.rests.entered.room opens,
      is.rests.asked,
      is.rests.serves.serving.cycles,
    );
    emptied = ap (λ (z : Sender TakeBlock). z.got) told ∙ ap length all ∙ sym (ap (λ (z : Sender TakeBlock). length z.sent) told);
  }

  emptied_at : (t : ℕ) (d : Sender TakeBlock) → slice_get (captures_of g) t ≡ Some d → IsEmptied t d
  emptied_at t d hd = let k = also_there (captures_of g) (captures_of served) t d (many_looked served.pair g.pair many looked) hd in
      let f = also_there (captures_of served) served.pair.butler.ends.takes.items t k.0 (sym many) k.1 in
      emptied_by t k.0 d f.0 k.1 (looked_at served.pair g.pair many looked t k.0 d f.0 k.1 f.1 hd) (flushed t k.0 f.0 k.1 f.1)

  -- where it has stopped the rings are as they were
  none_stopped : {takes : List (Sender TakeBlock)} → takes ≡ captures_of g → AllMeet takes g.pair.butler.ends.takes.items (captures_of new) new.pair.butler.ends.takes.items → NoneIsLost (captures_of g) →
      NoneIsLost (captures_of new)
  none_stopped {takes} same meet was t l there = let q = also_there (captures_of new) takes t l meet.senders there in
      heads_met takes g.pair.butler.ends.takes.items (captures_of new) new.pair.butler.ends.takes.items (many_now ∙ ap length (sym same)) meet t q.0 l q.1 there
      ∙ was t q.0 (ap (λ ks. slice_get ks t) (sym same) ∙ q.1)

  -- by what the cycle answers
  none_by : (answer : Result (Unit {0}) CycleFault) → Cycles inputs sinks (now_of on g) g.pair answer new.pair → NoneIsLost (captures_of g) → NoneIsLost (captures_of new)
  none_by (Ok x) c was = λ t l there. let q = also_there (captures_of new) c.process.ends.takes.items t l c.met.ends.takes.senders there in
      let d = also_there c.process.ends.takes.items (captures_of g) t q.0 c.made.rings q.1 in
      let note = also_there (captures_of g) c.made.made.notes.items t d.0 (sym c.made.notes) d.1 in let e = emptied_at t d.0 d.1 in
      heads_met c.process.ends.takes.items g.pair.butler.ends.takes.items (captures_of new) new.pair.butler.ends.takes.items (many_now ∙ sym c.made.rings) c.met.ends.takes t q.0 l q.1 there
      ∙ captured_so s t c.process.input.stream.form.channels c.process.input.samples note.0.take d.0 q.0 e.deep e.few e.emptied (c.made.captured t d.0 q.0 note.0 d.1 q.1 note.1) ∙ was t d.0 d.1
  none_by (Err InputFault) c was = none_stopped (ap (λ (z : ProcessState I W). z.ends.takes.items) c.fault) c.met.ends.takes was
  none_by (Err MasterFault) c was = none_stopped (ap (λ (z : ProcessState I W). z.ends.takes.items) c.fault) c.met.ends.takes was

  -- **No block is lost.**
  pub cycle_loses_none : LosesNone served new
  cycle_loses_none was = none_by makes.answer makes.cycles (λ t d hd. let k = also_there (captures_of g) (captures_of served) t d (many_looked served.pair g.pair many looked) hd in
      same_heads k.0 d (look_told served.pair g.pair many looked t k.0 d k.1 hd) ∙ was t k.0 k.1)

-- ---- the whole of a serial cycle

-- what was served loses none either
pub loses_none : {V I W : Type 0} (old served new : Run V I W) → CapturesStand old served → LosesNone served new → LosesNone old new
loses_none old served new stand loses was = loses (λ t l there. let k = also_there (captures_of served) (captures_of old) t l stand.many there in
    same_heads k.0 l (stand.each t k.0 l k.1 there) ∙ was t k.0 k.1)
