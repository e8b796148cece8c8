-- An idle turn of the butler in a run without letters, while no read of the media has failed, has sent of each track what the cycle plays.
use Rattle.std.proofs.Common.{◌≡◌, inl, inr, ℕ, ◌+◌, ◌*◌, ◌<◌, ◌≤◌, List, [], ◌∷◌, ◌++◌, length, refl, sym, ap, subst, arith, ◌∙◌, length-append, append-nil}
use Rattle.std.specs.Prelude.{◌^◌, Bool, true, false, reverse, slice_get, Some, None, Result, Ok, Err}
use Rattle.std.proofs.lemmas.Bool.{cases_lt, false≢true, true≢false}
use Rattle.std.proofs.lemmas.List.{length-map, length-reverse}
use Rattle.std.proofs.Math.Nat.{mul-le-mul}
use Rattle.ses_io.specs.Outside.{MediaOutside, SourceOutside, SinkOutside}
use Rattle.session_model.specs.declared.session.Session.{Session}
use Rattle.session_model.specs.declared.edit.Edit.{Edit}
use Rattle.engine_model.specs.Due as engine
use Rattle.engine_model.specs.Due.{due, next_block}
use Rattle.engine_model.specs.Edits.{generation}
use Rattle.engine_model.specs.Journal.{rolled}
use Rattle.engine_laws.specs.SerialLaws.{IsReady, none_is_held}
use Rattle.engine_laws.specs.Tracked.{Tracked}
use Rattle.engine_laws.proofs.SerialLemmas.{nothing_due_is_ready}
use Rattle.machine_laws.proofs.FewLemmas.{few_sent}
use Rattle.machine_laws.proofs.IdleLemmas.{rolled_low}
use Rattle.machine_laws.proofs.StandingLemmas.{few_edits}
use Rattle.machine_laws.proofs.Tracks.{also_there}
use Rattle.disk_ring.specs.Receiver.{Receiver}
use Rattle.disk_ring.specs.Sender.{FoundFull, Sender}
use Rattle.disk_ring.proofs.Beginnings.{begins_length}
use Rattle.piece_item.specs.declared.ack.Ack.{Ack}
use Rattle.piece_item.specs.declared.item.Item.{Item}
use Rattle.piece_item.specs.declared.take_block.TakeBlock.{TakeBlock}
use Rattle.piece_item.specs.Views.{kind_of}
use Rattle.read_ahead.specs.Items.{kinds}
use Rattle.butler.specs.declared.turning.Turn.{Turn}
use Rattle.butler.specs.declared.turning.Turn.TheVariants.{Moved, Idle}
use Rattle.butler.specs.declared.faults.ButlerFault.{ButlerFault}
use Rattle.butler.specs.ButlerState.{ButlerState}
use Rattle.butler.specs.Sends.{IsDone, acks_of}
use Rattle.butler.specs.Turns.{Leaves}
use Rattle.process_ends.specs.Ends.{AreOtherEnds, EndsMeet}
use Rattle.worker_pair.specs.declared.pair.Pair.{Pair}
use Rattle.worker_pair.specs.Steps.{IsTurned, is_idle_answer}
use Rattle.worker_pair.specs.Tied.{rings_of}
use Rattle.worker_pair.proofs.MetLemmas.{acks_met, play_met}
use Rattle.worker_pair.proofs.TotalLemmas.{no_more_in_all}
use Rattle.engine_core.specs.declared.run.Run.{Run}
use Rattle.engine_core.specs.Fed.{AllHeard, AllReady, AreTaken, IsFed, IsNewest, plays_of, sends_of, sent_of}
use Rattle.engine_core.specs.Letters.{TurnsOn}
use Rattle.engine_core.specs.Shows.{edits_of, made_of}
use Rattle.run_end.specs.Started.{Started}
use Rattle.engine_core.specs.Now.{now_of}
use Rattle.engine_core.specs.UnderWay.{IsUnderWay}
use Rattle.engine_core.proofs.FedLists.{sum_grows}
use Rattle.engine_core.proofs.SerialCycleLemmas.{many_made}
use Rattle.engine_core.proofs.FedTurnLemmas as fed_turn

below_most : (l e b : ℕ) → e ≤ 10000 → b ≤ 100000 → l ≤ (e + 1) * b * (e + 1) + (e + 1) → l < 2 ^ 62
below_most l e b le lb few = omega (arith, few, most, le)
  where
    one : e + 1 ≤ 10001
    one = omega (arith, le)

    most : (e + 1) * b * (e + 1) ≤ 10001 * 100000 * 10001
    most = mul-le-mul (mul-le-mul one lb) one

-- no room is left where more was sent than was received
full_so : (d f : Sender Item) (head depth : ℕ) → 0 < depth → f.depth ≡ depth → d.got ≡ length d.sent → d.got ≤ head → length f.sent < 2 ^ 62 → FoundFull f head → length d.sent < length f.sent
full_so d f head depth deep same heard rises few (inl full) = omega (arith, deep, same, heard, rises, full)
full_so d f head depth deep same heard rises few (inr most) = absurd (omega (arith, few, most))

module _ {V I W : Type 0} (media : MediaOutside V) (inputs : SourceOutside I) (sinks : SinkOutside W) (on : Started V I W) (old new : Run V I W) (idle : Bool) (is : IsUnderWay media inputs sinks on old)
    (now : IsUnderWay media inputs sinks on new) (turned : TurnsOn media on old idle new) (fine : new.failed.read ≡ false) (newest : IsNewest old) (fed : IsFed on.begun.session old) (heard : AllHeard old) where
  abbrev s : Session
  s = on.begun.session

  abbrev E : List Edit
  E = edits_of old

  abbrev G : ℕ
  G = generation E (length E)

  abbrev b : ButlerState V
  b = turned.turns.butler

  abbrev taken : List engine.Ack
  taken = acks_of b.ends.acks.received

  -- ---- what the turn left

  turn : IsTurned media (now_of on old) (rings_of old.pair) turned.answer turned.turns.butler
  turn = turned.turns.turn

  met : EndsMeet old.pair.process.ends turned.turns.butler.ends new.pair.process.ends new.pair.butler.ends
  met = turned.turns.met

  others : AreOtherEnds old.pair.process.ends turned.turns.butler.ends
  others = fed_turn.others media inputs sinks on old new idle is now turned fine newest fed heard

  deep : 0 < s.depth
  deep = fed_turn.deep media inputs sinks on old new idle is now turned fine newest fed heard

  -- all acknowledgements were taken
  acks_all : b.ends.acks.received ≡ old.pair.process.ends.to_butler.sent
  acks_all = fed_turn.acks_all media inputs sinks on old new idle is now turned fine newest fed heard

  next_so : (g : ℕ) → next_block taken g ≡ rolled g (made_of old)
  next_so = fed_turn.next_so media inputs sinks on old new idle is now turned fine newest fed heard

  many_sends : length b.ends.sends.items ≡ length (sends_of old)
  many_sends = fed_turn.many_sends media inputs sinks on old new idle is now turned fine newest fed heard

  is_sent : (t : ℕ) (f : Sender Item) → slice_get b.ends.sends.items t ≡ Some f → fed_turn.IsSent media inputs sinks on old new idle is now turned fine newest fed heard t f
  is_sent = fed_turn.is_sent media inputs sinks on old new idle is now turned fine newest fed heard

  -- the end after the meeting
  mid : (t : ℕ) (f : Sender Item) → slice_get (sends_of new) t ≡ Some f → (m : Sender Item) × (slice_get b.ends.sends.items t ≡ Some m) × (f.sent ≡ m.sent)
  mid = fed_turn.mid media inputs sinks on old new idle is now turned fine newest fed heard

  made_same : made_of new ≡ made_of old
  made_same = fed_turn.made_same media inputs sinks on old new idle is now turned fine newest fed heard

  -- ---- an idle turn

  -- no ring was closed,
  open_before : (t : ℕ) (d : Sender Item) → slice_get (sends_of old) t ≡ Some d → d.closed ≡ false
  open_before t d hd = let p = also_there (sends_of old) old.pair.butler.supplies t d (is.rests.serves.serving.sends ∙ sym is.rests.serves.serving.supplies) hd in
      (is.rests.serves.serving.tracks t p.0 d p.1 hd).closed ∙ is.counts.butler_reads ∙ fed_turn.read_before media inputs sinks on old new idle is now turned fine newest fed heard

  -- and all that was sent was received
  got_all : (t : ℕ) (d : Sender Item) → slice_get (sends_of old) t ≡ Some d → d.got ≡ length d.sent
  got_all t d hd = let q = also_there (sends_of old) (plays_of old) t d (sym is.rests.serves.others.plays.count) hd in (is.rests.serves.met.plays t d q.0 hd q.1).got ∙ ap length (heard t d q.0 hd q.1)

  few_now : (t : ℕ) (f : Sender Item) → slice_get b.ends.sends.items t ≡ Some f → length f.sent < 2 ^ 62
  few_now t f hf = let x = is_sent t f hf in subst (λ n. n < 2 ^ 62) (length-reverse (kinds f.sent) ∙ length-map f.sent (λ i. kind_of i.kind))
      (below_most (length (sent_of f)) (length E) old.pair.butler.cycles (few_edits s E is.rests.serves.edition_of.accepted) is.rests.serves.serving.cycles
      (few_sent s E old.pair.butler.cycles t (length E) (sent_of f) x.tended.stands.kept x.once))

  module _ (leaves : Leaves s old.pair.edition taken 1 0 old.pair.butler b) where
    -- nothing was sent
    none_more : (t : ℕ) (d f : Sender Item) → slice_get (sends_of old) t ≡ Some d → slice_get b.ends.sends.items t ≡ Some f → length f.sent ≤ length d.sent
    none_more t d f hd hf = elim (cases_lt (length d.sent) (length f.sent)) [
      | inr le ↦ le
      | inl more ↦ absurd (omega (
        arith,
        sum_grows (λ (z : Sender Item). length z.sent) (sends_of old) b.ends.sends.items t d f many_sends (λ i x y hx hy. omega (arith, ap length (turn.sends i x y hx hy).sent, length-append x.sent (turn.sends i x y hx hy).items)) hd hf more,
        no_more_in_all (λ (z : Receiver TakeBlock). length z.received) (λ (z : Receiver TakeBlock). length z.received) b.ends.takes.items old.pair.butler.ends.takes.items (sym turn.receives.takes.many)
            (λ i x y hx hy. begins_length y.received x.received (turn.receives.takes.each i y x hy hx).goes_on.received),
        leaves.moved,
      ))
    ]

    -- so nothing is due of a track
    nothing_due : (t : ℕ) (d f : Sender Item) → slice_get (sends_of old) t ≡ Some d → slice_get b.ends.sends.items t ≡ Some f → s.depth ≡ f.depth → IsDone s E old.pair.butler.cycles t taken d f →
        due s E old.pair.butler.cycles t (length E) taken (sent_of f) ≡ None
    nothing_due t d f hd hf same (inl closed) = absurd (true≢false (sym closed ∙ open_before t d hd))
    nothing_due t d f hd hf same (inr (inl full)) = absurd (omega (arith, none_more t d f hd hf, full_so d f full.head s.depth deep (sym same) (got_all t d hd) full.rises (few_now t f hf) full.full))
    nothing_due t d f hd hf same (inr (inr none)) = none

    more_cycles : next_block taken G < old.pair.butler.cycles
    more_cycles = omega (arith, next_so G, rolled_low G (made_of old), many_made old.pair.process, is.rests.entered.room newest.opens, is.rests.asked)

    ready_at : (t : ℕ) (f : Sender Item) → slice_get b.ends.sends.items t ≡ Some f → IsReady s E t G (rolled G (made_of old)) (sent_of f)
    ready_at t f hf = let x = is_sent t f hf in let a = x.tended.stands in
        subst (λ n. IsReady s E t G n (sent_of f)) (next_so G) (nothing_due_is_ready s E old.pair.butler.cycles t a.base x.supply.progress.fresh x.supply.progress.far taken (sent_of f) a.kept
        (subst (λ p. Tracked G p a.base x.supply.progress.fresh x.supply.progress.far (sent_of f)) a.touched_is
        (subst (λ g. Tracked g x.supply.progress.touched a.base x.supply.progress.fresh x.supply.progress.far (sent_of f)) a.generation_is a.tracked))
        (subst (λ g. a.base ≤ next_block taken g) a.generation_is a.passed) deep more_cycles (subst (λ n. none_is_held s.depth G n (sent_of f) ≡ true) (sym (next_so G)) x.free)
        (nothing_due t x.before f x.there hf (sym x.tended.depth) (leaves.done (omega arith) t x.before f x.there hf)))

    ready_by : AllReady s new
    ready_by t f hf = let m = mid t f hf in
        subst (λ l. IsReady s (edits_of new) t (generation (edits_of new) (length (edits_of new))) (rolled (generation (edits_of new) (length (edits_of new))) (made_of new)) (reverse (kinds l))) (sym m.2)
        (subst (λ es. IsReady s (edits_of new) t (generation (edits_of new) (length (edits_of new))) (rolled (generation (edits_of new) (length (edits_of new))) es) (sent_of m.0)) (sym made_same)
        (subst (λ (es : List Edit). IsReady s es t (generation es (length es)) (rolled (generation es (length es)) (made_of old)) (sent_of m.0)) (sym (ap (λ (p : Pair V I W). p.edition.edits) turned.only)) (ready_at t m.0 m.1)))

    heard_by : AllHeard new
    heard_by t f q hf hq = let m = mid t f hf in let x = is_sent t m.0 m.1 in let r = also_there (plays_of new) (plays_of old) t q met.plays.receivers hq in
        ap (λ (z : Receiver Item). z.received) (play_met old.pair.process.ends new.pair.process.ends b.ends new.pair.butler.ends others met t r.0 q r.1 hq) ∙ heard t x.before r.0 x.there r.1
        ∙ sym (m.2 ∙ x.sends.sent ∙ ap (λ l. x.before.sent ++ l) (none_left x.sends.items (omega (arith, none_more t x.before m.0 x.there m.1, ap length x.sends.sent, length-append x.before.sent x.sends.items)))
        ∙ append-nil x.before.sent)
      where
        none_left : (items : List Item) → length items ≤ 0 → items ≡ []
        none_left [] le = refl
        none_left (i ∷ items) le = absurd (omega (arith, le))

  leaves_by : (answer : Result Turn ButlerFault) → is_idle_answer answer ≡ true → IsTurned media (now_of on old) (rings_of old.pair) answer b → Leaves s old.pair.edition taken 1 0 old.pair.butler b
  leaves_by (Ok (Moved n)) e t = absurd (false≢true e)
  leaves_by (Err fault) e t = absurd (false≢true e)
  leaves_by (Ok Idle) e t = t.answers

  are_taken : AreTaken new
  are_taken = ap (λ (r : Receiver Ack). r.received) (acks_met old.pair.process.ends new.pair.process.ends b.ends new.pair.butler.ends others met) ∙ acks_all ∙ sym (ap (λ (d : Sender Ack). d.sent) met.acks.sender)

  -- **After an idle turn all is sent that the cycle plays.**
  pub idle_is_ready : idle ≡ true → AllReady s new × AllHeard new × AreTaken new
  idle_is_ready e = let leaves = leaves_by turned.answer (sym turned.idle_is ∙ e) turned.turns.turn in (ready_by leaves, heard_by leaves, are_taken)
