-- The entry of a cycle in which all is ready plays as the plain one, whatever it takes, and it is acknowledged.
use Rattle.std.proofs.Common.{◌≡◌, inl, inr, ℕ, suc, ◌<◌, ◌≤◌, List, [], ◌∷◌, ◌++◌, length, refl, sym, ap, subst, arith, ◌∙◌}
use Rattle.std.specs.Prelude.{Bool, true, false, ◌==◌, max, if◌then◌else◌, map, reverse, slice_get, slice_index_or, Some}
use Rattle.std.proofs.lemmas.Bool.{eqb-true}
use Rattle.std.proofs.lemmas.List.{length-map, length-reverse, map-append}
use Rattle.std.proofs.lemmas.Option.{get_or_from_slice_get, same_Some, slice_get_within}
use mathlib.Core.List.{IsPrefix}
use Rattle.ses_io.specs.Outside.{MediaOutside, SourceOutside, SinkOutside}
use Rattle.session_model.specs.declared.session.Session.{Session}
use Rattle.session_model.specs.declared.edit.Edit.{Edit}
use Rattle.engine_model.specs.Cycle.{entry_of}
use Rattle.engine_model.specs.Due.{next_block}
use Rattle.engine_model.specs.Edits.{generation}
use Rattle.engine_model.specs.Editions.{edition}
use Rattle.engine_model.specs.Items.{Kind}
use Rattle.engine_model.specs.Journal.{Entry, is_rolling_in, rolled}
use Rattle.engine_model.specs.Plain.{plain_entry, plain_state}
use Rattle.engine_laws.specs.SerialLaws.{IsReady}
use Rattle.engine_laws.proofs.ListLemmas.{item_at}
use Rattle.machine_laws.proofs.Tracks.{also_there, of_mapped}
use Rattle.machine_laws.proofs.TurnLemmas.{rolled_rises}
use Rattle.edition_log.proofs.PlayLaws.{editions_play_their_places}
use Rattle.disk_ring.specs.Receiver.{Receiver}
use Rattle.disk_ring.specs.Sender.{FoundFull, Sender}
use Rattle.piece_item.specs.declared.ack.Ack.{Ack}
use Rattle.piece_item.specs.declared.item.Item.{Item}
use Rattle.piece_item.specs.Views.{ack_of as seen_ack}
use Rattle.cycle_journal.specs.JournalView.{seen_entry, seen_note}
use Rattle.read_ahead.specs.Items.{kinds}
use Rattle.butler.specs.Sends.{acks_of}
use Rattle.track_playback.specs.SpareBoxes.{received_kinds}
use Rattle.process_cycle.specs.Cycles.{Acknowledges, MakesEntry, ack_of}
use Rattle.process_cycle.specs.ProcessState.{ProcessState, entries_of, kinds_of}
use Rattle.worker_pair.specs.declared.pair.Pair.{Pair}
use Rattle.worker_pair.specs.Plays.{Looks}
use Rattle.worker_pair.specs.Runs.{Runs, given_last}
use Rattle.worker_pair.proofs.LookLemmas.{kinds_turned}
use Rattle.engine_core.specs.declared.run.Run.{Run}
use Rattle.engine_core.specs.Fed.{AllHeard, AllReady, IsFed, IsNewest, PlaysAs, plays_of, sends_of}
use Rattle.engine_core.specs.Letters.{CyclesOn}
use Rattle.engine_core.specs.Shows.{edits_of, made_of}
use Rattle.run_end.specs.Started.{Started}
use Rattle.engine_core.specs.Now.{now_of}
use Rattle.engine_core.specs.UnderWay.{IsUnderWay}
use Rattle.engine_core.proofs.FedLists.{entry_plays, next_with, told_few}
use Rattle.engine_core.proofs.FedLookLemmas.{track_at}
use Rattle.engine_core.proofs.GatherLemmas.{old_runs}
use Rattle.engine_core.proofs.GrowLemmas.{more_made}
use Rattle.run_end.proofs.LastTurnLemmas.{same_begins}
use Rattle.engine_core.proofs.SerialCycleLemmas.{many_made}
use Rattle.engine_core.proofs.ServeLemmas.{enters_none}

-- a ring of acknowledgements of which all were received isn't full
never_full : (d : Sender Ack) (head : ℕ) → 0 < d.depth → length d.sent ≤ 100000 → d.got ≡ length d.sent → d.got ≤ head → FoundFull d head → ⊥
never_full d head deep few emptied rises (inl full) = omega (arith, deep, emptied, rises, full)
never_full d head deep few emptied rises (inr most) = omega (arith, few, most)

-- what one end has received, where nothing else is asked there
grown : (old now : List (Receiver Item)) (t : ℕ) (r mid : Receiver Item) → slice_get old t ≡ Some r → slice_get now t ≡ Some mid → IsPrefix (slice_index_or old t r).received (slice_index_or now t r).received →
    IsPrefix r.received mid.received
grown old now t r mid here there more = subst (λ (z : Receiver Item). IsPrefix r.received z.received) (get_or_from_slice_get now t mid r there)
    (subst (λ (z : Receiver Item). IsPrefix z.received (slice_index_or now t r).received) (get_or_from_slice_get old t r r here) more)

-- where all was received before, all is still
all_received : (q mid x : Receiver Item) (d : Sender Item) → q.received ≡ mid.received → IsPrefix mid.received d.sent → x.received ≡ d.sent → IsPrefix x.received mid.received → q.received ≡ d.sent
all_received q mid x d same begins was more = same ∙ same_begins mid.received d.sent begins (subst (λ l. IsPrefix l mid.received) was more)

module _ {V I W : Type 0} (media : MediaOutside V) (inputs : SourceOutside I) (sinks : SinkOutside W) (on : Started V I W) (served new : Run V I W) (is : IsUnderWay media inputs sinks on served)
    (newest : IsNewest served) (fed : IsFed on.begun.session served) (heard : AllHeard served) (ready : AllReady on.begun.session served) (cycles : CyclesOn inputs sinks on served new) where
  abbrev s : Session
  s = on.begun.session

  abbrev g : Run V I W
  g = cycles.gathered

  abbrev E : List Edit
  E = edits_of served

  abbrev G : ℕ
  G = generation E (length E)

  entered_same : cycles.gathers.entered ≡ served
  entered_same = enters_none served cycles.gathers.entered cycles.gathers.enters newest.opens

  pub looked : Looks served.pair cycles.gathered.pair
  looked = subst (λ (r : Run V I W). Looks r.pair cycles.gathered.pair) entered_same (cycles.gathers.looks (ap (λ (r : Run V I W). r.pair.in_cycle) entered_same ∙ newest.opens))

  running : Runs media inputs sinks (now_of on served) served.pair
  running = old_runs media inputs sinks on served is newest.opens

  many : length (plays_of served) ≡ length (sends_of served)
  many = is.rests.serves.others.plays.count

  -- ---- after the look

  pub made_looked : made_of g ≡ made_of served
  made_looked = ap entries_of looked.met.process_is ∙ ap (λ (z : ProcessState I W). entries_of z) looked.keeps.same

  pub acks_looked : g.pair.process.ends.to_butler.sent ≡ served.pair.process.ends.to_butler.sent
  acks_looked = ap (λ (d : Sender Ack). d.sent) looked.met.ends.acks.sender ∙ ap (λ (z : ProcessState I W). z.ends.to_butler.sent) looked.keeps.same

  -- What a track has sent, and received.
  record HasAll (t : ℕ) (q : Receiver Item) : Type 0 where
    send : Sender Item
    send_at : slice_get (sends_of served) t ≡ Some send
    all : q.received ≡ send.sent

  pub many_g : length (plays_of g) ≡ length (sends_of g)
  many_g = looked.met.ends.plays.receivers ∙ looked.looks.many ∙ many ∙ sym looked.met.ends.plays.senders

  -- what one had received it has
  grows_at : (t : ℕ) (x mid : Receiver Item) → slice_get (plays_of served) t ≡ Some x → slice_get looked.process.ends.plays.items t ≡ Some mid → IsPrefix x.received mid.received
  grows_at t x mid hx hmid = let within = slice_get_within (plays_of served) t x hx in
      let e = item_at served.pair.process.playbacks t (subst (λ n. t < n) (running.playing.plays ∙ sym running.playing.playbacks) within) in
      grown (plays_of served) looked.process.ends.plays.items t x mid hx hmid (looked.looks.looks t x e.0 within).ring.received

  looked_by : (t : ℕ) (f : Sender Item) (q : Receiver Item) → slice_get (sends_of g) t ≡ Some f → slice_get (plays_of g) t ≡ Some q → HasAll t q
  looked_by t f q hf hq = let a = track_at s served.pair g.pair looked many t f q hf hq in let x = also_there looked.process.ends.plays.items (plays_of served) t a.mid looked.looks.many a.mid_at in record {
    send = a.send;
    send_at = a.send_at;
    all = all_received q a.mid x.0 a.send a.received a.begins (heard t a.send x.0 a.send_at x.1) (grows_at t x.0 a.mid x.1 a.mid_at);
  }

  looked_at : (t : ℕ) (q : Receiver Item) → slice_get (plays_of g) t ≡ Some q → HasAll t q
  looked_at t q hq = let f = also_there (plays_of g) (sends_of g) t q many_g hq in looked_by t f.0 q f.1 hq

  -- what a track had sent, and that all of it was received
  pub sent_looked : (t : ℕ) (x : Sender Item) → slice_get (sends_of g) t ≡ Some x → (d : Sender Item) × (slice_get (sends_of served) t ≡ Some d) × (x.sent ≡ d.sent)
  sent_looked t x hx = let q = also_there (sends_of g) (plays_of g) t x (sym many_g) hx in let a = track_at s served.pair g.pair looked many t x q.0 hx q.1 in (a.send, a.send_at, a.sent)

  pub heard_looked : (t : ℕ) (x : Sender Item) (y : Receiver Item) → slice_get (sends_of g) t ≡ Some x → slice_get (plays_of g) t ≡ Some y → y.received ≡ x.sent
  heard_looked t x y hx hy = let a = track_at s served.pair g.pair looked many t x y hx hy in let b = looked_by t x y hx hy in
      b.all ∙ ap (λ (z : Sender Item). z.sent) (same_Some b.send a.send (sym b.send_at ∙ a.send_at)) ∙ sym a.sent

  -- ---- the entry

  tracks_ready : (t : ℕ) (xs : List Kind) → slice_get (kinds_of g.pair.process) t ≡ Some xs → IsReady s E t G (rolled G (made_of served)) xs
  tracks_ready t xs hx = let q = of_mapped received_kinds (plays_of g) t xs hx in let a = looked_at t q.0 q.1 in
      subst (IsReady s E t G (rolled G (made_of served))) (sym (q.2 ∙ kinds_turned q.0.received ∙ ap (λ l. reverse (kinds l)) a.all)) (ready t a.send a.send_at)

  many_tracks : length (kinds_of g.pair.process) ≡ length s.tracks.items
  many_tracks = length-map (plays_of g) received_kinds ∙ looked.met.ends.plays.receivers ∙ looked.looks.many ∙ many ∙ is.rests.serves.serving.sends

  module _ (c : ProcessState I W) (m : MakesEntry s g.pair.playing g.pair.process c) where
    abbrev made : Entry
    made = seen_entry m.made

    playing_is : g.pair.playing.edits ≡ E
    playing_is = ap (λ (p : Pair V I W). p.playing.edits) looked.same ∙ newest.newest

    entry_is : made ≡ entry_of s E (made_of served) (kinds_of g.pair.process) m.takes (length E)
    entry_is = m.entry ∙ ap (λ (es : List Edit). entry_of s es (made_of g) (kinds_of g.pair.process) m.takes (length es)) playing_is
        ∙ ap (λ es. entry_of s E es (kinds_of g.pair.process) m.takes (length E)) made_looked

    long : length (entry_of s E (made_of served) (kinds_of g.pair.process) m.takes (length E)).notes ≡ length (kinds_of g.pair.process)
    long = ap (λ (e : Entry). length e.notes) (sym entry_is) ∙ length-map m.made.notes.items seen_note ∙ m.notes ∙ takes_many ∙ sym many_tracks
      where
        takes_many : length g.pair.process.ends.takes.items ≡ length s.tracks.items
        takes_many = looked.met.ends.takes.senders ∙ ap (λ (z : ProcessState I W). length z.ends.takes.items) looked.keeps.same ∙ sym is.rests.serves.others.takes.count ∙ is.rests.serves.serving.takes

    -- **It plays as the plain one.**
    pub entry_is_plain : PlaysAs (plain_entry s E (made_of served)) made
    entry_is_plain = subst (PlaysAs (plain_entry s E (made_of served))) (sym entry_is) (entry_plays s E (made_of served) (kinds_of g.pair.process) m.takes many_tracks tracks_ready long)

    -- ---- the acknowledgement

    abbrev ring : Sender Ack
    ring = g.pair.process.ends.to_butler

    module _ (taken : served.pair.butler.ends.acks.received ≡ served.pair.process.ends.to_butler.sent) where
      got_all : ring.got ≡ length ring.sent
      got_all = ap (λ (d : Sender Ack). d.got) looked.met.ends.acks.sender ∙ ap length taken ∙ ap length (sym acks_looked)

      depth_is : ring.depth ≡ s.depth
      depth_is = ap (λ (d : Sender Ack). d.depth) looked.met.ends.acks.sender ∙ ap (λ (z : ProcessState I W). z.ends.to_butler.depth) looked.keeps.same ∙ running.playing.to_butler.depth

      few : length ring.sent ≤ 100000
      few = let acks = served.pair.process.ends.to_butler in omega (
        arith,
        ap length acks_looked,
        length-reverse (map seen_ack acks.sent),
        length-map acks.sent seen_ack,
        told_few (given_last served.pair) s.depth (made_of served) (reverse (map seen_ack acks.sent)) (reverse acks.heads) is.rests.promises.to_butler,
        many_made served.pair.process,
        is.rests.entered.room newest.opens,
        is.rests.asked,
        is.rests.serves.serving.cycles,
      )

      -- it was put
      put : Acknowledges (ack_of c m.made) ring c.ends.to_butler → c.ends.to_butler.sent ≡ ring.sent ++ ack_of c m.made ∷ []
      put (inl p) = ap (λ (d : Sender Ack). d.sent) p.1.sent
      put (inr full) = absurd (never_full ring full.0 (omega (arith, depth_is, is.rests.serves.serving.valid.formed.limits.depth.least)) few got_all full.1.head_is.rises full.1.full)

      generation_is : c.generation ≡ G
      generation_is = ap (λ (z : ProcessState I W). z.generation) m.same ∙ ap (λ (z : ProcessState I W). z.generation) looked.met.process_is ∙ looked.looks.generation
          ∙ (editions_play_their_places s served.pair.playing is.rests.entered.edition_of).counted ∙ ap (λ (es : List Edit). generation es (length es)) newest.newest

      pub entries_now : entries_of c ≡ made ∷ made_of served
      entries_now = more_made g.pair.process c m.made m.noted ∙ ap (λ l. made ∷ l) made_looked

      -- each block that was played was acknowledged
      pub acks_now : (h : ℕ) → next_block (acks_of c.ends.to_butler.sent) h ≡ rolled h (made ∷ made_of served)
      acks_now h = ap (λ l. next_block (acks_of l) h) (put m.to_butler) ∙ ap (λ l. next_block l h) (map-append seen_ack ring.sent (ack_of c m.made ∷ []))
          ∙ next_with (acks_of ring.sent) (seen_ack (ack_of c m.made)) h
          ∙ ap (λ n. if c.generation == h then max (rolled c.generation (entries_of c)) n else n) (ap (λ l. next_block (acks_of l) h) acks_looked ∙ fed.acks h) ∙ by (c.generation == h) refl
        where
          highest : (a b : ℕ) → a ≤ b → max b a ≡ b
          highest a b le = omega (arith, le)

          none_rolled : (rolls : Bool) (n : ℕ) → (G == h) ≡ false → is_rolling_in h (plain_state rolls G n) ≡ false
          none_rolled false n is = refl
          none_rolled true n is = is

          by : (b : Bool) → (c.generation == h) ≡ b → (if b then max (rolled c.generation (entries_of c)) (rolled h (made_of served)) else rolled h (made_of served)) ≡ rolled h (made ∷ made_of served)
          by true e = ap (λ k. max (rolled k (entries_of c)) (rolled h (made_of served))) (eqb-true c.generation h e) ∙ ap (λ l. max (rolled h l) (rolled h (made_of served))) entries_now
              ∙ highest (rolled h (made_of served)) (rolled h (made ∷ made_of served)) (rolled_rises h made (made_of served))
          by false e = sym (ap (λ b. if b then suc (rolled h (made_of served)) else rolled h (made_of served)) (ap (is_rolling_in h) entry_is_plain.state
              ∙ none_rolled (edition s E (length E)).transport.rolling (rolled G (made_of served)) (sym (ap (λ k. k == h) generation_is) ∙ e)))
