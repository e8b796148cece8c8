-- A look in a run without letters receives all that was sent, since none of it is held; and the cycle after it plays as the plain one.
use Rattle.std.proofs.Common.{◌≡◌, inl, inr, ℕ, ◌<◌, ◌≤◌, List, ◌∷◌, ◌++◌, length, sym, ap, subst, ◌∙◌, le_antisymm}
use Rattle.std.specs.Prelude.{true, not, map, reverse, slice_get, slice_index_or, Some}
use Rattle.std.proofs.lemmas.Bool.{and_parts, cases_lt, true≢false}
use Rattle.std.proofs.lemmas.List.{map-append, reverse-append}
use Rattle.std.proofs.lemmas.List.Folds.{list_all-append}
use Rattle.std.proofs.lemmas.Option.{get_or_from_slice_get, slice_get_within}
use mathlib.Core.List.{IsPrefix}
use Rattle.ses_io.specs.Outside.{MediaOutside, SourceOutside, SinkOutside}
use Rattle.session_model.specs.declared.session.Session.{Session}
use Rattle.engine_model.specs.Cycle.{is_held}
use Rattle.engine_model.specs.Due.{next_block}
use Rattle.engine_model.specs.Edits.{generation}
use Rattle.engine_model.specs.Items.{Kind}
use Rattle.engine_model.specs.Items as engine
use Rattle.engine_model.specs.Journal.{rolled}
use Rattle.engine_laws.specs.SerialLaws.{none_is_held}
use Rattle.engine_laws.proofs.HeldLemmas.{none_is_held_later}
use Rattle.engine_laws.proofs.ListLemmas.{item_at}
use Rattle.machine_laws.specs.Stands.{each_once}
use Rattle.machine_laws.proofs.Tracks.{also_there}
use Rattle.edition_log.specs.EditionState.{EditionState}
use Rattle.edition_log.proofs.PlayLaws.{editions_play_their_places}
use Rattle.disk_ring.specs.Receiver.{Receiver}
use Rattle.disk_ring.specs.Sender.{Sender}
use Rattle.piece_item.specs.declared.item.Item.{Item}
use Rattle.piece_item.specs.Views.{item_of, kind_of}
use Rattle.read_ahead.specs.Items.{kinds}
use Rattle.butler.specs.ButlerState.{ButlerState}
use Rattle.butler.specs.Sends.{acks_of}
use Rattle.piece_item.specs.declared.ack.Ack.{Ack}
use Rattle.track_playback.specs.declared.playback.SpareBox.{SpareBox}
use Rattle.track_playback.specs.declared.playback.SpareBox.TheVariants.{Husk, Held, Lent}
use Rattle.track_playback.specs.Looks.{EndsWith, HasAllTold}
use Rattle.track_playback.specs.SpareBoxes.{HoldsTheLast, offers}
use Rattle.process_ends.specs.Ends.{Meet}
use Rattle.process_cycle.specs.ProcessState.{ProcessState, entries_of, position_of}
use Rattle.worker_pair.specs.declared.pair.Pair.{Pair}
use Rattle.worker_pair.specs.Plays.{Looks}
use Rattle.worker_pair.proofs.LookLemmas.{kinds_turned}
use Rattle.engine_core.specs.declared.run.Run.{Run}
use Rattle.engine_core.specs.Fed.{AllHeard, IsFed, IsNewest, plays_of, sends_of, sent_of}
use Rattle.engine_core.specs.Letters.{GathersOn}
use Rattle.engine_core.specs.Shows.{made_of}
use Rattle.run_end.specs.Started.{Started}
use Rattle.engine_core.specs.UnderWay.{IsUnderWay}
use Rattle.engine_core.proofs.GatherLemmas.{old_runs}
use Rattle.run_end.proofs.LastTurnLemmas.{same_begins}
use Rattle.engine_core.proofs.ServeLemmas.{enters_none}

-- what was received last of what was sent isn't held
not_held : (depth g n : ℕ) (sent received : List Item) (x : engine.Item) (more : List engine.Item) → IsPrefix received sent → none_is_held depth g n (reverse (kinds sent)) ≡ true →
    reverse (map item_of received) ≡ x ∷ more → is_held depth g n x.kind ≡ true → ⊥
not_held depth g n sent received x more begins free last held = true≢false (sym (and_parts (not (is_held depth g n x.kind)) (none_is_held depth g n (map (λ y. y.kind) more))
    (ap (none_is_held depth g n) (sym (sym (kinds_turned received) ∙ ap (map (λ y. y.kind)) last)) ∙ back)).0 ∙ ap not held)
  where
    split : reverse (kinds sent) ≡ reverse (kinds begins.0) ++ reverse (kinds received)
    split = ap (λ l. reverse (kinds l)) (sym begins.1) ∙ ap reverse (map-append (λ i. kind_of i.kind) received begins.0) ∙ reverse-append (kinds received) (kinds begins.0)

    back : none_is_held depth g n (reverse (kinds received)) ≡ true
    back = (and_parts (none_is_held depth g n (reverse (kinds begins.0))) (none_is_held depth g n (reverse (kinds received)))
        (sym (list_all-append (λ x. not (is_held depth g n x)) (reverse (kinds begins.0)) (reverse (kinds received))) ∙ ap (none_is_held depth g n) (sym split) ∙ free)).1

-- ---- a look

module _ {V I W : Type 0} (s : Session) (old new : Pair V I W) (looks : Looks old new) (many : length old.process.ends.plays.items ≡ length old.butler.ends.sends.items) where
  many_mid : length looks.process.ends.plays.items ≡ length old.butler.ends.sends.items
  many_mid = looks.looks.many ∙ many

  -- the ends of a track before and after
  pub record IsTrack (t : ℕ) (f : Sender Item) (q : Receiver Item) : Type 0 where
    pub send : Sender Item
    pub send_at : slice_get old.butler.ends.sends.items t ≡ Some send
    pub sent : f.sent ≡ send.sent
    pub mid : Receiver Item
    pub mid_at : slice_get looks.process.ends.plays.items t ≡ Some mid
    pub received : q.received ≡ mid.received
    pub begins : IsPrefix mid.received send.sent

  pub track_at : (t : ℕ) (f : Sender Item) (q : Receiver Item) → slice_get new.butler.ends.sends.items t ≡ Some f → slice_get new.process.ends.plays.items t ≡ Some q → IsTrack t f q
  track_at t f q hf hq = let m = looks.met.ends.plays in let d = also_there new.butler.ends.sends.items old.butler.ends.sends.items t f m.senders hf in
      let y = also_there new.process.ends.plays.items looks.process.ends.plays.items t q m.receivers hq in
      let meet : Meet d.0 y.0 f q = subst (λ (z : Sender Item). Meet z y.0 f q) (get_or_from_slice_get old.butler.ends.sends.items t d.0 d.0 d.1)
      (subst (λ (z : Receiver Item). Meet (slice_index_or old.butler.ends.sends.items t d.0) z f q) (get_or_from_slice_get looks.process.ends.plays.items t y.0 y.0 y.1)
      (subst (λ (z : Sender Item). Meet (slice_index_or old.butler.ends.sends.items t d.0) (slice_index_or looks.process.ends.plays.items t y.0) z q) (get_or_from_slice_get new.butler.ends.sends.items t f d.0 hf)
      (subst (λ (z : Receiver Item). Meet (slice_index_or old.butler.ends.sends.items t d.0) (slice_index_or looks.process.ends.plays.items t y.0) (slice_index_or new.butler.ends.sends.items t d.0) z)
      (get_or_from_slice_get new.process.ends.plays.items t q y.0 hq) (m.each t d.0 y.0 (slice_get_within old.butler.ends.sends.items t d.0 d.1))))) in record {
        send = d.0;
        send_at = d.1;
        sent = ap (λ (z : Sender Item). z.sent) meet.sender;
        mid = y.0;
        mid_at = y.1;
        received = ap (λ (z : Receiver Item). z.received) meet.receiver;
        begins = meet.met.passed.begins;
      }

module _ {V I W : Type 0} (media : MediaOutside V) (inputs : SourceOutside I) (sinks : SinkOutside W) (on : Started V I W) (old new : Run V I W) (is : IsUnderWay media inputs sinks on old)
    (now : IsUnderWay media inputs sinks on new) (gathers : GathersOn old new) (newest : IsNewest old) (fed : IsFed on.begun.session old) where
  abbrev s : Session
  s = on.begun.session

  entered_same : gathers.entered ≡ old
  entered_same = enters_none old gathers.entered gathers.enters newest.opens

  looked : Looks old.pair new.pair
  looked = subst (λ (r : Run V I W). Looks r.pair new.pair) entered_same (gathers.looks (ap (λ (r : Run V I W). r.pair.in_cycle) entered_same ∙ newest.opens))

  many_old : length (plays_of old) ≡ length (sends_of old)
  many_old = is.rests.serves.others.plays.count

  opens_now : new.pair.in_cycle ≡ true
  opens_now = ap (λ (p : Pair V I W). p.in_cycle) looked.same ∙ newest.opens

  abbrev P : ℕ
  P = generation old.pair.playing.edits (length old.pair.playing.edits)

  -- where the process stands
  generation_is : looked.process.generation ≡ P
  generation_is = looked.looks.generation ∙ (editions_play_their_places s old.pair.playing is.rests.entered.edition_of).counted

  process_is : new.pair.process ≡ record looked.process { ends = new.pair.process.ends }
  process_is = looked.met.process_is

  made_same : made_of new ≡ made_of old
  made_same = ap entries_of looked.met.process_is ∙ ap (λ (z : ProcessState I W). entries_of z) looked.keeps.same

  depth_is : looked.process.depth ≡ s.depth
  depth_is = ap (λ (z : ProcessState I W). z.depth) (sym looked.met.process_is) ∙ (old_runs media inputs sinks on new now opens_now).playing.depth

  next_is : looked.process.next ≡ rolled P (made_of old)
  next_is = ap (λ (z : ProcessState I W). z.next) (sym looked.met.process_is) ∙ (old_runs media inputs sinks on new now opens_now).playing.next
      ∙ ap (λ (z : ProcessState I W). rolled z.generation (made_of new)) looked.met.process_is ∙ ap (λ g. rolled g (made_of new)) generation_is ∙ ap (rolled P) made_same

  -- there nothing is held
  free_at : (t : ℕ) (d : Sender Item) → slice_get (sends_of old) t ≡ Some d → none_is_held looked.process.depth looked.process.generation looked.process.next (sent_of d) ≡ true
  free_at t d hd = subst (λ n. none_is_held n looked.process.generation looked.process.next (sent_of d) ≡ true) (sym depth_is)
      (subst (λ g. none_is_held s.depth g looked.process.next (sent_of d) ≡ true) (sym generation_is)
      (subst (λ n. none_is_held s.depth P n (sent_of d) ≡ true) (sym next_is) (elim (cases_lt fed.from P) [
        | inl lt ↦ none_is_held_later s.depth fed.from (rolled fed.from (made_of old)) P (rolled P (made_of old)) (sent_of d) (inl lt) (fed.free t d hd)
        | inr ge ↦ subst (λ g. none_is_held s.depth g (rolled g (made_of old)) (sent_of d) ≡ true) (le_antisymm fed.reached ge) (fed.free t d hd)
      ])))

  -- by how the look of a track ended
  all_by : (d : Sender Item) (x y : Receiver Item) (spare : SpareBox) → none_is_held looked.process.depth looked.process.generation looked.process.next (sent_of d) ≡ true → x.heard ≡ d.sent →
      IsPrefix y.received d.sent → HoldsTheLast y spare → EndsWith (position_of looked.process) x y spare → HasAllTold x y spare → y.received ≡ d.sent
  all_by d x y (Husk box) free heard begins last ends told = same_begins y.received d.sent begins (subst (λ l. IsPrefix l y.received) heard told)
  all_by d x y (Held box) free heard begins last ends told =
      absurd (not_held looked.process.depth looked.process.generation looked.process.next d.sent y.received (item_of box.value) (offers y (Held box)) begins free last ends.0)
  all_by d x y Lent free heard begins last ends told = absurd ends

  -- **All is heard.**
  pub look_hears : AllHeard new
  look_hears t f q hf hq = let a = track_at s old.pair new.pair looked many_old t f q hf hq in
      let x = also_there looked.process.ends.plays.items (plays_of old) t a.mid looked.looks.many a.mid_at in let within = slice_get_within (plays_of old) t x.0 x.1 in
      let e = item_at old.pair.process.playbacks t (subst (λ n. t < n) ((old_runs media inputs sinks on old is newest.opens).playing.plays ∙ sym (old_runs media inputs sinks on old is newest.opens).playing.playbacks) within) in
      let looks = looked.looks.looks t x.0 e.0 within in
      let spare = (slice_index_or looked.process.playbacks t e.0).spare in
      a.received ∙ all_by a.send x.0 a.mid spare (free_at t a.send a.send_at) (is.rests.serves.met.plays t a.send x.0 a.send_at x.1).heard a.begins
      (subst (λ (z : Receiver Item). HoldsTheLast z spare) (get_or_from_slice_get looked.process.ends.plays.items t a.mid x.0 a.mid_at) looks.last)
      (subst (λ (z : Receiver Item). EndsWith (position_of looked.process) z a.mid spare) (get_or_from_slice_get (plays_of old) t x.0 x.0 x.1)
      (subst (λ (z : Receiver Item). EndsWith (position_of looked.process) (slice_index_or (plays_of old) t x.0) z spare) (get_or_from_slice_get looked.process.ends.plays.items t a.mid x.0 a.mid_at) looks.ends))
      (subst (λ (z : Receiver Item). HasAllTold z a.mid spare) (get_or_from_slice_get (plays_of old) t x.0 x.0 x.1)
      (subst (λ (z : Receiver Item). HasAllTold (slice_index_or (plays_of old) t x.0) z spare) (get_or_from_slice_get looked.process.ends.plays.items t a.mid x.0 a.mid_at) looks.told))
      ∙ sym a.sent

  sent_before : (t : ℕ) (f : Sender Item) → slice_get (sends_of new) t ≡ Some f → (d : Sender Item) × (slice_get (sends_of old) t ≡ Some d) × (f.sent ≡ d.sent)
  sent_before t f hf = let q = also_there (sends_of new) (plays_of new) t f (sym now.rests.serves.others.plays.count) hf in let a = track_at s old.pair new.pair looked many_old t f q.0 hf q.1 in
      (a.send, a.send_at, a.sent)

  -- **And it is fed still.**
  pub look_feeds : IsFed s new
  look_feeds = record {
    from = fed.from;
    reached = subst (λ (e : EditionState). fed.from ≤ generation e.edits (length e.edits)) (sym (ap (λ (p : Pair V I W). p.playing) looked.same)) fed.reached;
    free = λ t f hf. let d = sent_before t f hf in subst (λ es. none_is_held s.depth fed.from (rolled fed.from es) (sent_of f) ≡ true) (sym made_same)
        (subst (λ l. none_is_held s.depth fed.from (rolled fed.from (made_of old)) (reverse (kinds l)) ≡ true) (sym d.2) (fed.free t d.0 d.1));
    once = λ t f hf. let d = sent_before t f hf in subst (λ n. each_once n (sent_of f) ≡ true) (sym (ap (λ (b : ButlerState V). b.cycles) looked.met.butler))
        (subst (λ l. each_once old.pair.butler.cycles (reverse (kinds l)) ≡ true) (sym d.2) (fed.once t d.0 d.1));
    acks = λ g. ap (λ l. next_block (acks_of l) g) (ap (λ (z : Sender Ack). z.sent) looked.met.ends.acks.sender ∙ ap (λ (z : ProcessState I W). z.ends.to_butler.sent) looked.keeps.same) ∙ fed.acks g ∙ ap (rolled g) (sym made_same);
  }

  pub look_newest : IsNewest new
  look_newest = record {
    opens = opens_now;
    newest = ap (λ (p : Pair V I W). p.playing.edits) looked.same ∙ newest.newest ∙ sym (ap (λ (p : Pair V I W). p.edition.edits) looked.same);
  }
