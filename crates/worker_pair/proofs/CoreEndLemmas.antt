-- The end of a cycle of the process is that of the core machine: tracks are captured, the entry is made, and acknowledged.
use Rattle.std.proofs.Common.{◌≡◌, ℕ, suc, ◌<◌, ◌≤◌, List, ◌∷◌, length, refl, sym, ap, subst, arith, le_refl, ◌∙◌}
use Rattle.std.specs.Prelude.{true, ◌&&◌, map, reverse, slice_get, Some}
use Rattle.std.proofs.lemmas.List.{length-map}
use Rattle.std.proofs.lemmas.Option.{get_or_from_slice_get, slice_get_within}
use Rattle.ses_io.specs.Outside.{MediaOutside, SourceOutside, SinkOutside}
use Rattle.session_model.specs.declared.session.Session.{Session}
use Rattle.engine_model.specs.Cycle.{entry_of, state_of}
use Rattle.engine_model.specs.Edits.{generation}
use Rattle.engine_model.specs.Editions.{edition}
use Rattle.engine_model.specs.Fits.{fits_take, next_take, records}
use Rattle.engine_model.specs.Journal as engine
use Rattle.engine_model.specs.Journal.{is_rolling, rolled}
use Rattle.engine_laws.proofs.ListLemmas.{item_at}
use Rattle.machine_model.specs.Core.{AckRing, Core, TrackState, coming_state, playing_generation, received_of}
use Rattle.machine_model.specs.Events.{after, begun, have_looked, is_recorded, take_made}
use Rattle.machine_model.specs.Letters.{ends_cycle}
use Rattle.machine_laws.proofs.CaptureLemmas.{capture_if, captured_from, captured_received}
use Rattle.machine_laws.proofs.Tracks.{also_there, of_mapped}
use Rattle.disk_ring.specs.Sender.{Sender}
use Rattle.disk_ring.specs.Receiver.{Receiver}
use Rattle.piece_item.specs.Views as views
use Rattle.piece_item.specs.declared.ack.Ack.{Ack}
use Rattle.piece_item.specs.declared.butler_ends.ButlerEnds.{ButlerEnds}
use Rattle.piece_item.specs.declared.item.Item.{Item}
use Rattle.piece_item.specs.declared.take_block.TakeBlock.{TakeBlock}
use Rattle.cycle_journal.specs.declared.note.Note.{Note}
use Rattle.cycle_journal.specs.JournalView.{seen_take}
use Rattle.track_playback.specs.SpareBoxes.{received_kinds}
use Rattle.process_ends.specs.declared.ends.ProcessEnds.{ProcessEnds}
use Rattle.process_cycle.specs.Cycles.{MakesEntry, ack_of}
use Rattle.process_ends.specs.Ends.{EndsMeet}
use Rattle.process_cycle.specs.ProcessState.{ProcessState, entries_of, kinds_of}
use Rattle.worker_pair.specs.declared.pair.Pair.{Pair}
use Rattle.worker_pair.specs.Begun.{At}
use Rattle.worker_pair.specs.Plays.{MayCycle}
use Rattle.worker_pair.specs.Tied.{IsControlRing, IsTied, IsTrackOf, AreRingsOf}
use Rattle.worker_pair.proofs.MetLemmas.{meet_at, rings_met}
use Rattle.worker_pair.proofs.LookLemmas.{kinds_turned}
use Rattle.worker_pair.proofs.LongerLemmas.{edition_longer, entry_longer, generation_longer}
use Rattle.worker_pair.proofs.GatherLemmas.{received_newest}
use Rattle.worker_pair.proofs.CaptureLemmas.{IsCapturedTo, captured_at, captured_many, captured_so, captured_track, few_captured}
use Rattle.worker_pair.proofs.EntryLemmas.{ack_now, acked, acked_told, acks_told, ended_core, ends_so, entry_now, same_maps}
use Rattle.worker_pair.proofs.CycleLemmas as cycles
use Rattle.worker_pair.proofs.CycleLemmas.{edition_is, entries_are, entry_by, many_entries, one_more_entry, state_is, take_fits}
use Rattle.worker_pair.proofs.AckLemmas.{few_acks, put_or_dropped, sent_acked, untaken_before}
use Rattle.worker_pair.proofs.EndLemmas as ends
use Rattle.worker_pair.proofs.EndLemmas.{others_cycled, plays_same}

module _ {V I W : Type 0} (media : MediaOutside V) (inputs : SourceOutside I) (sinks : SinkOutside W) (at : At) (old : Pair V I W) (may : MayCycle media inputs sinks at old) (q : ProcessState I W)
    (m : MakesEntry at.begun.session old.playing old.process q) (ours : ProcessEnds) (theirs : ButlerEnds) (meet : EndsMeet q.ends old.butler.ends ours theirs) (c : Core) (tied : IsTied at.begun.session c old) where
  abbrev s : Session
  s = at.begun.session

  abbrev p : ProcessState I W
  p = old.process

  abbrev made : engine.Entry
  made = cycles.entry_made s old.playing p q m

  -- no more than the entries that a run has
  few_entries : length (entries_of p) ≤ 100000
  few_entries = omega (arith, many_entries p, may.runs.playing.within, may.runs.playing.cycles)

  -- ---- the edition

  edits_are : c.edits ≡ old.edition.edits
  edits_are = tied.rings.edits

  -- the generation is the core machine's,
  generation_same : generation old.playing.edits (length old.playing.edits) ≡ playing_generation c
  generation_same = sym (generation_longer old.playing.edits old.edition.edits may.runs.entered.begins) ∙ (λ i. generation (sym edits_are i) (sym tied.playing i))

  -- and so is the edition
  edition_same : edition s old.playing.edits (length old.playing.edits) ≡ edition s c.edits c.playing
  edition_same = sym (edition_longer old.playing.edits old.edition.edits may.runs.entered.begins s (length old.playing.edits) (le_refl (length old.playing.edits)))
      ∙ (λ i. edition s (sym edits_are i) (sym tied.playing i))

  now_same : cycles.now s old.playing p q m ≡ edition s c.edits c.playing
  now_same = ap (edition s old.playing.edits) (edition_is s old.playing p q m) ∙ edition_same

  -- ---- what was received

  many_sends : length c.tracks ≡ length old.butler.ends.sends.items
  many_sends = tied.rings.many ∙ sym may.runs.serves.serving.sends

  many_plays : length c.tracks ≡ length p.ends.plays.items
  many_plays = tied.rings.many ∙ sym may.runs.playing.plays

  many_takes : length c.tracks ≡ length p.ends.takes.items
  many_takes = tied.rings.many ∙ sym may.runs.playing.takes

  many_flushes : length c.tracks ≡ length old.butler.ends.takes.items
  many_flushes = tied.rings.many ∙ sym may.runs.serves.serving.takes

  -- of a track the same was received
  received_at : (t : ℕ) (x : TrackState) (r : Receiver Item) → slice_get c.tracks t ≡ Some x → slice_get p.ends.plays.items t ≡ Some r → received_of x ≡ received_kinds r
  received_at t x r at_x at_r = let d = also_there c.tracks old.butler.ends.sends.items t x many_sends at_x in let k = also_there c.tracks p.ends.takes.items t x many_takes at_x in
      let f = also_there c.tracks old.butler.ends.takes.items t x many_flushes at_x in
      received_newest s c x d.0 r r k.0 f.0 (tied.rings.tracks t x d.0 r k.0 f.0 at_x d.1 at_r k.1 f.1) (may.runs.serves.met.plays t d.0 r d.1 at_r) ∙ sym (kinds_turned r.received)

  -- and of all
  received_same : map received_of c.tracks ≡ kinds_of p
  received_same = same_maps received_of received_kinds c.tracks p.ends.plays.items many_plays received_at

  -- so what the transport does is the same, and which tracks are recorded
  state_same : made.state ≡ coming_state s c
  state_same = state_is s old.playing p q m ∙ (λ i. state_of (edition_same i).transport.rolling (generation_same i) (rolled (generation_same i) (sym tied.entries i)) (sym received_same i))

  recorded_same : (t : ℕ) → (is_rolling made.state && records (cycles.now s old.playing p q m) t) ≡ is_recorded s c t
  recorded_same t = λ i. is_rolling (state_same i) && records (now_same i) t

  -- ---- what was captured

  -- a track after its capture
  abbrev capture : ℕ → TrackState → TrackState
  capture t x = capture_if s.depth (is_recorded s c t) (next_take t c.entries) x

  -- what the process took of a track the core machine takes
  capture_at : (t : ℕ) (x : TrackState) (d : Sender Item) (r : Receiver Item) (k l : Sender TakeBlock) (f : Receiver TakeBlock) (note : Note) → IsTrackOf x d r k f → slice_get p.ends.takes.items t ≡ Some k →
      slice_get q.ends.takes.items t ≡ Some l → slice_get old.butler.ends.takes.items t ≡ Some f → slice_get m.made.notes.items t ≡ Some note → IsCapturedTo x (capture t x) l (seen_take note.take)
  capture_at t x d r k l f note was at_k at_l at_f at_note = captured_so s t q.input.stream.form.channels q.input.samples x d r k l f was (may.runs.serves.met.takes t k f at_k at_f).got low deep few
      (is_recorded s c t) (next_take t c.entries) note.take fit (m.captured t k l note at_k at_l at_note)
    where
      low : l.got ≤ length f.received
      low = let l' = also_there q.ends.takes.items ours.takes.items t l (sym meet.takes.senders) at_l in
          let f' = also_there old.butler.ends.takes.items theirs.takes.items t f (sym meet.takes.receivers) at_f in
          (meet_at q.ends.takes.items old.butler.ends.takes.items ours.takes.items theirs.takes.items (others_cycled media inputs sinks at old may q m).takes meet.takes t l l'.0 f f'.0 at_l at_f l'.1 f'.1).met.got

      deep : k.depth ≡ s.depth
      deep = let here = slice_get_within p.ends.takes.items t k at_k in let a = item_at p.captures t (omega (arith, here, may.runs.playing.takes, may.runs.playing.captures)) in
          ap (λ (z : Sender TakeBlock). z.depth) (sym (get_or_from_slice_get p.ends.takes.items t k k at_k)) ∙ (may.runs.playing.recorded t k a.0 (omega (arith, here, may.runs.playing.takes))).depth

      few : length k.sent ≤ 100000
      few = omega (arith, few_captured s t (entries_of p) k (may.runs.playing.promises.captured t k at_k), few_entries)

      fit : fits_take (is_recorded s c t) (next_take t c.entries) (seen_take note.take) ≡ true
      fit = (λ i. fits_take (sym (recorded_same t) i) (next_take t (tied.entries i)) (seen_take note.take)) ∙ take_fits s old.playing p q m t note at_note

  -- ---- the entry

  -- what was taken of each track
  abbrev takes_made : List engine.Take
  takes_made = map take_made (captured_from s c 0 c.tracks)

  -- each note says it
  noted_so : (t : ℕ) (note : Note) (other : engine.Take) → slice_get m.made.notes.items t ≡ Some note → slice_get takes_made t ≡ Some other → seen_take note.take ≡ other
  noted_so t note other at_note at_other = let y = of_mapped take_made (captured_from s c 0 c.tracks) t other at_other in let x = captured_at s c c.tracks t y.0 y.1 in
      let d = also_there c.tracks old.butler.ends.sends.items t x.0 many_sends x.1 in let r = also_there c.tracks p.ends.plays.items t x.0 many_plays x.1 in
      let k = also_there c.tracks p.ends.takes.items t x.0 many_takes x.1 in let f = also_there c.tracks old.butler.ends.takes.items t x.0 many_flushes x.1 in
      let l = also_there p.ends.takes.items q.ends.takes.items t k.0 (sym m.rings) k.1 in
      sym (y.2 ∙ ap take_made x.2 ∙ (capture_at t x.0 d.0 r.0 k.0 l.0 f.0 note (tied.rings.tracks t x.0 d.0 r.0 k.0 f.0 x.1 d.1 r.1 k.1 f.1) k.1 l.1 f.1 at_note).made)

  -- the entries are one
  entry_same : entry_now s old.butler.cycles c ≡ made
  entry_same = (λ i. entry_of s (edits_are i) (tied.entries i) ((captured_received s c 0 c.tracks ∙ received_same) i) takes_made (tied.playing i))
      ∙ entry_longer old.playing.edits old.edition.edits may.runs.entered.begins s (entries_of p) (kinds_of p) takes_made
      ∙ sym (entry_by s old.playing p q m takes_made (length-map p.ends.plays.items received_kinds ∙ may.runs.playing.plays)
      (length-map (captured_from s c 0 c.tracks) take_made ∙ captured_many s c 0 c.tracks ∙ tied.rings.many) noted_so)

  abbrev ended : Core
  ended = ended_core s old.butler.cycles c

  -- and so are all of them
  entries_same : ended.entries ≡ entries_of q
  entries_same = ap (λ e. e ∷ c.entries) entry_same ∙ ap (λ l. made ∷ l) tied.entries ∙ sym (entries_are s old.playing p q m)

  -- ---- the acknowledgements

  abbrev ack : Ack
  ack = ack_of q m.made

  -- they are one
  ack_same : views.ack_of ack ≡ ack_now c.edits (entry_now s old.butler.cycles c) c.entries
  ack_same = λ i. record { cycle = number i; generation = plays_in i; next = rolled (plays_in i) (sym entries_same i); settled = sym (ap (λ (e : engine.Entry). e.settled) entry_same) i }
    where
      number : length q.journal.items ≡ suc (length c.entries)
      number = one_more_entry s old.playing p q m ∙ ap suc (sym (many_entries p) ∙ ap length (sym tied.entries))

      plays_in : q.generation ≡ generation c.edits c.playing
      plays_in = ap (λ (z : ProcessState I W). z.generation) m.same ∙ may.runs.playing.generation ∙ ap (λ l. generation l (length l)) may.given ∙ generation_same

  -- a ring of the core machine after it
  abbrev acked_now : AckRing → AckRing
  acked_now ring = acked s old.butler.cycles ended (entry_now s old.butler.cycles c) c.entries refl ring

  -- it was told of all entries
  told_now : (ring : AckRing) → ((acked_now ring).taken ≡ ring.taken) × ((acked_now ring).told ≡ length ended.entries)
  told_now ring = acked_told s old.butler.cycles ended (entry_now s old.butler.cycles c) c.entries refl ring

  -- the butler's ring
  to_butler_sent : (acked_now c.to_butler).sent ≡ reverse (map views.ack_of q.ends.to_butler.sent)
  to_butler_sent = let knew = may.runs.serves.met.acks in let few = few_acks at.played s.depth (entries_of p) p.ends.to_butler may.runs.playing.promises.to_butler in
      sent_acked s old.butler.cycles ended (entry_now s old.butler.cycles c) c.entries refl ack ack_same c.to_butler (length old.butler.ends.acks.received) p.ends.to_butler q.ends.to_butler tied.rings.acks tied.rings.taken may.runs.playing.to_butler.depth
      (put_or_dropped (length old.butler.ends.acks.received) ack p.ends.to_butler q.ends.to_butler knew.got meet.acks.met.got (omega (arith, few, few_entries)) m.to_butler)

  -- control's ring
  to_control_is : IsControlRing (acked_now c.to_control) ours.to_control
  to_control_is = subst (IsControlRing (acked_now c.to_control)) (sym meet.to_control) (record {
    sent = λ now. let few = few_acks at.played s.depth (entries_of p) p.ends.to_control may.runs.playing.promises.to_control in
        let was = untaken_before ack p.ends.to_control q.ends.to_control (omega (arith, few, few_entries)) m.to_control now in
        sent_acked s old.butler.cycles ended (entry_now s old.butler.cycles c) c.entries refl ack ack_same c.to_control 0 p.ends.to_control q.ends.to_control (tied.control.sent was.before) tied.control.taken may.runs.playing.to_control.depth was.how;
    taken = (told_now c.to_control).0 ∙ tied.control.taken;
  })

  -- ---- all rings

  -- the state after the cycle
  abbrev cycled : Core
  cycled = record ended { to_butler = acked_now c.to_butler; to_control = acked_now c.to_control }

  -- all rings are the core machine's, before the ends met
  rings_cycled : AreRingsOf s cycled (record { edition = old.edition; butler = old.butler; ends = q.ends })
  rings_cycled = record {
    edits = tied.rings.edits;
    entered = tied.rings.entered;
    many = length-map (captured_from s c 0 c.tracks) begun ∙ captured_many s c 0 c.tracks ∙ tied.rings.many;
    tracks = λ t z d r l f at_z at_d at_r at_l at_f. let y = of_mapped begun (captured_from s c 0 c.tracks) t z at_z in let x = captured_at s c c.tracks t y.0 y.1 in
        let k = also_there q.ends.takes.items p.ends.takes.items t l m.rings at_l in
        let note = item_at m.made.notes.items t (omega (arith, slice_get_within p.ends.takes.items t k.0 k.1, m.notes)) in
        let was = tied.rings.tracks t x.0 d r k.0 f x.1 at_d (ap (λ l. slice_get l.items t) (sym (plays_same media inputs sinks at old may q m)) ∙ at_r) k.1 at_f in
        subst (λ w. IsTrackOf w d r l f) (sym (y.2 ∙ ap begun x.2))
        (captured_track x.0 (capture t x.0) d r k.0 l f (seen_take note.0.take) was (capture_at t x.0 d r k.0 l f note.0 was k.1 at_l at_f note.1));
    acks = to_butler_sent;
    taken = (told_now c.to_butler).0 ∙ tied.rings.taken;
    none_read = tied.rings.none_read;
    none_written = tied.rings.none_written;
  }

  -- the pair is in the state after the cycle
  tied_cycled : IsTied s cycled (ends.after_cycle media inputs sinks at old may q m ours theirs meet)
  tied_cycled = record {
    rings = rings_met s cycled (record { edition = old.edition; butler = old.butler; ends = q.ends }) ours theirs (others_cycled media inputs sinks at old may q m) meet rings_cycled;
    entries = entries_same;
    playing = tied.playing;
    in_cycle = refl;
    control = to_control_is;
    told_butler = omega (arith, (told_now c.to_butler).1);
    told_control = omega (arith, (told_now c.to_control).1);
  }

  -- **The end of a cycle is the core machine's.**
  pub ends_as_machine : have_looked s c ≡ true → IsTied s (after s old.butler.cycles c (ends_cycle s c)) (ends.after_cycle media inputs sinks at old may q m ours theirs meet)
  ends_as_machine looked = subst (λ d. IsTied s d (ends.after_cycle media inputs sinks at old may q m ours theirs meet))
      (sym (ends_so s old.butler.cycles c (tied.in_cycle ∙ may.in_cycle) looked
      ∙ acks_told s old.butler.cycles ended (entry_now s old.butler.cycles c) c.entries refl (new c.to_butler.told tied.told_butler) (new c.to_control.told tied.told_control))) tied_cycled
    where
      new : (told : ℕ) → told ≤ length c.entries → told < suc (length c.entries)
      new told low = omega (arith, low)
