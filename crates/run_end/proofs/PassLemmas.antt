-- What went through the rings that a closed run leaves, and what its journal says of them.
use Rattle.std.proofs.Common.{◌≡◌, ℕ, List, ◌++◌, length, sym, ap, subst, ◌∙◌, arith}
use Rattle.std.specs.Prelude.{true, map, reverse, take, slice_get, Some, All}
use Rattle.std.proofs.lemmas.List.{map-append, reverse-reverse, take_all}
use mathlib.Core.List.{IsPrefix}
use Rattle.engine_model.specs.Takes.{Input}
use Rattle.capture_flush.specs.Blocks.{block_of, taken_blocks}
use Rattle.process_cycle.specs.Captured.{AreOfInput}
use Rattle.ses_io.specs.Outside.{MediaOutside, SourceOutside}
use Rattle.session_model.specs.declared.session.Session.{Session}
use Rattle.session_model.specs.declared.edit.Edit.{Edit}
use Rattle.audio_source.specs.Told.{source_sound}
use Rattle.engine_model.specs.Fits.{is_lawful}
use Rattle.engine_model.specs.Journal.{Entry}
use Rattle.engine_model.specs.Made.{AreMade}
use Rattle.engine_model.specs.Order.{is_ordered, is_ordered_newest}
use Rattle.engine_model.specs.Played.{samples_of, IsGenuine}
use Rattle.engine_model.specs.Truth.{IsTruthful}
use Rattle.engine_laws.specs.JournalInvariant.{AreOrdered}
use Rattle.engine_laws.specs.MadeLaws.{LooksStand}
use Rattle.engine_laws.proofs.MadeLemmas.{what_is_made_is_lawful}
use Rattle.machine_laws.proofs.Tracks.{also_there}
use Rattle.disk_ring.specs.Sender.{Sender}
use Rattle.disk_ring.specs.Rings.{Joined, Whole, joined_of}
use Rattle.piece_item.specs.declared.ack.Ack.{Ack}
use Rattle.piece_item.specs.declared.item.Item.{Item}
use Rattle.piece_item.specs.Views.{ack_of, item_of, kind_of}
use Rattle.read_ahead.specs.Items.{kinds}
use Rattle.cycle_journal.specs.JournalView.{seen_entries}
use Rattle.butler.specs.Serving.{AreGenuine}
use Rattle.run_rings.specs.declared.joining.TrackRings.{TrackRings}
use Rattle.run_rings.specs.Rings.{AllWhole, joined_tracks}
use Rattle.track_playback.specs.SpareBoxes.{received_kinds}
use Rattle.process_cycle.specs.Told.{AreTold}
use Rattle.process_cycle.proofs.TruthLemmas.{promised_true}
use Rattle.worker_pair.specs.declared.ending.Ending.{Ending}
use Rattle.worker_pair.specs.Begun.{playing_at}
use Rattle.worker_pair.specs.Runs.{Serves}
use Rattle.worker_pair.proofs.LookLemmas.{kinds_turned}
use Rattle.run_end.specs.declared.failures.Failures.{Failures}
use Rattle.run_end.specs.Started.{Started}
use Rattle.run_end.specs.declared.leaving.AtRest.{AtRest}
use Rattle.run_end.specs.AtRest.{IsAtRest}
use Rattle.run_end.specs.LastTurns.{at_last}
use Rattle.run_end.specs.Passed.{AllGenuine, AreSpent, IsCaptured, IsPassedOn, IsToldOn, PassedOn, kinds_received}
use Rattle.run_end.proofs.ReceivedLemmas.{ordered}
use Rattle.run_end.proofs.JoinLemmas.{Joints, joints, as_many_joined, received_joined, whole_at}

module _ {V I W : Type 0} (media : MediaOutside V) (inputs : SourceOutside I) (on : Started V I W) (c : AtRest V I W) (is : IsAtRest media inputs on c) where
  abbrev e : Ending V
  e = c.ending

  abbrev s : Session
  s = on.begun.session

  abbrev edits : List Edit
  edits = e.edition.edits

  abbrev journal : List Entry
  journal = seen_entries c.stopped.journal.items

  serves : Serves media (at_last on.begun e) e
  serves = is.ended.last.serves

  -- all edits were entered
  served_all : take e.butler.entered edits ≡ edits
  served_all = take_all e.butler.entered edits (omega (arith, is.entered))

  -- each track is tended, and what was sent of it is ordered
  record IsSent (t : ℕ) (d : Sender Item) : Type 0 where
    depth : d.depth ≡ s.depth
    closed_so : d.closed ≡ e.butler.hushed
    in_order : is_ordered_newest s edits t (reverse (kinds d.sent)) ≡ true

  is_sent : (t : ℕ) (d : Sender Item) → slice_get e.butler.ends.sends.items t ≡ Some d → IsSent t d
  is_sent t d here = let p = also_there e.butler.ends.sends.items e.butler.supplies t d (serves.serving.sends ∙ sym serves.serving.supplies) here in
      let tended = serves.serving.tracks t p.0 d p.1 here in record {
        depth = tended.depth;
        closed_so = tended.closed;
        in_order = subst (λ es. is_ordered_newest s es t (reverse (kinds d.sent)) ≡ true) served_all tended.stands.kept.in_order;
      }

  -- what was received is ordered
  received_in_order : AreOrdered s edits (map received_kinds e.ends.plays.items)
  received_in_order = ordered media (at_last on.begun e) e serves

  -- the journal is lawful
  lawful_now : is_lawful s edits journal ≡ true
  lawful_now = subst (λ (js : List Entry). is_lawful s edits js ≡ true) (reverse-reverse journal)
      (what_is_made_is_lawful s edits (length edits) (map received_kinds e.ends.plays.items) (reverse journal) (omega arith) received_in_order is.ended.promises.made)

  -- ---- the rings joined again

  module _ (rings : List TrackRings) (joined : rings ≡ joined_tracks e.ends e.butler.ends) (whole : AllWhole rings) where
    at : (t : ℕ) (r : TrackRings) → slice_get rings t ≡ Some r → Joints e.butler.ends.sends.items e.ends.plays.items e.ends.takes.items e.butler.ends.takes.items t r
    at t r here = joints e.butler.ends.sends.items e.ends.plays.items e.ends.takes.items e.butler.ends.takes.items t r (subst (λ l. slice_get l t ≡ Some r) joined here)

    -- there are as many of each
    many_takes : length e.butler.ends.takes.items ≡ length e.butler.ends.sends.items
    many_takes = serves.serving.takes ∙ sym serves.serving.sends

    many_captures : length e.ends.takes.items ≡ length e.butler.ends.sends.items
    many_captures = sym serves.others.takes.count ∙ many_takes

    -- the capture ring was given what the entries took
    captured_at : (t : ℕ) (r : TrackRings) → slice_get rings t ≡ Some r → IsCaptured s t journal r.takes
    captured_at t r here = let j = at t r here in let was = is.ended.promises.captured t j.capture j.capture_at in
        subst (λ (z : TrackRings). IsCaptured s t journal z.takes) (sym j.is) (subst (λ js. IsCaptured s t js (joined_of j.capture j.flush)) (reverse-reverse journal)
        (record { places = was.places; heads = was.heads }))

    -- and each of its blocks is of what was heard of the input
    pub captured_of : (input : Input) → AreOfInput input s (reverse journal) e.ends.takes.items → (t : ℕ) (r : TrackRings) → slice_get rings t ≡ Some r →
        map block_of r.takes.sent ≡ taken_blocks s input t journal
    captured_of input heard t r here = let j = at t r here in
        ap (λ (z : TrackRings). map block_of z.takes.sent) j.is ∙ heard t j.capture j.capture_at ∙ ap (taken_blocks s input t) (reverse-reverse journal)

    -- the journal says the truth of both rings
    truthful_at : (t : ℕ) (r : TrackRings) → slice_get rings t ≡ Some r → IsTruthful edits s.depth t (kinds r.plays.sent) r.plays.tails r.takes.heads journal
    truthful_at t r here = let j = at t r here in let both = whole_at rings whole t r here in
        let begins : IsPrefix j.play.received j.send.sent = subst (λ (z : TrackRings). IsPrefix z.plays.received z.plays.sent) j.is both.0.begins in
        let split : kinds j.send.sent ≡ reverse (received_kinds j.play) ++ kinds begins.0 = ap kinds (sym begins.1) ∙ map-append (λ i. kind_of i.kind) j.play.received begins.0
        ∙ ap (λ l. l ++ kinds begins.0) (sym (reverse-reverse (kinds j.play.received)) ∙ ap reverse (sym (kinds_turned j.play.received))) in
        subst (λ (z : TrackRings). IsTruthful edits s.depth t (kinds z.plays.sent) z.plays.tails z.takes.heads journal) (sym j.is)
        (subst (λ l. IsTruthful edits s.depth t l j.play.tails j.capture.heads journal) (sym split)
        (subst (λ (js : List Entry). IsTruthful edits s.depth t (reverse (received_kinds j.play) ++ kinds begins.0) j.play.tails j.capture.heads js) (reverse-reverse journal)
        (promised_true (playing_at (at_last on.begun e)) (reverse journal) e.ends t j.play j.capture (kinds begins.0) is.ended.promises j.play_at j.capture_at)))

    passed_at : (t : ℕ) (r : TrackRings) → slice_get rings t ≡ Some r → IsPassedOn s edits journal t r
    passed_at t r here = let j = at t r here in let both = whole_at rings whole t r here in let sent = is_sent t j.send j.send_at in record {
      depth = ap (λ (z : TrackRings). z.plays.depth) j.is ∙ sent.depth;
      take_depth = ap (λ (z : TrackRings). z.takes.depth) j.is ∙ is.ended.depths.takes t j.capture j.capture_at;
      items = both.0;
      blocks = both.1;
      ordered = subst (λ (z : TrackRings). is_ordered s edits t (kinds z.plays.sent) ≡ true) (sym j.is) sent.in_order;
      looks = subst (λ (z : TrackRings). LooksStand edits s.depth t (kinds_received z) (reverse z.plays.tails) (reverse journal)) (sym j.is)
          (subst (λ l. LooksStand edits s.depth t l (reverse j.play.tails) (reverse journal)) (kinds_turned j.play.received) (is.ended.promises.looks t j.play j.play_at));
      captured = captured_at t r here;
      truthful = truthful_at t r here;
    }

    -- what went through all of them
    pub passed : PassedOn s edits journal rings
    passed = record {
      many = ap length joined ∙ as_many_joined e.butler.ends.sends.items e.ends.plays.items e.ends.takes.items e.butler.ends.takes.items serves.others.plays.count many_captures many_takes ∙ serves.serving.sends;
      each = passed_at;
      made = subst (λ l. AreMade s edits (length edits) l (reverse journal)) (sym (ap (map kinds_received) joined
          ∙ received_joined e.butler.ends.sends.items e.ends.plays.items e.ends.takes.items e.butler.ends.takes.items serves.others.plays.count many_captures many_takes)) is.ended.promises.made;
      lawful = lawful_now;
    }

    -- each item sent is genuine
    pub genuine : media.tells → AllGenuine (source_sound on.begun.files on.opened) s edits rings
    genuine tells t r here = let j = at t r here in
        subst (λ (z : TrackRings). All (λ item. IsGenuine s edits (samples_of (source_sound on.begun.files on.opened) s edits) (item_of item)) z.plays.sent) (sym j.is) (all t j.send j.send_at)
      where
        all : AreGenuine (source_sound on.begun.files on.opened) s edits e.butler.ends.sends.items
        all = subst (λ es. AreGenuine (source_sound on.begun.files on.opened) s es e.butler.ends.sends.items) served_all
            (subst (λ l. AreGenuine (source_sound on.begun.files l) s (take e.butler.entered edits) e.butler.ends.sends.items) is.ended.last.opened (serves.true_to tells).sent)

    -- how they are left
    pub spent : (failed : Failures) → failed.read ≡ c.failed.read → AreSpent failed rings
    spent failed read t r here = let j = at t r here in record {
      items = ap (λ (z : TrackRings). z.plays.closed) j.is ∙ (is_sent t j.send j.send_at).closed_so ∙ is.ended.last.butler_reads ∙ sym read;
      blocks = ap (λ (z : TrackRings). z.takes.closed) j.is ∙ is.ended.shut.takes t j.capture j.capture_at;
      received = subst (λ (z : TrackRings). z.takes.received ≡ z.takes.sent) (sym j.is) (is.received t j.capture j.flush j.capture_at j.flush_at);
    }

  -- ---- acknowledgements

  pub told : (acks : Joined Ack) → acks ≡ joined_of e.ends.to_control c.stopped.acks → Whole acks → IsToldOn s edits journal acks
  told acks same whole = record {
    depth = ap (λ (z : Joined Ack). z.depth) same ∙ is.ended.depths.to_control;
    whole = whole;
    closed = ap (λ (z : Joined Ack). z.closed) same ∙ is.ended.shut.to_control;
    told = subst (λ (z : Joined Ack). AreTold edits s.depth (reverse journal) (reverse (map ack_of z.sent)) (reverse z.heads)) (sym same) is.ended.promises.to_control;
  }
