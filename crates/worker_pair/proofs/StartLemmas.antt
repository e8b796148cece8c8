-- What the workers have when they begin.
use Rattle.std.proofs.Common.{◌≡◌, ℕ, zero, suc, ◌≤◌, List, [], ◌++◌, length, take, refl, sym, ap, subst, ◌∙◌, arith, append-nil}
use Rattle.std.specs.Prelude.{Bool, true, false, map, replicate, reverse, slice_get, Some, All, codes}
use Rattle.std.specs.List.{list_all}
use Rattle.std.proofs.lemmas.Bool.{false≢true}
use Rattle.std.proofs.lemmas.List.{length-replicate}
use Rattle.std.proofs.lemmas.Option.{slice_get_within, same_Some}
use Rattle.ses_io.specs.FixedList.{Listed}
use Rattle.ses_io.specs.Files.{Files, HasNameUnder}
use Rattle.ses_io.specs.Outside.{MediaOutside, SourceOutside, SinkOutside}
use Rattle.session_model.specs.declared.session.Session.{Session}
use Rattle.session_model.specs.declared.edit.Edit.{Edit}
use Rattle.engine_model.specs.Editions.{edition}
use Rattle.engine_model.specs.Edits.{keeps_forms}
use Rattle.machine_model.specs.Core as machine
use Rattle.machine_model.specs.Core.{TrackState, idle_track}
use Rattle.cycle_journal.specs.declared.entry.Entry.{Entry as Noted}
use Rattle.cycle_journal.specs.JournalView.{seen_entries}
use Rattle.edition_log.specs.EditionState.{EditionState as Edition, IsEditionOf}
use Rattle.disk_ring.specs.Sender.{Sender}
use Rattle.disk_ring.specs.Receiver.{Receiver}
use Rattle.piece_item.specs.declared.ack.Ack.{Ack}
use Rattle.piece_item.specs.declared.item.Item.{Item}
use Rattle.piece_item.specs.declared.take_block.TakeBlock.{TakeBlock}
use Rattle.piece_item.specs.declared.butler_ends.ButlerEnds.{ButlerEnds}
use Rattle.piece_item.specs.Views.{ack_of}
use Rattle.capture_flush.specs.Flushed.{IsFlushed}
use Rattle.capture_drain.specs.Files.{tape_of}
use Rattle.butler.specs.Begins as butler
use Rattle.butler.specs.Begins.{IsGiven}
use Rattle.butler.specs.ButlerState.{ButlerState as Butler}
use Rattle.butler.specs.Serving.{IsServing, IsTrueTo}
use Rattle.process_ends.specs.declared.ends.ProcessEnds.{ProcessEnds}
use Rattle.process_ends.specs.Ends.{AreOtherEnds}
use Rattle.process_cycle.specs.Playing.{HasBegun as PlayingBegun}
use Rattle.process_cycle.specs.ProcessState.{ProcessState as Process}
use Rattle.run_rings.specs.declared.run_ends.RunEnds.{RunEnds}
use Rattle.run_rings.specs.Laws.{AreNewForButler}
use Rattle.run_rings.specs.Rings.{AreNewRunEnds}
use Rattle.run_rings.proofs.LawLemmas.{new_fit}
use Rattle.worker_pair.specs.declared.beginning.Start.{Start}
use Rattle.worker_pair.specs.declared.pair.Pair.{Pair}
use Rattle.worker_pair.specs.Begun.{Begun, At, at_first, begun_with}
use Rattle.worker_pair.specs.Met.{HaveMet}
use Rattle.worker_pair.specs.Never.{NeverRecords, NothingIsTaken}
use Rattle.worker_pair.specs.Runs.{Runs, Serves}
use Rattle.worker_pair.specs.Starts.{HaveBegun, HaveWorkers, IsBegunBy, MayBegin}
use Rattle.butler.specs.Takes.{MayRecord}
use Rattle.worker_pair.specs.Takes.{FilesStand, run_of}
use Rattle.worker_pair.specs.Tied.{AreRingsOf, IsTrackOf, rings_of}
use Rattle.worker_pair.proofs.NeverLemmas.{never_first}
use Rattle.worker_pair.proofs.NewRingLemmas.{acks_first, control_first, met_first, new_for_process, no_take_first, tracks_first}

-- ---- the session of an edition that no edit made

module _ {V I W : Type 0} (s : Session) (start : Start V I W) (may : MayBegin s start) where
  -- it is the one that was opened
  pub session_is : start.edition.session ≡ s
  session_is = ap (λ e. e.session) may.edition_of.state ∙ none start.edition.edits may.first
    where
      none : (edits : List Edit) → edits ≡ [] → (edition s edits (length edits)).session ≡ s
      none edits is = ap (λ (l : List Edit). (edition s l (length l)).session) is

  -- a butler may begin with it
  pub may_serve : (theirs : ButlerEnds) → AreNewForButler s theirs → butler.MayBegin s start.edition start.sources.opened start.cycles theirs
  may_serve theirs new = record {
    valid = may.valid;
    edition_of = may.edition_of;
    sources_of = may.listed;
    some_cycle = may.some_cycle;
    near = may.near;
    tracks = new.tracks;
    each = λ t d here. let is = new.each t d here in record { deep = is.depth; wide = is.room; nothing_sent = is.sent; not_closed = is.closed };
    captures = new.captures;
    each_capture = λ t r here. let is = new.each_capture t r here in record { wide = is.room; none_received = is.received; not_ended = is.ended };
    acks_room = new.acks.room;
    none_received = new.acks.received;
    not_ended = new.acks.ended;
  }

  -- new workers with such ends
  pub have_workers : (media : MediaOutside V) (inputs : SourceOutside I) (sinks : SinkOutside W) (ours : ProcessEnds) (theirs : ButlerEnds) (p : Process I W) (b : Butler V) →
      PlayingBegun inputs sinks start.edition.session start.cycles start.input start.form start.master ours p → IsServing s start.edition.edits b →
      IsGiven start.media start.sources.opened start.cycles theirs b → ((files : Files) → IsTrueTo files s start.edition.edits b) →
      ((held : Files) → ¬ (HasNameUnder held (s.takes ++ codes "-")) → IsFlushed (tape_of (record { session = s; held = held }) b.ends.takes.items) b.drain.files held) →
      HaveWorkers media inputs sinks s start ours theirs start.edition p b
  have_workers media inputs sinks ours theirs p b begun serving given true_to no_take = record {
    edition = refl;
    process = subst (λ (z : Session). PlayingBegun inputs sinks z start.cycles start.input start.form start.master ours p) session_is begun;
    serving = subst (λ (l : List Edit). IsServing s l b) may.first serving;
    given = given;
    true_to = λ files. subst (λ (l : List Edit). IsTrueTo files s l b) may.first (true_to files);
    no_take = no_take;
  }

  -- ---- the pair

  module _ (media : MediaOutside V) (inputs : SourceOutside I) (sinks : SinkOutside W) (w : RunEnds) (new : AreNewRunEnds s w) (e : Edition) (p : Process I W) (b : Butler V)
      (have : HaveWorkers media inputs sinks s start w.process w.butler e p b) (copy : Edition) (same : copy ≡ start.edition) (records : Bool)
      (may_record : records ≡ true → media.tells → MayRecord s (media.files start.media) start.sources.opened) where
    -- what the run begins with, where it stands, and its workers
    abbrev begun : Begun
    begun = begun_with media inputs sinks s records start.media start.input start.master

    abbrev at : At
    at = at_first begun

    abbrev pair : Pair V I W
    pair = record { edition = e; playing = copy; in_cycle = false; butler = b; process = p; acks = w.acks }

    -- no edit has come
    no_edits : e.edits ≡ []
    no_edits = ap (λ (z : Edition). z.edits) have.edition ∙ may.first

    -- what is so of the ends that were handed out is so of those that the workers have
    by_ends : (P : ProcessEnds → ButlerEnds → Type 0) → P w.process w.butler → P p.ends b.ends
    by_ends P is = subst (λ (z : ProcessEnds). P z b.ends) (sym have.process.ends_are) (subst (λ (z : ButlerEnds). P w.process z) (sym have.given.ends_is) is)

    -- no file has changed
    files_first : FilesStand media begun b
    files_first = record {
      others = λ tells q other. ap (λ m. media.files m q) have.given.media_is;
      same = λ quiet. ap media.files have.given.media_is;
      unwritten = λ quiet. have.given.no_write_failed;
      may_record = λ on tells. subst (MayRecord s (media.files start.media)) (sym (ap (λ l. l.opened) have.given.sources_is)) (may_record on tells);
      takes = λ on tells. record {
        flushed = subst (λ m. IsFlushed (tape_of (run_of begun) b.ends.takes.items) b.drain.files (media.files m)) (sym have.given.media_is)
            (have.no_take (media.files start.media) (may_record on tells).fresh);
        none_failed = λ fine. have.given.no_take_failed;
        many = omega (arith, ap length have.given.no_take_failed, ap media.write_faults have.given.media_is);
      };
    }

    -- the butler serves,
    serves_first : Serves media at (rings_of pair)
    serves_first = record {
      edition_of = subst (λ (z : Edition). IsEditionOf s z) (sym have.edition) may.edition_of;
      served_of = (e.edits, refl);
      serving = have.serving;
      others = by_ends AreOtherEnds (new_fit s w new).butler;
      met = by_ends HaveMet (met_first s w new);
      never = λ quiet. subst (λ (l : List Edit). NeverRecords s l) (sym no_edits) (never_first s);
      no_take = λ quiet. by_ends (λ ours theirs. NothingIsTaken ours.takes.items) (no_take_first s w new);
      files = files_first;
      true_to = λ tells. have.true_to (media.files start.media);
    }

    -- the workers run,
    runs_first : Runs media inputs sinks at pair
    runs_first = record {
      serves = serves_first;
      entered = record {
        edition_of = subst (λ (z : Edition). IsEditionOf s z) (sym same) may.edition_of;
        begins = ([], append-nil copy.edits ∙ ap (λ (z : Edition). z.edits) same ∙ sym (ap (λ (z : Edition). z.edits) have.edition));
        not_ended = ap (λ (z : Edition). z.ended) same ∙ may.not_ended;
        newest_not_ended = ap (λ (z : Edition). z.ended) have.edition ∙ may.not_ended;
        forms = ap (list_all keeps_forms) no_edits;
        room = λ on. absurd (false≢true on);
        unended = λ on. absurd (false≢true on);
        few = omega (arith, have.process.playing.entered);
        played = sym (ap (λ n. take n e.edits) have.process.playing.entered);
      };
      control = record {
        ring = by_ends (λ ours theirs. w.acks.ring ≡ ours.to_control.ring) (new_fit s w new).control;
        none_taken = (control_first s w new).received;
        heads = by_ends (λ ours theirs. All (λ h. h ≤ ours.to_control.got) ours.to_control.heads)
            (λ k d within. absurd (omega (arith, within, ap (λ (l : List ℕ). length l) (new_for_process s w new).to_control.heads)));
      };
      playing = have.process.playing;
      mastered = λ header. absurd (false≢true header);
      asked = ap (λ (j : Listed Noted). j.room) have.process.journal ∙ sym have.given.cycles_is;
    }

    -- each track of the machine is idle
    idle_at : (n t : ℕ) (x : TrackState) → slice_get (replicate n idle_track) t ≡ Some x → idle_track ≡ x
    idle_at zero t x here = absurd (omega (arith, slice_get_within (replicate zero idle_track) t x here))
    idle_at (suc n) zero x here = same_Some idle_track x here
    idle_at (suc n) (suc t) x here = idle_at n t x here

    -- the state of each track, by the ends that were handed out
    abbrev HasTracks : ProcessEnds → ButlerEnds → Type 0
    HasTracks ours theirs = (t : ℕ) (d : Sender Item) (r : Receiver Item) (k : Sender TakeBlock) (f : Receiver TakeBlock) → slice_get theirs.sends.items t ≡ Some d →
        slice_get ours.plays.items t ≡ Some r → slice_get ours.takes.items t ≡ Some k → slice_get theirs.takes.items t ≡ Some f → IsTrackOf idle_track d r k f

    -- the rings are those of the machine's first state
    rings_first : AreRingsOf s (machine.at_first s) (rings_of pair)
    rings_first = record {
      edits = sym no_edits;
      entered = sym have.serving.entered;
      many = length-replicate (length s.tracks.items) idle_track;
      tracks = λ t x d r k f hx hd hr hk hf. subst (λ (z : TrackState). IsTrackOf z d r k f) (idle_at (length s.tracks.items) t x hx)
          (by_ends HasTracks (tracks_first s w new) t d r k f hd hr hk hf);
      acks = by_ends (λ ours theirs. [] ≡ reverse (map ack_of ours.to_butler.sent))
          (sym (ap (λ (l : List Ack). reverse (map ack_of l)) (new_for_process s w new).to_butler.sent));
      taken = by_ends (λ ours theirs. 0 ≡ length theirs.acks.received) (sym (ap (λ (l : List Ack). length l) (acks_first s w new).received));
      none_read = have.given.not_hushed;
      none_written = have.given.no_write_failed;
    }

    -- the workers have begun
    have_begun : HaveBegun media inputs sinks begun start pair
    have_begun = record {
      runs = runs_first;
      tied = record {
        rings = rings_first;
        entries = sym (ap (λ (j : Listed Noted). reverse (seen_entries j.items)) have.process.journal);
        playing = sym (ap (λ (z : Edition). length z.edits) same ∙ ap (λ (l : List Edit). length l) may.first);
        in_cycle = refl;
        control = record {
          sent = λ untaken. by_ends (λ ours theirs. [] ≡ reverse (map ack_of ours.to_control.sent)) (sym (ap (λ (l : List Ack). reverse (map ack_of l)) (new_for_process s w new).to_control.sent));
          taken = refl;
        };
        told_butler = omega arith;
        told_control = omega arith;
      };
      edition = have.edition;
      playing = same;
      in_cycle = refl;
      played = have.process.playing.entered;
      entered = have.serving.entered;
      none_read = have.given.not_hushed;
      none_written = have.given.no_write_failed;
      media_is = have.given.media_is;
      sources_are = ap (λ l. l.opened) have.given.sources_is;
      cycles_are = have.given.cycles_is;
      input_is = have.process.input_is;
      stream = have.process.stream;
      master_is = have.process.master_is;
      journal = have.process.journal;
    }

-- the workers have begun with what media, input and master tell
pub have_begun_by : {V I W : Type 0} (media : MediaOutside V) (inputs : SourceOutside I) (sinks : SinkOutside W) (begun : Begun) (start : Start V I W) (may : MayBegin begun.session start) →
    IsBegunBy media inputs sinks begun start → (w : RunEnds) → AreNewRunEnds begun.session w → (e : Edition) (p : Process I W) (b : Butler V) →
    HaveWorkers media inputs sinks begun.session start w.process w.butler e p b → (copy : Edition) → copy ≡ start.edition →
    HaveBegun media inputs sinks begun start (record { edition = e; playing = copy; in_cycle = false; butler = b; process = p; acks = w.acks })
have_begun_by media inputs sinks begun start may by w new e p b have copy same =
    subst (λ (z : Begun). HaveBegun media inputs sinks z start (record { edition = e; playing = copy; in_cycle = false; butler = b; process = p; acks = w.acks })) (sym by.told)
    (have_begun begun.session start may media inputs sinks w new e p b have copy same begun.records
    (λ on tells. subst (λ (f : Files). MayRecord begun.session f start.sources.opened) (ap (λ (z : Begun). z.files) by.told) (by.may_record on tells)))
