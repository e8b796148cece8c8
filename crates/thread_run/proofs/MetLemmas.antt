-- What is so of the butler once all ends have met, by the newest edition.
use Rattle.std.proofs.Common.{◌≡◌, ◌+◌, List, ◌++◌, length, refl, sym, ap, subst, ◌∙◌, arith}
use Rattle.std.specs.Prelude.{true, false, take}
use Rattle.std.proofs.lemmas.Bool.{true≢false}
use Rattle.std.proofs.lemmas.List.{length-append}
use mathlib.Core.List.{IsPrefix}
use Rattle.ses_io.specs.Outside.{MediaOutside, SourceOutside, SinkOutside}
use Rattle.session_model.specs.declared.session.Session.{Session}
use Rattle.session_model.specs.declared.edit.Edit.{Edit}
use Rattle.disk_ring.specs.Sender.{Sender}
use Rattle.disk_ring.specs.Receiver.{Receiver}
use Rattle.piece_item.specs.declared.ack.Ack.{Ack}
use Rattle.edition_log.specs.EditionState.{EditionState as Edition, IsEditionOf}
use Rattle.butler.specs.ButlerState.{ButlerState}
use Rattle.butler.specs.Serving.{IsServing, IsTrueTo}
use Rattle.process_ends.specs.declared.ends.ProcessEnds.{ProcessEnds}
use Rattle.process_ends.specs.Ends.{AreOtherEnds}
use Rattle.play_worker.specs.declared.playing.Played.{Played}
use Rattle.serve_worker.specs.declared.faults.MediaFaults.{MediaFaults}
use Rattle.serve_worker.specs.declared.worker.ServeWorker.{ServeWorker}
use Rattle.serve_worker.specs.Serves.{IsServingAs, ServedFrom, ServesAlone, entered_last}
use Rattle.worker_pair.specs.declared.ending.Ending.{Ending}
use Rattle.worker_pair.specs.declared.ending.Stopped.{Stopped}
use Rattle.worker_pair.specs.Apart.{ServesApart}
use Rattle.worker_pair.specs.Begun.{At}
use Rattle.worker_pair.specs.Runs.{Serves}
use Rattle.worker_pair.proofs.MetLemmas.{others_met, serves_met, with_ends}
use Rattle.worker_pair.proofs.NowLemmas.{serves_as}
use Rattle.run_world.specs.declared.opened.Opened.{Opened}
use Rattle.run_end.specs.declared.failures.Failures.{Failures}
use Rattle.run_end.specs.declared.lists.RunLists.{RunLists}
use Rattle.run_end.specs.Beginning.{started_of}
use Rattle.run_end.specs.Failures.{IsFaultCount}
use Rattle.run_end.specs.LastTurns.{TakesLastTurns, at_last}
use Rattle.run_end.specs.Started.{Started}
use Rattle.thread_run.specs.declared.beginning.Crew.{Crew}
use Rattle.thread_run.specs.declared.side_by_side.Joined.{Joined}
use Rattle.thread_run.specs.Leaving.{Asked, HaveAllEnded, failures_left, is_hushed}
use Rattle.thread_run.specs.Met.{HaveMetAtLast}
use Rattle.thread_run.specs.Parting.{MayGiveUp}
use Rattle.thread_run.proofs.EndedLemmas as ended
use Rattle.thread_run.proofs.EndedLemmas.{HasServedSo, counted, over_served, taken_first, taken_of}

module _ {R M I C W O : Type 0} (media : MediaOutside M) (inputs : SourceOutside I) (source : SourceOutside C) (sinks : SinkOutside W) (sink : SinkOutside O) (on : Asked M I C W O) (j : Joined R M I C W O) (lists : RunLists)
    (all : HaveAllEnded media inputs source sinks sink on j lists) where
  abbrev o : Opened M I C W O
  o = on.opened

  abbrev s : Session
  s = o.edition.session

  abbrev start : Started M I W
  start = started_of media inputs sinks o

  abbrev crew : Crew R M I C W O
  crew = all.crew

  abbrev played : Played I W
  played = j.played

  abbrev w : ServeWorker M
  w = j.served.0

  abbrev others : AreOtherEnds played.process.ends w.butler.ends
  others = ended.others media inputs source sinks sink on j lists all

  abbrev so : HasServedSo media crew.told w
  so = ended.so media inputs source sinks sink on j lists all

  abbrev served_on : List Edit → ServedFrom
  served_on = ended.served_on media inputs source sinks sink on j lists all

  abbrev serves : IsServingAs media so.read_failed (served_on (entered_last w)) w
  serves = ended.serves media inputs source sinks sink on j lists all

  module _ (list : Edition) (ending : Ending M) (stopped : Stopped I W) (met : HaveMetAtLast list w.butler played.process j.led.acks ending stopped) where
    abbrev failed : Failures
    failed = failures_left played w.failed

    abbrev mid : ProcessEnds
    mid = record ending.ends { to_control = played.process.ends.to_control }

    pub others_mid : AreOtherEnds mid ending.butler.ends
    others_mid = others_met played.process.ends mid w.butler.ends ending.butler.ends others met.met

    pub control_met : stopped.acks.ring ≡ ending.ends.to_control.ring
    control_met = ap (λ (z : Receiver Ack). z.ring) met.control.receiver ∙ ended.control_other media inputs source sinks sink on j lists all ∙ sym (ap (λ (z : Sender Ack). z.ring) met.control.sender)

    pub may_give_up : MayGiveUp media start ending stopped failed
    may_give_up = record {
      others = record { plays = others_mid.plays; takes = others_mid.takes; acks = others_mid.acks };
      sends = met.met.plays.senders ∙ serves.turns.serving.sends;
      takes = met.met.takes.senders ∙ sym others.takes.count ∙ serves.turns.serving.takes;
      control = control_met;
      reads = subst (λ (b : ButlerState M). IsFaultCount (media.read_faults o.world.media) (media.read_faults b.media) w.failed.read) (sym met.butler_is)
          (subst (IsFaultCount (media.read_faults o.world.media) (media.read_faults w.butler.media)) (sym (ap (λ (f : MediaFaults). f.read) serves.noted))
          (counted (media.read_faults o.world.media) (media.read_faults w.butler.media) so.read_failed serves.keeps.reads));
      writes = subst (λ (b : ButlerState M). IsFaultCount (media.write_faults o.world.media) (media.write_faults b.media) w.failed.write) (sym met.butler_is)
          (subst (IsFaultCount (media.write_faults o.world.media) (media.write_faults w.butler.media)) (sym (ap (λ (f : MediaFaults). f.write) serves.noted))
          (counted (media.write_faults o.world.media) (media.write_faults w.butler.media) w.butler.write_failed serves.keeps.writes));
    }

    -- ---- where both are tied to the list

    module _ (of : IsEditionOf s list) (first : IsPrefix played.reader.edition.edits list.edits) (second : IsPrefix w.reader.edition.edits list.edits) (over : is_hushed j.served.1 ≡ false) where
      abbrev at : At
      at = record { begun = start.begun; header = true; served = take w.butler.entered list.edits; played = list.edits }

      alone : ServesAlone media crew.told w
      alone = over_served media crew.told 8 j.served.1 w over all.served.leaves

      serves_on : IsServingAs media w.butler.hushed (served_on (entered_last w)) w
      serves_on = subst (λ z. IsServingAs media w.butler.hushed z w) (ended.served_is media inputs source sinks sink on j lists all (entered_last w)) alone

      entered_is : take w.butler.entered list.edits ≡ entered_last w
      entered_is = taken_of w.butler.entered w.reader.edition.edits list.edits second (omega (arith, serves_on.turns.serving.entered, ap length serves_on.turns.begins.1, length_of))
        where
          length_of : length (entered_last w ++ serves_on.turns.begins.0) ≡ length (entered_last w) + length serves_on.turns.begins.0
          length_of = length-append (entered_last w) serves_on.turns.begins.0

      apart : ServesApart media at (record { edition = list; butler = w.butler; ends = played.process.ends })
      apart = record {
        edition_of = of;
        served_of = taken_first w.butler.entered list.edits;
        serving = subst (λ l. IsServing s l w.butler) (sym entered_is) serves_on.turns.serving;
        others = others;
        never = λ quiet. absurd (true≢false (sym (ended.records media inputs source sinks sink on j lists all) ∙ quiet));
        no_take = λ quiet. absurd (true≢false (sym (ended.records media inputs source sinks sink on j lists all) ∙ quiet));
        files = record {
          others = serves_on.keeps.others;
          same = λ quiet. absurd (true≢false (sym (ended.records media inputs source sinks sink on j lists all) ∙ quiet));
          unwritten = λ quiet. absurd (true≢false (sym (ended.records media inputs source sinks sink on j lists all) ∙ quiet));
          may_record = λ recording tells. serves_on.keeps.may_record tells;
          takes = λ recording tells. serves_on.keeps.takes tells;
        };
        true_to = λ tells. subst (λ l. IsTrueTo start.begun.files s l w.butler) (sym entered_is) (serves_on.true_to tells);
      }

      ending_is : with_ends (record { edition = list; butler = w.butler; ends = played.process.ends }) ending.ends ending.butler.ends ≡ ending
      ending_is = (λ i. record { edition = sym met.edition_is i; butler = sym met.butler_is i; ends = ending.ends })

      serves_now : Serves media at ending
      serves_now = let now = serves_met media at (record { edition = list; butler = w.butler; ends = played.process.ends }) mid ending.butler.ends apart met.met in subst (Serves media at) ending_is (record {
        edition_of = now.edition_of;
        served_of = now.served_of;
        serving = now.serving;
        others = record { plays = now.others.plays; takes = now.others.takes; acks = now.others.acks };
        met = record { plays = now.met.plays; takes = now.met.takes; acks = now.met.acks };
        never = now.never;
        no_take = now.no_take;
        files = now.files;
        true_to = now.true_to;
      })

      pub last_turns : TakesLastTurns media start ending failed
      last_turns = record {
        serves = serves_as media at (at_last start.begun ending) ending refl
            (ap (λ (b : ButlerState M). take b.entered ending.edition.edits) met.butler_is ∙ ap (λ (e : Edition). take w.butler.entered e.edits) met.edition_is) serves_now;
        opened = ap (λ (b : ButlerState M). b.sources.opened) met.butler_is ∙ all.served.keeps.opened ∙ (ended.ready media inputs source sinks sink on j lists all).opened;
        reads = may_give_up.reads;
        writes = may_give_up.writes;
        butler_reads = ap (λ (b : ButlerState M). b.hushed) met.butler_is ∙ sym (ap (λ (f : MediaFaults). f.read) serves_on.noted);
        butler_writes = ap (λ (b : ButlerState M). b.write_failed) met.butler_is ∙ sym (ap (λ (f : MediaFaults). f.write) serves_on.noted);
      }
