-- Why workers that did nothing yet are ready.
use Rattle.std.proofs.Common.{◌≡◌, ◌++◌, List, [], length, take, refl, sym, ap, ◌∙◌, subst, arith}
use Rattle.std.specs.Prelude.{true, false, codes}
use Rattle.ses_io.specs.Files.{Files, HasNameUnder}
use Rattle.ses_io.specs.FixedList.{Listed}
use Rattle.ses_io.specs.Outside.{MediaOutside, SourceOutside, SinkOutside}
use Rattle.session_model.specs.declared.session.Session.{Session}
use Rattle.session_model.specs.declared.edit.Edit.{Edit}
use Rattle.piece_item.specs.declared.butler_ends.ButlerEnds.{ButlerEnds}
use Rattle.capture_flush.specs.Flushed.{IsFlushed}
use Rattle.capture_drain.specs.Files.{tape_of}
use Rattle.butler.specs.Begins.{IsGiven}
use Rattle.butler.specs.ButlerState.{start_of}
use Rattle.butler.specs.Faults.{Counts}
use Rattle.butler.specs.Serving.{IsServing, IsTrueTo}
use Rattle.butler.specs.Takes.{MayRecord}
use Rattle.process_ends.specs.declared.ends.ProcessEnds.{ProcessEnds}
use Rattle.process_cycle.specs.Playing.{HasBegun, IsPlaying}
use Rattle.process_cycle.specs.ProcessState.{Playing}
use Rattle.route_lists.specs.Lists.{IsReaderOf}
use Rattle.play_worker.specs.declared.worker.PlayWorker.{PlayWorker}
use Rattle.play_worker.specs.Leaves.{IsReady, first_at}
use Rattle.serve_worker.specs.declared.told.ServeTold.{ServeTold}
use Rattle.serve_worker.specs.declared.worker.ServeWorker.{ServeWorker}
use Rattle.serve_worker.specs.Serves.{ServedFrom, ServesAlone, ServesAt, served_from}
use Rattle.worker_pair.specs.declared.beginning.Start.{Start}

module _ {V I W : Type 0} (media : MediaOutside V) (inputs : SourceOutside I) (sinks : SinkOutside W) (start : Start V I W) where
  abbrev s : Session
  s = start.edition.session

  -- ---- the process

  pub plays_ready : (w : PlayWorker I W) (ends : ProcessEnds) → HasBegun inputs sinks s start.cycles start.input start.form start.master ends w.process → IsReaderOf s w.reader → w.told.session.value ≡ s →
      w.told.input.value ≡ start.input → w.told.sink.value ≡ start.master → w.grants.waits ≡ true → IsReady inputs sinks w
  plays_ready w ends begun of session input master waits = record {
    reader_of = subst (λ z. IsReaderOf z w.reader) (sym session) of;
    playing = subst (λ at. IsPlaying inputs at w.process) (sym at_is) begun.playing;
    none = ap (λ (j : Listed _). j.items) begun.journal;
    input_is = begun.input_is ∙ sym input;
    sink_is = begun.master_is ∙ sym master;
    waits = waits;
  } where
    at : Session → I → W → Playing
    at z i m = record { session = z; edits = []; start = inputs.left i; before = sinks.held m }

    at_is : first_at inputs sinks w ≡ at s start.input start.master
    at_is = ap (λ z. at z w.told.input.value w.told.sink.value) session ∙ ap (λ i. at s i w.told.sink.value) input ∙ ap (λ m. at s start.input m) master

  -- ---- the butler

  module _ (record_may : media.tells → MayRecord s (media.files start.media) start.sources.opened) (ends : ButlerEnds) (w : ServeWorker V) (serving : IsServing s [] w.butler)
      (given : IsGiven start.media start.sources.opened start.cycles ends w.butler) (true_to : (files : Files) → IsTrueTo files s [] w.butler)
      (no_take : (held : Files) → ¬ (HasNameUnder held (s.takes ++ codes "-")) → IsFlushed (tape_of (record { session = s; held = held }) w.butler.ends.takes.items) w.butler.drain.files held)
      (of : IsReaderOf s w.reader) (noted : w.failed ≡ record { read = false; write = false }) where
    abbrev first : ServedFrom
    first = record { at = record { session = s; held = media.files start.media; edits = [] }; read_faults = media.read_faults start.media; write_faults = media.write_faults start.media }

    serves_first : ServesAt media first w
    serves_first = record {
      turns = record { reader_of = of; begins = (w.reader.edition.edits, refl); serving = serving };
      keeps = record {
        others = λ tells q other. ap (λ m. media.files m q) given.media_is;
        may_record = λ tells. subst (MayRecord s (media.files start.media)) (sym (ap (λ z. z.opened) given.sources_is)) (record_may tells);
        takes = λ tells. record {
          flushed = subst (λ m. IsFlushed (tape_of (start_of first.at) w.butler.ends.takes.items) w.butler.drain.files (media.files m)) (sym given.media_is) (no_take (media.files start.media) (record_may tells).fresh);
          none_failed = λ fine. given.no_take_failed;
          many = omega (arith, ap length given.no_take_failed, ap media.write_faults given.media_is);
        };
        reads = subst (λ b. Counts b (media.read_faults start.media) (media.read_faults w.butler.media)) (sym given.not_hushed) (ap media.read_faults given.media_is);
        writes = subst (λ b. Counts b (media.write_faults start.media) (media.write_faults w.butler.media)) (sym given.no_write_failed) (ap media.write_faults given.media_is);
      };
      true_to = λ tells. true_to (media.files start.media);
      noted = noted ∙ ap (λ flag. record { read = flag; write = false }) (sym given.not_hushed) ∙ ap (λ flag. record { read = w.butler.hushed; write = flag }) (sym given.no_write_failed);
    }

    pub serves_ready : (told : ServeTold V) → told.session.value ≡ s → told.media.value ≡ start.media → ServesAlone media told w
    serves_ready told session media_is = subst (λ on. ServesAt media on w) (sym on_is) serves_first
      where
        from : Session → V → List Edit → ServedFrom
        from z m edits = record { at = record { session = z; held = media.files m; edits = edits }; read_faults = media.read_faults m; write_faults = media.write_faults m }

        on_is : served_from media told (take w.butler.entered w.reader.edition.edits) ≡ first
        on_is = ap (λ z. from z told.media.value (take w.butler.entered w.reader.edition.edits)) session ∙ ap (λ m. from s m (take w.butler.entered w.reader.edition.edits)) media_is
            ∙ ap (λ n. from s start.media (take n w.reader.edition.edits)) serving.entered
