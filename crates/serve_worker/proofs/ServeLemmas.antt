-- Why the butler's thread serves on.
use Rattle.std.proofs.Common.{◌≡◌, ℕ, List, ◌++◌, length, refl, sym, ap, subst, ◌∙◌, arith}
use Rattle.std.specs.Prelude.{Bool, true, if◌then◌else◌, take, Result, Ok, Err}
use Rattle.std.proofs.lemmas.List.{take_all}
use mathlib.Core.List.{IsPrefix}
use base.Growing.{prefix_refl, prefix_trans}
use lib.Seq.{take-append_seam}
use Rattle.ses_io.specs.Outside.{MediaOutside}
use Rattle.session_model.specs.declared.edit.Edit.{Edit}
use Rattle.edition_log.specs.EditionState.{EditionState as Edition}
use Rattle.butler.specs.declared.turning.Turn.{Turn}
use Rattle.butler.specs.declared.faults.ButlerFault.{ButlerFault}
use Rattle.butler.specs.declared.faults.ButlerFault.TheVariants.{ReadFault, WriteFault}
use Rattle.butler.specs.ButlerState.{ButlerState}
use Rattle.butler.specs.Faults.{Counts, Fails, KeepsRest, is_read_fault, is_write_fault}
use Rattle.butler.specs.Hushed.{Hushes}
use Rattle.butler.specs.Serving.{IsServing, IsTrueTo}
use Rattle.butler.specs.Turns.{StaysTrue, TakesAreKept}
use Rattle.butler.specs.Turns as butler
use Rattle.butler.proofs.HushLemmas.{hushed_serves, hushed_true}
use Rattle.route_lists.specs.Answers.{Enters}
use Rattle.route_lists.specs.Lists.{IsReaderOf, Reading}
use Rattle.serve_worker.specs.declared.told.ServeTold.{ServeTold}
use Rattle.serve_worker.specs.declared.worker.ServeWorker.{ServeWorker}
use Rattle.serve_worker.specs.Faults.{faults_after}
use Rattle.serve_worker.specs.Ends.{TurnedOnce, TurnIsRefused, MakesATurn}
use Rattle.serve_worker.specs.Serves.{FlushesAlone, FlushesAt, IsServingAs, KeepsMedia, ServedFrom, ServesAlone, ServesAt, TurnsAt, with_entered, served_from}
use Rattle.serve_worker.proofs.MediaLemmas.{media_turned, true_turned}

-- what is noted after a turn, flag by flag
noted_after : (answer : Result Turn ButlerFault) (read write : Bool) →
    faults_after answer (record { read = read; write = write }) ≡ record { read = if is_read_fault answer then true else read; write = if is_write_fault answer then true else write }
noted_after (Ok turn) read write = refl
noted_after (Err ReadFault) read write = refl
noted_after (Err WriteFault) read write = refl

module _ {V : Type 0} (media : MediaOutside V) (on : ServedFrom) where
  -- ---- a newer edition may be entered

  pub reads_on : (failed : Bool) (old w : ServeWorker V) → IsServingAs media failed on old → IsReaderOf on.at.session w.reader → IsPrefix old.reader.edition.edits w.reader.edition.edits →
      IsServingAs media failed on (record { reader = w.reader; butler = old.butler; failed = old.failed })
  reads_on failed old w serves of more = record {
    turns = record { reader_of = of; begins = prefix_trans on.at.edits old.reader.edition.edits w.reader.edition.edits serves.turns.begins more; serving = serves.turns.serving };
    keeps = serves.keeps;
    true_to = serves.true_to;
    noted = serves.noted;
  }

  pub enters_on : (old w : ServeWorker V) → ServesAt media on old → w ≡ record { reader = w.reader; butler = old.butler; failed = old.failed } → IsReaderOf on.at.session w.reader →
      IsPrefix old.reader.edition.edits w.reader.edition.edits → ServesAt media on w
  enters_on old w serves same of more = subst (ServesAt media on) (sym same) (reads_on old.butler.hushed old w serves of more)

  pub enters : (w : ServeWorker V) (e : Edition) → e ≡ w.reader.edition → TurnsAt on w → butler.Enters on.at w.butler e
  enters w e is may = subst (butler.Enters on.at w.butler) (sym is) (record { serving = may.serving; edition_of = may.reader_of.0; grows = may.begins })

  -- ---- a turn

  module _ (w : ServeWorker V) (e : Edition) (b : ButlerState V) (answer : Result Turn ButlerFault) (is : e ≡ w.reader.edition) (serving : IsServing on.at.session e.edits b)
      (takes : media.tells → TakesAreKept on.at (media.files w.butler.media) (media.files b.media) w.butler b) (stays : media.tells → StaysTrue media on.at e w.butler b)
      (fails : Fails media w.butler answer b) (rest : KeepsRest media on.at.session e w.butler b) where
    abbrev after : ServeWorker V
    after = record { reader = w.reader; butler = b; failed = faults_after answer w.failed }

    turned : (failed : Bool) → IsServingAs media failed on w → IsServingAs media (if is_read_fault answer then true else failed) (with_entered w.reader.edition.edits on) after
    turned failed serves = record {
      turns = record {
        reader_of = serves.turns.reader_of;
        begins = prefix_refl w.reader.edition.edits;
        serving = subst (λ (z : Edition). IsServing on.at.session z.edits b) is serving;
      };
      keeps = media_turned media on e w.butler b answer failed serves.keeps fails rest w.reader.edition.edits takes;
      true_to = λ tells. subst (λ (z : Edition). IsTrueTo on.at.held on.at.session z.edits b) is (true_turned media on e w.butler b answer failed serves.keeps fails rest stays serves.true_to tells);
      noted = ap (faults_after answer) serves.noted ∙ noted_after answer failed w.butler.write_failed
          ∙ ap (λ flag. record { read = if is_read_fault answer then true else failed; write = flag }) (sym fails.write_failed);
    }

    -- **A turn serves on,**
    pub serves_on : ServesAt media on w → ServesAt media (with_entered w.reader.edition.edits on) after
    serves_on serves = subst (λ failed. IsServingAs media failed (with_entered w.reader.edition.edits on) after) (sym fails.hushed) (turned w.butler.hushed serves)

    -- **or flushes on:** one that sends nothing reads nothing.
    pub flushes_on : FlushesAt media on w → FlushesAt media (with_entered w.reader.edition.edits on) after
    flushes_on flushes = let unread = (fails.read_once flushes.hushed).0 in record {
      read_failed = flushes.read_failed;
      serves = subst (λ (flag : Bool). IsServingAs media (if flag then true else flushes.read_failed) (with_entered w.reader.edition.edits on) after) unread (turned flushes.read_failed flushes.serves);
      hushed = fails.hushed ∙ ap (λ (flag : Bool). if flag then true else w.butler.hushed) unread ∙ flushes.hushed;
    }

  -- ---- a step

  -- by the worker that entered
  pub made_turn : (most : ℕ) (old w new : ServeWorker V) (idle : Bool) → w ≡ record { reader = w.reader; butler = old.butler; failed = old.failed } → new ≡ record { reader = w.reader; butler = new.butler; failed = new.failed } →
      Enters old.reader w.reader → TurnedOnce media on.at.session most w idle new → ServesAt media (with_entered new.reader.edition.edits on) new → MakesATurn media on most old idle new
  made_turn most old w new idle same kept entered once serves = let reader : new.reader ≡ w.reader = ap (λ (z : ServeWorker V). z.reader) kept in record {
    entered = subst (Enters old.reader) (sym reader) entered;
    turned = subst (λ z. TurnedOnce media on.at.session most z idle new) (same ∙ ap (λ r. record { reader = r; butler = old.butler; failed = old.failed }) (sym reader)) once;
    serves = serves;
  }

  -- by the worker whose reader was refused
  pub refused : (old w new : ServeWorker V) → ServesAt media on old → w ≡ record { reader = w.reader; butler = old.butler; failed = old.failed } → new ≡ record { reader = w.reader; butler = new.butler; failed = w.failed } →
      IsReaderOf on.at.session w.reader → IsPrefix old.reader.edition.edits w.reader.edition.edits → Hushes w.butler new.butler → TurnIsRefused media on old new
  refused old w new serves same kept of more hushes = let reader : new.reader ≡ w.reader = ap (λ (z : ServeWorker V). z.reader) kept in record {
    serves = subst (λ (r : Reading). ServesAt media on (record { reader = r; butler = old.butler; failed = old.failed })) (sym reader) (reads_on old.butler.hushed old w serves of more);
    failed = ap (λ (z : ServeWorker V). z.failed) kept ∙ ap (λ (z : ServeWorker V). z.failed) same;
    hushes = subst (λ (b : ButlerState V). Hushes b new.butler) (ap (λ (z : ServeWorker V). z.butler) same) hushes;
  }

  -- which then flushes on
  pub refused_flushes : (old new : ServeWorker V) → TurnIsRefused media on old new → FlushesAt media on new
  refused_flushes old new is = let was = is.serves in record {
    read_failed = old.butler.hushed;
    serves = record {
      turns = record { reader_of = was.turns.reader_of; begins = was.turns.begins; serving = hushed_serves on.at.session on.at.edits old.butler new.butler is.hushes was.turns.serving };
      keeps = subst (KeepsMedia media on old.butler.hushed) (sym is.hushes.same) (record { others = was.keeps.others; may_record = was.keeps.may_record; takes = λ tells. let held = was.keeps.takes tells in record { flushed = held.flushed; none_failed = held.none_failed; many = held.many }; reads = was.keeps.reads; writes = was.keeps.writes });
      true_to = λ tells. hushed_true on.at.session on.at.edits old.butler new.butler is.hushes on.at.held (was.true_to tells);
      noted = is.failed ∙ was.noted ∙ ap (λ flag. record { read = old.butler.hushed; write = flag }) (sym (ap (λ (b : ButlerState V). b.write_failed) is.hushes.same));
    };
    hushed = ap (λ (b : ButlerState V). b.hushed) is.hushes.same;
  }

-- ---- by its own number

module _ {V : Type 0} (media : MediaOutside V) (told : ServeTold V) where
  pub serves_now : (edits : List Edit) (w : ServeWorker V) → ServesAt media (with_entered w.reader.edition.edits (served_from media told edits)) w → ServesAlone media told w
  serves_now edits w serves = subst (λ z. ServesAt media (served_from media told z) w) (sym (take_all w.butler.entered w.reader.edition.edits (omega (arith, serves.turns.serving.entered)))) serves

  -- a turn that sends nothing meets no failed read
  pub unread_on : (most : ℕ) (w new : ServeWorker V) (idle : Bool) → TurnedOnce media told.session.value most w idle new → w.butler.hushed ≡ true →
      media.read_faults new.butler.media ≡ media.read_faults w.butler.media
  unread_on most w new idle once hushed = subst (λ failed. Counts failed (media.read_faults w.butler.media) (media.read_faults new.butler.media)) (once.fails.read_once hushed).0 once.fails.reads

  pub flushes_now : (edits : List Edit) (w : ServeWorker V) → FlushesAt media (with_entered w.reader.edition.edits (served_from media told edits)) w → FlushesAlone media told w
  flushes_now edits w flushes = subst (λ z. FlushesAt media (served_from media told z) w) (sym (take_all w.butler.entered w.reader.edition.edits (omega (arith, flushes.serves.turns.serving.entered)))) flushes

  -- the edits that it entered last are the first of those that its reader saw later
  pub flushes_first : (edits : List Edit) (w : ServeWorker V) → FlushesAt media (served_from media told edits) w → FlushesAlone media told w
  flushes_first edits w flushes = subst (λ z. FlushesAt media (served_from media told z) w) (sym (taken edits w.reader.edition.edits w.butler.entered flushes.serves.turns.serving.entered flushes.serves.turns.begins)) flushes
    where
      taken : (xs ys : List Edit) (n : ℕ) → n ≡ length xs → IsPrefix xs ys → take n ys ≡ xs
      taken xs ys n is (zs, more) = ap (take n) (sym more) ∙ ap (λ m. take m (xs ++ zs)) is ∙ take-append_seam xs zs
