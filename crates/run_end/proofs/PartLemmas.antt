-- What finishing the takes leaves, whichever way it went.
use Rattle.std.proofs.Common.{◌≡◌, ℕ, ◌≤◌, arith, List, [], length, refl, sym, ap, subst, ◌∙◌}
use Rattle.std.specs.Prelude.{Bool, true, false, ◌||◌, ◌==◌, is_err, Result, Ok, Err, OnOk, OnErr}
use Rattle.std.proofs.lemmas.Bool.{false≢true, true≢false}
use Rattle.ses_io.specs.Files.{Files}
use Rattle.ses_io.specs.Outside.{MediaOutside, WriteCause}
use Rattle.engine_model.specs.Journal.{Entry}
use Rattle.capture_flush.specs.declared.fault.WriteFault.{WriteFault}
use Rattle.capture_flush.specs.Finished.{AreTakes, AreTakesBut, AreTakesInPart, AreWholeBut, Recorded}
use Rattle.capture_flush.specs.Taking.{Taking, is_noted, most_failed}
use Rattle.run_end.specs.declared.failures.Failures.{Failures}
use Rattle.run_end.specs.Parted.{FinishesTakes, HasFlushedAll}

-- only a write is noted
pub only_write : (was now : Failures) (write : Bool) → now ≡ record was { write = write } → now ≡ record was { write = now.write }
only_write was now write is = is ∙ ap (λ b. record was { write = b }) (sym (ap (λ (f : Failures). f.write) is))

-- the takes were made whole, by the media that the butler gave back
pub finishes_so : {V : Type 0} (media : MediaOutside V) (run : Recorded) (journal : List Entry) (x y : Taking) (was now : Failures) (write : Bool) (old given done new : V) → now ≡ record was { write = write } → given ≡ old → new ≡ done → x ≡ y →
    FinishesTakes media run journal x was.write given write done → FinishesTakes media run journal y was.write old now.write new
finishes_so media run journal x y was now write old given done new noted back is taking finishes = subst (λ (f : Failures). FinishesTakes media run journal y was.write old f.write new) (sym noted)
    (subst (FinishesTakes media run journal y was.write old write) (sym is) (subst (λ v. FinishesTakes media run journal y was.write v write done) back
    (subst (λ f. FinishesTakes media run journal f was.write given write done) taking finishes)))

-- ---- the takes

-- where none has failed all are whole
all_whole : (run : Recorded) (journal : List Entry) (f : Taking) (files : Files) → f.failed ≡ [] → AreTakesBut run journal f files → AreTakes run journal files
all_whole run journal f files none but = record {
  takes = λ t n lt named. but.takes t n lt named (ap (λ l. is_noted l t n || length l == most_failed) none);
  others = but.in_part.others;
}

-- and none is cut
none_cut : (run : Recorded) (journal : List Entry) (f : Taking) (before after : ℕ) (files : Files) → before ≤ after → AreTakesBut run journal f files → AreWholeBut run journal f before after files
none_cut run journal f before after files later but = record { cut = []; many = omega (arith, later); whole = λ t n lt named fine not. but.takes t n lt named fine }

-- they were finished
pub finished_takes : {V : Type 0} (media : MediaOutside V) (run : Recorded) (journal : List Entry) (f : Taking) (was now : Bool) (old new : V) (answer : Result (Unit {0}) WriteFault) → HasFlushedAll media run journal was f old →
    (media.tells → OnOk answer (AreTakesBut run journal f (media.files new))) → (media.tells → OnErr answer (AreTakesInPart run journal (media.files new))) → WriteCause media old new answer →
    (media.tells → OnErr answer (AreWholeBut run journal f (media.write_faults old) (media.write_faults new) (media.files new))) →
    media.read_faults new ≡ media.read_faults old → now ≡ (was || is_err answer) → FinishesTakes media run journal f was old now new
finished_takes media run journal f was now old new answer had whole part cause but reads is = subst (λ b. FinishesTakes media run journal f was old b new) (sym is) (by was answer had whole part cause but)
  where
    by : (was : Bool) (answer : Result (Unit {0}) WriteFault) → HasFlushedAll media run journal was f old → (media.tells → OnOk answer (AreTakesBut run journal f (media.files new))) →
        (media.tells → OnErr answer (AreTakesInPart run journal (media.files new))) → WriteCause media old new answer →
        (media.tells → OnErr answer (AreWholeBut run journal f (media.write_faults old) (media.write_faults new) (media.files new))) → FinishesTakes media run journal f was old (was || is_err answer) new
    by true (Ok u) had whole part cause but = record {
      stays = λ e. refl;
      whole = λ t fine. absurd (true≢false fine);
      in_part = λ t failed. (whole t).in_part;
      others = λ t. none_cut run journal f (media.write_faults old) (media.write_faults new) (media.files new) cause.later (whole t);
      later = cause.later;
      kept = λ fine. absurd (true≢false fine);
      rose = λ fine. absurd (true≢false fine);
      reads = reads;
    }
    by true (Err e) had whole part cause but = record {
      stays = λ e. refl;
      whole = λ t fine. absurd (true≢false fine);
      in_part = λ t failed. part t;
      others = but;
      later = cause.later;
      kept = λ fine. absurd (true≢false fine);
      rose = λ fine. absurd (true≢false fine);
      reads = reads;
    }
    by false (Ok u) had whole part cause but = record {
      stays = λ e. absurd (false≢true e);
      whole = λ t fine. all_whole run journal f (media.files new) (had.none_failed t refl) (whole t);
      in_part = λ t failed. absurd (false≢true failed);
      others = λ t. none_cut run journal f (media.write_faults old) (media.write_faults new) (media.files new) cause.later (whole t);
      later = cause.later;
      kept = λ fine. cause.kept;
      rose = λ fine failed. absurd (false≢true failed);
      reads = reads;
    }
    by false (Err e) had whole part cause but = record {
      stays = λ e. refl;
      whole = λ t fine. absurd (true≢false fine);
      in_part = λ t failed. part t;
      others = but;
      later = cause.later;
      kept = λ fine. absurd (true≢false fine);
      rose = λ fine failed. cause.rose;
      reads = reads;
    }

-- tracks that are recorded aren't left alone,
pub not_quiet : {V : Type 0} (records : Bool) (old new : V) (was now : Bool) → records ≡ true → records ≡ false → (new ≡ old) × (now ≡ was)
not_quiet records old new was now so not = absurd (true≢false (sym so ∙ not))

-- and where none is recorded no takes are finished
pub not_recording : {V : Type 0} (media : MediaOutside V) (run : Recorded) (journal : List Entry) (files : Taking) (records was now : Bool) (old new : V) → records ≡ false → records ≡ true → FinishesTakes media run journal files was old now new
not_recording media run journal files records was now old new not so = absurd (false≢true (sym not ∙ so))
