-- Why the process's thread plays on.
use Rattle.std.proofs.Common.{◌≡◌, ℕ, ◌+◌, ◌<◌, ◌≤◌, List, [], ◌∷◌, ◌++◌, length, take, refl, sym, ap, ◌∙◌, subst, arith, length-append}
use Rattle.std.specs.Prelude.{Result, Ok, Err, OnOk}
use lib.Seq.{take-append_seam}
use Rattle.std.proofs.lemmas.List.{length-map, map-append, take_all}
use Rattle.session_model.specs.declared.edit.Edit.{Edit}
use mathlib.Core.List.{IsPrefix}
use base.Growing.{prefix_refl, prefix_trans}
use Rattle.ses_io.specs.Outside.{SourceOutside, SinkOutside}
use Rattle.edition_log.specs.EditionState.{EditionState as Edition}
use Rattle.engine_model.specs.Journal as engine
use Rattle.cycle_journal.specs.JournalView.{seen_entry, seen_entries}
use Rattle.process_cycle.specs.declared.fault.CycleFault.{CycleFault}
use Rattle.process_cycle.specs.ProcessState.{Playing, ProcessState, entered, entries_of}
use Rattle.process_cycle.specs.Playing.{IsPlaying}
use Rattle.process_cycle.specs.Promised.{IsMastered, Promises}
use Rattle.input_blocks.specs.Rest.{rest_sound}
use Rattle.process_cycle.specs.Captured.{Hears}
use Rattle.process_cycle.specs.Cycles.{HasStopped, MakesEntry}
use Rattle.route_lists.specs.Lists.{IsReaderOf, Reading}
use Rattle.ses_io.specs.FixedList.{Listed}
use Rattle.cycle_journal.specs.declared.entry.Entry as noted
use Rattle.cycle_grants.specs.Grants.{grants_in, newest}
use Rattle.cycle_grants.specs.Allowance.{AllowanceState, Awaits}
use Rattle.cycle_grants.specs.Allowed.{KeepsAllowances, MayMake}
use Rattle.cycle_grants.proofs.AllowedLemmas.{an_entry_follows, awaiting_keeps_allowances}
use Rattle.play_worker.specs.declared.told.Told.{Told}
use Rattle.play_worker.specs.declared.worker.PlayWorker.{PlayWorker}
use Rattle.play_worker.specs.Cycle.{PlaysCycle}
use Rattle.play_worker.specs.Patient.{IsPatient}
use Rattle.play_worker.specs.Kept.{KeepsRun}
use Rattle.play_worker.proofs.PatientLemmas.{journal_kept}
use Rattle.play_worker.proofs.KeptLemmas.{cycle_keeps_run, looks_keep_run, run_refl, run_trans}
use Rattle.play_worker.proofs.FaultLemmas.{made_unfailed, reads_stream}
use Rattle.play_worker.specs.Plays.{IsUnfailed, MayCycle, Plays, PlaysAt, RestsAt, Stops, at_now, given_last, made_by}

module _ {I W : Type 0} (inputs : SourceOutside I) (sinks : SinkOutside W) (at : Playing) (patience : ℕ) (w : PlayWorker I W) (plays : PlaysAt patience inputs sinks at w) where
  -- an allowance was waited for
  pub awaits : (made : ℕ) (b : AllowanceState) → made ≡ made_by w → Awaits patience made w.grants b → PlaysAt patience inputs sinks at (record w { grants = b }) × MayMake (made_by w) b
  awaits made b is awaited =
      let long : length (seen_entries w.process.journal.items) ≡ made_by w = length-map w.process.journal.items seen_entry in
      let both = awaiting_keeps_allowances patience (seen_entries w.process.journal.items) w.grants b plays.allowed (subst (λ n. Awaits patience n w.grants b) (is ∙ sym long) awaited) in (
        record { reader_of = plays.reader_of; begins = plays.begins; playing = plays.playing; mastered = plays.mastered; patient = plays.patient; allowed = both.0; unfailed = plays.unfailed },
        subst (λ n. MayMake n b) long both.1,
      )

  -- a newer edition was entered, or none
  pub enters : (r : Reading) → IsReaderOf at.session r → IsPrefix w.reader.edition.edits r.edition.edits → PlaysAt patience inputs sinks at (record w { reader = r })
  enters r of more = record {
    reader_of = of;
    begins = prefix_trans at.edits w.reader.edition.edits r.edition.edits plays.begins more;
    playing = plays.playing;
    mastered = plays.mastered;
    patient = plays.patient;
    allowed = plays.allowed;
    unfailed = plays.unfailed;
  }

  -- the edits in which it looked last are those that its number says
  pub given_is : given_last w ≡ at.edits
  given_is = ap (λ n. take n w.reader.edition.edits) plays.playing.entered ∙ ap (take (length at.edits)) (sym plays.begins.1) ∙ take-append_seam at.edits plays.begins.0

  pub by_number : PlaysAt patience inputs sinks (entered (given_last w) at) w
  by_number = subst (λ es. PlaysAt patience inputs sinks (entered es at) w) (sym given_is) plays

  -- ---- a cycle in the edition that it sees

  module _ (p : ProcessState I W) (may : MayCycle w) (result : Result (Unit {0}) CycleFault) (cycle : PlaysCycle inputs sinks at patience w.reader.edition w.process result p)
      (patient : IsPatient patience (entered w.reader.edition.edits at) p) where
    abbrev edits : List Edit
    edits = w.reader.edition.edits

    abbrev after : PlayWorker I W
    after = record w { process = p }

    kept : cycle.looked.journal ≡ w.process.journal
    kept = journal_kept w.process cycle.looked cycle.keeps

    -- its rings and what was noted stand
    pub keeps_run : KeepsRun w.process p
    keeps_run = run_trans w.process cycle.looked p (looks_keep_run w.process cycle.looked (cycle.may.playing.plays ∙ sym plays.playing.plays) cycle.rings cycle.keeps)
        (cycle_keeps_run inputs (entered edits at) w.reader.edition cycle.looked p result cycle.made cycle.fault cycle.reads)

    -- where its number is that of the edition
    numbered : p.entered ≡ length edits → given_last after ≡ edits
    numbered is = ap (λ n. take n edits) is ∙ take_all (length edits) edits (omega arith)

    -- the entry that was made
    module _ (made : MakesEntry at.session w.reader.edition cycle.looked p) where
      items_are : seen_entries p.journal.items ≡ seen_entries w.process.journal.items ++ seen_entry made.made ∷ []
      items_are = ap (λ j. seen_entries j.items) made.noted ∙ map-append seen_entry cycle.looked.journal.items (made.made ∷ []) ∙ ap (λ j. seen_entries j.items ++ seen_entry made.made ∷ []) kept

      in_edition : (seen_entry made.made).edition ≡ length edits
      in_edition = ap (λ (e : engine.Entry). e.edition) made.entry

      allowed_after : KeepsAllowances patience (seen_entries p.journal.items) w.grants
      allowed_after = subst (λ es. KeepsAllowances patience es w.grants) (sym items_are) (an_entry_follows patience (seen_entries w.process.journal.items) (seen_entry made.made) w.grants plays.allowed
          (subst (λ n. MayMake n w.grants) (sym (length-map w.process.journal.items seen_entry)) may.may) (let new = may.new in omega (arith, new, in_edition)))

      one_more : made_by after ≡ made_by w + 1
      one_more = ap (λ j. length j.items) made.noted ∙ length-append cycle.looked.journal.items (made.made ∷ []) ∙ ap (λ j. length j.items + 1) kept

      plays_after : IsPlaying inputs (entered edits at) p → IsMastered sinks (entered edits at) p → IsUnfailed inputs sinks w.told p → PlaysAt patience inputs sinks (entered (given_last after) at) after
      plays_after playing mastered unfailed = subst (λ es. PlaysAt patience inputs sinks (entered es at) after) (sym (numbered playing.entered)) (record {
        reader_of = plays.reader_of;
        begins = prefix_refl edits;
        playing = playing;
        mastered = mastered;
        patient = patient;
        allowed = allowed_after;
        unfailed = unfailed;
      })

    -- after a fault
    looked_in : HasStopped cycle.looked p → given_last after ≡ edits
    looked_in stopped = numbered (ap (λ (q : ProcessState I W). q.entered) stopped ∙ cycle.may.playing.entered)

    rests_after : HasStopped cycle.looked p → RestsAt patience inputs (entered (given_last after) at) after
    rests_after stopped = subst (λ es. RestsAt patience inputs (entered es at) after) (sym (looked_in stopped)) (record {
      reader_of = plays.reader_of;
      begins = prefix_refl edits;
      numbered = ap (λ (q : ProcessState I W). q.entered) stopped ∙ cycle.may.playing.entered;
      promises = subst (λ (q : ProcessState I W). Promises (entered edits at) (entries_of q) q.ends) (sym stopped) cycle.may.playing.promises;
      hears = subst (λ (q : ProcessState I W). Hears inputs.tells (rest_sound p.input.stream at.start) at.session (entries_of q) q.ends.takes.items) (sym stopped)
          (subst (λ s. Hears inputs.tells (rest_sound s at.start) at.session (entries_of cycle.looked) cycle.looked.ends.takes.items) (sym (reads_stream inputs (entered edits at) cycle.looked p result cycle.reads))
          cycle.may.playing.hears);
      master_of = cycle.master_of;
      cycles = subst (λ (q : ProcessState I W). q.journal.room ≤ 100000) (sym stopped) cycle.may.playing.cycles;
      patient = patient;
      allowed = subst (λ j. KeepsAllowances patience (seen_entries j.items) w.grants) (sym (ap (λ (q : ProcessState I W). q.journal) stopped ∙ kept)) plays.allowed;
    })

-- by what was answered
pub made_after : {I W : Type 0} (inputs : SourceOutside I) (sinks : SinkOutside W) (at : Playing) (patience : ℕ) (w : PlayWorker I W) → PlaysAt patience inputs sinks at w → (p : ProcessState I W) → MayCycle w →
    (result : Result (Unit {0}) CycleFault) (u : Unit {0}) → result ≡ Ok u → PlaysCycle inputs sinks at patience w.reader.edition w.process result p → IsPatient patience (entered w.reader.edition.edits at) p →
    OnOk result (IsPlaying inputs (entered w.reader.edition.edits at) p) → OnOk result (IsMastered sinks (entered w.reader.edition.edits at) p) →
    PlaysAt patience inputs sinks (entered (given_last (record w { process = p })) at) (record w { process = p }) × (made_by (record w { process = p }) ≡ made_by w + 1)
made_after inputs sinks at patience w plays p may (Ok x) u is cycle patient playing mastered = (
  plays_after inputs sinks at patience w plays p may (Ok x) cycle patient cycle.made playing mastered
      (made_unfailed inputs sinks w.told (entered w.reader.edition.edits at) w.process cycle.looked p cycle.keeps plays.unfailed cycle.may.playing cycle.reads cycle.writes.cause.kept),
  one_more inputs sinks at patience w plays p may (Ok x) cycle patient cycle.made,
)
made_after inputs sinks at patience w plays p may (Err why) u is cycle patient playing mastered = absurd (err_isnt_ok is)
  where
    err_isnt_ok : Err why ≡ Ok u → ⊥
    err_isnt_ok e = cc

pub stopped_after : {I W : Type 0} (inputs : SourceOutside I) (sinks : SinkOutside W) (at : Playing) (patience : ℕ) (w : PlayWorker I W) → PlaysAt patience inputs sinks at w → (p : ProcessState I W) → MayCycle w →
    (result : Result (Unit {0}) CycleFault) (why : CycleFault) → result ≡ Err why → PlaysCycle inputs sinks at patience w.reader.edition w.process result p → IsPatient patience (entered w.reader.edition.edits at) p →
    RestsAt patience inputs (entered (given_last (record w { process = p })) at) (record w { process = p })
stopped_after inputs sinks at patience w plays p may (Err x) why is cycle patient = rests_after inputs sinks at patience w plays p may (Err x) cycle patient cycle.fault
stopped_after inputs sinks at patience w plays p may (Ok x) why is cycle patient = absurd (ok_isnt_err is)
  where
    ok_isnt_err : Ok x ≡ Err why → ⊥
    ok_isnt_err e = cc

-- ---- the edition by another name

module _ {I W : Type 0} (inputs : SourceOutside I) (sinks : SinkOutside W) (at : Playing) (patience : ℕ) (w : PlayWorker I W) (plays : PlaysAt patience inputs sinks at w) (p : ProcessState I W) (may : MayCycle w)
    (result : Result (Unit {0}) CycleFault) (e : Edition) (same : e ≡ w.reader.edition) (cycle : PlaysCycle inputs sinks at patience e w.process result p) (patient : IsPatient patience (entered e.edits at) p) where
  pub made_in : (u : Unit {0}) → result ≡ Ok u → OnOk result (IsPlaying inputs (entered e.edits at) p) → OnOk result (IsMastered sinks (entered e.edits at) p) →
      PlaysAt patience inputs sinks (entered (given_last (record w { process = p })) at) (record w { process = p }) × (made_by (record w { process = p }) ≡ made_by w + 1)
  made_in u is playing mastered = made_after inputs sinks at patience w plays p may result u is (subst (λ (x : Edition). PlaysCycle inputs sinks at patience x w.process result p) same cycle)
      (subst (λ (x : Edition). IsPatient patience (entered x.edits at) p) same patient) (subst (λ (x : Edition). OnOk result (IsPlaying inputs (entered x.edits at) p)) same playing)
      (subst (λ (x : Edition). OnOk result (IsMastered sinks (entered x.edits at) p)) same mastered)

  pub stopped_in : (why : CycleFault) → result ≡ Err why → RestsAt patience inputs (entered (given_last (record w { process = p })) at) (record w { process = p })
  stopped_in why is = stopped_after inputs sinks at patience w plays p may result why is (subst (λ (x : Edition). PlaysCycle inputs sinks at patience x w.process result p) same cycle)
      (subst (λ (x : Edition). IsPatient patience (entered x.edits at) p) same patient)

  pub keeps_in : KeepsRun w.process p
  keeps_in = keeps_run inputs sinks at patience w plays p may result (subst (λ (x : Edition). PlaysCycle inputs sinks at patience x w.process result p) same cycle)
      (subst (λ (x : Edition). IsPatient patience (entered x.edits at) p) same patient)

  -- it looked last in that edition
  looked_last : (why : CycleFault) (r : Result (Unit {0}) CycleFault) → r ≡ Err why → PlaysCycle inputs sinks at patience w.reader.edition w.process r p → IsPatient patience (entered w.reader.edition.edits at) p →
      given_last (record w { process = p }) ≡ w.reader.edition.edits
  looked_last why (Err x) is did kept = looked_in inputs sinks at patience w plays p may (Err x) did kept did.fault
  looked_last why (Ok x) is did kept = absurd (ok_isnt_err is)
    where
      ok_isnt_err : Ok x ≡ Err why → ⊥
      ok_isnt_err e = cc

  pub stops_in : (why : CycleFault) → result ≡ Err why → Stops patience inputs sinks (entered (given_last (record w { process = p })) at) why (record w { process = p })
  stops_in why is = record {
    before = w;
    was = at.edits;
    plays = plays;
    may = may;
    given = sym (looked_last why result is (subst (λ (x : Edition). PlaysCycle inputs sinks at patience x w.process result p) same cycle) (subst (λ (x : Edition). IsPatient patience (entered x.edits at) p) same patient));
    cycle = subst (λ (r : Result (Unit {0}) CycleFault). PlaysCycle inputs sinks at patience w.reader.edition w.process r p) is
        (subst (λ (x : Edition). PlaysCycle inputs sinks at patience x w.process result p) same cycle);
    same = refl;
  }

-- ---- one cycle

module _ {I W : Type 0} (inputs : SourceOutside I) (sinks : SinkOutside W) (at : Playing) (patience : ℕ) where
  -- the newest edition was entered, or none
  pub plays_newest : (v r : PlayWorker I W) → PlaysAt patience inputs sinks at v → r ≡ record v { reader = r.reader } → IsReaderOf at.session r.reader → IsPrefix v.reader.edition.edits r.reader.edition.edits →
      PlaysAt patience inputs sinks at r
  plays_newest v r plays same of more = subst (λ (x : PlayWorker I W). PlaysAt patience inputs sinks at x) (sym same) (enters inputs sinks at patience v plays r.reader of more)

pub may_cycle : {I W : Type 0} (w v r : PlayWorker I W) → v ≡ record w { grants = v.grants } → r ≡ record v { reader = r.reader } → made_by w < w.process.journal.room → MayMake (made_by w) v.grants →
    newest (grants_in v.grants.from) ≤ length r.reader.edition.edits → MayCycle r
may_cycle {I} {W} w v r awaited entered_is room may new =
    let process : r.process ≡ w.process = ap (λ (x : PlayWorker I W). x.process) entered_is ∙ ap (λ (x : PlayWorker I W). x.process) awaited in
    let grants : r.grants ≡ v.grants = ap (λ (x : PlayWorker I W). x.grants) entered_is in record {
      room = subst (λ (p : ProcessState I W). length p.journal.items < p.journal.room) (sym process) room;
      may = subst (λ (p : ProcessState I W). MayMake (length p.journal.items) r.grants) (sym process) (subst (λ (a : AllowanceState). MayMake (made_by w) a) (sym grants) may);
      new = subst (λ (a : AllowanceState). newest (grants_in a.from) ≤ length r.reader.edition.edits) (sym grants) new;
    }

-- where no cycle was made the process is as it was
pub keeps_other : {I W : Type 0} (w v r : PlayWorker I W) → v ≡ record w { grants = v.grants } → r ≡ record v { reader = r.reader } → KeepsRun w.process r.process
keeps_other {I} {W} w v r awaited entered_is = subst (KeepsRun w.process) (sym (ap (λ (x : PlayWorker I W). x.process) entered_is ∙ ap (λ (x : PlayWorker I W). x.process) awaited)) (run_refl w.process)

-- by the numbers of the journal
pub all_made : (j first second : Listed noted.Entry) (entries : List noted.Entry) (room : ℕ) → first ≡ j → entries ≡ first.items → second ≡ j → room ≡ second.room → room ≤ length entries →
    length j.items ≤ j.room → length j.items ≡ j.room
all_made j first second entries room one items two is full within = omega (arith, is, ap (λ (k : Listed noted.Entry). k.room) two, ap length items, ap (λ (k : Listed noted.Entry). length k.items) one, full, within)

pub has_room : (j first second : Listed noted.Entry) (entries : List noted.Entry) (room : ℕ) → first ≡ j → entries ≡ first.items → second ≡ j → room ≡ second.room → length entries < room → length j.items < j.room
has_room j first second entries room one items two is less = omega (arith, is, ap (λ (k : Listed noted.Entry). k.room) two, ap length items, ap (λ (k : Listed noted.Entry). length k.items) one, less)

-- ---- all cycles

module _ {I W : Type 0} (inputs : SourceOutside I) (sinks : SinkOutside W) (w v : PlayWorker I W) (told : v.told ≡ w.told) where
  -- what it plays, by its own number
  pub at_now_is : entered (given_last v) (at_now inputs sinks w) ≡ at_now inputs sinks v
  at_now_is = ap (λ (t : Told I W). record { session = t.session.value; edits = given_last v; start = inputs.left t.input.value; before = sinks.held t.sink.value }) (sym told)

  pub plays_now : (patience : ℕ) → PlaysAt patience inputs sinks (entered (given_last v) (at_now inputs sinks w)) v → Plays patience inputs sinks v
  plays_now patience plays = subst (λ (at : Playing). PlaysAt patience inputs sinks at v) at_now_is plays
