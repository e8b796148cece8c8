-- Each fault has its cause, and where there is none a run is Done.
use Rattle.std.proofs.Common.{◌≡◌, ℕ, ◌⊎◌, inl, inr, refl, sym, ap, subst, ◌∙◌, arith}
use Rattle.std.specs.Prelude.{Bool, true, false, ◌||◌, Option, Some, None, Err, is_ok, is_none}
use Rattle.std.proofs.lemmas.Bool.{true≢false}
use Rattle.ses_io.specs.FixedList.{Listed}
use Rattle.ses_io.specs.Outside.{MediaOutside, SourceOutside, SinkOutside}
use Rattle.ses_io.specs.declared.world.World.{World}
use Rattle.engine_model.specs.Lines.{is_too_long}
use Rattle.edit_script.specs.Reading.{read_line}
use Rattle.cycle_journal.specs.declared.entry.Entry.{Entry}
use Rattle.cycle_journal.specs.declared.status.Status.{Status}
use Rattle.cycle_journal.specs.declared.status.Status.TheVariants.{Done, Session, SourceFile, ReadFault, WriteFault, InputFault, MasterFault, ControlFault, OutFault, BadInput, NoMemory, TakesExist, ControlTooLong}
use Rattle.fault_lines.specs.Fault.{fault_line}
use Rattle.input_head.specs.Input.{input_head, wrong_of}
use Rattle.run_world.specs.declared.finished.Faults.{Faults}
use Rattle.run_end.specs.Failures.{IsFaultCount}
use Rattle.session_play.specs.declared.outcome.Outcome.{Outcome}
use Rattle.session_play.specs.Causes.{AllStayOpen, HasCauses, IsCause}
use Rattle.session_play.specs.Complete.{IsComplete, IsRight, NothingFails}
use Rattle.session_play.specs.Ending.{status_at_end, with_report}
use Rattle.session_play.specs.Opening.{IsTold, TakesAreThere, opens}
use Rattle.session_play.specs.Played.{IsRun, WasPlayed}
use Rattle.session_play.specs.Reported.{IsStill}
use Rattle.session_play.specs.Request.{Request, records}
use Rattle.session_play.specs.Unplayed.{CountsBefore, Gets, GetsAFront, IsBeforePlay, IsUnplayed}
use Rattle.session_play.proofs.OpeningLemmas.{IsOfEnd, same_session}

-- ---- what a status at the end says

-- Nothing has failed.
pub record NoneSet (f : Faults) : Type 0 where
  pub memory : f.memory ≡ false
  pub input : f.input ≡ false
  pub master : f.master ≡ false
  pub read : f.read ≡ false
  pub write : f.write ≡ false
  pub control : f.control ≡ false
  pub long : f.long ≡ false
  pub out : f.out ≡ false

abbrev pub SaysOf : Faults → Status → Type 0
SaysOf f Done = NoneSet f
SaysOf f NoMemory = f.memory ≡ true
SaysOf f InputFault = f.input ≡ true
SaysOf f MasterFault = f.master ≡ true
SaysOf f ReadFault = f.read ≡ true
SaysOf f WriteFault = f.write ≡ true
SaysOf f ControlFault = f.control ≡ true
SaysOf f ControlTooLong = f.long ≡ true
SaysOf f OutFault = f.out ≡ true
SaysOf f _ = ⊥

pub says_of : (f : Faults) → SaysOf f (status_at_end f)
says_of f = by f.memory f.input f.master f.read f.write f.control f.long f.out where
  by : (m i a r w c l o : Bool) → let f : Faults = record { memory = m; input = i; master = a; read = r; write = w; control = c; long = l; out = o } in SaysOf f (status_at_end f)
  by true i a r w c l o = refl
  by false true a r w c l o = refl
  by false false true r w c l o = refl
  by false false false true w c l o = refl
  by false false false false true c l o = refl
  by false false false false false true l o = refl
  by false false false false false false true o = refl
  by false false false false false false false true = refl
  by false false false false false false false false = record { memory = refl; input = refl; master = refl; read = refl; write = refl; control = refl; long = refl; out = refl }

done_of : (f : Faults) → NoneSet f → status_at_end f ≡ Done
done_of f n = by f.memory f.input f.master f.read f.write f.control f.long f.out n where
  by : (m i a r w c l o : Bool) → let f : Faults = record { memory = m; input = i; master = a; read = r; write = w; control = c; long = l; out = o } in NoneSet f → status_at_end f ≡ Done
  by true i a r w c l o n = absurd (true≢false n.memory)
  by false true a r w c l o n = absurd (true≢false n.input)
  by false false true r w c l o n = absurd (true≢false n.master)
  by false false false true w c l o n = absurd (true≢false n.read)
  by false false false false true c l o n = absurd (true≢false n.write)
  by false false false false false true l o n = absurd (true≢false n.control)
  by false false false false false false true o n = absurd (true≢false n.long)
  by false false false false false false false true n = absurd (true≢false n.out)
  by false false false false false false false false n = refl

-- no status of what was wrong before comes of it
pub ends_so : (f : Faults) (s : Status) → SaysOf f s → IsOfEnd s
ends_so f (Session why) says = absurd says
ends_so f (SourceFile name why) says = absurd says
ends_so f (TakesExist name) says = absurd says
ends_so f (BadInput why) says = absurd says
ends_so f _ says = tt

-- ---- counts

-- what stood still didn't rise
no_rise : (before now : ℕ) (rose : Bool) → IsFaultCount before now rose → IsStill before now → rose ≡ false
no_rise before now true counted still = absurd (omega (arith, counted.raised refl, still.same, still.short))
no_rise before now false counted still = refl

cause_of : (fault : Status) (before now : ℕ) (rose : Bool) (s : Status) → IsFaultCount before now rose → (s ≡ fault → rose ≡ true) → (s ≡ Done → rose ≡ false) → IsCause fault before now s
cause_of fault before now rose s counted is none = record { rose = λ e. counted.raised (is e); later = λ _. counted.later; done = λ e. counted.kept (none e) }

-- a count that is as it was, of a fault that isn't answered
cause_of_none : (fault : Status) (before now : ℕ) (s : Status) → now ≡ before → (s ≡ fault → ⊥) → IsCause fault before now s
cause_of_none fault before now s same not = record { rose = λ e. absurd (not e); later = λ _. omega (arith, same); done = λ _. same }

cause_before : (fault : Status) (before now : ℕ) (s : Status) → CountsBefore fault before now s → (s ≡ Done → ⊥) → IsCause fault before now s
cause_before fault before now s counts not = record { rose = counts.rose; later = λ other. omega (arith, counts.same other); done = λ e. absurd (not e) }

module _ {M I C W O : Type 0} (media : MediaOutside M) (inputs : SourceOutside I) (controls : SourceOutside C) (masters : SinkOutside W) (outs : SinkOutside O) (old : World M I C W O) (r : Request)
    (new : Outcome M I C W O) where
  -- ---- a run that was played

  module _ (p : IsRun media inputs controls masters outs old r new) where
    abbrev f : Faults
    f = with_report p.out.unreported p.finished.faults

    says : SaysOf f new.status
    says = subst (SaysOf f) (sym p.out.status_is) (says_of f)

    says_at : (s : Status) → new.status ≡ s → SaysOf f s
    says_at s is = subst (SaysOf f) is says

    world_is : new.world ≡ record p.finished.world { out = new.world.out }
    world_is = p.hands_on.world

    reads : IsFaultCount (media.read_faults old.media) (media.read_faults new.world.media) p.finished.faults.read
    reads = subst (λ (w : World M I C W O). IsFaultCount (media.read_faults old.media) (media.read_faults w.media) p.finished.faults.read) (sym world_is) p.counted.reads

    writes : IsFaultCount (media.write_faults old.media) (media.write_faults new.world.media) p.finished.faults.write
    writes = subst (λ (w : World M I C W O). IsFaultCount (media.write_faults old.media) (media.write_faults w.media) p.finished.faults.write) (sym world_is) p.counted.writes

    inputs_are : IsFaultCount (inputs.faults old.input) (inputs.faults new.world.input) p.finished.faults.input
    inputs_are = subst (λ (w : World M I C W O). IsFaultCount (inputs.faults old.input) (inputs.faults w.input) p.finished.faults.input) (sym world_is) p.counted.inputs_are

    masters_are : IsFaultCount (masters.faults old.master) (masters.faults new.world.master) p.finished.faults.master
    masters_are = subst (λ (w : World M I C W O). IsFaultCount (masters.faults old.master) (masters.faults w.master) p.finished.faults.master) (sym world_is) p.counted.masters_are

    controls_are : IsFaultCount (controls.faults old.control) (controls.faults new.world.control) p.finished.faults.control
    controls_are = subst (λ (w : World M I C W O). IsFaultCount (controls.faults old.control) (controls.faults w.control) p.finished.faults.control) (sym world_is) p.counted.controls_are

    stay_open : IsStill (media.read_faults old.media) (media.read_faults new.world.media) → AllStayOpen new.rings.items
    stay_open still = subst (λ l. AllStayOpen l.items) (sym p.hands_on.rings)
        (λ t q at. (p.rings.spent t q at).items ∙ no_rise (media.read_faults old.media) (media.read_faults new.world.media) p.finished.faults.read reads still)

    played_causes : HasCauses media inputs controls masters outs old new
    played_causes = record {
      reads = cause_of ReadFault (media.read_faults old.media) (media.read_faults new.world.media) p.finished.faults.read new.status reads (says_at ReadFault) (λ done. (says_at Done done).read);
      writes = cause_of WriteFault (media.write_faults old.media) (media.write_faults new.world.media) p.finished.faults.write new.status writes (says_at WriteFault) (λ done. (says_at Done done).write);
      inputs_are = cause_of InputFault (inputs.faults old.input) (inputs.faults new.world.input) p.finished.faults.input new.status inputs_are (says_at InputFault) (λ done. (says_at Done done).input);
      masters_are = cause_of MasterFault (masters.faults old.master) (masters.faults new.world.master) p.finished.faults.master new.status masters_are (says_at MasterFault) (λ done. (says_at Done done).master);
      controls_are = cause_of ControlFault (controls.faults old.control) (controls.faults new.world.control) p.finished.faults.control new.status controls_are (says_at ControlFault) (λ done. (says_at Done done).control);
      outs_are = record {
        rose = λ is. p.out.raised (says_at OutFault is);
        later = λ _. p.out.later;
        done = λ done. p.out.kept (says_at Done done).out (ap fault_line done);
      };
      still_open = stay_open;
    }

    out_fine : (b : Bool) → (p.finished.faults.out || p.out.unreported) ≡ b → IsStill (outs.faults old.out) (outs.faults new.world.out) → b ≡ false
    out_fine true is still = absurd (omega (arith, p.out.raised is, still.same, still.short))
    out_fine false is still = refl

    not_long : media.tells → (records r ≡ true → controls.tells) → (right : IsRight media inputs controls old r) → p.finished.faults.control ≡ false → p.finished.faults.out ≡ false →
        (x : Option ℕ) → r.script ≡ x → p.finished.faults.long ≡ false
    not_long t tells right read written (Some from) is = (p.by_lines.scripted from is).short
    not_long t tells right read written None is = let rec : records r ≡ true = ap is_none is in (p.by_lines.read is).long (tells rec) read written
        ∙ ap (λ s. is_too_long read_line s (controls.left old.control)) (same_session (opens (media.files old.media) r) p.session right.session (p.of_file t) right.of_file) ∙ right.short rec

    played_done : media.tells → (records r ≡ true → controls.tells) → IsRight media inputs controls old r → NothingFails media inputs controls masters outs old new.world → new.status ≡ Done
    played_done t tells right fine = p.out.status_is ∙ done_of f (record {
      memory = p.counted.memory;
      input = no_rise (inputs.faults old.input) (inputs.faults new.world.input) p.finished.faults.input inputs_are fine.inputs_are;
      master = no_rise (masters.faults old.master) (masters.faults new.world.master) p.finished.faults.master masters_are fine.masters_are;
      read = no_rise (media.read_faults old.media) (media.read_faults new.world.media) p.finished.faults.read reads fine.reads;
      write = no_rise (media.write_faults old.media) (media.write_faults new.world.media) p.finished.faults.write writes fine.writes;
      control = control_fine;
      long = not_long t tells right control_fine (first p.finished.faults.out p.out.unreported all_out) r.script refl;
      out = all_out;
    }) where
      control_fine : p.finished.faults.control ≡ false
      control_fine = no_rise (controls.faults old.control) (controls.faults new.world.control) p.finished.faults.control controls_are fine.controls_are

      all_out : (p.finished.faults.out || p.out.unreported) ≡ false
      all_out = out_fine (p.finished.faults.out || p.out.unreported) refl fine.outs_are

      first : (a b : Bool) → (a || b) ≡ false → a ≡ false
      first true b e = e
      first false b e = refl

  -- ---- a run that wasn't

  module _ (u : IsUnplayed media inputs outs old new) where
    not_at : (s : Status) → (IsBeforePlay s → ⊥) → new.status ≡ s → ⊥
    not_at s never is = never (subst IsBeforePlay is u.status)

    outs_by : Gets outs (fault_line new.status) old.out new.world.out ⊎ GetsAFront outs (fault_line new.status) old.out new.world.out → IsCause OutFault (outs.faults old.out) (outs.faults new.world.out) new.status
    outs_by either = record { rose = λ is. absurd (not_at OutFault (λ x. x) is); later = λ _. u.outs_later; done = λ is. absurd (not_at Done (λ x. x) is) }

    unplayed_causes : HasCauses media inputs controls masters outs old new
    unplayed_causes = record {
      reads = cause_before ReadFault (media.read_faults old.media) (media.read_faults new.world.media) new.status u.reads (not_at Done (λ x. x));
      writes = cause_of_none WriteFault (media.write_faults old.media) (media.write_faults new.world.media) new.status u.files.other_count (not_at WriteFault (λ x. x));
      inputs_are = cause_before InputFault (inputs.faults old.input) (inputs.faults new.world.input) new.status u.inputs_are (not_at Done (λ x. x));
      masters_are = cause_of_none MasterFault (masters.faults old.master) (masters.faults new.world.master) new.status (ap (λ (x : W). masters.faults x) u.master) (not_at MasterFault (λ x. x));
      controls_are = cause_of_none ControlFault (controls.faults old.control) (controls.faults new.world.control) new.status (ap (λ (x : C). controls.faults x) u.control) (not_at ControlFault (λ x. x));
      outs_are = outs_by u.out;
      still_open = λ still. subst AllStayOpen (sym u.rings) (λ t q at. absurd (cc));
    }

    unplayed_done : media.tells → inputs.tells → IsTold media inputs (media.files old.media) old.input r new.status → IsRight media inputs controls old r → NothingFails media inputs controls masters outs old new.world →
        (new.status ≡ Done) ⊎ (new.status ≡ NoMemory)
    unplayed_done t ti told right fine = by new.status refl u.status where
      by : (s : Status) → new.status ≡ s → IsBeforePlay s → (new.status ≡ Done) ⊎ (new.status ≡ NoMemory)
      by (Session why) is before = absurd (let e = told.only.session t why is in let ok = right.of_file in cc)
      by (SourceFile name why) is before = absurd (let e = told.only.source t name why is in let ok = right.of_file in cc)
      by (TakesExist name) is before = let x = told.only.takes name is in
          absurd (right.fresh x.records_it (subst (TakesAreThere (media.files old.media)) (same_session (opens (media.files old.media) r) x.session right.session (x.of_file t) right.of_file) (x.there t)))
      by (BadInput why) is before = let x = told.only.input why is in
          absurd (true≢false (sym right.heard ∙ ap is_ok (subst (λ s. input_head s (inputs.left old.input) ≡ Err (wrong_of why)) (same_session (opens (media.files old.media) r) x.session right.session (x.of_file t) right.of_file) (x.wrong ti))))
      by ReadFault is before = absurd (omega (arith, u.reads.rose is, fine.reads.same, fine.reads.short))
      by InputFault is before = absurd (omega (arith, u.inputs_are.rose is, fine.inputs_are.same, fine.inputs_are.short))
      by NoMemory is before = inr is
      by _ is before = absurd before

  -- ---- whichever it was

  pub has_causes : (j : Option (Listed Entry)) → WasPlayed media inputs controls masters outs old r new j → HasCauses media inputs controls masters outs old new
  has_causes (Some journal) p = played_causes p
  has_causes None u = unplayed_causes u

  pub is_complete : (j : Option (Listed Entry)) → new.journal ≡ j → WasPlayed media inputs controls masters outs old r new j → IsTold media inputs (media.files old.media) old.input r new.status →
      IsComplete media inputs controls masters outs old r new
  is_complete (Some journal) is p told = record { done = λ t ti tells right fine. inl (played_done p t tells right fine); played = λ done. ap is_none is }
  is_complete None is u told = record { done = λ t ti tells right fine. unplayed_done u t ti told right fine; played = λ done. absurd (not_at u Done (λ x. x) done) }
