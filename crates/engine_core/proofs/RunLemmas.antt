-- What a run that was played leaves, as its caller sees it.
use Rattle.std.proofs.Common.{◌≡◌, inl, inr, ℕ, suc, ◌<◌, length, refl, sym, ap, subst, ◌∙◌}
use Rattle.std.specs.Prelude.{◌⊎◌, Bool, true, false, List, [], drop, map, reverse, Option, Some, None, Result, Ok, Err, IfOk}
use Rattle.std.proofs.lemmas.Bool.{or_from, or_parts, true≢false}
use Rattle.engine_model.specs.Edits.{has_quit}
use Rattle.ses_io.specs.FixedList.{Listed}
use Rattle.cycle_journal.specs.declared.entry.Entry.{Entry}
use Rattle.cycle_journal.specs.JournalView.{seen_entries, seen_entry}
use Rattle.input_blocks.specs.State.{InputState, IsReadTo, SoFar, bytes_due}
use Rattle.std.proofs.lemmas.List.{length-map}
use Rattle.ses_io.specs.Outside.{MediaOutside, SourceOutside, SinkOutside}
use Rattle.control_desk.specs.State.{parts_of}
use Rattle.control_desk.specs.Standing.{read_failed, write_failed}
use Rattle.run_end.specs.Takes.{LeavesTakes}
use Rattle.run_end.specs.Failures.{IsFaultCount, has_stopped}
use Rattle.run_letters.specs.declared.event.Event.{Event}
use Rattle.run_letters.specs.Events.{letter_of}
use Rattle.engine_core.specs.Events.{Course}
use Rattle.master_blocks.specs.Laws.{TheMasterIsItsBlocks}
use Rattle.run_world.specs.declared.finished.Finished.{Finished}
use Rattle.run_world.specs.declared.opened.Opened.{Opened}
use Rattle.run_world.specs.declared.opened.Script.{Script}
use Rattle.run_end.specs.Beginning.{MayRun, started_of}
use Rattle.run_end.specs.Lines.{control_of}
use Rattle.engine_core.specs.Beginning.{course_of}
use Rattle.run_end.specs.Finished.{FaultsAreCounted, LeavesRings, SendsGenuine, run_end_of}
use Rattle.engine_core.specs.Played.{finished_of}
use Rattle.run_end.specs.Lines.{TakesItsLines}
use Rattle.engine_core.specs.Lines.{GoesByItsLines, IsOfOneThread}
use Rattle.engine_core.specs.UnderWay.{InputIsShort}
use Rattle.engine_core.proofs.InputLemmas.{due_is, left_is}
use Rattle.engine_core.specs.Serially.{GoesSerially}
use Rattle.run_end.specs.Mastered.{InputGave, MakesItsCycles, MasterIsCutOff, MasterIsWhole, WritesTheMaster, after_blocks, bytes_due_after}
use Rattle.process_cycle.specs.CutOff.{IsCutAtHead, IsCutInCycle}
use Rattle.engine_core.specs.Played.{IsPlayed}
use Rattle.engine_core.specs.Now.{now_of}
use Rattle.worker_pair.specs.Begun.{playing_at}
use Rattle.engine_core.proofs.AnswerLemmas.{ControlIsCounted, control_counted}
use Rattle.engine_core.proofs.LinesLemmas as lines
use Rattle.engine_core.proofs.SeriallyLemmas as serially
use Rattle.engine_core.proofs.MasteredLemmas as master

-- what is so of each run that was played is so where one was
pub if_played : {X Y : Type 0} (P Q : X → Type 0) → ((x : X) → P x → Q x) → (result : Result X Y) → IfOk result P → IfOk result Q
if_played P Q leads (Ok x) is = leads x is
if_played P Q leads (Err y) is = tt

-- control begins with no fault
unread : {C O : Type 0} (source : C) (out : O) (script : Option Script) → read_failed (control_of source out script).standing ≡ false
unread source out None = refl
unread source out (Some script) = refl

unwritten : {C O : Type 0} (source : C) (out : O) (script : Option Script) → write_failed (control_of source out script).standing ≡ false
unwritten source out None = refl
unwritten source out (Some script) = refl

begins_at : {C O : Type 0} (source : C) (out : O) (script : Option Script) → ((control_of source out script).lines.source ≡ source) × ((control_of source out script).out ≡ out)
begins_at source out None = (refl, refl)
begins_at source out (Some script) = (refl, refl)

module _ {M I C W O : Type 0} (media : MediaOutside M) (inputs : SourceOutside I) (source : SourceOutside C) (sinks : SinkOutside W) (sink : SinkOutside O) (o : Opened M I C W O) (may : MayRun media o)
    (events : List Event) where
  abbrev pub on : Course M I C W O
  on = course_of media inputs sinks o events

  abbrev pub Played : Finished M I C W O → Type 0
  Played f = IsPlayed media inputs source sinks sink on f

  module _ (f : Finished M I C W O) (x : Played f) where
    goes_serially : events ≡ [] → GoesSerially o.edition.session (finished_of x.ended (parts_of x.engine.control))
    goes_serially none = record { takes_all = serially.takes_all media inputs source sinks sink on f x (ap (map letter_of) none); plays = serially.plays media inputs source sinks sink on f x (ap (map letter_of) none) }

    takes_its_lines : TakesItsLines source sink o x.going.lines (lines.lines_left source x.engine.control) (reverse x.going.replies) (finished_of x.ended (parts_of x.engine.control))
    takes_its_lines = record {
      control = x.engine.control;
      goes = x.going.said.goes;
      parts = refl;
      quits = lines.only_a_quit source x.engine.control;
      all = λ tells unread unwritten. lines.all_taken source sink (control_of o.world.control o.world.out o.script) x.engine.control x.going.lines (reverse x.going.replies) x.going.said.goes
          x.going.said.last x.finished.ended tells unread unwritten;
      ended_by = lines.ended_by media inputs source sinks sink on f x;
      taken = lines.taken media inputs source sinks sink on f x;
      replied = lines.replied media inputs source sinks sink on f x;
      edits = lines.edits_are media inputs source sinks sink on f x;
      answered = lines.replies_are media inputs source sinks sink on f x;
      acknowledged = lines.acknowledged media inputs source sinks sink on f x;
    }

    of_one_thread : IsOfOneThread o events x.going.lines (lines.lines_left source x.engine.control) (reverse x.going.replies) (finished_of x.ended (parts_of x.engine.control))
    of_one_thread = record {
      holds = lines.holds media inputs source sinks sink on f x;
      machine = λ fine. lines.is_the_machines media inputs source sinks sink on f x fine;
      plainly = λ fine none. lines.is_plain media inputs source sinks sink on f x fine (ap (map letter_of) none) may.valid may.some_cycle may.near;
      paced = λ none. serially.paced media inputs source sinks sink on f x (ap (map letter_of) none);
      serially = goes_serially;
      none_taken = x.written.none_taken;
      ungranted = refl;
      memory = refl;
    }

    goes_by_its_lines : GoesByItsLines source sink o events (finished_of x.ended (parts_of x.engine.control))
    goes_by_its_lines = record { lines = x.going.lines; left = lines.lines_left source x.engine.control; replies = reverse x.going.replies; takes = takes_its_lines; alone = of_one_thread }

    leaves_rings : LeavesRings o (finished_of x.ended (parts_of x.engine.control))
    leaves_rings = x.rings

    -- the process hadn't stopped before the end where it hasn't now
    run_goes : has_stopped x.ended.failed ≡ false → has_stopped x.engine.run.failed ≡ false
    run_goes goes = let none = or_parts x.ended.failed.input x.ended.failed.master goes in
        or_from x.engine.run.failed.input x.engine.run.failed.master (sym x.written.input_failed ∙ none.0)
        (before x.engine.run.failed.master (λ e. x.written.master_failed ∙ ap (λ r. r.failed.master) (x.written.is_written.stays e) ∙ e) none.1)
      where
        before : (was : Bool) → (was ≡ true → x.ended.failed.master ≡ true) → x.ended.failed.master ≡ false → was ≡ false
        before false stays e = refl
        before true stays e = absurd (true≢false (sym (stays refl) ∙ e))

    makes_its_cycles : MakesItsCycles o (finished_of x.ended (parts_of x.engine.control))
    makes_its_cycles = record {
      most = master.most_made media inputs source sinks sink on f x;
      all = λ unquit goes. master.all_made media inputs source sinks sink on f x (ap (λ l. has_quit l (length l)) (sym x.written.edits) ∙ unquit) (run_goes goes);
    }

    abbrev made : ℕ
    made = length (seen_entries x.ended.journal.items)

    many : length x.engine.run.pair.process.journal.items ≡ made
    many = sym (ap (λ (j : Listed Entry). length j.items) x.written.journal) ∙ sym (length-map x.ended.journal.items seen_entry)

    abbrev input : InputState I
    input = x.engine.run.pair.process.input

    abbrev so_far : ℕ → SoFar
    so_far n = record { start = inputs.left o.world.input; blocks = n }

    -- the input that is left, where it was read so far
    left_after : (n : ℕ) → IsReadTo inputs (so_far n) input → inputs.tells → inputs.left x.ended.input ≡ after_blocks inputs o n
    left_after n read tells = ap inputs.left x.written.input ∙ left_is inputs on.opening.started n input x.going.may.under_way.input read tells

    -- where a read of it failed
    module _ (bad : x.ended.failed.input ≡ true) where
      short : InputIsShort inputs on.opening.started x.engine.run
      short = x.going.may.under_way.input_short (sym x.written.input_failed ∙ bad)

      read_before : IsReadTo inputs (so_far made) short.before
      read_before = subst (λ n. IsReadTo inputs (so_far n) short.before) many short.read

      due : bytes_due short.before ≡ bytes_due_after o made
      due = due_is inputs on.opening.started made short.before short.of read_before

      fell : inputs.tells → (n : ℕ) × (n < bytes_due_after o made) × (inputs.left x.ended.input ≡ drop n (after_blocks inputs o made))
      fell tells = let lost = short.lost.lost tells in (
        lost.0,
        subst (λ k. lost.0 < k) due lost.1,
        ap inputs.left x.written.input ∙ lost.2 ∙ ap (drop lost.0) (left_is inputs on.opening.started made short.before short.of read_before tells),
      )

    -- where a write of the master failed
    cut_by : x.ended.failed.input ≡ false → (b : Bool) → x.engine.run.failed.master ≡ b → IsReadTo inputs (so_far made) input ⊎ IsReadTo inputs (so_far (suc made)) input
    cut_by fine false e = inl (subst (λ n. IsReadTo inputs (so_far n) input) many
        (x.going.may.under_way.runs (or_from x.engine.run.failed.input x.engine.run.failed.master (sym x.written.input_failed ∙ fine) e)).playing.read)
    cut_by fine true e = by (x.going.may.under_way.cut e)
      where
        by : IsCutAtHead inputs sinks (playing_at (now_of on.opening.started x.engine.run)) x.engine.run.pair.process ⊎ IsCutInCycle inputs sinks (playing_at (now_of on.opening.started x.engine.run)) x.engine.run.pair.process →
            IsReadTo inputs (so_far made) input ⊎ IsReadTo inputs (so_far (suc made)) input
        by (inl c) = inl (subst (λ n. IsReadTo inputs (so_far n) input) (sym (ap length c.none) ∙ many) c.read)
        by (inr c) = inr (subst (λ n. IsReadTo inputs (so_far (suc n)) input) many c.read)

    either : IsReadTo inputs (so_far made) input ⊎ IsReadTo inputs (so_far (suc made)) input → inputs.tells →
        (inputs.left x.ended.input ≡ after_blocks inputs o made) ⊎ (inputs.left x.ended.input ≡ after_blocks inputs o (suc made))
    either (inl read) tells = inl (left_after made read tells)
    either (inr read) tells = inr (left_after (suc made) read tells)

    input_gave : InputGave inputs o (finished_of x.ended (parts_of x.engine.control))
    input_gave = record {
      untouched = λ none. x.written.input ∙ x.going.may.under_way.input.untouched none;
      read = λ tells goes. left_after made (subst (λ n. IsReadTo inputs (so_far n) input) many (x.going.may.under_way.runs (run_goes goes)).playing.read) tells;
      asked = λ bad. subst (λ k. 0 < k) (due bad) (short bad).lost.asked;
      fell = λ tells bad. fell bad tells;
      cut = λ tells fine bad. either (cut_by fine x.engine.run.failed.master refl) tells;
    }

    faults_are_counted : FaultsAreCounted media inputs source sinks sink o (finished_of x.ended (parts_of x.engine.control))
    faults_are_counted = record {
      reads = x.counts.reads;
      writes = x.counts.writes;
      inputs_are = x.counts.inputs_are;
      masters = x.counts.masters;
      controls = subst (λ c. IsFaultCount (source.faults c) (source.faults x.engine.control.lines.source) (read_failed x.engine.control.standing)) (begins_at o.world.control o.world.out o.script).0 counted.reads;
      outs = subst (λ c. IsFaultCount (sink.faults c) (sink.faults x.engine.control.out) (write_failed x.engine.control.standing)) (begins_at o.world.control o.world.out o.script).1 counted.writes;
    }
      where
        counted : ControlIsCounted source sink (control_of o.world.control o.world.out o.script) x.engine.control
        counted = control_counted source sink (control_of o.world.control o.world.out o.script) x.engine.control x.going.lines (reverse x.going.replies)
            (unread o.world.control o.world.out o.script) (unwritten o.world.control o.world.out o.script) x.going.said.goes

    master_is_whole : TheMasterIsItsBlocks → media.tells → sinks.tells → MasterIsWhole media sinks o (finished_of x.ended (parts_of x.engine.control))
    master_is_whole law tells told fine = master.master_is media inputs source sinks sink on f x tells told fine may.valid law

  -- as the run is what was left
  pub lines_of : (f : Finished M I C W O) → Played f → GoesByItsLines source sink o events f
  lines_of f x = subst (GoesByItsLines source sink o events) (sym x.is) (goes_by_its_lines f x)

  pub rings_of : (f : Finished M I C W O) → Played f → LeavesRings o f
  rings_of f x = subst (LeavesRings o) (sym x.is) (leaves_rings f x)

  pub genuine_of : media.tells → (f : Finished M I C W O) → Played f → SendsGenuine media o f
  genuine_of tells f x = subst (SendsGenuine media o) (sym x.is) (x.genuine tells)

  whole_of : TheMasterIsItsBlocks → media.tells → sinks.tells → (f : Finished M I C W O) → Played f → MasterIsWhole media sinks o f
  whole_of law tells told f x = subst (MasterIsWhole media sinks o) (sym x.is) (master_is_whole f x law tells told)

  cut_off_of : media.tells → sinks.tells → (f : Finished M I C W O) → Played f → MasterIsCutOff media sinks o f
  cut_off_of tells told f x = subst (MasterIsCutOff media sinks o) (sym x.is) (λ bad. master.is_cut_off media inputs source sinks sink on f x tells told bad)

  pub master_of : TheMasterIsItsBlocks → media.tells → sinks.tells → (f : Finished M I C W O) → Played f → WritesTheMaster media sinks o f
  master_of law tells told f x = record { whole = whole_of law tells told f x; cut_off = cut_off_of tells told f x }

  pub cycles_of : (f : Finished M I C W O) → Played f → MakesItsCycles o f
  cycles_of f x = subst (MakesItsCycles o) (sym x.is) (makes_its_cycles f x)

  pub input_of : (f : Finished M I C W O) → Played f → InputGave inputs o f
  input_of f x = subst (InputGave inputs o) (sym x.is) (input_gave f x)

  pub takes_of : (f : Finished M I C W O) → Played f → LeavesTakes media inputs (started_of media inputs sinks o) (run_end_of f)
  takes_of f x = subst (λ z. LeavesTakes media inputs (started_of media inputs sinks o) (run_end_of z)) (sym x.is) x.takes

  pub counts_of : (f : Finished M I C W O) → Played f → FaultsAreCounted media inputs source sinks sink o f
  counts_of f x = subst (FaultsAreCounted media inputs source sinks sink o) (sym x.is) (faults_are_counted f x)
