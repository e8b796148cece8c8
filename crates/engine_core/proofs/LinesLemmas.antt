-- A run that was played goes by its lines, and is the core machine's while nothing of butler and process has failed.
use Rattle.std.proofs.Common.{◌≡◌, inl, ◌≤◌, List, [], ◌++◌, length, refl, sym, ap, subst, ◌∙◌, append-nil}
use Rattle.std.specs.Prelude.{Bool, true, false, ◌||◌, not, if◌then◌else◌, map, reverse, None}
use Rattle.std.specs.List.{list_all}
use Rattle.std.proofs.lemmas.Bool.{false≢true, not_from_false, or_from, or_parts, true≢false}
use Rattle.std.proofs.lemmas.List.{reverse-reverse}
use Rattle.ses_io.specs.FixedList.{Listed}
use Rattle.ses_io.specs.Outside.{MediaOutside, SourceOutside, SinkOutside}
use Rattle.session_model.specs.declared.session.Session.{Session}
use Rattle.session_model.specs.Valid.{IsValid}
use Rattle.engine_model.specs.Edits.{has_quit}
use Rattle.engine_model.specs.Lines.{Line, accepted_of}
use Rattle.engine_model.specs.Replies.{AreReplies, Reply, is_acknowledged}
use Rattle.machine_model.specs.Core.{Core}
use Rattle.machine_model.specs.Letters.{Machine, begins, by_letters}
use Rattle.machine_model.specs.Rest as rest
use Rattle.machine_model.specs.Rest.{Between, Over}
use Rattle.machine_laws.proofs.WalkLemmas.{serial_is_plain}
use Rattle.cycle_journal.specs.declared.entry.Entry.{Entry}
use Rattle.cycle_journal.specs.JournalView.{seen_entries}
use Rattle.piece_item.specs.Views.{ack_of}
use Rattle.control_desk.specs.declared.standing.End.TheVariants.{NoLine, Quit, ReadFailed, WriteFailed}
use Rattle.control_desk.specs.GoesOn.{GoesOn}
use Rattle.control_desk.specs.State.{ControlState, Tells, ahead}
use Rattle.control_desk.specs.Standing as desk
use Rattle.control_desk.specs.Standing.{Awaits, Ended, Ready, awaits_of, is_ended, read_failed, write_failed}
use Rattle.control_desk.proofs.ControlLemmas.{ahead_of}
use Rattle.control_letter.specs.Shown.{shown_core, standing_by}
use Rattle.machine_laws.specs.SerialRun.{IsPlainRun}
use Rattle.serial_laws.specs.Answered.{AreOfLines}
use Rattle.serial_laws.specs.Leads as leads
use Rattle.serial_laws.specs.SerialLaws.{IsRun}
use Rattle.serial_laws.specs.Truth.{AllHold, AreOfEntries}
use Rattle.serial_laws.specs.Standing.{Standing, machine_of}
use Rattle.serial_laws.proofs.AnsweredLemmas.{all_is_answered_at_the_end}
use Rattle.serial_laws.proofs.RestLemmas.{the_run_is_the_machines}
use Rattle.serial_laws.proofs.TruthLemmas.{answers_hold_on, what_holds_is_true}
use Rattle.run_end.specs.declared.failures.Failures.{Failures}
use Rattle.engine_core.specs.declared.run.Run.{Run}
use Rattle.run_end.specs.Failures.{nothing_failed}
use Rattle.engine_core.specs.Now.{is_played_out}
use Rattle.engine_core.specs.Events.{Course}
use Rattle.engine_core.specs.Going.{Follows}
use Rattle.engine_core.specs.Opening.{InRest}
use Rattle.engine_core.specs.Shows.{edits_of, made_of}
use Rattle.engine_core.proofs.ShownLemmas.{seen_of}
use Rattle.engine_core.specs.MachineEnds.{DrainsTo, EndsAt}
use Rattle.run_world.specs.declared.finished.Finished.{Finished}
use Rattle.engine_core.specs.Machine.{IsPlain, IsTheMachines}
use Rattle.engine_core.specs.Played.{IsPlayed}
use Rattle.engine_core.proofs.AnswerLemmas.{all_turned, told_of_entries}
use Rattle.engine_core.proofs.LastLemmas.{drains_over}

-- ---- where control has ended

pub none_awaited : (st : desk.Standing) → is_ended st ≡ true → awaits_of st ≡ None
none_awaited Ready e = refl
none_awaited (Awaits awaited) e = absurd (false≢true e)
none_awaited (Ended why) e = refl

-- the lines that an accepted quit has left
abbrev pub lines_left : {C O : Type 0} → SourceOutside C → ControlState C O → List Line
lines_left source control = if desk.has_quit control.standing then ahead source control else []

pub only_a_quit : {C O : Type 0} (source : SourceOutside C) (control : ControlState C O) → desk.has_quit control.standing ≡ false → lines_left source control ≡ []
only_a_quit source control e = ap (λ b. if b then ahead source control else []) e

module _ {C O : Type 0} (source : SourceOutside C) (sink : SinkOutside O) (from control : ControlState C O) (lines : List Line) (replies : List Reply) (goes : GoesOn source sink from lines replies control)
    (last : control.standing ≡ Ended NoLine → Tells source from.script → ahead source from ≡ lines) where
  -- by how it has ended
  all_by : (st : desk.Standing) → control.standing ≡ st → is_ended st ≡ true → read_failed st ≡ false → write_failed st ≡ false → Tells source from.script →
      ahead source from ≡ lines ++ (if desk.has_quit st then ahead source control else [])
  all_by Ready is e unread unwritten tells = absurd (false≢true e)
  all_by (Awaits awaited) is e unread unwritten tells = absurd (false≢true e)
  all_by (Ended NoLine) is e unread unwritten tells = last is tells ∙ sym (append-nil lines)
  all_by (Ended Quit) is e unread unwritten tells = ahead_of source sink lines replies from control goes tells (ap read_failed is)
  all_by (Ended ReadFailed) is e unread unwritten tells = absurd (true≢false unread)
  all_by (Ended (WriteFailed quit)) is e unread unwritten tells = absurd (true≢false unwritten)

  pub all_taken : is_ended control.standing ≡ true → Tells source from.script → read_failed control.standing ≡ false → write_failed control.standing ≡ false → ahead source from ≡ lines ++ lines_left source control
  all_taken ended tells unread unwritten = all_by control.standing refl ended unread unwritten tells

-- ---- what has failed

-- it is none or some of these
none_of : (f : Failures) → f.input ≡ false → f.master ≡ false → f.read ≡ false → f.write ≡ false → nothing_failed f ≡ true
none_of f input master read write = not_from_false (f.input || f.master || f.read || f.write)
    (or_from (f.input || f.master || f.read) f.write (or_from (f.input || f.master) f.read (or_from f.input f.master input master) read) write)

pub record NoneFailed (f : Failures) : Type 0 where
  pub input : f.input ≡ false
  pub master : f.master ≡ false
  pub read : f.read ≡ false
  pub write : f.write ≡ false

pub none_failed : (f : Failures) → nothing_failed f ≡ true → NoneFailed f
none_failed f fine = let three = or_parts (f.input || f.master || f.read) f.write (not_so (f.input || f.master || f.read || f.write) fine) in let two = or_parts (f.input || f.master) f.read three.0 in
    let one = or_parts f.input f.master two.0 in record { input = one.0; master = one.1; read = two.1; write = three.1 }
  where
    not_so : (b : Bool) → not b ≡ true → b ≡ false
    not_so false e = refl
    not_so true e = absurd (false≢true e)

-- what had failed has failed, so where nothing has nothing had
pub before_by : (was now : Bool) → (was ≡ true → now ≡ true) → now ≡ false → was ≡ false
before_by false now stays e = refl
before_by true now stays e = absurd (true≢false (sym (stays refl) ∙ e))

module _ {M I C W O : Type 0} (media : MediaOutside M) (inputs : SourceOutside I) (source : SourceOutside C) (sinks : SinkOutside W) (sink : SinkOutside O) (on : Course M I C W O) (f : Finished M I C W O)
    (x : IsPlayed media inputs source sinks sink on f) where
  abbrev s : Session
  s = on.opening.started.begun.session

  abbrev run : Run M I W
  run = x.engine.run

  abbrev control : ControlState C O
  control = x.engine.control

  -- the lines that were taken, with those that a quit left, and the replies, the first one first
  abbrev pub all_lines : List Line
  all_lines = x.going.lines ++ lines_left source control

  abbrev pub all_replies : List Reply
  all_replies = reverse x.going.replies

  abbrev ended_at : Core → Standing
  ended_at core = standing_by core control.standing x.going.replies

  -- the entries that were made
  pub made_are : reverse (seen_entries x.ended.journal.items) ≡ made_of run
  made_are = ap (λ (j : Listed Entry). reverse (seen_entries j.items)) x.written.journal

  -- ---- edits and replies

  of_lines : AreOfLines s all_lines (ended_at (shown_core s (edits_of run) (made_of run)))
  of_lines = all_is_answered_at_the_end s x.going.lines (lines_left source control) (ended_at (shown_core s (edits_of run) (made_of run))) x.finished.ended (λ ended quit. only_a_quit source control quit) x.going.said.answered

  pub edits_are : x.ended.edits.items ≡ accepted_of s all_lines
  edits_are = x.written.edits ∙ of_lines.edits

  pub replies_are : AreReplies s [] all_lines all_replies
  replies_are = of_lines.replies (none_awaited control.standing x.finished.ended)

  -- so they are of the lines that were taken, since no other was carried out
  of_taken : AreOfLines s x.going.lines (ended_at (shown_core s (edits_of run) (made_of run)))
  of_taken = subst (λ l. AreOfLines s l (ended_at (shown_core s (edits_of run) (made_of run)))) (append-nil x.going.lines)
      (all_is_answered_at_the_end s x.going.lines [] (ended_at (shown_core s (edits_of run) (made_of run))) x.finished.ended (λ ended quit. refl) x.going.said.answered)

  pub taken : x.ended.edits.items ≡ accepted_of s x.going.lines
  taken = x.written.edits ∙ of_taken.edits

  pub replied : AreReplies s [] x.going.lines all_replies
  replied = of_taken.replies (none_awaited control.standing x.finished.ended)

  pub ended_by : desk.has_quit control.standing ≡ has_quit x.ended.edits.items (length x.ended.edits.items)
  ended_by = x.going.may.may_carry.quits ∙ ap (λ l. has_quit l (length l)) (sym x.written.edits)

  -- what was answered holds of the journal
  pub holds : AllHold true (reverse (seen_entries x.ended.journal.items)) (reverse all_replies)
  holds = subst (λ rs. AllHold true (reverse (seen_entries x.ended.journal.items)) rs) (sym (reverse-reverse x.going.replies))
      (subst (λ es. AllHold true es x.going.replies) (sym made_are)
      (answers_hold_on (is_played_out run) true (made_of run) (made_of run) x.going.replies (record { entries_are = inl refl; stays_over = λ e. refl }) x.going.said.holds))

  pub acknowledged : list_all (is_acknowledged (reverse (map ack_of x.ended.acks.sent)) (seen_entries x.ended.journal.items)) all_replies ≡ true
  acknowledged = let acks = reverse (map ack_of x.ended.acks.sent) in
      subst (λ j. list_all (is_acknowledged acks j) all_replies ≡ true) (ap reverse (sym made_are) ∙ reverse-reverse (seen_entries x.ended.journal.items))
      (all_turned (is_acknowledged acks (reverse (made_of run))) x.going.replies
      (what_holds_is_true (is_played_out run) (made_of run) acks x.going.replies
      (subst (λ es. AreOfEntries es acks) made_are (told_of_entries x.ended.edits.items s.depth (reverse (seen_entries x.ended.journal.items)) acks (reverse x.ended.acks.heads) x.rings.acks_are.told)) x.going.said.holds))

  -- ---- the core machine

  module _ (fine : nothing_failed x.ended.failed ≡ true) where
    -- nothing had failed before the end
    run_fine : nothing_failed run.failed ≡ true
    run_fine = let none = none_failed x.ended.failed fine in none_of run.failed (sym x.written.input_failed ∙ none.input)
        (before_by run.failed.master x.ended.failed.master (λ e. x.written.master_failed ∙ ap (λ (r : Run M I W). r.failed.master) (x.written.is_written.stays e) ∙ e) none.master)
        (before_by run.failed.read x.ended.failed.read x.counts.read_still none.read) (before_by run.failed.write x.ended.failed.write x.counts.write_still none.write)

    pub is_the_machines : IsTheMachines s on.opening.cycles all_lines on.letters all_replies x.ended
    is_the_machines = record {
      rest = is_run.rest;
      is_rest_of = is_run.is_rest_of;
      machine = machine_of (ended_at at_end.last) (lines_left source control);
      ends = is_run.ends;
      left = at_end.left;
      replies_are = refl;
    }
      where
        follows : Follows s on.opening.cycles (InRest on.letters Between) x.going.lines (λ core. standing_by core control.standing x.going.replies) run.pair
        follows = x.going.follows run_fine

        at_end : EndsAt s run.pair.butler.cycles follows.core x.ended
        at_end = x.as_machine follows.core fine follows.tied

        -- no cycle is made any more in the core machine either
        finished : rest.is_finished on.opening.cycles follows.core ≡ true
        finished = let seen = seen_of s media inputs sinks on.opening.started run refl x.going.may.under_way on.opening.cycles follows.core x.going.asked run_fine follows.tied in
            (λ i. has_quit (follows.tied.rings.edits i) (length (follows.tied.rings.edits i)) || sym seen.played_out i) ∙ x.finished.last_made

        over : leads.HasGoneOn s on.opening.cycles (record { letters = on.letters; lines = x.going.lines }) Over (ended_at at_end.last)
        over = drains_over s on.opening.cycles (record { letters = on.letters; lines = x.going.lines }) at_end.turns (ended_at follows.core) at_end.last x.finished.ended
            (none_awaited control.standing x.finished.ended) finished (subst (λ k. DrainsTo s k follows.core at_end.turns at_end.last) x.going.asked at_end.drains) follows.leads

        is_run : IsRun s on.opening.cycles (record { letters = on.letters; lines = x.going.lines }) (ended_at at_end.last) (lines_left source control)
        is_run = the_run_is_the_machines s on.opening.cycles (record { letters = on.letters; lines = x.going.lines }) (ended_at at_end.last) (lines_left source control) over
            (λ ended quit. only_a_quit source control quit)

    -- with no letter it is the plain run
    pub is_plain : on.letters ≡ [] → IsValid s → 1 ≤ on.opening.cycles → on.opening.cycles ≤ 100000 → IsPlain s on.opening.cycles all_lines all_replies x.ended
    is_plain none valid some near = record {
      journal = sym (reverse-reverse (seen_entries x.ended.journal.items)) ∙ ap reverse (sym m.left.entries ∙ ap (λ (z : Machine). z.core.entries) (sym ends) ∙ plain.entries);
      edits = sym m.left.edits ∙ ap (λ (z : Machine). z.core.edits) (sym ends) ∙ plain.edits;
      replies_are = sym m.replies_are ∙ ap (λ (z : Machine). reverse z.control.replies) (sym ends) ∙ plain.replies;
    }
      where
        m : IsTheMachines s on.opening.cycles all_lines on.letters all_replies x.ended
        m = is_the_machines

        ends : by_letters s on.opening.cycles (begins s all_lines) m.rest ≡ m.machine
        ends = ap (λ l. by_letters s on.opening.cycles (begins s all_lines) (l ++ m.rest)) (sym none) ∙ m.ends

        plain : IsPlainRun s on.opening.cycles all_lines (by_letters s on.opening.cycles (begins s all_lines) m.rest)
        plain = serial_is_plain s on.opening.cycles all_lines m.rest valid some near
            (subst (λ l. rest.is_rest s on.opening.cycles (by_letters s on.opening.cycles (begins s all_lines) l) m.rest ≡ true) none m.is_rest_of)
