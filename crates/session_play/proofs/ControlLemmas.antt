-- By which lines a run has gone, and what it answered to them.
use Rattle.std.proofs.Common.{◌≡◌, ℕ, suc, ◌+◌, refl, sym, ap, subst, ◌∙◌, arith, List, [], ◌∷◌, ◌++◌, length, take}
use Rattle.std.specs.Prelude.{zero, min, Bool, true, false, ◌&&◌, ◌==◌, not, nat_le, if◌then◌else◌, map, reverse, Option, Some, None}
use Rattle.std.specs.Option.{option_map}
use Rattle.std.proofs.lemmas.Bool.{true≢false}
use Rattle.std.proofs.lemmas.Bool.Decides.{nat_tests}
use Rattle.std.proofs.lemmas.List.{length-append, length-take, append-nil}
use Rattle.ses_io.specs.Outside.{SourceOutside, SinkOutside}
use Rattle.ses_io.specs.Streams.{AppendsSome}
use Rattle.session_model.specs.declared.session.Session.{Session}
use Rattle.engine_model.specs.Lines.{Line, accepted_of, control_limit, is_too_long, lines_from, without_return}
use Rattle.engine_model.specs.Replies.{Reply}
use Rattle.edit_script.specs.Reading.{read_line}
use Rattle.control_lines.specs.Lines.{LinesState, allowance, at_first, to_come, unread}
use Rattle.control_desk.specs.GoesOn.{AddsReplies, GoesOn, HasLastInPart, Passes, ReadsLines}
use Rattle.control_desk.proofs.WritingLemmas.{adds_front}
use Rattle.control_desk.specs.Standing as desk
use Rattle.control_desk.specs.Standing.{Standing, Ready, Awaits, Ended, read_failed, write_failed}
use Rattle.control_desk.specs.declared.standing.End.TheVariants.{NoLine, Quit, ReadFailed, WriteFailed}
use Rattle.control_desk.specs.State.{ControlState, Tells, ahead, export_lines, lines_in}
use Rattle.control_desk.specs.Texts.{reply_texts}
use Rattle.run_world.specs.declared.finished.Finished.{Finished}
use Rattle.run_world.specs.declared.opened.Opened.{Opened}
use Rattle.run_world.specs.declared.opened.Script.{Script}
use Rattle.run_end.specs.Lines.{control_of}
use Rattle.run_letters.specs.Events.{letter_of}
use Rattle.engine_core.specs.Lines.{GoesByItsLines}
use Rattle.run_letters.specs.declared.event.Event.{Event}
use Rattle.session_play.specs.Controlled.{GoesByLines, ReadsItsLines, SaysItsOwn, quits}
use Rattle.session_play.specs.Reported.{said}
use Rattle.session_play.specs.Request.{Request}
use Rattle.session_play.proofs.ReportLemmas.{front_of_nothing}

-- ---- what a script has said

-- A script that was said has left source and sink alone, and nothing has failed.
record IsSaid {C O : Type 0} (old new : ControlState C O) : Type 0 where
  lines : new.lines ≡ old.lines
  out : new.out ≡ old.out
  read : read_failed new.standing ≡ read_failed old.standing
  write : write_failed new.standing ≡ write_failed old.standing

said_by : {C O : Type 0} (source : SourceOutside C) (sink : SinkOutside O) (old new : ControlState C O) (lines : List Line) (replies : List Reply) (before : List Line) (after : Option (List Line)) →
    Passes source sink old lines replies new (Some before) after → IsSaid old new
said_by source sink old new lines replies before (Some after) passes = record { lines = passes.1; out = passes.2; read = passes.3; write = passes.4 }
said_by source sink old new lines replies before None passes = absurd passes

-- ---- what was read

read_by : {C O : Type 0} (source : SourceOutside C) (sink : SinkOutside O) (old new : ControlState C O) (lines : List Line) (replies : List Reply) (after : Option (List Line)) →
    Passes source sink old lines replies new None after → ReadsLines source lines old.lines new.lines (read_failed old.standing) (read_failed new.standing)
read_by source sink old new lines replies None passes = passes.0
read_by source sink old new lines replies (Some after) passes = absurd passes

added_by : {C O : Type 0} (source : SourceOutside C) (sink : SinkOutside O) (old new : ControlState C O) (lines : List Line) (replies : List Reply) (after : Option (List Line)) →
    Passes source sink old lines replies new None after → AddsReplies sink replies old.out new.out (write_failed old.standing) (write_failed new.standing)
added_by source sink old new lines replies None passes = passes.1
added_by source sink old new lines replies (Some after) passes = absurd passes

-- ---- whether it is too long

-- a line that was begun is a line
some_line : (b : ℕ) (line bytes : List ℕ) → lines_from (b ∷ line) bytes ≡ [] → ⊥
some_line b line [] e = cc
some_line b line (x ∷ xs) e = go (x == 10) (some_line x (b ∷ line) xs) e where
  go : (c : Bool) → (lines_from (x ∷ b ∷ line) xs ≡ [] → ⊥) → (if c then reverse (without_return (b ∷ line)) ∷ lines_from [] xs else lines_from (x ∷ b ∷ line) xs) ≡ [] → ⊥
  go true some e = cc
  go false some e = some e

-- bytes that make no line are none
no_line : (bytes : List ℕ) → lines_in bytes ≡ [] → bytes ≡ []
no_line [] e = refl
no_line (x ∷ xs) e = absurd (go (x == 10) (unmapped (lines_from [] (x ∷ xs)) e)) where
  unmapped : (ls : List (List ℕ)) → map read_line ls ≡ [] → ls ≡ []
  unmapped [] e = refl
  unmapped (l ∷ ls) e = absurd (cc)

  go : (c : Bool) → (if c then reverse (without_return []) ∷ lines_from [] xs else lines_from (x ∷ []) xs) ≡ [] → ⊥
  go true e = cc
  go false e = some_line x [] xs e

none_more : {A : Type 0} (xs ys : List A) → xs ≡ xs ++ ys → ys ≡ []
none_more [] ys e = sym e
none_more (x ∷ xs) ys e = none_more xs ys (cc)

-- by how much was taken, and how much may be taken yet
spent_is : (long taken waiting rest budget : ℕ) → long ≡ taken + (waiting + rest) → 16777216 ≡ taken + (waiting + budget) → min (waiting + budget) (waiting + rest) ≡ 0 →
    (budget == 0) ≡ nat_le 16777216 long
spent_is long taken waiting rest zero all limit none = let much : nat_le 16777216 long ≡ true = grind (arith, nat_tests) in sym much
spent_is long taken waiting rest (suc budget) all limit none = let few : nat_le 16777216 long ≡ false = grind (arith, nat_tests) in let other : (suc budget == 0) ≡ false = grind (arith, nat_tests) in other ∙ sym few

and_false : (b c : Bool) → c ≡ true → (b && not c) ≡ false
and_false true c e = ap not e
and_false false c e = refl

module _ {C : Type 0} (source : SourceOutside C) (t : source.tells) (c : C) where
  -- control that has no line left was read whole, or as far as it may be
  all_read : (lines : List Line) (new : LinesState C) → ReadsLines source lines (at_first c) new false false → lines_in (take control_limit (source.left c)) ≡ lines → (new.budget == 0) ≡ nat_le control_limit (length (source.left c))
  all_read lines new r all = spent_is (length (source.left c)) (length (r.bytes ++ r.lost)) (length new.waiting) (length (source.left new.source)) new.budget
      (ap length (r.takes.next t) ∙ length-append (r.bytes ++ r.lost) (unread source new) ∙ ap (λ n. length (r.bytes ++ r.lost) + n) (length-append new.waiting (source.left new.source)))
      r.takes.allowed
      (ap (λ n. min (allowance new) n) (sym (length-append new.waiting (source.left new.source))) ∙ sym (length-take (allowance new) (unread source new)) ∙ ap length none)
    where
      none : to_come source new ≡ []
      none = no_line (to_come source new) (none_more lines (lines_in (to_come source new))
          (sym all ∙ r.first t ∙ ap (λ xs. lines ++ lines_in (xs ++ to_come source new)) (r.none_lost refl)))

-- control that has ended by a quit hasn't by a failed read
unread_at_quit : (standing : Standing) → desk.has_quit standing ≡ true → read_failed standing ≡ false
unread_at_quit Ready e = refl
unread_at_quit (Awaits awaited) e = refl
unread_at_quit (Ended NoLine) e = refl
unread_at_quit (Ended Quit) e = refl
unread_at_quit (Ended ReadFailed) e = absurd (true≢false (sym e))
unread_at_quit (Ended (WriteFailed quit)) e = refl

-- ---- from the engine's words

module _ {M I C W O : Type 0} (source : SourceOutside C) (sink : SinkOutside O) (o : Opened M I C W O) (events : List Event) (f : Finished M I C W O) (g : GoesByItsLines source sink o events f) where
  abbrev s : Session
  s = o.edition.session

  abbrev first : Option Script → ControlState C O
  first script = control_of o.world.control o.world.out script

  source_is : g.takes.control.lines.source ≡ f.world.control
  source_is = ap (λ p. p.source) g.takes.parts

  out_is : g.takes.control.out ≡ f.world.out
  out_is = ap (λ p. p.out) g.takes.parts

  read_is : read_failed g.takes.control.standing ≡ f.faults.control
  read_is = ap (λ p. p.read_failed) g.takes.parts

  write_is : write_failed g.takes.control.standing ≡ f.faults.out
  write_is = ap (λ p. p.write_failed) g.takes.parts

  long_is : ((g.takes.control.lines.budget == 0) && not (quits f.edits.items)) ≡ f.faults.long
  long_is = ap (λ q. (g.takes.control.lines.budget == 0) && not q) (sym g.takes.ended_by) ∙ ap (λ p. p.long) g.takes.parts

  left_is : quits f.edits.items ≡ false → g.left ≡ []
  left_is none = g.takes.quits (g.takes.ended_by ∙ none)

  -- an export
  says : (q : Script) → GoesOn source sink (first (Some q)) g.lines g.replies g.takes.control →
      (Tells source (first (Some q)).script → f.faults.control ≡ false → f.faults.out ≡ false → ahead source (first (Some q)) ≡ g.lines ++ g.left) → SaysItsOwn o.world.control q.from f g.lines g.left
  says q goes all = let is = said_by source sink (first (Some q)) g.takes.control g.lines g.replies (export_lines q.from) g.takes.control.script goes.passes in
      let read_all : f.faults.control ≡ false = sym read_is ∙ is.read in let answered : f.faults.out ≡ false = sym write_is ∙ is.write in record {
        said = sym (all tt read_all answered);
        alone = sym source_is ∙ ap (λ l. l.source) is.lines;
        read_all = read_all;
        short = sym long_is ∙ ap (λ n. (n == 0) && not (quits f.edits.items)) (ap (λ l. l.budget) is.lines);
        answered = answered;
      }

  -- a play
  reads : GoesOn source sink (first None) g.lines g.replies g.takes.control →
      (Tells source (first None).script → f.faults.control ≡ false → f.faults.out ≡ false → ahead source (first None) ≡ g.lines ++ g.left) → ReadsItsLines source o.world.control s f g.lines g.left
  reads goes all = record {
    reads = record { state = g.takes.control.lines; is = source_is; reads = taken; long = sym long_is; quit = λ is. sym read_is ∙ unread_at_quit g.takes.control.standing (g.takes.ended_by ∙ is) };
    all = all;
    long = λ t read written. sym long_is ∙ by (quits f.edits.items) refl t read written;
  } where
    taken : ReadsLines source g.lines (at_first o.world.control) g.takes.control.lines false f.faults.control
    taken = subst (ReadsLines source g.lines (at_first o.world.control) g.takes.control.lines false) read_is (read_by source sink (first None) g.takes.control g.lines g.replies g.takes.control.script goes.passes)

    edits_are : source.tells → f.faults.control ≡ false → f.faults.out ≡ false → accepted_of s (lines_in (take control_limit (source.left o.world.control))) ≡ f.edits.items
    edits_are t read written = ap (accepted_of s) (all t read written) ∙ sym g.takes.edits

    by : (q : Bool) → quits f.edits.items ≡ q → source.tells → f.faults.control ≡ false → f.faults.out ≡ false →
        ((g.takes.control.lines.budget == 0) && not (quits f.edits.items)) ≡ is_too_long read_line s (source.left o.world.control)
    by true is t read written = and_false (g.takes.control.lines.budget == 0) (quits f.edits.items) is
        ∙ sym (and_false (nat_le control_limit (length (source.left o.world.control))) (quits (accepted_of s (lines_in (take control_limit (source.left o.world.control))))) (ap quits (edits_are t read written) ∙ is))
    by false is t read written = ap (λ b. b && not (quits f.edits.items))
        (all_read source t o.world.control g.lines g.takes.control.lines (subst (ReadsLines source g.lines (at_first o.world.control) g.takes.control.lines false) read taken)
        (all t read written ∙ ap (λ xs. g.lines ++ xs) (left_is is) ∙ append-nil g.lines))
        ∙ ap (λ es. nat_le control_limit (length (source.left o.world.control)) && not (quits es)) (sym (edits_are t read written))

  -- ---- what went out by then

  -- what out has of the replies
  pub record HasReplies (text : List ℕ) : Type 0 where
    pub all : sink.tells → f.faults.out ≡ false → sink.held f.world.out ≡ sink.held o.world.out ++ text
    pub front : sink.tells → AppendsSome (sink.held o.world.out) (sink.held f.world.out) text
    pub cut : f.faults.out ≡ true → HasLastInPart sink g.replies o.world.out f.world.out

  replies_by : (script : Option Script) → GoesOn source sink (first script) g.lines g.replies g.takes.control → HasReplies (said (option_map (λ q. q.from) script) g.replies)
  replies_by (Some q) goes = let is = said_by source sink (first (Some q)) g.takes.control g.lines g.replies (export_lines q.from) g.takes.control.script goes.passes in
      let same : sink.held f.world.out ≡ sink.held o.world.out = ap (λ (x : O). sink.held x) (sym out_is ∙ is.out) in record {
        all = λ t written. same ∙ sym (append-nil (sink.held o.world.out));
        front = λ t. front_of_nothing (sink.held o.world.out) (sink.held f.world.out) [] same;
        cut = λ bad. absurd (true≢false (sym bad ∙ sym write_is ∙ is.write));
      }
  replies_by None goes = let adds = added_by source sink (first None) g.takes.control g.lines g.replies g.takes.control.script goes.passes in record {
    all = λ t written. ap (λ (x : O). sink.held x) (sym out_is) ∙ adds.all t (write_is ∙ written);
    front = λ t. subst (λ (x : O). AppendsSome (sink.held o.world.out) (sink.held x) (reply_texts g.replies)) out_is
        (adds_front sink g.replies o.world.out g.takes.control.out (write_failed g.takes.control.standing) adds t);
    cut = λ bad. subst (HasLastInPart sink g.replies o.world.out) out_is (adds.cut refl (write_is ∙ bad));
  }

  pub has_replies : HasReplies (said (option_map (λ q. q.from) o.script) g.replies)
  has_replies = replies_by o.script g.takes.goes

  -- ---- the whole

  -- what the engine was asked
  abbrev pub asked : List ℕ → Request
  asked name = record { session = name; cycles = o.cycles; script = option_map (λ q. q.from) o.script; letters = map letter_of events }

  pub none_given : (es : List Event) → map letter_of es ≡ [] → es ≡ []
  none_given [] e = refl
  none_given (e ∷ es) is = absurd (cc)

  by_script : (script : Option Script) → GoesOn source sink (first script) g.lines g.replies g.takes.control →
      (Tells source (first script).script → f.faults.control ≡ false → f.faults.out ≡ false → ahead source (first script) ≡ g.lines ++ g.left) →
      ((from : ℕ) → option_map (λ q. q.from) script ≡ Some from → SaysItsOwn o.world.control from f g.lines g.left) × (option_map (λ q. q.from) script ≡ None → ReadsItsLines source o.world.control s f g.lines g.left)
  by_script (Some q) goes all = (λ from e. subst (λ n. SaysItsOwn o.world.control n f g.lines g.left) (same from e) (says q goes all), λ e. absurd (cc)) where
    same : (from : ℕ) → Some q.from ≡ Some from → q.from ≡ from
    same from e = cc
  by_script None goes all = (λ from e. absurd (cc), λ e. reads goes all)

  pub by_lines : (name : List ℕ) → GoesByLines source o.world.control (asked name) s f g.lines g.replies
  by_lines name = record {
    left = g.left;
    scripted = (by_script o.script g.takes.goes g.takes.all).0;
    read = (by_script o.script g.takes.goes g.takes.all).1;
    answered = record { quit = left_is; edits = g.takes.taken; replies_are = g.takes.replied; all_edits = g.takes.edits; all_replies = g.takes.answered; holds = g.alone.holds; acknowledged = g.takes.acknowledged };
    machine = record { machine = g.alone.machine; plainly = λ fine none. g.alone.plainly fine (none_given events none); paced = λ none. g.alone.paced (none_given events none) };
  }
