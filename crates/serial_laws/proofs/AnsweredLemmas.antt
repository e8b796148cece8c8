-- What lines have made, one after another.
use Rattle.std.proofs.Common.{◌≡◌, List, [], ◌++◌, refl, sym, ap, subst, ◌∙◌, append-nil, append_assoc}
use Rattle.std.specs.Prelude.{if◌then◌else◌, reverse, Option, Some, None}
use Rattle.session_model.specs.declared.session.Session.{Session}
use Rattle.session_model.specs.declared.edit.Edit.{Edit}
use Rattle.engine_model.specs.Lines.{Line, accepted_from}
use Rattle.engine_model.specs.Replies.{Reply, AreReplies}
use Rattle.machine_model.specs.Control.{Awaited, Entries, SettledIn}
use Rattle.machine_model.specs.Letters.{C, Machine}
use Rattle.machine_laws.proofs.AnswerLemmas.{Later, Answers, answers_letter, answers_at_first}
use Rattle.serial_laws.specs.Standing.{Standing, at_first, machine_of, carried_of}
use Rattle.serial_laws.specs.Answered.{StillToAnswer, HaveMade, NothingIsAnsweredAtFirst, EachLineIsAnswered, ItGoesByTheEdits, AllIsAnsweredAtTheEnd}

-- what is still to be answered is said twice
same_later : (s : Session) (awaits : Option Awaited) (edits : List Edit) (lines : List Line) (later : List Reply) → StillToAnswer s awaits edits lines later → Later s awaits edits lines later
same_later s None edits lines later h = h
same_later s (Some (Entries n)) edits lines later h = h
same_later s (Some (SettledIn k)) edits lines later h = h

later_same : (s : Session) (awaits : Option Awaited) (edits : List Edit) (lines : List Line) (later : List Reply) → Later s awaits edits lines later → StillToAnswer s awaits edits lines later
later_same s None edits lines later h = h
later_same s (Some (Entries n)) edits lines later h = h
later_same s (Some (SettledIn k)) edits lines later h = h

-- as the core machine's control has it
as_answers : (s : Session) (lines : List Line) (st : Standing) (more : List Line) → HaveMade s lines st more → Answers s (lines ++ more) st.core.edits (machine_of st more).control
as_answers s lines st more h = record {
  accepted = h.accepted;
  ended = h.ended;
  newest = h.newest;
  replies = λ later still. h.replies later (later_same s st.awaits st.core.edits (carried_of st more) later still);
}

from_answers : (s : Session) (lines : List Line) (st : Standing) (more : List Line) → Answers s (lines ++ more) st.core.edits (machine_of st more).control → HaveMade s lines st more
from_answers s lines st more a = record {
  accepted = a.accepted;
  ended = a.ended;
  newest = a.newest;
  replies = λ later still. a.replies later (same_later s st.awaits st.core.edits (carried_of st more) later still);
}

pub nothing_is_answered_at_first : NothingIsAnsweredAtFirst
nothing_is_answered_at_first s more may = from_answers s [] (at_first s) more (answers_at_first s more)

pub each_line_is_answered : EachLineIsAnswered
each_line_is_answered s cycles lines taken old new carries was more may = let came = taken ++ more in
    from_answers s (lines ++ taken) new more (subst (λ all. Answers s all new.core.edits (machine_of new more).control) (sym (append_assoc lines taken more))
    (subst (λ (m : Machine). Answers s (lines ++ came) m.core.edits m.control) (carries.letter more may)
    (answers_letter s cycles (lines ++ came) (machine_of old came) C (as_answers s lines old came (was came (carries.may more may))))))

pub it_goes_by_the_edits : ItGoesByTheEdits
it_goes_by_the_edits s lines c st same was more may = let h = was more may in from_answers s lines (record st { core = c }) more
    (subst (λ es. Answers s (lines ++ more) es (machine_of st more).control) (sym same) (as_answers s lines st more h))

pub all_is_answered_at_the_end : AllIsAnsweredAtTheEnd
all_is_answered_at_the_end s lines more st ended may was = let h = was more may in let none : carried_of st more ≡ [] = ap (λ b. if b then [] else more) ended in record {
  edits = sym (ap (accepted_from s st.core.edits) none) ∙ h.accepted;
  replies = λ free. subst (AreReplies s [] (lines ++ more)) (append-nil (reverse st.replies))
      (h.replies [] (subst (λ o. StillToAnswer s o st.core.edits (carried_of st more) []) (sym free) (subst (λ l. AreReplies s st.core.edits l []) (sym none) refl)));
}
