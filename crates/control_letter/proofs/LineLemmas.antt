-- What control does with its next line.
use Rattle.std.proofs.Common.{◌≡◌, ℕ, ◌+◌, List, [], ◌∷◌, ◌++◌, length, refl, sym, ap, ◌∙◌}
use Rattle.std.specs.Prelude.{Bool, true, false, ◌&&◌, not, if◌then◌else◌, Option, Some, None, Result, Ok, Err, is_ok}
use Rattle.std.proofs.lemmas.Bool.{and_from, true≢false, not_from_false}
use Rattle.session_model.specs.declared.session.Session.{Session}
use Rattle.session_model.specs.declared.edit.Edit.{Edit}
use Rattle.engine_model.specs.Edits.{has_quit, is_quit}
use Rattle.engine_model.specs.Editions as engine
use Rattle.engine_model.specs.Editions.{edition, apply}
use Rattle.engine_model.specs.Lines.{Line, Nothing, Says, Unread, accepts_after}
use Rattle.engine_model.specs.Plain.{Do, Wait, Sync}
use Rattle.engine_model.specs.Refusals.{Checked}
use Rattle.engine_model.specs.Replies.{Reply}
use Rattle.machine_model.specs.Core.{Core}
use Rattle.machine_model.specs.Control.{Awaited, Entries, SettledIn, line_done, published}
use Rattle.machine_model.specs.Events.{Publish, after, done}
use Rattle.machine_model.specs.Letters.{C, by_letter}
use Rattle.edit_resolve.specs.declared.reason.Refusal.{Refusal}
use Rattle.control_desk.specs.declared.progress.Progress.{Progress}
use Rattle.control_desk.specs.declared.standing.End.TheVariants.{Quit, WriteFailed}
use Rattle.control_desk.specs.Laws.{control, lines_after, IsAnswer}
use Rattle.control_desk.specs.Seen.{IsSeenOf, edit_of, is_over_by, replies_by, replies_to, reply_by, wait_of}
use Rattle.control_desk.specs.Standing as desk
use Rattle.control_desk.specs.Standing.{Awaits, Ended, Ready, Standing, after_edit, awaiting, awaits_of, cut_off, is_ended}
use Rattle.control_desk.specs.Texts.{edit_reply}
use Rattle.control_desk.proofs.LawLemmas.{edits_are_done, lines_are_done}
use Rattle.serial_laws.specs.Leads.{Carries}
use Rattle.serial_laws.specs.Standing.{MayCome, machine_of}
use Rattle.control_letter.specs.Letter.{edits_with}
use Rattle.control_letter.specs.Shown.{standing_by}
use Rattle.control_letter.proofs.FrontLemmas.{IsFront, by_control}

-- ---- where control stands after a line

-- nothing has ended while something may be awaited
pub awaiting_reads : (seen : Progress) (o : Option Awaited) → (is_ended (awaiting seen o) ≡ false) × (desk.has_quit (awaiting seen o) ≡ false)
awaiting_reads seen None = (refl, refl)
awaiting_reads seen (Some awaited) = by (is_over_by seen awaited)
  where
    by : (b : Bool) → (is_ended (if b then Ready else Awaits awaited) ≡ false) × (desk.has_quit (if b then Ready else Awaits awaited) ≡ false)
    by true = (refl, refl)
    by false = (refl, refl)

-- what was answered at a line is awaited no more
some_answered : (seen : Progress) (awaited : Awaited) (reply : Reply) (replies : List Reply) → replies_by seen awaited ≡ reply ∷ replies → awaits_of (awaiting seen (Some awaited)) ≡ None
some_answered seen awaited reply replies is = by (is_over_by seen awaited) is
  where
    by : (b : Bool) → (if b then reply_by seen awaited ∷ [] else []) ≡ reply ∷ replies → awaits_of (if b then Ready else Awaits awaited) ≡ None
    by true e = refl
    by false e = absurd cc

pub answered_awaits : (seen : Progress) (line : Line) (reply : Reply) (replies : List Reply) → replies_to seen line ≡ reply ∷ replies → awaits_of (awaiting seen (wait_of seen line)) ≡ None
answered_awaits seen Nothing reply replies is = refl
answered_awaits seen (Says (Do edit)) reply replies is = refl
answered_awaits seen (Says (Wait n)) reply replies is = some_answered seen (Entries (seen.entries + n)) reply replies is
answered_awaits seen (Says Sync) reply replies is = some_answered seen (SettledIn seen.edits) reply replies is
answered_awaits seen (Unread why) reply replies is = refl

-- ---- the letter by a line

module _ (s : Session) (k : ℕ) (c : Core) (st : Standing) (front : List Reply) (is_front : IsFront s k c st front) where
  line_letter : (line : Line) (more : List Line) (replies replies_now : List Reply) (now : Standing) (lines_now : List Line) (awaits_now : Option Awaited) (d : Core) →
      line_done s k c (control more None (front ++ replies)) line ≡ control lines_now awaits_now replies_now → after s k c (published s c line) ≡ d → awaits_of now ≡ awaits_now →
      (if is_ended now then [] else more) ≡ lines_now → by_letter s k (machine_of (standing_by c st replies) (line ∷ more)) C ≡ machine_of (standing_by d now replies_now) more
  line_letter line more replies replies_now now lines_now awaits_now d does core awaits lines =
      ap (λ b. by_letter s k (record { core = c; control = control (if b then [] else line ∷ more) (awaits_of st) replies }) C) is_front.reads
      ∙ by_control s k c (control (line ∷ more) (awaits_of st) replies) (control lines_now awaits_now replies_now) (published s c line) d (is_front.done (line ∷ more) replies ∙ does)
      (is_front.moves (line ∷ more) replies) core
      ∙ (λ i. record { core = d; control = control (sym lines i) (sym awaits i) replies_now })

  may_line : (line : Line) (replies : List Reply) (more : List Line) → MayCome (standing_by c st replies) (line ∷ more)
  may_line line replies more ended quit = absurd (true≢false (sym ended ∙ is_front.reads))

  -- a line that is no edit
  pub line_carries : (seen : Progress) → IsSeenOf k c seen → (line : Line) → edit_of line ≡ None → (replies : List Reply) →
      Carries s k (standing_by c st replies) (line ∷ []) (standing_by c (awaiting seen (wait_of seen line)) (replies_to seen line ++ (front ++ replies)))
  line_carries seen is_seen line none replies = record {
    may = λ more may. may_line line replies more;
    letter = λ more may. let does = lines_are_done s k c seen line more (front ++ replies) is_seen none in
        line_letter line more replies (replies_to seen line ++ (front ++ replies)) (awaiting seen (wait_of seen line)) more (awaits_of (awaiting seen (wait_of seen line))) c does.0
        (ap (after s k c) does.1) refl (ap (λ b. if b then [] else more) (awaiting_reads seen (wait_of seen line)).0);
  }

  -- whose reply isn't written
  pub line_cut : (seen : Progress) → IsSeenOf k c seen → (line : Line) → edit_of line ≡ None → (replies : List Reply) → awaits_of (awaiting seen (wait_of seen line)) ≡ None →
      Carries s k (standing_by c st replies) (line ∷ []) (standing_by c (Ended (WriteFailed (desk.has_quit (awaiting seen (wait_of seen line))))) (replies_to seen line ++ (front ++ replies)))
  line_cut seen is_seen line none replies answered = record {
    may = λ more may. may_line line replies more;
    letter = λ more may. let does = lines_are_done s k c seen line more (front ++ replies) is_seen none in
        line_letter line more replies (replies_to seen line ++ (front ++ replies)) (Ended (WriteFailed (desk.has_quit (awaiting seen (wait_of seen line))))) more
        (awaits_of (awaiting seen (wait_of seen line))) c does.0 (ap (after s k c) does.1) (sym answered) (sym (may refl (awaiting_reads seen (wait_of seen line)).1));
  }

  -- no line is left, or none can be read
  pub end_carries : (why : _) (replies : List Reply) → desk.has_quit (Ended why) ≡ false → Carries s k (standing_by c st replies) [] (standing_by c (Ended why) (front ++ replies))
  end_carries why replies unquit = record {
    may = λ more may ended quit. absurd (true≢false (sym ended ∙ is_front.reads));
    letter = λ more may. let none : more ≡ [] = may refl unquit in
        ap (λ l. by_letter s k (machine_of (standing_by c st replies) l) C) none
        ∙ ap (λ b. by_letter s k (record { core = c; control = control (if b then [] else []) (awaits_of st) replies }) C) is_front.reads
        ∙ by_control s k c (control [] (awaits_of st) replies) (control [] None (front ++ replies)) [] c (is_front.done [] replies) (is_front.moves [] replies) refl;
  }

  -- ---- an edit

  -- what it publishes
  publishes : (edit : Edit) (answer : Result ℕ Refusal) (made : Checked engine.Edition) → apply (edition s c.edits (length c.edits)) edit ≡ made → IsAnswer made answer →
      has_quit c.edits (length c.edits) ≡ false → after s k c (published s c (Says (Do edit))) ≡ record c { edits = edits_with edit answer c.edits }
  publishes edit (Ok n) (Ok next) is answers unquit = ap (λ b. after s k c (if b then Publish edit ∷ [] else [])) accepts
      ∙ ap (λ b. if b then done s k c (Publish edit) else c) (and_from (not (has_quit c.edits (length c.edits))) (accepts_after s c.edits edit) (not_from_false (has_quit c.edits (length c.edits)) unquit) accepts)
    where
      accepts : accepts_after s c.edits edit ≡ true
      accepts = ap is_ok is
  publishes edit (Err why) (Err given) is answers unquit = ap (λ b. after s k c (if b then Publish edit ∷ [] else [])) (ap is_ok is)
  publishes edit (Ok n) (Err given) is answers unquit = absurd answers
  publishes edit (Err why) (Ok next) is answers unquit = absurd answers

  -- the lines that are left after it, by where control stands
  lines_left : (edit : Edit) (answer : Result ℕ Refusal) (fault : Bool) (more : List Line) → ((is_ended (cut_off fault (after_edit edit answer)) ≡ true) → desk.has_quit (cut_off fault (after_edit edit answer)) ≡ false → more ≡ []) →
      (if is_ended (cut_off fault (after_edit edit answer)) then [] else more) ≡ lines_after edit answer more
  lines_left edit answer fault more = by (is_quit edit) answer fault
    where
      stands : Bool → Result ℕ Refusal → Standing
      stands quits (Ok n) = if quits then Ended Quit else Ready
      stands quits (Err why) = Ready

      by : (quits : Bool) (answer : Result ℕ Refusal) (fault : Bool) → (is_ended (cut_off fault (stands quits answer)) ≡ true → desk.has_quit (cut_off fault (stands quits answer)) ≡ false → more ≡ []) →
          (if is_ended (cut_off fault (stands quits answer)) then [] else more) ≡ (if quits && is_ok answer then [] else more)
      by true (Ok n) true may = refl
      by true (Ok n) false may = refl
      by true (Err why) true may = sym (may refl refl)
      by true (Err why) false may = refl
      by false (Ok n) true may = sym (may refl refl)
      by false (Ok n) false may = refl
      by false (Err why) true may = sym (may refl refl)
      by false (Err why) false may = refl

  none_awaited : (edit : Edit) (answer : Result ℕ Refusal) (fault : Bool) → awaits_of (cut_off fault (after_edit edit answer)) ≡ None
  none_awaited edit answer true = refl
  none_awaited edit (Err why) false = refl
  none_awaited edit (Ok n) false = by (is_quit edit)
    where
      by : (b : Bool) → awaits_of (if b then Ended Quit else Ready) ≡ None
      by true = refl
      by false = refl

  -- an edit that was published and answered
  pub edit_carries : (edit : Edit) (answer : Result ℕ Refusal) (fault : Bool) (replies : List Reply) → IsAnswer (apply (edition s c.edits (length c.edits)) edit) answer →
      has_quit c.edits (length c.edits) ≡ false → Carries s k (standing_by c st replies) (Says (Do edit) ∷ [])
      (standing_by (record c { edits = edits_with edit answer c.edits }) (cut_off fault (after_edit edit answer)) (edit_reply answer ∷ (front ++ replies)))
  edit_carries edit answer fault replies answers unquit = record {
    may = λ more may. may_line (Says (Do edit)) replies more;
    letter = λ more may. line_letter (Says (Do edit)) more replies (edit_reply answer ∷ (front ++ replies)) (cut_off fault (after_edit edit answer)) (lines_after edit answer more) None
        (record c { edits = edits_with edit answer c.edits })
        (edits_are_done (apply (edition s c.edits (length c.edits)) edit) edit answer more (front ++ replies) answers)
        (publishes edit answer (apply (edition s c.edits (length c.edits)) edit) refl answers unquit) (none_awaited edit answer fault) (lines_left edit answer fault more may);
  }
