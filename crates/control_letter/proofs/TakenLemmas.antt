-- What control comes to once it has answered what it awaited, and takes its next line.
use Rattle.std.proofs.Common.{◌≡◌, ◌≢◌, inl, inr, ℕ, List, [], ◌∷◌, ◌++◌, length, refl, sym, ap, subst, arith, ◌∙◌, append_assoc}
use Rattle.std.specs.Prelude.{◌⊎◌, Bool, true, false, if◌then◌else◌, reverse, Option, Some, None, Result, Ok, Err}
use Rattle.std.proofs.lemmas.Bool.{true≢false, false≢true}
use Rattle.std.proofs.lemmas.Option.{none-some}
use Rattle.ses_io.specs.Outside.{SourceOutside, SinkOutside}
use Rattle.session_model.specs.declared.session.Session.{Session}
use Rattle.session_model.specs.declared.edit.Edit.{Edit}
use Rattle.engine_model.specs.Edits.{has_quit, is_quit}
use Rattle.engine_model.specs.Editions.{edition, apply}
use Rattle.engine_model.specs.Lines.{Line, Says}
use Rattle.engine_model.specs.Plain.{Do}
use Rattle.engine_model.specs.Replies.{Reply}
use Rattle.machine_model.specs.Core.{Core}
use Rattle.machine_model.specs.Rest.{next_task, task_of}
use Rattle.machine_laws.proofs.CarryLemmas.{quit_after}
use Rattle.edit_resolve.specs.declared.reason.Refusal.{Refusal}
use Rattle.control_desk.specs.declared.progress.Progress.{Progress}
use Rattle.control_desk.specs.declared.standing.End.{End}
use Rattle.control_desk.specs.declared.standing.End.TheVariants.{NoLine, Quit, ReadFailed, WriteFailed}
use Rattle.control_desk.specs.GoesOn.{GoesOn}
use Rattle.control_desk.specs.Laws.{IsAnswer}
use Rattle.control_desk.specs.Seen.{IsSeenOf, edit_of, replies_to, wait_of}
use Rattle.control_desk.specs.Standing as desk
use Rattle.control_desk.specs.State.{ControlState, Tells, ahead}
use Rattle.control_desk.specs.Standing.{Ended, Ready, Standing, after_edit, awaiting, awaits_of, cut_off, is_ended, read_failed}
use Rattle.control_desk.specs.Steps.{CarriesALine, CarriesOut, EndsBy, PutsOut, Replies, heard}
use Rattle.control_desk.specs.Texts.{edit_reply}
use Rattle.control_desk.proofs.ControlLemmas.{ahead_of, goes_on, tells_on}
use Rattle.control_desk.proofs.LawLemmas.{edits_are_said}
use Rattle.serial_laws.specs.Leads.{Carries, IsDue, StaysPut}
use Rattle.serial_laws.specs.Standing.{machine_of}
use Rattle.control_letter.specs.Letter.{ChangesNothing, DoesLetter, Finishes, Publishes, TakesALine, edits_with}
use Rattle.control_letter.specs.Shown.{standing_by}
use Rattle.control_letter.proofs.FrontLemmas.{IsFront}
use Rattle.control_letter.proofs.LineLemmas.{answered_awaits, awaiting_reads, edit_carries, end_carries, line_carries, line_cut}
use Rattle.control_letter.proofs.LetterLemmas as letters
use Rattle.control_letter.proofs.LetterLemmas.{few_to, in_order, no_fault, one_way, stands_quiet}

module _ {C O : Type 0} (source : SourceOutside C) (sink : SinkOutside O) (s : Session) (seen : Progress) (edits edits_now : List Edit) (old mid new : ControlState C O) (st : Standing) (front : List Reply)
    (was : old.standing ≡ st) (reads : is_ended st ≡ false) (unquit : has_quit edits (length edits) ≡ false) (few : reverse front ≡ front) (answered : GoesOn source sink old [] front mid)
    (fronts : (k : ℕ) (c : Core) → IsSeenOf k c seen → IsFront s k c st front) (ready : mid.standing ≡ Ready) where
  abbrev pub Does : Type 0
  Does = DoesLetter source sink s seen edits old edits_now new

  -- a line is due
  line_due : (k : ℕ) (c d : Core) (replies replies_now : List Reply) (now : Standing) (line : Line) → IsSeenOf k c seen →
      IsDue s k (standing_by c old.standing replies) (line ∷ []) (standing_by d now replies_now)
  line_due k c d replies replies_now now line is_seen more may = ap (λ z. task_of k (machine_of (standing_by c z replies) (line ∷ more))) was
      ∙ ap (λ b. next_task k c (awaits_of st) (if b then [] else line ∷ more)) reads ∙ (fronts k c is_seen).due line more

  -- ---- a line, by where control stands after it and what is answered to it

  by_line : (line : Line) (later : List Reply) (now : Standing) (edits_so : List Edit) → new.standing ≡ now → edits_now ≡ edits_so → reverse later ≡ later → GoesOn source sink mid (line ∷ []) later new → now ≢ Ended NoLine →
      (is_ended now ≡ false → has_quit edits_so (length edits_so) ≡ false) →
      ((k : ℕ) (c : Core) (replies : List Reply) → IsSeenOf k c seen → c.edits ≡ edits →
      Carries s k (standing_by c st replies) (line ∷ []) (standing_by (record c { edits = edits_so }) now (later ++ (front ++ replies)))) → Does
  by_line line later now edits_so is so few_later goes not_last quits carries = record {
    taken = line ∷ [];
    given = later ++ front;
    one = omega arith;
    last = λ reading ended tells. absurd (not_last (sym is ∙ ended));
    goes = subst (λ r. GoesOn source sink old (line ∷ []) r new) (in_order front later few few_later) (goes_on source sink [] (line ∷ []) front later old mid new answered goes);
    carries = λ k c replies is_seen same. letters.carries_by source sink s seen edits edits_now old new st now edits_so was is so k c replies (later ++ front) (line ∷ [])
        (subst (λ r. Carries s k (standing_by c st replies) (line ∷ []) (standing_by (record c { edits = edits_so }) now r)) (sym (append_assoc later front replies)) (carries k c replies is_seen same));
    due_or_not = λ k c replies is_seen same. inl (line_due k c (record c { edits = edits_now }) replies ((later ++ front) ++ replies) new.standing line is_seen);
    unquit = λ reading. ap (λ l. has_quit l (length l)) so ∙ quits (ap is_ended (sym is) ∙ reading);
  }

  -- ---- no line

  -- the lines that were to come before what was awaited was answered are those that are to come after
  none_left : (Tells source mid.script → ahead source mid ≡ []) → Tells source old.script → ahead source old ≡ []
  none_left none tells = ahead_of source sink [] front old mid answered tells (ap read_failed ready) ∙ none (tells_on source sink [] front old mid answered tells)

  by_end : (why : End) → desk.has_quit (Ended why) ≡ false → new.standing ≡ Ended why → edits_now ≡ edits → GoesOn source sink mid [] [] new → (Ended why ≡ Ended NoLine → Tells source mid.script → ahead source mid ≡ []) → Does
  by_end why quiet is so goes none = record {
    taken = [];
    given = front;
    one = omega arith;
    last = λ reading ended tells. none_left (none (sym is ∙ ended)) tells;
    goes = subst (λ r. GoesOn source sink old [] r new) (in_order front [] few refl) (goes_on source sink [] [] front [] old mid new answered goes);
    carries = λ k c replies is_seen same. letters.carries_by source sink s seen edits edits_now old new st (Ended why) c.edits was is (so ∙ sym same) k c replies front []
        (end_carries s k c st front (fronts k c is_seen) why replies quiet);
    due_or_not = λ k c replies is_seen same. by k c replies same (fronts k c is_seen);
    unquit = λ reading. absurd (false≢true (sym reading ∙ ap is_ended is));
  }
    where
      by : (k : ℕ) (c : Core) (replies : List Reply) → c.edits ≡ edits → IsFront s k c st front →
          IsDue s k (standing_by c old.standing replies) [] (standing_by (record c { edits = edits_now }) new.standing (front ++ replies))
          ⊎ ChangesNothing source sink s c replies old [] front edits_now new
      by k c replies same is_front = elim is_front.at_end [
        | inr due ↦ inl (λ more may. ap (λ z. task_of k (machine_of (standing_by c z replies) more)) was ∙ due (if is_ended st then [] else more))
        | inl none ↦ inr (record {
          none_taken = refl;
          none_given = none.1;
          same_edits = so ∙ sym same;
          stays = subst (λ z. StaysPut (standing_by c z replies) (standing_by (record c { edits = edits_now }) new.standing (front ++ replies))) (sym (was ∙ none.0))
              (subst (λ z. StaysPut (standing_by c Ready replies) (standing_by (record c { edits = edits_now }) z (front ++ replies))) (sym is)
              (subst (λ z. StaysPut (standing_by c Ready replies) (standing_by (record c { edits = z }) (Ended why) (front ++ replies))) (sym (so ∙ sym same))
              (subst (λ z. StaysPut (standing_by c Ready replies) (standing_by c (Ended why) (z ++ replies))) (sym none.1) (record {
                may = λ more may ended quit. absurd (false≢true ended);
                same = λ more may. ap (λ l. machine_of (standing_by c Ready replies) l) (may refl quiet);
              }))));
        })
      ]

  -- ---- what the call did

  -- an edit was given: it was published, and answered
  edit_does : (line : Line) (edit : Edit) (taken : ControlState C O) → edit_of line ≡ Some edit → taken.standing ≡ Ready → GoesOn source sink mid (line ∷ []) [] taken →
      Publishes source sink s edits edit taken edits_now new → Does
  edit_does line edit taken is_edit stands goes p = by_line line (edit_reply p.answer ∷ []) (cut_off p.replies.fault (after_edit edit p.answer)) (edits_with edit p.answer edits)
      (ap (λ z. z.standing) p.replies.state) p.edits_are refl (goes_on source sink (line ∷ []) [] [] (edit_reply p.answer ∷ []) mid taken new goes p.goes)
      (goes_further p.answer p.replies.fault)
      (quits p.answer p.replies.fault)
      (λ k c replies is_seen same. subst (λ l. Carries s k (standing_by c st replies) (l ∷ []) (standing_by (record c { edits = edits_with edit p.answer edits })
      (cut_off p.replies.fault (after_edit edit p.answer)) (edit_reply p.answer ∷ (front ++ replies)))) (sym (edits_are_said line edit is_edit)) (by_edits k c replies is_seen same))
    where
      by_edits : (k : ℕ) (c : Core) (replies : List Reply) → IsSeenOf k c seen → c.edits ≡ edits →
          Carries s k (standing_by c st replies) (Says (Do edit) ∷ []) (standing_by (record c { edits = edits_with edit p.answer edits }) (cut_off p.replies.fault (after_edit edit p.answer)) (edit_reply p.answer ∷ (front ++ replies)))
      by_edits k c replies is_seen same = subst (λ es. Carries s k (standing_by c st replies) (Says (Do edit) ∷ [])
          (standing_by (record c { edits = edits_with edit p.answer es }) (cut_off p.replies.fault (after_edit edit p.answer)) (edit_reply p.answer ∷ (front ++ replies)))) same
          (edit_carries s k c st front (fronts k c is_seen) edit p.answer p.replies.fault replies (subst (λ es. IsAnswer (apply (edition s es (length es)) edit) p.answer) (sym same) p.is_answer) (ap (λ es. has_quit es (length es)) same ∙ unquit))

      goes_further : (answer : Result ℕ Refusal) (fault : Bool) → cut_off fault (after_edit edit answer) ≢ Ended NoLine
      goes_further answer true e = absurd cc
      goes_further (Err why) false e = absurd cc
      goes_further (Ok n) false e = by (is_quit edit) e
        where
          by : (b : Bool) → (if b then Ended Quit else Ready) ≢ Ended NoLine
          by true e = absurd cc
          by false e = absurd cc

      quits : (answer : Result ℕ Refusal) (fault : Bool) → is_ended (cut_off fault (after_edit edit answer)) ≡ false → has_quit (edits_with edit answer edits) (length (edits_with edit answer edits)) ≡ false
      quits answer true reading = absurd (true≢false reading)
      quits (Err why) false reading = unquit
      quits (Ok n) false reading = quit_after edits edit ∙ by (is_quit edit) reading
        where
          by : (b : Bool) → is_ended (if b then Ended Quit else Ready) ≡ false → (if b then true else has_quit edits (length edits)) ≡ false
          by true reading = absurd (true≢false reading)
          by false reading = unquit

  -- a line that gives none
  line_does : (line : Line) (taken : ControlState C O) → edit_of line ≡ None → (middle : ControlState C O) → Replies sink (replies_to seen line) (awaiting seen (wait_of seen line)) middle taken →
      GoesOn source sink mid (line ∷ []) (replies_to seen line) taken → edits_now ≡ edits → new ≡ taken → Does
  line_does line taken none middle r goes so is = by r.fault refl
    where
      goes_new : GoesOn source sink mid (line ∷ []) (replies_to seen line) new
      goes_new = subst (GoesOn source sink mid (line ∷ []) (replies_to seen line)) (sym is) goes

      stands : (b : Bool) → r.fault ≡ b → new.standing ≡ cut_off b (awaiting seen (wait_of seen line))
      stands b e = ap (λ z. z.standing) is ∙ ap (λ z. z.standing) r.state ∙ ap (λ b. cut_off b (awaiting seen (wait_of seen line))) e

      cut : replies_to seen line ≡ [] ⊎ ((reply : Reply) × (replies_to seen line ≡ reply ∷ [])) → r.fault ≡ true → awaits_of (awaiting seen (wait_of seen line)) ≡ None
      cut (inl nothing) e = absurd (true≢false (sym e ∙ no_fault sink middle.script middle.out taken.out r.fault (subst (λ l. PutsOut sink (heard middle.script l) middle.out taken.out r.fault) nothing r.out)))
      cut (inr one) e = answered_awaits seen line one.0 [] one.1

      by : (b : Bool) → r.fault ≡ b → Does
      by false e = by_line line (replies_to seen line) (awaiting seen (wait_of seen line)) edits (stands false e) so (one_way (replies_to seen line) (few_to seen line)) goes_new
          (λ e. false≢true (sym (awaiting_reads seen (wait_of seen line)).0 ∙ ap is_ended e)) (λ reading. unquit)
          (λ k c replies is_seen same. subst (λ es. Carries s k (standing_by c st replies) (line ∷ []) (standing_by (record c { edits = es }) (awaiting seen (wait_of seen line)) (replies_to seen line ++ (front ++ replies)))) same
          (line_carries s k c st front (fronts k c is_seen) seen is_seen line none replies))
      by true e = by_line line (replies_to seen line) (Ended (WriteFailed (desk.has_quit (awaiting seen (wait_of seen line))))) edits (stands true e) so (one_way (replies_to seen line) (few_to seen line)) goes_new (λ e. absurd cc)
          (λ reading. absurd (true≢false reading))
          (λ k c replies is_seen same. subst (λ es. Carries s k (standing_by c st replies) (line ∷ []) (standing_by (record c { edits = es })
          (Ended (WriteFailed (desk.has_quit (awaiting seen (wait_of seen line))))) (replies_to seen line ++ (front ++ replies)))) same
          (line_cut s k c st front (fronts k c is_seen) seen is_seen line none replies (cut (few_to seen line) e)))

  ends_so : (why : End) (given : Option Edit) (taken : ControlState C O) → desk.has_quit (Ended why) ≡ false → EndsBy source sink why mid given taken → (Ended why ≡ Ended NoLine → Tells source mid.script → ahead source mid ≡ []) →
      Finishes source sink s edits given taken edits_now new → Does
  ends_so why given taken quiet ends none_is finishes = by given ends.none finishes
    where
      by : (given : Option Edit) → given ≡ None → Finishes source sink s edits given taken edits_now new → Does
      by None none f = by_end why quiet (ap (λ z. z.standing) f.1 ∙ ap (λ z. z.standing) ends.state) f.0 (subst (GoesOn source sink mid [] []) (sym f.1) ends.goes) none_is
      by (Some edit) none f = absurd (none-some edit (sym none))

  line_taken : (given : Option Edit) (taken : ControlState C O) (line : CarriesALine source sink seen mid given taken) → (o : Option Edit) → edit_of line.line ≡ o → Finishes source sink s edits o taken edits_now new → Does
  line_taken given taken line None is f = line_does line.line taken is (record mid { lines = taken.lines; script = taken.script }) line.replies line.goes f.0 f.1
  line_taken given taken line (Some edit) is f = let says = edits_are_said line.line edit is in
      edit_does line.line edit taken is
      (stands_quiet sink Ready (record mid { lines = taken.lines; script = taken.script }) taken
      (subst (λ l. Replies sink (replies_to seen l) (awaiting seen (wait_of seen l)) (record mid { lines = taken.lines; script = taken.script }) taken) says line.replies))
      (subst (λ l. GoesOn source sink mid (line.line ∷ []) (replies_to seen l) taken) says line.goes) f

  -- **whichever it was**
  pub takes : TakesALine source sink s seen edits mid edits_now new → Does
  takes t = by t.carries
    where
      by : CarriesOut source sink seen mid t.given t.taken → Does
      by (inl line) = line_taken t.given t.taken line (edit_of line.line) refl (subst (λ o. Finishes source sink s edits o t.taken edits_now new) line.is_given t.finishes)
      by (inr (inl last)) = ends_so NoLine t.given t.taken refl last.ends (λ e. last.last) t.finishes
      by (inr (inr fault)) = ends_so ReadFailed t.given t.taken refl fault (λ e. absurd cc) t.finishes
