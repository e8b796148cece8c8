-- What control has said once it has taken a line.
use Rattle.std.proofs.Common.{◌≡◌, inl, inr, ℕ, ◌+◌, List, [], ◌∷◌, ◌++◌, length, refl, sym, ap, subst, ◌∙◌, arith, append-nil}
use Rattle.std.specs.Prelude.{Bool, true, false, ◌||◌, if◌then◌else◌, reverse, Some, None, Result, Ok, Err}
use Rattle.std.proofs.lemmas.Bool.{false≢true, lt-leb}
use Rattle.std.proofs.lemmas.List.{reverse-append}
use Rattle.std.proofs.lemmas.Option.{none-some}
use Rattle.ses_io.specs.Outside.{SourceOutside, SinkOutside}
use Rattle.session_model.specs.declared.session.Session.{Session}
use Rattle.session_model.specs.declared.edit.Edit.{Edit}
use Rattle.engine_model.specs.Edits.{has_quit, is_quit}
use Rattle.engine_model.specs.Editions.{apply, edition}
use Rattle.engine_model.specs.Lines.{Line, Nothing, Says, Unread, accepts_after, accepted_of}
use Rattle.engine_model.specs.Plain.{Do, Wait, Sync}
use Rattle.engine_model.specs.Replies.{Reply, LineRefused}
use Rattle.engine_model.specs.Waited.{Pace, paces_from}
use Rattle.machine_model.specs.Control.{Awaited, Entries, SettledIn}
use Rattle.edit_resolve.specs.declared.reason.Refusal.{Refusal}
use Rattle.control_desk.specs.declared.progress.Progress.{Progress}
use Rattle.control_desk.specs.declared.standing.End.{End}
use Rattle.control_desk.specs.declared.standing.End.TheVariants.{NoLine, Quit, ReadFailed, WriteFailed}
use Rattle.control_desk.specs.GoesOn.{GoesOn}
use Rattle.control_desk.specs.Laws.{IsAnswer}
use Rattle.control_desk.specs.Seen.{edit_of, is_over_by, replies_to, reply_by, wait_of}
use Rattle.control_desk.specs.State.{ControlState, Tells, ahead}
use Rattle.control_desk.specs.Standing as desk
use Rattle.control_desk.specs.Standing.{Awaits, Ended, Ready, after_due, after_edit, awaiting, awaits_of, cut_off, due, is_ended, read_failed}
use Rattle.control_desk.specs.Steps.{CarriesOut, EndsBy, Replies}
use Rattle.control_desk.specs.Taking.{IsLegal}
use Rattle.control_desk.specs.Texts.{edit_reply}
use Rattle.control_desk.proofs.ControlLemmas.{ahead_of, goes_on, tells_on}
use Rattle.control_desk.proofs.LawLemmas.{edits_are_said}
use Rattle.control_letter.specs.Letter.{edits_with}
use Rattle.control_letter.proofs.LetterLemmas.{stands_quiet}
use Rattle.control_letter.proofs.PublishLemmas.{edit_quits, quit_cut, unread_yet}
use Rattle.serial_laws.specs.Answered.{HasAnswered}
use Rattle.cycle_grants.proofs.PaceLemmas.{paces_go_on}
use Rattle.lead_worker.specs.Leads.{Adds, ArePlain, HasSaid, LosesAnEdit, TakesALine, at_line}
use Rattle.lead_worker.proofs.AnsweredLemmas.{Answers, answered_on, at, cut_short, does_edit, does_nothing, does_refuse, does_sync, does_wait, ends_here, quit_with, takes_on}

-- ---- where control stands

-- what isn't awaited isn't once a write failed
free_cut : (fault : Bool) (st : desk.Standing) → awaits_of st ≡ None → awaits_of (cut_off fault st) ≡ None
free_cut true st none = refl
free_cut false st none = none

-- a write that fails isn't the end of lines
cut_is_not_last : (fault : Bool) (st : desk.Standing) → (st ≡ Ended NoLine → ⊥) → cut_off fault st ≡ Ended NoLine → ⊥
cut_is_not_last true st not is = absurd cc
cut_is_not_last false st not is = not is

abbrev no_pace : List Pace
no_pace = []

-- the replies to edits and to lines that aren't read go by no acknowledgement
plain_edit : (answer : Result ℕ Refusal) → ArePlain (edit_reply answer ∷ [])
plain_edit (Ok k) acks ended = refl
plain_edit (Err why) acks ended = refl

module _ {C O : Type 0} (source : SourceOutside C) (sink : SinkOutside O) (s : Session) (from : ControlState C O) where
  abbrev Said : List Line → List Reply → List Edit → ControlState C O → Type 0
  Said = HasSaid source sink s from

  -- what is so of a step
  record Step (taken : List Line) (given : List Reply) (edits_now : List Edit) (old new : ControlState C O) : Type 0 where
    goes : GoesOn source sink old taken (reverse given) new
    last : new.standing ≡ Ended NoLine → Tells source old.script → ahead source old ≡ taken
    unquit : is_ended new.standing ≡ false → has_quit edits_now (length edits_now) ≡ false
    quits : desk.has_quit new.standing ≡ has_quit edits_now (length edits_now)

  said_on : (lines taken : List Line) (replies given : List Reply) (edits edits_now : List Edit) (old new : ControlState C O) → is_ended old.standing ≡ false → Said lines replies edits old →
      Step taken given edits_now old new → HasAnswered s (lines ++ taken) (at s edits_now new.standing (given ++ replies)) → Said (lines ++ taken) (given ++ replies) edits_now new
  said_on lines taken replies given edits edits_now old new going was step answered = record {
    goes = subst (λ l. GoesOn source sink from (lines ++ taken) l new) (sym (reverse-append given replies)) (goes_on source sink lines taken (reverse replies) (reverse given) from old new was.goes step.goes);
    last = λ ended tells. ahead_of source sink lines (reverse replies) from old was.goes tells (unread_yet old.standing going)
        ∙ ap (λ l. lines ++ l) (step.last ended (tells_on source sink lines (reverse replies) from old was.goes tells));
    answered = answered;
    unquit = step.unquit;
    quits = step.quits;
  }

  module _ (lines : List Line) (replies : List Reply) (edits : List Edit) (old : ControlState C O) (was : Said lines replies edits old) (ready : old.standing ≡ Ready) where
    going : is_ended old.standing ≡ false
    going = ap is_ended ready

    unquit : has_quit edits (length edits) ≡ false
    unquit = was.unquit going

    answered : HasAnswered s lines (at s edits Ready replies)
    answered = subst (λ st. HasAnswered s lines (at s edits st replies)) ready was.answered

    -- the edits are those of the lines, and one line more asks for its own grants
    edits_are : accepted_of s lines ≡ edits
    edits_are = sym ((answered [] (λ ended. absurd (false≢true ended))).accepted ∙ ap (accepted_of s) (append-nil lines))

    paces_are : (line : Line) → paces_from s [] (lines ++ line ∷ []) ≡ paces_from s [] lines ++ paces_from s edits (line ∷ [])
    paces_are line = paces_go_on s lines line (ap (λ l. has_quit l (length l)) edits_are ∙ unquit) ∙ ap (λ l. paces_from s [] lines ++ paces_from s l (line ∷ [])) edits_are

    adds_none : (line : Line) (k : ℕ) (st : desk.Standing) → paces_from s edits (line ∷ []) ≡ [] → awaits_of st ≡ None → Adds k (awaits_of st) (paces_from s [] lines) (paces_from s [] (lines ++ line ∷ []))
    adds_none line k st none free = subst (λ a. Adds k a (paces_from s [] lines) (paces_from s [] (lines ++ line ∷ []))) (sym free)
        (paces_are line ∙ ap (λ ps. paces_from s [] lines ++ ps) none ∙ append-nil (paces_from s [] lines))

    abbrev pub Takes : ControlState C O → List Edit → Type 0
    Takes new edits_now = TakesALine source sink s from lines replies edits_now new

    -- ---- no edit

    module _ (new : ControlState C O) where
      -- a line that leaves control so, and gives this
      by_line : (line : Line) (given : List Reply) (st : desk.Standing) (fault : Bool) → new.standing ≡ cut_off fault st → awaits_of (cut_off fault st) ≡ awaits_of st → desk.has_quit st ≡ false → (st ≡ Ended NoLine → ⊥) →
          GoesOn source sink old (line ∷ []) (reverse given) new → HasAnswered s (lines ++ line ∷ []) (at s edits (cut_off fault st) (given ++ replies)) →
          Adds (length edits) (awaits_of st) (paces_from s [] lines) (paces_from s [] (lines ++ line ∷ [])) → ArePlain given → Takes new edits
      by_line line given st fault stands free no_quit not_last goes answered_now adds plain = record {
        taken = line ∷ [];
        given = given;
        said = said_on lines (line ∷ []) replies given edits edits old new going was (record {
          goes = goes;
          last = λ ended tells. absurd (cut_is_not_last fault st not_last (sym stands ∙ ended));
          unquit = λ open_still. unquit;
          quits = ap desk.has_quit stands ∙ quit_cut fault st ∙ no_quit ∙ sym unquit;
        }) (subst (λ z. HasAnswered s (lines ++ line ∷ []) (at s edits z (given ++ replies))) (sym stands) answered_now);
        adds = subst (λ a. Adds (length edits) a (paces_from s [] lines) (paces_from s [] (lines ++ line ∷ []))) (sym (ap awaits_of stands ∙ free)) adds;
        plain = plain;
      }

      abbrev seen : Progress
      seen = at_line (length edits)

      -- by what the line says
      line_taken : (mid : ControlState C O) (line : Line) → IsLegal line → None ≡ edit_of line → Replies sink (replies_to seen line) (awaiting seen (wait_of seen line)) mid new →
          GoesOn source sink old (line ∷ []) (replies_to seen line) new → Takes new edits
      line_taken mid Nothing legal none r goes = by_line Nothing [] Ready false (stands_quiet sink Ready mid new r) refl refl (λ is. absurd cc) goes
          (takes_on s lines Nothing edits edits Ready [] replies answered (λ more may. does_nothing s edits unquit more)) (adds_none Nothing (length edits) Ready refl refl) (λ acks ended. refl)
      line_taken mid (Unread why) legal none r goes = by_line (Unread why) (LineRefused why ∷ []) Ready r.fault (ap (λ (c : ControlState C O). c.standing) r.state) (free_cut r.fault Ready refl) refl (λ is. absurd cc) goes
          (cut_short s (lines ++ Unread why ∷ []) edits Ready (LineRefused why ∷ replies) r.fault refl
          (takes_on s lines (Unread why) edits edits Ready (LineRefused why ∷ []) replies answered (λ more may. does_refuse s edits unquit why more))) (adds_none (Unread why) (length edits) Ready refl refl) (λ acks ended. refl)
      line_taken mid (Says (Do edit)) legal none r goes = absurd (none-some edit none)
      line_taken mid (Says Sync) legal none r goes = by_line (Says Sync) [] (Awaits (SettledIn (length edits))) false (stands_quiet sink (Awaits (SettledIn (length edits))) mid new r) refl refl (λ is. absurd cc) goes
          (takes_on s lines (Says Sync) edits edits (Awaits (SettledIn (length edits))) [] replies answered (λ more may. does_sync s edits unquit more)) (refl, paces_are (Says Sync)) (λ acks ended. refl)
      line_taken mid (Says (Wait n)) legal none r goes = waits (is_over_by seen (Entries (0 + n))) not_over r goes
        where
          none_before : 0 + n ≡ n
          none_before = omega arith

          not_over : is_over_by seen (Entries (0 + n)) ≡ false
          not_over = ap (λ b. b || false) (lt-leb (0 + n) 0 (omega (arith, legal.0)))

          waits : (over : Bool) → over ≡ false → Replies sink (if over then reply_by seen (Entries (0 + n)) ∷ [] else []) (if over then Ready else Awaits (Entries (0 + n))) mid new →
              GoesOn source sink old (Says (Wait n) ∷ []) (if over then reply_by seen (Entries (0 + n)) ∷ [] else []) new → Takes new edits
          waits true is r goes = absurd (false≢true (sym is))
          waits false is r goes = by_line (Says (Wait n)) [] (Awaits (Entries n)) false (stands_quiet sink (Awaits (Entries (0 + n))) mid new r ∙ ap (λ m. Awaits (Entries m)) none_before) refl refl (λ is. absurd cc) goes
              (takes_on s lines (Says (Wait n)) edits edits (Awaits (Entries n)) [] replies answered (λ more may. does_wait s edits unquit n more)) (paces_are (Says (Wait n))) (λ acks ended. refl)

      -- no line is left, or a read failed
      end_taken : (why : End) → desk.has_quit (Ended why) ≡ false → (why ≡ NoLine → Tells source old.script → ahead source old ≡ []) → EndsBy source sink why old None new → Takes new edits
      end_taken why no_quit last ends = let stands = ap (λ (c : ControlState C O). c.standing) ends.state in record {
        taken = [];
        given = [];
        said = said_on lines [] replies [] edits edits old new going was (record {
          goes = ends.goes;
          last = λ ended tells. last (same_end why (sym stands ∙ ended)) tells;
          unquit = λ open_still. unquit;
          quits = ap desk.has_quit stands ∙ no_quit ∙ sym unquit;
        }) (subst (λ l. HasAnswered s l (at s edits new.standing replies)) (sym (append-nil lines))
            (subst (λ z. HasAnswered s lines (at s edits z replies)) (sym stands) (ends_here s lines edits why replies no_quit unquit answered)));
        adds = subst (λ a. Adds (length edits) a (paces_from s [] lines) (paces_from s [] (lines ++ []))) (sym (ap awaits_of stands)) (ap (paces_from s []) (append-nil lines));
        plain = λ acks ended. refl;
      }
        where
          same_end : (why : End) → Ended why ≡ Ended NoLine → why ≡ NoLine
          same_end NoLine is = refl
          same_end Quit is = absurd cc
          same_end ReadFailed is = absurd cc
          same_end (WriteFailed quit) is = absurd cc

      -- **no edit was given**
      pub takes_none : CarriesOut source sink seen old None new → Takes new edits
      takes_none (inl c) = line_taken (record old { lines = new.lines; script = new.script }) c.line c.legal c.is_given c.replies c.goes
      takes_none (inr (inl last)) = end_taken NoLine refl (λ is. last.last) last.ends
      takes_none (inr (inr failed)) = end_taken ReadFailed refl (λ is. absurd cc) failed

    -- ---- an edit

    module _ (seen : Progress) (mid : ControlState C O) (edit : Edit) (given : CarriesOut source sink seen old (Some edit) mid) where
      line_given : (line : Line) → Some edit ≡ edit_of line → Replies sink (replies_to seen line) (awaiting seen (wait_of seen line)) (record old { lines = mid.lines; script = mid.script }) mid →
          GoesOn source sink old (line ∷ []) (replies_to seen line) mid → (mid.standing ≡ Ready) × GoesOn source sink old (Says (Do edit) ∷ []) [] mid
      line_given line is r goes = let said = edits_are_said line edit (sym is) in (
        stands_quiet sink Ready (record old { lines = mid.lines; script = mid.script }) mid
            (subst (λ l. Replies sink (replies_to seen l) (awaiting seen (wait_of seen l)) (record old { lines = mid.lines; script = mid.script }) mid) said r),
        subst (λ l. GoesOn source sink old (l ∷ []) (replies_to seen l) mid) said goes,
      )

      gives : CarriesOut source sink seen old (Some edit) mid → (mid.standing ≡ Ready) × GoesOn source sink old (Says (Do edit) ∷ []) [] mid
      gives (inl c) = line_given c.line c.is_given c.replies c.goes
      gives (inr (inl last)) = absurd (none-some edit (sym last.ends.none))
      gives (inr (inr failed)) = absurd (none-some edit (sym failed.none))

      -- there was no memory for it
      pub loses_it : LosesAnEdit source sink s from lines replies mid
      loses_it = let is = gives given in record {
        edit = edit;
        goes = subst (λ l. GoesOn source sink from (lines ++ Says (Do edit) ∷ []) l mid) (append-nil (reverse replies)) (goes_on source sink lines (Says (Do edit) ∷ []) (reverse replies) [] from old mid was.goes is.1);
        ready = is.0;
      }

      edit_free : (answer : Result ℕ Refusal) → awaits_of (after_edit edit answer) ≡ None
      edit_free (Err why) = refl
      edit_free (Ok k) = by (is_quit edit)
        where
          by : (b : Bool) → awaits_of (if b then Ended Quit else Ready) ≡ None
          by true = refl
          by false = refl

      edit_not_last : (answer : Result ℕ Refusal) → after_edit edit answer ≡ Ended NoLine → ⊥
      edit_not_last (Err why) is = absurd cc
      edit_not_last (Ok k) is = by (is_quit edit) is
        where
          by : (b : Bool) → (if b then Ended Quit else Ready) ≡ Ended NoLine → ⊥
          by true is = cc
          by false is = cc

      edit_unquit : (answer : Result ℕ Refusal) (fault : Bool) → is_ended (cut_off fault (after_edit edit answer)) ≡ false → has_quit (edits_with edit answer edits) (length (edits_with edit answer edits)) ≡ false
      edit_unquit answer true open_still = absurd (false≢true (sym open_still))
      edit_unquit (Err why) false open_still = unquit
      edit_unquit (Ok k) false open_still = quit_with edits edit unquit ∙ by (is_quit edit) open_still
        where
          by : (b : Bool) → is_ended (if b then Ended Quit else Ready) ≡ false → b ≡ false
          by true ended = absurd (false≢true (sym ended))
          by false ended = refl

      -- an edit asks for no grant
      edit_paceless : paces_from s edits (Says (Do edit) ∷ []) ≡ []
      edit_paceless = by (accepts_after s edits edit) (is_quit edit)
        where
          by : (a q : Bool) → (if a then (if q then no_pace else no_pace) else no_pace) ≡ no_pace
          by true true = refl
          by true false = refl
          by false q = refl

      -- **it was published and answered**
      pub takes_edit : (new : ControlState C O) (answer : Result ℕ Refusal) (edits_now : List Edit) → IsAnswer (apply (edition s edits (length edits)) edit) answer → edits_now ≡ edits_with edit answer edits →
          Replies sink (edit_reply answer ∷ []) (after_edit edit answer) mid new → GoesOn source sink mid [] (edit_reply answer ∷ []) new → Takes new edits_now
      takes_edit new answer edits_now is edits_now_are r goes = subst (Takes new) (sym edits_now_are) (record {
        taken = Says (Do edit) ∷ [];
        given = edit_reply answer ∷ [];
        said = said_on lines (Says (Do edit) ∷ []) replies (edit_reply answer ∷ []) edits (edits_with edit answer edits) old new going was (record {
          goes = goes_on source sink (Says (Do edit) ∷ []) [] [] (edit_reply answer ∷ []) old mid new (gives given).1 goes;
          last = λ ended tells. absurd (cut_is_not_last r.fault (after_edit edit answer) (edit_not_last answer) (sym stands ∙ ended));
          unquit = λ open_still. edit_unquit answer r.fault (sym (ap is_ended stands) ∙ open_still);
          quits = ap desk.has_quit stands ∙ quit_cut r.fault (after_edit edit answer) ∙ edit_quits edits edit answer unquit;
        }) (subst (λ z. HasAnswered s (lines ++ Says (Do edit) ∷ []) (at s (edits_with edit answer edits) z (edit_reply answer ∷ replies))) (sym stands)
            (cut_short s (lines ++ Says (Do edit) ∷ []) (edits_with edit answer edits) (after_edit edit answer) (edit_reply answer ∷ replies) r.fault (edit_free answer)
            (takes_on s lines (Says (Do edit)) edits (edits_with edit answer edits) (after_edit edit answer) (edit_reply answer ∷ []) replies answered (λ more may. does_edit s edits unquit edit more answer is))));
        adds = adds_none (Says (Do edit)) (length (edits_with edit answer edits)) new.standing edit_paceless (ap awaits_of stands ∙ free_cut r.fault (after_edit edit answer) (edit_free answer));
        plain = plain_edit answer;
      })
        where
          stands : new.standing ≡ cut_off r.fault (after_edit edit answer)
          stands = ap (λ (c : ControlState C O). c.standing) r.state

  -- ---- what was awaited

  pub takes_answer : (lines : List Line) (replies : List Reply) (edits : List Edit) (old new : ControlState C O) (a : Awaited) (seen : Progress) → Said lines replies edits old → old.standing ≡ Awaits a →
      is_over_by seen a ≡ true → Answers s (length edits) a (reply_by seen a) → Replies sink (due seen old.standing) (after_due seen old.standing) old new → GoesOn source sink old [] (due seen old.standing) new →
      Said lines (reply_by seen a ∷ replies) edits new × (awaits_of new.standing ≡ None)
  takes_answer lines replies edits old new a seen was awaits over answers r goes = (
    subst (λ l. Said l (reply_by seen a ∷ replies) edits new) (append-nil lines) (said_on lines [] replies (reply_by seen a ∷ []) edits edits old new (ap is_ended awaits) was (record {
      goes = so.1;
      last = λ ended tells. absurd (cut_is_not_last so.0.fault Ready (λ is. absurd cc) (sym stands ∙ ended));
      unquit = λ open_still. was.unquit (ap is_ended awaits);
      quits = ap desk.has_quit stands ∙ quit_cut so.0.fault Ready ∙ sym (was.unquit (ap is_ended awaits));
    }) (subst (λ l. HasAnswered s l (at s edits new.standing (reply_by seen a ∷ replies))) (sym (append-nil lines))
        (subst (λ z. HasAnswered s lines (at s edits z (reply_by seen a ∷ replies))) (sym stands) (cut_short s lines edits Ready (reply_by seen a ∷ replies) so.0.fault refl
        (answered_on s lines edits a (reply_by seen a) replies answers (subst (λ z. HasAnswered s lines (at s edits z replies)) awaits was.answered)))))),
    ap awaits_of stands ∙ free_cut so.0.fault Ready refl,
  )
    where
      so : Replies sink (reply_by seen a ∷ []) Ready old new × GoesOn source sink old [] (reply_by seen a ∷ []) new
      so = subst (λ b. Replies sink (if b then reply_by seen a ∷ [] else []) (if b then Ready else Awaits a) old new × GoesOn source sink old [] (if b then reply_by seen a ∷ [] else []) new) over
          (subst (λ st. Replies sink (due seen st) (after_due seen st) old new × GoesOn source sink old [] (due seen st) new) awaits (r, goes))

      stands : new.standing ≡ cut_off so.0.fault Ready
      stands = ap (λ (c : ControlState C O). c.standing) so.0.state
