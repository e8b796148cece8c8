-- What control's calls do on a run: whether an edit may be published, and what it says of the core machine.
use Rattle.std.proofs.Common.{◌≡◌, inl, inr, List, [], ◌∷◌, ◌++◌, length, refl, sym, ap, subst, ◌∙◌, ℕ}
use Rattle.std.specs.Prelude.{Bool, true, false, not, Option, Some, None, Result, Ok, Err}
use Rattle.std.specs.List.{list_all}
use Rattle.std.specs.Option.{option_map_or}
use Rattle.std.proofs.lemmas.Bool.{and_parts, false≢true}
use Rattle.std.proofs.lemmas.List.Folds.{list_all-append}
use Rattle.std.proofs.lemmas.Option.{none-some}
use Rattle.ses_io.specs.Outside.{SourceOutside, SinkOutside}
use Rattle.session_model.specs.declared.session.Session.{Session}
use Rattle.session_model.specs.declared.edit.Edit.{Edit}
use Rattle.engine_model.specs.Edits.{has_quit}
use Rattle.engine_model.specs.Editions.{apply, edition}
use Rattle.engine_model.specs.Lines.{Line, Says}
use Rattle.engine_model.specs.Plain.{Do}
use Rattle.engine_model.specs.Replies.{Reply}
use Rattle.machine_model.specs.Core.{Core}
use Rattle.edit_resolve.specs.declared.reason.Refusal.{Refusal}
use Rattle.edition_log.specs.EditionState.{EditionState, IsEditionOf, IsOpen}
use Rattle.edition_log.specs.Steps.{Applies}
use Rattle.edition_log.proofs.PlayLaws.{editions_play_their_places}
use Rattle.control_desk.specs.declared.progress.Progress.{Progress}
use Rattle.control_desk.specs.GoesOn.{GoesOn}
use Rattle.control_desk.specs.Laws.{IsAnswer}
use Rattle.control_desk.specs.Seen.{edit_of, replies_to, wait_of}
use Rattle.control_desk.specs.State.{ControlState}
use Rattle.control_desk.specs.Standing.{Ready, awaiting, is_ended, is_ready}
use Rattle.control_desk.specs.Steps.{CarriesOut, Replies}
use Rattle.control_desk.proofs.ControlLemmas.{goes_on, ready_open, says_of}
use Rattle.control_desk.proofs.LawLemmas.{edits_are_said}
use Rattle.control_letter.specs.Letter.{DoesLetter, IsLetter, edits_with}
use Rattle.control_letter.proofs.LetterLemmas.{stands_quiet}
use Rattle.worker_pair.specs.declared.pair.Pair.{Pair}
use Rattle.worker_pair.specs.Never.{starts_recording}
use Rattle.worker_pair.specs.Steps as pair
use Rattle.worker_pair.specs.Tied.{IsTied}
use Rattle.engine_core.proofs.QuitLemmas.{quits_so}
use Rattle.engine_core.specs.declared.run.Run.{Run}
use Rattle.engine_core.specs.Carrying.{IsQuietScript, MayCarry, OnlyTheEdition, is_quiet}

-- where the pair has another edition and nothing else, so has the run
pub only_published : {V I W : Type 0} (r : Run V I W) (p : Pair V I W) → p ≡ record r.pair { edition = p.edition } → OnlyTheEdition r (record r { pair = p })
only_published r p same = ap (λ z. record r { pair = z }) same

-- ---- what is carried out

-- Control gave an edit: it stands ready, and this is what the line says.
pub record GivesEdit {C O : Type 0} (source : SourceOutside C) (sink : SinkOutside O) (old : ControlState C O) (edit : Edit) (new : ControlState C O) : Type 0 where
  pub stands : new.standing ≡ Ready
  pub line : Line
  pub is : edit_of line ≡ Some edit
  pub goes : GoesOn source sink old (line ∷ []) [] new

module _ {C O : Type 0} (source : SourceOutside C) (sink : SinkOutside O) where
  pub gives_edit : (seen : Progress) (old : ControlState C O) (edit : Edit) (new : ControlState C O) → CarriesOut source sink seen old (Some edit) new → GivesEdit source sink old edit new
  gives_edit seen old edit new (inl c) = record {
    stands = stands_quiet sink Ready (record old { lines = new.lines; script = new.script }) new
        (subst (λ l. Replies sink (replies_to seen l) (awaiting seen (wait_of seen l)) (record old { lines = new.lines; script = new.script }) new) said c.replies);
    line = c.line;
    is = sym c.is_given;
    goes = subst (λ l. GoesOn source sink old (c.line ∷ []) (replies_to seen l) new) said c.goes;
  }
    where
      said : c.line ≡ Says (Do edit)
      said = edits_are_said c.line edit (sym c.is_given)
  gives_edit seen old edit new (inr (inl last)) = absurd (none-some edit (sym last.ends.none))
  gives_edit seen old edit new (inr (inr failed)) = absurd (none-some edit (sym failed.none))

  -- control that is ready after its answer hadn't ended before
  pub had_not_ended : (replies : List Reply) (old mid : ControlState C O) → GoesOn source sink old [] replies mid → is_ready mid.standing ≡ true → is_ended old.standing ≡ false
  had_not_ended replies old mid goes ready = by (is_ended old.standing) refl
    where
      by : (b : Bool) → is_ended old.standing ≡ b → b ≡ false
      by false e = refl
      by true e = absurd (false≢true (sym (ready_open mid.standing ready) ∙ ap (λ (c : ControlState C O). is_ended c.standing) (goes.over e).2 ∙ e))

  -- ---- nothing is recorded by lines that don't say so

  quiet_by : (xs : List Line) (us : List Reply) (a b : ControlState C O) → GoesOn source sink a xs us b → (script : Option (List Line)) → a.script ≡ script → IsQuietScript script →
      (list_all is_quiet xs ≡ true) × IsQuietScript b.script
  quiet_by xs us a b goes None is quiet = absurd quiet
  quiet_by xs us a b goes (Some before) is quiet = let s = says_of source sink xs before us a b is goes in
      let both = and_parts (list_all is_quiet xs) (list_all is_quiet s.0) (sym (list_all-append is_quiet xs s.0) ∙ ap (list_all is_quiet) (sym s.2) ∙ quiet) in
      (both.0, subst IsQuietScript (sym s.1) both.1)

  pub quiet_on : (xs : List Line) (us : List Reply) (a b : ControlState C O) → GoesOn source sink a xs us b → IsQuietScript a.script → (list_all is_quiet xs ≡ true) × IsQuietScript b.script
  quiet_on xs us a b goes quiet = quiet_by xs us a b goes a.script refl quiet

  -- an edit of such a script starts no recording
  pub starts_none : (records : Bool) (edits : List Edit) (replies : List Reply) (old mid new : ControlState C O) (edit : Edit) → MayCarry records edits old → GoesOn source sink old [] replies mid →
      GivesEdit source sink mid edit new → records ≡ false → starts_recording edit ≡ false
  starts_none records edits replies old mid new edit may front given none = by (starts_recording edit) (sym one_line)
    where
      whole : GoesOn source sink old (given.line ∷ []) (replies ++ []) new
      whole = goes_on source sink [] (given.line ∷ []) replies [] old mid new front given.goes

      one_line : true ≡ not (starts_recording edit)
      one_line = sym (and_parts (is_quiet given.line) true (quiet_on (given.line ∷ []) (replies ++ []) old new whole (may.quiet none)).0).0
          ∙ ap (λ o. option_map_or (λ e. not (starts_recording e)) o true) given.is

      by : (b : Bool) → not b ≡ true → b ≡ false
      by true e = absurd (false≢true e)
      by false e = refl

-- ---- an edit is published

module _ {V I W : Type 0} (s : Session) where
  -- a state that is tied has these edits
  pub tied_with : (c : Core) (p : Pair V I W) → IsTied s c p → IsTied s (record c { edits = p.edition.edits }) p
  tied_with c p tied = subst (λ l. IsTied s (record c { edits = l }) p) tied.rings.edits tied

  pub published_tied : (old new : Pair V I W) (edit : Edit) (answer : Result ℕ Refusal) → pair.PublishesAsMachine s old edit answer new → (c : Core) → IsTied s c old →
      IsTied s (record c { edits = new.edition.edits }) new
  published_tied old new edit (Ok number) publishes c tied = let now = publishes c tied in subst (λ l. IsTied s (record c { edits = l }) new) now.rings.edits now
  published_tied old new edit (Err why) publishes c tied = tied_with c new (subst (IsTied s c) (sym publishes) tied)

-- ---- what may be carried out next

pub may_carry_on : {C O : Type 0} (source : SourceOutside C) (sink : SinkOutside O) (s : Session) (records : Bool) (seen : Progress) (edits edits_now : List Edit) (old new : ControlState C O) →
    MayCarry records edits old → IsLetter source sink s seen edits old edits_now new → DoesLetter source sink s seen edits old edits_now new → MayCarry records edits_now new
may_carry_on source sink s records seen edits edits_now old new may letter does = record {
  unquit = does.unquit;
  quits = quits_so source sink s seen edits edits_now old new may.quits letter;
  quiet = λ none. (quiet_on source sink does.taken _ old new does.goes (may.quiet none)).1;
}
