-- What control's calls come to, case by case.
use Rattle.std.proofs.Common.{◌≡◌, ◌≢◌, inl, inr, ℕ, ◌+◌, List, [], ◌∷◌, ◌++◌, length, refl, sym, ap, subst, arith, ◌∙◌}
use Rattle.std.specs.Prelude.{◌⊎◌, Bool, true, false, if◌then◌else◌, reverse, Option, Some, None}
use Rattle.std.proofs.lemmas.List.{reverse-append}
use Rattle.ses_io.specs.Outside.{SourceOutside, SinkOutside}
use Rattle.session_model.specs.declared.session.Session.{Session}
use Rattle.session_model.specs.declared.edit.Edit.{Edit}
use Rattle.engine_model.specs.Edits.{has_quit}
use Rattle.engine_model.specs.Lines.{Line, Nothing, Says, Unread}
use Rattle.engine_model.specs.Plain.{Do, Wait, Sync}
use Rattle.engine_model.specs.Replies.{Reply}
use Rattle.machine_model.specs.Core.{Core}
use Rattle.machine_model.specs.Control.{Awaited, Entries, SettledIn}
use Rattle.control_desk.specs.declared.progress.Progress.{Progress}
use Rattle.control_desk.specs.declared.standing.End.TheVariants.{NoLine}
use Rattle.control_desk.specs.GoesOn.{GoesOn}
use Rattle.control_desk.specs.Seen.{IsSeenOf, is_over_by, replies_by, replies_to, reply_by}
use Rattle.control_desk.specs.State.{ControlState}
use Rattle.control_desk.specs.Standing.{Ended, Standing, cut_off, is_ended}
use Rattle.control_desk.specs.Steps.{PutsOut, Replies, heard}
use Rattle.serial_laws.specs.Leads.{Carries, StaysPut}
use Rattle.control_letter.specs.Letter.{DoesLetter}
use Rattle.control_letter.specs.Shown.{standing_by}

-- ---- replies, of which a step gives one or none

-- where none goes out none fails
pub no_fault : {O : Type 0} (sink : SinkOutside O) (script : Option (List Line)) (old new : O) (fault : Bool) → PutsOut sink (heard script []) old new fault → fault ≡ false
no_fault sink None old new fault out = out.1
no_fault sink (Some lines) old new fault out = out.1

-- so that control stands as it should
pub stands_quiet : {C O : Type 0} (sink : SinkOutside O) (st : Standing) (old new : ControlState C O) → Replies sink [] st old new → new.standing ≡ st
stands_quiet sink st old new r = ap (λ z. z.standing) r.state ∙ ap (λ b. cut_off b st) (no_fault sink old.script old.out new.out r.fault r.out)

-- one or none stand the same from behind
pub one_way : (replies : List Reply) → replies ≡ [] ⊎ ((reply : Reply) × (replies ≡ reply ∷ [])) → reverse replies ≡ replies
one_way replies (inl none) = ap reverse none ∙ sym none
one_way replies (inr one) = ap reverse one.1 ∙ sym one.1

few_by : (seen : Progress) (awaited : Awaited) → replies_by seen awaited ≡ [] ⊎ ((reply : Reply) × (replies_by seen awaited ≡ reply ∷ []))
few_by seen awaited = by (is_over_by seen awaited)
  where
    by : (b : Bool) → (if b then reply_by seen awaited ∷ [] else []) ≡ [] ⊎ ((reply : Reply) × ((if b then reply_by seen awaited ∷ [] else []) ≡ reply ∷ []))
    by true = inr (reply_by seen awaited, refl)
    by false = inl refl

pub few_to : (seen : Progress) (line : Line) → replies_to seen line ≡ [] ⊎ ((reply : Reply) × (replies_to seen line ≡ reply ∷ []))
few_to seen Nothing = inl refl
few_to seen (Says (Do edit)) = inl refl
few_to seen (Says (Wait n)) = few_by seen (Entries (seen.entries + n))
few_to seen (Says Sync) = few_by seen (SettledIn seen.edits)
few_to seen (Unread why) = inr (_, refl)

-- the front's and a line's, as they go out
pub in_order : (front later : List Reply) → reverse front ≡ front → reverse later ≡ later → front ++ later ≡ reverse (later ++ front)
in_order front later one two = sym (reverse-append later front ∙ (λ i. one i ++ two i))

module _ {C O : Type 0} (source : SourceOutside C) (sink : SinkOutside O) (s : Session) (seen : Progress) (edits edits_now : List Edit) (old new : ControlState C O) where
  abbrev pub Does : Type 0
  Does = DoesLetter source sink s seen edits old edits_now new

  -- as control stands, and by the edits that there are
  pub carries_by : (st now : Standing) (edits_so : List Edit) → old.standing ≡ st → new.standing ≡ now → edits_now ≡ edits_so → (k : ℕ) (c : Core) (replies given : List Reply) (taken : List Line) →
      Carries s k (standing_by c st replies) taken (standing_by (record c { edits = edits_so }) now (given ++ replies)) →
      Carries s k (standing_by c old.standing replies) taken (standing_by (record c { edits = edits_now }) new.standing (given ++ replies))
  carries_by st now edits_so was is so k c replies given taken h =
      subst (λ z. Carries s k (standing_by c z replies) taken (standing_by (record c { edits = edits_now }) new.standing (given ++ replies))) (sym was)
      (subst (λ z. Carries s k (standing_by c st replies) taken (standing_by (record c { edits = edits_now }) z (given ++ replies))) (sym is)
      (subst (λ z. Carries s k (standing_by c st replies) taken (standing_by (record c { edits = z }) now (given ++ replies))) (sym so) h))

  -- where nothing happens but, perhaps, that no line follows
  pub quiet : (st now : Standing) → old.standing ≡ st → new.standing ≡ now → edits_now ≡ edits → (is_ended st ≡ false → now ≢ Ended NoLine) → (is_ended now ≡ false → has_quit edits (length edits) ≡ false) → GoesOn source sink old [] [] new →
      ((k : ℕ) (c : Core) (replies : List Reply) → IsSeenOf k c seen → Carries s k (standing_by c st replies) [] (standing_by c now replies)) →
      ((c : Core) (replies : List Reply) → StaysPut (standing_by c st replies) (standing_by c now replies)) → Does
  quiet st now was is so not_last unquit goes carries stays = record {
    taken = [];
    given = [];
    one = omega arith;
    last = λ reading ended tells. absurd (not_last (ap is_ended (sym was) ∙ reading) (sym is ∙ ended));
    goes = goes;
    carries = λ k c replies is_seen same. carries_by st now c.edits was is (so ∙ sym same) k c replies [] [] (carries k c replies is_seen);
    due_or_not = λ k c replies is_seen same. inr (record {
      none_taken = refl;
      none_given = refl;
      same_edits = so ∙ sym same;
      stays = subst (λ z. StaysPut (standing_by c z replies) (standing_by (record c { edits = edits_now }) new.standing replies)) (sym was)
          (subst (λ z. StaysPut (standing_by c st replies) (standing_by (record c { edits = edits_now }) z replies)) (sym is)
          (subst (λ z. StaysPut (standing_by c st replies) (standing_by (record c { edits = z }) now replies)) (sym (so ∙ sym same)) (stays c replies)));
    });
    unquit = λ reads. ap (λ l. has_quit l (length l)) so ∙ unquit (ap is_ended (sym is) ∙ reads);
  }
