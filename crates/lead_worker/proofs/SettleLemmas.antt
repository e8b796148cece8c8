-- What a line awaits, answered by what control hears.
use Rattle.std.proofs.Common.{◌≡◌, inl, inr, ℕ, List, [], ◌∷◌, ◌++◌, length, refl, sym, ap, subst, ◌∙◌, arith}
use Rattle.std.specs.Prelude.{◌⊎◌, Bool, true, false, ◌&&◌, ◌||◌, ◌==◌, nat_le, nat_lt, if◌then◌else◌, map, Option, Some, None}
use Rattle.std.specs.List.{list_all, list_any}
use Rattle.std.proofs.lemmas.Bool.{false≢true, eq-eqb, le-leb, leb-false, lt-ltb, or_parts}
use Rattle.std.proofs.lemmas.List.{map-append}
use Rattle.ses_io.specs.Outside.{SourceOutside, SinkOutside}
use Rattle.session_model.specs.declared.session.Session.{Session}
use Rattle.session_model.specs.declared.edit.Edit.{Edit}
use Rattle.engine_model.specs.Due.{Ack}
use Rattle.engine_model.specs.Lines.{Line}
use Rattle.engine_model.specs.Replies.{Reply, Done, Synced, NotSynced}
use Rattle.engine_model.specs.Waited.{Pace, Pause, Sought, paces_from}
use Rattle.machine_model.specs.Control.{Awaited, Entries, SettledIn}
use Rattle.piece_item.specs.declared.ack.Ack as ring
use Rattle.piece_item.specs.Views.{ack_of}
use Rattle.control_desk.specs.declared.progress.Progress.{Progress}
use Rattle.control_desk.specs.GoesOn.{GoesOn}
use Rattle.control_desk.specs.Seen.{is_over_by, reply_by}
use Rattle.control_desk.specs.State.{ControlState}
use Rattle.control_desk.specs.Standing as desk
use Rattle.control_desk.specs.Standing.{Awaits, Ended, Ready, after_due, awaits_of, due}
use Rattle.control_desk.specs.Steps.{Replies}
use Rattle.lead_worker.specs.declared.link.ProcessLink.{ProcessLink}
use Rattle.lead_worker.specs.Heard.{HasBest, acks_in, has_settled, is_heard}
use Rattle.lead_worker.specs.Leads.{Adds, AreHeard, HasSaid, IsSettled, after_pause, after_sync}
use Rattle.lead_worker.specs.Links.{GoesOnLink, IsPaced}
use Rattle.lead_worker.proofs.AnsweredLemmas.{Answers}
use Rattle.lead_worker.proofs.HearLemmas.{any_there, settled_by_best, settled_by_none}
use Rattle.lead_worker.proofs.HeardLemmas.{heard_stays}
use Rattle.lead_worker.proofs.LineLemmas.{takes_answer}

-- where something is awaited control stands so
awaits_is : (st : desk.Standing) (a : Awaited) → awaits_of st ≡ Some a → st ≡ Awaits a
awaits_is Ready a is = absurd cc
awaits_is (Awaits b) a is = cc
awaits_is (Ended why) a is = absurd cc

-- ---- acknowledgements

any_mapped : (p : Ack → Bool) (acks : List ring.Ack) → list_any p (map ack_of acks) ≡ list_any (λ a. p (ack_of a)) acks
any_mapped p [] = refl
any_mapped p (a ∷ acks) = ap (λ b. p (ack_of a) || b) (any_mapped p acks)

none_settled : (k : ℕ) (acks : List ring.Ack) → has_settled k acks ≡ false → list_all (λ (a : Ack). nat_lt a.settled k) (map ack_of acks) ≡ true
none_settled k [] none = refl
none_settled k (a ∷ acks) none = let parts = or_parts (nat_le k a.settled) (has_settled k acks) none in
    ap (λ b. b && list_all (λ (x : Ack). nat_lt x.settled k) (map ack_of acks)) (lt-ltb a.settled k (leb-false k a.settled parts.0)) ∙ none_settled k acks parts.1

-- what was heard stays true while more is
pub stays_heard : (old new : ProcessLink) (replies : List Reply) → GoesOnLink old new → AreHeard old replies → AreHeard new replies
stays_heard old new replies goes heard = let more = goes.acks.received in
    heard_stays (acks_in old.hearing) (acks_in new.hearing) old.hearing.ended new.hearing.ended (map ack_of more.0, sym (map-append ack_of old.hearing.received more.0) ∙ ap (map ack_of) more.1)
    (λ ended. let so = goes.acks.ended ended in (so.0, ap (map ack_of) so.1)) replies heard

-- ---- a sync is over

module _ (edits k : ℕ) (acks : List ring.Ack) (closed : Bool) where
  abbrev Found : Type 0
  Found = (closed ≡ true) ⊎ (has_settled k acks ≡ true)

  sync_over : (best : Option ring.Ack) → HasBest acks best → Found → is_over_by (after_sync edits best closed) (SettledIn k) ≡ true
  sync_over None none (inl shut) = shut
  sync_over None none (inr settled) = absurd (false≢true (sym (settled_by_none k acks none) ∙ settled))
  sync_over (Some best) is (inl shut) = by (nat_le k best.settled)
    where
      by : (b : Bool) → (b || closed) ≡ true
      by true = refl
      by false = shut
  sync_over (Some best) is (inr settled) = ap (λ b. b || closed) (sym (settled_by_best k acks best is) ∙ settled)

  sync_answers : (s : Session) (best : Option ring.Ack) → Answers s edits (SettledIn k) (reply_by (after_sync edits best closed) (SettledIn k))
  sync_answers s None = inr refl
  sync_answers s (Some best) = by (nat_le k best.settled)
    where
      by : (b : Bool) → Answers s edits (SettledIn k) (if b then Synced k best.cycle else NotSynced k)
      by true = inl (best.cycle, refl)
      by false = inr refl

  -- it is closed where none has it settled
  shut_by : Found → has_settled k acks ≡ false → closed ≡ true
  shut_by (inl shut) none = shut
  shut_by (inr settled) none = absurd (false≢true (sym none ∙ settled))

  not_synced : Found → has_settled k acks ≡ false → is_heard (map ack_of acks) closed (NotSynced k) ≡ true
  not_synced found none = ap (λ b. b && list_all (λ (a : Ack). nat_lt a.settled k) (map ack_of acks)) (shut_by found none) ∙ none_settled k acks none

  sync_heard : (best : Option ring.Ack) → HasBest acks best → Found → is_heard (map ack_of acks) closed (reply_by (after_sync edits best closed) (SettledIn k)) ≡ true
  sync_heard None none found = not_synced found (settled_by_none k acks none)
  sync_heard (Some best) is found = by (nat_le k best.settled) refl
    where
      -- the best one is there, and names its entry
      named : nat_le k best.settled ≡ true → is_heard (map ack_of acks) closed (Synced k best.cycle) ≡ true
      named e = any_mapped (λ a. (a.cycle == best.cycle) && nat_le k a.settled) acks ∙ ap (list_any (λ (a : ring.Ack). (a.cycle == best.cycle) && nat_le k a.settled)) is.stands
          ∙ any_there (λ (a : ring.Ack). (a.cycle == best.cycle) && nat_le k a.settled) is.before is.after best (ap (λ b. b && nat_le k best.settled) (eq-eqb best.cycle best.cycle refl) ∙ e)

      by : (b : Bool) → nat_le k best.settled ≡ b → is_heard (map ack_of acks) closed (if b then Synced k best.cycle else NotSynced k) ≡ true
      by true e = named e
      by false e = not_synced found (settled_by_best k acks best is ∙ e)

-- ---- what is answered

module _ {C O : Type 0} (source : SourceOutside C) (sink : SinkOutside O) (s : Session) (from : ControlState C O) (lines : List Line) (replies : List Reply) (edits : List Edit) (before : List Pace) (edition : ℕ)
    (old new : ControlState C O) (link link_now : ProcessLink) (is : edition ≡ length edits) (was : HasSaid source sink s from lines replies edits old)
    (adds : Adds edition (awaits_of old.standing) before (paces_from s [] lines)) (paced : IsPaced before link) (heard : AreHeard link replies) where
  abbrev pub Settled : ProcessLink → ControlState C O → Type 0
  Settled at control = IsSettled source sink s from lines replies edits control at

  pub settled_none : awaits_of old.standing ≡ None → Settled link old
  settled_none none = record {
    given = [];
    said = was;
    free = none;
    paced = subst (λ ps. IsPaced ps link) (sym (subst (λ a. Adds edition a before (paces_from s [] lines)) none adds)) paced;
    heard = heard;
  }

  module _ (seen : Progress) (goes : GoesOnLink link link_now) (r : Replies sink (due seen old.standing) (after_due seen old.standing) old new) (on : GoesOn source sink old [] (due seen old.standing) new) where
    pub settled_pause : (n : ℕ) → awaits_of old.standing ≡ Some (Entries n) → seen ≡ after_pause edition n → IsPaced (before ++ Pause n edition ∷ []) link_now → Settled link_now new
    settled_pause n awaits seen_is asked = let stands = awaits_is old.standing (Entries n) awaits in
        let over = subst (λ z. is_over_by z (Entries n) ≡ true) (sym seen_is) (ap (λ b. b || false) (le-leb n n (omega arith))) in
        let so = takes_answer source sink s from lines replies edits old new (Entries n) seen was stands over refl r on in record {
          given = Done ∷ [];
          said = so.0;
          free = so.1;
          paced = subst (λ ps. IsPaced ps link_now) (sym (subst (λ a. Adds edition a before (paces_from s [] lines)) awaits adds)) asked;
          heard = stays_heard link link_now replies goes heard;
        }

    pub settled_sync : (k : ℕ) (best : Option ring.Ack) (closed : Bool) → awaits_of old.standing ≡ Some (SettledIn k) → seen ≡ after_sync edition best closed → closed ≡ link_now.hearing.ended → HasBest link_now.hearing.received best →
        (closed ≡ true) ⊎ (has_settled edition link_now.hearing.received ≡ true) → IsPaced (before ++ Sought edition ∷ []) link_now → Settled link_now new
    settled_sync k best closed awaits seen_is closed_is has found asked = record {
      given = reply_by seen (SettledIn k) ∷ [];
      said = so.0;
      free = so.1;
      paced = subst (λ ps. IsPaced ps link_now) (sym added.1) asked;
      heard = ap (λ b. b && list_all (is_heard (acks_in link_now.hearing) link_now.hearing.ended) replies) said_is ∙ stays_heard link link_now replies goes heard;
    }
      where
        added : (k ≡ edition) × (paces_from s [] lines ≡ before ++ Sought edition ∷ [])
        added = subst (λ a. Adds edition a before (paces_from s [] lines)) awaits adds

        found_k : (closed ≡ true) ⊎ (has_settled k link_now.hearing.received ≡ true)
        found_k = subst (λ n. (closed ≡ true) ⊎ (has_settled n link_now.hearing.received ≡ true)) (sym added.0) found

        answers : Answers s (length edits) (SettledIn k) (reply_by seen (SettledIn k))
        answers = subst (λ n. Answers s n (SettledIn k) (reply_by seen (SettledIn k))) is (subst (λ z. Answers s edition (SettledIn k) (reply_by z (SettledIn k))) (sym seen_is)
            (sync_answers edition k link_now.hearing.received closed s best))

        so : HasSaid source sink s from lines (reply_by seen (SettledIn k) ∷ replies) edits new × (awaits_of new.standing ≡ None)
        so = takes_answer source sink s from lines replies edits old new (SettledIn k) seen was (awaits_is old.standing (SettledIn k) awaits)
            (subst (λ z. is_over_by z (SettledIn k) ≡ true) (sym seen_is) (sync_over edition k link_now.hearing.received closed best has found_k)) answers r on

        said_is : is_heard (acks_in link_now.hearing) link_now.hearing.ended (reply_by seen (SettledIn k)) ≡ true
        said_is = subst (λ z. is_heard (acks_in link_now.hearing) link_now.hearing.ended (reply_by z (SettledIn k)) ≡ true) (sym seen_is)
            (subst (λ e. is_heard (acks_in link_now.hearing) e (reply_by (after_sync edition best closed) (SettledIn k)) ≡ true) closed_is
            (sync_heard edition k link_now.hearing.received closed best has found_k))
