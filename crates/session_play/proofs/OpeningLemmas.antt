-- What keeps a run from being played is told exactly.
use Rattle.std.proofs.Common.{◌≡◌, inl, inr, refl, sym, ap, subst, ◌∙◌}
use Rattle.std.specs.Prelude.{◌⊎◌, true, false, Option, Some, None, is_some, is_none, Result, Ok, Err}
use Rattle.std.specs.Option.{option_map}
use Rattle.std.proofs.lemmas.Bool.{true≢false}
use Rattle.sound_model.specs.Wav.{Head}
use Rattle.ses_io.specs.Outside.{MediaOutside, SourceOutside}
use Rattle.wav_codec.specs.declared.info.WavInfo.{WavInfo}
use Rattle.session_model.specs.declared.session.Session.{Session as Opening}
use Rattle.cycle_journal.specs.declared.status.Status.{Status}
use Rattle.cycle_journal.specs.declared.status.Status.TheVariants.{Session, SourceFile, ReadFault, InputFault, BadInput, NoMemory, TakesExist}
use Rattle.input_head.specs.Input.{InputWrong, input_head, wrong_of}
use Rattle.run_world.specs.declared.opened.Script.{Script}
use Rattle.session_opening.specs.declared.loading.Loaded.{Loaded}
use Rattle.session_opening.specs.declared.unopened.Unopened.{Unopened}
use Rattle.session_opening.specs.declared.unopened.Unopened.TheVariants as unopened
use Rattle.session_opening.specs.Answers.{Caused, Refuses}
use Rattle.session_opening.specs.Plan.{Open, Wrong, SessionRefused}
use Rattle.session_opening.specs.Status.{IsUnread, Says, status_of}
use Rattle.session_play.specs.Loading.{IsHeard, IsLoadedFor, IsRefused, IsUnheard, LoadCause, SaysUnheard}
use Rattle.session_play.specs.Opening.{IsTold, SaysInput, TakesAreThere, TellsWrong, opens}
use Rattle.session_play.specs.Request.{Request, records}

-- ---- what isn't opened

module _ {V : Type 0} (media : MediaOutside V) (old : V) (r : Request) where
  pub refused_by : (why : Unopened) → (media.tells → Refuses (opens (media.files old) r) why) → IsRefused media old r (status_of why)
  refused_by (unopened.Session refusal) told = told
  refused_by (unopened.Source name why) told = told
  refused_by unopened.ReadFault told = tt
  refused_by unopened.NoMemory told = tt

pub cause_by : {V : Type 0} (A B : Type 0) (media : MediaOutside V) (old new : V) (why : Unopened) → Caused {A = A} media old new (Err why) → LoadCause {A = B} (media.read_faults old) (media.read_faults new) (Err (status_of why))
cause_by A B media old new (unopened.Session refusal) cause = cause
cause_by A B media old new (unopened.Source name why) cause = cause
cause_by A B media old new unopened.ReadFault cause = cause
cause_by A B media old new unopened.NoMemory cause = cause

-- a run without a script records
pub records_by : (x : Option Script) → is_some x ≡ false → is_none (option_map (λ s. s.from) x) ≡ true
records_by None e = refl
records_by (Some s) e = absurd (true≢false e)

-- ---- what is told

-- a status that says nothing of what was wrong before
abbrev pub IsOfEnd : Status → Type 0
IsOfEnd (Session why) = ⊥
IsOfEnd (SourceFile name why) = ⊥
IsOfEnd (TakesExist name) = ⊥
IsOfEnd (BadInput why) = ⊥
IsOfEnd _ = Unit {0}

pub same_session : (plan : Open Opening) (s p : Opening) → plan ≡ Ok s → plan ≡ Ok p → s ≡ p
same_session plan s p one two = let e : Ok s ≡ Ok p = sym one ∙ two in cc

same_wrong : (given : Result (Option Head) InputWrong) (v w : InputWrong) → given ≡ Err v → given ≡ Err w → v ≡ w
same_wrong given v w one two = let e : Err v ≡ Err w = sym one ∙ two in cc

opened_is_not_refused : (plan : Open Opening) (s : Opening) (w : Wrong) → plan ≡ Ok s → plan ≡ Err w → ⊥
opened_is_not_refused plan s w one two = let e : Ok s ≡ Err w = sym one ∙ two in cc

says_why : (plan : Open Opening) (v w : Wrong) (s : Status) → plan ≡ Err v → plan ≡ Err w → Says v s → Says w s
says_why plan v w s one two says = let e : Err v ≡ Err w = sym one ∙ two in let p : v ≡ w = cc in subst (λ x. Says x s) p says

module _ {V I : Type 0} (media : MediaOutside V) (inputs : SourceOutside I) (old : V) (heard : I) (r : Request) where
  abbrev plan : Open Opening
  plan = opens (media.files old) r

  wrong_by_refusal : (s : Status) → IsRefused media old r s → TellsWrong media inputs (media.files old) heard r s
  wrong_by_refusal (Session why) is = record {
    refused = λ t w e. inl (says_why plan (SessionRefused why) w (Session why) (is t) e refl);
    taken = λ t p e rec there. absurd (opened_is_not_refused plan p (SessionRefused why) e (is t));
    misheard = λ t ti p e fresh w q. absurd (opened_is_not_refused plan p (SessionRefused why) e (is t));
  }
  wrong_by_refusal (SourceFile name why) is = record {
    refused = λ t w e. inl (says_why plan _ w (SourceFile name why) (is t) e (why, refl, refl));
    taken = λ t p e rec there. absurd (opened_is_not_refused plan p _ e (is t));
    misheard = λ t ti p e fresh w q. absurd (opened_is_not_refused plan p _ e (is t));
  }
  wrong_by_refusal (TakesExist name) is = record {
    refused = λ t w e. absurd (opened_is_not_refused plan is.session w (is.of_file t) e);
    taken = λ t p e rec there. inl (ap (λ n. TakesExist n) (is.named ∙ ap (λ s. s.takes) (same_session plan is.session p (is.of_file t) e)));
    misheard = λ t ti p e fresh w q. absurd (fresh is.records_it (subst (TakesAreThere (media.files old)) (same_session plan is.session p (is.of_file t) e) (is.there t)));
  }
  wrong_by_refusal ReadFault is = record { refused = λ t w e. inr (inl refl); taken = λ t p e rec there. inr (inl refl); misheard = λ t ti p e fresh w q. inr (inr (inl refl)) }
  wrong_by_refusal NoMemory is = record { refused = λ t w e. inr (inr refl); taken = λ t p e rec there. inr (inr refl); misheard = λ t ti p e fresh w q. inr (inr (inr refl)) }
  wrong_by_refusal _ is = absurd is

  -- the session isn't opened, or takes are in the way
  pub told_by_refusal : (s : Status) → IsRefused media old r s → IsTold media inputs (media.files old) heard r s
  told_by_refusal s is = record {
    wrong = wrong_by_refusal s is;
    only = record {
      session = λ t why q. (subst (IsRefused media old r) q is) t;
      source = λ t name why q. (subst (IsRefused media old r) q is) t;
      takes = λ name q. subst (IsRefused media old r) q is;
      input = λ why q. absurd (subst (IsRefused media old r) q is);
    };
  }

  -- memory ran out
  pub told_by_memory : IsTold media inputs (media.files old) heard r NoMemory
  told_by_memory = told_by_refusal NoMemory tt

  module _ (o : Loaded) (loaded : IsLoadedFor media old r o) where
    not_refused : media.tells → (w : Wrong) → plan ≡ Err w → ⊥
    not_refused t w e = opened_is_not_refused plan o.edition.session w (loaded.of_file t) e

    not_taken : media.tells → (p : Opening) → plan ≡ Ok p → records r ≡ true → TakesAreThere (media.files old) p → ⊥
    not_taken t p e rec there = loaded.fresh t rec (subst (TakesAreThere (media.files old)) (same_session plan p o.edition.session e (loaded.of_file t)) there)

    misheard_by : (s : Status) → SaysUnheard inputs o.edition.session heard s → inputs.tells → (w : InputWrong) → input_head o.edition.session (inputs.left heard) ≡ Err w → SaysInput w s ⊎ ((s ≡ InputFault) ⊎ IsUnread s)
    misheard_by (BadInput why) says t w q = inl (why, refl, same_wrong (input_head o.edition.session (inputs.left heard)) (wrong_of why) w (says t) q)
    misheard_by InputFault says t w q = inr (inl refl)
    misheard_by _ says t w q = absurd says

    -- its input isn't played with
    pub told_by_unheard : (new : I) (s : Status) → IsUnheard inputs o.edition.session heard new s → IsTold media inputs (media.files old) heard r s
    told_by_unheard new s u = record {
      wrong = record {
        refused = λ t w e. absurd (not_refused t w e);
        taken = λ t p e rec there. absurd (not_taken t p e rec there);
        misheard = λ t ti p e fresh w q. misheard_by s u.says ti w (subst (λ x. input_head x (inputs.left heard) ≡ Err w) (same_session plan p o.edition.session e (loaded.of_file t)) q);
      };
      only = record {
        session = λ t why q. absurd (subst (SaysUnheard inputs o.edition.session heard) q u.says);
        source = λ t name why q. absurd (subst (SaysUnheard inputs o.edition.session heard) q u.says);
        takes = λ name q. absurd (subst (SaysUnheard inputs o.edition.session heard) q u.says);
        input = λ why q. record { session = o.edition.session; of_file = loaded.of_file; fresh = loaded.fresh; wrong = subst (SaysUnheard inputs o.edition.session heard) q u.says };
      };
    }

    -- it is played
    pub told_by_play : (new : I) (form : Option WavInfo) → IsHeard inputs o.edition.session heard new form → (s : Status) → IsOfEnd s → IsTold media inputs (media.files old) heard r s
    told_by_play new form h s of = record {
      wrong = record {
        refused = λ t w e. absurd (not_refused t w e);
        taken = λ t p e rec there. absurd (not_taken t p e rec there);
        misheard = λ t ti p e fresh w q. absurd (heard_is_not_refused w (sym (h.told ti) ∙ subst (λ x. input_head x (inputs.left heard) ≡ Err w) (same_session plan p o.edition.session e (loaded.of_file t)) q));
      };
      only = record {
        session = λ t why q. absurd (subst IsOfEnd q of);
        source = λ t name why q. absurd (subst IsOfEnd q of);
        takes = λ name q. absurd (subst IsOfEnd q of);
        input = λ why q. absurd (subst IsOfEnd q of);
      };
    } where
      heard_is_not_refused : {A : Type 0} {x : A} (w : InputWrong) → Ok x ≡ Err w → ⊥
      heard_is_not_refused w e = cc
