-- What a check says as an answer of verify, and which answers there are where all agree.
use Rattle.std.proofs.Common.{◌≡◌, inl, inr, ℕ, List, [], refl, sym, subst}
use Rattle.std.specs.Prelude.{All, Result, Ok, Err}
use Rattle.std.proofs.lemmas.List.Elements.{All-nil}
use Rattle.std.proofs.lemmas.Bool.{true≢false}
use Rattle.sound_model.specs.Regions.{Sounds}
use Rattle.ses_io.specs.Files.{Files, content}
use Rattle.session_model.specs.declared.session.Session.{Session}
use Rattle.session_model.specs.Valid.{IsValid}
use Rattle.audio_source.specs.Opened.{IsOpened, OpenedSource}
use Rattle.audio_source.specs.Lines.{HeldLine, HoldsAsRead, IsAsRead, SourcesState}
use Rattle.audio_source.specs.Told.{source_sound}
use Rattle.command_words.specs.Words.{Verify}
use Rattle.cycle_journal.specs.declared.status.Status.{Status}
use Rattle.cycle_journal.specs.declared.status.Status.TheVariants as status
use Rattle.heard_blocks.specs.declared.fault.HeardFault.{HeardFault}
use Rattle.session_opening.specs.Answers.{Refuses}
use Rattle.session_opening.specs.declared.unopened.Unopened.{Unopened}
use Rattle.session_opening.specs.declared.unopened.Unopened.TheVariants as unopened
use Rattle.session_opening.specs.Laws.{OpenIsValid}
use Rattle.session_opening.specs.Plan.{Open, session_plan}
use Rattle.session_opening.specs.Status.{IsUnread, status_of}
use Rattle.session_opening.specs.Sounds.{sounds_in}
use Rattle.session_opening.proofs.SoundLemmas.{sounds_are}
use Rattle.report_check.specs.declared.unverified.Unverified.{Unverified}
use Rattle.report_check.specs.declared.unverified.Unverified.TheVariants.{BadReport, Refuted, Unread}
use Rattle.report_check.specs.Laws.{AllAgree, IsVerifiedOrUnread, WhatAgreesIsVerified}
use Rattle.report_check.specs.Verdict.{Verified}
use Rattle.session_verify.specs.Verified.{IsAnswerOn, IsVerdict}
use Rattle.session_verify.specs.Laws.{AgreesWith, WhatAgreesIsAnswered}

-- ---- a session that isn't opened

pub wrong_answer : (given : Open Session) (files : Files) (v : Verify) (why : Unopened) → Refuses given why → IsAnswerOn given files v (Err (status_of why))
wrong_answer given files v (unopened.Session refusal) is = subst (λ p. IsAnswerOn p files v (Err (status.Session refusal))) (sym is) (inl refl)
wrong_answer given files v (unopened.Source name why) is = subst (λ p. IsAnswerOn p files v (Err (status.SourceFile name why))) (sym is) (inl (why, refl, refl))
wrong_answer (Ok s) files v unopened.ReadFault is = tt
wrong_answer (Err w) files v unopened.ReadFault is = inr (inl refl)
wrong_answer (Ok s) files v unopened.NoMemory is = tt
wrong_answer (Err w) files v unopened.NoMemory is = inr (inr refl)

-- ---- one that is

-- the sounds of the sources are those of their files
pub verdict_in : (files : Files) (v : Verify) (given : Open Session) (s : Session) (opened : List OpenedSource) (answer : Result ℕ Status) → given ≡ Ok s → IsOpened files s.rate s.sources.items opened →
    IsVerdict s (source_sound files opened) (content files v.report) (content files v.master) answer → IsAnswerOn given files v answer
verdict_in files v given s opened answer is opens verdict = subst (λ p. IsAnswerOn p files v answer) (sym is)
    (subst (λ (sounds : Sounds). IsVerdict s sounds (content files v.report) (content files v.master) answer) (sounds_are files s opened opens) verdict)

-- ---- where all agree

module _ (law : WhatAgreesIsVerified) (s : Session) (sounds : Sounds) (bytes file : List ℕ) (valid : IsValid s) (all : AllAgree s sounds bytes file) where
  not_refused : (answer : Unverified) → IsVerifiedOrUnread (Err answer) → (why : HeardFault) × (answer ≡ Unread why)
  not_refused answer (inl ok) = absurd (true≢false (sym ok))
  not_refused answer (inr (why, is)) = let same : answer ≡ Unread why = cc in (why, same)

  bad_isnt : (n : ℕ) → (why : HeardFault) × (BadReport n ≡ Unread why) → ⊥
  bad_isnt n (why, is) = cc

  refuted_isnt : (n : ℕ) → (why : HeardFault) × (Refuted n ≡ Unread why) → ⊥
  refuted_isnt n (why, is) = cc

  unread : (a : Status) → IsVerdict s sounds bytes file (Err a) → IsUnread a
  unread (status.BadReport n) is = absurd (bad_isnt n (not_refused (BadReport n) (law s sounds bytes file (Err (BadReport n)) valid all is)))
  unread (status.Refuted n) is = absurd (refuted_isnt n (not_refused (Refuted n) (law s sounds bytes file (Err (Refuted n)) valid all is)))
  unread status.ReadFault is = inl refl
  unread status.NoMemory is = inr refl
  unread _ is = absurd is

pub what_agrees_is_answered : WhatAgreesIsVerified → OpenIsValid → WhatAgreesIsAnswered
what_agrees_is_answered law valid files v s agrees answer = by (session_plan files v.session) refl agrees answer where
  by : (given : Open Session) → session_plan files v.session ≡ given → AgreesWith given files v → IsAnswerOn given files v (Err s) → IsUnread s
  by (Ok z) is agree verdict = unread law z (sounds_in files z) (content files v.report) (content files v.master) (valid files v.session z is).valid agree s verdict
  by (Err wrong) is agree verdict = absurd agree

-- ---- one answer

pub refuted_of : (s : Session) (sounds : Sounds) (bytes file : List ℕ) (answer : Result ℕ Unverified) (n : ℕ) → answer ≡ Err (Refuted n) → Verified s sounds bytes file answer → IsVerdict s sounds bytes file (Err (status.Refuted n))
refuted_of s sounds bytes file answer n is verdict = subst (λ a. Verified s sounds bytes file a) is verdict

-- no line is held before the first is asked
pub none_held : (files : Files) (sources : SourcesState) → sources.held ≡ [] → HoldsAsRead files sources
none_held files sources none = subst (λ (held : List HeldLine). All (IsAsRead files sources.opened) held) (sym none) (All-nil (IsAsRead files sources.opened))
