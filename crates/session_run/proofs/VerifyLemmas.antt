-- How a verify ends, by its answer.
use Rattle.std.proofs.Common.{◌≡◌, ℕ, inl, inr, refl, sym, subst}
use Rattle.std.specs.Prelude.{Ok, Err}
use Rattle.ses_io.specs.Files.{Files}
use Rattle.session_model.specs.declared.session.Session.{Session}
use Rattle.command_words.specs.Words.{Verify}
use Rattle.cycle_journal.specs.declared.status.Status.{Status}
use Rattle.cycle_journal.specs.declared.status.Status.TheVariants.{Done, OutFault, MasterFault, NoMemory}
use Rattle.cycle_journal.specs.declared.status.Status.TheVariants as status
use Rattle.session_opening.specs.declared.unopened.Unopened.{Unopened}
use Rattle.session_opening.specs.declared.unopened.Unopened.TheVariants as unopened
use Rattle.session_opening.specs.Plan.{Open, session_plan}
use Rattle.session_opening.specs.Status.{status_of}
use Rattle.session_verify.specs.Verified.{Counts, IsAnswer, IsAnswerOn, IsOfVerify as IsVerdictStatus}
use Rattle.session_verify.specs.Laws.{WhatAgreesIsAnswered}
use Rattle.session_run.specs.Status.{IsOfVerify, ReadsFailed}
use Rattle.session_run.specs.Verified.{EndsAsVerified, IsSaid}
use Rattle.session_run.proofs.StatusLemmas.{quiet, verify_not}

-- ---- how it ends

module _ (files : Files) (v : Verify) where
  -- something is wrong, or isn't read
  pub ends_so : WhatAgreesIsAnswered → (s : Status) → IsAnswer files v (Err s) → EndsAsVerified files v s
  ends_so law s answer = record { verdict = inr answer; agreed = λ agrees. inr (law files v s agrees answer) }

  no_memory : (given : Open Session) (entries : ℕ) → IsAnswerOn given files v (Ok entries) → IsAnswerOn given files v (Err NoMemory)
  no_memory (Ok s) entries answer = tt
  no_memory (Err wrong) entries answer = absurd answer

  -- there is no memory for the line
  pub ends_unsaid : (entries : ℕ) → IsAnswer files v (Ok entries) → EndsAsVerified files v NoMemory
  ends_unsaid entries answer = record { verdict = inr (no_memory (session_plan files v.session) entries answer); agreed = λ agrees. inr (inr refl) }

  -- the line is written
  pub ends_said : (entries : ℕ) (s : Status) → IsAnswer files v (Ok entries) → IsSaid s → EndsAsVerified files v s
  ends_said entries s answer said = record { verdict = inl ((entries, answer), said); agreed = λ agrees. inl said }

-- ---- which statuses there are

pub no_memory_is : IsVerdictStatus NoMemory
no_memory_is = inr (inr (unopened.NoMemory, refl))

pub not_done : (s : Status) → IsVerdictStatus s → s ≡ Done → ⊥
not_done s by is = verify_not Done s refl by is

pub not_cut : (s : Status) → IsVerdictStatus s → s ≡ OutFault → ⊥
not_cut s by is = verify_not OutFault s refl by is

pub said_is : (s : Status) → IsSaid s → IsOfVerify s
said_is s (inl done) = inl done
said_is s (inr cut) = inr (inl cut)

-- ---- the count of failed reads

pub counted : (before now : ℕ) (s : Status) → IsVerdictStatus s → Counts before now (Err s) → ReadsFailed before now s
counted before now s (inl (n, is)) counts = subst (ReadsFailed before now) (sym is) (quiet before now (status.BadReport n) (subst (λ t. Counts before now (Err t)) is counts) (λ e. cc))
counted before now s (inr (inl (n, is))) counts = subst (ReadsFailed before now) (sym is) (quiet before now (status.Refuted n) (subst (λ t. Counts before now (Err t)) is counts) (λ e. cc))
counted before now s (inr (inr (why, is))) counts = subst (ReadsFailed before now) (sym is) (by why (subst (λ t. Counts before now (Err t)) is counts))
  where
    other : status.ReadFault ≡ MasterFault → ⊥
    other e = cc

    by : (w : Unopened) → Counts before now (Err (status_of w)) → ReadsFailed before now (status_of w)
    by (unopened.Session refusal) same = quiet before now (status.Session refusal) same (λ e. cc)
    by (unopened.Source name why) same = quiet before now (status.SourceFile name why) same (λ e. cc)
    by unopened.ReadFault rose = record { later = λ is. absurd (other is); cause = λ _. rose; same = λ not _. absurd (not refl) }
    by unopened.NoMemory same = quiet before now NoMemory same (λ e. cc)

pub said_not_read : (s : Status) → IsSaid s → s ≡ status.ReadFault → ⊥
said_not_read s (inl done) is = cc
said_not_read s (inr cut) is = cc
