-- Statuses and the counts that they are tied to.
use Rattle.std.proofs.Common.{◌≡◌, ℕ, ◌≤◌, ◌⊎◌, ◌↔◌, inl, inr, refl, sym, ap, subst, ◌∙◌, arith}
use Rattle.std.specs.Prelude.{Bool, true, false, Option, Some, None, IsOk, Ok, Err}
use Rattle.std.proofs.lemmas.Bool.{true≢false}
use Rattle.ses_io.specs.Faults.{risen}
use Rattle.ses_io.specs.Outside.{MediaOutside}
use Rattle.cycle_journal.specs.declared.status.Status.{Status}
use Rattle.cycle_journal.specs.declared.status.Status.TheVariants.{Done, Usage, MasterFault, OutFault, NoMemory}
use Rattle.cycle_journal.specs.declared.status.Status.TheVariants as status
use Rattle.session_opening.specs.Answers.{Caused, Refuses, unopened as opening}
use Rattle.session_opening.specs.Plan.{Open}
use Rattle.session_opening.specs.declared.unopened.Unopened.{Unopened}
use Rattle.session_opening.specs.declared.unopened.Unopened.TheVariants.{Session, Source, ReadFault}
use Rattle.session_opening.specs.declared.unopened.Unopened.TheVariants as unopened
use Rattle.session_opening.specs.Status.{IsUnread, status_of}
use Rattle.session_play.specs.Reported.{IsStill}
use Rattle.session_verify.specs.Verified.{IsOfVerify as IsVerdictStatus}
use Rattle.session_run.specs.Status.{EndsWith, IsBeforeInput, IsOfCheck, IsOfGen, IsOfMigrate, IsOfRender, IsOfRun, IsOfVerify, IsStatusOf, ReadsFailed}
use Rattle.session_run.specs.Verified.{IsSaid}
use Rattle.session_run.specs.Tasks.{Task, Runs, Migrates, Checks, Renders, Verifies, Gens}

-- ---- one that stops at what is wrong

pub unplayed_ends : {A : Type 0} (fault : Status) (given : Open A) (why : Unopened) → Refuses given why → EndsWith fault given (status_of why)
unplayed_ends fault given (Session refusal) is = subst (λ p. EndsWith fault p (status.Session refusal)) (sym is) (inl refl)
unplayed_ends fault given (Source name why) is = subst (λ p. EndsWith fault p (status.SourceFile name why)) (sym is) (inl (why, refl, refl))
unplayed_ends fault (Ok o) ReadFault is = inr (inr (inl refl))
unplayed_ends fault (Err w) ReadFault is = inr (inl refl)
unplayed_ends fault (Ok o) unopened.NoMemory is = inr (inr (inr refl))
unplayed_ends fault (Err w) unopened.NoMemory is = inr (inr refl)

pub quiet : (before now : ℕ) (s : Status) → now ≡ before → (s ≡ status.ReadFault → ⊥) → ReadsFailed before now s
quiet before now s same not = record { later = λ _. omega (arith, same); cause = λ is. absurd (not is); same = λ _ _. same }

module _ {V : Type 0} (outside : MediaOutside V) (old new : V) where
  pub unplayed_reads : (why : Unopened) → Caused {A = Unit {0}} outside old new (Err why) → ReadsFailed (outside.read_faults old) (outside.read_faults new) (status_of why)
  unplayed_reads (Session refusal) cause = quiet (outside.read_faults old) (outside.read_faults new) (status.Session refusal) cause (λ is. cc)
  unplayed_reads (Source name why) cause = quiet (outside.read_faults old) (outside.read_faults new) (status.SourceFile name why) cause (λ is. cc)
  unplayed_reads ReadFault cause = record { later = λ is. absurd (other is); cause = λ _. cause; same = λ not _. absurd (not refl) } where
    other : status.ReadFault ≡ MasterFault → ⊥
    other is = cc
  unplayed_reads unopened.NoMemory cause = quiet (outside.read_faults old) (outside.read_faults new) NoMemory cause (λ is. cc)

-- whether a status says what is wrong, or that a read failed or memory ran out
abbrev is_reason : Status → Bool
is_reason (status.Session refusal) = true
is_reason (status.SourceFile name why) = true
is_reason status.ReadFault = true
is_reason NoMemory = true
is_reason _ = false

reason_of : (why : Unopened) → is_reason (status_of why) ≡ true
reason_of (Session refusal) = refl
reason_of (Source name why) = refl
reason_of ReadFault = refl
reason_of unopened.NoMemory = refl

-- no other status is of a reason
pub not_of : (why : Unopened) (s : Status) → is_reason s ≡ false → status_of why ≡ s → ⊥
not_of why s other is = true≢false (sym (reason_of why) ∙ ap is_reason is ∙ other)

-- whether a verify may end so, that its line isn't written aside
abbrev is_verdict : Status → Bool
is_verdict (status.BadReport n) = true
is_verdict (status.Refuted n) = true
is_verdict (status.Session refusal) = true
is_verdict (status.SourceFile name why) = true
is_verdict status.ReadFault = true
is_verdict NoMemory = true
is_verdict _ = false

reason_is_verdict : (why : Unopened) → is_verdict (status_of why) ≡ true
reason_is_verdict (Session refusal) = refl
reason_is_verdict (Source name why) = refl
reason_is_verdict ReadFault = refl
reason_is_verdict unopened.NoMemory = refl

-- what comes before the input is read is no other status
pub before_isnt : (s t : Status) → IsBeforeInput s → (IsBeforeInput t → ⊥) → s ≡ t → ⊥
before_isnt s t before never same = never (subst IsBeforeInput same before)

-- a run doesn't end as no command does
pub run_not_usage : (s : Status) → IsOfRun s → s ≡ Usage → ⊥
run_not_usage s of is = subst IsOfRun is of

-- and a migrate doesn't write to the master
pub migrate_not_master : (s : Status) → IsOfMigrate s → s ≡ MasterFault → ⊥
migrate_not_master s (inl done) is = cc
migrate_not_master s (inr (inl fault)) is = cc
migrate_not_master s (inr (inr (why, by))) is = not_of (opening why) MasterFault refl (sym by ∙ is)

pub migrate_not_usage : (s : Status) → IsOfMigrate s → s ≡ Usage → ⊥
migrate_not_usage s (inl done) is = cc
migrate_not_usage s (inr (inl fault)) is = cc
migrate_not_usage s (inr (inr (why, by))) is = not_of (opening why) Usage refl (sym by ∙ is)

-- nor does a check
pub check_not_master : (s : Status) → IsOfCheck s → s ≡ MasterFault → ⊥
check_not_master s (inl done) is = cc
check_not_master s (inr (inl fault)) is = cc
check_not_master s (inr (inr (why, by))) is = not_of why MasterFault refl (sym by ∙ is)

pub check_not_usage : (s : Status) → IsOfCheck s → s ≡ Usage → ⊥
check_not_usage s (inl done) is = cc
check_not_usage s (inr (inl fault)) is = cc
check_not_usage s (inr (inr (why, by))) is = not_of why Usage refl (sym by ∙ is)

-- a render writes to the master and not to out
pub render_not_out : (s : Status) → IsOfRender s → s ≡ OutFault → ⊥
render_not_out s (inl done) is = cc
render_not_out s (inr (inl fault)) is = cc
render_not_out s (inr (inr (why, by))) is = not_of why OutFault refl (sym by ∙ is)

pub render_not_usage : (s : Status) → IsOfRender s → s ≡ Usage → ⊥
render_not_usage s (inl done) is = cc
render_not_usage s (inr (inl fault)) is = cc
render_not_usage s (inr (inr (why, by))) is = not_of why Usage refl (sym by ∙ is)

-- a verify writes no master
pub verify_not : (s t : Status) → is_verdict s ≡ false → IsVerdictStatus t → t ≡ s → ⊥
verify_not s t other (inl (n, is)) same = true≢false (ap is_verdict (sym is ∙ same) ∙ other)
verify_not s t other (inr (inl (n, is))) same = true≢false (ap is_verdict (sym is ∙ same) ∙ other)
verify_not s t other (inr (inr (why, by))) same = true≢false (sym (reason_is_verdict why) ∙ ap is_verdict (sym by ∙ same) ∙ other)

pub verify_not_master : (s : Status) → IsOfVerify s → s ≡ MasterFault → ⊥
verify_not_master s (inl done) is = cc
verify_not_master s (inr (inl fault)) is = cc
verify_not_master s (inr (inr by)) is = verify_not MasterFault s refl by is

pub verify_not_usage : (s : Status) → IsOfVerify s → s ≡ Usage → ⊥
verify_not_usage s (inl done) is = cc
verify_not_usage s (inr (inl fault)) is = cc
verify_not_usage s (inr (inr by)) is = verify_not Usage s refl by is

-- nor does a gen
pub gen_not_master : (s : Status) → IsOfGen s → s ≡ MasterFault → ⊥
gen_not_master s (inl done) is = cc
gen_not_master s (inr (inl fault)) is = cc
gen_not_master s (inr (inr none)) is = cc

pub gen_not_read : (s : Status) → IsOfGen s → s ≡ status.ReadFault → ⊥
gen_not_read s (inl done) is = cc
gen_not_read s (inr (inl fault)) is = cc
gen_not_read s (inr (inr none)) is = cc

pub gen_not_usage : (s : Status) → IsOfGen s → s ≡ Usage → ⊥
gen_not_usage s (inl done) is = cc
gen_not_usage s (inr (inl fault)) is = cc
gen_not_usage s (inr (inr none)) is = cc

-- only no command ends so
pub usage_only : (asked : Option Task) (s : Status) → IsStatusOf asked s → (s ≡ Usage) ↔ (asked ≡ None)
usage_only (Some (Runs r)) s is = (λ usage. absurd (run_not_usage s is usage), λ none. absurd cc)
usage_only (Some (Migrates name)) s is = (λ usage. absurd (migrate_not_usage s is usage), λ none. absurd cc)
usage_only (Some (Checks name)) s is = (λ usage. absurd (check_not_usage s is usage), λ none. absurd cc)
usage_only (Some (Renders r)) s is = (λ usage. absurd (render_not_usage s is usage), λ none. absurd cc)
usage_only (Some (Verifies v)) s is = (λ usage. absurd (verify_not_usage s is usage), λ none. absurd cc)
usage_only (Some (Gens n)) s is = (λ usage. absurd (gen_not_usage s is usage), λ none. absurd cc)
usage_only None s is = (λ usage. refl, λ none. is)

-- ---- completeness

pub completes : {A : Type 0} (fault : Status) (given : Open A) (s : Status) (a b c d : ℕ) → EndsWith fault given s → IsOk given → IsStill a b → IsStill c d → ReadsFailed a b s → (s ≡ fault → risen c ≤ d) →
    (s ≡ Done) ⊎ (s ≡ NoMemory)
completes fault (Ok o) s a b c d (inl done) ok reads writes rf wf = inl done
completes fault (Ok o) s a b c d (inr (inl failed)) ok reads writes rf wf = absurd (omega (arith, wf failed, writes.same, writes.short))
completes fault (Ok o) s a b c d (inr (inr (inl failed))) ok reads writes rf wf = absurd (omega (arith, rf.cause failed, reads.same, reads.short))
completes fault (Ok o) s a b c d (inr (inr (inr none))) ok reads writes rf wf = inr none
completes fault (Err w) s a b c d ends ok reads writes rf wf = absurd (true≢false (sym ok))

-- what agrees is said, where no count rises
pub said_completes : (s : Status) (a b c d : ℕ) → IsSaid s ⊎ IsUnread s → IsStill a b → IsStill c d → ReadsFailed a b s → (s ≡ OutFault → risen c ≤ d) → (s ≡ Done) ⊎ (s ≡ NoMemory)
said_completes s a b c d (inl (inl done)) reads writes rf wf = inl done
said_completes s a b c d (inl (inr failed)) reads writes rf wf = absurd (omega (arith, wf failed, writes.same, writes.short))
said_completes s a b c d (inr (inl failed)) reads writes rf wf = absurd (omega (arith, rf.cause failed, reads.same, reads.short))
said_completes s a b c d (inr (inr none)) reads writes rf wf = inr none

pub gen_completes : (s : Status) (c d : ℕ) → IsOfGen s → IsStill c d → (s ≡ OutFault → risen c ≤ d) → (s ≡ Done) ⊎ (s ≡ NoMemory)
gen_completes s c d (inl done) writes wf = inl done
gen_completes s c d (inr (inl failed)) writes wf = absurd (omega (arith, wf failed, writes.same, writes.short))
gen_completes s c d (inr (inr none)) writes wf = inr none
