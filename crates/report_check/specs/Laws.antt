-- A run is verified exactly where report, session and master agree.
use Rattle.std.specs.Prelude.{◌≡◌, ◌⊎◌, ℕ, List, length, Result, Ok, Err, IsOk}
use Rattle.sound_model.specs.Regions.{Sounds}
use Rattle.session_model.specs.declared.session.Session.{Session}
use Rattle.session_model.specs.Valid.{IsValid}
use Rattle.heard_blocks.specs.declared.fault.HeardFault.{HeardFault}
use Rattle.report_verdict.specs.Laws.{Agree}
use Rattle.report_check.specs.declared.unverified.Unverified.{Unverified}
use Rattle.report_check.specs.declared.unverified.Unverified.TheVariants.{Unread}
use Rattle.report_check.specs.Verdict.{Found, Verified}

-- **The report is in the grammar, and report, session and master agree.**
pub record AllAgree (s : Session) (sounds : Sounds) (bytes file : List ℕ) : Type 0 where
  pub found : Found bytes
  pub agree : Agree s sounds found.report file

-- what is verified agrees, and has so many entries
abbrev pub VerifiedWhereAllAgree : Type 0
VerifiedWhereAllAgree = (s : Session) (sounds : Sounds) (bytes file : List ℕ) (entries : ℕ) → IsValid s → Verified s sounds bytes file (Ok entries) →
    (all : AllAgree s sounds bytes file) × (entries ≡ length all.found.report.entries)

-- it is verified, or wasn't read
abbrev pub IsVerifiedOrUnread : Result ℕ Unverified → Type 0
IsVerifiedOrUnread answer = IsOk answer ⊎ ((why : HeardFault) × (answer ≡ Err (Unread why)))

-- what agrees is verified, but for what isn't read
abbrev pub WhatAgreesIsVerified : Type 0
WhatAgreesIsVerified = (s : Session) (sounds : Sounds) (bytes file : List ℕ) (answer : Result ℕ Unverified) → IsValid s → AllAgree s sounds bytes file →
    Verified s sounds bytes file answer → IsVerifiedOrUnread answer
