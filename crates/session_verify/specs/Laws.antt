-- Where report, session and master agree, nothing is refuted.
use Rattle.std.specs.Prelude.{Ok, Err}
use Rattle.ses_io.specs.Files.{Files, content}
use Rattle.session_model.specs.declared.session.Session.{Session}
use Rattle.command_words.specs.Words.{Verify}
use Rattle.cycle_journal.specs.declared.status.Status.{Status}
use Rattle.session_opening.specs.Plan.{Open, session_plan}
use Rattle.session_opening.specs.Status.{IsUnread}
use Rattle.session_opening.specs.Sounds.{sounds_in}
use Rattle.report_check.specs.Laws.{AllAgree}
use Rattle.session_verify.specs.Verified.{IsAnswer}

-- the session is opened, and report and master agree with it
abbrev pub AgreesWith : Open Session → Files → Verify → Type 0
AgreesWith (Ok s) files v = AllAgree s (sounds_in files s) (content files v.report) (content files v.master)
AgreesWith (Err wrong) files v = ⊥

-- **session, report and master of these files agree**
abbrev pub Agrees : Files → Verify → Type 0
Agrees files v = AgreesWith (session_plan files v.session) files v

-- no other status is answered then than that a read failed, or that memory ran out
abbrev pub WhatAgreesIsAnswered : Type 0
WhatAgreesIsAnswered = (files : Files) (v : Verify) (s : Status) → Agrees files v → IsAnswer files v (Err s) → IsUnread s
