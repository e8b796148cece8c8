-- What it means that every line of a report stands.
use Rattle.std.specs.Prelude.{◌≡◌, ◌↔◌, ◌≤◌, ℕ, true, None, List, length}
use Rattle.sound_model.specs.Regions.{Sounds}
use Rattle.session_model.specs.declared.session.Session.{Session}
use Rattle.session_model.specs.Valid.{IsValid}
use Rattle.engine_model.specs.Editions.{IsAccepted}
use Rattle.engine_model.specs.Fits.{is_lawful}
use Rattle.engine_model.specs.Played.{master_file, samples_of}
use Rattle.cycle_journal.specs.Report.{Reported}
use Rattle.report_verdict.specs.Lines.{is_head_of, lines_stand, refuted_at}

-- **Report, session and master agree.**
pub record Agree (s : Session) (sounds : Sounds) (r : Reported) (file : List ℕ) : Type 0 where
  -- the report's form is the session's
  pub form : is_head_of s r.head ≡ true
  -- its edits are accepted one after the other, none after a quit
  pub edits : IsAccepted s r.edits
  -- its journal is lawful
  pub journal : is_lawful s r.edits r.entries ≡ true
  -- and the master is the offline rendering of it
  pub master : file ≡ master_file s r.edits (samples_of sounds s r.edits) r.head.cycles r.entries

-- No line is refuted exactly where they agree.
abbrev pub AllStandWhereAllAgree : Type 0
AllStandWhereAllAgree = (s : Session) (sounds : Sounds) (r : Reported) (file : List ℕ) (first : ℕ) → IsValid s → length r.entries ≤ r.head.cycles →
    (refuted_at first (lines_stand s sounds r file) ≡ None) ↔ Agree s sounds r file
