-- Which lines are a report, and which line is the first that isn't of one (own).
use Rattle.std.specs.Prelude.{◌≡◌, ◌≢◌, ℕ, suc, ◌+◌, ◌-◌, ◌^◌, ◌<◌, ◌≤◌, true, not, ◌==◌, List, ◌++◌, length, take, All}
use Rattle.std.specs.List.{list_all}
use Rattle.session_model.specs.Formed.{IsBetween}
use Rattle.edit_script.specs.Laws.{IsSayable}
use Rattle.engine_model.specs.Journal.{Play, Silent, Heard, Short, Take, Off, Taken, Lost, Note, State, Stopped, Seeking, Rolling, Entry}
use Rattle.cycle_journal.specs.declared.head.ReportHead.{ReportHead}
use Rattle.cycle_journal.specs.Report.{Reported, report_lines, first_line, ended}

-- ---- the numbers of a report lie in their ranges

pub record IsHead (h : ReportHead) : Type 0 where
  -- frames a second
  pub rate : IsBetween 8000 h.rate 192000
  pub channels : IsBetween 1 h.channels 2
  -- frames of a cycle
  pub block : IsBetween 1 h.block 4096
  pub cycles : IsBetween 1 h.cycles 100000

abbrev pub IsPlayed : Play → Type 0
IsPlayed Silent = Unit {0}
IsPlayed (Heard touched) = touched ≤ 10000
IsPlayed (Short tail) = tail < 2 ^ 64

abbrev pub IsTaken : Take → Type 0
IsTaken Off = Unit {0}
IsTaken (Taken take index) = IsBetween 1 take 100000 × (index < 100000)
IsTaken (Lost take index head) = IsBetween 1 take 100000 × (index < 100000) × (head < 2 ^ 64)

pub record IsNoted (note : Note) : Type 0 where
  pub play : IsPlayed note.play
  pub take : IsTaken note.take

abbrev pub IsState : State → Type 0
IsState Stopped = Unit {0}
IsState (Seeking track tail) = (track < 32) × (tail < 2 ^ 64)
IsState (Rolling generation seq) = (generation ≤ 10000) × (seq < 100000)

pub record IsEntry (e : Entry) : Type 0 where
  pub edition : e.edition ≤ 10000
  pub settled : e.settled ≤ 10000
  pub state : IsState e.state
  pub few : length e.notes ≤ 32
  pub notes : All IsNoted e.notes

-- What is reported can be read: its numbers lie in their ranges, and its edits can be said in lines.
pub record IsReadable (r : Reported) : Type 0 where
  pub head : IsHead r.head
  pub few_edits : length r.edits ≤ 10000
  pub edits : All IsSayable r.edits
  -- no more entries than cycles that were asked
  pub few : length r.entries ≤ r.head.cycles
  pub entries : All IsEntry r.entries

-- ---- the lines of a file

-- no line feed stands in it
abbrev pub IsLine : List ℕ → Type 0
IsLine line = list_all (λ b. not (b == 10)) line ≡ true

-- Bytes are cut into lines that end with a line feed, and what is left behind the last.
pub record IsCut (bytes : List ℕ) (lines : List (List ℕ)) (rest : List ℕ) : Type 0 where
  pub is : bytes ≡ ended lines ++ rest
  pub lines_are : All IsLine lines
  pub rest_is : IsLine rest

-- ---- the report among lines

-- **The lines hold this report, which begins with the line of this number, from 1.** What stands before its first line, which is the
-- first of its kind, and behind its last line is of no matter.
pub record IsReportAt (lines : List (List ℕ)) (first : ℕ) (r : Reported) : Type 0 where
  pub readable : IsReadable r
  pub before : List (List ℕ)
  pub behind : List (List ℕ)
  pub is : lines ≡ before ++ (report_lines r ++ behind)
  pub counted : first ≡ suc (length before)
  pub skipped : All (λ line. line ≢ first_line) before

pub record HasReport (lines : List (List ℕ)) : Type 0 where
  pub first : ℕ
  pub reported : Reported
  pub is : IsReportAt lines first reported

-- lines that more lines make hold a report
pub record MayBecome (lines : List (List ℕ)) : Type 0 where
  pub more : List (List ℕ)
  pub becomes : HasReport (lines ++ more)

-- **The line of this number, from 1, is the first that no report has there.** Where all lines may stand and no report is whole, it is
-- the one behind the last.
pub record IsBadLine (lines : List (List ℕ)) (n : ℕ) : Type 0 where
  pub counted : IsBetween 1 n (length lines + 1)
  -- those before may become a report
  pub begun : MayBecome (take (n - 1) lines)
  -- with it they can't
  pub bad : n ≤ length lines → ¬ (MayBecome (take n lines))
  -- the file ends too soon
  pub short : n ≡ length lines + 1 → ¬ (HasReport lines)
