-- How the lines of a file are read, one after the other (own).
use Rattle.std.specs.Prelude.{◌≡◌, ℕ, ◌+◌, ◌<◌, ◌≤◌, ◌==◌, Bool, true, false, min, if◌then◌else◌, List, [], ◌∷◌, ◌++◌, length, Option, Some, Result, Ok, Err, bytes_eq}
use Rattle.cycle_journal.specs.declared.head.ReportHead.{ReportHead}
use Rattle.cycle_journal.specs.Report.{Reported, first_line}
use Rattle.cycle_journal.specs.RunReport.{reported}
use Rattle.report_reader.specs.declared.report.Report.{Report}
use Rattle.report_reader.specs.declared.report.ReportRefusal.{ReportRefusal}
use Rattle.report_reader.specs.declared.report.ReportRefusal.TheVariants.{BadReport, NoMemory}
use Rattle.report_reader.specs.Fields.{◌>>=◌, chosen}
use Rattle.report_reader.specs.Lines.{format_in}
use Rattle.report_reader.specs.Items.{Item, AnEdit, AnEntry, AnEnd, item_in}

-- ---- the lines of a file

-- a byte in front of the first line
abbrev pub onto : ℕ → List (List ℕ) → List ℕ → List (List ℕ) × List ℕ
onto b [] rest = ([], b ∷ rest)
onto b (line ∷ lines) rest = ((b ∷ line) ∷ lines, rest)

-- the lines that end with a line feed, and what is left behind the last
unfoldable pub cut : List ℕ → List (List ℕ) × List ℕ
cut [] = ([], [])
cut (b ∷ bytes) = if b == 10 then ([] ∷ (cut bytes).0, (cut bytes).1) else onto b (cut bytes).0 (cut bytes).1

abbrev pub lines_of : List ℕ → List (List ℕ)
lines_of bytes = (cut bytes).0

-- ---- line by line

-- how far a report is read; the number of its first line stands with it
pub data Stage : Type 0 where
  -- its first line is still looked for
  Before : Stage
  -- that was the last line
  Begun : ℕ → Stage
  -- this is read of it, and the end isn't
  Within : ℕ → Reported → Stage
  -- all of it is read
  Whole : ℕ → Reported → Stage

-- nothing but its form
abbrev pub bare : ReportHead → Reported
bare head = record { head = head; edits = []; entries = [] }

abbrev pub with_item : ℕ → Reported → Item → Stage
with_item first r (AnEdit edit) = Within first (record r { edits = r.edits ++ edit ∷ [] })
with_item first r (AnEntry e) = Within first (record r { entries = r.entries ++ e ∷ [] })
with_item first r AnEnd = Whole first r

-- a line more, which has this number; nothing where no report goes on so
unfoldable pub step : ℕ → Stage → List ℕ → Option Stage
step n Before line = if bytes_eq line first_line then Some (Begun n) else Some Before
step n (Begun first) line = do
  head ← format_in line
  Some (Within first (bare head))
step n (Within first r) line = do
  item ← item_in r.head.cycles (length r.edits) (length r.entries) line
  Some (with_item first r item)
step n (Whole first r) line = Some (Whole first r)

-- no line is left, and this would be the number of the next
abbrev pub ended : ℕ → Stage → Result (ℕ × Reported) ℕ
ended n Before = Err n
ended n (Begun first) = Err n
ended n (Within first r) = Err n
ended n (Whole first r) = Ok (first, r)

-- What the lines from this number on make of what is read: the report and its first line, or the number of a line that no
-- report has there.
unfoldable pub reading : ℕ → Stage → List (List ℕ) → Result (ℕ × Reported) ℕ
reading n stage [] = ended n stage
reading n stage (line ∷ lines) = chosen (step n stage line) (λ next. reading (n + 1) next lines) (Err n)

-- ---- as code has it

abbrev pub reported_of : Report → Reported
reported_of r = reported r.head r.edits.items r.journal.items

abbrev pub Refuses : ReportRefusal → Result (ℕ × Reported) ℕ → Type 0
Refuses (BadReport n) read = read ≡ Err n
Refuses NoMemory read = Unit {0}

-- What is read is what is read from a result on, or it is refused so, unless memory ran out.
abbrev pub Goes : {A : Type 0} → (A → Result (ℕ × Reported) ℕ) → Result A ReportRefusal → Result (ℕ × Reported) ℕ → Type 0
Goes onward (Ok x) read = read ≡ onward x
Goes onward (Err why) read = Refuses why read

-- the lists have room for what so many lines may say
pub record HasRoom (left : ℕ) (r : Report) : Type 0 where
  pub edits : min 10000 (length r.edits.items + left) ≤ r.edits.room
  pub entries : min r.head.cycles (length r.journal.items + left) ≤ r.journal.room

-- the list of an item has room for it
abbrev pub HasRoomFor : Item → Report → Type 0
HasRoomFor (AnEdit edit) r = length r.edits.items < r.edits.room
HasRoomFor (AnEntry e) r = length r.journal.items < r.journal.room
HasRoomFor AnEnd r = Unit {0}

-- a report that goes on, or is whole
abbrev pub stage_of : Bool → Report → Stage
stage_of true r = Within r.first_line (reported_of r)
stage_of false r = Whole r.first_line (reported_of r)
