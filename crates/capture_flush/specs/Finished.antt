-- What take files hold once they are finished: the takes of a journal, whole (own). Takes count from 1.
use Rattle.std.specs.Prelude.{◌≡◌, ℕ, ◌+◌, ◌-◌, ◌^◌, ◌<◌, ◌≤◌, min, Bool, true, false, ◌&&◌, ◌==◌, nat_lt, List, [], ◌∷◌, length, drop, reverse, Some, IfSome, All}
use Rattle.std.specs.List.{list_any}
use Rattle.ses_io.specs.Files.{Files}
use Rattle.session_model.specs.declared.session.Session.{Session}
use Rattle.engine_model.specs.Journal.{Take, Off, Taken, Lost, Entry, note_of}
use Rattle.engine_model.specs.Fits.{take_number, next_take}
use Rattle.engine_model.specs.Takes.{Input, take_file, take_name}
use Rattle.capture_flush.specs.Blocks.{taken_blocks}
use Rattle.capture_flush.specs.Taking.{Taking, has_failed}
use Rattle.capture_flush.specs.Flushed.{Tape, IsFront}

-- ---- a journal whose takes are counted

-- the note is the next of its take, or none
abbrev pub goes_on : ℕ × ℕ → Take → Bool
goes_on next Off = true
goes_on next (Taken n i) = n == next.0 && i == next.1
goes_on next (Lost n i head) = n == next.0 && i == next.1

-- so it is of track t in each entry; the newest stands first
abbrev pub are_counted : ℕ → List Entry → Bool
are_counted t [] = true
are_counted t (e ∷ before) = goes_on (next_take t before) (note_of t e).take && are_counted t before

-- Each entry has a note for each track, and takes and their blocks are counted with no gap.
pub record IsCounted (s : Session) (journal : List Entry) : Type 0 where
  pub notes : All (λ e. length e.notes ≡ length s.tracks.items) journal
  pub takes : (t : ℕ) → t < length s.tracks.items → are_counted t (reverse journal) ≡ true

-- ---- the files

-- what no code holds and clauses speak of: the session, the input by frame and channel, and the files before the first block
pub record Recorded : Type 0 where
  pub session : Session
  pub input : Input
  pub held : Files

-- the blocks that a journal took, all passed
abbrev pub tape_of : Recorded → List Entry → Tape
tape_of run journal = record { session = run.session; held = run.held; blocks = λ t. taken_blocks run.session run.input t journal }

-- the journal names take n of track t
abbrev pub names_take : ℕ → ℕ → List Entry → Bool
names_take t n journal = nat_lt 0 n && list_any (λ e. take_number (note_of t e).take == n) journal

-- the name is that of the file of a take that the journal names
abbrev pub IsNamed : Session → List Entry → List ℕ → Type 0
IsNamed s journal q = (t : ℕ) × (n : ℕ) × (t < length s.tracks.items) × (names_take t n journal ≡ true) × (take_name s t n ≡ q)

-- The files hold what they held, and exactly the takes that the journal names.
pub record AreTakes (run : Recorded) (journal : List Entry) (files : Files) : Type 0 where
  pub takes : (t n : ℕ) → t < length run.session.tracks.items → names_take t n journal ≡ true →
      files (take_name run.session t n) ≡ Some (take_file run.session run.input t n journal)
  pub others : (q : List ℕ) → ¬ (IsNamed run.session journal q) → files q ≡ run.held q

-- Only files of takes that the journal names differ, and from byte 44 on, where the sound begins, each has a front of its take.
pub record AreTakesInPart (run : Recorded) (journal : List Entry) (files : Files) : Type 0 where
  pub takes : (t n : ℕ) → t < length run.session.tracks.items → names_take t n journal ≡ true →
      IfSome (files (take_name run.session t n)) (λ bytes. IsFront (drop 44 bytes) (drop 44 (take_file run.session run.input t n journal)))
  pub others : (q : List ℕ) → ¬ (IsNamed run.session journal q) → files q ≡ run.held q

-- The files hold exactly the takes that the journal names but those that had failed, and of these a front.
pub record AreTakesBut (run : Recorded) (journal : List Entry) (f : Taking) (files : Files) : Type 0 where
  pub takes : (t n : ℕ) → t < length run.session.tracks.items → names_take t n journal ≡ true → has_failed f t n ≡ false →
      files (take_name run.session t n) ≡ Some (take_file run.session run.input t n journal)
  pub in_part : AreTakesInPart run journal files

-- the take stands in a list of takes, each by its track and its number
abbrev pub is_among : ℕ → ℕ → List (ℕ × ℕ) → Bool
is_among t n takes = list_any (λ c. c.0 == t && c.1 == n) takes

-- Each take that the journal names is whole, but for those that had failed, and for no more than writes failed since.
pub record AreWholeBut (run : Recorded) (journal : List Entry) (f : Taking) (before after : ℕ) (files : Files) : Type 0 where
  -- these, each by its track and its number
  pub cut : List (ℕ × ℕ)
  -- no more of them than the count of failed writes rose by; it stands still at its end
  pub many : min (before + length cut) (2 ^ 64 - 1) ≤ after
  pub whole : (t n : ℕ) → t < length run.session.tracks.items → names_take t n journal ≡ true → has_failed f t n ≡ false → is_among t n cut ≡ false →
      files (take_name run.session t n) ≡ Some (take_file run.session run.input t n journal)
