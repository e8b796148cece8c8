-- How the take files of a journal are closed, one after another (own).
use Rattle.std.specs.Prelude.{◌≡◌, ℕ, zero, suc, ◌+◌, ◌*◌, ◌-◌, ◌%◌, ◌^◌, ◌==◌, ◌<◌, ◌≤◌, min, Bool, true, false, ◌⊎◌, if◌then◌else◌, List, [], ◌∷◌, ◌++◌, length, drop, replicate, Option, Some, None}
use Rattle.std.specs.Option.{option_map_or}
use Rattle.ses_io.specs.Faults.{risen}
use Rattle.ses_io.specs.Files.{Files, content, with_file}
use Rattle.ses_io.specs.Outside.{MediaOutside}
use Rattle.sound_model.specs.Wav.{header}
use Rattle.session_model.specs.declared.session.Session.{Session}
use Rattle.engine_model.specs.Journal.{Take, Off, Taken, Lost, Entry, note_of}
use Rattle.engine_model.specs.Takes.{take_form, take_name}
use Rattle.capture_flush.specs.declared.run.Run.{Run}
use Rattle.capture_flush.specs.Taking.{Taking, has_failed}
use Rattle.capture_flush.specs.Flushed.{no_blocks, block_bytes, IsFront}

-- ---- the takes of a track, as they follow one another in a journal

-- the take that is open after a note: one block longer, and filled so far where its block was taken; none where nothing was recorded
abbrev pub open_after : Option Run → Take → Option Run
open_after before Off = None
open_after before (Taken n i) = let blocks = option_map_or (λ r. r.blocks) before 0 in Some (record { take = n; blocks = suc blocks; filled = suc blocks })
open_after before (Lost n i head) = Some (record { take = n; blocks = suc (option_map_or (λ r. r.blocks) before 0); filled = option_map_or (λ r. r.filled) before 0 })

-- the take that a note ends
abbrev pub ended_by : Option Run → Take → List Run
ended_by None take = []
ended_by (Some run) Off = run ∷ []
ended_by (Some run) (Taken n i) = []
ended_by (Some run) (Lost n i head) = []

-- the takes of track t in these entries, where one may be open before them
abbrev pub runs_from : Option Run → ℕ → List Entry → List Run
runs_from None t [] = []
runs_from (Some run) t [] = run ∷ []
runs_from before t (e ∷ es) = ended_by before (note_of t e).take ++ runs_from (open_after before (note_of t e).take) t es

abbrev pub runs_of : ℕ → List Entry → List Run
runs_of t journal = runs_from None t journal

-- ---- one file

-- what is put behind the blocks that came: a header where none did, zeros for those lost at the end, and the pad byte
-- `size`: the bytes of a block
abbrev pub ending_of : List ℕ → ℕ → Run → List ℕ
ending_of none size run = (if run.filled == 0 then none else [])
    ++ (replicate ((run.blocks - run.filled) * size) 0 ++ replicate (run.blocks * size % 2) 0)

abbrev pub ending : Session → ℕ → Run → List ℕ
ending s t run = ending_of (no_blocks s t) (block_bytes s t) run

-- the file, where it held these bytes
abbrev pub closed_file : Session → ℕ → Run → List ℕ → List ℕ
closed_file s t run held = header (take_form s t) (run.blocks * block_bytes s t) ++ drop 44 (held ++ ending s t run)

abbrev pub closed : Session → ℕ → Run → Files → Files
closed s t run files = let name = take_name s t run.take in with_file files name (closed_file s t run (content files name))

-- no file changed but that one, which isn't shorter, and has a front of its sound from byte 44 on
abbrev pub ClosesInPart : Session → ℕ → Run → Files → Files → Type 0
ClosesInPart s t run old new = let name = take_name s t run.take in (new ≡ old)
    ⊎ ((bytes : List ℕ) × (new ≡ with_file old name bytes) × (length (content old name) ≤ length bytes) × IsFront (drop 44 bytes) (drop 44 (content old name ++ ending s t run)))

-- where blocks of a take came, its file has a header
abbrev pub HasHead : Session → ℕ → Files → Run → Type 0
HasHead s t files run = 0 < run.filled → 44 ≤ length (content files (take_name s t run.take))

-- so it is unless the take has failed
abbrev pub HasHeadUnless : Taking → Session → ℕ → Files → Run → Type 0
HasHeadUnless f s t files run = has_failed f t run.take ≡ false → HasHead s t files run

-- ---- all files

-- these takes of track t, each by its track, but for those that have failed
abbrev pub track_runs : Taking → ℕ → List Run → List (ℕ × Run)
track_runs f t [] = []
track_runs f t (r ∷ rs) = if has_failed f t r.take then track_runs f t rs else (t, r) ∷ track_runs f t rs

-- those of so many tracks from track t on
abbrev pub all_runs : Taking → List Entry → ℕ → ℕ → List (ℕ × Run)
all_runs f journal t zero = []
all_runs f journal t (suc more) = track_runs f t (runs_of t journal) ++ all_runs f journal (suc t) more

-- each of the takes was closed, but those of the list `cut`, each by its track and its number, in part
abbrev pub ClosesBut : Session → List (ℕ × Run) → List (ℕ × ℕ) → Files → Files → Type 0
ClosesBut s [] cut old new = (cut ≡ []) × (new ≡ old)
ClosesBut s (x ∷ xs) cut old new = ClosesBut s xs cut (closed s x.0 x.1 old) new
    ⊎ ((middle : Files) × (rest : List (ℕ × ℕ)) × (cut ≡ (x.0, x.1.take) ∷ rest) × ClosesInPart s x.0 x.1 old middle × ClosesBut s xs rest middle new)

-- What closing takes leaves of a media, and whether a write failed.
pub record Ends {V : Type 0} (outside : MediaOutside V) (s : Session) (xs : List (ℕ × Run)) (old new : V) (failed : Bool) : Type 0 where
  -- each was closed, but these
  pub cut : List (ℕ × ℕ)
  pub files : outside.tells → ClosesBut s xs cut (outside.files old) (outside.files new)
  -- for each of which a write failed; the count stands still at its end
  pub many : min (outside.write_faults old + length cut) (2 ^ 64 - 1) ≤ outside.write_faults new
  -- the count rose where one failed, and else there are none
  pub later : outside.write_faults old ≤ outside.write_faults new
  pub rose : failed ≡ true → risen (outside.write_faults old) ≤ outside.write_faults new
  pub fine : failed ≡ false → (cut ≡ []) × (outside.write_faults new ≡ outside.write_faults old)
  -- no read failed
  pub reads : outside.read_faults new ≡ outside.read_faults old
