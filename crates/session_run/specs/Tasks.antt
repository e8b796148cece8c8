-- What the words of a command line ask to be done. What isn't built yet is no command: a play on threads.
use Rattle.std.specs.Prelude.{ℕ, ◌*◌, ◌≤◌, List, [], Option, Some, None}
use Rattle.std.specs.Borrow.{Bor}
use Rattle.std.specs.Option.{option_map, option_and_then}
use Rattle.machine_model.specs.Letters.{Letter}
use Rattle.command_words.specs.Spoken.{texts, render_view, verify_view, IsRenderInRange}
use Rattle.command_words.specs.Words.{Command, Export, Mode, Play, Render, Verify, Serial, Steps, Seed, Threads, ToCheck, ToRender, ToExport, ToMigrate, ToPlay, ToVerify, ToGen, command}
use Rattle.run_letters.specs.Letters.{letters_in, seed_letters}
use Rattle.session_play.specs.Request.{Request, IsAsked, request_view}
use Rattle.session_run.specs.declared.task.Task as code
use Rattle.session_run.specs.declared.task.Task.TheVariants as of_code

pub data Task : Type 0 where
  -- a run on one thread: an export or a play
  Runs : Request → Task
  -- by the name of the session's file
  Migrates : List ℕ → Task
  Checks : List ℕ → Task
  Renders : Render → Task
  Verifies : Verify → Task
  -- by the number of the session that is made
  Gens : ℕ → Task

-- ---- by commands

-- an export is a run by its own two lines: locate there, and roll
abbrev pub export_request : Export → Request
export_request e = record { session = e.session; cycles = e.cycles; script = Some e.from; letters = [] }

-- the letters of a play; none of one that is to run on threads
abbrev pub letters_by : Mode → ℕ → Option (List Letter)
letters_by Serial cycles = Some []
letters_by (Steps text) cycles = Some (letters_in text)
letters_by (Seed seed) cycles = Some (seed_letters (16 * cycles) seed)
letters_by (Threads patience) cycles = None

-- a play is a run by control's lines
abbrev pub play_request : Play → List Letter → Request
play_request p letters = record { session = p.session; cycles = p.cycles; script = None; letters = letters }

abbrev pub task_of : Command → Option Task
task_of (ToExport e) = Some (Runs (export_request e))
task_of (ToPlay p) = option_map (λ letters. Runs (play_request p letters)) (letters_by p.mode p.cycles)
task_of (ToMigrate session) = Some (Migrates session)
task_of (ToCheck session) = Some (Checks session)
task_of (ToRender r) = Some (Renders r)
task_of (ToVerify v) = Some (Verifies v)
task_of (ToGen n) = Some (Gens n)

-- **what the words ask for**
abbrev pub asked_by : List (Bor (List ℕ)) → Option Task
asked_by words = option_and_then task_of (command (texts words))

-- ---- as code has it

abbrev pub task_view : code.Task → Task
task_view (of_code.Run q) = Runs (request_view q)
task_view (of_code.Migrate session) = Migrates session.now
task_view (of_code.Check session) = Checks session.now
task_view (of_code.Render r) = Renders (render_view r)
task_view (of_code.Verify v) = Verifies (verify_view v)
task_view (of_code.Gen number) = Gens number

-- its numbers lie in their ranges
abbrev pub IsTaskInRange : code.Task → Type 0
IsTaskInRange (of_code.Run q) = IsAsked q
IsTaskInRange (of_code.Migrate session) = Unit {0}
IsTaskInRange (of_code.Check session) = Unit {0}
IsTaskInRange (of_code.Render r) = IsRenderInRange r
IsTaskInRange (of_code.Verify v) = Unit {0}
IsTaskInRange (of_code.Gen number) = number ≤ 8191
