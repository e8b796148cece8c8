-- What the words of the command line mean (own). Words are lists of bytes.
use Rattle.std.specs.Prelude.{ℕ, ◌+◌, ◌-◌, ◌*◌, Bool, ◌&&◌, ◌==◌, nat_le, if◌then◌else◌, List, [], ◌∷◌, length, Option, Some, None, codes}
use Rattle.std.specs.List.{list_all, list_any}
use Rattle.std.specs.Option.{option_map, option_and_then}
use Rattle.session_model.specs.FileName.{is_file_name}
use Rattle.command_words.specs.Options as option
use Rattle.command_words.specs.Options.{Kind, Setting, Parts, parted}
use Rattle.command_words.specs.Verbs as verb
use Rattle.command_words.specs.Verbs.{Verb, verb_of}

-- ---- numbers

abbrev pub is_digit : ℕ → Bool
is_digit b = nat_le 48 b && nat_le b 57

-- what decimal digits stand for, after digits that stand for n
abbrev pub digits : ℕ → List ℕ → Option ℕ
digits n [] = Some n
digits n (b ∷ bs) = if is_digit b then digits (10 * n + (b - 48)) bs else None

-- the number that a word of 1 to 20 decimal digits is
abbrev pub number : List ℕ → Option ℕ
number word = if nat_le 1 (length word) && nat_le (length word) 20 then digits 0 word else None

-- a number that lies in a range
abbrev pub within : ℕ → ℕ → Option ℕ → Option ℕ
within low high None = None
within low high (Some n) = if nat_le low n && nat_le n high then Some n else None

-- ---- commands

-- `export S FROM CYCLES`
pub record Export : Type 0 where
  -- the name of the session's file
  pub session : List ℕ
  -- the first position, in frames
  pub from : ℕ
  pub cycles : ℕ

-- `render S FROM FRAMES`
pub record Render : Type 0 where
  -- the name of the session's file
  pub session : List ℕ
  -- the first position, in frames
  pub from : ℕ
  pub frames : ℕ

-- how the workers of a run take turns
pub data Mode : Type 0 where
  -- on one thread, in the plain order
  Serial : Mode
  -- on one thread, by these letters
  Steps : List ℕ → Mode
  -- on one thread, by letters made of this number
  Seed : ℕ → Mode
  -- on threads, by how often the process looks again
  Threads : ℕ → Mode

-- `play S CYCLES`, with its options
pub record Play : Type 0 where
  -- the name of the session's file
  pub session : List ℕ
  pub cycles : ℕ
  pub mode : Mode

-- `verify S REPORT MASTER`: three names of files
pub record Verify : Type 0 where
  pub session : List ℕ
  pub report : List ℕ
  pub master : List ℕ

pub data Command : Type 0 where
  -- `check S`, by the name of the session's file
  ToCheck : List ℕ → Command
  ToRender : Render → Command
  ToExport : Export → Command
  -- `migrate S`, by the same
  ToMigrate : List ℕ → Command
  ToPlay : Play → Command
  ToVerify : Verify → Command
  -- `gen N`
  ToGen : ℕ → Command

-- ---- what each takes

-- what two values make, where both are there
abbrev pub both_in : {A B C : Type 0} → (A → B → C) → Option A → Option B → Option C
both_in make None n = None
both_in make (Some m) None = None
both_in make (Some m) (Some n) = Some (make m n)

-- a file's name, a position below 2^40, and 1 to 100,000 cycles
unfoldable pub export_of : List ℕ → List ℕ → List ℕ → Option Export
export_of session from cycles = if is_file_name session
    then both_in (λ m n. record { session = session; from = m; cycles = n }) (within 0 1099511627775 (number from)) (within 1 100000 (number cycles)) else None

-- a file's name, a position below 2^40, and 1 to 409,600,000 frames
unfoldable pub render_of : List ℕ → List ℕ → List ℕ → Option Render
render_of session from frames = if is_file_name session
    then both_in (λ m n. record { session = session; from = m; frames = n }) (within 0 1099511627775 (number from)) (within 1 409600000 (number frames)) else None

-- 1 to 10,000 letters of `cbegp`
abbrev pub is_letter : ℕ → Bool
is_letter b = list_any (λ letter. letter == b) (codes "cbegp")

abbrev pub are_steps : List ℕ → Bool
are_steps word = nat_le 1 (length word) && nat_le (length word) 10000 && list_all is_letter word

-- a mode, by the value of its option
abbrev pub mode_by : Kind → List ℕ → Option Mode
mode_by option.Seed value = option_map Seed (within 0 18446744073709551615 (number value))
mode_by option.Steps value = if are_steps value then Some (Steps value) else None
mode_by option.Patience value = option_map Threads (within 1 100000000 (number value))

-- The mode that options make. No option comes twice, and each excludes the others: so at most one comes.
abbrev pub mode_of : List Setting → Option Mode
mode_of [] = Some (Threads 1000000)
mode_of (option.Serial ∷ []) = Some Serial
mode_of (option.With kind value ∷ []) = mode_by kind value
mode_of (s ∷ t ∷ ss) = None

-- a file's name, 1 to 100,000 cycles, and options
unfoldable pub play_of : List ℕ → List ℕ → List Setting → Option Play
play_of session cycles settings = if is_file_name session
    then both_in (λ n mode. record { session = session; cycles = n; mode = mode }) (within 1 100000 (number cycles)) (mode_of settings) else None

-- three names of files
unfoldable pub verify_of : List ℕ → List ℕ → List ℕ → Option Verify
verify_of session report master = if is_file_name session && is_file_name report && is_file_name master
    then Some (record { session = session; report = report; master = master }) else None

-- ---- by positional words

abbrev pub export_by : List (List ℕ) → Option Command
export_by (session ∷ from ∷ cycles ∷ []) = option_map ToExport (export_of session from cycles)
export_by _ = None

abbrev pub render_by : List (List ℕ) → Option Command
render_by (session ∷ from ∷ frames ∷ []) = option_map ToRender (render_of session from frames)
render_by _ = None

abbrev pub verify_by : List (List ℕ) → Option Command
verify_by (session ∷ report ∷ master ∷ []) = option_map ToVerify (verify_of session report master)
verify_by _ = None

abbrev pub play_by : List (List ℕ) → List Setting → Option Command
play_by (session ∷ cycles ∷ []) settings = option_map ToPlay (play_of session cycles settings)
play_by _ settings = None

abbrev pub gen_by : List (List ℕ) → Option Command
gen_by (n ∷ []) = option_map ToGen (within 0 8191 (number n))
gen_by _ = None

-- one word, a file's name
abbrev pub session_by : List (List ℕ) → Option (List ℕ)
session_by (session ∷ []) = if is_file_name session then Some session else None
session_by _ = None

-- ---- the whole

-- the words of a command without options
abbrev pub where_bare : List Setting → Option Command → Option Command
where_bare [] c = c
where_bare (s ∷ ss) c = None

-- the command of that name, with these words: `play` alone has options
abbrev pub made : Verb → Parts → Option Command
made verb.Check p = where_bare p.settings (option_map ToCheck (session_by p.positional))
made verb.Render p = where_bare p.settings (render_by p.positional)
made verb.Export p = where_bare p.settings (export_by p.positional)
made verb.Migrate p = where_bare p.settings (option_map ToMigrate (session_by p.positional))
made verb.Play p = play_by p.positional p.settings
made verb.Verify p = where_bare p.settings (verify_by p.positional)
made verb.Gen p = where_bare p.settings (gen_by p.positional)

-- the command that the words are: the first names it
abbrev pub command : List (List ℕ) → Option Command
command [] = None
command (w ∷ ws) = option_and_then (λ v. option_and_then (made v) (parted ws None)) (verb_of w)
