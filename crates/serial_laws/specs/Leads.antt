-- How the letters of a run on one thread lead it from one place to another.
use Rattle.std.specs.Prelude.{◌≡◌, ℕ, true, List, ◌++◌}
use Rattle.session_model.specs.declared.session.Session.{Session}
use Rattle.engine_model.specs.Lines.{Line}
use Rattle.machine_model.specs.Letters.{Letter, C, Machine, begins, by_letter, by_letters}
use Rattle.machine_model.specs.Rest.{Phase, Between, Carry, is_rest_from, task_of}
use Rattle.serial_laws.specs.Standing.{Standing, MayCome, machine_of}

-- a place of the serial rest: its phase, and the machine
pub record Place : Type 0 where
  pub phase : Phase
  pub machine : Machine

-- One place leads to another: whatever letters are all that is left at the second, there are letters that are all that is left at the
-- first, and both come to the same end.
abbrev pub LeadsTo : Session → ℕ → Place → Place → Type 0
LeadsTo s cycles a b = (more : List Letter) → is_rest_from s cycles b.phase b.machine more ≡ true →
    (all : List Letter) × (is_rest_from s cycles a.phase a.machine all ≡ true) × (by_letters s cycles a.machine all ≡ by_letters s cycles b.machine more)

-- A run: the letters that came before its serial rest, and the lines that were taken so far.
pub record Run : Type 0 where
  pub letters : List Letter
  pub lines : List Line

-- the machine after those letters, where these lines are still to come
abbrev pub before_rest : Session → ℕ → Run → List Line → Machine
before_rest s cycles run more = by_letters s cycles (begins s (run.lines ++ more)) run.letters

-- **The letters have come to this standing**, whatever lines may follow.
abbrev pub HasCome : Session → ℕ → Run → Standing → Type 0
HasCome s cycles run st = (more : List Line) → MayCome st more → before_rest s cycles run more ≡ machine_of st more

-- **The serial rest after them has come to this standing**, in this phase, whatever lines may follow.
abbrev pub HasGoneOn : Session → ℕ → Run → Phase → Standing → Type 0
HasGoneOn s cycles run phase st = (more : List Line) → MayCome st more →
    LeadsTo s cycles (record { phase = Between; machine = before_rest s cycles run more }) (record { phase = phase; machine = machine_of st more })

-- **Control has carried out a letter of its own**, by these lines. How many it took is for whoever says so of control.
pub record Carries (s : Session) (cycles : ℕ) (old : Standing) (taken : List Line) (new : Standing) : Type 0 where
  -- what may come after them now could come with them before
  pub may : (more : List Line) → MayCome new more → MayCome old (taken ++ more)
  pub letter : (more : List Line) → MayCome new more → by_letter s cycles (machine_of old (taken ++ more)) C ≡ machine_of new more

-- that letter was due in the serial rest
abbrev pub IsDue : Session → ℕ → Standing → List Line → Standing → Type 0
IsDue s cycles old taken new = (more : List Line) → MayCome new more → task_of cycles (machine_of old (taken ++ more)) ≡ Carry

-- Nothing has changed of what a run stands at, but, perhaps, that no line follows.
pub record StaysPut (old new : Standing) : Type 0 where
  pub may : (more : List Line) → MayCome new more → MayCome old more
  pub same : (more : List Line) → MayCome new more → machine_of old more ≡ machine_of new more
