-- What is said of a run's letters, one after another.
use Rattle.std.specs.Prelude.{◌≡◌, ◌≢◌, ℕ, true, List, [], ◌∷◌, ◌++◌, Some}
use Rattle.session_model.specs.declared.session.Session.{Session}
use Rattle.engine_model.specs.Lines.{Line}
use Rattle.machine_model.specs.Letters.{Letter, C, begins, by_letters}
use Rattle.machine_model.specs.Rest.{Phase, Between, Over, is_rest, next_letter}
use Rattle.serial_laws.specs.Standing.{Standing, MayCome, at_first, machine_of, worked}
use Rattle.serial_laws.specs.Leads.{Run, before_rest, HasCome, HasGoneOn, Carries, IsDue, StaysPut}

-- ---- letters that are given

abbrev pub ARunBegins : Type 0
ARunBegins = (s : Session) (cycles : ℕ) → HasCome s cycles (record { letters = []; lines = [] }) (at_first s)

-- a letter of the workers
abbrev pub TheWorkersGoOn : Type 0
TheWorkersGoOn = (s : Session) (cycles : ℕ) (run : Run) (st : Standing) (letter : Letter) → letter ≢ C → HasCome s cycles run st →
    HasCome s cycles (record run { letters = run.letters ++ letter ∷ [] }) (worked s cycles letter st)

-- a letter of control, by the lines that it took
abbrev pub ControlGoesOn : Type 0
ControlGoesOn = (s : Session) (cycles : ℕ) (run : Run) (old new : Standing) (taken : List Line) → Carries s cycles old taken new → HasCome s cycles run old →
    HasCome s cycles (record { letters = run.letters ++ C ∷ []; lines = run.lines ++ taken }) new

-- ---- the serial rest

abbrev pub TheRestBegins : Type 0
TheRestBegins = (s : Session) (cycles : ℕ) (run : Run) (st : Standing) → HasCome s cycles run st → HasGoneOn s cycles run Between st

-- a line is carried out
abbrev pub ALineIsCarriedOut : Type 0
ALineIsCarriedOut = (s : Session) (cycles : ℕ) (run : Run) (old new : Standing) (taken : List Line) → Carries s cycles old taken new → IsDue s cycles old taken new →
    HasGoneOn s cycles run Between old → HasGoneOn s cycles (record run { lines = run.lines ++ taken }) Between new

-- where nothing has changed no letter is needed, as when it is found that no line is left
abbrev pub NoLetterIsNeeded : Type 0
NoLetterIsNeeded = (s : Session) (cycles : ℕ) (run : Run) (phase : Phase) (old new : Standing) → StaysPut old new → HasGoneOn s cycles run phase old → HasGoneOn s cycles run phase new

-- a letter of the workers that is next leads on
abbrev pub TheNextLetterLeadsOn : Type 0
TheNextLetterLeadsOn = (s : Session) (cycles : ℕ) (run : Run) (phase next : Phase) (st : Standing) (letter : Letter) → letter ≢ C →
    ((more : List Line) → MayCome st more → next_letter s cycles phase (machine_of st more) ≡ Some (letter, next)) → HasGoneOn s cycles run phase st → HasGoneOn s cycles run next (worked s cycles letter st)

-- **At its end the run is the core machine's**: there are letters that are its serial rest, and after all letters the machine stands so.
pub record IsRun (s : Session) (cycles : ℕ) (run : Run) (st : Standing) (more : List Line) : Type 0 where
  pub rest : List Letter
  pub is_rest_of : is_rest s cycles (before_rest s cycles run more) rest ≡ true
  pub ends : by_letters s cycles (begins s (run.lines ++ more)) (run.letters ++ rest) ≡ machine_of st more

abbrev pub TheRunIsTheMachines : Type 0
TheRunIsTheMachines = (s : Session) (cycles : ℕ) (run : Run) (st : Standing) (more : List Line) → HasGoneOn s cycles run Over st → MayCome st more → IsRun s cycles run st more
