-- How a step of the serial rest leads the core machine on, wherever control stands.
use Rattle.std.specs.Prelude.{◌≡◌, ℕ, List}
use Rattle.session_model.specs.declared.session.Session.{Session}
use Rattle.engine_model.specs.Lines.{Line}
use Rattle.machine_model.specs.Core.{Core}
use Rattle.machine_model.specs.Rest.{Phase, Between, Play, task_of}
use Rattle.serial_laws.specs.Leads.{Run, HasGoneOn}
use Rattle.serial_laws.specs.Standing.{Standing, MayCome, machine_of}

-- **One state leads to another.** Whatever run has come to the first in one phase of its rest has come to the second in the other: the
-- workers go on, and control stands as it stood.
abbrev pub LeadsOn : Session → ℕ → Phase → Core → Phase → Core → Type 0
LeadsOn s cycles phase c next d = (run : Run) (st : Standing) → HasGoneOn s cycles run phase (record st { core = c }) → HasGoneOn s cycles run next (record st { core = d })

-- a cycle is next, whatever lines may follow
abbrev pub IsToPlay : ℕ → Standing → Type 0
IsToPlay cycles st = (more : List Line) → MayCome st more → task_of cycles (machine_of st more) ≡ Play

-- where it is, one state leads to another between two cycles
abbrev pub PlaysOn : Session → ℕ → Core → Core → Type 0
PlaysOn s cycles c d = (run : Run) (st : Standing) → IsToPlay cycles (record st { core = c }) → HasGoneOn s cycles run Between (record st { core = c }) →
    HasGoneOn s cycles run Between (record st { core = d })
