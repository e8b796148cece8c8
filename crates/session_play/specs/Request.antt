-- What a run is asked for, as the definitions have it.
use Rattle.std.specs.Prelude.{ℕ, ◌*◌, ◌≤◌, Bool, List, [], Option, is_none}
use Rattle.std.specs.Option.{option_map}
use Rattle.machine_model.specs.Letters.{Letter}
use Rattle.run_letters.specs.Letters.{letters_in, seed_letters}
use Rattle.session_play.specs.declared.asked.Letters as code_letters
use Rattle.session_play.specs.declared.asked.Letters.TheVariants.{Absent, Steps, Seed}
use Rattle.session_play.specs.declared.asked.Request as code

pub record Request : Type 0 where
  -- the name of the session's file
  pub session : List ℕ
  pub cycles : ℕ
  -- where an export plays from, in frames; a play reads control's lines
  pub script : Option ℕ
  -- what is done before the serial rest
  pub letters : List Letter

-- the letters of so many cycles
abbrev pub letters_of : code_letters.Letters → ℕ → List Letter
letters_of Absent cycles = []
letters_of (Steps text) cycles = letters_in text.now
letters_of (Seed seed) cycles = seed_letters (16 * cycles) seed

abbrev pub request_view : code.Request → Request
request_view q = record { session = q.session.now; cycles = q.cycles; script = option_map (λ s. s.from) q.script; letters = letters_of q.letters q.cycles }

-- only a play records
abbrev pub records : Request → Bool
records r = is_none r.script

-- So many cycles may be asked.
pub record IsAsked (q : code.Request) : Type 0 where
  pub some : 1 ≤ q.cycles
  pub few : q.cycles ≤ 100000
