-- How letters follow one another.
use Rattle.std.proofs.Common.{◌≡◌, ◌≢◌, ℕ, List, [], ◌∷◌, ◌++◌, refl}
use Rattle.session_model.specs.declared.session.Session.{Session}
use Rattle.engine_model.specs.Lines.{Line}
use Rattle.machine_model.specs.Letters.{Letter, B, C, E, G, P, Machine, by_letter, by_letters}
use Rattle.serial_laws.specs.Standing.{Standing, machine_of, worked}

-- letters, and more of them
pub letters_on : (s : Session) (cycles : ℕ) (m : Machine) (xs ys : List Letter) → by_letters s cycles m (xs ++ ys) ≡ by_letters s cycles (by_letters s cycles m xs) ys
letters_on s cycles m [] ys = refl
letters_on s cycles m (x ∷ xs) ys = letters_on s cycles (by_letter s cycles m x) xs ys

-- a letter of the workers is the same whatever lines are to come, and leaves control
pub by_worker : (s : Session) (cycles : ℕ) (letter : Letter) (st : Standing) (more : List Line) → letter ≢ C → by_letter s cycles (machine_of st more) letter ≡ machine_of (worked s cycles letter st) more
by_worker s cycles B st more not = refl
by_worker s cycles C st more not = absurd (not refl)
by_worker s cycles E st more not = refl
by_worker s cycles G st more not = refl
by_worker s cycles P st more not = refl
