-- Worked values: a session without a file.
use Rattle.std.proofs.Common.{◌≡◌, ℕ, refl, List, Option, None, codes}
use Rattle.std.specs.Prelude.{Err}
use Rattle.session_model.specs.declared.refusal.SessionRefusal.TheVariants.{Absent}
use Rattle.session_opening.specs.Plan.{SessionRefused, read_session, session_plan}

-- no files
abbrev nothing : List ℕ → Option (List ℕ)
nothing q = None

no_file : session_plan nothing (codes "s.toml") ≡ Err (SessionRefused Absent)
unfolding session_plan read_session
no_file = refl
