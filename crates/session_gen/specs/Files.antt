-- The files of a made session.
use Rattle.std.specs.Prelude.{◌≡◌, ℕ, List, Some, Ok, codes}
use Rattle.ses_io.specs.Files.{Files}
use Rattle.session_toml.specs.Session.{session}
use Rattle.made_session.specs.Made.{made_session}
use Rattle.made_session.specs.Tone.{tone}

-- There are its text and the file of its source.
pub record HasMade (n : ℕ) (files : Files) : Type 0 where
  pub text : List ℕ
  pub of_file : files (codes "gen.toml") ≡ Some text
  pub is_made : session text ≡ Ok (made_session n)
  pub source : files (codes "g.wav") ≡ Some tone
