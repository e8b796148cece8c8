-- When a session is valid: the engine takes no other.
use Rattle.sound_model.specs.Routes.{NoCycle}
use Rattle.session_model.specs.declared.session.Session.{Session}
use Rattle.session_model.specs.Formed.{IsFormed}
use Rattle.session_model.specs.Views.{routes_of}

pub record IsValid (s : Session) : Type 0 where
  -- every range and every relation between its parts is kept
  pub formed : IsFormed s
  -- no route leads back to itself by outputs and sends
  pub no_cycle : NoCycle (routes_of s)
