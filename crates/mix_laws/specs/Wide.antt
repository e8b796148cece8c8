-- What a formed session keeps of its links.
use Rattle.sound_laws.specs.Desks.{LeadsWide}
use Rattle.session_model.specs.declared.session.Session.{Session}
use Rattle.session_model.specs.Formed.{IsFormed}
use Rattle.session_model.specs.Views.{routes_of}

-- each link leads to a route with no fewer channels
abbrev pub LinksLeadWide : Type 0
LinksLeadWide = (s : Session) → IsFormed s → LeadsWide (routes_of s)
