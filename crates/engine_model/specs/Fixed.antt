-- What no edit changes of a session (own).
use Rattle.std.specs.Prelude.{ℕ, List, Option, map}
use Rattle.ses_units.specs.declared.bits.Bits.{Bits}
use Rattle.session_model.specs.declared.route.RouteKind.{RouteKind}
use Rattle.session_model.specs.declared.session.SourceDecl.{SourceDecl}
use Rattle.session_model.specs.declared.session.Session.{Session}

pub record FixedRoute : Type 0 where
  pub name : List ℕ
  pub kind : RouteKind
  pub channels : ℕ

pub record FixedTrack : Type 0 where
  pub route : ℕ
  pub input : Option ℕ

pub record Fixed : Type 0 where
  pub rate : ℕ
  pub bits : Bits
  pub block : ℕ
  pub depth : ℕ
  -- how the names of the take files begin
  pub takes : List ℕ
  pub sources : List SourceDecl
  pub routes : List FixedRoute
  pub tracks : List FixedTrack

abbrev pub fixed_of : Session → Fixed
fixed_of s = record {
  rate = s.rate;
  bits = s.bits;
  block = s.block;
  depth = s.depth;
  takes = s.takes;
  sources = s.sources.items;
  routes = map (λ q. record { name = q.name; kind = q.kind; channels = q.channels }) s.routes.items;
  tracks = map (λ k. record { route = k.route; input = k.input }) s.tracks.items;
}
