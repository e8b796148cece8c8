-- The text of a session as a table, and the session that is read of it.
use Rattle.std.specs.Prelude.{map}
use Rattle.toml.specs.Data.{Members}
use Rattle.session_model.specs.declared.route.Route.{Route}
use Rattle.session_model.specs.declared.session.Session.{Session}
use Rattle.session_toml.specs.Built.{listed}
use Rattle.session_text.specs.Parts.{document_table}
use Rattle.session_text.specs.Said.{said_of}

-- a session as a table: version 2, and every key but that of an input that a track doesn't have
abbrev pub session_table : Session → Members
session_table s = document_table (said_of s)

abbrev pub route_as_read : Route → Route
route_as_read q = record q { sends = listed 8 q.sends.items }

-- the same session, where its lists have the room that reading gives them
unfoldable pub as_read : Session → Session
as_read s = record s {
  sources = listed 64 s.sources.items;
  routes = listed 64 (map route_as_read s.routes.items);
  tracks = listed 32 s.tracks.items;
}
