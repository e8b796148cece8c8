-- A whole text: its own keys first, then part by part (own).
use Rattle.std.specs.Prelude.{ℕ, ◌-◌, if◌then◌else◌, List, [], ◌∷◌, length, None, Ok}
use Rattle.std.specs.Option.{ok_or}
use Rattle.std.specs.Str.{is_utf8}
use Rattle.toml.specs.Data.{Data, Members, no_members, as_table}
use Rattle.toml.specs.Parse.{parse_document}
use Rattle.session_model.specs.declared.key.Key.{Key}
use Rattle.session_model.specs.declared.key.Key.TheVariants as key
use Rattle.session_model.specs.declared.refusal.Part.TheVariants as part
use Rattle.session_model.specs.declared.refusal.SessionRefusal.TheVariants.{Kind, NotToml}
use Rattle.session_walk.specs.declared.said.Written.{Written}
use Rattle.session_walk.specs.Section.{Section, Read, ◌>>=◌, only, value_at, single, row_of}
use Rattle.session_walk.specs.Values.{needed, or_default}
use Rattle.session_walk.specs.Arrays.{tables, entries}
use Rattle.session_walk.specs.Parts.{head_of, source_of, track_of, bus_of, master_of}

abbrev pub table_of : Section → Key → Data → Read Members
table_of s key value = ok_or (as_table value) (Kind s.place key)

-- the table at a key that has no default
abbrev pub table : Section → Key → Read Members
table s key = needed s key >>= table_of s key

-- the same, or the empty one
abbrev pub table_or_empty : Section → Key → Read Members
table_or_empty s key = or_default no_members (table_of s key) (value_at s key)

-- the tables of a document
pub record Outline : Type 0 where
  pub session : Members
  pub sources : List Members
  pub tracks : List Members
  pub busses : List Members
  pub master : Members

abbrev pub top_keys : List Key
top_keys = key.Session ∷ key.Source ∷ key.Track ∷ key.Bus ∷ key.Master ∷ []

-- at most 64 sources, 32 tracks, and 64 routes with the master
unfoldable pub outline_of : Section → Read Outline
outline_of s = do
  known ← only s top_keys
  session ← table s key.Session
  sources ← tables s key.Source 64
  tracks ← tables s key.Track 32
  busses ← tables s key.Bus (63 - length tracks)
  master ← table_or_empty s key.Master
  Ok (record { session = session; sources = sources; tracks = tracks; busses = busses; master = master })

unfoldable pub parts_of : Outline → Read Written
parts_of o = do
  head ← head_of (record { place = single part.Session; members = o.session })
  sources ← entries source_of (row_of part.Source) 64 o.sources
  tracks ← entries (track_of head.version) (row_of part.Track) 32 o.tracks
  busses ← entries bus_of (row_of part.Bus) 63 o.busses
  master ← master_of (record { place = single part.Master; members = o.master })
  Ok (record { head = head; sources = sources; tracks = tracks; busses = busses; master = master })

-- the document that bytes are, by the reading of `toml`
unfoldable pub document : List ℕ → Read Members
document bytes = ok_or (if is_utf8 bytes then parse_document bytes else None) NotToml

unfoldable pub written : List ℕ → Read Written
written bytes = do
  members ← document bytes
  outline ← outline_of (record { place = single part.Top; members = members })
  parts_of outline
