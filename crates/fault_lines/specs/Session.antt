-- The words that say why a session is refused. A key stands as it is written in the session.
use Rattle.std.specs.Prelude.{ℕ, List, ◌++◌, codes, decimal}
use Rattle.session_model.specs.declared.key.Key.{Key}
use Rattle.session_model.specs.declared.refusal.SessionRefusal.{SessionRefusal}
use Rattle.session_model.specs.declared.refusal.SessionRefusal.TheVariants.{Absent, TooLong, NotToml, Unknown, Missing, Kind, Range, Twice, SendTwice, RegionTwice, NoSource, NoRoute, NotBus, Channels, Cycle}
use Rattle.session_model.specs.declared.refusal.Place.{Place}
use Rattle.session_walk.specs.Words.{word}
use Rattle.fault_lines.specs.Place.{place_words}

-- a place and a key of it
abbrev pub key_words : Place → Key → List ℕ
key_words place key = place_words place ++ codes " " ++ word key

abbrev pub session_words : SessionRefusal → List ℕ
session_words Absent = codes "absent"
session_words (TooLong size) = codes "too-long " ++ decimal size
session_words NotToml = codes "not-toml"
session_words (Unknown place) = codes "unknown " ++ place_words place
session_words (Missing place key) = codes "missing " ++ key_words place key
session_words (Kind place key) = codes "kind " ++ key_words place key
session_words (Range place key) = codes "range " ++ key_words place key
session_words (Twice name) = codes "twice " ++ name
session_words (SendTwice name) = codes "send-twice " ++ name
session_words (RegionTwice name id) = codes "region-twice " ++ name ++ codes " " ++ decimal id
session_words (NoSource name) = codes "no-source " ++ name
session_words (NoRoute name) = codes "no-route " ++ name
session_words (NotBus name) = codes "not-bus " ++ name
session_words (Channels name) = codes "channels " ++ name
session_words (Cycle name) = codes "cycle " ++ name
