-- Tables by their keys, and the values that stand in them.
use Rattle.std.specs.Prelude.{ℕ, pos, List, [], ◌∷◌, map}
use Rattle.std.specs.Ordering.{nat_cmp, match_ordering}
use Rattle.std.specs.Cmp.Lexicographic.{slice_cmp}
use Rattle.toml.specs.Data.{Data, integer, array, table, Members, no_members, member}
use Rattle.toml.specs.View.{items_of}
use Rattle.sound_model.specs.Lanes as sound
use Rattle.session_model.specs.declared.key.Key.{Key}
use Rattle.session_walk.specs.Words.{word}

-- ---- tables

-- members, whose keys rise, with a value at one key
abbrev pub with_member : List ℕ → Data → Members → Members
with_member name value no_members = member name value no_members
with_member name value (member other here rest) = match_ordering (slice_cmp nat_cmp name other)
    (member name value (member other here rest)) (member other value rest) (member other here (with_member name value rest))

-- with a value at each of these keys, put one after another
abbrev pub with_keys : List (Key × Data) → Members → Members
with_keys [] members = members
with_keys ((key, value) ∷ rows) members = with_keys rows (with_member (word key) value members)

-- the table of these keys alone
abbrev pub keyed : List (Key × Data) → Members
keyed rows = with_keys rows no_members

-- ---- values

abbrev pub number : ℕ → Data
number n = integer (pos n)

abbrev pub values : List Data → Data
values items = array (items_of items)

-- an array of tables
abbrev pub tables : {A : Type 0} → (A → Members) → List A → Data
tables table_of xs = values (map (λ x. table (table_of x)) xs)

-- a point of a lane is a pair of its position and its gain
abbrev pub pair : sound.Point → Data
pair p = values (number p.at ∷ number p.gain ∷ [])

abbrev pub pairs : List sound.Point → Data
pairs lane = values (map pair lane)
