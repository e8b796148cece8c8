-- Arrays of a session's text: what is read of each of their items.
use Rattle.std.specs.Prelude.{ℕ, suc, List, [], ◌∷◌, length, map, nat_le, Option, Some, Result, Ok, Err}
use Rattle.std.specs.Option.{option_map, option_and_then, ok_or}
use Rattle.std.specs.Borrow.{Bor}
use Rattle.toml.specs.Data.{Data, Items, no_items, item, Members, as_array, as_table}
use Rattle.toml.specs.View.{view}
use Rattle.toml.specs.declared.value.Value.{Value}
use Rattle.ses_io.specs.FixedList.{Listed}
use Rattle.session_model.specs.declared.key.Key.{Key}
use Rattle.session_model.specs.declared.refusal.Place.{Place}
use Rattle.session_model.specs.declared.refusal.SessionRefusal.{SessionRefusal}
use Rattle.session_model.specs.declared.refusal.SessionRefusal.TheVariants.{Kind, Range}
use Rattle.session_walk.specs.Section.{Section, Read, ◌>>=◌, holds, value_at, nth}
use Rattle.session_walk.specs.Values.{or_default}

abbrev pub listed_items : Items → List Data
listed_items no_items = []
listed_items (item value rest) = value ∷ listed_items rest

-- an array, the empty one where the key is absent
abbrev pub array_of : Section → Key → Data → Read (List Data)
array_of s key value = ok_or (option_map listed_items (as_array value)) (Kind s.place key)

abbrev pub array : Section → Key → Read (List Data)
array s key = or_default [] (array_of s key) (value_at s key)

-- what is read of each item, where every one can be read
abbrev pub each : {A B : Type 0} → (A → Option B) → List A → Option (List B)
each read [] = Some []
each read (x ∷ xs) = option_and_then (λ y. option_map (λ ys. y ∷ ys) (each read xs)) (read x)

-- ---- arrays of tables

-- an array of at most so many tables
abbrev pub tables : Section → Key → ℕ → Read (List Members)
tables s key most = array s key >>= λ items. ok_or (each as_table items) (Kind s.place key) >>= λ rows.
    holds (nat_le (length rows) most) (Range s.place key) >>= λ few. Ok rows

-- the entries of an array of tables, read one after another from number n on
abbrev pub entries_from : {A : Type 0} → (Section → Read A) → Place → ℕ → List Members → Read (List A)
entries_from read base n [] = Ok []
entries_from read base n (row ∷ rows) = read (record { place = nth base n; members = row }) >>= λ one. entries_from read base (suc n) rows >>= λ others. Ok (one ∷ others)

-- the same as a list that has room for so many
abbrev pub entries : {A : Type 0} → (Section → Read A) → Place → ℕ → List Members → Read (Listed A)
entries read base room rows = entries_from read base 1 rows >>= λ all. Ok (record { items = all; room = room })

-- values that are lent, or the refusal
abbrev pub lent_all : Result (Bor (List Value)) SessionRefusal → Read (List Data)
lent_all (Ok values) = Ok (map view values.now)
lent_all (Err refusal) = Err refusal
