-- A part of a session's text: where it stands, its keys and their values (TOML 1.0 by the reading of `toml`).
use Rattle.std.specs.Prelude.{ℕ, Bool, true, false, ◌&&◌, if◌then◌else◌, List, map, Option, Result, Ok, Err, bytes_eq}
use Rattle.std.specs.Option.{option_map}
use Rattle.std.specs.Borrow.{Bor}
use Rattle.std.specs.List.{list_any}
use Rattle.toml.specs.Data.{Data, Members, no_members, member, get_member}
use Rattle.toml.specs.View.{view, table_view}
use Rattle.toml.specs.declared.value.Value.{Value}
use Rattle.session_model.specs.declared.key.Key.{Key}
use Rattle.session_model.specs.declared.refusal.Part.{Part}
use Rattle.session_model.specs.declared.refusal.Part.TheVariants as part
use Rattle.session_model.specs.declared.refusal.Place.{Place}
use Rattle.session_model.specs.declared.refusal.SessionRefusal.{SessionRefusal}
use Rattle.session_model.specs.declared.refusal.SessionRefusal.TheVariants.{Unknown}
use Rattle.session_walk.specs.declared.section.Section as code
use Rattle.session_walk.specs.Words.{word}

-- what is read, or the first refusal
abbrev pub Read : Type 0 → Type 0
Read A = Result A SessionRefusal

infixl 10 ◌>>=◌
abbrev pub ◌>>=◌ : {A B : Type 0} → Read A → (A → Read B) → Read B
(Ok x) >>= f = f x
(Err e) >>= f = Err e

-- a rule that is kept, or what its breach is refused for
abbrev pub holds : Bool → SessionRefusal → Read (Unit {0})
holds true e = Ok tt
holds false e = Err e

pub record Section : Type 0 where
  pub place : Place
  pub members : Members

abbrev pub value_at : Section → Key → Option Data
value_at s key = get_member (word key) s.members

-- every key is one of these
abbrev pub only_these : List (List ℕ) → Members → Bool
only_these words no_members = true
only_these words (member key value rest) = list_any (bytes_eq key) words && only_these words rest

-- the section has no other keys
abbrev pub only : Section → List Key → Read (Unit {0})
only s keys = holds (only_these (map word keys) s.members) (Unknown s.place)

-- ---- places

-- regions and sends are items of a row
abbrev pub has_items : Part → Bool
has_items part.Region = true
has_items part.TrackSend = true
has_items part.BusSend = true
has_items _ = false

-- the place of entry n, counted from 1, of an array whose entries stand as `base` says
abbrev pub nth : Place → ℕ → Place
nth base n = if has_items base.part then record base { item = n } else record base { row = n }

abbrev pub single : Part → Place
single part = record { part = part; row = 1; item = 0 }

abbrev pub row_of : Part → Place
row_of part = record { part = part; row = 0; item = 0 }

abbrev pub item_of : Part → ℕ → Place
item_of part row = record { part = part; row = row; item = 0 }

-- ---- what the code holds of it

abbrev pub section_of : code.Section → Section
section_of s = record { place = s.place; members = table_view s.table.now }

-- a value that was lent, if one was
abbrev pub seen : Option (Bor Value) → Option Data
seen value = option_map (λ v. view v.now) value

-- a value that is lent, or the refusal
abbrev pub lent : Result (Bor Value) SessionRefusal → Read Data
lent (Ok value) = Ok (view value.now)
lent (Err refusal) = Err refusal

-- a text that is lent, or the refusal
abbrev pub spoken : Result (Bor (List ℕ)) SessionRefusal → Read (List ℕ)
spoken (Ok text) = Ok text.now
spoken (Err refusal) = Err refusal
