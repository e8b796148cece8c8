-- An array of tables is read as the items that they are written for.
use Rattle.std.proofs.Common.{◌≡◌, ℕ, suc, ◌≤◌, refl, sym, arith, List, [], ◌∷◌, length, map, All, Some}
use Rattle.std.specs.Prelude.{Ok}
use Rattle.std.proofs.lemmas.List.{length-map}
use Rattle.std.proofs.lemmas.List.Elements.{All-head, All-tail}
use Rattle.toml.specs.Data.{Members, table, as_table}
use Rattle.ses_io.specs.FixedList.{Listed}
use Rattle.session_model.specs.declared.key.Key.{Key}
use Rattle.session_model.specs.declared.refusal.Place.{Place}
use Rattle.session_walk.specs.Section.{Section, Read, value_at}
use Rattle.session_walk.specs.Arrays.{each, tables, entries_from, entries}
use Rattle.session_walk.proofs.TableLaws.{items_listed}
use Rattle.session_text.specs.Tables as text
use Rattle.session_text.proofs.KeyLaws.{below}

are-tables : {A : Type 0} (table_of : A → Members) (xs : List A) → each as_table (map (λ x. table (table_of x)) xs) ≡ Some (map table_of xs)
are-tables table_of [] = refl
are-tables table_of (x ∷ xs) = rw (are-tables table_of xs) refl

pub tables-read : {A : Type 0} (s : Section) (k : Key) (most : ℕ) (table_of : A → Members) (xs : List A) → value_at s k ≡ Some (text.tables table_of xs) → length xs ≤ most →
    tables s k most ≡ Ok (map table_of xs)
tables-read s k most table_of xs stands few = rw (
  stands,
  items_listed (map (λ x. table (table_of x)) xs),
  are-tables table_of xs,
  below (length (map table_of xs)) most (omega (arith, length-map xs table_of)),
) refl

-- a part is read of the table that it is written as, wherever that stands
abbrev pub Reads : {A : Type 0} → (Section → Read A) → (A → Members) → A → Type 0
Reads read table_of x = (p : Place) → read (record { place = p; members = table_of x }) ≡ Ok x

from-read : {A : Type 0} (read : Section → Read A) (table_of : A → Members) (base : Place) (n : ℕ) (xs : List A) → All (Reads read table_of) xs → entries_from read base n (map table_of xs) ≡ Ok xs
from-read read table_of base n [] all = refl
from-read read table_of base n (x ∷ xs) all =
    rw (All-head (Reads read table_of) x xs all _, from-read read table_of base (suc n) xs (All-tail (Reads read table_of) x xs all)) refl

pub entries-read : {A : Type 0} (read : Section → Read A) (table_of : A → Members) (base : Place) (room : ℕ) (l : Listed A) → l.room ≡ room → All (Reads read table_of) l.items →
    entries read base room (map table_of l.items) ≡ Ok l
entries-read read table_of base room l is all = rw (from-read read table_of base 1 l.items all, sym is) refl
