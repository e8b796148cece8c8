-- What the code has of lists and shapes, as the definitions have it.
use Rattle.std.proofs.Common.{◌≡◌, ℕ, zero, suc, ◌+◌, ◌<◌, ◌≤◌, refl, ap, sym, ◌∙◌, subst, arith, List, [], ◌∷◌, ◌++◌, length, map, take, get_or, slice_get, All, Some, Vec, Global, BTreeMap, String}
use Rattle.std.proofs.lemmas.List.{take_more, take_all, map-append, get_or-map, length-map}
use Rattle.std.proofs.lemmas.List.Elements.{All-more}
use Rattle.toml.specs.Data.{Data, Members, array, table}
use Rattle.toml.specs.View.{items_of, view, table_view}
use Rattle.toml.specs.declared.value.Value.{Value, Array, Table}
use Rattle.toml.proofs.Views.{view-Array, view-Table}
use Rattle.ses_units.specs.Shape.{shape_of}
use Rattle.ses_units.specs.declared.shape.Shape.{Shape}
use Rattle.ses_units.specs.declared.shape.Shape.TheVariants.{Linear, Slow}
use Rattle.session_text.specs.Tables.{values, tables}
use Rattle.session_text.specs.Said.{said_shape}
use Rattle.session_text.proofs.ListLaws.{map-map}

pub shape-said : (s : Shape) → said_shape (shape_of s) ≡ s
shape-said Linear = refl
shape-said Slow = refl

-- what holds of each item's view holds of the item that is read
pub of-item : {A B : Type 0} (P : B → Type 0) (f : A → B) (xs : List A) (ys : List B) (i : ℕ) (x : A) → map f xs ≡ ys → All P ys → i < length xs → x ≡ get_or xs i x → P (f x)
of-item P f xs ys i x is all h at = subst P (get_or-map f xs i x (f x) h ∙ ap f (sym at)) (subst (All P) (sym is) all i (f x) (omega (arith, length-map xs f)))

-- one more value is written
pub one-more : {A : Type 0} (f : A → Data) (xs : List A) (i : ℕ) (x : A) (out next : List Value) (v : Value) → map view out ≡ map f (take i xs) → next ≡ out ++ v ∷ [] → view v ≡ f x →
    i < length xs → x ≡ get_or xs i x → map view next ≡ map f (take (i + 1) xs)
one-more f xs i x out next v before pushed same h at =
    ap (map view) pushed ∙ map-append view out (v ∷ []) ∙ ap (λ ys. ys ++ view v ∷ []) before ∙ ap (λ y. map f (take i xs) ++ y ∷ []) (same ∙ ap f at)
    ∙ sym (ap (map f) (take_more xs i x h) ∙ map-append f (take i xs) (get_or xs i x ∷ []))

-- all of them are written
pub all-written : {A : Type 0} (f : A → Data) (xs : List A) (i : ℕ) (out : Vec Value Global) → map view out.items ≡ map f (take i xs) → length xs ≤ i → view (Array out) ≡ values (map f xs)
all-written f xs i out written h = view-Array out ∙ ap (λ ds. array (items_of ds)) (written ∙ ap (map f) (take_all i xs h))

-- and they are tables of what is said of each item's view
pub tables-written : {A B C : Type 0} (table_of : C → Members) (say : B → C) (see : A → B) (xs : List A) (ys : List B) (i : ℕ) (out : Vec Value Global) →
    map view out.items ≡ map (λ x. table (table_of (say (see x)))) (take i xs) → length xs ≤ i → map see xs ≡ ys → view (Array out) ≡ tables table_of (map say ys)
tables-written table_of say see xs ys i out written h is =
    all-written (λ x. table (table_of (say (see x)))) xs i out written h
    ∙ ap values (sym (map-map see (λ y. table (table_of (say y))) xs) ∙ ap (map (λ y. table (table_of (say y)))) is ∙ sym (map-map say (λ z. table (table_of z)) ys))

pub table-view : (t : BTreeMap (String Global) Value) (m : Members) → table_view t ≡ m → view (Table t) ≡ table m
table-view t m is = view-Table t ∙ ap table is

-- ---- a loop over items, each of which is written and keeps what its type asks

pub record Wrote {A : Type 0} (f : A → Data) (Kept : A → Type 0) (xs : List A) (i : ℕ) (out : List Value) : Type 0 where
  pub written : map view out ≡ map f (take i xs)
  pub kept : All Kept (take i xs)

pub wrote-none : {A : Type 0} (f : A → Data) (Kept : A → Type 0) (xs : List A) (out : List Value) → out ≡ [] → Wrote f Kept xs 0 out
wrote-none f Kept xs out e = record { written = rw e refl; kept = λ k d h. absurd (omega arith) }

pub wrote-more : {A : Type 0} (f : A → Data) (Kept : A → Type 0) (xs : List A) (i : ℕ) (x : A) (out next : List Value) (v : Value) → Wrote f Kept xs i out → next ≡ out ++ v ∷ [] →
    view v ≡ f x → Kept x → i < length xs → x ≡ get_or xs i x → Wrote f Kept xs (i + 1) next
wrote-more f Kept xs i x out next v before pushed same kept h at =
    record {
      written = one-more f xs i x out next v before.written pushed same h at;
      kept = All-more Kept xs i x h before.kept (subst Kept at kept);
    }

pub kept-all : {A : Type 0} (f : A → Data) (Kept : A → Type 0) (xs : List A) (i : ℕ) (out : List Value) → Wrote f Kept xs i out → length xs ≤ i → All Kept xs
kept-all f Kept xs i out wrote h = let P : List _ → Type 0 = All Kept in subst P (take_all i xs h) wrote.kept

pub read-item : {A : Type 0} (P : A → Type 0) (xs : List A) (i : ℕ) (x : A) → All P xs → i < length xs → x ≡ get_or xs i x → P x
read-item P xs i x all h at = subst P (sym at) (all i x h)

pub item-got : {A : Type 0} (xs : List A) (i : ℕ) (x : A) → i < length xs → x ≡ get_or xs i x → slice_get xs i ≡ Some x
item-got [] i x h e = absurd (omega arith)
item-got (y ∷ ys) zero x h e = ap Some (sym e)
item-got (y ∷ ys) (suc i) x h e = item-got ys i x (omega arith) e
