-- What is read of the items so far, and where one can't be read.
use Rattle.std.proofs.Common.{◌≡◌, ℕ, suc, ◌+◌, ◌<◌, ◌≤◌, refl, ap, ◌∙◌, sym, arith, List, [], ◌∷◌, ◌++◌, length, map, take, drop, get_or, Option, Some, None}
use Rattle.std.specs.Prelude.{Result, Ok, Err}
use Rattle.std.specs.Option.{option_map, option_and_then}
use Rattle.std.proofs.lemmas.List.{take_more, take_all, map-append, length-take-le, length-map}
use Rattle.std.proofs.Math.Seq.{split_at}
use Rattle.toml.specs.Data.{Members}
use Rattle.session_model.specs.declared.refusal.Place.{Place}
use Rattle.session_model.specs.declared.refusal.SessionRefusal.{SessionRefusal}
use Rattle.session_walk.specs.Section.{Section, Read, ◌>>=◌, nth}
use Rattle.std.specs.Result.{IsErrAnd}
use Rattle.ses_io.specs.FixedList.{Listed}
use Rattle.session_walk.specs.declared.fault.SessionFault.{SessionFault}
use Rattle.session_walk.specs.declared.fault.SessionFault.TheVariants.{Refused, NoMemory}
use Rattle.session_walk.specs.Arrays.{each, entries_from, entries}
use Rattle.session_walk.specs.Fault.{Gives}

-- ---- values

joined : {B : Type 0} (y : B) (rest next : Option (List B)) (r : Option B) (ys : List B) → ((ws : List B) → rest ≡ Some ws → next ≡ Some (ws ++ y ∷ [])) →
    option_and_then (λ w. option_map (λ ws. w ∷ ws) rest) r ≡ Some ys → option_and_then (λ w. option_map (λ ws. w ∷ ws) next) r ≡ Some (ys ++ y ∷ [])
joined y (Some ws) next (Some w) ys more f = let is : w ∷ ws ≡ ys = cc in rw (more ws refl, ← is) refl
joined y None next (Some w) ys more f = cc
joined y rest next None ys more f = cc

each_after : {A B : Type 0} (read : A → Option B) (xs : List A) (ys : List B) (x : A) (y : B) → each read xs ≡ Some ys → read x ≡ Some y →
    each read (xs ++ x ∷ []) ≡ Some (ys ++ y ∷ [])
each_after read [] ys x y so_far one = rw one (let none : ys ≡ [] = cc in rw none refl)
each_after read (z ∷ zs) ys x y so_far one = joined y (each read zs) (each read (zs ++ x ∷ [])) (read z) ys (λ ws e. each_after read zs ws x y e one) so_far

each_at_none : {A B : Type 0} (read : A → Option B) (xs rest : List A) (x : A) → read x ≡ None → each read (xs ++ x ∷ rest) ≡ None
each_at_none read [] rest x none = rw none refl
each_at_none {A} {B} read (z ∷ zs) rest x none = rw (each_at_none read zs rest x none) (go (read z))
  where
    go : (r : Option B) → option_and_then (λ w. option_map (λ (ws : List B). w ∷ ws) None) r ≡ None
    go (Some w) = refl
    go None = refl

pub each_step : {A B X : Type 0} (read : A → Option B) (v : X → A) (xs : List X) (ys : List B) (i : ℕ) (d : X) (y : B) → i < length xs →
    each read (map v (take i xs)) ≡ Some ys → read (v (get_or xs i d)) ≡ Some y → each read (map v (take (i + 1) xs)) ≡ Some (ys ++ y ∷ [])
each_step read v xs ys i d y h so_far one = rw (take_more xs i d h, map-append v (take i xs) (get_or xs i d ∷ []))
    (each_after read (map v (take i xs)) ys (v (get_or xs i d)) y so_far one)

pub each_stop : {A B X : Type 0} (read : A → Option B) (v : X → A) (xs : List X) (i : ℕ) (d : X) → i < length xs →
    read (v (get_or xs i d)) ≡ None → each read (map v xs) ≡ None
each_stop read v xs i d h none = ap (λ zs. each read (map v zs)) (split_at xs i d h)
    ∙ ap (each read) (map-append v (take i xs) (get_or xs i d ∷ drop (suc i) xs))
    ∙ each_at_none read (map v (take i xs)) (map v (drop (suc i) xs)) (v (get_or xs i d)) none

-- ---- entries

abbrev pub at : Place → ℕ → Members → Section
at base n row = record { place = nth base n; members = row }

hop : {A : Type 0} (r : Read A) (s : Read (List A)) (w : A) (ws : List A) →
    ((r >>= λ y. s >>= λ vs. Ok (ws ++ y ∷ vs)) >>= λ others. Ok (w ∷ others)) ≡ (r >>= λ y. s >>= λ vs. Ok (w ∷ ws ++ y ∷ vs))
hop (Ok y) (Ok vs) w ws = refl
hop (Ok y) (Err e) w ws = refl
hop (Err e) s w ws = refl

entered : {A : Type 0} (one : Read A) (last rest next : Read (List A)) (r : Read A) (ys : List A) →
    ((ws : List A) → rest ≡ Ok ws → next ≡ (one >>= λ y. last >>= λ vs. Ok (ws ++ y ∷ vs))) →
    (r >>= λ w. rest >>= λ ws. Ok (w ∷ ws)) ≡ Ok ys →
    (r >>= λ w. next >>= λ ws. Ok (w ∷ ws)) ≡ (one >>= λ y. last >>= λ vs. Ok (ys ++ y ∷ vs))
entered one last (Ok ws) next (Ok w) ys more f = let all : w ∷ ws ≡ ys = cc in rw (more ws refl, ← all) (hop one last w ws)
entered one last (Err e) next (Ok w) ys more f = cc
entered one last rest next (Err e) ys more f = cc

entries_after : {A : Type 0} (read : Section → Read A) (base : Place) (n m : ℕ) (xs rest : List Members) (ys : List A) (x : Members) →
    m ≡ n + length xs → entries_from read base n xs ≡ Ok ys →
    entries_from read base n (xs ++ x ∷ rest) ≡ (read (at base m x) >>= λ y. entries_from read base (suc m) rest >>= λ zs. Ok (ys ++ y ∷ zs))
entries_after read base n m [] rest ys x is so_far = let same : m ≡ n = omega arith in let none : ys ≡ [] = cc in rw (same, none) refl
entries_after read base n m (z ∷ zs) rest ys x is so_far =
    entered (read (at base m x)) (entries_from read base (suc m) rest) (entries_from read base (suc n) zs) (entries_from read base (suc n) (zs ++ x ∷ rest)) (read (at base n z)) ys
    (λ ws e. entries_after read base (suc n) m zs rest ws x (omega arith) e) so_far

counted : {X : Type 0} (v : X → Members) (xs : List X) (i : ℕ) → i < length xs → i + 1 ≡ 1 + length (map v (take i xs))
counted v xs i h = omega (arith, length-map (take i xs) v, length-take-le i xs (omega arith))

pub entries_step : {A X : Type 0} (read : Section → Read A) (base : Place) (v : X → Members) (xs : List X) (ys : List A) (i : ℕ) (d : X) (y : A) → i < length xs →
    entries_from read base 1 (map v (take i xs)) ≡ Ok ys → read (at base (i + 1) (v (get_or xs i d))) ≡ Ok y →
    entries_from read base 1 (map v (take (i + 1) xs)) ≡ Ok (ys ++ y ∷ [])
entries_step read base v xs ys i d y h so_far one = rw (
  take_more xs i d h,
  map-append v (take i xs) (get_or xs i d ∷ []),
  entries_after read base 1 (i + 1) (map v (take i xs)) [] ys (v (get_or xs i d)) (counted v xs i h) so_far,
  one,
) refl

pub entries_stop : {A X : Type 0} (read : Section → Read A) (base : Place) (v : X → Members) (xs : List X) (ys : List A) (i : ℕ) (d : X) (e : SessionRefusal) → i < length xs →
    entries_from read base 1 (map v (take i xs)) ≡ Ok ys → read (at base (i + 1) (v (get_or xs i d))) ≡ Err e →
    entries_from read base 1 (map v xs) ≡ Err e
entries_stop read base v xs ys i d e h so_far one = ap (λ zs. entries_from read base 1 (map v zs)) (split_at xs i d h)
    ∙ ap (entries_from read base 1) (map-append v (take i xs) (get_or xs i d ∷ drop (suc i) xs))
    ∙ entries_after read base 1 (i + 1) (map v (take i xs)) (map v (drop (suc i) xs)) ys (v (get_or xs i d)) (counted v xs i h) so_far
    ∙ rw one refl

stopped : {A : Type 0} (read : Read (Listed A)) (fault : SessionFault) → ((e : SessionRefusal) → fault ≡ Refused e → read ≡ Err e) →
    (result : Result (Listed A) SessionFault) → IsErrAnd result (λ e. e ≡ fault) → Gives read result
stopped read fault refused (Ok x) h = absurd h
stopped read fault refused (Err (Refused e)) h = refused e (sym h)
stopped read fault refused (Err NoMemory) h = tt

pub gives_stop : {A X : Type 0} (read : Section → Read A) (base : Place) (room : ℕ) (v : X → Members) (xs : List X) (ys : List A) (i : ℕ) (d : X) (fault : SessionFault)
    (result : Result (Listed A) SessionFault) → i < length xs → entries_from read base 1 (map v (take i xs)) ≡ Ok ys →
    Gives (read (at base (i + 1) (v (get_or xs i d)))) (Err fault) → IsErrAnd result (λ e. e ≡ fault) → Gives (entries read base room (map v xs)) result
gives_stop {A} read base room v xs ys i d fault result h so_far one = stopped (entries read base room (map v xs)) fault (refused fault one) result
  where
    refused : (f : SessionFault) → Gives (read (at base (i + 1) (v (get_or xs i d)))) (Err f) → (e : SessionRefusal) → f ≡ Refused e → entries read base room (map v xs) ≡ Err e
    refused (Refused r) one e same = let is : r ≡ e = cc in rw (entries_stop read base v xs ys i d r h so_far one, is) refl
    refused NoMemory one e same = cc

pub entries_whole : {A X : Type 0} (read : Section → Read A) (base : Place) (room : ℕ) (v : X → Members) (xs : List X) (i : ℕ) (all : Listed A) → length xs ≤ i →
    entries_from read base 1 (map v (take i xs)) ≡ Ok all.items → all.room ≡ room → entries read base room (map v xs) ≡ Ok all
entries_whole {A} read base room v xs i all h so_far same = rw (whole, same) refl
  where
    whole : entries_from read base 1 (map v xs) ≡ Ok all.items
    whole = ap (λ zs. entries_from read base 1 (map v zs)) (sym (take_all i xs h)) ∙ so_far
