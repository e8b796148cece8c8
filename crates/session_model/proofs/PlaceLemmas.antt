-- What lies at a region's place: the list with it, and the list without it.
use Rattle.std.proofs.Common.{◌≡◌, ◌≢◌, ℕ, suc, ◌+◌, ◌≤◌, ◌<◌, Bool, true, false, ◌==◌, ◌||◌, refl, ap, sym, ◌∙◌, arith, List, [], ◌∷◌, length, insert, remove, find, get_or, Some, None, AllPairs, All}
use Rattle.std.specs.List.{list_any, position_or_len}
use Rattle.std.proofs.lemmas.Bool.Decides.{nat_tests}
use Rattle.std.proofs.lemmas.List.Elements.{All-head, All-tail}
use Rattle.sound_model.specs.Regions as sound
use Rattle.sound_model.specs.Layers.{is_below, with_region}
use Rattle.session_model.specs.declared.region.Region.{Region}
use Rattle.session_model.specs.Region.{region_of, regions_of}
use Rattle.session_model.specs.Playlist.{has_id, has_region, without_region}
use Rattle.session_model.proofs.Cases.{by_test}

-- ---- the first place that passes

pub here : {X : Type 0} (p : X → Bool) (x : X) (xs : List X) → p x ≡ true → position_or_len p (x ∷ xs) ≡ 0
here p x xs e = rw e refl

pub later : {X : Type 0} (p : X → Bool) (x : X) (xs : List X) → p x ≡ false → position_or_len p (x ∷ xs) ≡ suc (position_or_len p xs)
later p x xs e = let next : 1 + position_or_len p xs ≡ suc (position_or_len p xs) = omega arith in rw e next

-- ---- in

pub with_region-insert : (r : Region) (xs : List Region) → with_region (region_of r) (regions_of xs) ≡ regions_of (insert xs (position_or_len (λ q. is_below (region_of r) (region_of q)) xs) r)
with_region-insert r [] = refl
with_region-insert r (x ∷ xs) = by_test (is_below (region_of r) (region_of x))
    (λ e. let at : position_or_len (λ q. is_below (region_of r) (region_of q)) (x ∷ xs) ≡ 0 = here (λ q. is_below (region_of r) (region_of q)) x xs e in
    first e ∙ ap (λ i. regions_of (insert (x ∷ xs) i r)) (sym at))
    (λ e. let at : position_or_len (λ q. is_below (region_of r) (region_of q)) (x ∷ xs) ≡ suc (position_or_len (λ q. is_below (region_of r) (region_of q)) xs) = later (λ q. is_below (region_of r) (region_of q)) x xs e in
    next e ∙ ap (λ qs. region_of x ∷ qs) (with_region-insert r xs) ∙ ap (λ i. regions_of (insert (x ∷ xs) i r)) (sym at))
  where
    first : is_below (region_of r) (region_of x) ≡ true → with_region (region_of r) (regions_of (x ∷ xs)) ≡ regions_of (r ∷ x ∷ xs)
    first e = rw e refl

    next : is_below (region_of r) (region_of x) ≡ false → with_region (region_of r) (regions_of (x ∷ xs)) ≡ region_of x ∷ with_region (region_of r) (regions_of xs)
    next e = rw e refl

-- ---- out

abbrev index : ℕ → List Region → ℕ
index id xs = position_or_len (λ r. r.id == id) xs

index-here : (id : ℕ) (x : Region) (xs : List Region) → (x.id == id) ≡ true → index id (x ∷ xs) ≡ 0
index-here id x xs e = here (λ r. r.id == id) x xs e

index-later : (id : ℕ) (x : Region) (xs : List Region) → (x.id == id) ≡ false → index id (x ∷ xs) ≡ suc (index id xs)
index-later id x xs e = later (λ r. r.id == id) x xs e

-- the index lies beyond the first region, or is that of it
within : (id : ℕ) (x : Region) (xs : List Region) → (x.id == id) ≡ false → index id (x ∷ xs) < length (x ∷ xs) → index id xs < length xs
within id x xs e l = omega (arith, index-later id x xs e, l)

beyond : (id : ℕ) (x : Region) (xs : List Region) → (x.id == id) ≡ false → length (x ∷ xs) ≤ index id (x ∷ xs) → length xs ≤ index id xs
beyond id x xs e l = omega (arith, index-later id x xs e, l)

not_here : {P : Type 0} (id : ℕ) (x : Region) (xs : List Region) → (x.id == id) ≡ true → length (x ∷ xs) ≤ index id (x ∷ xs) → P
not_here id x xs e l = absurd (omega (arith, index-here id x xs e, l))

abbrev DiffersFrom : ℕ → sound.Region → Type 0
DiffersFrom id q = id ≢ q.id

kept : (id : ℕ) (qs : List sound.Region) → All (DiffersFrom id) qs → without_region qs id ≡ qs
kept id [] h = refl
kept id (q ∷ qs) h = rw differs (ap (λ rs. q ∷ rs) (kept id qs (All-tail (DiffersFrom id) q qs h)))
  where
    first : id ≢ q.id
    first = All-head (DiffersFrom id) q qs h

    differs : (q.id == id) ≡ false
    differs = grind (arith, nat_tests)

abbrev AreApart : List sound.Region → Type 0
AreApart qs = AllPairs (λ r q. r.id ≢ q.id) qs

apart-tail : (q : sound.Region) (qs : List sound.Region) → AreApart (q ∷ qs) → AreApart qs
apart-tail q qs h i j d l m = h (suc i) (suc j) d (omega arith) (omega arith)

apart-head : (id : ℕ) (q : sound.Region) (qs : List sound.Region) → (q.id == id) ≡ true → AreApart (q ∷ qs) → All (DiffersFrom id) qs
apart-head id q qs e h k d m = let same : q.id ≡ id = grind (arith, nat_tests) in λ f. h 0 (suc k) d (omega arith) (omega arith) (same ∙ f)

pub without_region-remove : (id : ℕ) (xs : List Region) → AreApart (regions_of xs) → index id xs < length xs → without_region (regions_of xs) id ≡ regions_of (remove xs (index id xs))
without_region-remove id [] h l = absurd (omega arith)
without_region-remove id (x ∷ xs) h l = by_test (x.id == id)
    (λ e. first e ∙ ap (λ i. regions_of (remove (x ∷ xs) i)) (sym (index-here id x xs e)))
    (λ e. next e ∙ ap (λ qs. region_of x ∷ qs) (without_region-remove id xs (apart-tail (region_of x) (regions_of xs) h) (within id x xs e l))
    ∙ ap (λ i. regions_of (remove (x ∷ xs) i)) (sym (index-later id x xs e)))
  where
    first : (x.id == id) ≡ true → without_region (regions_of (x ∷ xs)) id ≡ regions_of xs
    first e = rw e (kept id (regions_of xs) (apart-head id (region_of x) (regions_of xs) e h))

    next : (x.id == id) ≡ false → without_region (regions_of (x ∷ xs)) id ≡ region_of x ∷ without_region (regions_of xs) id
    next e = rw e refl

pub without_region-absent : (id : ℕ) (xs : List Region) → length xs ≤ index id xs → without_region (regions_of xs) id ≡ regions_of xs
without_region-absent id [] l = refl
without_region-absent id (x ∷ xs) l = by_test (x.id == id)
    (λ e. not_here id x xs e l)
    (λ e. rw e (ap (λ qs. region_of x ∷ qs) (without_region-absent id xs (beyond id x xs e l))))

pub find-at : (id : ℕ) (xs : List Region) (d : Region) → index id xs < length xs → find (has_id id) (regions_of xs) ≡ Some (region_of (get_or xs (index id xs) d))
find-at id [] d l = absurd (omega arith)
find-at id (x ∷ xs) d l = by_test (x.id == id)
    (λ e. first e ∙ ap (λ i. Some (region_of (get_or (x ∷ xs) i d))) (sym (index-here id x xs e)))
    (λ e. next e ∙ find-at id xs d (within id x xs e l) ∙ ap (λ i. Some (region_of (get_or (x ∷ xs) i d))) (sym (index-later id x xs e)))
  where
    first : (x.id == id) ≡ true → find (has_id id) (regions_of (x ∷ xs)) ≡ Some (region_of x)
    first e = rw e refl

    next : (x.id == id) ≡ false → find (has_id id) (regions_of (x ∷ xs)) ≡ find (has_id id) (regions_of xs)
    next e = rw e refl

pub find-absent : (id : ℕ) (xs : List Region) → length xs ≤ index id xs → find (has_id id) (regions_of xs) ≡ None
find-absent id [] l = refl
find-absent id (x ∷ xs) l = by_test (x.id == id)
    (λ e. not_here id x xs e l)
    (λ e. rw e (find-absent id xs (beyond id x xs e l)))

pub has_region-at : (id : ℕ) (xs : List Region) → index id xs < length xs → has_region (regions_of xs) id ≡ true
has_region-at id [] l = absurd (omega arith)
has_region-at id (x ∷ xs) l = by_test (x.id == id)
    (λ e. rw e refl)
    (λ e. rw e (has_region-at id xs (within id x xs e l)))

pub has_region-absent : (id : ℕ) (xs : List Region) → length xs ≤ index id xs → has_region (regions_of xs) id ≡ false
has_region-absent id [] l = refl
has_region-absent id (x ∷ xs) l = by_test (x.id == id)
    (λ e. not_here id x xs e l)
    (λ e. rw e (has_region-absent id xs (beyond id x xs e l)))

pub has_region-any : (id : ℕ) (xs : List Region) → has_region (regions_of xs) id ≡ list_any (λ r. r.id == id) xs
has_region-any id [] = refl
has_region-any id (x ∷ xs) = ap (λ b. (x.id == id) || b) (has_region-any id xs)
