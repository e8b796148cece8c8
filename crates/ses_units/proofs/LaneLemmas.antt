-- A lane keeps its rules as points are set and taken out, and the gains at other places stay.
use Rattle.std.proofs.Common.{◌≡◌, ◌≢◌, ◌<◌, ◌≤◌, ◌+◌, ◌-◌, ◌^◌, ℕ, zero, suc, Bool, true, false, cond, nat_lt, ◌==◌, get_or, List, [], ◌∷◌, ◌++◌, length, filter, find, refl, sym, ap, ◌∙◌, arith, inl, inr, All, Option, Some, None}
use Rattle.std.specs.List.{AllPairs}
use Rattle.std.specs.Option.{option_map, option_or}
use Rattle.std.proofs.lemmas.Bool.{cases_lt}
use Rattle.std.proofs.lemmas.Bool.Decides.{nat_tests}
use Rattle.std.proofs.lemmas.List.{length-append, length-take, length-drop, take-append-drop}
use Rattle.std.proofs.lemmas.List.Elements.{All-append, All-cons, All-head, All-tail, All-filter, All-weaker, filter_passes}
use Rattle.std.proofs.lemmas.List.Folds.{find-append}
use Rattle.std.proofs.lemmas.List.Kept.{AllPairs-cons, AllPairs-filter}
use Rattle.sound_model.specs.Lanes.{Point}
use Rattle.ses_units.specs.Lane.{IsLane, points_before, points_after, with_point, without_point, PartsAt, gain_standing, ChangesGain}

-- ---- order

all_pairs_tail : {X : Type 0} (R : X → X → Type 0) (x : X) (xs : List X) → AllPairs R (x ∷ xs) → AllPairs R xs
all_pairs_tail R x xs h i j d l m = h (suc i) (suc j) d (omega arith) (omega arith)

pub all_pairs_head : {X : Type 0} (R : X → X → Type 0) (x : X) (xs : List X) → AllPairs R (x ∷ xs) → All (R x) xs
all_pairs_head R x xs h k d l = h 0 (suc k) d (omega arith) (omega arith)

rising-append : (place : ℕ) (xs ys : List Point) → AllPairs (λ p q. p.at < q.at) xs → AllPairs (λ p q. p.at < q.at) ys → All (λ p. p.at < place) xs → All (λ q. place ≤ q.at) ys → AllPairs (λ p q. p.at < q.at) (xs ++ ys)
rising-append place [] ys rx ry lx ly = ry
rising-append place (x ∷ xs) ys rx ry lx ly =
    let low : x.at < place = All-head (λ p. p.at < place) x xs lx in
    let past : All (λ q. x.at < q.at) ys = All-weaker (λ q. place ≤ q.at) (λ q. x.at < q.at) (λ q h. omega arith) ys ly in
    AllPairs-cons (λ p q. p.at < q.at) x (xs ++ ys)
    (All-append (λ q. x.at < q.at) xs ys (all_pairs_head (λ p q. p.at < q.at) x xs rx) past)
    (rising-append place xs ys (all_pairs_tail (λ p q. p.at < q.at) x xs rx) ry (All-tail (λ p. p.at < place) x xs lx) ly)

all_before : (place : ℕ) (points : List Point) → All (λ p. p.at < place) (points_before place points)
all_before place points = All-weaker (λ q. nat_lt q.at place ≡ true) (λ q. q.at < place) (λ q h. grind (arith, nat_tests)) _ (filter_passes (λ q. nat_lt q.at place) points)

all_after : (place : ℕ) (points : List Point) → All (λ p. place < p.at) (points_after place points)
all_after place points = All-weaker (λ q. nat_lt place q.at ≡ true) (λ q. place < q.at) (λ q h. grind (arith, nat_tests)) _ (filter_passes (λ q. nat_lt place q.at) points)

not_before : (place : ℕ) (points : List Point) → All (λ q. place ≤ q.at) (points_after place points)
not_before place points = All-weaker (λ q. place < q.at) (λ q. place ≤ q.at) (λ q h. omega arith) _ (all_after place points)

-- ---- a lane after an edit

length-parts : (place : ℕ) (points : List Point) → length (points_before place points) + length (points_after place points) ≤ length points
length-parts place [] = omega arith
length-parts place (q ∷ qs) = grind (arith, nat_tests, length-parts place qs)

All-without : (P : Point → Type 0) (points : List Point) (place : ℕ) → All P points → All P (without_point points place)
All-without P points place h =
    All-append P (points_before place points) (points_after place points)
    (All-filter (λ q. nat_lt q.at place) P points h) (All-filter (λ q. nat_lt place q.at) P points h)

All-with : (P : Point → Type 0) (points : List Point) (p : Point) → P p → All P points → All P (with_point points p)
All-with P points p one h =
    All-append P (points_before p.at points) (p ∷ points_after p.at points) (All-filter (λ q. nat_lt q.at p.at) P points h)
    (All-cons P p (points_after p.at points) one (All-filter (λ q. nat_lt p.at q.at) P points h))

rising-filter : (test : Point → Bool) (points : List Point) → AllPairs (λ p q. p.at < q.at) points → AllPairs (λ p q. p.at < q.at) (filter test points)
rising-filter test points h = AllPairs-filter (λ p q. p.at < q.at) test points h

-- no more points stand elsewhere than stand at all
pub length-without_point_le : (points : List Point) (place : ℕ) → length (without_point points place) ≤ length points
length-without_point_le points place =
    omega (arith, length-parts place points, length-append (points_before place points) (points_after place points))

pub IsLane-without : (points : List Point) (place : ℕ) → IsLane points → IsLane (without_point points place)
IsLane-without points place lane =
    record {
      few = omega (arith, lane.few, length-without_point_le points place);
      near = All-without (λ p. p.at < 2 ^ 40) points place lane.near;
      quiet = All-without (λ p. p.gain ≤ 262144) points place lane.quiet;
      rising = rising-append place (points_before place points) (points_after place points)
          (rising-filter (λ q. nat_lt q.at place) points lane.rising) (rising-filter (λ q. nat_lt place q.at) points lane.rising)
          (all_before place points) (not_before place points);
    }

pub IsLane-with : (points : List Point) (p : Point) → IsLane points → p.at < 2 ^ 40 → p.gain ≤ 262144 → length (without_point points p.at) < 1024 → IsLane (with_point points p)
IsLane-with points p lane near quiet room =
    record {
      few = omega (arith, room, length-append (points_before p.at points) (points_after p.at points), length-append (points_before p.at points) (p ∷ points_after p.at points));
      near = All-with (λ q. q.at < 2 ^ 40) points p near lane.near;
      quiet = All-with (λ q. q.gain ≤ 262144) points p quiet lane.quiet;
      rising = rising-append p.at (points_before p.at points) (p ∷ points_after p.at points)
          (rising-filter (λ q. nat_lt q.at p.at) points lane.rising)
          (AllPairs-cons (λ r q. r.at < q.at) p (points_after p.at points) (all_after p.at points) (rising-filter (λ q. nat_lt p.at q.at) points lane.rising))
          (all_before p.at points)
          (All-cons (λ q. p.at ≤ q.at) p (points_after p.at points) (omega arith) (not_before p.at points));
    }

-- how many points stand elsewhere
pub length-without_point : (points : List Point) (i j place : ℕ) → PartsAt points i j place → i ≤ j → j ≤ length points → length (without_point points place) ≡ i + (length points - j)
length-without_point points i j place parts h m =
    let e = length-append (points_before place points) (points_after place points) in
    let b : length (points_before place points) ≡ i = rw (← parts.before) (omega (arith, length-take i points)) in
    let a : length (points_after place points) ≡ length points - j = rw (← parts.after) (length-drop j points) in
    omega arith

-- ---- the gains

find-kept : (test p : Point → Bool) → ((q : Point) → test q ≡ true → p q ≡ true) → (points : List Point) → find test (filter p points) ≡ find test points
find-kept test p h [] = refl
find-kept test p h (q ∷ qs) = grind (arith, h q, find-kept test p h qs)

find-lost : (test p : Point → Bool) → ((q : Point) → test q ≡ true → p q ≡ false) → (points : List Point) → find test (filter p points) ≡ None
find-lost test p h [] = refl
find-lost test p h (q ∷ qs) = grind (arith, h q, find-lost test p h qs)

before-keeps : (x place : ℕ) → x < place → (points : List Point) → find (λ q. q.at == x) (points_before place points) ≡ find (λ q. q.at == x) points
before-keeps x place h points = find-kept (λ q. q.at == x) (λ q. nat_lt q.at place) (λ q e. grind (arith, nat_tests)) points

before-loses : (x place : ℕ) → place ≤ x → (points : List Point) → find (λ q. q.at == x) (points_before place points) ≡ None
before-loses x place h points = find-lost (λ q. q.at == x) (λ q. nat_lt q.at place) (λ q e. grind (arith, nat_tests)) points

after-keeps : (x place : ℕ) → place < x → (points : List Point) → find (λ q. q.at == x) (points_after place points) ≡ find (λ q. q.at == x) points
after-keeps x place h points = find-kept (λ q. q.at == x) (λ q. nat_lt place q.at) (λ q e. grind (arith, nat_tests)) points

after-loses : (x place : ℕ) → x ≤ place → (points : List Point) → find (λ q. q.at == x) (points_after place points) ≡ None
after-loses x place h points = find-lost (λ q. q.at == x) (λ q. nat_lt place q.at) (λ q e. grind (arith, nat_tests)) points

option_or-none : {A : Type 0} (o : Option A) → option_or o None ≡ o
option_or-none None = refl
option_or-none (Some a) = refl

find-without : (points : List Point) (place x : ℕ) → find (λ q. q.at == x) (without_point points place) ≡ option_or (find (λ q. q.at == x) (points_before place points)) (find (λ q. q.at == x) (points_after place points))
find-without points place x = find-append (λ q. q.at == x) (points_before place points) (points_after place points)

find-with : (points : List Point) (p : Point) (x : ℕ) → find (λ q. q.at == x) (with_point points p) ≡ option_or (find (λ q. q.at == x) (points_before p.at points)) (cond (p.at == x) (Some p) (find (λ q. q.at == x) (points_after p.at points)))
find-with points p x = find-append (λ q. q.at == x) (points_before p.at points) (p ∷ points_after p.at points)

find-without_there : (points : List Point) (place : ℕ) → find (λ q. q.at == place) (without_point points place) ≡ None
find-without_there points place =
    rw (find-without points place place, before-loses place place (omega arith) points, after-loses place place (omega arith) points) refl

find-without_elsewhere : (points : List Point) (place x : ℕ) → x ≢ place → find (λ q. q.at == x) (without_point points place) ≡ find (λ q. q.at == x) points
find-without_elsewhere points place x h =
    rw (find-without points place x)
    (elim (cases_lt x place) [
      | inl less ↦ rw (before-keeps x place less points, after-loses x place (omega arith) points) (option_or-none (find (λ q. q.at == x) points))
      | inr more ↦ rw (before-loses x place more points, after-keeps x place (omega arith) points) refl
    ])

find-with_there : (points : List Point) (p : Point) → find (λ q. q.at == p.at) (with_point points p) ≡ Some p
find-with_there points p =
    let here : (p.at == p.at) ≡ true = grind (arith, nat_tests) in
    rw (find-with points p p.at, before-loses p.at p.at (omega arith) points, here) refl

find-with_elsewhere : (points : List Point) (p : Point) (x : ℕ) → x ≢ p.at → find (λ q. q.at == x) (with_point points p) ≡ find (λ q. q.at == x) points
find-with_elsewhere points p x h =
    let other : (p.at == x) ≡ false = grind (arith, nat_tests) in
    rw (find-with points p x, other)
    (elim (cases_lt x p.at) [
      | inl less ↦ rw (before-keeps x p.at less points, after-loses x p.at (omega arith) points) (option_or-none (find (λ q. q.at == x) points))
      | inr more ↦ rw (before-loses x p.at more points, after-keeps x p.at (omega arith) points) refl
    ])

pub ChangesGain-without : (points : List Point) (place : ℕ) → ChangesGain points (without_point points place) place None
ChangesGain-without points place =
    record {
      there = ap (option_map (λ q. q.gain)) (find-without_there points place);
      elsewhere = λ x h. ap (option_map (λ q. q.gain)) (find-without_elsewhere points place x h);
    }

pub ChangesGain-with : (points : List Point) (p : Point) → ChangesGain points (with_point points p) p.at (Some p.gain)
ChangesGain-with points p =
    record {
      there = ap (option_map (λ q. q.gain)) (find-with_there points p);
      elsewhere = λ x h. ap (option_map (λ q. q.gain)) (find-with_elsewhere points p x h);
    }

-- where none stands at a place the points are those elsewhere
pub gain_standing-missing : (points : List Point) (i place : ℕ) → PartsAt points i i place → gain_standing points place ≡ None
gain_standing-missing points i place parts =
    let same : points ≡ without_point points place = sym (take-append-drop i points) ∙ rw (parts.before, parts.after) refl in
    ap (λ ps. gain_standing ps place) same ∙ (ChangesGain-without points place).there

find-there : (test : Point → Bool) (points : List Point) (i : ℕ) (d : Point) → i < length points → test (get_or points i d) ≡ true → find test points ≡ None → ⊥
find-there test [] i d h pass = λ e. absurd (omega arith)
find-there test (q ∷ qs) zero d h pass = rw pass (λ e. cc)
find-there test (q ∷ qs) (suc i) d h pass =
    elim (test q) as (λ b. cond b (Some q) (find test qs) ≡ None → ⊥) [ true ↦ (λ e. cc) | false ↦ find-there test qs i d (omega arith) pass ]

-- a point that stands at a place
pub gain_standing-found : (points : List Point) (i place : ℕ) (d : Point) → i < length points → (get_or points i d).at ≡ place → gain_standing points place ≢ None
gain_standing-found points i place d h there =
    let none = find-there (λ q. q.at == place) points i d h (grind (arith, nat_tests)) in
    elim (find (λ q. q.at == place) points) as (λ o. (o ≡ None → ⊥) → option_map (λ q. q.gain) o ≡ None → ⊥) [ None ↦ (λ k e. k refl) | Some q ↦ (λ k e. cc) ] none

-- ---- what a call says of the lane that it leaves

pub ChangesGain-set : (old new : List Point) (p : Point) → new ≡ with_point old p → ChangesGain old new p.at (Some p.gain)
ChangesGain-set old new p e = rw e (ChangesGain-with old p)

pub ChangesGain-unset : (old new : List Point) (place : ℕ) → new ≡ without_point old place → ChangesGain old new place None
ChangesGain-unset old new place e = rw e (ChangesGain-without old place)
