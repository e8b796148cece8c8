-- Points as the definitions of the sound count them, and the first rule that they break.
use Rattle.std.proofs.Common.{◌≡◌, ◌<◌, ◌≤◌, ◌+◌, ◌^◌, ℕ, zero, suc, Bool, not, cond, nat_lt, nat_le, get_or, true, false, List, [], ◌∷◌, length, take, drop, position, inl, inr, ◌≢◌, refl, ap, ◌∙◌, arith, add-one, Some}
use Rattle.std.specs.List.{prefix_len, AllWithin, AllPairs}
use Rattle.std.specs.List.Sorted.{IsPartitionedBy}
use Rattle.std.proofs.lemmas.Bool.Decides.{nat_tests}
use Rattle.std.proofs.lemmas.List.{length-map, get_or-map}
use Rattle.std.proofs.lemmas.List.Sorted.{IsPartitionedBy-ltb}
use Rattle.std.proofs.lemmas.Bool.{cases_lt}
use Rattle.sound_model.specs.Lanes as sound
use Rattle.ses_units.specs.declared.point.Point.{Point}
use Rattle.ses_units.specs.Point.{point_of, points_of}
use Rattle.ses_units.specs.Refusal.{first_far, fall_after}
use Rattle.ses_units.specs.Lane.{points_before, points_after, PartsAt}

prefix_len-points : (p : sound.Point → Bool) (points : List Point) → prefix_len p (points_of points) ≡ prefix_len (λ q. p (point_of q)) points
prefix_len-points p [] = refl
prefix_len-points p (q ∷ qs) = grind (arith, prefix_len-points p qs)

pub position_points : (p : sound.Point → Bool) (points : List Point) → position p (points_of points) ≡ position (λ q. p (point_of q)) points
position_points p points = rw (prefix_len-points (λ q. not (p q)) points, length-map points point_of) refl

pub first_far_points : (points : List Point) → first_far (points_of points) ≡ position (λ q. nat_le (2 ^ 40) q.at) points
unfolding first_far
first_far_points points = position_points (λ q. nat_le (2 ^ 40) q.at) points

-- a step along points that follow one another
fall_after-step : (place i k : ℕ) (points : List Point) (d : Point) → k < length points → fall_after place i (drop k (points_of points)) ≡ cond (nat_lt place (get_or points k d).at) (fall_after (get_or points k d).at (suc i) (drop (suc k) (points_of points))) (Some (suc i))
fall_after-step place i k [] d h = absurd (omega arith)
fall_after-step place i zero (q ∷ qs) d h = refl
fall_after-step place i (suc k) (q ∷ qs) d h = fall_after-step place i k qs d (omega arith)

pub fall_after_next : (place i k : ℕ) (points : List Point) (q : Point) → k < length points → q ≡ get_or points k q → fall_after place i (drop k (points_of points)) ≡ cond (nat_lt place q.at) (fall_after q.at (i + 1) (drop (k + 1) (points_of points))) (Some (i + 1))
fall_after_next place i k points q h e = rw (add-one i, add-one k) (fall_after-step place i k points q h ∙ rw (← e) refl)

-- ---- the points before and after a place

pub before_points : (place i : ℕ) (points : List Point) → i ≤ length points → AllWithin (λ q. q.at < place) points 0 i → AllWithin (λ q. place ≤ q.at) points i (length points) → take i (points_of points) ≡ points_before place (points_of points)
before_points place zero [] h b a = refl
before_points place (suc i) [] h b a = absurd (omega arith)
before_points place zero (q ∷ qs) h b a =
    let past : place ≤ q.at = a 0 q (omega arith) (omega arith) in
    let no : nat_lt q.at place ≡ false = grind (arith, nat_tests) in
    rw no (before_points place zero qs (omega arith) (λ k d l m. absurd (omega arith)) (λ k d l m. a (suc k) d (omega arith) (omega arith)))
before_points place (suc i) (q ∷ qs) h b a =
    let below : q.at < place = b 0 q (omega arith) (omega arith) in
    let yes : nat_lt q.at place ≡ true = grind (arith, nat_tests) in
    rw yes (ap (λ ps. point_of q ∷ ps) (before_points place i qs (omega arith) (λ k d l m. b (suc k) d (omega arith) (omega arith)) (λ k d l m. a (suc k) d (omega arith) (omega arith))))

pub after_points : (place j : ℕ) (points : List Point) → j ≤ length points → AllWithin (λ q. q.at ≤ place) points 0 j → AllWithin (λ q. place < q.at) points j (length points) → drop j (points_of points) ≡ points_after place (points_of points)
after_points place zero [] h b a = refl
after_points place (suc j) [] h b a = absurd (omega arith)
after_points place zero (q ∷ qs) h b a =
    let past : place < q.at = a 0 q (omega arith) (omega arith) in
    let yes : nat_lt place q.at ≡ true = grind (arith, nat_tests) in
    rw yes (ap (λ ps. point_of q ∷ ps) (after_points place zero qs (omega arith) (λ k d l m. absurd (omega arith)) (λ k d l m. a (suc k) d (omega arith) (omega arith))))
after_points place (suc j) (q ∷ qs) h b a =
    let below : q.at ≤ place = b 0 q (omega arith) (omega arith) in
    let no : nat_lt place q.at ≡ false = grind (arith, nat_tests) in
    rw no (after_points place j qs (omega arith) (λ k d l m. b (suc k) d (omega arith) (omega arith)) (λ k d l m. a (suc k) d (omega arith) (omega arith)))

-- ---- points in rising place

-- the points of a lane rise as they stand in memory
pub rising_items : (points : List Point) → AllPairs (λ p q. p.at < q.at) (points_of points) → AllPairs (λ p q. p.at < q.at) points
rising_items points h i j d l m =
    let first : i < length points = omega arith in
    let many : j < length (points_of points) = rw (length-map points point_of) m in
    let e = get_or-map point_of points i d (point_of d) first in
    let f = get_or-map point_of points j d (point_of d) m in
    rw (e, f) at (h i j (point_of d) l many)

pub partitioned : (place : ℕ) (points : List Point) → AllPairs (λ p q. p.at < q.at) points → IsPartitionedBy (λ q. nat_lt q.at place) points
partitioned place points rising =
    IsPartitionedBy-ltb (λ q. q.at) points place
    (λ i j d l m. elim (cases_lt i j) [ inl less ↦ omega (arith, rising i j d less m) | inr more ↦ (let same : i ≡ j = omega arith in rw same (omega arith)) ])

-- a point stands at the place
pub PartsAt-found : (place i : ℕ) (points : List Point) → AllPairs (λ p q. p.at < q.at) points → i < length points → ((d : Point) → (get_or points i d).at ≡ place) → AllWithin (λ q. q.at < place) points 0 i → PartsAt (points_of points) i (i + 1) place
PartsAt-found place i points rising h there below =
    record {
      before = before_points place i points (omega arith) below
          (λ k d l m. elim (cases_lt i k) [ inl less ↦ omega (arith, rising i k d less m, there d) | inr more ↦ (let same : k ≡ i = omega arith in rw same (omega (arith, there d))) ]);
      after = after_points place (i + 1) points (omega arith)
          (λ k d l m. elim (cases_lt k i) [ inl less ↦ omega (arith, below k d l less) | inr more ↦ (let same : k ≡ i = omega arith in rw same (omega (arith, there d))) ])
          (λ k d l m. omega (arith, rising i k d (omega arith) m, there d));
    }

-- none does
pub PartsAt-missing : (place i : ℕ) (points : List Point) → AllPairs (λ p q. p.at < q.at) points → i ≤ length points → AllWithin (λ q. q.at < place) points 0 i → AllWithin (λ q. place ≤ q.at) points i (length points) → ((d : Point) → i < length points → (get_or points i d).at ≢ place) → PartsAt (points_of points) i i place
PartsAt-missing place i points rising h below from apart =
    record {
      before = before_points place i points h below from;
      after = after_points place i points h (λ k d l m. omega (arith, below k d l m))
          (λ k d l m. elim (cases_lt i k) [ inl less ↦ omega (arith, rising i k d less m, from i d (omega arith) (omega arith)) | inr more ↦ (let same : k ≡ i = omega arith in rw same (omega (arith, from i d (omega arith) (omega arith), apart d (omega arith)))) ]);
    }
