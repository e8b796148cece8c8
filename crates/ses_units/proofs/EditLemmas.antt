-- A write, an insert and a remove at the index of a place leave a lane with a point set or taken out.
use Rattle.std.proofs.Common.{◌≡◌, ◌<◌, ◌≤◌, ◌+◌, ◌^◌, ℕ, suc, List, ◌∷◌, length, All, take, drop, set, insert, remove, refl, arith, add-one}
use Rattle.std.proofs.lemmas.List.{length-map, set_split, map-append, take-map, drop-map}
use Rattle.std.proofs.lemmas.List.Elements.{All-map}
use Rattle.sound_model.specs.Lanes as sound
use Rattle.ses_units.specs.declared.point.Point.{Point}
use Rattle.ses_units.specs.Point.{point_of, points_of}
use Rattle.ses_units.specs.Lane.{IsLane, PartsAt, with_point, without_point}
use Rattle.ses_units.proofs.LaneLemmas.{IsLane-with, IsLane-without, length-without_point}

pub with_point-set : (points : List Point) (i : ℕ) (p : Point) → i < length points → PartsAt (points_of points) i (i + 1) p.at → points_of (set points i p) ≡ with_point (points_of points) (point_of p)
with_point-set points i p h parts =
    rw (set_split points i p h, map-append point_of (take i points) (p ∷ drop (suc i) points), ← take-map point_of i points, ← drop-map point_of (suc i) points, ← add-one i, parts.before, parts.after) refl

pub with_point-insert : (points : List Point) (i : ℕ) (p : Point) → PartsAt (points_of points) i i p.at → points_of (insert points i p) ≡ with_point (points_of points) (point_of p)
with_point-insert points i p parts =
    rw (map-append point_of (take i points) (p ∷ drop i points), ← take-map point_of i points, ← drop-map point_of i points, parts.before, parts.after) refl

pub without_point-remove : (points : List Point) (i place : ℕ) → PartsAt (points_of points) i (i + 1) place → points_of (remove points i) ≡ without_point (points_of points) place
without_point-remove points i place parts =
    rw (map-append point_of (take i points) (drop (suc i) points), ← take-map point_of i points, ← drop-map point_of (suc i) points, ← add-one i, parts.before, parts.after) refl

-- ---- and it is a lane

pub IsLane-set : (points : List Point) (i : ℕ) (p : Point) → IsLane (points_of points) → p.at < 2 ^ 40 → p.gain ≤ 262144 → i < length points → PartsAt (points_of points) i (i + 1) p.at → IsLane (points_of (set points i p))
IsLane-set points i p lane near quiet h parts =
    let long = length-map points point_of in
    let elsewhere = length-without_point (points_of points) i (i + 1) p.at parts (omega arith) (omega arith) in
    rw (with_point-set points i p h parts) (IsLane-with (points_of points) (point_of p) lane near quiet (omega (arith, lane.few)))

pub IsLane-insert : (points : List Point) (i : ℕ) (p : Point) → IsLane (points_of points) → p.at < 2 ^ 40 → p.gain ≤ 262144 → length points < 1024 → i ≤ length points → PartsAt (points_of points) i i p.at → IsLane (points_of (insert points i p))
IsLane-insert points i p lane near quiet room h parts =
    let long = length-map points point_of in
    let elsewhere = length-without_point (points_of points) i i p.at parts (omega arith) (omega arith) in
    rw (with_point-insert points i p parts) (IsLane-with (points_of points) (point_of p) lane near quiet (omega arith))

pub IsLane-remove : (points : List Point) (i place : ℕ) → IsLane (points_of points) → PartsAt (points_of points) i (i + 1) place → IsLane (points_of (remove points i))
IsLane-remove points i place lane parts = rw (without_point-remove points i place parts) (IsLane-without (points_of points) place lane)

pub quiet-points : (points : List Point) → All (λ p. p.gain ≤ 262144) points → All (λ p. p.gain ≤ 262144) (points_of points)
quiet-points points h = All-map (λ (p : sound.Point). p.gain ≤ 262144) point_of points h
