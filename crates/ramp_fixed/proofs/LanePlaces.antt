-- The pieces of a lane by its points as code holds them, and a walk that stands in one.
use Rattle.std.proofs.Common.{◌≡◌, ℕ, ◌+◌, ◌-◌, ◌*◌, ◌/◌, ◌<◌, ◌≤◌, List, [], ◌∷◌, length, get_or, refl, sym, ap, subst, ◌∙◌, arith}
use Rattle.std.proofs.lemmas.List.{get_or-map, length-map}
use Rattle.std.proofs.lemmas.List.Elements.{All-get_or}
use Rattle.sound_model.specs.Lanes as sound
use Rattle.sound_model.specs.Lanes.{between, lane_value}
use Rattle.ses_units.specs.declared.point.Point.{Point}
use Rattle.ses_units.specs.Point.{point_of, points_of}
use Rattle.ses_units.specs.Lane.{IsLane}
use Rattle.ramp_fixed.specs.declared.walk.Walk.{Walk}
use Rattle.ramp_fixed.specs.Pieces.{IsFlat, IsLineOf, Stands, gone, gain_gone, lift}
use Rattle.ramp_fixed.proofs.Lines.{line_value}
use Rattle.ramp_fixed.proofs.LaneLaws.{rise_by_pairs, lane_quiet}
use Rattle.ramp_fixed.proofs.LanePieces.{before_first, from_last, from_neighbour}

-- a point that was read, among the points as the definitions have them
point_read : (points : List Point) (i : ℕ) (p d : Point) → i < length points → p ≡ get_or points i d → get_or (points_of points) i (point_of d) ≡ point_of p
point_read points i p d h e = get_or-map point_of points i d (point_of d) h ∙ ap point_of (sym e)

pub flat_empty : (fader : ℕ) (points : List Point) (since until : ℕ) → length points ≡ 0 → IsFlat fader (points_of points) since until fader
flat_empty fader [] since until e = λ x h m. refl
flat_empty fader (p ∷ ps) since until e = absurd (omega arith)

pub flat_before : (fader : ℕ) (points : List Point) (p : Point) → 0 < length points → p ≡ get_or points 0 p → IsFlat fader (points_of points) 0 p.at p.gain
flat_before fader points p some e = λ x h m.
    let read = point_read points 0 p p some e in
    before_first fader (points_of points) (point_of p) x (omega (arith, length-map points point_of)) (subst (λ (q : sound.Point). x < q.at) (sym read) m)
    ∙ ap (λ (q : sound.Point). q.gain) read

pub flat_after : (fader : ℕ) (points : List Point) (p : Point) (j until : ℕ) → IsLane (points_of points) → j + 1 ≡ length points → p ≡ get_or points j p → IsFlat fader (points_of points) p.at until p.gain
flat_after fader points p j until lane long e = λ x h m.
    let read = point_read points j p p (omega arith) e in
    from_last fader (points_of points) (point_of p) j x (rise_by_pairs (points_of points) lane.rising) (omega (arith, length-map points point_of)) (subst (λ (q : sound.Point). q.at ≤ x) (sym read) h)
    ∙ ap (λ (q : sound.Point). q.gain) read

pub line_of_neighbours : (fader : ℕ) (points : List Point) (p q : Point) (j : ℕ) → IsLane (points_of points) → j + 1 < length points → p ≡ get_or points j p → q ≡ get_or points (j + 1) p
    → IsLineOf fader (points_of points) (point_of p) (point_of q)
line_of_neighbours fader points p q j lane long e f = λ x h m.
    let read = point_read points j p p (omega arith) e in
    let next = point_read points (j + 1) q p long f in
    from_neighbour fader (points_of points) (point_of p) j x (rise_by_pairs (points_of points) lane.rising) (omega (arith, length-map points point_of))
    (subst (λ (r : sound.Point). r.at ≤ x) (sym read) h) (subst (λ (r : sound.Point). x < r.at) (sym next) m)
    ∙ ap (λ (r : sound.Point). between r (get_or (points_of points) (j + 1) (point_of p)) x) read ∙ ap (λ (r : sound.Point). between (point_of p) r x) next

pub point_near : (points : List Point) (p : Point) (i : ℕ) → IsLane (points_of points) → i < length points → p ≡ get_or points i p → p.at < 1099511627776
point_near points p i lane h e =
    subst (λ (q : sound.Point). q.at < 1099511627776) (point_read points i p p h e)
    (All-get_or (λ (q : sound.Point). q.at < 1099511627776) (points_of points) i (point_of p) (omega (arith, length-map points point_of)) lane.near)

-- ---- a walk that stands at a place

pub walk_gain : (fader : ℕ) (points : List sound.Point) (walk : Walk) (place : ℕ) → Stands fader points walk place → lane_value fader points place ≡ gain_gone walk.piece walk.line.value
walk_gain fader points walk place stands =
    let n : ℕ = place - walk.piece.since in
    let value = line_value walk.line walk.piece.rise (lift walk.piece) n stands.line in
    let far : walk.line.value ≡ gone walk.piece n = value ∙ ap (λ d. (walk.piece.rise * n + lift walk.piece) / d) stands.over in
    stands.piece.heard place stands.since stands.until ∙ ap (gain_gone walk.piece) (sym far)

pub walk_quiet : (fader : ℕ) (points : List sound.Point) (walk : Walk) (place : ℕ) → IsLane points → fader ≤ 262144 → Stands fader points walk place → gain_gone walk.piece walk.line.value ≤ 262144
walk_quiet fader points walk place lane f stands =
    subst (λ g. g ≤ 262144) (walk_gain fader points walk place stands) (lane_quiet 262144 fader points place f lane.quiet (rise_by_pairs points lane.rising))
