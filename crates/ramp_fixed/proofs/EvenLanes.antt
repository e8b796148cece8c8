-- A lane whose lines are flat stays at one gain.
use Rattle.std.proofs.Common.{◌≡◌, ℕ, suc, ◌+◌, ◌-◌, ◌/◌, ◌<◌, ◌≤◌, ◌⊎◌, inl, inr, List, [], ◌∷◌, ◌++◌, length, get_or, take, drop, refl, sym, ap, subst, ◌∙◌, arith, zero-mul, true, length-drop}
use Rattle.std.specs.List.{AllWithin}
use Rattle.std.proofs.lemmas.Bool.{cases_lt}
use Rattle.std.proofs.lemmas.List.{drop_more, take-append-drop, get_or-drop, get_or-map, length-map}
use Rattle.sound_model.specs.Lanes as sound
use Rattle.sound_model.specs.Lanes.{Play, rises, between, line_from, lane_value}
use Rattle.ses_units.specs.declared.point.Point.{Point}
use Rattle.ses_units.specs.Point.{point_of, points_of}
use Rattle.ses_units.specs.Lane.{IsLane}
use Rattle.ramp_fixed.specs.Even.{AreFlat, IsEven, StaysAt}
use Rattle.ramp_fixed.proofs.LaneLaws.{before, not_before, lane-reaches, value_rises}
use Rattle.ramp_fixed.proofs.LanePieces.{before_first}

-- ---- along flat lines

-- a line between two points of one gain is that gain
flat_between : (p q : sound.Point) (x : ℕ) → p.gain ≡ q.gain → between p q x ≡ p.gain
flat_between p q x same =
    let none : q.gain - p.gain ≡ 0 = omega arith in
    let part : 0 / (q.at - p.at) ≡ 0 = omega arith in
    value_rises p.gain q.gain (x - p.at) (q.at - p.at) (omega arith) ∙ rw (none, zero-mul, part) (omega arith)

-- each line from p on that begins at x or before it is flat
flat_line : (p : sound.Point) (ps : List sound.Point) (x : ℕ) → p.at ≤ x → AreFlat (p ∷ ps) 0 x → line_from p ps x ≡ p.gain
flat_line p [] x on flat = refl
flat_line p (q ∷ qs) x on flat = go (λ there. flat_line q qs x there next) (cases_lt x q.at)
  where
    next : AreFlat (q ∷ qs) 0 x
    next = λ k d h l m. let up : suc k + 1 ≡ suc (k + 1) = omega arith in
        flat (suc k) d (omega arith) (omega arith) m ∙ ap (λ i. (get_or (p ∷ q ∷ qs) i d).gain) up

    same : p.gain ≡ q.gain
    same = flat 0 p (omega arith) (omega arith) on

    go : (q.at ≤ x → line_from q qs x ≡ q.gain) → (x < q.at) ⊎ (q.at ≤ x) → line_from p (q ∷ qs) x ≡ p.gain
    go rest (inl below) = before x q.at (between p q x) (line_from q qs x) below ∙ flat_between p q x same
    go rest (inr there) = not_before x q.at (between p q x) (line_from q qs x) there ∙ rest there ∙ sym same

-- from a point on, which is the first or stands at the first place or before it
pub flat_stays : (fader : ℕ) (points : List sound.Point) (from first last : ℕ) (d : sound.Point) → rises points ≡ true → from < length points
    → (0 < from → (get_or points from d).at ≤ first) → AreFlat points from last → StaysAt Play fader points first last (get_or points from d).gain
flat_stays fader points from first last d h some through flat = λ x on m. go x on m (cases_lt x (get_or points from d).at)
  where
    rest : drop from points ≡ get_or points from d ∷ drop (from + 1) points
    rest = drop_more points from d some

    parts : points ≡ take from points ++ get_or points from d ∷ drop (from + 1) points
    parts = sym (take-append-drop from points) ∙ ap (λ ps. take from points ++ ps) rest

    later : (x : ℕ) → x ≤ last → AreFlat (get_or points from d ∷ drop (from + 1) points) 0 x
    later x m = subst (λ ps. AreFlat ps 0 x) rest (λ k e on l n.
        let there = get_or-drop from points k e in
        let next = get_or-drop from points (k + 1) e in
        let up : from + (k + 1) ≡ from + k + 1 = omega arith in
        let bound : (get_or points (from + k) e).at ≤ x = subst (λ (p : sound.Point). p.at ≤ x) there n in
        ap (λ (p : sound.Point). p.gain) there
        ∙ flat (from + k) e (omega arith) (omega (arith, length-drop from points)) (omega arith)
        ∙ sym (ap (λ (p : sound.Point). p.gain) (next ∙ ap (λ i. get_or points i e) up)))

    go : (x : ℕ) → first ≤ x → x ≤ last → (x < (get_or points from d).at) ⊎ ((get_or points from d).at ≤ x) → lane_value fader points x ≡ (get_or points from d).gain
    go x on m (inr there) =
        ap (λ ps. lane_value fader ps x) parts
        ∙ lane-reaches fader (take from points) (drop (from + 1) points) (get_or points from d) x (subst (λ ps. rises ps ≡ true) parts h) there
        ∙ flat_line (get_or points from d) (drop (from + 1) points) x there (later x m)
    go x on m (inl below) = start (cases_lt 0 from)
      where
        start : (0 < from) ⊎ (from ≤ 0) → lane_value fader points x ≡ (get_or points from d).gain
        start (inl more) = let bound = through more in absurd (omega arith)
        start (inr none) =
            let zero_is : from ≡ 0 = omega arith in
            before_first fader points d x (omega arith) (subst (λ i. x < (get_or points i d).at) zero_is below) ∙ ap (λ i. (get_or points i d).gain) (sym zero_is)

-- ---- points as code holds them

-- a point of the definitions as code holds it
abbrev held : sound.Point → Point
held d = record { at = d.at; gain = d.gain }

pub item : (points : List Point) (i : ℕ) (p : Point) (d : sound.Point) → i < length points → get_or (points_of points) i d ≡ point_of (get_or points i p)
item points i p d h = get_or-map point_of points i p d h

module _ (points : List Point) (from first last : ℕ) where
  -- lines that end at the first place or before it aren't met
  pub flat_is_even : (0 < from → AllWithin (λ p. p.at ≤ first) points 0 (from + 1)) → AreFlat (points_of points) from last → IsEven Play (points_of points) first last
  flat_is_even through flat = λ k d h m past. go k d h m past (cases_lt k from)
    where
      go : (k : ℕ) (d : sound.Point) → k + 1 < length (points_of points) → (get_or (points_of points) k d).at ≤ last → first < (get_or (points_of points) (k + 1) d).at
          → (k < from) ⊎ (from ≤ k) → (get_or (points_of points) k d).gain ≡ (get_or (points_of points) (k + 1) d).gain
      go k d h m past (inr on) = flat k d on h m
      go k d h m past (inl less) =
          let there : k + 1 < length points = omega (arith, length-map points point_of) in
          let bound = through (omega arith) (k + 1) (held d) (omega arith) (omega arith) in
          let beyond : first < (get_or points (k + 1) (held d)).at = subst (λ (p : sound.Point). first < p.at) (item points (k + 1) (held d) d there) past in
          absurd (omega arith)

  pub even_is_flat : AllWithin (λ p. first < p.at) points (from + 1) (length points) → IsEven Play (points_of points) first last → AreFlat (points_of points) from last
  even_is_flat after even = λ k d on h m.
      let there : k + 1 < length points = omega (arith, length-map points point_of) in
      even k d h m (subst (λ (p : sound.Point). first < p.at) (sym (item points (k + 1) (held d) d there)) (after (k + 1) (held d) (omega arith) there))

-- ---- lines one after another, up to the one that ends at index i

abbrev pub FlatSoFar : List Point → ℕ → ℕ → Type 0
FlatSoFar points from i = (k : ℕ) (d : sound.Point) → from ≤ k → k + 1 < i → (get_or (points_of points) k d).gain ≡ (get_or (points_of points) (k + 1) d).gain

module _ (points : List Point) (from i : ℕ) (p q : Point) (some : from < i) (within : i < length points) where
  line : (d : sound.Point) → (get_or points (i - 1) p).gain ≡ (get_or points i q).gain → (get_or (points_of points) (i - 1) d).gain ≡ (get_or (points_of points) (i - 1 + 1) d).gain
  line d same =
      let up : i - 1 + 1 ≡ i = omega arith in
      ap (λ (r : sound.Point). r.gain) (item points (i - 1) p d (omega arith)) ∙ same
      ∙ sym (ap (λ (r : sound.Point). r.gain) (ap (λ j. get_or (points_of points) j d) up ∙ item points i q d within))

  pub flat_more : (get_or points (i - 1) p).gain ≡ (get_or points i q).gain → FlatSoFar points from i → FlatSoFar points from (i + 1)
  flat_more same so_far = λ k d on h. go k d on h (cases_lt k (i - 1))
    where
      go : (k : ℕ) (d : sound.Point) → from ≤ k → k + 1 < i + 1 → (k < i - 1) ⊎ (i - 1 ≤ k) → (get_or (points_of points) k d).gain ≡ (get_or (points_of points) (k + 1) d).gain
      go k d on h (inl less) = so_far k d on (omega arith)
      go k d on h (inr more) = let is : k ≡ i - 1 = omega arith in rw is (line d same)

  pub flat_there : (last : ℕ) → AreFlat (points_of points) from last → (get_or points (i - 1) p).at ≤ last → (get_or points (i - 1) p).gain ≡ (get_or points i q).gain
  flat_there last flat on =
      let up : i - 1 + 1 ≡ i = omega arith in
      let here = item points (i - 1) p (point_of p) (omega arith) in
      let next = ap (λ j. get_or (points_of points) j (point_of p)) up ∙ item points i q (point_of p) within in
      sym (ap (λ (r : sound.Point). r.gain) here)
      ∙ flat (i - 1) (point_of p) (omega arith) (omega (arith, length-map points point_of)) (subst (λ (r : sound.Point). r.at ≤ last) (sym here) on)
      ∙ ap (λ (r : sound.Point). r.gain) next

  -- a point stands after the last place, so no line from it on is met
  pub flat_until : (last : ℕ) → IsLane (points_of points) → last < (get_or points (i - 1) p).at → FlatSoFar points from i → AreFlat (points_of points) from last
  flat_until last lane past so_far = λ k d on l m. go k d on l m (cases_lt k (i - 1))
    where
      go : (k : ℕ) (d : sound.Point) → from ≤ k → k + 1 < length (points_of points) → (get_or (points_of points) k d).at ≤ last → (k < i - 1) ⊎ (i - 1 ≤ k)
          → (get_or (points_of points) k d).gain ≡ (get_or (points_of points) (k + 1) d).gain
      go k d on l m (inl less) = so_far k d on (omega arith)
      go k d on l m (inr more) = absurd (after there (cases_lt (i - 1) k))
        where
          there : last < (get_or (points_of points) (i - 1) d).at
          there = subst (λ (r : sound.Point). last < r.at) (sym (item points (i - 1) p d (omega arith))) past

          after : last < (get_or (points_of points) (i - 1) d).at → (i - 1 < k) ⊎ (k ≤ i - 1) → ⊥
          after there (inl less) = let up = lane.rising (i - 1) k d less (omega arith) in absurd (omega arith)
          after there (inr same) =
              let is : k ≡ i - 1 = omega arith in
              let bound : (get_or (points_of points) (i - 1) d).at ≤ last = subst (λ j. (get_or (points_of points) j d).at ≤ last) is m in
              absurd (omega arith)
