-- The laws of lanes.
use Rattle.std.proofs.Common.{◌≡◌, ℕ, zero, suc, ◌+◌, ◌-◌, ◌*◌, ◌/◌, ◌≤◌, ◌<◌, true, cond, nat_lt, refl, arith, ◌∙◌, List, [], ◌∷◌, ◌++◌, All, inl, inr, ◌⊎◌}
use Rattle.std.specs.Prelude.{pos, negsuc, ◌+ℤ◌, ◌-ℤ◌, ◌*ℤ◌, unsigned_abs}
use Rattle.std.specs.Int.{int_div_euclid}
use Rattle.std.specs.List.{AllPairs}
use Rattle.std.proofs.lemmas.Bool.{cases_lt}
use Rattle.std.proofs.lemmas.Bool.Decides.{nat_tests}
use Rattle.std.proofs.lemmas.Int.{ints}
use Rattle.std.proofs.lemmas.List.Elements.{All-head, All-tail, All-cons}
use Rattle.std.proofs.lemmas.List.Kept.{AllPairs-cons}
use Rattle.std.proofs.Math.Nat.{div-le_of_le-mul, div-lt_iff_lt-mul, add-div_right, mul-le-mul}
use Rattle.sound_model.specs.Lanes.{Point, Manual, Play, rises, between, line_from, lane_value}
use Rattle.ramp_fixed.specs.LaneLaws.{LaneIsTheLine, GainsStayQuiet, LanesRise}

-- ---- the line between two gains, n of d frames on

abbrev value : ℕ → ℕ → ℕ → ℕ → ℕ
value a b n d = unsigned_abs (pos a +ℤ int_div_euclid ((pos b -ℤ pos a) *ℤ pos n) (pos d))

pub value_rises : (a b n d : ℕ) → a ≤ b → value a b n d ≡ a + (b - a) * n / d
value_rises a b n d up = let span : pos b -ℤ pos a ≡ pos (b - a) = omega (arith, ints) in rw span refl

-- a falling line is rounded down, so what it has fallen is rounded up
pub value_falls : (a b n d : ℕ) → b < a → 0 < d → n ≤ d → value a b n d ≡ a - ((a - b) * n + (d - 1)) / d
value_falls a b n d down some within = go (a - b - 1) (omega arith)
  where
    go : (k : ℕ) → a - b ≡ suc k → value a b n d ≡ a - ((a - b) * n + (d - 1)) / d
    go k e = let span : pos b -ℤ pos a ≡ negsuc k = omega (arith, ints) in rw (span, e) (by (suc k * n) refl)
      where
        by : (p : ℕ) → suc k * n ≡ p → unsigned_abs (pos a +ℤ int_div_euclid (negsuc k *ℤ pos n) (pos d)) ≡ a - (suc k * n + (d - 1)) / d
        by zero product =
            let none : 0 / d ≡ 0 = omega arith in
            let part : (d - 1) / d < 1 = (div-lt_iff_lt-mul {k = d} {x = d - 1} {y = 1} some).1 (omega arith) in
            let under : (0 + (d - 1)) / d ≡ 0 = let drop : 0 + (d - 1) ≡ d - 1 = omega arith in rw drop (omega arith) in
            rw (product, under, none) (omega (arith, ints))
        by (suc m) product =
            let up : (suc m + (d - 1)) / d ≡ m / d + 1 = let same : suc m + (d - 1) ≡ m + d = omega arith in rw same (add-div_right m some) in
            let far : suc k * n ≤ suc k * d = mul-le-mul (omega arith) within in
            let part : m / d < suc k = (div-lt_iff_lt-mul {k = d} {x = m} {y = suc k} some).1 (omega (arith, product)) in
            let is : pos a +ℤ negsuc (m / d) ≡ pos (a - suc (m / d)) = omega (arith, ints) in
            rw (product, up, is) (omega arith)

-- ---- a lane along its points

pub rises_first : (p q : Point) (qs : List Point) → rises (p ∷ q ∷ qs) ≡ true → p.at < q.at
rises_first p q qs h = grind (arith, nat_tests)

pub rises_rest : (p : Point) (ps : List Point) → rises (p ∷ ps) ≡ true → rises ps ≡ true
rises_rest p [] h = refl
rises_rest p (q ∷ qs) h = grind (arith, nat_tests)

first_below : (o : Point) (front back : List Point) (p : Point) → rises (o ∷ front ++ p ∷ back) ≡ true → o.at < p.at
first_below o [] back p h = rises_first o p back h
first_below o (q ∷ front) back p h =
    let first : o.at < q.at = rises_first o q (front ++ p ∷ back) h in
    let further : q.at < p.at = first_below q front back p (rises_rest o (q ∷ front ++ p ∷ back) h) in omega arith

pub before : {A : Type 0} (x y : ℕ) (u v : A) → x < y → cond (nat_lt x y) u v ≡ u
before x y u v h = grind (arith, nat_tests)

pub not_before : {A : Type 0} (x y : ℕ) (u v : A) → y ≤ x → cond (nat_lt x y) u v ≡ v
not_before x y u v h = grind (arith, nat_tests)

line-reaches : (o : Point) (front back : List Point) (p : Point) (x : ℕ) → rises (o ∷ front ++ p ∷ back) ≡ true → p.at ≤ x →
    line_from o (front ++ p ∷ back) x ≡ line_from p back x
line-reaches o [] back p x h on = not_before x p.at (between o p x) (line_from p back x) on
line-reaches o (q ∷ front) back p x h on =
    let rest : rises (q ∷ front ++ p ∷ back) ≡ true = rises_rest o (q ∷ front ++ p ∷ back) h in
    let below : q.at < p.at = first_below q front back p rest in
    not_before x q.at (between o q x) (line_from q (front ++ p ∷ back) x) (omega arith) ∙ line-reaches q front back p x rest on

-- from a point on, what stands before it says nothing
pub lane-reaches : (fader : ℕ) (front back : List Point) (p : Point) (x : ℕ) → rises (front ++ p ∷ back) ≡ true → p.at ≤ x →
    lane_value fader (front ++ p ∷ back) x ≡ line_from p back x
lane-reaches fader [] back p x h on = not_before x p.at p.gain (line_from p back x) on
lane-reaches fader (o ∷ front) back p x h on =
    let below : o.at < p.at = first_below o front back p h in
    not_before x o.at o.gain (line_from o (front ++ p ∷ back) x) (omega arith) ∙ line-reaches o front back p x h on

pub lane_is_the_line : LaneIsTheLine
lane_is_the_line = record {
  along = λ fader front back p q x h on below. lane-reaches fader front (q ∷ back) p x h on ∙ before x q.at (between p q x) (line_from q back x) below;
  before = λ fader p back x h. before x p.at p.gain (line_from p back x) h;
  after = λ fader front p x h on. lane-reaches fader front [] p x h on;
}

-- ---- how loud a lane is

value_quiet : (a b n d loudest : ℕ) → n ≤ d → 0 < d → a ≤ loudest → b ≤ loudest → value a b n d ≤ loudest
value_quiet a b n d loudest within some first second = go (cases_lt b a)
  where
    go : (b < a) ⊎ (a ≤ b) → value a b n d ≤ loudest
    go (inl down) = let e = value_falls a b n d down some within in omega arith
    go (inr up) = let e = value_rises a b n d up in let far : (b - a) * n ≤ (b - a) * d = mul-le-mul (omega arith) within in
        let part : (b - a) * n / d ≤ b - a = div-le_of_le-mul d (omega arith) in omega arith

line_quiet : (loudest : ℕ) (p : Point) (ps : List Point) (x : ℕ) → p.gain ≤ loudest → All (λ q. q.gain ≤ loudest) ps → rises (p ∷ ps) ≡ true → p.at ≤ x →
    line_from p ps x ≤ loudest
line_quiet loudest p [] x first others h on = first
line_quiet loudest p (q ∷ qs) x first others h on =
    go (λ there. line_quiet loudest q qs x second (All-tail (λ q. q.gain ≤ loudest) q qs others) (rises_rest p (q ∷ qs) h) there) (cases_lt x q.at)
  where
    second : q.gain ≤ loudest
    second = All-head (λ q. q.gain ≤ loudest) q qs others

    go : (q.at ≤ x → line_from q qs x ≤ loudest) → (x < q.at) ⊎ (q.at ≤ x) → line_from p (q ∷ qs) x ≤ loudest
    go rest (inl below) = rw (before x q.at (between p q x) (line_from q qs x) below) (value_quiet p.gain q.gain (x - p.at) (q.at - p.at) loudest (omega arith) (omega arith) first second)
    go rest (inr there) = rw (not_before x q.at (between p q x) (line_from q qs x) there) (rest there)

pub lane_quiet : (loudest fader : ℕ) (points : List Point) (x : ℕ) → fader ≤ loudest → All (λ p. p.gain ≤ loudest) points → rises points ≡ true → lane_value fader points x ≤ loudest
lane_quiet loudest fader [] x f quiet h = f
lane_quiet loudest fader (p ∷ ps) x f quiet h = go (cases_lt x p.at)
  where
    first : p.gain ≤ loudest
    first = All-head (λ q. q.gain ≤ loudest) p ps quiet

    go : (x < p.at) ⊎ (p.at ≤ x) → lane_value fader (p ∷ ps) x ≤ loudest
    go (inl below) = rw (before x p.at p.gain (line_from p ps x) below) first
    go (inr there) = rw (not_before x p.at p.gain (line_from p ps x) there) (line_quiet loudest p ps x first (All-tail (λ q. q.gain ≤ loudest) p ps quiet) h there)

pub gains_stay_quiet : GainsStayQuiet
gains_stay_quiet Manual fader points x loudest f quiet h = f
gains_stay_quiet Play fader points x loudest f quiet h = lane_quiet loudest fader points x f quiet h

-- ---- points that rise

all_after : (p : Point) (ps : List Point) → rises (p ∷ ps) ≡ true → All (λ q. p.at < q.at) ps
all_after p [] h = λ k d within. absurd (omega arith)
all_after p (q ∷ qs) h =
    let first : p.at < q.at = rises_first p q qs h in
    All-cons (λ r. p.at < r.at) q qs first (farther p q qs first (all_after q qs (rises_rest p (q ∷ qs) h)))
  where
    farther : (p q : Point) (rs : List Point) → p.at < q.at → All (λ r. q.at < r.at) rs → All (λ r. p.at < r.at) rs
    farther p q rs first others = λ k d within. let past = others k d within in omega arith

pub pairs_rise : (points : List Point) → rises points ≡ true → AllPairs (λ p q. p.at < q.at) points
pairs_rise [] h = λ i j d l m. absurd (omega arith)
pairs_rise (p ∷ ps) h = AllPairs-cons (λ p q. p.at < q.at) p ps (all_after p ps h) (pairs_rise ps (rises_rest p ps h))

pub rise_by_pairs : (points : List Point) → AllPairs (λ p q. p.at < q.at) points → rises points ≡ true
rise_by_pairs [] h = refl
rise_by_pairs (p ∷ []) h = refl
rise_by_pairs (p ∷ q ∷ qs) h =
    let first : p.at < q.at = h 0 1 p (omega arith) (omega arith) in
    let others : rises (q ∷ qs) ≡ true = rise_by_pairs (q ∷ qs) (λ i j d l m. h (suc i) (suc j) d (omega arith) (omega arith)) in
    grind (arith, nat_tests)

pub lanes_rise : LanesRise
lanes_rise points = (pairs_rise points, rise_by_pairs points)
