-- A lane at its points, and between them.
use Rattle.std.proofs.Common.{◌≡◌, ℕ, zero, suc, ◌+◌, ◌-◌, ◌*◌, ◌/◌, ◌≤◌, ◌<◌, min, max, true, cond, nat_lt, refl, ap, arith, ◌∙◌, List, [], ◌∷◌, ◌++◌, inl, inr, ◌⊎◌}
use Rattle.std.specs.Prelude.{ℤ, pos, negsuc, ◌+ℤ◌, ◌-ℤ◌, ◌*ℤ◌, unsigned_abs}
use Rattle.std.specs.Int.{int_div_euclid}
use Rattle.std.proofs.lemmas.Bool.{cases_lt}
use Rattle.std.proofs.lemmas.Bool.Decides.{nat_tests}
use Rattle.std.proofs.lemmas.Int.{ints}
use Rattle.std.proofs.Math.Nat.{div-le_of_le-mul, div-lt_iff_lt-mul}
use Rattle.sound_model.specs.Lanes.{Point, rises, between, line_from, lane_value}
use Rattle.sound_laws.specs.Values.{LaneMeetsItsPoints, LaneStaysBetweenPoints, LaneStaysAfterItsLastPoint}

-- ---- the line between two gains, n of d frames on

abbrev value : ℕ → ℕ → ℕ → ℕ → ℕ
value a b n d = unsigned_abs (pos a +ℤ int_div_euclid ((pos b -ℤ pos a) *ℤ pos n) (pos d))

abbrev Between : ℕ → ℕ → ℕ → Type 0
Between a b v = (min a b ≤ v) × (v ≤ max a b)

value_rises : (a b k n d : ℕ) → b ≡ a + k → value a b n d ≡ a + k * n / d
value_rises a b k n d e = let span : pos b -ℤ pos a ≡ pos k = omega (arith, ints) in rw span refl

rising_between : (a b k n d : ℕ) → b ≡ a + k → n ≤ d → Between a b (value a b n d)
rising_between a b k n d e within = rw (value_rises a b k n d e)
    (let part : k * n / d ≤ k = div-le_of_le-mul d (grind arith) in (omega arith, omega arith))

-- m is one less than the product of the fall and the frames
falls_by : (a b k n d m : ℕ) → a ≡ b + suc k → suc k * n ≡ suc m → n ≤ d → 0 < d → Between a b (value a b n d)
falls_by a b k n d m e product within some = let span : pos b -ℤ pos a ≡ negsuc k = omega (arith, ints) in
    let part : m / d < suc k = (div-lt_iff_lt-mul {k = d} {x = m} {y = suc k} some).1 (grind arith) in
    rw (span, product) (let is : pos a +ℤ negsuc (m / d) ≡ pos (a - suc (m / d)) = omega (arith, ints) in rw is (omega arith, omega arith))

stays_by : (a b k n d : ℕ) → a ≡ b + suc k → suc k * n ≡ zero → Between a b (value a b n d)
stays_by a b k n d e product = let span : pos b -ℤ pos a ≡ negsuc k = omega (arith, ints) in
    rw (span, product) (let none : 0 / d ≡ 0 = omega arith in rw none (omega arith, omega arith))

falling_between : (a b k n d : ℕ) → a ≡ b + suc k → n ≤ d → 0 < d → Between a b (value a b n d)
falling_between a b k n d e within some = go (suc k * n) refl
  where
    go : (p : ℕ) → suc k * n ≡ p → Between a b (value a b n d)
    go zero product = stays_by a b k n d e product
    go (suc m) product = falls_by a b k n d m e product within some

value_between : (a b n d : ℕ) → n ≤ d → 0 < d → Between a b (value a b n d)
value_between a b n d within some = go (cases_lt b a)
  where
    go : (b < a) ⊎ (a ≤ b) → Between a b (value a b n d)
    go (inl falls) = falling_between a b (a - b - 1) n d (omega arith) within some
    go (inr climbs) = rising_between a b (b - a) n d (omega arith) within

times-none : (z : ℤ) → z *ℤ pos 0 ≡ pos 0
times-none (pos n) = ap pos (omega arith)
times-none (negsuc n) = let none : suc n * 0 ≡ 0 = omega arith in rw none refl

value-first : (a b d : ℕ) → value a b 0 d ≡ a
value-first a b d = let none : 0 / d ≡ 0 = omega arith in rw (times-none, none) (omega arith)

between-first : (p q : Point) → between p q p.at ≡ p.gain
between-first p q = let gone : p.at - p.at ≡ 0 = omega arith in rw gone (value-first p.gain q.gain (q.at - p.at))

-- ---- the points of a lane

rises_first : (p q : Point) (qs : List Point) → rises (p ∷ q ∷ qs) ≡ true → p.at < q.at
rises_first p q qs h = grind (arith, nat_tests)

rises_rest : (p : Point) (ps : List Point) → rises (p ∷ ps) ≡ true → rises ps ≡ true
rises_rest p [] h = refl
rises_rest p (q ∷ qs) h = grind (arith, nat_tests)

first_below : (o : Point) (front back : List Point) (p : Point) → rises (o ∷ front ++ p ∷ back) ≡ true → o.at < p.at
first_below o [] back p h = rises_first o p back h
first_below o (q ∷ front) back p h =
    let first : o.at < q.at = rises_first o q (front ++ p ∷ back) h in
    let further : q.at < p.at = first_below q front back p (rises_rest o (q ∷ front ++ p ∷ back) h) in omega arith

before : {A : Type 0} (x y : ℕ) (u v : A) → x < y → cond (nat_lt x y) u v ≡ u
before x y u v h = grind (arith, nat_tests)

not_before : {A : Type 0} (x y : ℕ) (u v : A) → y ≤ x → cond (nat_lt x y) u v ≡ v
not_before x y u v h = grind (arith, nat_tests)

-- from a point on, what stands before it says nothing
line-reaches : (o : Point) (front back : List Point) (p : Point) (x : ℕ) → rises (o ∷ front ++ p ∷ back) ≡ true → p.at ≤ x →
    line_from o (front ++ p ∷ back) x ≡ line_from p back x
line-reaches o [] back p x h on = not_before x p.at (between o p x) (line_from p back x) on
line-reaches o (q ∷ front) back p x h on =
    let rest : rises (q ∷ front ++ p ∷ back) ≡ true = rises_rest o (q ∷ front ++ p ∷ back) h in
    let below : q.at < p.at = first_below q front back p rest in
    not_before x q.at (between o q x) (line_from q (front ++ p ∷ back) x) (omega arith) ∙ line-reaches q front back p x rest on

lane-reaches : (fader : ℕ) (front back : List Point) (p : Point) (x : ℕ) → rises (front ++ p ∷ back) ≡ true → p.at ≤ x →
    lane_value fader (front ++ p ∷ back) x ≡ line_from p back x
lane-reaches fader [] back p x h on = not_before x p.at p.gain (line_from p back x) on
lane-reaches fader (o ∷ front) back p x h on =
    let below : o.at < p.at = first_below o front back p h in
    not_before x o.at o.gain (line_from o (front ++ p ∷ back) x) (omega arith) ∙ line-reaches o front back p x h on

line-here : (p : Point) (back : List Point) → rises (p ∷ back) ≡ true → line_from p back p.at ≡ p.gain
line-here p [] h = refl
line-here p (q ∷ qs) h = let first : p.at < q.at = rises_first p q qs h in before p.at q.at (between p q p.at) (line_from q qs p.at) first ∙ between-first p q

rises_from : (front back : List Point) → rises (front ++ back) ≡ true → rises back ≡ true
rises_from [] back h = h
rises_from (o ∷ front) back h = rises_from front back (rises_rest o (front ++ back) h)

pub lane_meets_its_points : LaneMeetsItsPoints
lane_meets_its_points fader front back p h = lane-reaches fader front back p p.at h (omega arith) ∙ line-here p back (rises_from front (p ∷ back) h)

pub lane_stays_after_its_last_point : LaneStaysAfterItsLastPoint
lane_stays_after_its_last_point fader front p x h on = lane-reaches fader front [] p x h on

line_between : (p q : Point) (back : List Point) (x : ℕ) → rises (p ∷ q ∷ back) ≡ true → p.at ≤ x → x ≤ q.at → Between p.gain q.gain (line_from p (q ∷ back) x)
line_between p q back x h on within = go (cases_lt x q.at)
  where
    go : (x < q.at) ⊎ (q.at ≤ x) → Between p.gain q.gain (line_from p (q ∷ back) x)
    go (inl below) = rw (before x q.at (between p q x) (line_from q back x) below) (value_between p.gain q.gain (x - p.at) (q.at - p.at) (omega arith) (omega arith))
    go (inr there) = rw (not_before x q.at (between p q x) (line_from q back x) there) (at_end (omega arith))
      where
        at_end : x ≡ q.at → Between p.gain q.gain (line_from q back x)
        at_end same = rw (same, line-here q back (rises_rest p (q ∷ back) h)) (omega arith, omega arith)

pub lane_stays_between_points : LaneStaysBetweenPoints
lane_stays_between_points fader front back p q x h on within =
    rw (lane-reaches fader front (q ∷ back) p x h on) (line_between p q back x (rises_from front (p ∷ q ∷ back) h) on within)
