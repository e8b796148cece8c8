-- What is said of a lane: along its line, how loud it is, and what it means that its points rise.
use Rattle.std.specs.Prelude.{◌≡◌, ℕ, ◌≤◌, ◌<◌, ◌↔◌, true, List, [], ◌∷◌, ◌++◌, All, AllPairs}
use Rattle.sound_model.specs.Lanes.{Point, Mode, rises, between, lane_value, gain_at}

-- from a point up to its neighbour a lane is the line through the two; before the first point it is that point's gain, and from the last on the last's
pub record LaneIsTheLine : Type 0 where
  pub along : (fader : ℕ) (front back : List Point) (p q : Point) (x : ℕ) → rises (front ++ p ∷ q ∷ back) ≡ true → p.at ≤ x → x < q.at →
      lane_value fader (front ++ p ∷ q ∷ back) x ≡ between p q x
  pub before : (fader : ℕ) (p : Point) (back : List Point) (x : ℕ) → x < p.at → lane_value fader (p ∷ back) x ≡ p.gain
  pub after : (fader : ℕ) (front : List Point) (p : Point) (x : ℕ) → rises (front ++ p ∷ []) ≡ true → p.at ≤ x → lane_value fader (front ++ p ∷ []) x ≡ p.gain

-- a route whose fader and whose lane's points are at most so loud is never louder
abbrev pub GainsStayQuiet : Type 0
GainsStayQuiet = (mode : Mode) (fader : ℕ) (points : List Point) (x loudest : ℕ) → fader ≤ loudest → All (λ p. p.gain ≤ loudest) points → rises points ≡ true →
    gain_at mode fader points x ≤ loudest

-- points rise where each stands before all that follow it
abbrev pub LanesRise : Type 0
LanesRise = (points : List Point) → (rises points ≡ true) ↔ AllPairs (λ p q. p.at < q.at) points
