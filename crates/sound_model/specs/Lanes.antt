-- The gain of a route at a place: its fader, or the line through the points of its lane (own).
use Rattle.std.specs.Prelude.{ℕ, ◌-◌, Bool, true, ◌&&◌, pos, ◌+ℤ◌, ◌-ℤ◌, ◌*ℤ◌, nat_lt, unsigned_abs, if◌then◌else◌, List, [], ◌∷◌}
use Rattle.std.specs.Int.{int_div_euclid}

pub record Point : Type 0 where
  pub at : ℕ
  pub gain : ℕ

-- each point stands after the one before it, as those of a lane do
abbrev pub rises : List Point → Bool
rises [] = true
rises (p ∷ []) = true
rises (p ∷ q ∷ qs) = nat_lt p.at q.at && rises (q ∷ qs)

pub data Mode : Type 0 where
  -- the fader is heard
  Manual : Mode
  -- the lane is heard
  Play : Mode

-- the value at x on the straight line from one point to the next, rounded down
abbrev pub between : Point → Point → ℕ → ℕ
between p q x = unsigned_abs (pos p.gain +ℤ int_div_euclid ((pos q.gain -ℤ pos p.gain) *ℤ pos (x - p.at)) (pos (q.at - p.at)))

-- the value at x, which isn't before p, of the line from p through further points; after the last it stays
abbrev pub line_from : Point → List Point → ℕ → ℕ
line_from p [] x = p.gain
line_from p (q ∷ qs) x = if nat_lt x q.at then between p q x else line_from q qs x

-- the value of a lane at x. Before the first point it is that point's gain; without points it is the fader
abbrev pub lane_value : ℕ → List Point → ℕ → ℕ
lane_value fader [] x = fader
lane_value fader (p ∷ ps) x = if nat_lt x p.at then p.gain else line_from p ps x

abbrev pub gain_at : Mode → ℕ → List Point → ℕ → ℕ
gain_at Manual fader lane x = fader
gain_at Play fader lane x = lane_value fader lane x
