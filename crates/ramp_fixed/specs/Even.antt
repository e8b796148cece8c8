-- Where a route has one gain at all places from one to another.
use Rattle.std.specs.Prelude.{◌≡◌, ℕ, ◌+◌, ◌<◌, ◌≤◌, List, length, slice_index_or}
use Rattle.sound_model.specs.Lanes.{Point, Mode, Manual, Play, gain_at}

-- each line that begins at this point or a later one, and at a place up to the last, is flat: the two points that it joins have one gain
abbrev pub AreFlat : List Point → ℕ → ℕ → Type 0
AreFlat points from last = (k : ℕ) (d : Point) → from ≤ k → k + 1 < length points → (slice_index_or points k d).at ≤ last
    → (slice_index_or points k d).gain ≡ (slice_index_or points (k + 1) d).gain

-- the fader is heard; or no line of the lane between points of differing gain is met on the places from the first to the last:
-- where a point stands at the last place or before it, and its neighbour after the first place, both have one gain
abbrev pub IsEven : Mode → List Point → ℕ → ℕ → Type 0
IsEven Manual points first last = Unit {0}
IsEven Play points first last = (k : ℕ) (d : Point) → k + 1 < length points → (slice_index_or points k d).at ≤ last → first < (slice_index_or points (k + 1) d).at
    → (slice_index_or points k d).gain ≡ (slice_index_or points (k + 1) d).gain

-- a route has this gain at each place from the first to the last
abbrev pub StaysAt : Mode → ℕ → List Point → ℕ → ℕ → ℕ → Type 0
StaysAt mode fader points first last gain = (x : ℕ) → first ≤ x → x ≤ last → gain_at mode fader points x ≡ gain
