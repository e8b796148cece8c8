-- What is said of the numbers of a sample, of fades and of lanes.
use Rattle.std.specs.Prelude.{◌≡◌, ℕ, ◌+◌, ◌-◌, ◌<◌, ◌≤◌, min, max, ◌⊎◌, ℤ, true, List, [], ◌∷◌, ◌++◌}
use Rattle.sound_model.specs.Numbers.{unity, scale, clip, file_sample, inner}
use Rattle.sound_model.specs.Regions.{Region, Linear, Slow, shaped, fade}
use Rattle.sound_model.specs.Lanes.{Point, rises, lane_value}

abbrev pub UnityChangesNothing : Type 0
UnityChangesNothing = (s : ℤ) → scale s unity ≡ s

abbrev pub ClippedStays : Type 0
ClippedStays = (s : ℤ) → clip (clip s) ≡ clip s

-- a number of 16 or of 24 bits is written as it was read
abbrev pub ReadIsWritten : Type 0
ReadIsWritten = (bits : ℕ) (x : ℤ) → (bits ≡ 16) ⊎ (bits ≡ 24) → file_sample bits (inner bits (file_sample bits x)) ≡ file_sample bits x

-- ---- fades

abbrev pub FadeStaysWithin : Type 0
FadeStaysWithin = (r : Region) (i : ℕ) → fade r i ≤ unity

abbrev pub FadeInRises : Type 0
FadeInRises = (r : Region) (i j : ℕ) → i ≤ j → j < r.fade_in → fade r i ≤ fade r j

abbrev pub FadeOutFalls : Type 0
FadeOutFalls = (r : Region) (i j : ℕ) → i ≤ j → r.fade_in ≤ i → r.long ≤ i + r.fade_out → fade r j ≤ fade r i

abbrev pub FullBetweenFades : Type 0
FullBetweenFades = (r : Region) (i : ℕ) → r.fade_in ≤ i → i + r.fade_out < r.long → fade r i ≡ unity

-- the first frame of a fade-in and the last of a fade-out are silent
abbrev pub FadeInBeginsSilent : Type 0
FadeInBeginsSilent = (r : Region) → 0 < r.fade_in → fade r 0 ≡ 0

abbrev pub FadeOutEndsSilent : Type 0
FadeOutEndsSilent = (r : Region) → 0 < r.fade_out → r.fade_in + r.fade_out ≤ r.long → fade r (r.long - 1) ≡ 0

-- a slow fade lies below the linear one of the same frames, and meets it in silence and at unity
abbrev pub SlowLiesBelow : Type 0
SlowLiesBelow = (v : ℕ) → v ≤ unity → shaped Slow v ≤ shaped Linear v

abbrev pub SlowMeetsLinear : Type 0
SlowMeetsLinear = (shaped Slow 0 ≡ shaped Linear 0) × (shaped Slow unity ≡ shaped Linear unity)

-- of a region whose fades become slow: no fade value rises
abbrev pub SlowFadesLieBelow : Type 0
SlowFadesLieBelow = (r : Region) (i : ℕ) → fade (record r { shape_in = Slow; shape_out = Slow }) i ≤ fade (record r { shape_in = Linear; shape_out = Linear }) i

-- ---- lanes

abbrev pub LaneMeetsItsPoints : Type 0
LaneMeetsItsPoints = (fader : ℕ) (front back : List Point) (p : Point) → rises (front ++ p ∷ back) ≡ true →
    lane_value fader (front ++ p ∷ back) p.at ≡ p.gain

abbrev pub LaneStaysBetweenPoints : Type 0
LaneStaysBetweenPoints = (fader : ℕ) (front back : List Point) (p q : Point) (x : ℕ) → rises (front ++ p ∷ q ∷ back) ≡ true → p.at ≤ x → x ≤ q.at →
    (min p.gain q.gain ≤ lane_value fader (front ++ p ∷ q ∷ back) x) × (lane_value fader (front ++ p ∷ q ∷ back) x ≤ max p.gain q.gain)

abbrev pub LaneStaysAfterItsLastPoint : Type 0
LaneStaysAfterItsLastPoint = (fader : ℕ) (front : List Point) (p : Point) (x : ℕ) → rises (front ++ p ∷ []) ≡ true → p.at ≤ x →
    lane_value fader (front ++ p ∷ []) x ≡ p.gain
