-- What is said of regions in layers.
use Rattle.std.specs.Prelude.{◌≡◌, ◌≢◌, ℕ, ◌-◌, ◌≤◌, ℤ, pos, ◌+ℤ◌, true, false, List, [], ◌∷◌, ◌++◌, AllPairs, IsPermutation}
use Rattle.std.specs.List.{AllByRecursion}
use Rattle.sound_model.specs.Numbers.{unity, clip}
use Rattle.sound_model.specs.Regions.{Region, Sounds, covers, fade, region_sample}
use Rattle.sound_model.specs.Layers.{is_below, by_layer, lay, track_sample}

-- an opaque region that is heard in full at x
pub record Hides (r : Region) (x : ℕ) : Type 0 where
  pub there : covers r x ≡ true
  pub opaque : r.opaque ≡ true
  pub full : fade r (x - r.at) ≡ unity

-- a transparent region that is heard in full at x, if it covers x
pub record AddsUp (x : ℕ) (r : Region) : Type 0 where
  pub transparent : r.opaque ≡ false
  pub full : covers r x ≡ true → fade r (x - r.at) ≡ unity

-- the regions' own samples at x, together
abbrev pub sum_of_regions : Sounds → ℕ → ℕ → List Region → ℤ
sum_of_regions sounds c x [] = pos 0
sum_of_regions sounds c x (r ∷ rs) = region_sample sounds r c x +ℤ sum_of_regions sounds c x rs

abbrev pub RegionsStandInOrder : Type 0
RegionsStandInOrder = (regions : List Region) → AllPairs (λ q r. (q.layer ≤ r.layer) × (q.layer ≡ r.layer → q.id ≤ r.id)) (by_layer regions)

abbrev pub RegionsAreKept : Type 0
RegionsAreKept = (regions : List Region) → IsPermutation regions (by_layer regions)

abbrev pub ListingSaysNothing : Type 0
ListingSaysNothing = (sounds : Sounds) (front back : List Region) (q r : Region) (c x : ℕ) → q.id ≢ r.id →
    track_sample sounds (front ++ q ∷ r ∷ back) c x ≡ track_sample sounds (front ++ r ∷ q ∷ back) c x

abbrev pub HidesAllBelow : Type 0
HidesAllBelow = (sounds : Sounds) (above below : List Region) (r : Region) (c x : ℕ) → Hides r x →
    lay sounds c x (above ++ r ∷ below) ≡ lay sounds c x (above ++ r ∷ [])

abbrev pub BelowIsUnheard : Type 0
BelowIsUnheard = (sounds : Sounds) (front back : List Region) (q r : Region) (c x : ℕ) → Hides r x → is_below q r ≡ true →
    track_sample sounds (q ∷ front ++ r ∷ back) c x ≡ track_sample sounds (front ++ r ∷ back) c x

abbrev pub ElsewhereSaysNothing : Type 0
ElsewhereSaysNothing = (sounds : Sounds) (regions : List Region) (r : Region) (c x : ℕ) → covers r x ≡ false →
    track_sample sounds (r ∷ regions) c x ≡ track_sample sounds regions c x

abbrev pub TransparentRegionsAddUp : Type 0
TransparentRegionsAddUp = (sounds : Sounds) (regions : List Region) (c x : ℕ) → AllByRecursion (AddsUp x) regions →
    track_sample sounds regions c x ≡ clip (sum_of_regions sounds c x regions)
