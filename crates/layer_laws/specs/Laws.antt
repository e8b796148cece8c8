-- What is said of regions that are laid the lowest first, how far from silence they are heard, and which of them a span needs.
use Rattle.std.specs.Prelude.{◌≡◌, ℕ, ◌+◌, ◌^◌, ◌<◌, ◌≤◌, ℤ, pos, neg_ℤ, ◌≤ℤ◌, if◌then◌else◌, List, [], ◌∷◌, ◌++◌, length, map, filter, reverse, slice_index_or, All}
use Rattle.sound_model.specs.Regions.{Region, Sounds, covers, region_sample}
use Rattle.sound_model.specs.Layers.{over, lay, track_sample}
use Rattle.session_model.specs.Frames.{IsSample}
use Rattle.session_model.specs.Playlist.{meets, places_meeting}

-- ---- the lowest first

-- A region on top of others is laid over their sound where it covers the position, and elsewhere leaves it.
abbrev pub LaysFromTheLowest : Type 0
LaysFromTheLowest = (sounds : Sounds) (rs : List Region) (r : Region) (c x : ℕ) → lay sounds c x (reverse (rs ++ r ∷ []))
    ≡ (if covers r x then over sounds c x r (lay sounds c x (reverse rs)) else lay sounds c x (reverse rs))

-- ---- how far from silence

-- from -b to b
pub record IsNear (b : ℕ) (v : ℤ) : Type 0 where
  pub low : neg_ℤ (pos b) ≤ℤ v
  pub high : v ≤ℤ pos b

-- A region's own sample, whose gain is at most four times unity, is within four times what 24 bits hold.
abbrev pub RegionsStayNear : Type 0
RegionsStayNear = (sounds : Sounds) (r : Region) (c x : ℕ) → ((i : ℕ) → IsSample (sounds r.source i c)) → r.gain ≤ 262144 →
    IsNear (2 ^ 25) (region_sample sounds r c x)

-- A region takes the sound below it no further from silence than by its own sample.
abbrev pub OverStaysNear : Type 0
OverStaysNear = (sounds : Sounds) (r : Region) (c x b : ℕ) (below : ℤ) → IsNear (2 ^ 25) (region_sample sounds r c x) → IsNear b below →
    IsNear (b + 2 ^ 25) (over sounds c x r below)

abbrev pub LayersStayNear : Type 0
LayersStayNear = (sounds : Sounds) (rs : List Region) (c x : ℕ) → length rs ≤ 256 → All (λ r. IsNear (2 ^ 25) (region_sample sounds r c x)) rs →
    IsNear (2 ^ 33) (lay sounds c x rs)

-- ---- the regions of a span

-- At each position of a span the regions that meet it sound as all do.
abbrev pub OnlyCoveringMatter : Type 0
OnlyCoveringMatter = (sounds : Sounds) (regions : List Region) (from frames c x : ℕ) → from ≤ x → x < from + frames →
    lay sounds c x (reverse (filter (meets from frames) regions)) ≡ lay sounds c x (reverse regions)

abbrev pub OnlyCoveringIsHeard : Type 0
OnlyCoveringIsHeard = (sounds : Sounds) (regions : List Region) (from frames c x : ℕ) → from ≤ x → x < from + frames →
    track_sample sounds (filter (meets from frames) regions) c x ≡ track_sample sounds regions c x

-- At the places of the regions that meet a span stand those regions.
abbrev pub PlacesAreOfThoseMeeting : Type 0
PlacesAreOfThoseMeeting = (regions : List Region) (from frames : ℕ) (d : Region) →
    map (λ place. slice_index_or regions place d) (places_meeting regions from frames) ≡ filter (meets from frames) regions

abbrev pub PlacesAreThere : Type 0
PlacesAreThere = (regions : List Region) (from frames : ℕ) → All (λ place. place < length regions) (places_meeting regions from frames)
