-- The sound of a track: its regions in layers, opaque or transparent (Ardour's manual; order and formulas are own).
use Rattle.std.specs.Prelude.{ℕ, ◌-◌, ℤ, pos, ◌+ℤ◌, Bool, ◌&&◌, ◌||◌, ◌==◌, nat_lt, if◌then◌else◌, List, [], ◌∷◌, reverse}
use Rattle.sound_model.specs.Numbers.{unity, scale, clip}
use Rattle.sound_model.specs.Regions.{Region, Sounds, covers, fade, region_sample}

-- r lies below q: on a lower layer, or on the same layer with the lesser id
abbrev pub is_below : Region → Region → Bool
is_below r q = nat_lt r.layer q.layer || (r.layer == q.layer && nat_lt r.id q.id)

-- regions in order, the lowest first, with one more
abbrev pub with_region : Region → List Region → List Region
with_region r [] = r ∷ []
with_region r (q ∷ qs) = if is_below r q then r ∷ q ∷ qs else q ∷ with_region r qs

-- regions by layer, then by id
abbrev pub by_layer : List Region → List Region
by_layer [] = []
by_layer (r ∷ rs) = with_region r (by_layer rs)

-- a region over the sound below it
abbrev pub over : Sounds → ℕ → ℕ → Region → ℤ → ℤ
over sounds c x r below = let heard = scale (region_sample sounds r c x) (fade r (x - r.at)) in
    if r.opaque then heard +ℤ scale below (unity - fade r (x - r.at)) else heard +ℤ below

-- the sound at position x of regions that stand highest first; those that don't cover x say nothing
abbrev pub lay : Sounds → ℕ → ℕ → List Region → ℤ
lay sounds c x [] = pos 0
lay sounds c x (r ∷ below) = if covers r x then over sounds c x r (lay sounds c x below) else lay sounds c x below

-- the track sample: channel c at position x of a track with these regions, in whatever order they are listed
unfoldable pub track_sample : Sounds → List Region → ℕ → ℕ → ℤ
track_sample sounds regions c x = clip (lay sounds c x (reverse (by_layer regions)))
