-- What a playlist is: the regions of a track by layer, then by id, each within its limits (own).
use Rattle.std.specs.Prelude.{◌≢◌, ℕ, suc, ◌+◌, ◌≤◌, Bool, not, ◌&&◌, ◌==◌, nat_lt, if◌then◌else◌, IsTrue, List, [], ◌∷◌, length, filter, All, AllPairs}
use Rattle.std.specs.List.{list_any}
use Rattle.sound_model.specs.Regions.{Region}
use Rattle.sound_model.specs.Layers.{is_below}
use Rattle.session_model.specs.Region.{IsRegion}

pub record IsPlaylist (regions : List Region) : Type 0 where
  -- at most 256 regions
  pub few : length regions ≤ 256
  -- each within its limits
  pub limits : All IsRegion regions
  -- each lies below all that follow it
  pub rising : AllPairs (λ r q. IsTrue (is_below r q)) regions
  -- no two have one id
  pub apart : AllPairs (λ r q. r.id ≢ q.id) regions

abbrev pub has_id : ℕ → Region → Bool
has_id id r = r.id == id

-- some region has the id
abbrev pub has_region : List Region → ℕ → Bool
has_region regions id = list_any (has_id id) regions

-- the regions of other ids
abbrev pub without_region : List Region → ℕ → List Region
without_region regions id = filter (λ r. not (has_id id r)) regions

-- the region shares a position with so many frames from a position on
abbrev pub meets : ℕ → ℕ → Region → Bool
meets from frames r = nat_lt r.at (from + frames) && nat_lt from (r.at + r.long)

-- the places, in layer order, of the regions that meet the span, counted from a number on
abbrev pub places_meeting_from : ℕ → List Region → ℕ → ℕ → List ℕ
places_meeting_from place [] from frames = []
places_meeting_from place (r ∷ rs) from frames =
    if meets from frames r then place ∷ places_meeting_from (suc place) rs from frames
    else places_meeting_from (suc place) rs from frames

-- the places, the lowest first, of the regions that meet the span
abbrev pub places_meeting : List Region → ℕ → ℕ → List ℕ
places_meeting regions from frames = places_meeting_from 0 regions from frames
