-- What a playlist asks of the regions that it is made of.
use Rattle.std.specs.Prelude.{◌≢◌, ◌≤◌, List, length, All, AllPairs}
use Rattle.session_walk.specs.declared.said as text
use Rattle.session_walk.specs.InRange.{IsRegionText}

-- regions that one playlist takes
pub record ArePlayable (regions : List text.RegionText.RegionText) : Type 0 where
  -- at most 256
  pub few : length regions ≤ 256
  pub limits : All IsRegionText regions
  -- no two have one id
  pub apart : AllPairs (λ r t. r.id ≢ t.id) regions
