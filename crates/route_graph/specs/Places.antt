-- Places of routes in a list.
use Rattle.std.specs.Prelude.{◌≡◌, ℕ, ◌<◌, ◌≤◌, Bool, true, false, List, [], ◌∷◌, ◌++◌, length, take, if◌then◌else◌, slice_index_or, nat_eq}
use Rattle.std.specs.List.{list_any, IsDistinct}

-- a place stands in a list
abbrev pub stands : List ℕ → ℕ → Bool
stands places t = list_any (nat_eq t) places

-- no place stands twice
abbrev pub AreOnce : List ℕ → Type 0
AreOnce places = IsDistinct nat_eq places

-- a list begins with another
abbrev pub StartsWith : List ℕ → List ℕ → Type 0
StartsWith places first = (more : List ℕ) × (places ≡ first ++ more)

-- a place more at the end, unless it stands already
abbrev pub with_place : List ℕ → ℕ → List ℕ
with_place places t = if stands places t then places else (places ++ t ∷ [])

-- The first places of a list of 64, with a mark at each of them.
pub record IsKept (list : List ℕ) (long : ℕ) (among : List Bool) : Type 0 where
  pub room : length list ≡ 64
  pub marks : length among ≡ 64
  pub few : long ≤ 64
  pub once : AreOnce (take long list)
  -- each is below 64
  pub low : (t : ℕ) → stands (take long list) t ≡ true → t < 64
  -- marked are those that stand
  pub marked : (t : ℕ) → t < 64 → slice_index_or among t false ≡ stands (take long list) t
