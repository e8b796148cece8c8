-- What is said of a block of a track.
use Rattle.std.specs.Prelude.{◌≡◌, ℕ, ◌+◌, ◌*◌, ◌<◌, ◌≤◌, ◌⊎◌, List, ◌∷◌, ◌++◌}
use Rattle.sound_model.specs.Regions.{Region, Sounds}
use Rattle.sound_laws.specs.Tracks.{Hides}
use Rattle.session_model.specs.Playlist.{IsPlaylist}
use Rattle.playlist_layers.specs.Blocks.{track_block}

-- Where a region hides what lies below it at each position of a block, the block is that of the region and those above it.
abbrev pub WhatIsHiddenIsNotHeard : Type 0
WhatIsHiddenIsNotHeard = (sounds : Sounds) (below above : List Region) (r : Region) (channels from frames : ℕ) →
    IsPlaylist (below ++ r ∷ above) → (channels ≡ 1) ⊎ (channels ≡ 2) → ((x : ℕ) → from ≤ x → x < from + frames → Hides r x) →
    track_block sounds (below ++ r ∷ above) channels from (frames * channels) ≡ track_block sounds (r ∷ above) channels from (frames * channels)
