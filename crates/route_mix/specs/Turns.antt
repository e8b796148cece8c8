-- One route's turn in a mix: what it takes in, and what it gives of it.
use Rattle.std.specs.Prelude.{◌≡◌, ℕ, ℤ, ◌+ℤ◌, Bool, if◌then◌else◌, is_some, List, slice_index_or}
use Rattle.sound_model.specs.Routes.{post, fed}
use Rattle.session_model.specs.declared.route.Route.{Route}
use Rattle.session_model.specs.declared.session.Session.{Session}
use Rattle.session_model.specs.Views.{route_of, track_number}
use Rattle.session_model.specs.Formed.{channels_at}
use Rattle.mix_kernel.specs.Blocks.{clipped}
use Rattle.route_mix.specs.Blocks.{block_of}
use Rattle.route_mix.specs.Feeds.{AreBlocks}

-- a track takes in its own block, and a bus or the master the clip of the sums that it was fed
abbrev pub taken : Route → List ℤ → List ℤ → List ℤ
taken q sums own = if is_some (track_number q.kind) then own else clipped sums

-- the place of a frame of a block
abbrev pub place_at : List ℕ → ℕ → ℕ
place_at places i = slice_index_or places i 0

-- a route gives of its input, over the places of a block, its post, and to the sums of all others what leads there
pub record IsGiven (s : Session) (solo : Bool) (q : Route) (places : List ℕ) (input given : List ℤ) (old new : List (List ℤ)) : Type 0 where
  pub post : (sound : ℕ → ℕ → ℤ) → input ≡ block_of sound q.channels s.block →
      given ≡ block_of (λ i c. post solo (route_of s.tracks.items q) (place_at places i) (sound i c)) q.channels s.block
  pub others : (sound : ℕ → ℕ → ℤ) (below : ℕ → ℕ → ℕ → ℤ) → input ≡ block_of sound q.channels s.block → AreBlocks s below old →
      AreBlocks s (λ r i c. below r i c +ℤ fed solo (place_at places i) r (channels_at s r) c (route_of s.tracks.items q) (sound i)) new
