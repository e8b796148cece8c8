-- What a route gives of its blocks to the sums of those that it leads to.
use Rattle.std.specs.Prelude.{◌≡◌, ℕ, ◌+◌, ◌*◌, ◌<◌, ℤ, pos, ◌+ℤ◌, if◌then◌else◌, List, [], length, map, slice_index_or}
use Rattle.sound_model.specs.Numbers.{scale}
use Rattle.sound_model.specs.Routes.{given, leads_to, sent}
use Rattle.session_model.specs.declared.route.Route.{Route}
use Rattle.session_model.specs.declared.route.SendLink.{SendLink}
use Rattle.session_model.specs.declared.session.Session.{Session}
use Rattle.session_model.specs.declared.track.Track.{Track}
use Rattle.session_model.specs.Views.{route_of, send_of}
use Rattle.session_model.specs.Formed.{IsFormedRoute, channels_at}
use Rattle.mix_kernel.specs.Bounds.{AllNear}
use Rattle.route_mix.specs.Blocks.{block_of}

-- sums of so many channels are fed what a route gives of samples at a gain
abbrev pub IsFed : Route → ℕ → ℕ → List ℤ → List ℤ → List ℤ → Type 0
IsFed q channels gain samples old new = (tracks : List Track) (frames : ℕ) (sound below : ℕ → ℕ → ℤ) →
    samples ≡ block_of sound q.channels frames → old ≡ block_of below channels frames →
    new ≡ block_of (λ i c. below i c +ℤ given (route_of tracks q) channels c (λ k. scale (sound i k) gain)) channels frames

-- a list has a block for each route of the session, which is that of the route's value at each frame and on each channel
pub record AreBlocks (s : Session) (value : ℕ → ℕ → ℕ → ℤ) (blocks : List (List ℤ)) : Type 0 where
  pub each : (r : ℕ) → r < length s.routes.items → slice_index_or blocks r [] ≡ block_of (value r) (channels_at s r) s.block
  pub all : length blocks ≡ length s.routes.items

-- a list has a block for each route of the session
pub record HaveSizes (s : Session) (blocks : List (List ℤ)) : Type 0 where
  pub each : (r : ℕ) → r < length s.routes.items → length (slice_index_or blocks r []) ≡ s.block * channels_at s r
  pub all : length blocks ≡ length s.routes.items

-- all sums of all blocks lie near zero
abbrev pub EachNear : ℕ → List (List ℤ) → Type 0
EachNear b blocks = (r : ℕ) → AllNear b (slice_index_or blocks r [])

-- sums lie at most c farther from zero
abbrev pub EachGoesOn : ℕ → List (List ℤ) → List (List ℤ) → Type 0
EachGoesOn c old new = (b : ℕ) → EachNear b old → EachNear (b + c) new

-- The sums of all routes are fed what one of them gives, of its blocks before and after the fader: `given` says what that is to
-- channel c of the route at a place, of its values before and after the fader at a frame.
abbrev pub IsGivenOn : Session → Route → List ℤ → List ℤ → (ℕ → ℕ → (ℕ → ℤ) → (ℕ → ℤ) → ℤ) → List (List ℤ) → List (List ℤ) → Type 0
IsGivenOn s q input post given old new = (before behind : ℕ → ℕ → ℤ) (below : ℕ → ℕ → ℕ → ℤ) →
    input ≡ block_of before q.channels s.block → post ≡ block_of behind q.channels s.block → AreBlocks s below old →
    AreBlocks s (λ r i c. below r i c +ℤ given r c (before i) (behind i)) new

-- what goes through the output
abbrev pub put_out : Session → Route → ℕ → ℕ → (ℕ → ℤ) → (ℕ → ℤ) → ℤ
put_out s q r c before behind = if leads_to r q.target then given (route_of s.tracks.items q) (channels_at s r) c behind else pos 0

-- what goes through these sends
abbrev pub sent_out : Session → Route → List SendLink → ℕ → ℕ → (ℕ → ℤ) → (ℕ → ℤ) → ℤ
sent_out s q sends r c before behind = sent r (route_of s.tracks.items q) (channels_at s r) c before behind (map send_of sends)

-- all that a route gives
abbrev pub all_out : Session → Route → ℕ → ℕ → (ℕ → ℤ) → (ℕ → ℤ) → ℤ
all_out s q r c before behind = put_out s q r c before behind +ℤ sent_out s q q.sends.items r c before behind

-- the route stands in the session
abbrev pub IsRouteOf : Session → Route → Type 0
IsRouteOf s q = (place : ℕ) × IsFormedRoute s place q
