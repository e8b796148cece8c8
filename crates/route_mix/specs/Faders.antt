-- What a fader, or a lane, makes of a block.
use Rattle.std.specs.Prelude.{◌≡◌, ℕ, ◌≤◌, ℤ, List, length, slice_index_or, All}
use Rattle.sound_model.specs.Numbers.{scale, clip}
use Rattle.sound_model.specs.Lanes.{gain_at}
use Rattle.ses_units.specs.Mode.{mode_of}
use Rattle.session_model.specs.declared.route.Route.{Route}
use Rattle.route_mix.specs.Blocks.{block_of}

-- the gain of a route at a frame of a block
abbrev pub frame_gain : Route → List ℕ → ℕ → ℕ
frame_gain q places i = gain_at (mode_of q.mode) q.fader q.lane (slice_index_or places i 0)

-- a block is another through the route's fader or lane
abbrev pub IsFaded : Route → List ℕ → List ℤ → List ℤ → Type 0
IsFaded q places samples post = (sound : ℕ → ℕ → ℤ) → samples ≡ block_of sound q.channels (length places) →
    post ≡ block_of (λ i c. clip (scale (sound i c) (frame_gain q places i))) q.channels (length places)

-- the places lie from the first to the last
pub record AreWithin (places : List ℕ) (first last : ℕ) : Type 0 where
  pub from : All (λ x. first ≤ x) places
  pub to : All (λ x. x ≤ last) places
