-- A desk of routes: what it holds of a block, and what a mix makes of it.
use Rattle.std.specs.Prelude.{◌≡◌, ℕ, ◌+◌, ◌-◌, ◌*◌, ◌<◌, ◌≤◌, ℤ, pos, List, [], length, map, slice_index_or, All}
use Rattle.std.specs.List.{range_with_len}
use Rattle.sound_model.specs.Routes.{route_input, route_post}
use Rattle.session_model.specs.declared.session.Session.{Session}
use Rattle.session_model.specs.Views.{routes_of}
use Rattle.session_model.specs.Formed.{channels_at}
use Rattle.route_mix.specs.Blocks.{block_of, silence}
use Rattle.route_mix.specs.Turns.{place_at}

pub record DeskState : Type 0 where
  -- the frames of a block
  pub block : ℕ
  -- of each route the block that it took in, and the one that it gave
  pub inputs : List (List ℤ)
  pub posts : List (List ℤ)

-- how many samples a block of each route has
abbrev pub block_sizes : Session → List ℕ
block_sizes s = map (λ q. s.block * q.channels) s.routes.items

-- The desk has the routes of the session, and blocks of its size.
pub record IsDeskOf (s : Session) (d : DeskState) : Type 0 where
  pub block : d.block ≡ s.block
  pub inputs : map length d.inputs ≡ block_sizes s
  pub posts : map length d.posts ≡ block_sizes s

-- a desk on which nothing sounds
abbrev pub silent_desk : Session → DeskState
silent_desk s = record {
  block = s.block;
  inputs = map silence (block_sizes s);
  posts = map silence (block_sizes s);
}

-- the sample of a track at a frame of the block that was put, and on a channel
abbrev pub put_sample : Session → List (List ℤ) → ℕ → ℕ → ℕ → ℤ
put_sample s inputs i t c = slice_index_or (slice_index_or inputs t []) (i * channels_at s t + c) (pos 0)

-- the blocks of all routes, by the value of a route at a frame and on a channel
abbrev pub route_blocks : Session → (ℕ → ℕ → ℕ → ℤ) → List (List ℤ)
route_blocks s value = map (λ r. block_of (value r) (channels_at s r) s.block) (range_with_len 0 (length s.routes.items))

-- the value that a route has taken in at a frame, by the blocks of the tracks and the places of the frames
abbrev pub input_at : Session → List ℕ → List (List ℤ) → ℕ → ℕ → ℕ → ℤ
input_at s places inputs i r c = route_input (routes_of s) (put_sample s inputs i) (place_at places i) r c

-- and the one that it gives
abbrev pub post_at : Session → List ℕ → List (List ℤ) → ℕ → ℕ → ℕ → ℤ
post_at s places inputs i r c = route_post (routes_of s) (put_sample s inputs i) (place_at places i) r c

-- The desk after a mix of the session's routes at these places, one for each frame: each route has taken in its input, and given
-- its post. A track's block is what was put, or silence.
abbrev pub mixed_desk : Session → List ℕ → DeskState → DeskState
mixed_desk s places d = record {
  block = d.block;
  inputs = route_blocks s (λ r i c. input_at s places d.inputs i r c);
  posts = route_blocks s (λ r i c. post_at s places d.inputs i r c);
}

-- the block of the route that stands last
abbrev pub master_block : DeskState → List ℤ
master_block d = slice_index_or d.posts (length d.posts - 1) []

-- What a desk keeps: sums and a post for each route's input, gains for a block of two channels, and silence to lend.
pub record KeepsRoom (block : ℕ) (inputs posts fed : List (List ℤ)) (gains : ℕ) (zeros : List ℤ) : Type 0 where
  pub sums : map length fed ≡ map length inputs
  pub outs : map length posts ≡ map length inputs
  pub each_gain : gains ≡ 2 * block
  pub quiet : zeros ≡ silence (2 * block)
  -- a block has one channel or two
  pub within : All (λ b. length b ≤ 2 * block) inputs
  pub some : 0 < length inputs
