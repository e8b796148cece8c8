-- What is kept while takes are written: how their files are named and made, and the last block of each track (own).
use Rattle.std.specs.Prelude.{◌≡◌, ℕ, IsTrue, Bool, not, ◌&&◌, ◌||◌, ◌==◌, if◌then◌else◌, List, [], ◌∷◌, ◌++◌, length, map, set, slice_get, Option, Some, None}
use Rattle.std.specs.List.{list_any, range_with_len}
use Rattle.std.specs.Option.{option_map_or}
use Rattle.ses_units.specs.declared.bits.Bits.{Bits}
use Rattle.ses_units.specs.Name.{is_name}
use Rattle.session_model.specs.declared.session.Session.{Session}
use Rattle.session_model.specs.Formed.{channels_at}
use Rattle.session_model.specs.Valid.{IsValid}
use Rattle.engine_model.specs.Takes.{route_name}
use Rattle.capture_flush.specs.declared.track.Place.{Place}
use Rattle.capture_flush.specs.declared.track.TrackTakes.{TrackTakes}
use Rattle.capture_flush.specs.declared.track.FailedTake.{FailedTake}
use Rattle.capture_flush.specs.Blocks.{Block, is_kept, last_after}

-- what contracts see of take files
pub record Taking : Type 0 where
  -- how their names begin
  pub takes : List ℕ
  -- frames a second
  pub rate : ℕ
  pub bits : Bits
  -- the frames of a block
  pub block : ℕ
  pub tracks : List TrackTakes
  -- the takes at which a write failed, in their order
  pub failed : List FailedTake

-- no block was kept yet
abbrev pub at_first : Session → ℕ → TrackTakes
at_first s t = record { name = route_name s t; channels = channels_at s t; last = None }

abbrev pub new_takes : Session → Taking
new_takes s = record {
  takes = s.takes;
  rate = s.rate;
  bits = s.bits;
  block = s.block;
  tracks = map (at_first s) (range_with_len 0 (length s.tracks.items));
  failed = [];
}

-- It writes the takes of track t.
pub record IsTrackOf (s : Session) (t : ℕ) (k : TrackTakes) : Type 0 where
  pub name : k.name ≡ route_name s t
  pub named : IsTrue (is_name k.name)
  pub channels : k.channels ≡ channels_at s t

-- It writes the takes of this session.
pub record IsTakingOf (s : Session) (f : Taking) : Type 0 where
  pub valid : IsValid s
  pub takes : f.takes ≡ s.takes
  pub rate : f.rate ≡ s.rate
  pub bits : f.bits ≡ s.bits
  pub block : f.block ≡ s.block
  pub many : length f.tracks ≡ length s.tracks.items
  pub tracks : (t : ℕ) (k : TrackTakes) → slice_get f.tracks t ≡ Some k → IsTrackOf s t k

-- the last block that was kept of track t
abbrev pub last_of : Taking → ℕ → Option Place
last_of f t = option_map_or (λ k. k.last) (slice_get f.tracks t) None

-- ---- takes that failed

-- how many can be noted
abbrev pub most_failed : ℕ
most_failed = 1024

-- take n of track t is among these
abbrev pub is_noted : List FailedTake → ℕ → ℕ → Bool
is_noted failed t n = list_any (λ k. k.track == t && k.take == n) failed

-- Nothing more is written of take n of track t: a write of it failed, or of as many takes as can be noted.
abbrev pub has_failed : Taking → ℕ → ℕ → Bool
has_failed f t n = is_noted f.failed t n || length f.failed == most_failed

-- the block is written: it is kept, and its take hasn't failed
abbrev pub is_given : Session → Taking → ℕ → Block → Bool
is_given s f t b = is_kept s t (last_of f t) b && not (has_failed f t b.take)

-- what has failed, after a block of this take at which a write failed or not
abbrev pub failed_after : List FailedTake → ℕ → ℕ → Bool → List FailedTake
failed_after failed t n fails = if fails then failed ++ record { track = t; take = n } ∷ [] else failed

-- the same after a block was passed for track t, at which a write failed or not
abbrev pub after_block : Session → Taking → ℕ → Block → Bool → Taking
after_block s f t b fails = record f {
  tracks = set f.tracks t (record { name = route_name s t; channels = channels_at s t; last = last_after s t (last_of f t) b });
  failed = failed_after f.failed t b.take fails;
}
