-- A piece of a lane, and where a walk along a lane stands.
use Rattle.std.specs.Prelude.{◌≡◌, ℕ, ◌+◌, ◌-◌, ◌*◌, ◌/◌, ◌^◌, ◌<◌, ◌≤◌, true, if◌then◌else◌, List}
use Rattle.sound_model.specs.Lanes.{Point, between, lane_value}
use Rattle.ramp_fixed.specs.declared.piece.Piece.{Piece}
use Rattle.ramp_fixed.specs.declared.walk.Walk.{Walk}
use Rattle.ramp_fixed.specs.Lines.{IsOnLine}

-- a falling line is rounded down, so what it has fallen is rounded up
abbrev pub lift : Piece → ℕ
lift piece = if piece.falls then piece.over - 1 else 0

-- how far the line of a piece has gone, n frames on
abbrev pub gone : Piece → ℕ → ℕ
gone piece n = (piece.rise * n + lift piece) / piece.over

-- the gain of a piece where its line has gone so far
abbrev pub gain_gone : Piece → ℕ → ℕ
gain_gone piece v = if piece.falls then piece.gain - v else piece.gain + v

-- on the places of the piece a lane is the line of the piece
pub record IsPiece (fader : ℕ) (points : List Point) (piece : Piece) : Type 0 where
  pub some : 0 < piece.over
  pub over : piece.over ≤ 2 ^ 40
  pub rise : piece.rise ≤ 262144
  -- a falling piece doesn't fall below 0
  pub above : (x : ℕ) → piece.since ≤ x → x < piece.until → piece.falls ≡ true → gone piece (x - piece.since) ≤ piece.gain
  pub heard : (x : ℕ) → piece.since ≤ x → x < piece.until → lane_value fader points x ≡ gain_gone piece (gone piece (x - piece.since))

-- a lane stays at one gain on these places
abbrev pub IsFlat : ℕ → List Point → ℕ → ℕ → ℕ → Type 0
IsFlat fader points since until gain = (x : ℕ) → since ≤ x → x < until → lane_value fader points x ≡ gain

-- from p up to q a lane is the line through the two
abbrev pub IsLineOf : ℕ → List Point → Point → Point → Type 0
IsLineOf fader points p q = (x : ℕ) → p.at ≤ x → x < q.at → lane_value fader points x ≡ between p q x

-- a walk stands at a place of its piece, with the line there
pub record Stands (fader : ℕ) (points : List Point) (walk : Walk) (place : ℕ) : Type 0 where
  pub piece : IsPiece fader points walk.piece
  pub there : walk.place ≡ place
  pub since : walk.piece.since ≤ place
  pub until : place < walk.piece.until
  pub line : IsOnLine walk.line walk.piece.rise (lift walk.piece) (place - walk.piece.since)
  pub over : walk.line.over ≡ walk.piece.over
