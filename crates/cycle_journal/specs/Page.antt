-- What a page that waits to be written is given, and what its sink gets of it (own).
use Rattle.std.specs.Prelude.{◌≡◌, ℕ, List, ◌++◌, Result, OnOk}
use Rattle.ses_io.specs.Faults.{HasCause}
use Rattle.ses_io.specs.Outside.{SinkOutside}
use Rattle.ses_io.specs.Streams.{AppendsSome}

-- the room of a page, in bytes
abbrev pub page_size : ℕ
page_size = 8192

-- at most so many bytes has a line
abbrev pub longest_line : ℕ
longest_line = 3072

-- A piece was given to a page, which had bytes that waited for its sink.
pub record Adds {S E : Type 0} (outside : SinkOutside S) (piece waiting waiting_now : List ℕ) (old new : S) (result : Result (Unit {0}) E) : Type 0 where
  -- a front of what waited and of the piece went out, whatever was answered
  pub went : outside.tells → AppendsSome (outside.held old) (outside.held new) (waiting ++ piece)
  -- at Ok the rest of them waits now
  pub all : outside.tells → OnOk result (outside.held new ++ waiting_now ≡ outside.held old ++ (waiting ++ piece))
  -- and a fault comes only where the count rose
  pub cause : HasCause (outside.faults old) (outside.faults new) result
