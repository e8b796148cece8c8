-- A transport as the definitions of the engine have it, and its bounds.
use Rattle.std.specs.Prelude.{ℕ, ◌+◌, ◌^◌, ◌<◌, ◌&&◌, ◌==◌, nat_lt, if◌then◌else◌, Option, Some, None, IfSome}
use Rattle.std.specs.Option.{option_map}
use Rattle.engine_model.specs.Transport as engine
use Rattle.locate_loop.specs.declared.transport.Wrap.{Wrap}
use Rattle.locate_loop.specs.declared.transport.Transport.{Transport}

abbrev pub wrap_of : Wrap → engine.Wrap
wrap_of w = record { from = w.from; to = w.to }

abbrev pub transport_of : Transport → engine.Transport
transport_of t = record {
  rolling = t.rolling;
  recording = t.recording;
  generation = t.generation;
  target = t.target;
  wrap = option_map wrap_of t.wrap;
  quit = t.quit;
}

pub record IsWrap (w : Wrap) : Type 0 where
  -- it has a place
  pub some : w.from < w.to
  pub end : w.to < 2 ^ 40

pub record IsTransport (t : Transport) : Type 0 where
  pub target : t.target < 2 ^ 40
  pub wrap : IfSome t.wrap IsWrap

-- the place that follows another: after the last of a loop its first, else the next
abbrev pub after_in : ℕ → Option engine.Wrap → ℕ → ℕ
after_in target None place = place + 1
after_in target (Some w) place = if nat_lt target w.to && place + 1 == w.to then w.from else place + 1

unfoldable pub place_after : engine.Transport → ℕ → ℕ
place_after t place = after_in t.target t.wrap place
