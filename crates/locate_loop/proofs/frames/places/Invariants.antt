use Rattle.std.proofs.Common.{◌≡◌, ℕ, ◌+◌, ◌<◌, get_or}
use Rattle.engine_model.specs.Transport.{place_of}
use Rattle.locate_loop.specs.Transport.{transport_of}
use Rattle.locate_loop.proofs.frames.places.Given as goal

abbrev pub invariant-loop-i : goal.invariant-loop-i
invariant-loop-i l = record {
  -- the places so far
  done : (k : ℕ) → k < l.i → get_or l.out k 0 ≡ place_of (transport_of l.t) (l.first + k);
  -- the next one
  next : l.place ≡ place_of (transport_of l.t) (l.first + l.i);
}
