-- The track that is written back is the one that stood there with a change.
use Rattle.std.proofs.Common.{refl}
use Rattle.session_change.proofs.PlaceLemmas.{track_written}
use Rattle.session_change.proofs.switches.arm.Goals as goal

pub returns : goal.returns
returns c = track_written (λ k. record k { armed = c.args.on }) c.args.s.now c.as_mut_slice.result.now c.args.track _ _ c.as_mut_slice.ensures.items c.requires refl
