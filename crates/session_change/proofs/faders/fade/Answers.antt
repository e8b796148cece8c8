-- The route that is written back is the one that stood there with a change.
use Rattle.std.proofs.Common.{refl}
use Rattle.session_change.proofs.PlaceLemmas.{route_written}
use Rattle.session_change.proofs.faders.fade.Goals as goal

pub returns : goal.returns
returns c = route_written (λ q. record q { fader = c.args.gain }) c.args.s.now c.as_mut_slice.result.now c.args.route _ _ c.as_mut_slice.ensures.items c.requires refl
