-- The master is one more route.
use Rattle.std.proofs.Common.{arith, length}
use Rattle.session_toml.proofs.NumberedLaws.{numbered-long, listed-room}
use Rattle.session_toml.proofs.session.all_routes.Goals as goal

pub push-requires : goal.push-requires
push-requires c = listed-room 64 (length c.args.texts.items) c.in_ok-routes.routes _ c.in_ok-routes.ensures (numbered-long _ 0 c.args.texts.items) (omega (arith, c.requires.few))
