-- There is room for the master.
use Rattle.std.proofs.Common.{arith}
use Rattle.made_session.specs.Made.{tracks, track_route}
use Rattle.made_session.proofs.ListLemmas.{listed-room}
use Rattle.made_session.proofs.routes.route_list.Goals as goal

pub push-requires : goal.push-requires
push-requires c = listed-room 64 (track_route c.args.n) (tracks c.args.n) c.in_ok-list.list c.in_ok-list.ensures (omega arith)
