-- The region of the id was taken out, so that there is room.
use Rattle.std.proofs.Common.{◌≡◌, ◌≤◌, ◌<◌, sym, length, subst, arith}
use Rattle.std.specs.Prelude.{false}
use Rattle.session_model.specs.Playlist.{has_region}
use Rattle.session_change.proofs.RegionLemmas.{none_has, room_for}
use Rattle.session_change.proofs.regions.put.Goals as goal

pub insert-requires-clause-room : goal.insert-requires-clause-room
insert-requires-clause-room c =
    let few : length c.args.list.now ≤ 256 = omega (arith, c.len-number.ensures.len, c.len-number.ensures.few) in
    subst (λ rs. length rs < 256) (sym c.remove.ensures.others) (room_for c.args.r.id c.args.list.now few c.requires.room)

pub insert-requires-clause-fresh : goal.insert-requires-clause-fresh
insert-requires-clause-fresh c = subst (λ rs. has_region rs c.args.r.id ≡ false) (sym c.remove.ensures.others) (none_has c.args.r.id c.args.list.now)
