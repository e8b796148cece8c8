-- How many bytes the blocks of a master have.
use Rattle.std.proofs.Common.{ℕ, ◌-◌, ◌*◌, ◌<◌, ◌≤◌, arith}
use Rattle.std.specs.Prelude.{length}
use Rattle.std.proofs.Math.Nat.{mul-le-mul}
use Rattle.session_model.specs.declared.session.Session.{Session}
use Rattle.session_model.specs.Valid.{IsValid}
use Rattle.engine_model.specs.Played.{master_channels}
use Rattle.route_mix.proofs.DeskLemmas.{a_route}
use Rattle.route_mix.proofs.RouteLemmas.{most_at}

last_there : (s : Session) → IsValid s → length s.routes.items - 1 < length s.routes.items
last_there s valid = omega (arith, valid.formed.limits.master)

pub two_channels : (s : Session) → IsValid s → master_channels s ≤ 2
two_channels s valid = most_at s valid.formed (length s.routes.items - 1) (last_there s valid) (a_route s valid.formed)

pub all_bytes : (blocks block channels bytes : ℕ) → blocks ≤ 100000 → block ≤ 4096 → channels ≤ 2 → bytes ≤ 3 → blocks * (block * channels) * bytes ≤ 2457600000
all_bytes blocks block channels bytes few short wide size =
    let one : block * channels ≤ 4096 * 2 = mul-le-mul short wide in let two : blocks * (block * channels) ≤ 100000 * (4096 * 2) = mul-le-mul few one in
    let three : blocks * (block * channels) * bytes ≤ 100000 * (4096 * 2) * 3 = mul-le-mul two size in omega (arith, three)
