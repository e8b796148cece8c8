-- The header of a master's file can be written.
use Rattle.std.proofs.Common.{◌≡◌, ℕ, ◌+◌, ◌-◌, ◌*◌, ◌/◌, ◌%◌, ◌<◌, ◌≤◌, ◌^◌, arith, ◌⊎◌, inl, inr}
use Rattle.std.specs.Prelude.{length}
use Rattle.std.proofs.Math.Nat.{mul-le-mul}
use Rattle.ses_units.specs.declared.bits.Bits.{Bits}
use Rattle.ses_units.specs.declared.bits.Bits.TheVariants.{B16, B24}
use Rattle.ses_units.specs.Bits.{bits_of}
use Rattle.session_model.specs.declared.session.Session.{Session}
use Rattle.session_model.specs.Valid.{IsValid}
use Rattle.engine_model.specs.Played.{master_channels}
use Rattle.route_mix.proofs.DeskLemmas.{a_route}
use Rattle.route_mix.proofs.RouteLemmas.{few_at, most_at}

pub width : (b : Bits) → bits_of b / 8 ≤ 3
width B16 = omega arith
width B24 = omega arith

last_there : (s : Session) → IsValid s → length s.routes.items - 1 < length s.routes.items
last_there s valid = omega (arith, valid.formed.limits.master)

pub two_channels : (s : Session) → IsValid s → master_channels s ≤ 2
two_channels s valid = most_at s valid.formed (length s.routes.items - 1) (last_there s valid) (a_route s valid.formed)

pub one_channel : (s : Session) → IsValid s → 1 ≤ master_channels s
one_channel s valid = by (few_at s valid.formed (length s.routes.items - 1) (last_there s valid) (a_route s valid.formed))
  where
    by : (master_channels s ≡ 1) ⊎ (master_channels s ≡ 2) → 1 ≤ master_channels s
    by (inl one) = omega (arith, one)
    by (inr two) = omega (arith, two)

-- its size is a number of 32 bits
pub head_fits : (blocks block channels bytes : ℕ) → blocks ≤ 100000 → block ≤ 4096 → channels ≤ 2 → bytes ≤ 3 → 36 + blocks * block * (channels * bytes) + blocks * block * (channels * bytes) % 2 < 2 ^ 32
head_fits blocks block channels bytes few short wide narrow =
    let one : blocks * block ≤ 100000 * 4096 = mul-le-mul few short in let two : channels * bytes ≤ 2 * 3 = mul-le-mul wide narrow in
    let most : blocks * block * (channels * bytes) ≤ 100000 * 4096 * (2 * 3) = mul-le-mul one two in omega (arith, most)
