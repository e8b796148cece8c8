-- The ends of a new ring of grants.
use Rattle.std.specs.Prelude.{◌≡◌, ℕ, true, false}
use Rattle.disk_ring.specs.Rings.{IsNewRing}
use Rattle.cycle_grants.specs.Allowance.{AllowanceState}
use Rattle.cycle_grants.specs.Granting.{GrantingState}

pub record AreNewEnds (depth : ℕ) (g : GrantingState) (a : AllowanceState) : Type 0 where
  -- nothing went through it
  pub ring : IsNewRing depth g.to a.from
  -- no grant was left out, and each is waited for
  pub none_left_out : g.over ≡ false
  pub waits : a.waits ≡ true
