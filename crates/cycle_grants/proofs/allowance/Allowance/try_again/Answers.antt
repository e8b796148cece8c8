use Rattle.std.proofs.Common.{refl, sym, append-nil}
use Rattle.disk_ring.proofs.GoesOn.{goes_on_out_refl}
use Rattle.cycle_grants.proofs.allowance.Allowance.try_again.Goals as goal

pub loop-try-init : goal.loop-try-init
loop-try-init c = record { ring = goes_on_out_refl _; same = refl; received = refl; tails = sym (append-nil _) }
