use Rattle.std.specs.Prelude.{◌≤◌}
use Rattle.std.specs.List.{AllWithin}
use Rattle.edition_log.proofs.types.read_sends.Given as goal

abbrev pub invariant-loop-send : goal.invariant-loop-send
invariant-loop-send l = AllWithin (λ s. s.gain ≤ 262144) l.sends 0 l.send-index
