use Rattle.std.proofs.Common.{◌∙◌}
use Rattle.butler.proofs.MeetingLemmas.{ended_told, stocked_told}
use Rattle.butler.proofs.butler.Butler.meet.Goals as goal

-- src/meeting.rt
pub invariant_of-self : goal.invariant_of-self
invariant_of-self g c = let inside = c.self.inside in let ends = c.meet.new.ends in let told = c.meet.ensures.told in (
  stocked_told inside.holds.supplies.items inside.holds.drain inside.ends ends told c.self.invariant.0,
  c.self.invariant.1,
  c.self.invariant.2,
  c.self.invariant.3 ∙ ended_told inside.ends ends told,
)
