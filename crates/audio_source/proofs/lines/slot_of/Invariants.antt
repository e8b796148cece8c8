use Rattle.std.proofs.Common.{◌≡◌}
use Rattle.std.specs.Map.{lookup}
use Rattle.audio_source.specs.Lines.{same_line}
use Rattle.audio_source.specs.Slots.{used}
use Rattle.audio_source.proofs.lines.slot_of.Given as goal

-- the line is in no slot so far
abbrev pub invariant-loop-slot : goal.invariant-loop-slot
invariant-loop-slot l = record {
  next : (goal.iterator-loop-slot).can_next l.slot-iterator;
  finite : (goal.iterator-loop-slot).is_finite l.slot-iterator;
  found : lookup (same_line l.name) (used l.slots.entries) ≡ lookup (same_line l.name) (used l.slot-iterator);
}
