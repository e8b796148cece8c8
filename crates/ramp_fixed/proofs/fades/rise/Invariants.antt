use Rattle.std.proofs.Common.{◌≡◌, ℕ, ◌+◌, ◌*◌, ◌/◌, ◌<◌, get_or}
use Rattle.sound_model.specs.Numbers.{unity}
use Rattle.sound_model.specs.Regions.{shaped}
use Rattle.ses_units.specs.Shape.{shape_of}
use Rattle.ramp_fixed.specs.Lines.{IsOnLine}
use Rattle.ramp_fixed.proofs.fades.rise.Given as goal

-- the values so far, and the line at the next
abbrev pub invariant-loop-i : goal.invariant-loop-i
invariant-loop-i l = record {
  written : (k : ℕ) → k < l.i → get_or l.out k 0 ≡ shaped (shape_of l.shape) (unity * (l.first + k) / l.long);
  line : IsOnLine l.line unity 0 (l.first + l.i);
  over : l.line.over ≡ l.long;
}
