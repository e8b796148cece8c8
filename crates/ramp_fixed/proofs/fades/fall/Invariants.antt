use Rattle.std.proofs.Common.{◌≡◌, ℕ, ◌+◌, ◌-◌, ◌*◌, ◌/◌, ◌<◌, ◌≤◌, length, get_or}
use Rattle.sound_model.specs.Numbers.{unity}
use Rattle.sound_model.specs.Regions.{shaped}
use Rattle.ses_units.specs.Shape.{shape_of}
use Rattle.ramp_fixed.specs.Lines.{IsOnLine}
use Rattle.ramp_fixed.proofs.fades.fall.Given as goal

-- the values from i on, and the line at the one before
abbrev pub invariant-loop-i : goal.invariant-loop-i
invariant-loop-i l = record {
  within : l.i ≤ length l.out;
  written : (k : ℕ) → l.i ≤ k → k < length l.out → get_or l.out k 0 ≡ shaped (shape_of l.shape) (unity * (l.long - 1 - (l.first + k)) / l.fade);
  line : IsOnLine l.line unity 0 (l.long - (l.first + l.i));
  over : l.line.over ≡ l.fade;
}

abbrev pub decreases-loop-i : goal.decreases-loop-i
decreases-loop-i l = l.i
