-- The samples so far.
use Rattle.std.proofs.Common.{◌≡◌}
use Rattle.made_session.specs.Each.{each_below}
use Rattle.made_session.specs.Tone.{tone_sample}
use Rattle.made_session.proofs.tone_file.samples.Given as goal

abbrev pub invariant-loop-i : goal.invariant-loop-i
invariant-loop-i l = l.samples.items ≡ each_below tone_sample l.i
