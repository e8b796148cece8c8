use Rattle.std.proofs.Common.{◌∙◌, ap, arith, replicate}
use Rattle.std.specs.Prelude.{pos}
use Rattle.audio_source.proofs.ByteLaws as laws
use Rattle.audio_source.proofs.span.silence.Goals as goal

pub returns : goal.returns
returns c = laws.all_zero c.loop-v.out (λ k h. c.loop-v.invariant k (omega arith)) ∙ ap (λ n. replicate n (pos 0)) c.loop-v.auto.out
