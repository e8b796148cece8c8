-- One more sample.
use Rattle.std.proofs.Common.{◌≡◌, ◌∷◌, ◌++◌, [], ◌∙◌, ap, sym, arith, rules}
use Rattle.made_session.specs.Each.{each_below}
use Rattle.made_session.specs.Tone.{tone_sample}
use Rattle.made_session.proofs.ListLemmas.{each-none, each-more}
use Rattle.made_session.proofs.tone_file.samples.Goals as goal

pub loop-i-init : goal.loop-i-init
loop-i-init c = c.new-samples.ensures.items ∙ sym (each-none tone_sample)

pub loop-i-preserved : goal.loop-i-preserved
loop-i-preserved c = let pushed : c.push.new.self.items ≡ c.loop-i.samples.items ++ c.sample.result ∷ [] = search rules in
    pushed ∙ ap (λ v. c.loop-i.samples.items ++ v ∷ []) c.sample.ensures
    ∙ ap (λ l. l ++ tone_sample c.loop-i.i ∷ []) c.loop-i.invariant ∙ sym (each-more tone_sample c.loop-i.i)

pub returns : goal.returns
returns c = let all : c.loop-i.i ≡ 4096 = omega (arith, c.loop-i-test.false, c.loop-i.auto) in c.loop-i.invariant ∙ ap (each_below tone_sample) all
