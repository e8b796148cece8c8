use Rattle.std.proofs.Common.{◌≡◌, ℕ, ◌+◌, ◌-◌, ◌*◌, ◌/◌, length, ap, ◌∙◌, subst, arith, rules}
use Rattle.sound_model.specs.Numbers.{unity}
use Rattle.sound_model.specs.Regions.{shaped}
use Rattle.ses_units.specs.Shape.{shape_of}
use Rattle.ramp_fixed.specs.Lines.{IsOnLine}
use Rattle.ramp_fixed.proofs.Lines.{fade_on_line}
use Rattle.ramp_fixed.proofs.Parts.{filled_from, filled_down}
use Rattle.ramp_fixed.proofs.fades.fall.Goals as goal

pub loop-i-preserved : goal.loop-i-preserved
loop-i-preserved c =
    let f : ℕ → ℕ = λ k. shaped (shape_of c.args.shape) (unity * (c.args.long - 1 - (c.args.first + k)) / c.args.fade) in
    let place : c.args.long - (c.args.first + c.loop-i.i) ≡ c.args.long - 1 - (c.args.first + (c.loop-i.i - 1)) = omega arith in
    let value = fade_on_line c.loop-i.line (c.args.long - 1 - (c.args.first + (c.loop-i.i - 1))) c.args.fade (subst (IsOnLine c.loop-i.line unity 0) place c.loop-i.invariant.line) c.loop-i.invariant.over in
    let here : c.shaped.result ≡ f (c.loop-i.i - 1) = c.shaped.ensures ∙ ap (shaped (shape_of c.args.shape)) value in
    record {
      within = search rules;
      written = filled_down f c.loop-i.out c.loop-i.i c.shaped.result here (omega arith) c.loop-i.invariant.within c.loop-i.invariant.written;
      line = subst (IsOnLine c.next-line.result unity 0) (omega arith) (c.next-line.ensures.line unity 0 (c.args.long - (c.args.first + c.loop-i.i)) c.loop-i.invariant.line);
      over = c.next-line.ensures.over ∙ c.loop-i.invariant.over;
    }

pub returns : goal.returns
returns c =
    filled_from (λ i. shaped (shape_of c.args.shape) (unity * (c.args.long - 1 - i) / c.args.fade)) c.args.first (length c.args.out.now) c.loop-i.out (search rules)
    (λ k h. c.loop-i.invariant.written k (omega arith) (omega arith))
