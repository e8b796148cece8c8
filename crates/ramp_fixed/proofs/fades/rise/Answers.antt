use Rattle.std.proofs.Common.{◌≡◌, ℕ, ◌+◌, ◌*◌, ◌/◌, length, ap, ◌∙◌, subst, arith, rules}
use Rattle.std.proofs.lemmas.List.Edits.{fill_by_more}
use Rattle.sound_model.specs.Numbers.{unity}
use Rattle.sound_model.specs.Regions.{shaped}
use Rattle.ses_units.specs.Shape.{shape_of}
use Rattle.ramp_fixed.specs.Lines.{IsOnLine}
use Rattle.ramp_fixed.proofs.Lines.{fade_on_line}
use Rattle.ramp_fixed.proofs.Parts.{filled_from}
use Rattle.ramp_fixed.proofs.fades.rise.Goals as goal

pub loop-i-preserved : goal.loop-i-preserved
loop-i-preserved c =
    let f : ℕ → ℕ = λ k. shaped (shape_of c.args.shape) (unity * (c.args.first + k) / c.args.long) in
    let value = fade_on_line c.loop-i.line (c.args.first + c.loop-i.i) c.args.long c.loop-i.invariant.line c.loop-i.invariant.over in
    let here : c.shaped.result ≡ f c.loop-i.i = c.shaped.ensures ∙ ap (shaped (shape_of c.args.shape)) value in
    record {
      written = rw here (fill_by_more f c.loop-i.out c.loop-i.i 0 (omega arith) c.loop-i.invariant.written);
      line = subst (IsOnLine c.next-line.result unity 0) (omega arith) (c.next-line.ensures.line unity 0 (c.args.first + c.loop-i.i) c.loop-i.invariant.line);
      over = c.next-line.ensures.over ∙ c.loop-i.invariant.over;
    }

pub returns : goal.returns
returns c =
    filled_from (λ i. shaped (shape_of c.args.shape) (unity * i / c.args.long)) c.args.first (length c.args.out.now) c.loop-i.out (search rules)
    (λ k h. c.loop-i.invariant.written k (omega arith))
