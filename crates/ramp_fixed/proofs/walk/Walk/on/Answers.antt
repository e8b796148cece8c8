use Rattle.std.proofs.Common.{◌≡◌, ◌+◌, ◌-◌, refl, subst, ◌∙◌, arith, rules}
use Rattle.ramp_fixed.specs.Lines.{IsOnLine}
use Rattle.ramp_fixed.specs.Pieces.{lift}
use Rattle.ramp_fixed.proofs.walk.Walk.on.Goals as goal

pub returns-then-place-self-2 : goal.returns-then-place-self-2
returns-then-place-self-2 c =
    let stands = c.requires.stands in
    let frames : c.args.self.place - c.args.self.piece.since + 1 ≡ c.args.place - c.args.self.piece.since = omega (arith, stands.since) in
    record {
      piece = stands.piece;
      there = refl;
      since = omega (arith, stands.since);
      until = search rules;
      line = subst (IsOnLine c.next-line.result c.args.self.piece.rise (lift c.args.self.piece)) frames
          (c.next-line.ensures.line c.args.self.piece.rise (lift c.args.self.piece) (c.args.self.place - c.args.self.piece.since) stands.line);
      over = c.next-line.ensures.over ∙ stands.over;
    }
