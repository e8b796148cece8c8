use Rattle.std.proofs.Common.{◌+◌, ◌≤◌, rules}
use Rattle.ses_units.specs.Point.{points_of}
use Rattle.ramp_fixed.proofs.LanePlaces.{walk_quiet}
use Rattle.ramp_fixed.proofs.walk.Walk.gain.Goals as goal

pub overflow_cast-result-else-self : goal.overflow_cast-result-else-self
overflow_cast-result-else-self c =
    let quiet = walk_quiet c.args.fader (points_of c.args.points.now) c.args.self.now c.args.self.now.place c.requires.lane c.requires.fader c.requires.stands in
    let sum : c.args.self.now.piece.gain + c.args.self.now.line.value ≤ 262144 = rw c.if-self.false at quiet in
    search (rules, sum)

pub overflow_add-result : goal.overflow_add-result
overflow_add-result c =
    let quiet = walk_quiet c.args.fader (points_of c.args.points.now) c.args.self.now c.args.self.now.place c.requires.lane c.requires.fader c.requires.stands in
    let sum : c.args.self.now.piece.gain + c.args.self.now.line.value ≤ 262144 = rw c.if-self.false at quiet in
    search (rules, sum)

pub returns-then-self-clause-quiet : goal.returns-then-self-clause-quiet
returns-then-self-clause-quiet c =
    let quiet = walk_quiet c.args.fader (points_of c.args.points.now) c.args.self.now c.args.self.now.place c.requires.lane c.requires.fader c.requires.stands in
    rw c.if-self.true at quiet

pub returns-else-self-clause-quiet : goal.returns-else-self-clause-quiet
returns-else-self-clause-quiet c =
    let quiet = walk_quiet c.args.fader (points_of c.args.points.now) c.args.self.now c.args.self.now.place c.requires.lane c.requires.fader c.requires.stands in
    rw c.if-self.false at quiet
