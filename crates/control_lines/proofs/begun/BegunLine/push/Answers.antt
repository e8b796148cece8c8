use Rattle.control_lines.proofs.BegunLemmas.{more_of, kept_of}
use Rattle.std.proofs.Common.{arith}
use Rattle.control_lines.proofs.begun.BegunLine.push.Goals as goal

pub returns-then-self-eq-MOST : goal.returns-then-self-eq-MOST
returns-then-self-eq-MOST c = λ line is. more_of line _ _ _ _ is (omega (arith, c.if-self-eq-MOST.true))

pub returns-else-self-eq-MOST : goal.returns-else-self-eq-MOST
returns-else-self-eq-MOST c = λ line is. kept_of line _ _ _ _ is (omega (arith, c.args.self.now.few.0, c.if-self-eq-MOST.false)) c.args.self.now.few.1
