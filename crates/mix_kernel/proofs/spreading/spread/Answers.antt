use Rattle.std.proofs.Common.{◌≡◌, ◌%◌, length, ap, sym, ◌∙◌, arith}
use Rattle.mix_kernel.proofs.Ranges.{spread_one, spread_none, spread_two}
use Rattle.mix_kernel.proofs.spreading.spread.Goals as goal

pub returns-then-channels-eq1 : goal.returns-then-channels-eq1
returns-then-channels-eq1 c = spread_one c.args.gains.now c.args.channels c.if-channels-eq1.true

pub loop-i-init : goal.loop-i-init
loop-i-init c =
    let two : c.args.channels ≡ 2 = omega arith in
    spread_none c.args.gains.now (sym (ap (λ n. length c.args.gains.now % n) two) ∙ c.requires.whole)

pub returns : goal.returns
returns c =
    let two : c.args.channels ≡ 2 = omega arith in
    spread_two c.args.gains.now c.loop-i.gains c.args.channels c.loop-i.i two (omega arith) c.loop-i.invariant
