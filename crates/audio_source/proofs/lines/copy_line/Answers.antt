use Rattle.std.proofs.Common.{◌+◌, ◌*◌, arith, length, ◌∙◌, ap, take, drop}
use Rattle.audio_source.proofs.StoreLaws as laws
use Rattle.audio_source.proofs.lines.copy_line.Goals as goal

pub overflow_mul-first : goal.overflow_mul-first
overflow_mul-first c = omega (arith, laws.row c.args.room c.args.slot 64 c.requires.slot, c.requires.few)

pub overflow_add-first : goal.overflow_add-first
overflow_add-first c = omega (arith, laws.row c.args.room c.args.slot 64 c.requires.slot, c.requires.few, c.requires.within)

pub overflow_add-first-2 : goal.overflow_add-first-2
overflow_add-first-2 c = omega (arith, laws.row c.args.room c.args.slot 64 c.requires.slot, c.requires.few, c.requires.within)

pub returns-clause-out : goal.returns-clause-out
returns-clause-out c = let a = c.args in let first = a.slot * a.room + a.from in c.copy_from_slice.ensures.after
    ∙ ap (λ n. take n (drop first a.samples.now)) (omega arith)
    ∙ laws.some_samples a.room (a.slot * a.room) a.from (length a.out.now) a.samples.now c.requires.within
