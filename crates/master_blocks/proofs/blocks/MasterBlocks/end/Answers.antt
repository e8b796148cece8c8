use Rattle.std.proofs.Common.{◌≡◌, ◌*◌, ◌%◌, ◌≤◌, ◌∙◌, length, ap, sym, subst, arith, rules}
use Rattle.master_blocks.proofs.StateLemmas.{slice_long}
use Rattle.master_blocks.proofs.EndLemmas as ends
use Rattle.master_blocks.proofs.blocks.MasterBlocks.end.Goals as goal

pub returns-in_err-write_zeros-clause-writes : goal.returns-in_err-write_zeros-clause-writes
returns-in_err-write_zeros-clause-writes g c = ends.fails_in_silence g.s c.args.blocks c.args.made _
    (slice_long g.s _ c.self.inside.form _ _ _ _ _ _ _ c.self.view_is c.requires.1.0 c.self.invariant.1 c.as_slice.ensures.value c.fill.auto.self c.as_mut_slice.ensures.len c.as_mut_slice.ensures.value) g.W.Sink.outside c.self.inside.sink c.args.self.now.sink _ _ c.from_residual.result
    (ap (λ m. m.sink) c.self.view_is) c.from_residual.ensures.0 c.in_err-write_zeros.ensures

pub overflow_mul-odd : goal.overflow_mul-odd
overflow_mul-odd g c = let count : c.len.result ≡ length c.as_slice.result.now = search rules in
    let few : c.args.blocks * c.len.result ≤ 2457600000 = subst (λ n. c.args.blocks * n ≤ 2457600000) (sym count) (ends.few g.s c.args.blocks c.args.made _
    (slice_long g.s _ c.self.inside.form _ _ _ _ _ _ _ c.self.view_is c.requires.1.0 c.self.invariant.1 c.as_slice.ensures.value c.fill.auto.self c.as_mut_slice.ensures.len c.as_mut_slice.ensures.value) c.requires.1.0.valid c.requires.1.1.1) in
    search rules

pub returns-in_err-write_all-clause-writes : goal.returns-in_err-write_all-clause-writes
returns-in_err-write_all-clause-writes g c = let count : length c.as_slice.result.now ≡ c.len.result = search rules in
    ends.fails_at_pad g.s c.args.blocks c.args.made _
    (slice_long g.s _ c.self.inside.form _ _ _ _ _ _ _ c.self.view_is c.requires.1.0 c.self.invariant.1 c.as_slice.ensures.value c.fill.auto.self c.as_mut_slice.ensures.len c.as_mut_slice.ensures.value) g.W.Sink.outside c.self.inside.sink c.args.self.now.sink c.write_zeros.new.sink _ _ c.from_residual-in_err-write_all.result
    (ap (λ m. m.sink) c.self.view_is) (ap (λ n. c.args.blocks * n % 2) count ∙ c.if-odd.true) c.from_residual-in_err-write_all.ensures.0 c.in_ok-write_zeros.ensures c.in_err-write_all.ensures

pub returns-in_ok-write_all-clause-writes : goal.returns-in_ok-write_all-clause-writes
returns-in_ok-write_all-clause-writes g c = let count : length c.as_slice.result.now ≡ c.len.result = search rules in
    ends.with_pad g.s c.args.blocks c.args.made _
    (slice_long g.s _ c.self.inside.form _ _ _ _ _ _ _ c.self.view_is c.requires.1.0 c.self.invariant.1 c.as_slice.ensures.value c.fill.auto.self c.as_mut_slice.ensures.len c.as_mut_slice.ensures.value) g.W.Sink.outside c.self.inside.sink c.args.self.now.sink c.write_zeros.new.sink _
    (ap (λ m. m.sink) c.self.view_is) (ap (λ n. c.args.blocks * n % 2) count ∙ c.if-odd.true) c.in_ok-write_zeros.ensures c.in_ok-write_all.ensures

pub returns-else-odd-clause-writes : goal.returns-else-odd-clause-writes
returns-else-odd-clause-writes g c = let count : length c.as_slice.result.now ≡ c.len.result = search rules in
    ends.without_pad g.s c.args.blocks c.args.made _
    (slice_long g.s _ c.self.inside.form _ _ _ _ _ _ _ c.self.view_is c.requires.1.0 c.self.invariant.1 c.as_slice.ensures.value c.fill.auto.self c.as_mut_slice.ensures.len c.as_mut_slice.ensures.value) g.W.Sink.outside c.self.inside.sink c.args.self.now.sink _
    (ap (λ m. m.sink) c.self.view_is) (ap (λ n. c.args.blocks * n % 2) count ∙ omega (arith, c.if-odd.false)) c.in_ok-write_zeros.ensures
