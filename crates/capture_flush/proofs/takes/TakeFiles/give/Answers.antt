use Rattle.std.proofs.Common.{◌≡◌, ◌∙◌, ◌+◌, ℕ, suc, arith, ap, sym, subst}
use Rattle.engine_model.specs.Takes.{take_name}
use Rattle.capture_flush.specs.Blocks.{block_of}
use Rattle.capture_flush.specs.Flushed.{next_index}
use Rattle.capture_flush.specs.Taking.{IsTakingOf, last_of}
use Rattle.capture_flush.proofs.GiveLemmas.{Renews, given_kept, gives-cut, gives-whole, head_there}
use Rattle.capture_flush.proofs.takes.TakeFiles.give.Goals as goal

pub returns-in_err-add-clause-gives : goal.returns-in_err-add-clause-gives
returns-in_err-add-clause-gives g c = gives-cut g.M.Media.outside g.s c.args.self.now c.args.track (block_of c.args.b.now) _ _ _ c.from_residual.result c.from_residual.ensures.0 c.requires.1.1.1 c.in_err-add.ensures.adds

pub renew-requires : goal.renew-requires
renew-requires g c κs within =
    let first : c.next_index-before.result ≡ next_index (last_of c.args.self.now c.args.track) c.args.b.now.take = c.next_index-before.ensures ∙ ap (λ l. next_index l c.args.b.now.take) c.last.ensures in
    let next : c.from.result + 1 ≡ suc c.args.b.now.index = omega (arith, c.from.ensures) in (
      within,
      (
        subst (IsTakingOf g.s) (sym c.in_ok-add.ensures.same) c.requires.1.0,
        (
          c.requires.1.1.0,
          λ t. head_there g.s c.args.track (last_of c.args.self.now c.args.track) (block_of c.args.b.now) c.next_index-before.result (c.from.result + 1) _ _ (given_kept g.s c.args.self.now c.args.track (block_of c.args.b.now) c.requires.1.1.1).0 first next (c.in_ok-add.ensures.adds.all t),
        ),
      ),
    )

pub returns-clause-gives : goal.returns-clause-gives
returns-clause-gives g c =
    let first : c.next_index-before.result ≡ next_index (last_of c.args.self.now c.args.track) c.args.b.now.take = c.next_index-before.ensures ∙ ap (λ l. next_index l c.args.b.now.take) c.last.ensures in
    let next : c.from.result + 1 ≡ suc c.args.b.now.index = omega (arith, c.from.ensures) in
    let R : ℕ → ℕ → Type 0 = λ before after. Renews g.M.Media.outside g.s c.args.track (take_name g.s c.args.track c.args.b.now.take) before after c.add.new.media c.renew.new.media c.renew.result in
    let renews : R c.next_index-before.result (c.from.result + 1) = record { all = c.renew.ensures.all; part = c.renew.ensures.part; cause = c.renew.ensures.cause; reads = c.renew.ensures.reads } in
    gives-whole g.M.Media.outside g.s c.args.self.now c.args.track (block_of c.args.b.now) c.args.media.now c.add.new.media c.renew.new.media c.renew.result c.requires.1.1.1 c.in_ok-add.ensures.adds
    (subst (λ k. R k (suc c.args.b.now.index)) first (subst (R c.next_index-before.result) next renews))
