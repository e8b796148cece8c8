use Rattle.std.proofs.Common.{◌+◌, ◌*◌, ◌<◌, length, ap, ◌∙◌, sym, subst, arith}
use Rattle.std.specs.Prelude.{[]}
use Rattle.std.specs.Option.{option_map_or}
use Rattle.session_model.specs.Formed.{channels_at}
use Rattle.process_cycle.proofs.PutLemmas.{PutBelow, block_fits, newest_is_heard, puts_one, silence_is_heard}
use Rattle.process_cycle.proofs.putting.put_blocks.Goals as goal
use Rattle.process_cycle.proofs.putting.put_blocks.Goals.{in-Some, in-None}

pub put_block-requires : goal.put_block-requires
put_block-requires g c κs within = let asks = c.requires.1 in let under : c.loop-t.t < length g.on.plays = omega (arith, c.loop-t-test.true, asks.0.count) in (
  within,
  (
    c.loop-t.invariant.of,
    (omega (arith, under, asks.1.0), block_fits g.on c.loop-t.t c.in-Some.block.now.items under asks.1.1.0 c.in-Some.ensures.whole),
  ),
)

pub loop-t-preserved : goal.loop-t-preserved
loop-t-preserved g c = let l = c.loop-t in let asks = c.requires.1 in let within : l.t < length g.on.plays = omega (arith, c.loop-t-test.true, asks.0.count) in
    let newest = c.heard_block.ensures.newest in
    elim c.match-heard_block.branch [
      | in-Some w ↦ subst (λ m. PutBelow g.on c.args.at c.args.master.now m (l.t + 1)) (sym w.master-is)
          (puts_one g.on c.args.at c.args.master.now l.master _ l.t w.in-Some.block.now.items l.invariant (omega (arith, within, asks.1.0)) w.put_block.ensures.put w.put_block.ensures.of
          (newest_is_heard g.on c.args.at l.t w.in-Some.block.now.items within (λ r there. sym (ap (λ o. option_map_or (λ block. block.now.items) o []) w.in-Some.is) ∙ newest r there)))
      | in-None w ↦ subst (λ m. PutBelow g.on c.args.at c.args.master.now m (l.t + 1)) (sym w.master-is)
          (puts_one g.on c.args.at c.args.master.now l.master _ l.t _ l.invariant (omega (arith, within, asks.1.0)) w.quiet.ensures.put w.quiet.ensures.of
          (silence_is_heard g.on c.args.at l.t (g.on.session.block * channels_at g.on.session l.t) within (λ r there. sym (ap (λ o. option_map_or (λ block. block.now.items) o []) w.in-None.is) ∙ newest r there)))
    ]
