use Rattle.std.proofs.Common.{◌∙◌, ◌+◌, refl, sym, subst, arith, List, Ok}
use Rattle.std.proofs.lemmas.Option.{slice_get_within}
use Rattle.disk_ring.specs.Receiver.{Receiver}
use Rattle.disk_ring.proofs.GoesOn.{goes_on_out_refl, goes_on_out_trans}
use Rattle.piece_item.specs.declared.take_block.TakeBlock.{TakeBlock}
use Rattle.capture_flush.specs.Flushed.{IsFlushed}
use Rattle.capture_flush.proofs.AddedLemmas.{set_here}
use Rattle.capture_drain.specs.Files.{tape_of}
use Rattle.capture_drain.proofs.TapeLemmas.{set_same, set_twice}
use Rattle.capture_drain.proofs.RingLemmas.{drains_then, has_taken}
use Rattle.capture_drain.proofs.MediaLemmas.{writes_at_first, writes_more, writes_ok, noted, writes_err}
use Rattle.capture_drain.proofs.one_ring.drain_ring.Goals as goal

pub loop-taken-init : goal.loop-taken-init
loop-taken-init g c = let of = c.requires.1.1 in let P : List (Receiver TakeBlock) → Type 0 = λ rings. IsFlushed (tape_of g.at.run rings) c.args.files.now (g.M.Media.outside.files c.args.media.now) in
    record {
      goes_on = goes_on_out_refl c.args.ring.now;
      tails = refl;
      counted = omega arith;
      given = λ tells old. subst P (sym (set_same g.at.rings c.args.track c.args.ring.now of.here)) old;
      failed = refl;
      fits = of.fits;
      taking = c.requires.1.0;
      media = writes_at_first g.M.Media.outside g.at.run.session g.at.rings c.args.track c.args.ring.now c.args.media.now _ of.here;
    }

pub drain_one-requires : goal.drain_one-requires
drain_one-requires g c κs within = let of = c.requires.1.1 in
    (within, (c.loop-taken.invariant.taking, record { here = set_here g.at.rings c.args.track c.loop-taken.ring (slice_get_within g.at.rings c.args.track c.args.ring.now of.here); track = of.track; fits = c.loop-taken.invariant.fits }))

pub returns-in_err-drain_one-clause-ring : goal.returns-in_err-drain_one-clause-ring
returns-in_err-drain_one-clause-ring g c = let so = c.loop-taken.invariant in drains_then c.args.ring.now c.loop-taken.ring c.drain_one.new.ring so.goes_on so.tails c.drain_one.ensures.ring

pub returns-in_err-drain_one-clause-given : goal.returns-in_err-drain_one-clause-given
returns-in_err-drain_one-clause-given g c tells old = let so = c.loop-taken.invariant in
    let P : List (Receiver TakeBlock) → Type 0 = λ rings. IsFlushed (tape_of g.at.run rings) c.drain_one.new.files (g.M.Media.outside.files c.drain_one.new.media) in
    subst P (set_twice g.at.rings c.args.track c.loop-taken.ring c.drain_one.new.ring) (c.in_err-drain_one.ensures.given tells (so.given tells old))

pub returns-in_err-drain_one-clause-failed : goal.returns-in_err-drain_one-clause-failed
returns-in_err-drain_one-clause-failed g c = noted c.from_residual.result c.args.files.now c.loop-taken.files c.drain_one.new.files c.from_residual.ensures.0 c.loop-taken.invariant.failed c.in_err-drain_one.ensures.failed

pub returns-in_err-drain_one-clause-media : goal.returns-in_err-drain_one-clause-media
returns-in_err-drain_one-clause-media g c = let so = c.loop-taken.invariant in
    writes_more g.M.Media.outside g.at.run.session g.at.rings c.args.track c.args.ring.now c.loop-taken.ring c.drain_one.new.ring _ _ _ c.loop-taken.taken c.from_residual.result
    c.requires.1.1.here so.goes_on c.drain_one.ensures.ring.goes_on so.media (writes_err g.M.Media.outside g.at.run.session _ _ _ _ _ c.from_residual.result c.from_residual.ensures.0 c.in_err-drain_one.ensures.media)

pub returns-then-not-branch-clause-given : goal.returns-then-not-branch-clause-given
returns-then-not-branch-clause-given g c tells old = let so = c.loop-taken.invariant in
    let P : List (Receiver TakeBlock) → Type 0 = λ rings. IsFlushed (tape_of g.at.run rings) c.drain_one.new.files (g.M.Media.outside.files c.drain_one.new.media) in
    subst P (set_twice g.at.rings c.args.track c.loop-taken.ring c.drain_one.new.ring) (c.in_ok-drain_one.ensures.given tells (so.given tells old))

pub returns-then-not-branch-clause-media : goal.returns-then-not-branch-clause-media
returns-then-not-branch-clause-media g c = let so = c.loop-taken.invariant in
    writes_more g.M.Media.outside g.at.run.session g.at.rings c.args.track c.args.ring.now c.loop-taken.ring c.drain_one.new.ring _ _ _ c.loop-taken.taken (Ok c.loop-taken.taken)
    c.requires.1.1.here so.goes_on c.drain_one.ensures.ring.goes_on so.media (writes_ok g.M.Media.outside g.at.run.session _ _ _ _ _ c.loop-taken.taken c.in_ok-drain_one.ensures.media)

pub loop-taken-preserved : goal.loop-taken-preserved
loop-taken-preserved g c = let so = c.loop-taken.invariant in let says = c.in_ok-drain_one.ensures in
    let taken = has_taken c.loop-taken.ring c.drain_one.new.ring c.in_ok-drain_one.field-0 c.if-not-branch.false says.answer in let one = taken.0 in let counted = so.counted in
    let P : List (Receiver TakeBlock) → Type 0 = λ rings. IsFlushed (tape_of g.at.run rings) c.drain_one.new.files (g.M.Media.outside.files c.drain_one.new.media) in
    record {
      goes_on = goes_on_out_trans c.args.ring.now c.loop-taken.ring c.drain_one.new.ring so.goes_on says.ring.goes_on;
      tails = taken.1 ∙ so.tails;
      counted = omega arith;
      given = λ tells old. subst P (set_twice g.at.rings c.args.track c.loop-taken.ring c.drain_one.new.ring) (says.given tells (so.given tells old));
      failed = says.failed ∙ so.failed;
      fits = says.fits;
      taking = says.of;
      media = writes_more g.M.Media.outside g.at.run.session g.at.rings c.args.track c.args.ring.now c.loop-taken.ring c.drain_one.new.ring _ _ _ c.loop-taken.taken (Ok (c.loop-taken.taken + 1))
          c.requires.1.1.here so.goes_on says.ring.goes_on so.media (writes_ok g.M.Media.outside g.at.run.session _ _ _ _ _ (c.loop-taken.taken + 1) says.media);
    }
