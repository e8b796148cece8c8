use Rattle.std.proofs.Common.{◌∙◌, ◌≤◌, ◌-◌, ◌+◌, arith, Ok, refl}
use Rattle.capture_drain.specs.Drains.{total_received}
use Rattle.capture_drain.proofs.AllLemmas.{all_one, so_far_one, few_one, no_fewer_one, fitted_one, have_drained_all}
use Rattle.capture_drain.proofs.MediaLemmas.{noted, writes_then, writes_ok, writes_err}
use Rattle.capture_drain.proofs.draining.drain_all.Goals as goal

pub returns-in_err-taken-clause-rings : goal.returns-in_err-taken-clause-rings
returns-in_err-taken-clause-rings g c = let so = c.loop-track.invariant.so_far in let few = so.few in
    all_one c.loop-track.track c.loop-track.tracks c.loop-track.rings c.drain_track.new.tracks c.drain_track.new.rings c.drain_track.ensures.one c.args.most c.loop-track.taken c.args.rings.now so
    (omega (arith, c.if-taken-most.false))

pub returns-in_err-taken-clause-fitted : goal.returns-in_err-taken-clause-fitted
returns-in_err-taken-clause-fitted g c =
    fitted_one c.loop-track.track c.loop-track.tracks c.loop-track.rings c.drain_track.new.tracks c.drain_track.new.rings c.drain_track.ensures.one c.loop-track.files c.drain_track.new.files c.loop-track.invariant.fitted

pub returns-in_err-taken-clause-media : goal.returns-in_err-taken-clause-media
returns-in_err-taken-clause-media g c = let so = c.loop-track.invariant in let counted = so.so_far.counted in
    let up : total_received c.args.rings.now ≤ total_received c.loop-track.rings = omega arith in
    let more = no_fewer_one c.loop-track.track c.loop-track.tracks c.loop-track.rings c.drain_track.new.tracks c.drain_track.new.rings c.drain_track.ensures.one in
    writes_then g.M.Media.outside g.run.session c.args.rings.now c.loop-track.rings c.drain_track.new.rings _ _ _ c.loop-track.taken c.from_residual.result up more so.media
    (writes_err g.M.Media.outside g.run.session _ _ _ _ _ c.from_residual.result c.from_residual.ensures.0 c.in_err-taken.ensures.media)

pub returns-in_err-taken-clause-failed : goal.returns-in_err-taken-clause-failed
returns-in_err-taken-clause-failed g c = noted c.from_residual.result c.args.files.now c.loop-track.files c.drain_track.new.files c.from_residual.ensures.0 c.loop-track.invariant.failed c.in_err-taken.ensures.failed

pub overflow_add-taken : goal.overflow_add-taken
overflow_add-taken g c = let few = few_one c.loop-track.track c.loop-track.tracks c.loop-track.rings c.drain_track.new.tracks c.drain_track.new.rings c.drain_track.ensures.one
    (c.args.most - c.loop-track.taken) c.in_ok-taken.field-0 c.in_ok-taken.ensures.answer in omega (arith, few, c.loop-track.invariant.so_far.few, c.ranges.most.fits)

pub loop-track-preserved : goal.loop-track-preserved
loop-track-preserved g c = let so = c.loop-track.invariant in let says = c.in_ok-taken.ensures in let counted = so.so_far.counted in let few = so.so_far.few in
    let up : total_received c.args.rings.now ≤ total_received c.loop-track.rings = omega arith in
    let more = no_fewer_one c.loop-track.track c.loop-track.tracks c.loop-track.rings c.drain_track.new.tracks c.drain_track.new.rings says.one in
    record {
      count = refl;
      so_far = so_far_one c.loop-track.track c.loop-track.tracks c.loop-track.rings c.drain_track.new.tracks c.drain_track.new.rings says.one c.args.most c.loop-track.taken c.in_ok-taken.field-0 c.args.rings.now so.so_far
          (omega (arith, c.if-taken-most.false)) says.answer;
      given = λ tells old. says.given tells (so.given tells old);
      failed = says.failed ∙ so.failed;
      fitted = fitted_one c.loop-track.track c.loop-track.tracks c.loop-track.rings c.drain_track.new.tracks c.drain_track.new.rings says.one c.loop-track.files c.drain_track.new.files so.fitted;
      taking = says.of;
      media = writes_then g.M.Media.outside g.run.session c.args.rings.now c.loop-track.rings c.drain_track.new.rings _ _ _ c.loop-track.taken (Ok (c.loop-track.taken + c.in_ok-taken.field-0)) up more so.media
          (writes_ok g.M.Media.outside g.run.session _ _ _ _ _ (c.loop-track.taken + c.in_ok-taken.field-0) says.media);
    }

pub returns-clause-answer : goal.returns-clause-answer
returns-clause-answer g c = let so = c.loop-track.invariant.so_far in let many = c.requires.1.1.0.many in
    have_drained_all c.loop-track.track c.args.most c.loop-track.taken c.args.rings.now c.loop-track.rings (omega (arith, c.loop-track-test.false, many)) so
