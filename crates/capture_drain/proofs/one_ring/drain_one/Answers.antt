use Rattle.std.proofs.Common.{true, refl, rules, ◌≡◌, ◌++◌, ◌∷◌, [], ap, sym, subst}
use Rattle.disk_ring.specs.Receiver.{Receiver}
use Rattle.piece_item.specs.declared.take_block.TakeBlock.{TakeBlock}
use Rattle.capture_flush.specs.Taking.{Taking}
use Rattle.capture_flush.specs.Flushed.{Tape, IsFlushed}
use Rattle.capture_drain.proofs.TapeLemmas.{tape_same, tape_taken}
use Rattle.capture_drain.proofs.RingLemmas.{drains_taken, received_since}
use Rattle.capture_drain.proofs.MediaLemmas.{noted, writes_block, writes_part}
use Rattle.capture_drain.proofs.one_ring.drain_one.Goals as goal

pub returns-in_err-answer-in-Ok-clause-given : goal.returns-in_err-answer-in-Ok-clause-given
returns-in_err-answer-in-Ok-clause-given g c tells old = let x = c.deref.result.now in
    let more : c.take-2.new.self.received ≡ c.args.ring.now.received ++ x ∷ [] = received_since c.args.ring.now c.is_empty.new.self c.take-2.new.self (c.is_empty.ensures.more c.if-is_empty.false) c.in-Ok.block.value x c.in-Ok.ensures.answer.received c.deref.ensures in
    let P : Tape → Type 0 = λ tape. IsFlushed tape c.block-answer.new.self (g.M.Media.outside.files c.block-answer.new.media) in
    subst P (tape_taken g.at.run g.at.rings c.args.track c.args.ring.now c.take-2.new.self x c.requires.1.1.here more) (c.in_err-answer-in-Ok.ensures.flushed tells old)

pub returns-in_err-answer-in-Ok-clause-failed : goal.returns-in_err-answer-in-Ok-clause-failed
returns-in_err-answer-in-Ok-clause-failed g c = noted c.from_residual.result c.args.files.now c.args.files.now c.block-answer.new.self c.from_residual.ensures.0 refl
    (record { track = c.args.track; take = c.deref.result.now.take }, ap (λ (f : Taking). f.failed) c.in_err-answer-in-Ok.ensures.state)

pub returns-in_err-answer-in-Ok-clause-media : goal.returns-in_err-answer-in-Ok-clause-media
returns-in_err-answer-in-Ok-clause-media g c = let x = c.deref.result.now in
    let more : c.take-2.new.self.received ≡ c.args.ring.now.received ++ x ∷ [] = received_since c.args.ring.now c.is_empty.new.self c.take-2.new.self (c.is_empty.ensures.more c.if-is_empty.false) c.in-Ok.block.value x c.in-Ok.ensures.answer.received c.deref.ensures in
    writes_part g.M.Media.outside g.at.run.session g.at.rings c.args.track c.args.ring.now c.take-2.new.self x _ c.args.media.now c.block-answer.new.media c.in_err-answer-in-Ok.field-0.0 c.from_residual.result c.from_residual.ensures.0
    c.requires.1.1.track c.requires.1.1.here more c.in_err-answer-in-Ok.ensures.gives

pub returns-in_ok-answer-in-Ok-clause-given : goal.returns-in_ok-answer-in-Ok-clause-given
returns-in_ok-answer-in-Ok-clause-given g c tells old = let x = c.deref.result.now in
    let more : c.take-2.new.self.received ≡ c.args.ring.now.received ++ x ∷ [] = received_since c.args.ring.now c.is_empty.new.self c.take-2.new.self (c.is_empty.ensures.more c.if-is_empty.false) c.in-Ok.block.value x c.in-Ok.ensures.answer.received c.deref.ensures in
    let P : Tape → Type 0 = λ tape. IsFlushed tape c.block-answer.new.self (g.M.Media.outside.files c.block-answer.new.media) in
    subst P (tape_taken g.at.run g.at.rings c.args.track c.args.ring.now c.take-2.new.self x c.requires.1.1.here more) (c.in_ok-answer-in-Ok.ensures.flushed tells old)

pub returns-in_ok-answer-in-Ok-clause-media : goal.returns-in_ok-answer-in-Ok-clause-media
returns-in_ok-answer-in-Ok-clause-media g c = let x = c.deref.result.now in
    let more : c.take-2.new.self.received ≡ c.args.ring.now.received ++ x ∷ [] = received_since c.args.ring.now c.is_empty.new.self c.take-2.new.self (c.is_empty.ensures.more c.if-is_empty.false) c.in-Ok.block.value x c.in-Ok.ensures.answer.received c.deref.ensures in
    writes_block g.M.Media.outside g.at.run.session g.at.rings c.args.track c.args.ring.now c.take-2.new.self x _ c.args.media.now c.block-answer.new.media true
    c.requires.1.1.track c.requires.1.1.here more c.in_ok-answer-in-Ok.ensures.gives

pub returns-in-Err-Empty-clause-given : goal.returns-in-Err-Empty-clause-given
returns-in-Err-Empty-clause-given g c tells old = let P : Tape → Type 0 = λ tape. IsFlushed tape c.args.files.now (g.M.Media.outside.files c.args.media.now) in
    subst P (sym (tape_same g.at.run g.at.rings c.args.track c.args.ring.now c.take-2.new.self c.requires.1.1.here (search rules))) old

pub returns-in-Err-Closed-clause-given : goal.returns-in-Err-Closed-clause-given
returns-in-Err-Closed-clause-given g c tells old = let P : Tape → Type 0 = λ tape. IsFlushed tape c.args.files.now (g.M.Media.outside.files c.args.media.now) in
    subst P (sym (tape_same g.at.run g.at.rings c.args.track c.args.ring.now c.take-2.new.self c.requires.1.1.here (search rules))) old

pub returns-then-is_empty-clause-given : goal.returns-then-is_empty-clause-given
returns-then-is_empty-clause-given g c tells old = let P : Tape → Type 0 = λ tape. IsFlushed tape c.args.files.now (g.M.Media.outside.files c.args.media.now) in
    subst P (sym (tape_same g.at.run g.at.rings c.args.track c.args.ring.now c.is_empty.new.self c.requires.1.1.here (ap (λ (r : Receiver TakeBlock). r.received) (c.is_empty.ensures.empty c.if-is_empty.true).tails))) old

pub returns-in_ok-answer-in-Ok-clause-ring : goal.returns-in_ok-answer-in-Ok-clause-ring
returns-in_ok-answer-in-Ok-clause-ring g c = drains_taken c.args.ring.now c.is_empty.new.self c.take-2.new.self c.in-Ok.block.value c.is_empty.ensures.ring (c.is_empty.ensures.more c.if-is_empty.false) c.take-2.ensures.ring c.in-Ok.ensures.answer.received

pub returns-in_err-answer-in-Ok-clause-ring : goal.returns-in_err-answer-in-Ok-clause-ring
returns-in_err-answer-in-Ok-clause-ring g c = drains_taken c.args.ring.now c.is_empty.new.self c.take-2.new.self c.in-Ok.block.value c.is_empty.ensures.ring (c.is_empty.ensures.more c.if-is_empty.false) c.take-2.ensures.ring c.in-Ok.ensures.answer.received
