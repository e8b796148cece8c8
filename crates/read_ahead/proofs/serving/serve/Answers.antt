use Rattle.std.proofs.Common.{◌∙◌, refl, arith, inl, inr}
use Rattle.read_ahead.specs.SendProgress.{needs_of, target_of}
use Rattle.read_ahead.proofs.RunLemmas.{serves_nothing, serves_more, still_closed, has_sent}
use Rattle.read_ahead.proofs.ReadLemmas.{went, reads_none, read_on, read_well, serves_on}
use Rattle.read_ahead.proofs.serving.serve.Goals as goal

pub loop-sent-init : goal.loop-sent-init
loop-sent-init g c = record {
  serves = serves_nothing _ _ _ _ _ _;
  heads = refl;
  counted = omega arith;
  before = inl refl;
  still = λ none. (refl, refl);
  stocked = c.requires.stocked;
  still_open = c.requires.still_open;
  room = refl;
  read = reads_none g.M.Media.outside c.args.reader.now;
}

pub returns-then-has_nothing_due-clause-serves : goal.returns-then-has_nothing_due-clause-serves
returns-then-has_nothing_due-clause-serves g c = serves_nothing _ _ _ _ _ _

pub returns-in_err-send_next-clause-serves : goal.returns-in_err-send_next-clause-serves
returns-in_err-send_next-clause-serves g c = let so_far = c.loop-sent.invariant in
    serves_more _ _ _ _ _ _ _ _ _ _ so_far.before so_far.serves so_far.heads
    (serves_on g.M.Media.outside c.args.reader.now c.loop-sent.reader went _ _ _ _ _ _ so_far.read c.send_next.ensures.serves)

pub returns-then-not-branch-clause-serves : goal.returns-then-not-branch-clause-serves
returns-then-not-branch-clause-serves g c = let so_far = c.loop-sent.invariant in
    serves_more _ _ _ _ _ _ _ _ _ _ so_far.before so_far.serves so_far.heads
    (serves_on g.M.Media.outside c.args.reader.now c.loop-sent.reader went _ _ _ _ _ _ so_far.read c.send_next.ensures.serves)

pub returns-then-not-branch-clause-read : goal.returns-then-not-branch-clause-read
returns-then-not-branch-clause-read g c = read_on g.M.Media.outside c.args.reader.now c.loop-sent.reader c.send_next.new.reader tt _ c.loop-sent.invariant.read
    (read_well g.M.Media.outside c.loop-sent.reader c.send_next.new.reader c.in_ok-send_next.field-0 c.loop-sent.sent c.in_ok-send_next.ensures.read)

pub loop-sent-preserved : goal.loop-sent-preserved
loop-sent-preserved g c = let so_far = c.loop-sent.invariant in let says = c.in_ok-send_next.ensures in
    let sent = has_sent (needs_of (target_of c.args.pass.now c.args.track)) c.loop-sent.end c.send_next.new.supply c.send_next.new.end c.in_ok-send_next.field-0 c.if-not-branch.false says.answer in
    let counted = so_far.counted in let one = sent.0 in record {
      serves = serves_more _ _ _ _ _ _ _ _ _ _ so_far.before so_far.serves so_far.heads
          (serves_on g.M.Media.outside c.args.reader.now c.loop-sent.reader went _ _ _ _ _ _ so_far.read c.send_next.ensures.serves);
      heads = sent.1 ∙ so_far.heads;
      counted = omega arith;
      before = inr sent.2;
      still = λ none. absurd (omega (arith, none));
      stocked = says.stocked;
      still_open = still_closed _ _ _ _ _ _ _ _ says.serves ∙ so_far.still_open;
      room = says.scratch ∙ so_far.room;
      read = read_on g.M.Media.outside c.args.reader.now c.loop-sent.reader c.send_next.new.reader tt went so_far.read
          (read_well g.M.Media.outside c.loop-sent.reader c.send_next.new.reader c.in_ok-send_next.field-0 tt says.read);
    }
