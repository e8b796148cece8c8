use Rattle.std.proofs.Common.{◌≤◌, arith}
use Rattle.std.proofs.lemmas.List.Elements.{All-from_all_within, AllWithin-more, AllWithin-upto, at_read}
use Rattle.session_model.specs.declared.route.SendLink.{SendLink}
use Rattle.edition_log.proofs.types.read_sends.Goals as goal

abbrev IsRead : SendLink → Type 0
IsRead x = x.gain ≤ 262144

pub loop-send-preserved : goal.loop-send-preserved
loop-send-preserved c = let l = c.loop-send in AllWithin-more IsRead c.args.sends.now 0 l.send-index l.invariant
    (at_read c.args.sends.now IsRead l.send-index c.send-item.result c.loop-send-test.true c.send-item.is c.value-gain.ensures.bound)

pub returns : goal.returns
returns c = let l = c.loop-send in All-from_all_within IsRead c.args.sends.now (AllWithin-upto IsRead c.args.sends.now 0 l.send-index _ (omega (arith, c.loop-send-test.false)) l.invariant)
