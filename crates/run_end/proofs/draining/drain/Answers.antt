use Rattle.std.proofs.Common.{sym, ◌∙◌}
use Rattle.run_end.specs.LastTurns.{at_last}
use Rattle.run_end.proofs.DrainLemmas as drains
use Rattle.run_end.proofs.LastTurnLemmas as turns
use Rattle.run_end.proofs.draining.drain.Goals as goal

-- src/draining.rt
pub draining-init : goal.draining-init
draining-init g c = record {
  last = c.requires.1.1.1;
  alone = turns.alone_itself c.args.ending c.args.failed;
  leads = drains.leads_at_first g.M.Media.outside g.on.begun c.args.ending c.args.failed;
}

pub draining-smaller : goal.draining-smaller
draining-smaller g c = c.turn-turned.ensures.turns.less (sym c.is_idle.ensures ∙ c.if-is_idle.false)

pub draining-preserved : goal.draining-preserved
draining-preserved g c = let M = g.M.Media.outside in let on = g.on in let old = c.draining.ending in let now = c.turn-turned.result.0 in let did = c.turn-turned.result.1 in let inv = c.draining.invariant in
    let turn = c.turn-turned.ensures in let failed = c.after_turn-failed.result in let noted = c.after_turn-failed.ensures in record {
      last = turns.last_on M on old c.draining.failed now did inv.last turn.serves turn.turns failed noted;
      alone = turns.alone_on M on old c.draining.failed now did inv.last turn.serves turn.turns failed noted c.args.ending c.args.failed inv.alone;
      leads = drains.leads_on M on.begun c.args.ending c.args.failed old c.draining.failed inv.leads inv.last.serves did now turn.turns failed noted (sym c.is_idle.ensures ∙ c.if-is_idle.false);
    }

pub returns-then-is_idle-clause-last : goal.returns-then-is_idle-clause-last
returns-then-is_idle-clause-last g c = let turn = c.turn-turned.ensures in
    turns.last_on g.M.Media.outside g.on c.draining.ending c.draining.failed c.turn-turned.result.0 c.turn-turned.result.1 c.draining.invariant.last turn.serves turn.turns c.after_turn-failed.result c.after_turn-failed.ensures

pub returns-then-is_idle-clause-alone : goal.returns-then-is_idle-clause-alone
returns-then-is_idle-clause-alone g c = let turn = c.turn-turned.ensures in let inv = c.draining.invariant in
    turns.alone_on g.M.Media.outside g.on c.draining.ending c.draining.failed c.turn-turned.result.0 c.turn-turned.result.1 inv.last turn.serves turn.turns c.after_turn-failed.result c.after_turn-failed.ensures c.args.ending
    c.args.failed inv.alone

pub returns-then-is_idle-clause-entered : goal.returns-then-is_idle-clause-entered
returns-then-is_idle-clause-entered g c = let turn = c.turn-turned.ensures in
    turns.entered_now g.M.Media.outside g.on c.draining.ending c.draining.failed c.turn-turned.result.0 c.turn-turned.result.1 c.draining.invariant.last turn.serves turn.turns c.after_turn-failed.result
    c.after_turn-failed.ensures

pub returns-then-is_idle-clause-received : goal.returns-then-is_idle-clause-received
returns-then-is_idle-clause-received g c = let M = g.M.Media.outside in let on = g.on in let old = c.draining.ending in let now = c.turn-turned.result.0 in let did = c.turn-turned.result.1 in
    let turn = c.turn-turned.ensures in let last = turns.last_on M on old c.draining.failed now did c.draining.invariant.last turn.serves turn.turns c.after_turn-failed.result c.after_turn-failed.ensures in
    turns.received_last M (at_last on.begun old) old c.draining.invariant.last.serves now did (sym c.is_idle.ensures ∙ c.if-is_idle.true) turn.turns (at_last on.begun now) last.serves

pub returns-then-is_idle-clause-turns : goal.returns-then-is_idle-clause-turns
returns-then-is_idle-clause-turns g c = let inv = c.draining.invariant in
    drains.leads_to_rest g.M.Media.outside g.on.begun c.args.ending c.args.failed c.draining.ending c.draining.failed inv.leads inv.last.serves c.turn-turned.result.1 c.turn-turned.result.0 c.turn-turned.ensures.turns
    c.after_turn-failed.result c.after_turn-failed.ensures (sym c.is_idle.ensures ∙ c.if-is_idle.true)
