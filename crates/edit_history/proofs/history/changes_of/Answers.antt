-- Each edit stands behind those before it, up to the first that doesn't.
use Rattle.std.proofs.Common.{map, ap, ◌∙◌}
use Rattle.session_change.specs.Change.{change_seen}
use Rattle.edit_history.proofs.HistoryLemmas.{at_place, one_falls, one_longer_by, stands_behind}
use Rattle.edit_history.proofs.history.changes_of.Goals as goal

pub returns-in_default-clause-refused : goal.returns-in_default-clause-refused
returns-in_default-clause-refused c = let l = c.loop-edit in let s = c.args.s.now in let edits = c.args.edits.now in
    one_falls s edits l.edit-index c.number.result l.now c.step.new.now (map change_seen l.changes.items) c.edit-item.result l.invariant.so_far
    (at_place edits l.edit-index c.edit-item.result c.loop-edit-test.true c.edit-item.is) c.in_default.ensures.takes c.number.ensures.number

pub loop-edit-preserved : goal.loop-edit-preserved
loop-edit-preserved c = let l = c.loop-edit in let s = c.args.s.now in let edits = c.args.edits.now in record {
  so_far = stands_behind s edits l.edit-index l.now c.step.new.now l.changes.items c.push.new.self.items c.edit-item.result c.in-Some.change l.invariant.so_far
      (at_place edits l.edit-index c.edit-item.result c.loop-edit-test.true c.edit-item.is) c.in-Some.ensures.takes (c.in-Some.ensures.stays s l.invariant.so_far.of) (ap (λ k. k.items) c.push.ensures);
  many = one_longer_by l.changes.items c.push.new.self.items c.in-Some.change l.edit-index (ap (λ k. k.items) c.push.ensures) l.invariant.many;
  room = ap (λ k. k.room) c.push.ensures ∙ l.invariant.room;
}
