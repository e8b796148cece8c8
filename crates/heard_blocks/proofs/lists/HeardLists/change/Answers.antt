use Rattle.std.proofs.Common.{◌≡◌, ◌∙◌, ◌<◌, ◌+◌, ap, arith, length, sym, subst}
use Rattle.std.specs.Prelude.{Some, slice_get}
use Rattle.std.proofs.lemmas.List.{length-map}
use Rattle.session_change.specs.Change.{change_seen}
use Rattle.heard_blocks.specs.Lists.{IsBrought}
use Rattle.heard_blocks.proofs.BringLemmas.{change_there, may_make, brought_by, brought_without, is_asked, not_asked}
use Rattle.heard_blocks.proofs.lists.HeardLists.change.Goals as goal
use Rattle.heard_blocks.proofs.lists.HeardLists.change.Goals.{then-eq, else-eq}

pub make-requires-clause-may : goal.make-requires-clause-may
make-requires-clause-may g c = let l = c.loop-edit in let asks = c.requires in let h = c.args.history.now in let change = c.index-changes-edit.result in
    let within : l.edit < length h.edits = omega (arith, c.loop-edit-test.true, asks.1.1.1.1) in
    let long : l.edit < length c.changes.result.now = omega (arith, ap length c.changes.ensures, length-map c.changes.result.now change_seen, asks.0.many, within) in
    may_make g.s h c.args.track l.edit (change_seen change) asks.0 asks.1.1.0 (change_there c.changes.result.now h.changes l.edit change c.changes.ensures long c.index-changes-edit.is) within
    c.args.self.now.session l.self-inside.session asks.0.forms l.invariant.brought (sym c.track.ensures ∙ is_asked c.track.result c.args.track (sym c.eq.ensures ∙ c.if-eq.true))

pub loop-edit-preserved : goal.loop-edit-preserved
loop-edit-preserved g c = let l = c.loop-edit in let asks = c.requires in let h = c.args.history.now in let change = c.index-changes-edit.result in
    let within : l.edit < length h.edits = omega (arith, c.loop-edit-test.true, asks.1.1.1.1) in
    let long : l.edit < length c.changes.result.now = omega (arith, ap length c.changes.ensures, length-map c.changes.result.now change_seen, asks.0.many, within) in
    let there : slice_get h.changes l.edit ≡ Some (change_seen change) = change_there c.changes.result.now h.changes l.edit change c.changes.ensures long c.index-changes-edit.is in
    elim c.if-eq.branch [
      | then-eq w ↦ record {
        brought = subst (IsBrought g.s h.edits c.args.track (l.edit + 1) c.args.self.now.session) (sym (ap (λ x. x.session) w.self-inside-is ∙ w.make.ensures.made))
            (brought_by g.s h c.args.track l.edit (change_seen change) asks.0 asks.1.1.0 there within
            c.args.self.now.session l.self-inside.session asks.0.forms l.invariant.brought (sym c.track.ensures ∙ is_asked c.track.result c.args.track (sym c.eq.ensures ∙ w.if-eq.true)));
        at = ap (λ x. x.at) w.self-inside-is ∙ l.invariant.at;
      }
      | else-eq w ↦ record {
        brought = subst (IsBrought g.s h.edits c.args.track (l.edit + 1) c.args.self.now.session) (sym (ap (λ x. x.session) w.self-inside-is))
            (brought_without g.s h c.args.track l.edit (change_seen change) asks.0 asks.1.1.0 there within
            c.args.self.now.session l.self-inside.session asks.0.forms l.invariant.brought (λ e. not_asked c.track.result c.args.track (sym c.eq.ensures ∙ w.if-eq.false) (c.track.ensures ∙ e)));
        at = ap (λ x. x.at) w.self-inside-is ∙ l.invariant.at;
      }
    ]
