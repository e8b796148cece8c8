-- Stretches that have ended before the span, and those that begin behind it, don't meet it.
use Rattle.std.proofs.Common.{List, sym, ap, ◌∙◌, subst, arith}
use Rattle.std.specs.List.{list_any}
use Rattle.session_model.specs.declared.starts.Stretch.{Stretch}
use Rattle.session_model.specs.Starts.{IsRising, meets_at}
use Rattle.session_model.proofs.StartLemmas.{part_heard}
use Rattle.session_model.proofs.starts.Starts.heard.Goals as goal

pub returns-clause-heard : goal.returns-clause-heard
returns-clause-heard c = λ k l.
    let index : List Stretch = c.as_slice-index.result.now in
    let rising = subst IsRising (sym c.as_slice-index.ensures.items) c.self.invariant.0 in
    c.mark.ensures.marks k l
    ∙ part_heard index c.args.from c.args.frames c.min-ended.result c.begun_before-begun.result k
    (omega (arith, c.min-ended.ensures)) c.begun_before-begun.ensures.bound
    (λ j d h. c.ended_by.ensures.ended j d (omega (arith, c.min-ended.ensures)))
    (λ j d h. omega (arith, c.begun_before-begun.ensures.begun j d h, c.saturating_add.ensures, c.from.ensures))
    (λ j d h m. omega (arith, c.begun_before-begun.ensures.later j d h m, (rising.each j d m).at, c.saturating_add.ensures, c.from.ensures))
    ∙ ap (list_any (meets_at c.args.from c.args.frames k)) (c.as_slice-index.ensures.items ∙ c.self.view_is)
