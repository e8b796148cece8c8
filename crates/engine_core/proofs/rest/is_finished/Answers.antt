use Rattle.std.proofs.Common.{sym, ap, ◌∙◌}
use Rattle.locate_loop.specs.declared.transport.Transport.{Transport}
use Rattle.engine_core.proofs.RestLemmas as rest
use Rattle.engine_core.proofs.rest.is_finished.Goals as goal

-- src/rest.rt
pub returns-then-transport : goal.returns-then-transport
returns-then-transport g c = c.if-transport.true ∙ sym (rest.finished_by_quit g.M.Media.outside g.I.Source.outside g.W.Sink.outside g.on c.args.engine.now c.requires.1.1.1.1.1
    (sym c.has_ended.ensures ∙ c.if-has_ended.true) (ap (λ (t : Transport). t.quit) (sym c.transport.ensures.transport) ∙ c.if-transport.true))

pub returns-else-transport : goal.returns-else-transport
returns-else-transport g c = c.is_played_out.ensures ∙ sym (rest.finished_by_run g.M.Media.outside g.I.Source.outside g.W.Sink.outside g.on c.args.engine.now c.requires.1.1.1.1.1
    (sym c.has_ended.ensures ∙ c.if-has_ended.true) (ap (λ (t : Transport). t.quit) (sym c.transport.ensures.transport) ∙ c.if-transport.false))
