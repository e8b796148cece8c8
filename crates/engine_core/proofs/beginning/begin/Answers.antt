use Rattle.std.proofs.Common.{length, sym, ap, subst, ◌∙◌}
use Rattle.session_model.specs.declared.session.Session.{Session}
use Rattle.worker_pair.specs.Starts.{HaveBegun, IsBegunBy, MayBegin}
use Rattle.engine_core.specs.UnderWay.{IsFresh, IsUnderWay}
use Rattle.engine_core.specs.Events.{given}
use Rattle.engine_core.specs.Going.{IsGoing}
use Rattle.engine_core.specs.Beginning.{control_spoken, spoken_of, start_of, unlettered}
use Rattle.engine_core.proofs.BeginLemmas as begins
use Rattle.engine_core.proofs.beginning.begin.Goals as goal

-- src/beginning.rt
pub new-requires-2 : goal.new-requires-2
new-requires-2 g c κs within = let M = g.M.Media.outside in let I = g.I.Source.outside in let W = g.W.Sink.outside in let o = c.args.o in let may = c.requires.1.1.1.1.1.0 in let told = c.requires.1.1.1.1.1.1 in
    let start = c.apart-start.ensures.start in (
      within.0,
      (
        within.1.0,
        (
          within.1.1,
          (
            subst (λ st. MayBegin g.on.started.begun.session st) (sym start) (subst (λ z. MayBegin z.started.begun.session (start_of o)) (sym told) (begins.may_begin M I W o may)),
            subst (λ st. IsBegunBy M I W g.on.started.begun st) (sym start) (subst (λ z. IsBegunBy M I W z.started.begun (start_of o)) (sym told) (begins.begun_by M I W o may)),
          ),
        ),
      ),
    )

pub begin-requires : goal.begin-requires
begin-requires g c κs within = let M = g.M.Media.outside in let I = g.I.Source.outside in let W = g.W.Sink.outside in let o = c.args.o in let told = c.requires.1.1.1.1.1.1 in
    let begun = subst (λ st. HaveBegun M I W g.on.started.begun st c.in-Ok-new.pair) c.apart-start.ensures.start c.in-Ok-new.ensures.begun in (
      within.0,
      (
        within.1.0,
        (
          within.1.1,
          subst (λ z. IsFresh M I W z.started c.in-Ok-new.pair) (sym told) (begins.fresh M I W o c.in-Ok-new.pair (subst (λ z. HaveBegun M I W z.started.begun (start_of o) c.in-Ok-new.pair) told begun)),
        ),
      ),
    )

pub returns-in-Ok-new-clause-begun : goal.returns-in-Ok-new-clause-begun
returns-in-Ok-new-clause-begun g c = let M = g.M.Media.outside in let I = g.I.Source.outside in let W = g.W.Sink.outside in let o = c.args.o in let told = c.requires.1.1.1.1.1.1 in
    let begun = subst (λ st. HaveBegun M I W g.on.started.begun st c.in-Ok-new.pair) c.apart-start.ensures.start c.in-Ok-new.ensures.begun in record {
      going = subst (λ k. IsGoing M I g.C.Source.outside W g.O.Sink.outside (given (unlettered g.on)) (record { run = c.begin.result; control = k })) (sym (c.control.ensures ∙ ap control_spoken c.apart-start.ensures.spoken))
          (subst (λ z. IsGoing M I g.C.Source.outside W g.O.Sink.outside (given (unlettered z)) (record { run = c.begin.result; control = control_spoken (spoken_of o) })) (sym told)
          (begins.begins_going M I g.C.Source.outside W g.O.Sink.outside o c.requires.1.1.1.1.1.0 c.in-Ok-new.pair
          (subst (λ z. HaveBegun M I W z.started.begun (start_of o) c.in-Ok-new.pair) told begun) c.begin.result
          (subst (λ z. IsUnderWay M I W z.started c.begin.result) told c.begin.ensures.under_way) c.begin.ensures.only));
      room = begins.has_room g.on.started.begun.session c.in-Ok.lists c.len-tracks.result c.in-Ok.ensures
          (c.len-tracks.ensures.len ∙ ap (λ (z : Session). length z.tracks.items) (c.session.ensures.session ∙ sym (ap (λ z. z.started.begun.session) told)));
    }
