use Rattle.std.proofs.Common.{sym, ap, subst, ◌∙◌}
use Rattle.ses_io.specs.FixedList.{Listed}
use Rattle.piece_item.specs.declared.butler_ends.ButlerEnds.{ButlerEnds}
use Rattle.process_ends.specs.declared.ends.ProcessEnds.{ProcessEnds}
use Rattle.process_ends.specs.Ends.{AreNew, AreOtherEnds}
use Rattle.route_lists.specs.Lists.{IsReaderOf}
use Rattle.run_rings.proofs.LawLemmas.{new_fit}
use Rattle.thread_start.proofs.ReadyLemmas as lemmas
use Rattle.thread_start.proofs.workers.ready.Goals as goal

-- src/workers.rt
pub new_workers-requires : goal.new_workers-requires
new_workers-requires g c κs within = let fit = new_fit c.args.start.edition.session c.in-Ok.shared.ends c.in-Ok.ensures.ends in
    (within.0, (within.1.0, (within.1.1, (c.requires.may, (fit.process, fit.serving)))))

pub returns-in-Ok-new_workers-clause-ready : goal.returns-in-Ok-new_workers-clause-ready
returns-in-Ok-new_workers-clause-ready g c = let M = g.M.Media.outside in let I = g.I.Source.outside in let W = g.W.Sink.outside in let start = c.args.start in let s = start.edition.session in
    let x = c.in-Ok.shared in let shared = c.in-Ok.ensures in let fit = new_fit s x.ends shared.ends in let have = c.in-Ok-new_workers.ensures.workers in
    let process = c.in-Ok-new_workers.process in let butler = c.in-Ok-new_workers.butler in let of = c.requires.may.edition_of in
    let session = c.of-first.ensures.session ∙ c.session-2.ensures.session in let served = c.of-told.ensures.session ∙ c.session.ensures.session in record {
      playing = lemmas.plays_ready M I W start (record { reader = x.playing; process = process; grants = x.allowance; told = c.of-first.result }) x.ends.process have.process
          (subst (IsReaderOf s) (sym shared.lists.1) (of, of)) session c.of-first.ensures.input c.of-first.ensures.sink shared.grants.waits;
      serving = lemmas.serves_ready M I W start c.requires.record x.ends.butler (record { reader = x.serving; butler = butler; failed = c.default.result }) have.serving have.given have.true_to have.no_take
          (subst (IsReaderOf s) (sym shared.lists.2) (of, of)) (λ i. record { read = c.default.ensures.0 i; write = c.default.ensures.1 i }) c.of-told.result served c.of-told.ensures.media;
      session = session;
      input = c.of-first.ensures.input;
      master = c.of-first.ensures.sink;
      served = served;
      media_is = c.of-told.ensures.media;
      cycles = ap (λ (j : Listed _). j.room) have.process.journal;
      asked = have.given.cycles_is;
      opened = ap (λ z. z.opened) have.given.sources_is;
      stream = have.process.stream;
      ends_are = subst (AreNew s) (sym have.process.ends_are) fit.process;
      others = subst (λ (e : ProcessEnds). AreOtherEnds e butler.ends) (sym have.process.ends_are) (subst (λ (e : ButlerEnds). AreOtherEnds x.ends.process e) (sym have.given.ends_is) fit.butler);
      acks_are = fit.hearing;
      acks_ring = fit.control ∙ ap (λ (e : ProcessEnds). e.to_control.ring) (sym have.process.ends_are);
      grants_are = shared.grants;
      list_is = shared.lists.0;
      first = shared.lists.1;
      second = shared.lists.2;
    }
