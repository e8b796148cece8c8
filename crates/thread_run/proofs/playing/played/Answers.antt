use Rattle.std.proofs.Common.{sym, subst, refl}
use Rattle.lead_worker.specs.Leads.{BeginsToLead}
use Rattle.thread_run.specs.Joined.{HasLed, HasPlayed}
use Rattle.thread_run.proofs.playing.played.Goals as goal

-- src/playing.rt
pub side_by_side-joined-requires-clause-leads : goal.side_by_side-joined-requires-clause-leads
side_by_side-joined-requires-clause-leads g c = λ κs within. let begun = c.requires.1.1.1.1.1.1.1.1.1.1.1.1.1.1 in let crew = c.args.crew in
    subst (λ z. BeginsToLead z crew.leading.lists crew.leading.control crew.leading.link) (sym begun.ready.served) begun.begins

pub finish-requires : goal.finish-requires
finish-requires g c κs within = let asked = c.requires.1.1.1.1.1.1.1.1.1.1 in let did = c.side_by_side-joined.ensures in (
  within.0,
  (
    within.1.0,
    (
      within.1.1.0,
      (
        within.1.1.1.0,
        (
          within.1.1.1.1.0,
          (
            within.1.1.1.1.1,
            record {
              may = asked.0;
              reads = asked.1.0;
              crew = c.args.crew;
              begun = asked.1.1.1.1;
              lists_are = refl;
              led = subst (λ n. HasLed g.C.Source.outside g.O.Sink.outside c.args.crew.told.session.value n c.args.crew.leading.control c.args.crew.leading.link c.side_by_side-joined.result.led) asked.1.1.1.0.1 did.led;
              served = did.served;
              played = subst (λ n. HasPlayed n g.I.Source.outside g.W.Sink.outside c.args.crew.playing c.side_by_side-joined.result.played) asked.1.1.1.0.0 did.played;
            },
          ),
        ),
      ),
    ),
  ),
)
