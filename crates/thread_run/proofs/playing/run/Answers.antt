use Rattle.std.proofs.Common.{◌≡◌, sym, ap, subst}
use Rattle.std.specs.Prelude.{None}
use Rattle.run_end.specs.Beginning.{MayRun}
use Rattle.thread_run.specs.Beginning.{HaveAllBegun}
use Rattle.thread_run.proofs.playing.run.Goals as goal

-- src/playing.rt
pub played-requires : goal.played-requires
played-requires g c κs within = let sent = c.requires.1.1.1.1.1.1 in let asked = sent.1.1.1.1 in let on = asked.1.1.1 in (
  within.0,
  (
    within.1.0,
    (
      within.1.1.0,
      (
        within.1.1.1.0,
        (
          within.1.1.1.1.0,
          (
            within.1.1.1.1.1,
            (
              sent.0,
              (
                sent.1.0,
                (
                  sent.1.1.0,
                  (
                    sent.1.1.1.0,
                    (
                      subst (λ a. MayRun g.M.Media.outside a.opened) (sym on) asked.0,
                      (
                        subst (λ a. a.opened.script ≡ None) (sym on) asked.1.0,
                        (
                          asked.1.1.0,
                          (
                            (sym (ap (λ a. a.patience) on), sym (ap (λ a. a.opened.cycles) on)),
                            subst (λ a. HaveAllBegun g.M.Media.outside g.I.Source.outside g.W.Sink.outside a.opened c.in-Ok.crew) (sym on) c.in-Ok.ensures.begun,
                          ),
                        ),
                      ),
                    ),
                  ),
                ),
              ),
            ),
          ),
        ),
      ),
    ),
  ),
)
