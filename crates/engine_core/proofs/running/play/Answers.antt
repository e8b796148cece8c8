use Rattle.std.proofs.Common.{sym, ap, ◌∙◌}
use Rattle.engine_core.proofs.BeginLemmas.{none_by}
use Rattle.engine_core.proofs.running.play.Goals as goal

-- src/running.rt
pub played-requires : goal.played-requires
played-requires g c κs within = (
  within.0,
  (
    within.1.0,
    (
      within.1.1.0,
      (
        within.1.1.1.0,
        (
          within.1.1.1.1,
          (
            c.in-Ok.ensures.begun,
            (
              ap (λ z. z.letters) c.requires.1.1.1.1.1.1,
              none_by c.args.o.script c.is_none-records.result c.is_none-records.ensures ∙ sym (ap (λ z. z.opening.started.begun.records) c.requires.1.1.1.1.1.1),
            ),
          ),
        ),
      ),
    ),
  ),
)
