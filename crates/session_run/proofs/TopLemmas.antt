-- What was done that the words ask for.
use Rattle.std.proofs.Common.{◌≡◌, subst}
use Rattle.std.specs.Prelude.{Option}
use Rattle.ses_io.specs.Outside.{MediaOutside, SourceOutside, SinkOutside}
use Rattle.ses_io.specs.declared.world.World.{World}
use Rattle.session_play.specs.declared.outcome.Outcome.{Outcome}
use Rattle.session_run.specs.Headline.{Does}
use Rattle.session_run.specs.Tasks.{Task}

pub as_asked : {M I C W O : Type 0} (media : MediaOutside M) (inputs : SourceOutside I) (controls : SourceOutside C) (masters : SinkOutside W) (outs : SinkOutside O) (old : World M I C W O) (new : Outcome M I C W O)
    (task asked : Option Task) → task ≡ asked → Does media inputs controls masters outs old task new → Does media inputs controls masters outs old asked new
as_asked media inputs controls masters outs old new task asked same does = subst (λ (t : Option Task). Does media inputs controls masters outs old t new) same does
