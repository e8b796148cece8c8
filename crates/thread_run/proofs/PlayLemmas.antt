-- What a play on threads says, clause by clause.
use Rattle.std.proofs.Common.{◌≡◌, sym, ap, subst, ◌∙◌}
use Rattle.std.specs.Prelude.{false, Result, Ok, Err, IfOk}
use Rattle.ses_io.specs.Outside.{MediaOutside, SourceOutside, SinkOutside}
use Rattle.lead_worker.specs.Heard.{HeardIsTrue}
use Rattle.master_blocks.specs.Laws.{TheMasterIsItsBlocks}
use Rattle.run_world.specs.declared.finished.Finished.{Finished}
use Rattle.run_end.specs.Beginning.{started_of}
use Rattle.run_end.specs.Finished.{FaultsAreCounted, LeavesRings, SendsGenuine, run_end_of}
use Rattle.run_end.specs.Mastered.{InputGave, MakesItsCycles, WritesTheMaster}
use Rattle.run_end.specs.Takes.{LeavesTakes}
use Rattle.thread_run.specs.Leaving.{Asked, IsLeft}
use Rattle.thread_run.specs.Fronts.{LeavesFronts}
use Rattle.thread_run.specs.Playing.{IfEnough, PlaysItsLines}
use Rattle.thread_run.proofs.CycleLemmas as cycles
use Rattle.thread_run.proofs.FrontLemmas as fronts
use Rattle.thread_run.proofs.LineLemmas as lines
use Rattle.thread_run.proofs.MasterLemmas as master

-- what is so of all that is left so is so of what a call answers
pub if_left : {F E : Type 0} (Left Says : F → Type 0) → ((f : F) → Left f → Says f) → (r : Result F E) → IfOk r Left → IfOk r Says
if_left Left Says says (Ok f) left = says f left
if_left Left Says says (Err e) left = tt

module _ (R : Type 0) {M I C W O : Type 0} (media : MediaOutside M) (inputs : SourceOutside I) (source : SourceOutside C) (sinks : SinkOutside W) (sink : SinkOutside O) (on : Asked M I C W O) where
  abbrev pub Left : Finished M I C W O → Type 0
  Left f = IsLeft R media inputs source sinks sink on f

  module _ (f : Finished M I C W O) (x : Left f) where
    abbrev now : Finished M I C W O
    now = cycles.now media inputs source sinks sink on f x

    -- memory was enough
    was_enough : f.faults.memory ≡ false → x.memory ≡ false
    was_enough enough = sym (ap (λ (z : Finished M I C W O). z.faults.memory) x.is) ∙ enough

    pub rings_of : IfEnough (LeavesRings on.opened) f
    rings_of enough = subst (LeavesRings on.opened) (sym x.is) (master.end media inputs source sinks sink on f x (was_enough enough)).rings

    pub genuine_of : media.tells → IfEnough (SendsGenuine media on.opened) f
    genuine_of tells enough = subst (SendsGenuine media on.opened) (sym x.is) ((master.end media inputs source sinks sink on f x (was_enough enough)).genuine tells)

    pub takes_of : IfEnough (λ z. LeavesTakes media inputs (started_of media inputs sinks on.opened) (run_end_of z)) f
    takes_of enough = subst (λ z. LeavesTakes media inputs (started_of media inputs sinks on.opened) (run_end_of z)) (sym x.is) (master.end media inputs source sinks sink on f x (was_enough enough)).takes

    pub cycles_of : IfEnough (MakesItsCycles on.opened) f
    cycles_of enough = subst (MakesItsCycles on.opened) (sym x.is) (cycles.makes_its_cycles media inputs source sinks sink on f x (was_enough enough))

    pub input_of : InputGave inputs on.opened f
    input_of = subst (InputGave inputs on.opened) (sym x.is) (cycles.input_gave media inputs source sinks sink on f x)

    pub master_of : TheMasterIsItsBlocks → media.tells → sinks.tells → IfEnough (WritesTheMaster media sinks on.opened) f
    master_of law tells told enough = subst (WritesTheMaster media sinks on.opened) (sym x.is) (master.writes_the_master media inputs source sinks sink on f x (was_enough enough) tells told law)

    pub lines_of : HeardIsTrue → PlaysItsLines on.patience source sink on.opened f
    lines_of law = subst (PlaysItsLines on.patience source sink on.opened) (sym x.is) (lines.plays_its_lines media inputs source sinks sink on f x law)

    pub fronts_of : media.tells → LeavesFronts media inputs (started_of media inputs sinks on.opened) (run_end_of f)
    fronts_of tells = subst (λ z. LeavesFronts media inputs (started_of media inputs sinks on.opened) (run_end_of z)) (sym x.is) (fronts.leaves_fronts media inputs source sinks sink on f x tells)

    pub counts_of : FaultsAreCounted media inputs source sinks sink on.opened f
    counts_of = subst (FaultsAreCounted media inputs source sinks sink on.opened) (sym x.is) (lines.faults_are_counted media inputs source sinks sink on f x)
