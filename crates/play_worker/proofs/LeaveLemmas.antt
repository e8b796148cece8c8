-- What the process's thread leaves, once its master was ended.
use Rattle.std.proofs.Common.{◌≡◌, ℕ, sym, ap, subst}
use Rattle.std.specs.Prelude.{Bool}
use Rattle.ses_io.specs.Faults.{HasCause}
use Rattle.ses_io.specs.Outside.{SourceOutside, SinkOutside}
use Rattle.process_cycle.specs.declared.fault.CycleFault.TheVariants.{InputFault, MasterFault}
use Rattle.process_cycle.specs.ProcessState.{Playing, ProcessState}
use Rattle.play_worker.specs.declared.playing.Played.{Played}
use Rattle.play_worker.specs.declared.told.Told.{Told}
use Rattle.play_worker.specs.declared.worker.PlayWorker.{PlayWorker}
use Rattle.play_worker.specs.declared.worker.Ended.{Ended}
use Rattle.play_worker.specs.declared.worker.Ended.TheVariants.{All, Quit, Refused, Stopped}
use Rattle.play_worker.specs.Kept.{KeepsRun}
use Rattle.play_worker.specs.Leaves.{AsksItsInput, EndsMaster, GivesBack, InputGives, IsWhy, MasterIsLeft, PlayLeaves, PlaysNoMore, is_cut, master_answered}
use Rattle.play_worker.specs.Plays.{RestsAt, at_now}
use Rattle.play_worker.proofs.KeptLemmas.{run_refl, run_trans}

module _ {I W : Type 0} where
  -- nothing but what was written to the master has changed
  abbrev pub rewritten : ProcessState I W → W → ProcessState I W
  rewritten p sink = record p { master = record p.master { sink = sink } }

  abbrev at_end : PlayWorker I W → W → PlayWorker I W
  at_end w sink = record w { process = rewritten w.process sink }

  pub master_keeps : (old new : ProcessState I W) → new ≡ rewritten old new.master.sink → KeepsRun old new
  master_keeps old new same = subst (KeepsRun old) (sym same) (let is = run_refl old in record { rings = is.rings; journal = is.journal; room = is.room; stream = is.stream; block = is.block })

  -- ---- what stands then

  rests_still : (patience : ℕ) (inputs : SourceOutside I) (at : Playing) (w : PlayWorker I W) (sink : W) → RestsAt patience inputs at w → RestsAt patience inputs at (at_end w sink)
  rests_still patience inputs at w sink is = record {
    reader_of = is.reader_of;
    begins = is.begins;
    numbered = is.numbered;
    promises = is.promises;
    hears = is.hears;
    master_of = record { valid = is.master_of.valid; form = is.master_of.form; desk = is.master_of.desk };
    cycles = is.cycles;
    patient = is.patient;
    allowed = is.allowed;
  }

  why_still : (ended : Ended) (w : PlayWorker I W) (sink : W) → IsWhy ended w → IsWhy ended (at_end w sink)
  why_still All w sink is = is
  why_still Quit w sink is = is
  why_still Refused w sink is = is
  why_still (Stopped why) w sink is = is

  gives_still : (inputs : SourceOutside I) (at : Playing) (ended : Ended) (p : ProcessState I W) (sink : W) → InputGives inputs at ended p → InputGives inputs at ended (rewritten p sink)
  gives_still inputs at All p sink is = is
  gives_still inputs at Quit p sink is = is
  gives_still inputs at Refused p sink is = is
  gives_still inputs at (Stopped MasterFault) p sink is = is
  gives_still inputs at (Stopped InputFault) p sink is = record { before = is.before; read = is.read; stream = is.stream; block = is.block; lost = is.lost }

  asks_still : (inputs : SourceOutside I) (at : Playing) (ended : Ended) (w : PlayWorker I W) (sink : W) → AsksItsInput inputs at ended w → AsksItsInput inputs at ended (at_end w sink)
  asks_still inputs at ended w sink is = record { gives = gives_still inputs at ended w.process sink is.gives; faults = is.faults; untouched = is.untouched }

  -- **So this is left.**
  pub leaves : (inputs : SourceOutside I) (sinks : SinkOutside W) (patience : ℕ) (old w last : PlayWorker I W) (ended : Ended) (cut_off : Bool) (r : Played I W) →
      PlaysNoMore patience inputs sinks (at_now inputs sinks w) ended w → EndsMaster inputs sinks (at_now inputs sinks w) ended w cut_off last → KeepsRun old.process w.process →
      GivesBack last r → r.ended ≡ ended → r.cut_off ≡ cut_off → PlayLeaves patience inputs sinks old r
  leaves inputs sinks patience old w last ended cut_off r is ends keeps gives why cut =
      let same = ends.same in let sink = last.process.master.sink in let at : at_now inputs sinks last ≡ at_now inputs sinks w = ap (at_now inputs sinks) same in record {
        last = last;
        gives = gives;
        keeps = run_trans old.process w.process last.process keeps (master_keeps w.process last.process (ap (λ (x : PlayWorker I W). x.process) same));
        rests = subst (λ x. RestsAt patience inputs (at_now inputs sinks x) x) (sym same) (rests_still patience inputs (at_now inputs sinks w) w sink is.rests);
        why = subst (λ e. IsWhy e last) (sym why) (subst (IsWhy ended) (sym same) (why_still ended w sink is.why));
        input = subst (λ e. AsksItsInput inputs (at_now inputs sinks last) e last) (sym why)
            (subst (λ x. AsksItsInput inputs (at_now inputs sinks x) ended x) (sym same) (asks_still inputs (at_now inputs sinks w) ended w sink is.input));
        master = subst (λ e. MasterIsLeft inputs sinks (at_now inputs sinks last) (is_cut e) r.cut_off last.process) (sym why)
            (subst (λ c. MasterIsLeft inputs sinks (at_now inputs sinks last) (is_cut ended) c last.process) (sym cut)
            (subst (λ a. MasterIsLeft inputs sinks a (is_cut ended) cut_off last.process) (sym at) ends.master));
        master_faults = subst (λ c. HasCause (sinks.faults last.told.sink.value) (sinks.faults sink) (master_answered c)) (sym cut)
            (subst (λ (t : Told I W). HasCause (sinks.faults t.sink.value) (sinks.faults sink) (master_answered cut_off)) (sym (ap (λ (x : PlayWorker I W). x.told) same)) ends.faults);
      }
