-- What stands of a pair after a cycle, by what the cycle answered.
use Rattle.std.proofs.Common.{◌≡◌, refl, sym, subst}
use Rattle.std.specs.Prelude.{true, false, Result, Ok, Err, OnOk, OnErr}
use Rattle.ses_io.specs.Outside.{MediaOutside, SourceOutside, SinkOutside}
use Rattle.piece_item.specs.declared.butler_ends.ButlerEnds.{ButlerEnds}
use Rattle.master_blocks.specs.State.{IsMasterOf}
use Rattle.butler.specs.ButlerState.{ButlerState as Butler}
use Rattle.process_ends.specs.declared.ends.ProcessEnds.{ProcessEnds}
use Rattle.process_cycle.specs.declared.fault.CycleFault.{CycleFault}
use Rattle.process_cycle.specs.declared.fault.CycleFault.TheVariants.{InputFault, MasterFault}
use Rattle.process_cycle.specs.Cycles.{CycleReads, CycleWrites, HasStopped, MakesEntry, next_bytes}
use Rattle.process_ends.specs.Ends.{EndsMeet, MayMeet}
use Rattle.process_cycle.specs.Playing.{IsPlaying}
use Rattle.process_cycle.specs.Promised.{IsMastered}
use Rattle.process_cycle.specs.ProcessState.{ProcessState}
use Rattle.worker_pair.specs.declared.pair.Pair.{Pair}
use Rattle.worker_pair.specs.Begun.{At, playing_at}
use Rattle.worker_pair.specs.Plays.{Cycles, MayCycle}
use Rattle.worker_pair.specs.Runs.{HearsInput, Rests, Runs}
use Rattle.worker_pair.specs.Steps.{EndsAsMachine}
use Rattle.worker_pair.proofs.NowLemmas.{runs_rest}
use Rattle.worker_pair.proofs.CoreEndLemmas.{ends_as_machine}
use Rattle.worker_pair.proofs.AgainLemmas.{all_known, still_known}
use Rattle.worker_pair.proofs.EndLemmas.{may_meet_cycled, runs_cycled}
use Rattle.worker_pair.proofs.FaultLemmas.{hears_stopped, now, rests_stopped}

module _ {V I W : Type 0} (media : MediaOutside V) (inputs : SourceOutside I) (sinks : SinkOutside W) (at : At) (old : Pair V I W) (may : MayCycle media inputs sinks at old) (q : ProcessState I W) where
  -- the ends may meet again
  pub may_meet_either : (answer : Result (Unit {0}) CycleFault) → OnOk answer (MakesEntry at.begun.session old.playing old.process q) → OnErr answer (HasStopped old.process q) → MayMeet q.ends old.butler.ends
  may_meet_either (Ok x) made stopped = may_meet_cycled media inputs sinks at old may q made
  may_meet_either (Err why) made stopped = let serves = may.runs.serves in subst (λ (z : ProcessState I W). MayMeet z.ends old.butler.ends) (sym stopped) (record {
    others = serves.others;
    plays = all_known old.butler.ends.sends.items old.process.ends.plays.items serves.met.plays;
    takes = all_known old.process.ends.takes.items old.butler.ends.takes.items serves.met.takes;
    acks = still_known old.process.ends.to_butler old.butler.ends.acks serves.met.acks;
  })

  module _ (ours : ProcessEnds) (theirs : ButlerEnds) (meet : EndsMeet q.ends old.butler.ends ours theirs) where
    -- the pair after the meeting
    abbrev pub met : Pair V I W
    met = now media inputs sinks at old may.runs q ours theirs

    -- it is made of its parts
    pub whole : (b : Butler V) (p : ProcessState I W) → b ≡ record old.butler { ends = theirs } → p ≡ record q { ends = ours } →
        record { edition = old.edition; playing = old.playing; in_cycle = false; butler = b; process = p; acks = old.acks } ≡ met
    whole b p butler process = λ i. record met { butler = butler i; process = process i }

    -- after an entry the workers run
    pub runs_either : (answer : Result (Unit {0}) CycleFault) → OnOk answer (MakesEntry at.begun.session old.playing old.process q) → OnOk answer (IsPlaying inputs (playing_at at) (record q { ends = ours })) →
        OnOk answer (at.header ≡ true → IsMastered sinks (playing_at at) (record q { ends = ours })) → OnOk answer (Runs media inputs sinks at met)
    runs_either (Ok x) made playing mastered = runs_cycled media inputs sinks at old may q made ours theirs meet playing mastered
    runs_either (Err why) made playing mastered = tt

    -- whatever was answered they may rest
    pub rests_either : (answer : Result (Unit {0}) CycleFault) → OnOk answer (Runs media inputs sinks at met) → OnErr answer (HasStopped old.process q) → IsMasterOf at.begun.session q.master → Rests media at met
    rests_either (Ok x) runs stopped master = runs_rest media inputs sinks at met runs
    rests_either (Err why) runs stopped master = rests_stopped media inputs sinks at old may.runs q ours theirs stopped meet master

    -- and what was captured is of one sound
    pub hears_either : (answer : Result (Unit {0}) CycleFault) → OnOk answer (IsPlaying inputs (playing_at at) (record q { ends = ours })) → OnErr answer (HasStopped old.process q) →
        CycleReads inputs (playing_at at) old.process answer q → HearsInput inputs at met
    hears_either (Ok x) playing stopped reads = playing.hears
    hears_either (Err InputFault) playing stopped reads = hears_stopped media inputs sinks at old may.runs q ours theirs stopped meet reads.stream
    hears_either (Err MasterFault) playing stopped reads = hears_stopped media inputs sinks at old may.runs q ours theirs stopped meet reads.stream

    -- it was the process's cycle, and the meeting
    pub cycles_either : (answer : Result (Unit {0}) CycleFault) → OnOk answer (MakesEntry at.begun.session old.playing old.process q) → CycleReads inputs (playing_at at) old.process answer q →
        CycleWrites sinks (next_bytes at.begun.session old.playing old.process) old.process answer q → OnErr answer (HasStopped old.process q) → Cycles inputs sinks at old answer met
    cycles_either answer made reads writes fault = record {
      process = q;
      made = made;
      reads = reads;
      writes = writes;
      fault = fault;
      met = record { ends = meet; butler = refl; process_is = refl };
      same = refl;
    }

    -- and an entry is the core machine's
    pub ends_either : (answer : Result (Unit {0}) CycleFault) → OnOk answer (MakesEntry at.begun.session old.playing old.process q) → EndsAsMachine at.begun.session old answer met
    ends_either (Ok x) made = λ c tied looked. ends_as_machine media inputs sinks at old may q made ours theirs meet c tied looked
    ends_either (Err why) made = λ c tied looked. tt
