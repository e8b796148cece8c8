-- The process of a run looks at each track: what was so of the run is so still, and it is the letter G.
use Rattle.std.proofs.Common.{◌≡◌, inl, inr, ℕ, [], length, refl, sym, ap, subst, ◌∙◌}
use Rattle.std.specs.Prelude.{true, false, ◌&&◌, not, nat_lt, if◌then◌else◌}
use Rattle.std.proofs.lemmas.Bool.{false≢true, or_left, or_right}
use Rattle.ses_io.specs.Outside.{MediaOutside, SourceOutside, SinkOutside}
use Rattle.session_model.specs.declared.session.Session.{Session}
use Rattle.engine_model.specs.Edits.{has_quit}
use Rattle.machine_model.specs.Core.{Core}
use Rattle.machine_model.specs.Events.{EnterProcess, after, done, have_looked, step}
use Rattle.machine_model.specs.Letters.{gather_moves, look_ups}
use Rattle.butler.specs.ButlerState.{ButlerState}
use Rattle.process_cycle.specs.Looked.{HasLooked}
use Rattle.process_cycle.specs.ProcessState.{ProcessState}
use Rattle.worker_pair.specs.declared.pair.Pair.{Pair}
use Rattle.worker_pair.specs.Begun.{looked, playing_at}
use Rattle.worker_pair.specs.Plays.{Looks}
use Rattle.worker_pair.specs.Runs.{Runs}
use Rattle.worker_pair.specs.Steps.{LooksAsMachine}
use Rattle.worker_pair.specs.Tied.{IsTied}
use Rattle.worker_pair.proofs.NowLemmas.{now_runs, runs_rest}
use Rattle.run_end.specs.declared.failures.Failures.{Failures}
use Rattle.engine_core.specs.declared.run.Run.{Run}
use Rattle.run_end.specs.Failures.{has_stopped}
use Rattle.run_end.specs.Started.{Started}
use Rattle.engine_core.specs.Now.{now_of}
use Rattle.engine_core.specs.UnderWay.{IsInputOf, IsUnderWay}
use Rattle.engine_core.specs.Letters.{EnteringIsE, EntersOn, GatheringIsG, GathersOn}
use Rattle.run_end.proofs.DepthLemmas.{depths_played}
use Rattle.engine_core.proofs.EnterLemmas.{cycles_entered, either}
use Rattle.engine_core.proofs.KeepLemmas.{counts_stand}

-- ---- what failed

-- a process that goes on has had no fault of the master,
pub master_is_fine : (f : Failures) → has_stopped f ≡ false → f.master ≡ true → ⊥
master_is_fine f going bad = false≢true (sym going ∙ or_right f.input f.master bad)

-- and none of the input
pub input_is_fine : (f : Failures) → has_stopped f ≡ false → f.input ≡ true → ⊥
input_is_fine f going bad = false≢true (sym going ∙ or_left f.input f.master bad)

-- ---- a look

module _ {V I W : Type 0} where
  module _ (media : MediaOutside V) (inputs : SourceOutside I) (sinks : SinkOutside W) (on : Started V I W) (old : Run V I W) (is : IsUnderWay media inputs sinks on old)
      (in_cycle : old.pair.in_cycle ≡ true) where
    -- a cycle is open, so the process hasn't stopped,
    pub going : has_stopped old.failed ≡ false
    going = elim (either (has_stopped old.failed)) [
      | inl stopped ↦ absurd (false≢true (sym (is.shut stopped) ∙ in_cycle))
      | inr goes ↦ goes
    ]

    -- and runs
    pub old_runs : Runs media inputs sinks (now_of on old) old.pair
    old_runs = is.runs going

    module _ (new : Pair V I W) (looks : Looks old.pair new) (runs : Runs media inputs sinks (looked old.pair.playing.edits (now_of on old)) new) where
      -- the run afterwards
      abbrev pub looked_run : Run V I W
      looked_run = record { pair = new; failed = old.failed }

      -- by its own numbers
      pub runs_now : Runs media inputs sinks (now_of on looked_run) new
      runs_now = now_runs media inputs sinks (looked old.pair.playing.edits (now_of on old)) new runs

      -- a run that has looked is under way
      pub under_way_looked : IsUnderWay media inputs sinks on looked_run
      under_way_looked = record {
        rests = runs_rest media inputs sinks (now_of on looked_run) new runs_now;
        runs = λ goes. runs_now;
        shut = λ stopped. absurd (false≢true (sym going ∙ stopped));
        counts = counts_stand media inputs sinks on old looked_run refl (ap (λ (b : ButlerState V). b.media) looks.met.butler) (ap (λ (b : ButlerState V). b.hushed) looks.met.butler)
            (ap (λ (b : ButlerState V). b.write_failed) looks.met.butler)
            (ap (λ (z : ProcessState I W). z.input.input) looks.met.process_is ∙ ap (λ (z : ProcessState I W). z.input.input) looks.keeps.same)
            (ap (λ (z : ProcessState I W). z.master.sink) looks.met.process_is ∙ ap (λ (z : ProcessState I W). z.master.sink) looks.keeps.same) is.counts;
        opened = ap (λ (b : ButlerState V). b.sources.opened) looks.met.butler ∙ is.opened;
        hears = runs_now.playing.hears;
        mastered = λ fine. runs_now.mastered refl;
        cut = λ bad. absurd (master_is_fine old.failed going bad);
        input = subst (IsInputOf on) (sym (ap (λ (z : ProcessState I W). z.input) looks.met.process_is ∙ ap (λ (z : ProcessState I W). z.input) looks.keeps.same)) is.input;
        input_short = λ bad. absurd (input_is_fine old.failed going bad);
        depths = depths_played inputs (playing_at (now_of on looked_run)) new.process runs_now.playing;
      }

      -- each track's look-up is over
      pub has_looked_now : HasLooked (playing_at (looked old.pair.playing.edits (now_of on old))) new.process → HasLooked (playing_at (now_of on looked_run)) new.process
      has_looked_now was = subst (λ l. HasLooked (record { session = on.begun.session; edits = l; start = on.begun.start; before = on.begun.before }) new.process) runs.entered.played was

  -- ---- what a gathering leaves

  -- as many cycles are asked for
  pub cycles_gathered : (old new : Run V I W) → GathersOn old new → new.pair.butler.cycles ≡ old.pair.butler.cycles
  cycles_gathered old new gathers = elim (either gathers.entered.pair.in_cycle) [
    | inl opens ↦ (ap (λ (b : ButlerState V). b.cycles) (gathers.looks opens).met.butler ∙ cycles_entered old gathers.entered gathers.enters)
    | inr shut ↦ (ap (λ (r : Run V I W). r.pair.butler.cycles) (gathers.stays shut) ∙ cycles_entered old gathers.entered gathers.enters)
  ]

  -- where a cycle is open it has looked in the edition that it plays
  pub played_all : (old new : Run V I W) → GathersOn old new → new.pair.in_cycle ≡ true → new.pair.process.entered ≡ length new.pair.playing.edits
  played_all old new gathers in_cycle = elim (either gathers.entered.pair.in_cycle) [
    | inl opens ↦ (let looks = gathers.looks opens in ap (λ (z : ProcessState I W). z.entered) looks.met.process_is ∙ looks.looks.entered ∙ sym (ap (λ (p : Pair V I W). length p.playing.edits) looks.same))
    | inr shut ↦ absurd (false≢true (sym (ap (λ (r : Run V I W). r.pair.in_cycle) (gathers.stays shut) ∙ shut) ∙ in_cycle))
  ]

-- ---- the core machine

-- where a cycle is open, to enter does nothing
entered_once : (s : Session) (cycles : ℕ) (c : Core) → c.in_cycle ≡ true → step s cycles c EnterProcess ≡ c
entered_once s cycles c is = ap (λ b. if not b && nat_lt (length c.entries) cycles && not (has_quit c.edits c.playing) then done s cycles c EnterProcess else c) is

-- the look-ups that follow in this state
abbrev looks_from : Session → ℕ → Core → Core
looks_from s cycles d = after s cycles d (if d.in_cycle then look_ups s d 0 d.tracks else [])

module _ {V I W : Type 0} (s : Session) (old entered : Run V I W) (enters : EntersOn old entered) (letter : EnteringIsE s old entered) where
  -- where no cycle is open, it is the letter G too
  pub gathers_shut : entered.pair.in_cycle ≡ false → GatheringIsG s old entered
  gathers_shut shut = λ c fine tied. let cycles = old.pair.butler.cycles in let d = step s cycles c EnterProcess in let now = letter c fine tied in let closed : d.in_cycle ≡ false = now.in_cycle ∙ shut in
      let same : looks_from s cycles d ≡ d = ap (λ b. after s cycles d (if b then look_ups s d 0 d.tracks else [])) closed in
      (subst (λ z. IsTied s z entered.pair) (sym same) now, λ opens. absurd (false≢true (sym (ap (λ z. z.in_cycle) same ∙ closed) ∙ opens)))

  -- and where one is open, with the looks
  pub gathers_open : entered.pair.in_cycle ≡ true → (new : Pair V I W) → LooksAsMachine s entered.pair new → GatheringIsG s old (record { pair = new; failed = entered.failed })
  gathers_open opens new looks = λ c fine tied. let cycles = old.pair.butler.cycles in let d = step s cycles c EnterProcess in let now = letter c fine tied in let is_open : d.in_cycle ≡ true = now.in_cycle ∙ opens in
      let did : let z = after s cycles d (gather_moves s cycles d) in IsTied s z new × (have_looked s z ≡ true) =
      subst (λ n. let z = after s n d (gather_moves s n d) in IsTied s z new × (have_looked s z ≡ true)) (cycles_entered old entered enters) (looks d now) in
      let both : let z = looks_from s cycles d in IsTied s z new × (have_looked s z ≡ true) =
      subst (λ e. let z = looks_from s cycles e in IsTied s z new × (have_looked s z ≡ true)) (entered_once s cycles d is_open) did in
      (both.0, λ open_now. both.1)
