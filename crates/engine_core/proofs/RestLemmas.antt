-- A run with its control goes on by its rest, by a line or a cycle at a time.
use Rattle.std.proofs.Common.{◌≡◌, inl, inr, ℕ, ◌+◌, ◌-◌, ◌<◌, ◌≤◌, List, ◌++◌, length, refl, sym, ap, subst, arith, ◌∙◌, append-nil}
use Rattle.std.specs.Prelude.{Bool, true, false, ◌&&◌, ◌||◌, nat_le, suc, if◌then◌else◌}
use Rattle.std.proofs.lemmas.Bool.{and_parts, leb-false, or_parts, true≢false}
use Rattle.ses_io.specs.Outside.{MediaOutside, SourceOutside, SinkOutside}
use Rattle.session_model.specs.declared.session.Session.{Session}
use Rattle.engine_model.specs.Edits.{has_quit}
use Rattle.engine_model.specs.Replies.{Reply}
use Rattle.machine_model.specs.Control.{Entries, SettledIn}
use Rattle.machine_model.specs.Core.{Core}
use Rattle.machine_model.specs.Letters.{Letter}
use Rattle.machine_model.specs.Rest as machine
use Rattle.machine_model.specs.Rest.{Between, Carry, Finish, Play}
use Rattle.edition_log.proofs.PlayLaws.{editions_play_their_places}
use Rattle.control_desk.specs.declared.progress.Progress.{Progress}
use Rattle.control_desk.specs.Seen.{IsSeenOf, is_settled_by}
use Rattle.control_desk.specs.Standing.{Awaits, Ended, Ready, Standing, is_ended}
use Rattle.control_desk.proofs.LawLemmas.{over_is}
use Rattle.control_letter.specs.Shown.{standing_by}
use Rattle.serial_laws.specs.Leads.{HasGoneOn}
use Rattle.serial_laws.proofs.RestLemmas.{a_line_is_carried_out, no_letter_is_needed, the_rest_begins}
use Rattle.engine_core.specs.declared.run.Run.{Run}
use Rattle.run_end.specs.Failures.{has_stopped}
use Rattle.run_end.specs.Started.{Started}
use Rattle.engine_core.specs.Now.{is_played_out}
use Rattle.engine_core.specs.UnderWay.{IsUnderWay}
use Rattle.engine_core.specs.declared.engine.Engine.{Engine}
use Rattle.engine_core.specs.Carrying.{CarriesALine, PublishesAsMachine}
use Rattle.engine_core.specs.Going.{MayGoOn}
use Rattle.engine_core.specs.Opening.{Given, InRest, Opening}
use Rattle.engine_core.specs.Shows.{edits_of, made_of, shows}
use Rattle.engine_core.specs.WentOn.{WentOn}
use Rattle.engine_core.proofs.GoingLemmas.{Goes, control_goes, does, worker_goes}
use Rattle.engine_core.proofs.ShownLemmas.{seen_of}
use Rattle.engine_core.specs.Fed.{PlaysPlain}
use Rattle.engine_core.specs.Lost.{LosesNone}
use Rattle.engine_core.specs.Serial.{PlaysNewest}
use Rattle.engine_core.proofs.SerialLemmas.{cycle_keeps_up}
use Rattle.engine_core.specs.Cycles.{MakesAnEntry, MayPlay, PlaysAsMachine}
use Rattle.engine_core.specs.Due.{IsFinished, is_finished, is_last_made, is_line_due}
use Rattle.engine_core.specs.Leading.{IsToPlay, PlaysOn}
use Rattle.engine_core.specs.Left.{cycles_left, steps_left}
use Rattle.engine_core.proofs.SerialCycleLemmas.{many_made}
use Rattle.engine_core.proofs.LessLemmas.{letter_less}

-- ---- what is next

-- where no line is due, and the rest isn't finished, a cycle is next
cycle_is_next : (cycles : ℕ) (c : Core) (seen : Progress) (last : Bool) (st : Standing) (replies : List Reply) → IsSeenOf cycles c seen → machine.is_finished cycles c ≡ last → is_line_due seen st ≡ false →
    (is_ended st && last) ≡ false → IsToPlay cycles (standing_by c st replies)
cycle_is_next cycles c seen last Ready replies is_seen last_is due unfinished = absurd (true≢false due)
cycle_is_next cycles c seen last (Awaits awaited) replies is_seen last_is due unfinished = λ more may. ap (λ b. if b then Carry else Play) (over_is cycles c seen awaited is_seen ∙ due)
cycle_is_next cycles c seen last (Ended why) replies is_seen last_is due unfinished = λ more may. ap (λ b. if b then Finish else Play) (last_is ∙ unfinished)

module _ {V I W : Type 0} where
  -- and may be made
  pub may_play : (r : Run V I W) (st : Standing) → (is_ended st ≡ false → has_quit (edits_of r) (length (edits_of r)) ≡ false) → is_line_due (shows r) st ≡ false → (is_ended st && is_last_made r) ≡ false → MayPlay r
  may_play r Ready unquit due unfinished = absurd (true≢false due)
  may_play r (Awaits (Entries n)) unquit due unfinished = record { unquit = unquit refl; can_run = (or_parts (nat_le n (shows r).entries) (is_played_out r) due).1 }
  may_play r (Awaits (SettledIn k)) unquit due unfinished = record { unquit = unquit refl; can_run = (or_parts (is_settled_by (shows r).settled k) (is_played_out r) due).1 }
  may_play r (Ended why) unquit due unfinished = let none = or_parts (has_quit (edits_of r) (length (edits_of r))) (is_played_out r) unfinished in record { unquit = none.0; can_run = none.1 }

  -- where nothing was done a run went on
  went_nowhere : (r : Run V I W) → WentOn r r
  went_nowhere r = record { edition = refl; asked = refl; grows = record { entries_are = inl refl; stays_over = λ e. e }; fine = λ e. e }

  -- ---- how much is left

  -- fewer entries were made than may be
  few_made : (r : Run V I W) (cycles : ℕ) → r.pair.process.journal.room ≡ cycles → is_played_out r ≡ false → (length (made_of r) < cycles) × (has_stopped r.failed ≡ false)
  few_made r cycles room can_run = let one = or_parts (has_stopped r.failed) (nat_le r.pair.process.journal.room (length r.pair.process.journal.items) || r.pair.playing.transport.quit) can_run in
      let two = or_parts (nat_le r.pair.process.journal.room (length r.pair.process.journal.items)) r.pair.playing.transport.quit one.1 in
      (omega (arith, leb-false r.pair.process.journal.room (length r.pair.process.journal.items) two.0, room, many_made r.pair.process), one.0)

  no_fewer : (old new : Run V I W) → WentOn old new → length (made_of old) ≤ length (made_of new)
  no_fewer old new went = elim went.grows.entries_are [
    | inl same ↦ omega (arith, ap length same)
    | inr more ↦ omega (arith, ap length more.1)
  ]

  -- a cycle leaves less
  pub cycle_less : (old new : Run V I W) (cycles : ℕ) → old.pair.process.journal.room ≡ cycles → is_played_out old ≡ false → WentOn old new → MakesAnEntry old new → cycles_left cycles new < cycles_left cycles old
  cycle_less old new cycles room can_run went makes = let few = few_made old cycles room can_run in
      subst (λ b. cycles_left cycles new < (cycles - length (made_of old)) + (if b then 0 else 1)) (sym few.1) (elim makes [
        | inl one ↦ by_entry (has_stopped new.failed) few.0 one
        | inr stopped ↦ subst (λ b. (cycles - length (made_of new)) + (if b then 0 else 1) < (cycles - length (made_of old)) + 1) (sym stopped) (omega (arith, no_fewer old new went))
      ])
    where
      by_entry : (b : Bool) → length (made_of old) < cycles → length (made_of new) ≡ suc (length (made_of old)) → (cycles - length (made_of new)) + (if b then 0 else 1) < (cycles - length (made_of old)) + 1
      by_entry true few one = omega (arith, few, one)
      by_entry false few one = omega (arith, few, one)

-- ---- whether the rest is finished

module _ {V I C W O : Type 0} (media : MediaOutside V) (inputs : SourceOutside I) (sinks : SinkOutside W) (on : Started V I W) (e : Engine V I C W O) (is : IsUnderWay media inputs sinks on e.run)
    (ended : is_ended e.control.standing ≡ true) where
  quits : e.run.pair.edition.transport.quit ≡ has_quit (edits_of e.run) (length (edits_of e.run))
  quits = (editions_play_their_places on.begun.session e.run.pair.edition is.rests.serves.edition_of).quit

  -- after a quit it is,
  pub finished_by_quit : e.run.pair.edition.transport.quit ≡ true → is_finished e ≡ true
  finished_by_quit quit = λ i. ended i && ((sym quits ∙ quit) i || is_played_out e.run)

  -- and else where no cycle can run
  pub finished_by_run : e.run.pair.edition.transport.quit ≡ false → is_finished e ≡ is_played_out e.run
  finished_by_run quit = λ i. ended i && ((sym quits ∙ quit) i || is_played_out e.run)

pub is_finished_then : {V I C W O : Type 0} (e : Engine V I C W O) → is_finished e ≡ true → IsFinished e
is_finished_then e finished = let both = and_parts (is_ended e.control.standing) (is_last_made e.run) finished in record { ended = both.0; last_made = both.1 }

-- ---- whether a cycle is next

-- No line is due and the rest isn't finished, so that a cycle may be made.
pub record CycleIsNext {V I C W O : Type 0} (e : Engine V I C W O) : Type 0 where
  pub not_due : is_line_due (shows e.run) e.control.standing ≡ false
  pub unfinished : is_finished e ≡ false
  pub may : MayPlay e.run

-- by what was asked
pub cycle_is_next_by : {V I C W O : Type 0} (e : Engine V I C W O) (due over : Bool) → due ≡ is_line_due (shows e.run) e.control.standing → over ≡ is_finished e → due ≡ false → over ≡ false →
    (is_ended e.control.standing ≡ false → has_quit (edits_of e.run) (length (edits_of e.run)) ≡ false) → CycleIsNext e
cycle_is_next_by e due over due_is over_is none going unquit = record {
  not_due = sym due_is ∙ none;
  unfinished = sym over_is ∙ going;
  may = may_play e.run e.control.standing unquit (sym due_is ∙ none) (sym over_is ∙ going);
}

-- ---- a run in its rest

module _ {V I C W O : Type 0} (media : MediaOutside V) (inputs : SourceOutside I) (source : SourceOutside C) (sinks : SinkOutside W) (sink : SinkOutside O) (opening : Opening V I C W O) (letters : List Letter) where
  abbrev s : Session
  s = opening.started.begun.session

  abbrev cycles : ℕ
  cycles = opening.cycles

  -- it is given these letters, or in its rest between two cycles
  abbrev pub IsGiven : Engine V I C W O → Type 0
  IsGiven e = Goes media inputs source sinks sink opening (Given letters) e

  abbrev pub IsResting : Engine V I C W O → Type 0
  IsResting e = Goes media inputs source sinks sink opening (InRest letters Between) e

  -- **The rest begins.**
  pub rest_begins : (e : Engine V I C W O) → IsGiven e → IsResting e
  rest_begins e is = worker_goes media inputs source sinks sink opening (Given letters) (InRest letters Between) e e.run (went_nowhere e.run) is.may.under_way
      (λ lines replies fine f. record {
        core = f.core;
        tied = f.tied;
        leads = the_rest_begins s cycles (record { letters = letters; lines = lines }) (standing_by f.core e.control.standing replies) f.leads;
      }) (λ lines replies none was. was none) is

  -- ---- a cycle

  -- **A cycle is made** where one is next.
  pub cycle_rests : (old : Engine V I C W O) (run : Run V I W) → is_line_due (shows old.run) old.control.standing ≡ false → is_finished old ≡ false → IsUnderWay media inputs sinks opening.started run →
      WentOn old.run run → PlaysAsMachine s old.run run → MayPlay old.run → LosesNone old.run run → PlaysNewest old.run run → PlaysPlain s old.run run → IsResting old → IsResting (record { run = run; control = old.control })
  cycle_rests old run due unfinished under_way went plays may loses newest plain is = worker_goes media inputs source sinks sink opening (InRest letters Between) (InRest letters Between) old run went under_way
      (λ lines replies fine f. let led = plays f.core fine f.tied in
      let is_seen = seen_of s media inputs sinks opening.started old.run refl is.may.under_way cycles f.core is.asked (went.fine fine) f.tied in
      let last : machine.is_finished cycles f.core ≡ is_last_made old.run = (λ i. has_quit (f.tied.rings.edits i) (length (f.tied.rings.edits i)) || sym is_seen.played_out i) in record {
        core = led.core;
        tied = led.tied;
        leads = subst (λ k. PlaysOn s k f.core led.core) is.asked led.led (record { letters = letters; lines = lines }) (standing_by f.core old.control.standing replies)
            (cycle_is_next cycles f.core (shows old.run) (is_last_made old.run) old.control.standing replies is_seen last due unfinished) f.leads;
      }) (λ lines replies none was. cycle_keeps_up s cycles lines replies old.control.standing old.run run due may went loses newest plain (was none)) is

  pub cycle_leaves_less : (old : Engine V I C W O) (run : Run V I W) → is_played_out old.run ≡ false → WentOn old.run run → MakesAnEntry old.run run → IsResting old →
      steps_left cycles (record { run = run; control = old.control }) < steps_left cycles old
  cycle_leaves_less old run can_run went makes is = omega (arith, cycle_less old.run run cycles (is.may.under_way.rests.asked ∙ is.asked) can_run went makes)

  -- ---- a line

  module _ (old new : Engine V I C W O) (carried : CarriesALine source sink s old new) where
    -- **A line is carried out**, or nothing has changed.
    pub line_rests : MayGoOn media inputs sinks opening.started new → PublishesAsMachine s old new → IsResting old → IsResting new
    line_rests may ties is = control_goes media inputs source sinks sink opening old new (InRest letters Between) is carried (InRest letters Between) may ties
        (λ c seen edits gone. let d = does media inputs source sinks sink opening old new (InRest letters Between) is carried in
        let was = standing_by c old.control.standing is.replies in let now = standing_by (record c { edits = edits_of new.run }) new.control.standing (d.given ++ is.replies) in
        elim (d.due_or_not cycles c is.replies seen edits) [
          | inl due ↦ a_line_is_carried_out s cycles (record { letters = letters; lines = is.lines }) was now d.taken (d.carries cycles c is.replies seen edits) due gone
          | inr nothing ↦ subst (λ l. HasGoneOn s cycles (record { letters = letters; lines = l }) Between now) (sym (ap (λ l. is.lines ++ l) nothing.none_taken ∙ append-nil is.lines))
              (no_letter_is_needed s cycles (record { letters = letters; lines = is.lines }) Between was now nothing.stays gone)
        ]) (λ none. none)

    pub line_leaves_less : is_line_due (shows old.run) old.control.standing ≡ true → steps_left cycles new < steps_left cycles old
    line_leaves_less due = omega (
      arith,
      letter_less source sink s (shows old.run) (edits_of old.run) (edits_of new.run) old.control new.control due carried.letter,
      ap (cycles_left cycles) carried.only,
    )
