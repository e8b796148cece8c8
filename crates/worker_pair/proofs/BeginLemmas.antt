-- The workers run and rest on when the master was written to.
use Rattle.std.proofs.Common.{◌≡◌, ◌<◌, ◌≤◌, length, take, refl, sym, ap, subst, ◌∙◌}
use Rattle.std.specs.Prelude.{Result, Ok, Err, OnOk}
use Rattle.ses_io.specs.Outside.{MediaOutside, SourceOutside, SinkOutside}
use Rattle.master_blocks.specs.State.{IsMasterOf, MasterState}
use Rattle.process_cycle.specs.ProcessState.{ProcessState as Process, entries_of}
use Rattle.process_cycle.specs.Promised.{IsMastered, Promises}
use Rattle.process_cycle.specs.Playing.{IsPlaying}
use Rattle.process_cycle.specs.declared.fault.CycleFault.{CycleFault}
use Rattle.process_ends.specs.declared.ends.ProcessEnds.{ProcessEnds}
use Rattle.worker_pair.specs.declared.pair.Pair.{Pair}
use Rattle.worker_pair.specs.Begun.{At, headed, playing_at}
use Rattle.worker_pair.specs.Runs.{HasControl, HasEntered, Rests, Runs, Serves}
use Rattle.worker_pair.specs.Plays.{OnlyTheMaster}
use Rattle.worker_pair.specs.Tied.{rings_of}
use Rattle.worker_pair.proofs.NowLemmas.{serves_as}

module _ {V I W : Type 0} (at : At) (p : Pair V I W) (q : Process I W) (same : q ≡ record p.process { master = record p.process.master { sink = q.master.sink } }) where
  -- the pair with that process
  abbrev after : Pair V I W
  after = record p { process = q }

  -- nothing but the master's sink changed
  pub only_the_master : OnlyTheMaster p after
  only_the_master = ap (λ (z : Process I W). record p { process = z }) same

  -- the butler serves on,
  serves_on : (media : MediaOutside V) → Serves media at (rings_of p) → Serves media at (rings_of after)
  serves_on media = subst (λ (z : ProcessEnds). Serves media at (record { edition = p.edition; butler = p.butler; ends = z })) (sym (ap (λ (z : Process I W). z.ends) same))

  -- the process entered what it entered,
  entered_on : HasEntered at p → HasEntered at after
  entered_on was = record {
    edition_of = was.edition_of;
    begins = was.begins;
    not_ended = was.not_ended;
    newest_not_ended = was.newest_not_ended;
    forms = was.forms;
    room = λ on. subst (λ (z : Process I W). length z.journal.items < z.journal.room) (sym same) (was.room on);
    unended = was.unended;
    few = subst (λ (z : Process I W). z.entered ≤ length p.playing.edits) (sym same) was.few;
    played = was.played ∙ ap (λ (z : Process I W). take z.entered p.edition.edits) (sym same);
  }

  -- control took nothing,
  control_on : HasControl p → HasControl after
  control_on was = subst (λ (z : Process I W). HasControl (record p { process = z })) (sym same) (record { ring = was.ring; none_taken = was.none_taken; heads = was.heads })

  -- and the master is the session's
  master_on : IsMasterOf at.begun.session p.process.master → IsMasterOf at.begun.session q.master
  master_on is = subst (λ (m : MasterState W). IsMasterOf at.begun.session m) (sym (ap (λ (z : Process I W). z.master) same)) (record { valid = is.valid; form = is.form; desk = is.desk })

  -- the workers rest on,
  pub rests_on : (media : MediaOutside V) → Rests media at p → Rests media at after
  rests_on media rests = record {
    serves = serves_on media rests.serves;
    entered = entered_on rests.entered;
    control = control_on rests.control;
    promises = subst (λ (z : Process I W). Promises (playing_at at) (entries_of z) z.ends) (sym same) rests.promises;
    master = master_on rests.master;
    asked = ap (λ (z : Process I W). z.journal.room) same ∙ rests.asked;
  }

  -- and run on behind the header,
  pub runs_headed : (media : MediaOutside V) (inputs : SourceOutside I) (sinks : SinkOutside W) → Runs media inputs sinks at p → IsPlaying inputs (playing_at at) q → IsMastered sinks (playing_at at) q →
      Runs media inputs sinks (headed at) after
  runs_headed media inputs sinks runs playing mastered = record {
    serves = serves_as media at (headed at) (rings_of after) refl refl (serves_on media runs.serves);
    entered = let now = entered_on runs.entered in record {
      edition_of = now.edition_of;
      begins = now.begins;
      not_ended = now.not_ended;
      newest_not_ended = now.newest_not_ended;
      forms = now.forms;
      room = now.room;
      unended = now.unended;
      few = now.few;
      played = now.played;
    };
    control = control_on runs.control;
    playing = playing;
    mastered = λ header. mastered;
    asked = ap (λ (z : Process I W). z.journal.room) same ∙ runs.asked;
  }

  -- where it could be written
  pub ok_headed : (media : MediaOutside V) (inputs : SourceOutside I) (sinks : SinkOutside W) → Runs media inputs sinks at p → IsPlaying inputs (playing_at at) q → (answer : Result (Unit {0}) CycleFault) →
      OnOk answer (IsMastered sinks (playing_at at) q) → OnOk answer (Runs media inputs sinks (headed at) after)
  ok_headed media inputs sinks runs playing (Ok u) mastered = runs_headed media inputs sinks runs playing mastered
  ok_headed media inputs sinks runs playing (Err why) mastered = tt
