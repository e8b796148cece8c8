-- A turn of the butler beside the process: the process plays on, and notes nothing.
use Rattle.std.proofs.Common.{◌≡◌, length, refl, sym, ap, subst, ◌∙◌, arith}
use Rattle.std.specs.Prelude.{◌≤◌, All, Result, Ok, Err}
use Rattle.ses_io.specs.Outside.{MediaOutside, SourceOutside, SinkOutside}
use Rattle.machine_model.specs.Core.{AckRing, Core}
use Rattle.machine_model.specs.Events.{after}
use Rattle.machine_model.specs.Letters.{butler_moves}
use Rattle.disk_ring.specs.Sender.{Sender}
use Rattle.piece_item.specs.declared.ack.Ack.{Ack}
use Rattle.piece_item.specs.declared.butler_ends.ButlerEnds.{ButlerEnds}
use Rattle.butler.specs.declared.turning.Turn.{Turn}
use Rattle.butler.specs.declared.faults.ButlerFault.{ButlerFault}
use Rattle.butler.specs.ButlerState.{ButlerState}
use Rattle.process_ends.specs.declared.ends.ProcessEnds.{ProcessEnds}
use Rattle.process_ends.specs.Ends.{EndsMeet}
use Rattle.process_cycle.specs.Playing.{IsPlaying}
use Rattle.process_cycle.proofs.HearsLemmas.{hears_while_meeting}
use Rattle.process_cycle.proofs.MeetPromiseLemmas.{promises_while_meeting}
use Rattle.process_cycle.specs.ProcessState.{ProcessState, entries_of, sound_of}
use Rattle.process_cycle.specs.Promised.{IsMastered}
use Rattle.worker_pair.specs.declared.pair.Pair.{Pair}
use Rattle.worker_pair.specs.Begun.{At, turned, playing_at}
use Rattle.worker_pair.specs.Runs.{HearsInput, Rests, Runs}
use Rattle.worker_pair.specs.Steps.{IsTurned, PairTurnsAsMachine}
use Rattle.worker_pair.specs.Tied.{IsControlRing, IsTied, rings_of}
use Rattle.worker_pair.proofs.TurnLemmas.{serves_turned, others_turned}
use Rattle.worker_pair.proofs.MachineTurnLemmas.{turn_stands}
use Rattle.worker_pair.proofs.CoreTurnLemmas.{taken_few, rings_now, idle_now}

module _ {V I W : Type 0} (media : MediaOutside V) (inputs : SourceOutside I) (sinks : SinkOutside W) (at : At) (p : Pair V I W) (rests : Rests media at p) (b : ButlerState V) (ours : ProcessEnds) (theirs : ButlerEnds)
    (meet : EndsMeet p.process.ends b.ends ours theirs) where
  -- the pair after it
  abbrev pub turned_pair : ButlerState V → ProcessState I W → Pair V I W
  turned_pair c q = record { edition = p.edition; playing = p.playing; in_cycle = p.in_cycle; butler = c; process = q; acks = p.acks }

  -- by its butler and its process
  by_both : (P : Pair V I W → Type 0) (c : ButlerState V) (q : ProcessState I W) → c ≡ record b { ends = theirs } → q ≡ record p.process { ends = ours } →
      P (turned_pair (record b { ends = theirs }) (record p.process { ends = ours })) → P (turned_pair c q)
  by_both P c q butler process was = subst (λ z. P (turned_pair z q)) (sym butler) (subst (λ z. P (turned_pair (record b { ends = theirs }) z)) (sym process) was)

  -- what stands after it, where these are butler and process
  rests_now : (answer : Result Turn ButlerFault) → IsTurned media at (rings_of p) answer b →
      Rests media (turned p.edition.edits at) (turned_pair (record b { ends = theirs }) (record p.process { ends = ours }))
  rests_now answer turn = record {
    serves = serves_turned media at (rings_of p) answer b rests.serves turn ours theirs meet (record b { ends = theirs }) refl;
    entered = record {
      edition_of = rests.entered.edition_of;
      begins = rests.entered.begins;
      not_ended = rests.entered.not_ended;
      newest_not_ended = rests.entered.newest_not_ended;
      forms = rests.entered.forms;
      room = rests.entered.room;
      unended = rests.entered.unended;
      few = rests.entered.few;
      played = rests.entered.played;
    };
    control = record {
      ring = rests.control.ring ∙ sym (ap (λ (z : Sender Ack). z.ring) meet.to_control);
      none_taken = rests.control.none_taken;
      heads = subst (λ (z : Sender Ack). All (λ h. h ≤ z.got) z.heads) (sym meet.to_control) rests.control.heads;
    };
    promises = promises_while_meeting (playing_at at) (entries_of p.process) p.process.ends ours b.ends theirs (others_turned media at (rings_of p) answer b rests.serves turn) meet rests.promises;
    master = rests.master;
    asked = rests.asked ∙ sym turn.rest.cycles;
  }

  -- and the workers run on if they ran
  runs_now : (answer : Result Turn ButlerFault) → IsTurned media at (rings_of p) answer b → Runs media inputs sinks at p → IsPlaying inputs (playing_at at) (record p.process { ends = ours }) →
      (IsMastered sinks (playing_at at) p.process → IsMastered sinks (playing_at at) (record p.process { ends = ours })) →
      Runs media inputs sinks (turned p.edition.edits at) (turned_pair (record b { ends = theirs }) (record p.process { ends = ours }))
  runs_now answer turn runs playing mastered = let now = rests_now answer turn in record {
    serves = now.serves;
    entered = now.entered;
    control = now.control;
    playing = playing;
    mastered = λ header. mastered (runs.mastered header);
    asked = now.asked;
  }

  -- and are tied to the state of the core machine after its letter
  tied_now : (t : Turn) → IsTurned media at (rings_of p) (Ok t) b → (c : Core) → IsTied at.begun.session c p →
      IsTied at.begun.session (after at.begun.session p.butler.cycles c (butler_moves at.begun.session p.butler.cycles c)) (turned_pair (record b { ends = theirs }) (record p.process { ends = ours }))
  tied_now t turn c tied = let stands = turn_stands at.begun.session p.butler.cycles c (taken_few media at (rings_of p) t b rests.serves turn ours theirs meet c tied.rings) in record {
    rings = rings_now media at (rings_of p) t b rests.serves turn ours theirs meet c tied.rings;
    entries = stands.entries ∙ tied.entries;
    playing = stands.playing ∙ tied.playing;
    in_cycle = stands.in_cycle ∙ tied.in_cycle;
    control = subst (λ (z : AckRing). IsControlRing z ours.to_control) (sym stands.to_control) (subst (IsControlRing c.to_control) (sym meet.to_control) tied.control);
    told_butler = omega (arith, stands.told_butler, ap length stands.entries, tied.told_butler);
    told_control = omega (arith, ap (λ (z : AckRing). z.told) stands.to_control, ap length stands.entries, tied.told_control);
  }

  -- whatever the turn answers
  as_machine_now : (answer : Result Turn ButlerFault) → IsTurned media at (rings_of p) answer b →
      PairTurnsAsMachine at.begun.session p answer (turned_pair (record b { ends = theirs }) (record p.process { ends = ours }))
  as_machine_now (Ok t) turn c tied = (tied_now t turn c tied, idle_now media at (rings_of p) t b rests.serves turn ours theirs meet c tied.rings)
  as_machine_now (Err fault) turn c tied = tt

  module _ (c : ButlerState V) (q : ProcessState I W) (butler : c ≡ record b { ends = theirs }) (process : q ≡ record p.process { ends = ours }) (answer : Result Turn ButlerFault)
      (turn : IsTurned media at (rings_of p) answer b) where
    -- it stands after the turn
    pub rests_turned : Rests media (turned p.edition.edits at) (turned_pair c q)
    rests_turned = by_both (Rests media (turned p.edition.edits at)) c q butler process (rests_now answer turn)

    -- what was captured is of one sound still
    pub hears_turned : HearsInput inputs at p → HearsInput inputs at (turned_pair c q)
    hears_turned was = by_both (HearsInput inputs at) c q butler process (hears_while_meeting inputs.tells (sound_of (playing_at at) p.process) at.begun.session (entries_of p.process)
        p.process.ends ours b.ends theirs (others_turned media at (rings_of p) answer b rests.serves turn) meet was)

    -- and the workers run on
    pub runs_turned : (IsPlaying inputs (playing_at at) p.process → IsPlaying inputs (playing_at at) q) → (IsMastered sinks (playing_at at) p.process → IsMastered sinks (playing_at at) q) →
        Runs media inputs sinks at p → Runs media inputs sinks (turned p.edition.edits at) (turned_pair c q)
    runs_turned playing mastered runs = by_both (Runs media inputs sinks (turned p.edition.edits at)) c q butler process
        (runs_now answer turn runs (subst (IsPlaying inputs (playing_at at)) process (playing runs.playing)) (λ was. subst (IsMastered sinks (playing_at at)) process (mastered was)))

    -- and are tied to the state of the core machine after its letter
    pub as_machine_turned : PairTurnsAsMachine at.begun.session p answer (turned_pair c q)
    as_machine_turned = by_both (PairTurnsAsMachine at.begun.session p answer) c q butler process (as_machine_now answer turn)
