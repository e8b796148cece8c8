-- What the last turns of the butler keep, one after another.
use Rattle.std.proofs.Common.{◌≡◌, List, length, take, refl, sym, ap, subst, ◌∙◌, arith}
use Rattle.std.specs.Prelude.{true, Result, Ok, Err}
use Rattle.std.proofs.lemmas.Bool.{false≢true}
use Rattle.std.proofs.lemmas.List.{take_all}
use Rattle.std.proofs.lemmas.Option.{same_Some}
use mathlib.Core.List.{IsPrefix}
use Rattle.ses_io.specs.Outside.{MediaOutside}
use Rattle.machine_laws.proofs.Tracks.{also_there}
use Rattle.disk_ring.specs.Sender.{Sender}
use Rattle.disk_ring.specs.Receiver.{Receiver}
use Rattle.disk_ring.proofs.Beginnings.{begins_length, whole}
use Rattle.piece_item.specs.declared.ack.Ack.{Ack}
use Rattle.piece_item.specs.declared.item.Item.{Item}
use Rattle.piece_item.specs.declared.take_block.TakeBlock.{TakeBlock}
use Rattle.piece_item.specs.declared.butler_ends.ButlerEnds.{ButlerEnds}
use Rattle.capture_drain.specs.Drains.{AreDrained}
use Rattle.butler.specs.declared.turning.Turn.{Turn}
use Rattle.butler.specs.declared.turning.Turn.TheVariants.{Moved, Idle}
use Rattle.butler.specs.declared.faults.ButlerFault.{ButlerFault}
use Rattle.butler.specs.declared.faults.ButlerFault.TheVariants.{ReadFault, WriteFault}
use Rattle.butler.specs.ButlerState.{ButlerState}
use Rattle.process_ends.specs.declared.ends.ProcessEnds.{ProcessEnds}
use Rattle.process_ends.specs.Ends.{AreOtherEnds, EndsMeet}
use Rattle.worker_pair.specs.declared.ending.Ending.{Ending}
use Rattle.worker_pair.specs.Begun.{At, turned}
use Rattle.worker_pair.specs.Runs.{Serves}
use Rattle.worker_pair.specs.Steps.{Turns, is_idle_answer}
use Rattle.worker_pair.proofs.MetLemmas.{flush_met, play_met, sender_told, take_met}
use Rattle.worker_pair.proofs.NowLemmas.{serves_as}
use Rattle.worker_pair.proofs.TurnLemmas.{others_turned}
use Rattle.run_end.specs.declared.failures.Failures.{Failures}
use Rattle.run_end.specs.Failures.{IsFaultCount, after_turn}
use Rattle.run_end.specs.Started.{Started}
use Rattle.run_end.proofs.FaultLemmas.{reads_on, writes_on, read_known, write_known}
use Rattle.run_end.specs.LastTurns.{AllReceived, AreToldMore, LeavesAllElse, TakesLastTurns, at_last}

-- ---- the process's ends are told more

told_itself : (ends : ProcessEnds) → AreToldMore ends ends
told_itself ends = record {
  many = refl;
  plays = λ t r q here there. same_play r q (same_Some r q (sym here ∙ there));
  many_takes = refl;
  takes = λ t k l here there. same_take k l (same_Some k l (sym here ∙ there));
  to_butler = refl;
  to_control = refl;
}
  where
    same_play : (r q : Receiver Item) → r ≡ q → q ≡ record r { heard = q.heard; over = q.over }
    same_play r q e = sym e ∙ ap (λ (z : Receiver Item). record r { heard = z.heard; over = z.over }) e

    same_take : (k l : Sender TakeBlock) → k ≡ l → l ≡ record k { got = l.got }
    same_take k l e = sym e ∙ ap (λ (z : Sender TakeBlock). record k { got = z.got }) e

told_on : (a b c : ProcessEnds) → AreToldMore a b → AreToldMore b c → AreToldMore a c
told_on a b c one two = record {
  many = two.many ∙ one.many;
  plays = λ t r q here there. let mid = also_there a.plays.items b.plays.items t r (sym one.many) here in
      two.plays t mid.0 q mid.1 there ∙ ap (λ (z : Receiver Item). record z { heard = q.heard; over = q.over }) (one.plays t r mid.0 here mid.1);
  many_takes = two.many_takes ∙ one.many_takes;
  takes = λ t k l here there. let mid = also_there a.takes.items b.takes.items t k (sym one.many_takes) here in
      two.takes t mid.0 l mid.1 there ∙ ap (λ (z : Sender TakeBlock). record z { got = l.got }) (one.takes t k mid.0 here mid.1);
  to_butler = two.to_butler ∙ ap (λ (z : Sender Ack). record z { got = c.to_butler.got }) one.to_butler;
  to_control = two.to_control ∙ one.to_control;
}

-- by a meeting
pub told_met : (ours ours_now : ProcessEnds) (theirs theirs_now : ButlerEnds) → AreOtherEnds ours theirs → EndsMeet ours theirs ours_now theirs_now → AreToldMore ours ours_now
told_met ours ours_now theirs theirs_now others meet = record {
  many = meet.plays.receivers;
  plays = play_met ours ours_now theirs theirs_now others meet;
  many_takes = meet.takes.senders;
  takes = take_met ours ours_now theirs theirs_now others meet;
  to_butler = sender_told ours.to_butler ours_now.to_butler theirs.acks theirs_now.acks meet.acks;
  to_control = meet.to_control;
}

-- ---- what has failed

-- a turn notes only faults of the media,
failed_on : (answer : Result Turn ButlerFault) (was mid : Failures) → mid ≡ record was { read = mid.read; write = mid.write } →
    after_turn answer mid ≡ record was { read = (after_turn answer mid).read; write = (after_turn answer mid).write }
failed_on (Ok t) was mid same = same
failed_on (Err ReadFault) was mid same = ap (λ (f : Failures). record f { read = true }) same
failed_on (Err WriteFault) was mid same = ap (λ (f : Failures). record f { write = true }) same

-- and what had failed has failed
read_still : (answer : Result Turn ButlerFault) (f : Failures) → f.read ≡ true → (after_turn answer f).read ≡ true
read_still (Ok t) f was = was
read_still (Err ReadFault) f was = refl
read_still (Err WriteFault) f was = was

write_still : (answer : Result Turn ButlerFault) (f : Failures) → f.write ≡ true → (after_turn answer f).write ≡ true
write_still (Ok t) f was = was
write_still (Err ReadFault) f was = was
write_still (Err WriteFault) f was = refl

-- ---- one turn after another

-- nothing was done yet
pub alone_itself : {V : Type 0} (e : Ending V) (f : Failures) → LeavesAllElse e f e f
alone_itself e f = record { edition = refl; cycles = refl; ends = told_itself e.ends; failed = refl; read_still = λ was. was; write_still = λ was. was }

module _ {V I W : Type 0} (media : MediaOutside V) (on : Started V I W) (old : Ending V) (was : Failures) (new : Ending V) (answer : Result Turn ButlerFault) (last : TakesLastTurns media on old was)
    (serves : Serves media (turned old.edition.edits (at_last on.begun old)) new) (turns : Turns media (at_last on.begun old) old answer new) (failed : Failures) (noted : failed ≡ after_turn answer was) where
  -- the butler is that of the turn, but for its ends
  butler_is : new.butler ≡ record turns.butler { ends = new.butler.ends }
  butler_is = ap (λ (e : Ending V). e.butler) turns.same

  -- the edition stands
  same_edition : new.edition ≡ old.edition
  same_edition = ap (λ (e : Ending V). e.edition) turns.same

  -- the ends are of the same rings before the meeting
  others : AreOtherEnds old.ends turns.butler.ends
  others = others_turned media (at_last on.begun old) old answer turns.butler last.serves turns.turn

  -- all edits were entered
  pub entered_now : new.butler.entered ≡ length new.edition.edits
  entered_now = serves.serving.entered ∙ ap (λ z. length z.edits) (sym same_edition)

  served_now : take new.butler.entered new.edition.edits ≡ old.edition.edits
  served_now = take_all new.butler.entered new.edition.edits (omega (arith, entered_now)) ∙ ap (λ z. z.edits) same_edition

  -- the butler takes its last turns still
  pub last_on : TakesLastTurns media on new failed
  last_on = subst (TakesLastTurns media on new) (sym noted) (record {
    serves = serves_as media (turned old.edition.edits (at_last on.begun old)) (at_last on.begun new) new refl served_now serves;
    opened = ap (λ (b : ButlerState V). b.sources.opened) butler_is ∙ turns.turn.rest.sources ∙ last.opened;
    reads = subst (λ (b : ButlerState V). IsFaultCount (media.read_faults on.media) (media.read_faults b.media) (after_turn answer was).read) (sym butler_is)
        (reads_on answer was (media.read_faults on.media) (media.read_faults old.butler.media) (media.read_faults turns.butler.media) turns.turn.fails.reads last.reads);
    writes = subst (λ (b : ButlerState V). IsFaultCount (media.write_faults on.media) (media.write_faults b.media) (after_turn answer was).write) (sym butler_is)
        (writes_on answer was (media.write_faults on.media) (media.write_faults old.butler.media) (media.write_faults turns.butler.media) turns.turn.fails.writes last.writes);
    butler_reads = read_known answer was old.butler.hushed new.butler.hushed (ap (λ (b : ButlerState V). b.hushed) butler_is ∙ turns.turn.fails.hushed) last.butler_reads;
    butler_writes = write_known answer was old.butler.write_failed new.butler.write_failed (ap (λ (b : ButlerState V). b.write_failed) butler_is ∙ turns.turn.fails.write_failed) last.butler_writes;
  })

  -- and leaves alone what it left
  pub alone_on : (first : Ending V) (none : Failures) → LeavesAllElse first none old was → LeavesAllElse first none new failed
  alone_on first none alone = subst (LeavesAllElse first none new) (sym noted) (record {
    edition = same_edition ∙ alone.edition;
    cycles = ap (λ (b : ButlerState V). b.cycles) butler_is ∙ turns.turn.rest.cycles ∙ alone.cycles;
    ends = told_on first.ends old.ends new.ends alone.ends (told_met old.ends new.ends turns.butler.ends new.butler.ends others turns.met);
    failed = failed_on answer none was alone.failed;
    read_still = λ failed. read_still answer was (alone.read_still failed);
    write_still = λ failed. write_still answer was (alone.write_still failed);
  })

-- ---- an Idle turn

-- one list begins the other and the other way round
pub same_begins : {X : Type 0} (xs ys : List X) → IsPrefix xs ys → IsPrefix ys xs → xs ≡ ys
same_begins xs ys one two = whole xs ys one (omega (arith, begins_length xs ys one, begins_length ys xs two))

module _ {V : Type 0} (media : MediaOutside V) (at : At) (old : Ending V) (serves : Serves media at old) (new : Ending V) where
  -- it found each capture ring taken to its end
  ring_received : (turns : Turns media at old (Ok Idle) new) → AreDrained old.butler.ends.takes.items turns.butler.ends.takes.items → (now : At) → Serves media now new → AllReceived new
  ring_received turns drained now serves_now t k f hk hf =
      let others = others_turned media at old (Ok Idle) turns.butler serves turns.turn in
      let was = also_there new.ends.takes.items old.ends.takes.items t k turns.met.takes.senders hk in
      let mid = also_there new.butler.ends.takes.items turns.butler.ends.takes.items t f turns.met.takes.receivers hf in
      let from = also_there turns.butler.ends.takes.items old.butler.ends.takes.items t mid.0 turns.turn.receives.takes.many mid.1 in
      let told : IsPrefix from.0.heard mid.0.received = (drained t from.0 mid.0 from.1 mid.1).told in
      let put : k.sent ≡ from.0.heard = ap (λ (z : Sender TakeBlock). z.sent) (take_met old.ends new.ends turns.butler.ends new.butler.ends others turns.met t was.0 k was.1 hk)
      ∙ sym (serves.met.takes t was.0 from.0 was.1 from.1).heard in
      let got : f.received ≡ mid.0.received = ap (λ (z : Receiver TakeBlock). z.received) (flush_met old.ends new.ends turns.butler.ends new.butler.ends others turns.met t mid.0 f mid.1 hf) in
      same_begins f.received k.sent (serves_now.met.takes t k f hk hf).passed.begins
      (subst (λ l. IsPrefix l f.received) (sym put) (subst (IsPrefix from.0.heard) (sym got) told))

  -- after an Idle turn all has been
  pub received_last : (answer : Result Turn ButlerFault) → is_idle_answer answer ≡ true → (turns : Turns media at old answer new) → (now : At) → Serves media now new → AllReceived new
  received_last (Ok (Moved n)) idle turns now serves_now = absurd (false≢true idle)
  received_last (Err fault) idle turns now serves_now = absurd (false≢true idle)
  received_last (Ok Idle) idle turns now serves_now = ring_received turns (turns.turn.answers.flushed (omega arith)) now serves_now
