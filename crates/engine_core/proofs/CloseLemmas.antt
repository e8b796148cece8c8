-- What ending the process leaves: its ends are closed and say the same, and it keeps its promises over all edits.
use Rattle.std.proofs.Common.{◌≡◌, ℕ, List, [], length, refl, sym, ap, subst, ◌∙◌, arith}
use Rattle.std.specs.Prelude.{reverse, take, drop, slice_get, Some}
use Rattle.std.specs.Option.{option_map}
use Rattle.std.proofs.lemmas.List.{length-map, take-append-drop}
use Rattle.std.proofs.lemmas.Option.{slice_get-map}
use Rattle.ses_io.specs.FixedList.{Listed}
use Rattle.ses_io.specs.Outside.{MediaOutside, SourceOutside, SinkOutside}
use Rattle.engine_model.specs.Journal.{Entry}
use Rattle.machine_laws.proofs.Tracks.{also_there}
use Rattle.disk_ring.specs.Sender.{Sender}
use Rattle.disk_ring.specs.Receiver.{Receiver}
use Rattle.piece_item.specs.declared.ack.Ack.{Ack}
use Rattle.piece_item.specs.declared.take_block.TakeBlock.{TakeBlock}
use Rattle.cycle_journal.specs.declared.entry.Entry as made
use Rattle.cycle_journal.specs.JournalView.{seen_entries}
use Rattle.input_blocks.specs.Rest.{rest_sound}
use Rattle.edition_log.specs.EditionState.{EditionState as Edition}
use Rattle.butler.specs.ButlerState.{ButlerState}
use Rattle.process_ends.specs.declared.ends.ProcessEnds.{ProcessEnds}
use Rattle.process_ends.specs.Ends.{AreOtherEnds, shut, shut_ends}
use Rattle.process_cycle.specs.Captured.{Hears}
use Rattle.process_cycle.specs.ProcessState.{entries_of}
use Rattle.process_cycle.specs.Promised.{Promises}
use Rattle.process_cycle.proofs.PromiseLemmas.{promises_while_looking}
use Rattle.worker_pair.specs.declared.ending.Ending.{Ending}
use Rattle.worker_pair.specs.declared.ending.Stopped.{Stopped}
use Rattle.worker_pair.specs.Begun.{playing_at}
use Rattle.worker_pair.specs.Closes.{Closes}
use Rattle.worker_pair.specs.Runs.{HearsInput, Rests, Serves}
use Rattle.worker_pair.proofs.CloseLemmas.{others_shut}
use Rattle.worker_pair.proofs.MetLemmas.{play_met, take_met}
use Rattle.worker_pair.proofs.NowLemmas.{serves_as}
use Rattle.run_end.specs.AtRest.{ProcessHasEnded, ProcessIsShut, SayTheSame}
use Rattle.run_end.specs.Depths.{HaveDepths}
use Rattle.run_end.specs.Failures.{IsFaultCount}
use Rattle.run_end.specs.LastTurns.{TakesLastTurns, at_last}
use Rattle.run_end.specs.Started.{Started}
use Rattle.run_end.proofs.SameLemmas.{goes_on_all, hears_still, promises_still}
use Rattle.engine_core.specs.declared.run.Run.{Run}
use Rattle.engine_core.specs.Now.{AreCounted, now_of}
use Rattle.engine_core.specs.UnderWay.{IsInputOf}

-- The workers rest, and all that failed is noted.
pub record MayClose {V I W : Type 0} (media : MediaOutside V) (inputs : SourceOutside I) (sinks : SinkOutside W) (on : Started V I W) (r : Run V I W) : Type 0 where
  pub rests : Rests media (now_of on r) r.pair
  pub counts : AreCounted media inputs sinks on r
  pub opened : r.pair.butler.sources.opened ≡ on.opened
  pub depths : HaveDepths on.begun.session r.pair.process.ends
  pub hears : HearsInput inputs (now_of on r) r.pair
  pub input : IsInputOf on r.pair.process.input

module _ {V I W : Type 0} (media : MediaOutside V) (inputs : SourceOutside I) (sinks : SinkOutside W) (on : Started V I W) (run : Run V I W) (may : MayClose media inputs sinks on run) (first : Ending V)
    (stopped : Stopped I W) (closes : Closes run.pair first stopped) where
  -- its ends, and those that they were before they met
  abbrev ours : ProcessEnds
  ours = run.pair.process.ends

  abbrev closed_ends : ProcessEnds
  closed_ends = record first.ends { to_control = shut ours.to_control }

  others : AreOtherEnds (shut_ends ours) run.pair.butler.ends
  others = others_shut ours run.pair.butler.ends may.rests.serves.others

  many_takes : length first.ends.takes.items ≡ length ours.takes.items
  many_takes = closes.met.takes.senders ∙ length-map ours.takes.items shut

  -- an end that puts blocks was closed and told
  take_shut : (t : ℕ) (k l : Sender TakeBlock) → slice_get ours.takes.items t ≡ Some k → slice_get first.ends.takes.items t ≡ Some l → l ≡ record (shut k) { got = l.got }
  take_shut t k l here there = take_met (shut_ends ours) closed_ends run.pair.butler.ends first.butler.ends others closes.met t (shut k) l (slice_get-map shut ours.takes.items t ∙ ap (option_map shut) here) there

  first_same : SayTheSame ours first.ends
  first_same = record {
    many = closes.met.plays.receivers;
    plays = play_met (shut_ends ours) closed_ends run.pair.butler.ends first.butler.ends others closes.met;
    many_takes = many_takes;
    takes = λ t k l here there. let is = take_shut t k l here there in (ap (λ (z : Sender TakeBlock). z.sent) is, ap (λ (z : Sender TakeBlock). z.heads) is);
    to_butler = (ap (λ (z : Sender Ack). z.sent) closes.met.acks.sender, ap (λ (z : Sender Ack). z.heads) closes.met.acks.sender);
    to_control = (ap (λ (z : Sender Ack). z.sent) closes.control.sender, ap (λ (z : Sender Ack). z.heads) closes.control.sender);
  }

  first_shut : ProcessIsShut first.ends
  first_shut = record {
    takes = λ t l there. let k = also_there first.ends.takes.items ours.takes.items t l many_takes there in ap (λ (z : Sender TakeBlock). z.closed) (take_shut t k.0 l k.1 there);
    to_control = ap (λ (z : Sender Ack). z.closed) closes.control.sender;
  }

  first_depths : HaveDepths on.begun.session first.ends
  first_depths = record {
    takes = λ t l there. let k = also_there first.ends.takes.items ours.takes.items t l many_takes there in
        ap (λ (z : Sender TakeBlock). z.depth) (take_shut t k.0 l k.1 there) ∙ may.depths.takes t k.0 k.1;
    to_control = ap (λ (z : Sender Ack). z.depth) closes.control.sender ∙ may.depths.to_control;
  }

  -- the butler may take its last turns
  last_begins : Serves media (now_of on run) first → TakesLastTurns media on first run.failed
  last_begins serves = record {
    serves = serves_as media (now_of on run) (at_last on.begun first) first refl
        (ap (λ (b : ButlerState V). take b.entered first.edition.edits) closes.butler ∙ ap (λ (e : Edition). take run.pair.butler.entered e.edits) closes.edition) serves;
    opened = ap (λ (b : ButlerState V). b.sources.opened) closes.butler ∙ may.opened;
    reads = subst (λ (b : ButlerState V). IsFaultCount (media.read_faults on.media) (media.read_faults b.media) run.failed.read) (sym closes.butler) may.counts.reads;
    writes = subst (λ (b : ButlerState V). IsFaultCount (media.write_faults on.media) (media.write_faults b.media) run.failed.write) (sym closes.butler) may.counts.writes;
    butler_reads = ap (λ (b : ButlerState V). b.hushed) closes.butler ∙ may.counts.butler_reads;
    butler_writes = ap (λ (b : ButlerState V). b.write_failed) closes.butler ∙ may.counts.butler_writes;
  }

  -- the entries, newest first
  abbrev entries : List Entry
  entries = entries_of run.pair.process

  -- the promises, over all edits
  promises_now : Promises (playing_at (at_last on.begun first)) entries first.ends
  promises_now = let p = run.pair in
      subst (λ es. Promises (record { session = on.begun.session; edits = es; start = on.begun.start; before = on.begun.before }) entries first.ends) (ap (λ (z : Edition). z.edits) (sym closes.edition))
      (promises_still (record { session = on.begun.session; edits = p.edition.edits; start = on.begun.start; before = on.begun.before }) entries ours first.ends first_same
      (promises_while_looking (playing_at (now_of on run)) p.edition.edits entries ours ours
      (drop p.process.entered p.edition.edits, take-append-drop p.process.entered p.edition.edits) (goes_on_all ours.plays.items) refl refl refl may.rests.promises))

  -- what was heard, of the stream that was told of
  hears_now : Hears inputs.tells (rest_sound on.stream on.begun.start) on.begun.session entries first.ends.takes.items
  hears_now = hears_still inputs.tells (rest_sound on.stream on.begun.start) on.begun.session entries ours first.ends first_same
      (subst (λ form. Hears inputs.tells (rest_sound form on.begun.start) on.begun.session entries ours.takes.items) may.input.stream may.hears)

  -- **the process has ended**
  pub has_ended : Serves media (now_of on run) first → ProcessHasEnded media inputs on first stopped run.failed
  has_ended serves = record {
    last = last_begins serves;
    shut = first_shut;
    depths = first_depths;
    promises = subst (λ (j : Listed made.Entry). Promises (playing_at (at_last on.begun first)) (reverse (seen_entries j.items)) first.ends) (sym closes.journal) promises_now;
    hears = subst (λ (j : Listed made.Entry). Hears inputs.tells (rest_sound on.stream on.begun.start) on.begun.session (reverse (seen_entries j.items)) first.ends.takes.items) (sym closes.journal) hears_now;
    control = ap (λ (z : Receiver Ack). z.ring) closes.control.receiver ∙ may.rests.control.ring ∙ sym (ap (λ (z : Sender Ack). z.ring) closes.control.sender);
    room = omega (arith, ap (λ (j : Listed made.Entry). j.room) closes.journal, may.rests.asked, may.rests.serves.serving.cycles);
  }

  -- and control took nothing
  pub none_taken : stopped.acks.received ≡ []
  none_taken = ap (λ (z : Receiver Ack). z.received) closes.control.receiver ∙ may.rests.control.none_taken
