-- What is so of the process once all ends have met, by the newest edition: it has ended.
use Rattle.std.proofs.Common.{◌≡◌, ℕ, List, length, refl, sym, ap, subst, ◌∙◌, arith}
use Rattle.std.specs.Prelude.{false, reverse, slice_get, Some}
use Rattle.std.specs.Option.{option_map}
use Rattle.std.proofs.lemmas.List.{length-map}
use Rattle.std.proofs.lemmas.Option.{get_or_from_slice_get, slice_get-map, slice_get_within}
use mathlib.Core.List.{IsPrefix}
use base.Growing.{prefix_trans}
use Rattle.ses_io.specs.FixedList.{Listed}
use Rattle.ses_io.specs.Outside.{MediaOutside, SourceOutside, SinkOutside}
use Rattle.session_model.specs.declared.session.Session.{Session}
use Rattle.session_model.specs.declared.edit.Edit.{Edit}
use Rattle.engine_model.specs.Journal.{Entry}
use Rattle.machine_laws.proofs.Tracks.{also_there}
use Rattle.disk_ring.specs.Sender.{Sender}
use Rattle.piece_item.specs.declared.ack.Ack.{Ack}
use Rattle.piece_item.specs.declared.take_block.TakeBlock.{TakeBlock}
use Rattle.cycle_journal.specs.declared.entry.Entry as made
use Rattle.cycle_journal.specs.JournalView.{seen_entries}
use Rattle.edition_log.specs.EditionState.{EditionState as Edition, IsEditionOf}
use Rattle.input_blocks.specs.Rest.{rest_sound}
use Rattle.process_ends.specs.declared.ends.ProcessEnds.{ProcessEnds}
use Rattle.process_ends.specs.Ends.{AreOtherEnds, EndsMeet, shut, shut_ends}
use Rattle.process_cycle.specs.Captured.{Hears}
use Rattle.process_cycle.specs.ProcessState.{Playing, entries_of}
use Rattle.process_cycle.specs.Promised.{Promises}
use Rattle.process_cycle.proofs.PromiseLemmas.{promises_while_looking}
use Rattle.play_worker.specs.declared.playing.Played.{Played}
use Rattle.play_worker.specs.declared.worker.PlayWorker.{PlayWorker}
use Rattle.play_worker.specs.Leaves.{GivesBack}
use Rattle.play_worker.specs.Plays.{given_last}
use Rattle.route_lists.specs.Lists.{Reading}
use Rattle.serve_worker.specs.declared.worker.ServeWorker.{ServeWorker}
use Rattle.thread_start.specs.Ready.{AreReady}
use Rattle.worker_pair.specs.declared.ending.Ending.{Ending}
use Rattle.worker_pair.specs.declared.ending.Stopped.{Stopped}
use Rattle.worker_pair.proofs.MetLemmas.{play_met, take_met}
use Rattle.run_world.specs.declared.opened.Opened.{Opened}
use Rattle.run_end.specs.declared.failures.Failures.{Failures}
use Rattle.run_end.specs.declared.lists.RunLists.{RunLists}
use Rattle.run_end.specs.AtRest.{ProcessHasEnded, ProcessIsShut, SayTheSame}
use Rattle.run_end.specs.Beginning.{started_of}
use Rattle.run_end.specs.Depths.{HaveDepths}
use Rattle.run_end.specs.Started.{Started}
use Rattle.run_end.proofs.SameLemmas.{goes_on_all, hears_still, promises_still}
use Rattle.thread_run.specs.declared.beginning.Crew.{Crew}
use Rattle.thread_run.specs.declared.side_by_side.Joined.{Joined}
use Rattle.thread_run.specs.Beginning.{start_of}
use Rattle.thread_run.specs.Leaving.{Asked, HaveAllEnded, failures_left, is_hushed}
use Rattle.thread_run.specs.Met.{HaveMetAtLast}
use Rattle.thread_run.proofs.EndedLemmas as ended
use Rattle.thread_run.proofs.EndedLemmas.{at_end}
use Rattle.thread_run.proofs.MetLemmas as meeting

module _ {R M I C W O : Type 0} (media : MediaOutside M) (inputs : SourceOutside I) (source : SourceOutside C) (sinks : SinkOutside W) (sink : SinkOutside O) (on : Asked M I C W O) (j : Joined R M I C W O) (lists : RunLists)
    (all : HaveAllEnded media inputs source sinks sink on j lists) where
  abbrev o : Opened M I C W O
  o = on.opened

  abbrev s : Session
  s = o.edition.session

  abbrev start : Started M I W
  start = started_of media inputs sinks o

  abbrev crew : Crew R M I C W O
  crew = all.crew

  abbrev played : Played I W
  played = j.played

  abbrev w : ServeWorker M
  w = j.served.0

  abbrev last : PlayWorker I W
  last = all.played.leaves.last

  abbrev gives : GivesBack last played
  gives = all.played.leaves.gives

  abbrev ready : AreReady media inputs sinks (start_of o) crew.playing crew.serving crew.told crew.leading.lists crew.leading.link.granting crew.leading.link.hearing
  ready = all.begun.ready

  abbrev others : AreOtherEnds played.process.ends w.butler.ends
  others = ended.others media inputs source sinks sink on j lists all

  -- what the process was given, and these edits
  abbrev given : List Edit → Playing
  given = at_end media inputs source sinks sink on j lists all

  module _ (list : Edition) (ending : Ending M) (stopped : Stopped I W) (met : HaveMetAtLast list w.butler played.process j.led.acks ending stopped) where
    abbrev failed : Failures
    failed = failures_left played w.failed

    abbrev mid : ProcessEnds
    mid = record ending.ends { to_control = played.process.ends.to_control }

    module _ (of : IsEditionOf s list) (first : IsPrefix played.reader.edition.edits list.edits) (second : IsPrefix w.reader.edition.edits list.edits) (over : is_hushed j.served.1 ≡ false) where
      abbrev ours : ProcessEnds
      ours = last.process.ends

      meet : EndsMeet (shut_ends ours) w.butler.ends mid ending.butler.ends
      meet = subst (λ (e : ProcessEnds). EndsMeet e w.butler.ends mid ending.butler.ends) gives.ends met.met

      others_last : AreOtherEnds (shut_ends ours) w.butler.ends
      others_last = subst (λ (e : ProcessEnds). AreOtherEnds e w.butler.ends) gives.ends others

      many_takes : length ending.ends.takes.items ≡ length ours.takes.items
      many_takes = meet.takes.senders ∙ length-map ours.takes.items shut

      -- an end that puts blocks was closed and told
      take_shut : (t : ℕ) (k l : Sender TakeBlock) → slice_get ours.takes.items t ≡ Some k → slice_get ending.ends.takes.items t ≡ Some l → l ≡ record (shut k) { got = l.got }
      take_shut t k l here there = take_met (shut_ends ours) mid w.butler.ends ending.butler.ends others_last meet t (shut k) l (slice_get-map shut ours.takes.items t ∙ ap (option_map shut) here) there

      to_control : ending.ends.to_control ≡ record (shut ours.to_control) { got = ending.ends.to_control.got }
      to_control = told (played.process.ends.to_control) (shut ours.to_control) (ap (λ (e : ProcessEnds). e.to_control) gives.ends) met.control.sender
        where
          told : (a b : Sender Ack) → a ≡ b → ending.ends.to_control ≡ record a { got = length j.led.acks.received } → ending.ends.to_control ≡ record b { got = ending.ends.to_control.got }
          told a b is put = subst (λ z. ending.ends.to_control ≡ record z { got = ending.ends.to_control.got }) is
              (put ∙ ap (λ n. record a { got = n }) (sym (ap (λ (z : Sender Ack). z.got) put)))

      pub same : SayTheSame ours ending.ends
      same = record {
        many = meet.plays.receivers;
        plays = play_met (shut_ends ours) mid w.butler.ends ending.butler.ends others_last meet;
        many_takes = many_takes;
        takes = λ t k l here there. let is = take_shut t k l here there in (ap (λ (z : Sender TakeBlock). z.sent) is, ap (λ (z : Sender TakeBlock). z.heads) is);
        to_butler = (ap (λ (z : Sender Ack). z.sent) meet.acks.sender, ap (λ (z : Sender Ack). z.heads) meet.acks.sender);
        to_control = (ap (λ (z : Sender Ack). z.sent) to_control, ap (λ (z : Sender Ack). z.heads) to_control);
      }

      is_shut : ProcessIsShut ending.ends
      is_shut = record {
        takes = λ t l there. let k = also_there ending.ends.takes.items ours.takes.items t l many_takes there in ap (λ (z : Sender TakeBlock). z.closed) (take_shut t k.0 l k.1 there);
        to_control = ap (λ (z : Sender Ack). z.closed) to_control;
      }

      depths : HaveDepths s ending.ends
      depths = record {
        takes = λ t l there. let k = also_there ending.ends.takes.items ours.takes.items t l many_takes there in
            let f = also_there ours.takes.items crew.playing.process.ends.takes.items t k.0 all.played.leaves.keeps.rings.many_takes k.1 in
            ap (λ (z : Sender TakeBlock). z.depth) (take_shut t k.0 l k.1 there) ∙ (all.played.leaves.keeps.rings.takes t f.0 k.0 f.1 k.1).depth
            ∙ sym (ap (λ (z : Sender TakeBlock). z.depth) (get_or_from_slice_get crew.playing.process.ends.takes.items t f.0 f.0 f.1))
            ∙ (ready.ends_are.each_take t f.0 (omega (arith, slice_get_within crew.playing.process.ends.takes.items t f.0 f.1, ready.ends_are.takes))).depth;
        to_control = ap (λ (z : Sender Ack). z.depth) to_control ∙ all.played.leaves.keeps.rings.to_control.depth ∙ ready.ends_are.to_control.depth;
      }

      -- the entries, newest first
      abbrev entries : List Entry
      entries = entries_of last.process

      pub journal_is : stopped.journal ≡ last.process.journal
      journal_is = met.journal ∙ gives.journal

      -- the edits in which it looked last are the first of all
      pub begins : IsPrefix (given_last last) list.edits
      begins = prefix_trans (given_last last) last.reader.edition.edits list.edits all.played.leaves.rests.begins
          (subst (λ (r : Reading). IsPrefix r.edition.edits list.edits) gives.reader first)

      promises : Promises (given list.edits) entries ending.ends
      promises = promises_still (given list.edits) entries ours ending.ends same
          (promises_while_looking (given (given_last last)) list.edits entries ours ours begins (goes_on_all ours.plays.items) refl refl refl (ended.promises media inputs source sinks sink on j lists all))

      hears : Hears inputs.tells (rest_sound start.stream start.begun.start) s entries ending.ends.takes.items
      hears = hears_still inputs.tells (rest_sound start.stream start.begun.start) s entries ours ending.ends same (ended.hears media inputs source sinks sink on j lists all)

      -- **the process has ended**
      pub has_ended : ProcessHasEnded media inputs start ending stopped failed
      has_ended = record {
        last = meeting.last_turns media inputs source sinks sink on j lists all list ending stopped met of first second over;
        shut = is_shut;
        depths = depths;
        promises = subst (λ (e : Edition). Promises (given e.edits) (reverse (seen_entries stopped.journal.items)) ending.ends) (sym met.edition_is)
            (subst (λ (l : Listed made.Entry). Promises (given list.edits) (reverse (seen_entries l.items)) ending.ends) (sym journal_is) promises);
        hears = subst (λ (l : Listed made.Entry). Hears inputs.tells (rest_sound start.stream start.begun.start) s (reverse (seen_entries l.items)) ending.ends.takes.items) (sym journal_is) hears;
        control = meeting.control_met media inputs source sinks sink on j lists all list ending stopped met;
        room = omega (arith, ap (λ (l : Listed made.Entry). l.room) journal_is, all.played.leaves.rests.cycles);
      }
