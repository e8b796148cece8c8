-- Each piece that wasn't there was looked for with patience, by the rings that a play leaves.
use Rattle.std.proofs.Common.{◌≡◌, ℕ, zero, suc, List, [], ◌∷◌, ◌++◌, length, refl, sym, ap, subst, ◌∙◌, append-nil}
use Rattle.std.specs.Prelude.{Bool, true, false, map, reverse, slice_get, Some}
use Rattle.std.proofs.lemmas.List.{map-append, reverse-append, reverse-reverse}
use Rattle.std.proofs.lemmas.Option.{same_Some}
use mathlib.Core.List.{IsPrefix}
use Rattle.ses_io.specs.Outside.{MediaOutside, SourceOutside, SinkOutside}
use Rattle.session_model.specs.declared.session.Session.{Session}
use Rattle.session_model.specs.declared.edit.Edit.{Edit}
use Rattle.engine_model.specs.Items as engine
use Rattle.engine_model.specs.Items.{Kind}
use Rattle.engine_model.specs.Truth.{looked, misses}
use Rattle.engine_model.specs.Waited.{are_waited}
use Rattle.machine_laws.proofs.MadeFacts.{made_low}
use Rattle.machine_laws.proofs.Tracks.{also_there}
use Rattle.cycle_grants.proofs.WaitedLemmas.{waited_for_stands}
use Rattle.cycle_journal.specs.JournalView.{seen_entries}
use Rattle.disk_ring.specs.Receiver.{Receiver}
use Rattle.piece_item.specs.declared.item.Item.{Item}
use Rattle.piece_item.specs.Views.{item_of, kind_of}
use Rattle.read_ahead.specs.Items.{kinds}
use Rattle.track_playback.specs.SpareBoxes.{received_kinds}
use Rattle.process_cycle.specs.Promised.{Promises}
use Rattle.process_cycle.specs.ProcessState.{entries_of}
use Rattle.play_worker.specs.declared.worker.PlayWorker.{PlayWorker}
use Rattle.play_worker.specs.Patient.{AllOpen, IsPatient}
use Rattle.play_worker.specs.Plays.{at_now, given_last}
use Rattle.run_rings.specs.declared.joining.TrackRings.{TrackRings}
use Rattle.worker_pair.specs.declared.ending.Ending.{Ending}
use Rattle.worker_pair.specs.Begun.{Begun}
use Rattle.worker_pair.proofs.TurnLemmas.{others_turned}
use Rattle.run_world.specs.declared.finished.Finished.{Finished}
use Rattle.run_end.specs.declared.failures.Failures.{Failures}
use Rattle.run_end.specs.AtRest.{SayTheSame}
use Rattle.run_end.specs.LastTurns.{IsLastTurn, TurnsTo, at_last}
use Rattle.run_end.proofs.JoinLemmas.{Joints, joints}
use Rattle.run_end.proofs.LastTurnLemmas.{told_met}
use Rattle.run_end.proofs.SameLemmas.{same_on, told_same}
use Rattle.thread_run.specs.Leaving.{Asked, IsLeft}
use Rattle.thread_run.specs.Playing.{NoneHasEnded, WaitsForItsPieces}
use Rattle.thread_run.proofs.CycleLemmas as cycles
use Rattle.thread_run.proofs.EndedLemmas as ended
use Rattle.thread_run.proofs.MasterLemmas as master

-- ---- the last turns leave what the process received and looked for

module _ {V : Type 0} (media : MediaOutside V) (begun : Begun) where
  one_turn : (idle : Bool) (old : Ending V) (was : Failures) (new : Ending V) (now : Failures) → IsLastTurn media begun idle old was new now → SayTheSame old.ends new.ends
  one_turn idle old was new now t = told_same old.ends new.ends (told_met old.ends new.ends t.turns.butler.ends new.butler.ends
      (others_turned media (at_last begun old) old t.answer t.turns.butler t.serves t.turns.turn) t.turns.met)

  turns_say : (busy : ℕ) (old : Ending V) (was : Failures) (new : Ending V) (now : Failures) → TurnsTo media begun busy old was new now → SayTheSame old.ends new.ends
  turns_say zero old was new now t = one_turn true old was new now t
  turns_say (suc n) old was new now t = same_on old.ends t.0.ends new.ends (one_turn false old was t.0 t.1 t.2) (turns_say n t.0 t.1 new now t.3)

-- the kinds of items, the newest first
turned_kinds : (items : List Item) → map (λ (i : engine.Item). i.kind) (reverse (map item_of items)) ≡ reverse (kinds items)
turned_kinds [] = refl
turned_kinds (x ∷ xs) = ap (map (λ (i : engine.Item). i.kind)) (reverse-append (item_of x ∷ []) (map item_of xs))
    ∙ map-append (λ (i : engine.Item). i.kind) (reverse (map item_of xs)) (item_of x ∷ []) ∙ ap (λ l. l ++ kind_of x.kind ∷ []) (turned_kinds xs)
    ∙ sym (reverse-append (kind_of x.kind ∷ []) (kinds xs))

module _ {R M I C W O : Type 0} (media : MediaOutside M) (inputs : SourceOutside I) (source : SourceOutside C) (sinks : SinkOutside W) (sink : SinkOutside O) (on : Asked M I C W O) (f : Finished M I C W O)
    (x : IsLeft R media inputs source sinks sink on f) (enough : x.memory ≡ false) where
  abbrev s : Session
  s = on.opened.edition.session

  abbrev w : PlayWorker I W
  w = x.all.played.leaves.last

  abbrev last : Ending M
  last = (master.end media inputs source sinks sink on f x enough).turns.last

  -- the process's rings, as they are left
  says : SayTheSame w.process.ends last.ends
  says = let end = master.end media inputs source sinks sink on f x enough in same_on w.process.ends x.ending.ends last.ends (master.same media inputs source sinks sink on f x enough)
      (turns_say media (master.start media inputs source sinks sink on f x enough).begun end.turns.turned.busy x.ending _ last end.turns.noted end.turns.turned.to)

  -- the end that takes pieces of a track, of the ring that is left
  record Takes (t : ℕ) (r : TrackRings) : Type 0 where
    was : Receiver Item
    there : slice_get w.process.ends.plays.items t ≡ Some was
    received : r.plays.received ≡ was.received
    tails : r.plays.tails ≡ was.tails
    ended : r.plays.ended ≡ was.ended

  takes_at : (t : ℕ) (r : TrackRings) → slice_get x.ended.rings.items t ≡ Some r → Takes t r
  takes_at t r here = by (joints last.butler.ends.sends.items last.ends.plays.items last.ends.takes.items last.butler.ends.takes.items t r
      (subst (λ l. slice_get l t ≡ Some r) (master.end media inputs source sinks sink on f x enough).turns.rings here))
    where
      by : Joints last.butler.ends.sends.items last.ends.plays.items last.ends.takes.items last.butler.ends.takes.items t r → Takes t r
      by j = let y = also_there last.ends.plays.items w.process.ends.plays.items t j.play says.many j.play_at in let is = says.plays t y.0 j.play y.1 j.play_at in record {
        was = y.0;
        there = y.1;
        received = ap (λ (z : TrackRings). z.plays.received) j.is ∙ ap (λ (z : Receiver Item). z.received) is;
        tails = ap (λ (z : TrackRings). z.plays.tails) j.is ∙ ap (λ (z : Receiver Item). z.tails) is;
        ended = ap (λ (z : TrackRings). z.plays.ended) j.is ∙ ap (λ (z : Receiver Item). z.ended) is;
      }

  -- each of its rings is left
  many : length w.process.ends.plays.items ≡ length x.ended.rings.items
  many = let end = master.end media inputs source sinks sink on f x enough in let serves = (master.has_ended media inputs source sinks sink on f x enough).last.serves in
      sym (master.same media inputs source sinks sink on f x enough).many ∙ serves.others.plays.count ∙ serves.serving.sends ∙ sym end.rings.passed.many

  -- none of its ends was answered Closed
  all_open : NoneHasEnded x.ended.rings.items → AllOpen w.process.ends.plays.items
  all_open none t y there = let r = also_there w.process.ends.plays.items x.ended.rings.items t y many there in let takes = takes_at t r.0 r.1 in
      let same : takes.was ≡ y = same_Some takes.was y (sym takes.there ∙ there) in
      sym (ap (λ (z : Receiver Item). z.ended) same) ∙ sym takes.ended ∙ none t r.0 r.1

  -- **each was looked for**
  pub waits : WaitsForItsPieces on.patience s x.ended.edits.items (seen_entries x.ended.journal.items) x.ended.rings.items
  waits none t r here = let takes = takes_at t r here in let end = master.end media inputs source sinks sink on f x enough in let begins = (end.rings.passed.each t r here).items.begins in
      waited t r.plays.sent r.plays.tails takes.was takes.there takes.tails begins.0 (ap (λ l. l ++ begins.0) (sym takes.received) ∙ begins.1) none
    where
      edits : List Edit
      edits = given_last w

      at_is : at_now inputs sinks w ≡ ended.at_end media inputs source sinks sink on x.joined x.lists x.all edits
      at_is = ended.at_is media inputs source sinks sink on x.joined x.lists x.all

      promises : Promises (ended.at_end media inputs source sinks sink on x.joined x.lists x.all edits) (entries_of w.process) w.process.ends
      promises = ended.promises media inputs source sinks sink on x.joined x.lists x.all

      patient : IsPatient on.patience (ended.at_end media inputs source sinks sink on x.joined x.lists x.all edits) w.process
      patient = subst (λ z. IsPatient on.patience z w.process) at_is x.all.played.leaves.rests.patient

      more : IsPrefix edits x.edition.edits
      more = master.begins media inputs source sinks sink on f x enough

      all_edits : edits ++ more.0 ≡ x.ended.edits.items
      all_edits = more.1 ∙ sym (cycles.edits_are media inputs source sinks sink on f x)

      waited : (t : ℕ) (sent : List Item) (tails : List ℕ) (y : Receiver Item) → slice_get w.process.ends.plays.items t ≡ Some y → tails ≡ y.tails → (rest : List Item) → y.received ++ rest ≡ sent → NoneHasEnded x.ended.rings.items →
          are_waited on.patience (looked s.depth (kinds sent) (misses x.ended.edits.items t (seen_entries x.ended.journal.items))) tails ≡ true
      waited t sent tails y there tails_are rest all none =
          subst (λ l. are_waited on.patience (looked s.depth (kinds sent) (misses x.ended.edits.items t (seen_entries x.ended.journal.items))) l ≡ true) (append-nil y.tails ∙ sym tails_are)
          (subst (λ l. are_waited on.patience (looked s.depth (kinds sent) (misses x.ended.edits.items t l)) (y.tails ++ []) ≡ true) (cycles.entries_are media inputs source sinks sink on f x)
          (subst (λ l. are_waited on.patience (looked s.depth (kinds sent) (misses l t (reverse (entries_of w.process)))) (y.tails ++ []) ≡ true) all_edits
          (subst (λ l. are_waited on.patience (looked s.depth l (misses (edits ++ more.0) t (reverse (entries_of w.process)))) (y.tails ++ []) ≡ true) sent_are
          (waited_for_stands on.patience edits more.0 s.depth t (received_kinds y) (reverse (kinds rest)) y.tails [] (entries_of w.process)
          (made_low s edits (length edits) (map received_kinds w.process.ends.plays.items) (entries_of w.process) promises.made) (promises.looks t y there).within
          (patient (all_open none) t y there)))))
        where
          sent_are : reverse (reverse (kinds rest) ++ received_kinds y) ≡ kinds sent
          sent_are = ap (λ l. reverse (reverse (kinds rest) ++ l)) (turned_kinds y.received) ∙ reverse-append (reverse (kinds rest)) (reverse (kinds y.received))
              ∙ ap (λ l. l ++ reverse (reverse (kinds rest))) (reverse-reverse (kinds y.received)) ∙ ap (λ l. kinds y.received ++ l) (reverse-reverse (kinds rest))
              ∙ sym (map-append (λ i. kind_of i.kind) y.received rest) ∙ ap kinds all
