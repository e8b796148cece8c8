-- What is so of process and butler once their threads have ended.
use Rattle.std.proofs.Common.{◌≡◌, ℕ, ◌≤◌, List, length, sym, ap, subst, ◌∙◌, arith}
use Rattle.std.specs.Prelude.{Bool, true, false, map, reverse, slice_get, slice_index_or, drop, take, is_none, Some, None, Option}
use Rattle.std.specs.Option.{option_map}
use Rattle.std.proofs.lemmas.Bool.{true≢false, false≢true}
use Rattle.std.proofs.lemmas.List.{take-append-drop, take-append-le}
use mathlib.Core.List.{IsPrefix}
use Rattle.ses_io.specs.Outside.{MediaOutside, SourceOutside, SinkOutside}
use Rattle.session_model.specs.declared.session.Session.{Session}
use Rattle.session_model.specs.declared.edit.Edit.{Edit}
use Rattle.disk_ring.specs.Rings.{Joined as Ring}
use Rattle.edition_log.specs.EditionState.{IsEditionOf}
use Rattle.input_blocks.specs.Rest.{rest_sound}
use Rattle.butler.specs.Faults.{Counts}
use Rattle.control_desk.specs.declared.parts.ControlParts.{ControlParts}
use Rattle.process_ends.specs.declared.ends.ProcessEnds.{ProcessEnds}
use Rattle.process_ends.specs.Ends.{AreOtherEnds}
use Rattle.process_cycle.specs.Captured.{Hears}
use Rattle.process_cycle.specs.ProcessState.{Playing, entries_of, sound_of}
use Rattle.process_cycle.specs.Promised.{Promises}
use Rattle.play_worker.specs.declared.playing.Played.{Played}
use Rattle.play_worker.specs.declared.told.Told.{Told}
use Rattle.play_worker.specs.declared.worker.PlayWorker.{PlayWorker}
use Rattle.play_worker.specs.Leaves.{GivesBack}
use Rattle.play_worker.specs.Plays.{at_now, given_last}
use Rattle.serve_worker.specs.declared.serving.ServeEnd.{ServeEnd}
use Rattle.serve_worker.specs.declared.serving.ServeEnd.TheVariants as serve
use Rattle.serve_worker.specs.declared.told.ServeTold.{ServeTold}
use Rattle.serve_worker.specs.declared.worker.ServeWorker.{ServeWorker}
use Rattle.serve_worker.specs.Ends.{ServeLeaves}
use Rattle.serve_worker.specs.Serves.{IsServingAs, ServedFrom, ServesAlone, entered_last, served_from}
use Rattle.thread_start.specs.Ready.{AreReady}
use Rattle.worker_pair.proofs.CloseLemmas.{others_shut}
use Rattle.run_world.specs.declared.opened.Opened.{Opened}
use Rattle.run_world.specs.declared.opened.Script.{Script}
use Rattle.run_world.specs.declared.finished.Finished.{Finished}
use Rattle.run_world.specs.declared.finished.Grant.{Grant}
use Rattle.run_end.specs.declared.lists.RunLists.{RunLists}
use Rattle.run_end.specs.declared.parting.RunEnd.{RunEnd}
use Rattle.run_end.specs.Beginning.{started_of}
use Rattle.run_end.specs.Failures.{IsFaultCount}
use Rattle.run_end.specs.Started.{Started}
use Rattle.thread_run.specs.declared.beginning.Crew.{Crew}
use Rattle.thread_run.specs.declared.side_by_side.Joined.{Joined}
use Rattle.thread_run.specs.Beginning.{start_of}
use Rattle.thread_run.specs.Leaving.{Asked, HaveAllEnded, finished_of, is_hushed}
use Rattle.thread_run.proofs.RingLemmas.{others_kept}

-- the first of a list's edits are those of a longer one
pub taken_of : (n : ℕ) (xs ys : List Edit) → IsPrefix xs ys → n ≤ length xs → take n ys ≡ take n xs
taken_of n xs ys more within = ap (take n) (sym more.1) ∙ take-append-le n xs more.0 within

pub taken_first : (n : ℕ) (xs : List Edit) → IsPrefix (take n xs) xs
taken_first n xs = (drop n xs, take-append-drop n xs)

-- a count that rose where it is answered, or stands
pub counted : (before now : ℕ) (rose : Bool) → Counts rose before now → IsFaultCount before now rose
counted before now true c = record { later = c.later; kept = λ e. absurd (true≢false e); raised = λ e. c.rose }
counted before now false c = record { later = omega (arith, c); kept = λ e. c; raised = λ e. absurd (false≢true e) }

-- what is left, of parts that are these
pub finished_as : {M I C W O : Type 0} (e : RunEnd M I W) (p q : ControlParts C O) (r t : Ring Grant) (memory : Bool) (f : Finished M I C W O) → f ≡ finished_of e p r memory → p ≡ q → r ≡ t → f ≡ finished_of e q t memory
finished_as e p q r t memory f is parts ring = subst (λ z. f ≡ finished_of e q z memory) ring (subst (λ z. f ≡ finished_of e z r memory) parts is)

-- what is so of a butler whose thread has ended, and whether a read has failed
pub record HasServedSo {V : Type 0} (media : MediaOutside V) (told : ServeTold V) (w : ServeWorker V) : Type 0 where
  pub read_failed : Bool
  pub serves : IsServingAs media read_failed (served_from media told (entered_last w)) w

pub served_so : {V : Type 0} (media : MediaOutside V) (told : ServeTold V) (most : ℕ) (end : ServeEnd) (w : ServeWorker V) → ServeLeaves media told most end w → HasServedSo media told w
served_so media told most serve.Over w leaves = record { read_failed = w.butler.hushed; serves = leaves.0 }
served_so media told most serve.Refused w leaves = record { read_failed = leaves.out.flushes.read_failed; serves = leaves.out.flushes.serves }

pub over_served : {V : Type 0} (media : MediaOutside V) (told : ServeTold V) (most : ℕ) (end : ServeEnd) (w : ServeWorker V) → is_hushed end ≡ false → ServeLeaves media told most end w → ServesAlone media told w
over_served media told most serve.Over w over leaves = leaves.0
over_served media told most serve.Refused w over leaves = absurd (true≢false over)

module _ {R M I C W O : Type 0} (media : MediaOutside M) (inputs : SourceOutside I) (source : SourceOutside C) (sinks : SinkOutside W) (sink : SinkOutside O) (on : Asked M I C W O) (j : Joined R M I C W O) (lists : RunLists)
    (all : HaveAllEnded media inputs source sinks sink on j lists) where
  abbrev pub o : Opened M I C W O
  o = on.opened

  abbrev pub s : Session
  s = o.edition.session

  abbrev pub start : Started M I W
  start = started_of media inputs sinks o

  abbrev pub crew : Crew R M I C W O
  crew = all.crew

  abbrev pub ready : AreReady media inputs sinks (start_of o) crew.playing crew.serving crew.told crew.leading.lists crew.leading.link.granting crew.leading.link.hearing
  ready = all.begun.ready

  -- the process at its end, what it gave back, and the butler
  abbrev pub last : PlayWorker I W
  last = all.played.leaves.last

  abbrev pub played : Played I W
  played = j.played

  abbrev pub gives : GivesBack last played
  gives = all.played.leaves.gives

  abbrev pub w : ServeWorker M
  w = j.served.0

  -- tracks may be recorded
  pub records : start.begun.records ≡ true
  records = ap (λ (z : Option Script). is_none z) all.reads

  -- ---- what they were told

  last_told : last.told ≡ crew.playing.told
  last_told = sym gives.told ∙ all.played.told

  -- what the process was given, and the edits in which it looked last
  abbrev pub at_end : List Edit → Playing
  at_end edits = record { session = s; edits = edits; start = start.begun.start; before = start.begun.before }

  pub at_is : at_now inputs sinks last ≡ at_end (given_last last)
  at_is = ap by last_told ∙ ap (λ z. from z crew.playing.told.input.value crew.playing.told.sink.value) ready.session ∙ ap (λ i. from s i crew.playing.told.sink.value) ready.input
      ∙ ap (λ m. from s o.world.input m) ready.master
    where
      from : Session → I → W → Playing
      from z i m = record { session = z; edits = given_last last; start = inputs.left i; before = sinks.held m }

      by : Told I W → Playing
      by told = from told.session.value told.input.value told.sink.value

  -- what the butler was given
  abbrev pub served_on : List Edit → ServedFrom
  served_on edits = record { at = record { session = s; held = media.files o.world.media; edits = edits }; read_faults = media.read_faults o.world.media; write_faults = media.write_faults o.world.media }

  pub served_is : (edits : List Edit) → served_from media crew.told edits ≡ served_on edits
  served_is edits = ap (λ z. from z crew.told.media.value) ready.served ∙ ap (λ m. from s m) ready.media_is
    where
      from : Session → M → ServedFrom
      from z m = record { at = record { session = z; held = media.files m; edits = edits }; read_faults = media.read_faults m; write_faults = media.write_faults m }

  -- ---- their ends

  pub others : AreOtherEnds played.process.ends w.butler.ends
  others = subst (λ (e : ProcessEnds). AreOtherEnds e w.butler.ends) (sym gives.ends) (others_shut last.process.ends w.butler.ends
      (others_kept crew.playing.process.ends last.process.ends crew.serving.butler.ends w.butler.ends ready.others all.played.leaves.keeps.rings all.served.keeps.ends))

  pub control_other : j.led.acks.ring ≡ played.process.ends.to_control.ring
  control_other = all.led.acks.ring ∙ ready.acks_ring ∙ sym all.played.leaves.keeps.rings.to_control.ring ∙ sym (ap (λ (e : ProcessEnds). e.to_control.ring) gives.ends)

  pub grants_other : played.grants.from.ring ≡ j.led.grants.ring
  grants_other = all.played.grants.ring ∙ ap (λ r. r.ring) ready.grants_are.ring.receiver ∙ sym all.led.grants.ring

  -- the list is that of an edition of the session
  pub list_of : IsEditionOf s j.led.lists.edition
  list_of = subst (λ z. IsEditionOf z j.led.lists.edition) ready.served all.led.leaves.edition_of

  -- ---- the butler

  abbrev pub so : HasServedSo media crew.told w
  so = served_so media crew.told 8 j.served.1 w all.served.leaves

  -- by what was opened
  abbrev pub serves : IsServingAs media so.read_failed (served_on (entered_last w)) w
  serves = subst (λ z. IsServingAs media so.read_failed z w) (served_is (entered_last w)) so.serves

  -- ---- the process

  pub stream_is : last.process.input.stream ≡ start.stream
  stream_is = all.played.leaves.keeps.stream ∙ ready.stream

  -- by what was opened, and the edits in which it looked last
  pub promises : Promises (at_end (given_last last)) (entries_of last.process) last.process.ends
  promises = subst (λ z. Promises z (entries_of last.process) last.process.ends) at_is all.played.leaves.rests.promises

  pub hears : Hears inputs.tells (rest_sound start.stream start.begun.start) s (entries_of last.process) last.process.ends.takes.items
  hears = subst (λ form. Hears inputs.tells (rest_sound form start.begun.start) s (entries_of last.process) last.process.ends.takes.items) stream_is
      (subst (λ (z : Playing). Hears inputs.tells (sound_of z last.process) z.session (entries_of last.process) last.process.ends.takes.items) at_is all.played.leaves.rests.hears)
