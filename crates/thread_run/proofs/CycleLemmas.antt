-- How many cycles a play on threads has made, and what it took of its input.
use Rattle.std.proofs.Common.{◌≡◌, inl, inr, ℕ, suc, ◌-◌, ◌*◌, ◌<◌, ◌≤◌, List, length, refl, sym, ap, subst, ◌∙◌, arith}
use Rattle.std.specs.Prelude.{◌⊎◌, Bool, true, false, drop, min, reverse}
use Rattle.std.proofs.lemmas.Bool.{true≢false, false≢true, or_parts}
use Rattle.std.proofs.lemmas.List.{length-map, reverse-reverse}
use mathlib.Core.List.{IsPrefix}
use Rattle.sound_model.specs.Wav.{align}
use Rattle.ses_io.specs.Faults.{HasCause}
use Rattle.ses_io.specs.FixedList.{Listed}
use Rattle.ses_io.specs.Outside.{MediaOutside, SourceOutside, SinkOutside}
use Rattle.session_model.specs.declared.session.Session.{Session}
use Rattle.session_model.specs.declared.edit.Edit.{Edit}
use Rattle.engine_model.specs.Edits.{has_quit}
use Rattle.cycle_journal.specs.declared.entry.Entry as made
use Rattle.cycle_journal.specs.JournalView.{seen_entries, seen_entry}
use Rattle.edition_log.specs.EditionState.{EditionState as Edition, IsEditionOf}
use Rattle.input_blocks.specs.Rest.{StreamForm, stream_told}
use Rattle.input_blocks.specs.State.{InputState, IsReadTo, SoFar, bytes_due}
use Rattle.process_cycle.specs.declared.fault.CycleFault.TheVariants.{InputFault, MasterFault}
use Rattle.process_cycle.specs.CutOff.{IsCutAtHead, IsCutInCycle}
use Rattle.process_cycle.specs.ProcessState.{Playing, ProcessState, entries_of}
use Rattle.play_worker.specs.declared.worker.Ended.{Ended}
use Rattle.play_worker.specs.declared.worker.Ended.TheVariants.{All, Quit, Refused, Stopped}
use Rattle.play_worker.specs.declared.worker.PlayWorker.{PlayWorker}
use Rattle.play_worker.specs.Leaves.{FellShort, InputGives, IsWhy, MasterIsLeft, input_answered, is_cut, master_answered}
use Rattle.play_worker.specs.Plays.{at_now, given_last, made_by}
use Rattle.route_lists.specs.Lists.{Reading}
use Rattle.run_world.specs.declared.finished.Finished.{Finished}
use Rattle.run_end.specs.Failures.{IsFaultCount}
use Rattle.run_end.specs.Mastered.{InputGave, MakesItsCycles, after_blocks, bytes_due_after, bytes_due_next, left_behind}
use Rattle.run_end.proofs.CountedLemmas.{counted_err, counted_none, counted_ok}
use Rattle.control_desk.specs.State.{parts_of}
use Rattle.disk_ring.specs.Rings.{joined_of}
use Rattle.thread_run.specs.Leaving.{Asked, IsLeft, finished_of, input_failed, is_refused}
use Rattle.thread_run.proofs.EndedLemmas as ended
use Rattle.thread_run.proofs.EndedLemmas.{at_end}
use Rattle.thread_run.proofs.QuitLemmas.{quit_of}

-- ---- by why no further cycle was made

-- counts rose where a fault was answered
pub input_counted : (why : Ended) (before now : ℕ) → HasCause before now (input_answered why) → IsFaultCount before now (input_failed why)
input_counted All before now cause = counted_ok before before now false tt cause (counted_none before)
input_counted Quit before now cause = counted_ok before before now false tt cause (counted_none before)
input_counted Refused before now cause = counted_ok before before now false tt cause (counted_none before)
input_counted (Stopped InputFault) before now cause = counted_err before before now false InputFault cause (counted_none before)
input_counted (Stopped MasterFault) before now cause = counted_ok before before now false tt cause (counted_none before)

pub master_counted : (cut_off : Bool) (before now : ℕ) → HasCause before now (master_answered cut_off) → IsFaultCount before now cut_off
master_counted true before now cause = counted_err before before now false MasterFault cause (counted_none before)
master_counted false before now cause = counted_ok before before now false tt cause (counted_none before)

-- where no write failed before the end, none was cut off
is_whole : {I W : Type 0} (inputs : SourceOutside I) (sinks : SinkOutside W) (at : Playing) (cut cut_off : Bool) (p : ProcessState I W) → MasterIsLeft inputs sinks at cut cut_off p → cut_off ≡ false → cut ≡ false
is_whole inputs sinks at true cut_off p left fine = absurd (true≢false (sym left.0 ∙ fine))
is_whole inputs sinks at false cut_off p left fine = refl

module _ {I W : Type 0} (inputs : SourceOutside I) (w : PlayWorker I W) (s : Session) (edits : List Edit) (of : IsEditionOf s w.reader.edition) (begins : IsPrefix w.reader.edition.edits edits) where
  -- all were made, where nothing stopped it
  pub all_by : (why : Ended) → IsWhy why w → is_refused why ≡ false → input_failed why ≡ false → is_cut why ≡ false → has_quit edits (length edits) ≡ false → made_by w ≡ w.process.journal.room
  all_by All is free heard written unquit = is
  all_by Quit is free heard written unquit = absurd (true≢false (sym (quit_of s w.reader.edition edits of begins is) ∙ unquit))
  all_by Refused is free heard written unquit = absurd (true≢false free)
  all_by (Stopped InputFault) is free heard written unquit = absurd (true≢false heard)
  all_by (Stopped MasterFault) is free heard written unquit = absurd (true≢false written)

module _ {I W : Type 0} (inputs : SourceOutside I) (at : Playing) (p : ProcessState I W) where
  abbrev Read : ℕ → Type 0
  Read n = IsReadTo inputs (record { start = at.start; blocks = n }) p.input

  -- what was read of the input, by why
  pub read_by : (why : Ended) → InputGives inputs at why p → input_failed why ≡ false → is_cut why ≡ false → Read (length p.journal.items)
  read_by All is heard written = is
  read_by Quit is heard written = is
  read_by Refused is heard written = is
  read_by (Stopped InputFault) is heard written = absurd (true≢false heard)
  read_by (Stopped MasterFault) is heard written = absurd (true≢false written)

  pub fell_by : (why : Ended) → InputGives inputs at why p → input_failed why ≡ true → FellShort inputs at p
  fell_by (Stopped InputFault) is bad = is
  fell_by (Stopped MasterFault) is bad = absurd (false≢true bad)
  fell_by All is bad = absurd (false≢true bad)
  fell_by Quit is bad = absurd (false≢true bad)
  fell_by Refused is bad = absurd (false≢true bad)

  -- so much, or one block more, where a write of the master failed
  pub cut_by : (sinks : SinkOutside W) (why : Ended) (cut_off : Bool) → InputGives inputs at why p → MasterIsLeft inputs sinks at (is_cut why) cut_off p → input_failed why ≡ false →
      Read (length p.journal.items) ⊎ Read (suc (length p.journal.items))
  cut_by sinks (Stopped MasterFault) cut_off gives left heard = by left.1
    where
      by : IsCutAtHead inputs sinks at p ⊎ IsCutInCycle inputs sinks at p → Read (length p.journal.items) ⊎ Read (suc (length p.journal.items))
      by (inl c) = inl (subst Read (sym (ap length c.none)) c.read)
      by (inr c) = inr c.read
  cut_by sinks (Stopped InputFault) cut_off gives left heard = absurd (true≢false heard)
  cut_by sinks All cut_off gives left heard = inl gives
  cut_by sinks Quit cut_off gives left heard = inl gives
  cut_by sinks Refused cut_off gives left heard = inl gives

-- ---- what an input has left, as lists say it

module _ {I : Type 0} (inputs : SourceOutside I) (stream : StreamForm) (block : ℕ) (start : List ℕ) (n : ℕ) (x : InputState I) (stream_is : x.stream ≡ stream) (block_is : x.block ≡ block)
    (read : IsReadTo inputs (record { start = start; blocks = n }) x) where
  left_is : inputs.tells → inputs.left x.input ≡ left_behind stream block start n
  left_is tells = read.left tells ∙ ap (λ k. drop (k * align x.stream.form) start) read.done
      ∙ (λ i. drop (min (n * block_is i) (stream_is i).frames * align (stream_is i).form) start)

  due_is : bytes_due x ≡ bytes_due_next stream block n
  due_is = ap (λ k. min (x.stream.frames - k) x.block * align x.stream.form) read.done
      ∙ (λ i. min ((stream_is i).frames - min (n * block_is i) (stream_is i).frames) (block_is i) * align (stream_is i).form)

module _ {R M I C W O : Type 0} (media : MediaOutside M) (inputs : SourceOutside I) (source : SourceOutside C) (sinks : SinkOutside W) (sink : SinkOutside O) (on : Asked M I C W O) (f : Finished M I C W O)
    (x : IsLeft R media inputs source sinks sink on f) where
  abbrev pub now : Finished M I C W O
  now = finished_of x.ended (parts_of x.joined.led.control) (joined_of x.joined.led.grants x.joined.played.grants.from) x.memory

  abbrev w : PlayWorker I W
  w = x.all.played.leaves.last

  abbrev p : ProcessState I W
  p = w.process

  abbrev why : Ended
  why = x.joined.played.ended

  pub journal_is : x.ended.journal ≡ p.journal
  journal_is = x.given.journal ∙ x.met.journal ∙ x.all.played.leaves.gives.journal

  -- the entries that it made, the first one first
  pub entries_are : reverse (entries_of p) ≡ seen_entries x.ended.journal.items
  entries_are = reverse-reverse (seen_entries p.journal.items) ∙ sym (ap (λ (l : Listed made.Entry). seen_entries l.items) journal_is)

  pub input_is : x.ended.input ≡ p.input.input
  input_is = x.given.input ∙ x.met.input ∙ x.all.played.leaves.gives.input

  pub master_is : x.ended.master ≡ p.master.sink
  master_is = x.given.master ∙ x.met.master ∙ x.all.played.leaves.gives.master

  pub room_is : p.journal.room ≡ on.opened.cycles
  room_is = x.all.played.leaves.keeps.room ∙ x.all.begun.ready.cycles

  abbrev pub entries_made : ℕ
  entries_made = length (seen_entries x.ended.journal.items)

  pub many : length p.journal.items ≡ entries_made
  many = sym (ap (λ (j : Listed made.Entry). length j.items) journal_is) ∙ sym (length-map x.ended.journal.items seen_entry)

  pub most_made : entries_made ≤ on.opened.cycles
  most_made = omega (arith, x.few, many, ap (λ (j : Listed made.Entry). length j.items) journal_is, ap (λ (j : Listed made.Entry). j.room) journal_is, room_is)

  pub told_is : w.told ≡ x.all.crew.playing.told
  told_is = sym x.all.played.leaves.gives.told ∙ x.all.played.told

  pub edits_are : x.ended.edits.items ≡ x.edition.edits
  edits_are = x.given.edits ∙ ap (λ (e : Edition). e.edits) x.met.edition_is

  -- where memory was enough
  module _ (enough : x.memory ≡ false) where
    begins : IsPrefix w.reader.edition.edits x.edition.edits
    begins = subst (λ (r : Reading). IsPrefix r.edition.edits x.edition.edits) x.all.played.leaves.gives.reader (x.first (x.enough enough).1)

    pub all_made : has_quit x.ended.edits.items (length x.ended.edits.items) ≡ false → input_failed why ≡ false → is_cut why ≡ false → entries_made ≡ on.opened.cycles
    all_made unquit heard written = sym many ∙ all_by inputs w (at_now inputs sinks w).session x.edition.edits x.all.played.leaves.rests.reader_of.0 begins why x.all.played.leaves.why (x.enough enough).3 heard written
        (ap (λ l. has_quit l (length l)) (sym edits_are) ∙ unquit) ∙ room_is

    pub makes_its_cycles : MakesItsCycles on.opened now
    makes_its_cycles = record {
      most = most_made;
      all = λ unquit goes. let none = or_parts x.ended.failed.input x.ended.failed.master goes in
          all_made unquit (sym x.given.input_failed ∙ none.0) (is_whole inputs sinks (at_now inputs sinks w) (is_cut why) x.joined.played.cut_off p x.all.played.leaves.master (sym x.given.master_failed ∙ none.1));
    }

  -- ---- the input

  abbrev read_at : Playing
  read_at = at_end media inputs source sinks sink on x.joined x.lists x.all (given_last w)

  at_is : at_now inputs sinks w ≡ read_at
  at_is = ended.at_is media inputs source sinks sink on x.joined x.lists x.all

  stream_is : p.input.stream ≡ stream_told on.opened.form
  stream_is = x.all.played.leaves.keeps.stream ∙ x.all.begun.ready.stream

  block_is : p.input.block ≡ on.opened.edition.session.block
  block_is = x.all.played.leaves.keeps.block ∙ x.all.begun.ready.playing.playing.frames ∙ ap (λ (s : Session). s.block) x.all.begun.ready.session

  gives : InputGives inputs read_at why p
  gives = subst (λ z. InputGives inputs z why p) at_is x.all.played.leaves.input.gives

  left : MasterIsLeft inputs sinks read_at (is_cut why) x.joined.played.cut_off p
  left = subst (λ z. MasterIsLeft inputs sinks z (is_cut why) x.joined.played.cut_off p) at_is x.all.played.leaves.master

  abbrev so_far : ℕ → SoFar
  so_far n = record { start = inputs.left on.opened.world.input; blocks = n }

  left_after : (n : ℕ) → IsReadTo inputs (so_far n) p.input → inputs.tells → inputs.left x.ended.input ≡ after_blocks inputs on.opened n
  left_after n read tells = ap inputs.left input_is
      ∙ left_is inputs (stream_told on.opened.form) on.opened.edition.session.block (inputs.left on.opened.world.input) n p.input stream_is block_is read tells

  -- where a read of it failed
  module _ (bad : input_failed why ≡ true) where
    short : FellShort inputs read_at p
    short = fell_by inputs read_at p why gives bad

    read_before : IsReadTo inputs (so_far entries_made) short.before
    read_before = subst (λ n. IsReadTo inputs (so_far n) short.before) many short.read

    before_stream : short.before.stream ≡ stream_told on.opened.form
    before_stream = sym short.stream ∙ stream_is

    before_block : short.before.block ≡ on.opened.edition.session.block
    before_block = sym short.block ∙ block_is

    due : bytes_due short.before ≡ bytes_due_after on.opened entries_made
    due = due_is inputs (stream_told on.opened.form) on.opened.edition.session.block (inputs.left on.opened.world.input) entries_made short.before before_stream before_block read_before

    fell : inputs.tells → (n : ℕ) × (n < bytes_due_after on.opened entries_made) × (inputs.left x.ended.input ≡ drop n (after_blocks inputs on.opened entries_made))
    fell tells = let lost = short.lost.lost tells in (
      lost.0,
      subst (λ k. lost.0 < k) due lost.1,
      ap inputs.left input_is ∙ lost.2 ∙ ap (drop lost.0) (left_is inputs (stream_told on.opened.form) on.opened.edition.session.block (inputs.left on.opened.world.input) entries_made short.before before_stream
          before_block read_before tells),
    )

  either : Read inputs read_at p (length p.journal.items) ⊎ Read inputs read_at p (suc (length p.journal.items)) → inputs.tells →
      (inputs.left x.ended.input ≡ after_blocks inputs on.opened entries_made) ⊎ (inputs.left x.ended.input ≡ after_blocks inputs on.opened (suc entries_made))
  either (inl read) tells = inl (left_after entries_made (subst (λ n. IsReadTo inputs (so_far n) p.input) many read) tells)
  either (inr read) tells = inr (left_after (suc entries_made) (subst (λ n. IsReadTo inputs (so_far (suc n)) p.input) many read) tells)

  pub input_gave : InputGave inputs on.opened now
  input_gave = record {
    untouched = λ none. input_is ∙ x.all.played.leaves.input.untouched (ap (λ (z : StreamForm). z.frames) stream_is ∙ none) ∙ ap (λ t. t.input.value) told_is ∙ x.all.begun.ready.input;
    read = λ tells goes. let none = or_parts x.ended.failed.input x.ended.failed.master goes in
        left_after entries_made (subst (λ n. IsReadTo inputs (so_far n) p.input) many (read_by inputs read_at p why gives (sym x.given.input_failed ∙ none.0)
        (is_whole inputs sinks read_at (is_cut why) x.joined.played.cut_off p left (sym x.given.master_failed ∙ none.1)))) tells;
    asked = λ bad. let failed = sym x.given.input_failed ∙ bad in subst (λ k. 0 < k) (due failed) (short failed).lost.asked;
    fell = λ tells bad. fell (sym x.given.input_failed ∙ bad) tells;
    cut = λ tells fine bad. either (cut_by inputs read_at p sinks why x.joined.played.cut_off gives left (sym x.given.input_failed ∙ fine)) tells;
  }
