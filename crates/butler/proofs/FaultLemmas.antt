-- What a turn leaves of the media, and what its faults leave, for each way that it ends.
use Rattle.std.proofs.Common.{◌≡◌, ℕ, length, refl, sym, ap, ◌∙◌, subst, true, false}
use Rattle.std.specs.Prelude.{Bool, Result, Ok, Err, is_err}
use Rattle.ses_io.specs.Files.{Files}
use Rattle.ses_io.specs.Outside.{MediaOutside, OnlyReads}
use Rattle.edition_log.specs.EditionState.{EditionState as Edition}
use Rattle.audio_source.specs.Lines.{SourcesState}
use Rattle.audio_source.specs.declared.refusal.ReadFault.{ReadFault as ReadFailed}
use Rattle.capture_flush.specs.declared.fault.WriteFault.{WriteFault as WriteFailed}
use Rattle.capture_flush.specs.Flushed.{IsFlushed}
use Rattle.read_ahead.specs.Pass.{PassState}
use Rattle.read_ahead.specs.AllServes.{AllAtHand, total_sent}
use Rattle.capture_drain.specs.Drains.{total_received}
use Rattle.capture_drain.specs.Files.{tape_of}
use Rattle.butler.specs.declared.turning.Turn.{Turn}
use Rattle.butler.specs.declared.faults.ButlerFault.{ButlerFault}
use Rattle.butler.specs.declared.faults.ButlerFault.TheVariants.{ReadFault, WriteFault}
use Rattle.capture_drain.specs.Files.{NotesFault}
use Rattle.capture_drain.specs.State.{DrainState}
use Rattle.butler.specs.ButlerState.{ButlerState, Served, start_of}
use Rattle.butler.specs.Turns.{Receives, TakesAreKept, pass_of}
use Rattle.butler.specs.Faults.{Fails, KeepsRest, HasRisen}
use Rattle.butler.specs.Steps.{Accepts, EntersIn, Flushes, SendsOn}
use Rattle.butler.proofs.FlushedLemmas as flushed
use Rattle.butler.proofs.FlushedLemmas.{err_is_ok}

-- ---- a write failed: the turn ends before anything is sent

module _ {V : Type 0} (outside : MediaOutside V) (at : Served) (e : Edition) (most : ℕ) (b c d f : ButlerState V) (accepts : Accepts b c) (enters : EntersIn e c d) (fault : WriteFailed)
    (flushes : Flushes outside (start_of at) most d (Err fault) f) where
  abbrev cut : Result Turn ButlerFault
  cut = Err WriteFault

  pub cut_takes : outside.tells → TakesAreKept at (outside.files b.media) (outside.files f.media) b f
  cut_takes told was = flushed.given outside at e most b c d f accepts enters (Err fault) flushes told was

  pub cut_fails : Fails outside b cut f
  cut_fails = let before = flushed.media_before outside at e most b c d f accepts enters (Err fault) flushes in let cause = flushes.media.cause in record {
    hushed = flushed.reads_after outside at e most b c d f accepts enters (Err fault) flushes;
    write_failed = flushes.flag;
    reads = flushed.read_faults outside at e most b c d f accepts enters (Err fault) flushes;
    writes = subst (λ (m : V). HasRisen (outside.write_faults m) (outside.write_faults f.media)) before (record { later = cause.later; rose = cause.rose });
    no_more_sent = λ was. flushed.sends_after outside at e most b c d f accepts enters (Err fault) flushes;
    noted = flushed.noted outside at e most b c d f accepts enters (Err fault) flushes;
    read_once = λ was. (refl, flushed.sources_after outside at e most b c d f accepts enters (Err fault) flushes, flushed.media_stands outside at e most b c d f accepts enters (Err fault) flushes);
  }

  pub cut_rest : KeepsRest outside at.session e b f
  cut_rest = record {
    sources = ap (λ (s : SourcesState). s.opened) (flushed.sources_after outside at e most b c d f accepts enters (Err fault) flushes);
    cycles = flushed.cycles_after outside at e most b c d f accepts enters (Err fault) flushes;
    others = flushed.others_stand outside at e most b c d f accepts enters (Err fault) flushes;
    same = λ none. let stands = flushed.media_stands outside at e most b c d f accepts enters (Err fault) flushes none in record { files = ap outside.files stands; other_count = ap outside.write_faults stands };
    quiet = λ again ahead none. (flushed.sources_after outside at e most b c d f accepts enters (Err fault) flushes, flushed.media_stands outside at e most b c d f accepts enters (Err fault) flushes);
  }

-- ---- so many blocks were flushed, and then items were sent

module _ {V : Type 0} (outside : MediaOutside V) (at : Served) (e : Edition) (most n limit : ℕ) (b c d f g : ButlerState V) (accepts : Accepts b c) (enters : EntersIn e c d)
    (flushes : Flushes outside (start_of at) most d (Ok n) f) (result : Result ℕ ReadFailed) (sends : SendsOn outside e limit f result g) where
  takes_as : g.ends.takes ≡ f.ends.takes
  takes_as = ap (λ z. z.ends.takes) sends.same

  drain_as : g.drain ≡ f.drain
  drain_as = ap (λ z. z.drain) sends.same

  writes_as : g.write_failed ≡ b.write_failed
  writes_as = ap (λ z. z.write_failed) sends.same ∙ (flushed.counted outside at e most n b c d f accepts enters flushes).2

  before : f.hushed ≡ b.hushed
  before = flushed.reads_after outside at e most b c d f accepts enters (Ok n) flushes

  pub receives : Receives b g
  receives = let had = flushed.received outside at e most b c d f accepts enters (Ok n) flushes in
      subst (λ (z : ButlerState V). Receives b z) (sym sends.same) (record { acks = had.acks; takes = had.takes })

  -- the files hold the blocks that were received
  pub kept : outside.tells → IsFlushed (tape_of (start_of at) b.ends.takes.items) b.drain.files (outside.files b.media) →
      IsFlushed (tape_of (start_of at) g.ends.takes.items) g.drain.files (outside.files g.media)
  kept told was = subst (λ (fs : Files). IsFlushed (tape_of (start_of at) g.ends.takes.items) g.drain.files fs) (sym sends.read.only_reads.files)
      (subst (λ (z : ButlerState V). IsFlushed (tape_of (start_of at) z.ends.takes.items) z.drain.files (outside.files f.media)) (sym sends.same)
      (flushed.given outside at e most b c d f accepts enters (Ok n) flushes told was))

  noted : NotesFault false b.drain.files g.drain.files
  noted = subst (λ (x : DrainState). NotesFault false b.drain.files x.files) (sym drain_as) (flushed.noted outside at e most b c d f accepts enters (Ok n) flushes)

  no_more_sent : b.hushed ≡ true → g.ends.sends ≡ b.ends.sends
  no_more_sent was = ap (λ z. z.ends.sends) (sends.quiet (before ∙ was)).0 ∙ flushed.sends_after outside at e most b c d f accepts enters (Ok n) flushes

  writes_stand : outside.write_faults g.media ≡ outside.write_faults b.media
  writes_stand = sends.read.only_reads.other_count ∙ flushes.media.cause.kept ∙ ap outside.write_faults (flushed.media_before outside at e most b c d f accepts enters (Ok n) flushes)

  hushed_by : (failed : Bool) → b.hushed ≡ failed → (x : ℕ) → result ≡ Ok x → g.hushed ≡ b.hushed
  hushed_by true was x same = ap (λ z. z.hushed) (sends.quiet (before ∙ was)).0 ∙ before
  hushed_by false was x same = (sends.busy (before ∙ was)).1 ∙ ap is_err same ∙ sym was

  has_failed : (failed : Bool) → b.hushed ≡ failed → is_err result ≡ true → g.hushed ≡ true
  has_failed true was err = err_is_ok (g.hushed ≡ true) result 0 err (sends.quiet (before ∙ was)).1
  has_failed false was err = (sends.busy (before ∙ was)).1 ∙ err

  total_as : total_received g.ends.takes.items ≡ total_received f.ends.takes.items
  total_as = ap (λ z. total_received z.items) takes_as

  only_reads : total_received g.ends.takes.items ≡ total_received b.ends.takes.items → OnlyReads outside b.media g.media
  only_reads none = let stands = flushed.media_stands outside at e most b c d f accepts enters (Ok n) flushes (sym total_as ∙ none) in
      record { files = sends.read.only_reads.files ∙ ap outside.files stands; other_count = sends.read.only_reads.other_count ∙ ap outside.write_faults stands }

  pass_as : pass_of e g ≡ pass_of e f
  pass_as = ap (pass_of e) sends.same

  reads_nothing : b.entered ≡ length e.edits → AllAtHand (pass_of e g) b.supplies → total_sent g.ends.sends.items ≡ total_sent b.ends.sends.items →
      (g.sources ≡ b.sources) × (total_received g.ends.takes.items ≡ total_received b.ends.takes.items → g.media ≡ b.media)
  reads_nothing again ahead none =
      let had : f.supplies ≡ b.supplies = flushed.supplies_after outside at e most b c d f accepts enters (Ok n) flushes ∙ enters.again (ap (λ z. z.entered) accepts.same ∙ again) ∙ ap (λ z. z.supplies) accepts.same in
      let ready : AllAtHand (pass_of e f) f.supplies = subst (AllAtHand (pass_of e f)) (sym had) (subst (λ (p : PassState). AllAtHand p b.supplies) pass_as ahead) in
      let nothing = sends.at_hand ready (none ∙ ap (λ z. total_sent z.items) (sym (flushed.sends_after outside at e most b c d f accepts enters (Ok n) flushes))) in (
        nothing.1 ∙ flushed.sources_after outside at e most b c d f accepts enters (Ok n) flushes,
        λ flushed_none. nothing.0 ∙ flushed.media_stands outside at e most b c d f accepts enters (Ok n) flushes (sym total_as ∙ flushed_none),
      )

  read_once : b.hushed ≡ true → (g.sources ≡ b.sources) × (total_received g.ends.takes.items ≡ total_received b.ends.takes.items → g.media ≡ b.media)
  read_once was = let quiet = sends.quiet (before ∙ was) in (
    ap (λ z. z.sources) quiet.0 ∙ flushed.sources_after outside at e most b c d f accepts enters (Ok n) flushes,
    λ none. ap (λ z. z.media) quiet.0 ∙ flushed.media_stands outside at e most b c d f accepts enters (Ok n) flushes (sym total_as ∙ none),
  )

  pub rest : KeepsRest outside at.session e b g
  rest = record {
    sources = sends.read.opened ∙ ap (λ (s : SourcesState). s.opened) (flushed.sources_after outside at e most b c d f accepts enters (Ok n) flushes);
    cycles = ap (λ z. z.cycles) sends.same ∙ flushed.cycles_after outside at e most b c d f accepts enters (Ok n) flushes;
    others = λ told q other. ap (λ (fs : Files). fs q) sends.read.only_reads.files ∙ flushed.others_stand outside at e most b c d f accepts enters (Ok n) flushes told q other;
    same = only_reads;
    quiet = reads_nothing;
  }

-- ---- no read failed

module _ {V : Type 0} (outside : MediaOutside V) (at : Served) (e : Edition) (most n limit m : ℕ) (b c d f g : ButlerState V) (accepts : Accepts b c) (enters : EntersIn e c d)
    (flushes : Flushes outside (start_of at) most d (Ok n) f) (sends : SendsOn outside e limit f (Ok m) g) where
  pub none_fails : (turn : Turn) → Fails outside b (Ok turn) g
  none_fails turn = record {
    hushed = hushed_by outside at e most n limit b c d f g accepts enters flushes (Ok m) sends b.hushed refl m refl;
    write_failed = writes_as outside at e most n limit b c d f g accepts enters flushes (Ok m) sends;
    reads = sends.read.cause.kept ∙ flushed.read_faults outside at e most b c d f accepts enters (Ok n) flushes;
    writes = writes_stand outside at e most n limit b c d f g accepts enters flushes (Ok m) sends;
    no_more_sent = no_more_sent outside at e most n limit b c d f g accepts enters flushes (Ok m) sends;
    noted = noted outside at e most n limit b c d f g accepts enters flushes (Ok m) sends;
    read_once = λ was. let once = read_once outside at e most n limit b c d f g accepts enters flushes (Ok m) sends was in (refl, once.0, once.1);
  }

-- ---- a read failed

module _ {V : Type 0} (outside : MediaOutside V) (at : Served) (e : Edition) (most n limit : ℕ) (fault : ReadFailed) (b c d f g : ButlerState V) (accepts : Accepts b c) (enters : EntersIn e c d)
    (flushes : Flushes outside (start_of at) most d (Ok n) f) (sends : SendsOn outside e limit f (Err fault) g) where
  pub read_fails : Fails outside b (Err ReadFault) g
  read_fails = let cause = sends.read.cause in record {
    hushed = has_failed outside at e most n limit b c d f g accepts enters flushes (Err fault) sends b.hushed refl refl;
    write_failed = writes_as outside at e most n limit b c d f g accepts enters flushes (Err fault) sends;
    reads = subst (λ (k : ℕ). HasRisen k (outside.read_faults g.media)) (flushed.read_faults outside at e most b c d f accepts enters (Ok n) flushes) (record { later = cause.later; rose = cause.rose });
    writes = writes_stand outside at e most n limit b c d f g accepts enters flushes (Err fault) sends;
    no_more_sent = no_more_sent outside at e most n limit b c d f g accepts enters flushes (Err fault) sends;
    noted = noted outside at e most n limit b c d f g accepts enters flushes (Err fault) sends;
    read_once = λ was. let quiet = sends.quiet (before outside at e most n limit b c d f g accepts enters flushes (Err fault) sends ∙ was) in
        err_is_ok _ (Err fault) 0 refl quiet.1;
  }
