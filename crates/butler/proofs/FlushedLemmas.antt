-- What flushing comes to in a turn, and what the steps of a turn leave as it was.
use Rattle.std.proofs.Common.{◌≡◌, ℕ, ◌+◌, ◌<◌, ◌≤◌, List, sym, ap, ◌∙◌, subst, true, true≢false}
use Rattle.std.specs.Prelude.{Result, Ok, is_err, IfErr}
use Rattle.ses_io.specs.Outside.{MediaOutside}
use Rattle.edition_log.specs.EditionState.{EditionState as Edition}
use Rattle.capture_flush.specs.declared.fault.WriteFault.{WriteFault as WriteFailed}
use Rattle.capture_flush.specs.Flushed.{IsFlushed}
use Rattle.capture_flush.specs.Taking.{Taking}
use Rattle.disk_ring.specs.Receiver.{Receiver}
use Rattle.piece_item.specs.declared.ack.Ack.{Ack}
use Rattle.piece_item.specs.declared.take_block.TakeBlock.{TakeBlock}
use Rattle.capture_drain.specs.Drains.{HaveStopped, IsDrained, AllDrain, AreDrained, total_received}
use Rattle.capture_drain.specs.Files.{tape_of, NotesFault, OtherFilesStand}
use Rattle.butler.specs.ButlerState.{ButlerState, Served, start_of}
use Rattle.butler.specs.Turns.{Receives, HasFlushed}
use Rattle.butler.specs.Steps.{Accepts, EntersIn, Flushes}

pub err_is_ok : {T E : Type 0} (P : Type 0) (r : Result T E) (x : T) → is_err r ≡ true → r ≡ Ok x → P
err_is_ok P r x failed same = absurd (true≢false (sym failed ∙ ap is_err same))

module _ {V : Type 0} (outside : MediaOutside V) (at : Served) (e : Edition) (most : ℕ) (b c d f : ButlerState V) (accepts : Accepts b c) (enters : EntersIn e c d) (failed : Result ℕ WriteFailed)
    (flushes : Flushes outside (start_of at) most d failed f) where
  -- ---- what stands until blocks are flushed, and after

  pub takes_before : d.ends.takes ≡ b.ends.takes
  takes_before = ap (λ z. z.ends.takes) enters.same ∙ ap (λ z. z.ends.takes) accepts.same

  drain_before : d.drain ≡ b.drain
  drain_before = ap (λ z. z.drain) enters.same ∙ ap (λ z. z.drain) accepts.same

  pub media_before : d.media ≡ b.media
  media_before = ap (λ z. z.media) enters.same ∙ ap (λ z. z.media) accepts.same

  pub writes_before : d.write_failed ≡ b.write_failed
  writes_before = ap (λ z. z.write_failed) enters.same ∙ ap (λ z. z.write_failed) accepts.same

  pub acks_after : f.ends.acks ≡ c.ends.acks
  acks_after = ap (λ z. z.ends.acks) flushes.same ∙ ap (λ z. z.ends.acks) enters.same

  pub sends_after : f.ends.sends ≡ b.ends.sends
  sends_after = ap (λ z. z.ends.sends) flushes.same ∙ ap (λ z. z.ends.sends) enters.same ∙ ap (λ z. z.ends.sends) accepts.same

  pub reads_after : f.hushed ≡ b.hushed
  reads_after = ap (λ z. z.hushed) flushes.same ∙ ap (λ z. z.hushed) enters.same ∙ ap (λ z. z.hushed) accepts.same

  pub sources_after : f.sources ≡ b.sources
  sources_after = ap (λ z. z.sources) flushes.same ∙ ap (λ z. z.sources) enters.same ∙ ap (λ z. z.sources) accepts.same

  pub cycles_after : f.cycles ≡ b.cycles
  cycles_after = ap (λ z. z.cycles) flushes.same ∙ ap (λ z. z.cycles) enters.same ∙ ap (λ z. z.cycles) accepts.same

  pub supplies_after : f.supplies ≡ d.supplies
  supplies_after = ap (λ z. z.supplies) flushes.same

  -- ---- what was received

  pub received : Receives b f
  received = record {
    acks = subst (λ (r : Receiver Ack). IsDrained b.ends.acks r) (sym acks_after) accepts.acks;
    takes = subst (λ (rs : List (Receiver TakeBlock)). AllDrain rs f.ends.takes.items) (ap (λ z. z.items) takes_before) flushes.rings;
  }

  pub given : outside.tells → IsFlushed (tape_of (start_of at) b.ends.takes.items) b.drain.files (outside.files b.media) →
      IsFlushed (tape_of (start_of at) f.ends.takes.items) f.drain.files (outside.files f.media)
  given told was = flushes.given told (subst (λ (m : V). IsFlushed (tape_of (start_of at) d.ends.takes.items) d.drain.files (outside.files m)) (sym media_before)
      (subst (λ (x : Taking). IsFlushed (tape_of (start_of at) d.ends.takes.items) x (outside.files b.media)) (sym (ap (λ z. z.files) drain_before))
      (subst (λ (rs : List (Receiver TakeBlock)). IsFlushed (tape_of (start_of at) rs) b.drain.files (outside.files b.media)) (sym (ap (λ z. z.items) takes_before)) was)))

  -- where nothing was received the media stands
  pub media_stands : total_received f.ends.takes.items ≡ total_received b.ends.takes.items → f.media ≡ b.media
  media_stands none = flushes.media.same (none ∙ ap (λ z. total_received z.items) (sym takes_before)) ∙ media_before

  pub others_stand : outside.tells → OtherFilesStand at.session (outside.files b.media) (outside.files f.media)
  others_stand told q other = flushes.media.others told q other ∙ ap (λ m. outside.files m q) media_before

  pub read_faults : outside.read_faults f.media ≡ outside.read_faults b.media
  read_faults = flushes.media.reads ∙ ap outside.read_faults media_before

  -- where a write fails some block was received, and no more than asked
  pub broken : IfErr failed (λ fault. HaveStopped most b.ends.takes.items f.ends.takes.items)
  broken = subst (λ (rs : List (Receiver TakeBlock)). IfErr failed (λ fault. HaveStopped most rs f.ends.takes.items)) (ap (λ z. z.items) takes_before) flushes.cut

  -- which takes have failed
  pub noted : NotesFault (is_err failed) b.drain.files f.drain.files
  noted = subst (λ (x : Taking). NotesFault (is_err failed) x f.drain.files) (ap (λ z. z.files) drain_before) flushes.noted

-- ---- so many blocks were flushed

module _ {V : Type 0} (outside : MediaOutside V) (at : Served) (e : Edition) (most n : ℕ) (b c d f : ButlerState V) (accepts : Accepts b c) (enters : EntersIn e c d)
    (flushes : Flushes outside (start_of at) most d (Ok n) f) where
  takes_as : d.ends.takes ≡ b.ends.takes
  takes_as = takes_before outside at e most b c d f accepts enters (Ok n) flushes

  writes_as : d.write_failed ≡ b.write_failed
  writes_as = writes_before outside at e most b c d f accepts enters (Ok n) flushes

  total_as : total_received d.ends.takes.items ≡ total_received b.ends.takes.items
  total_as = ap (λ z. total_received z.items) takes_as

  -- so many were received, no more than asked
  pub counted : (total_received f.ends.takes.items ≡ total_received b.ends.takes.items + n) × (n ≤ most) × (f.write_failed ≡ b.write_failed)
  counted = (flushes.some.counted ∙ ap (λ m. m + n) total_as, flushes.some.few, flushes.flag ∙ writes_as)

  -- fewer only where flushing is over
  pub over : n < most → HasFlushed b f
  over fewer = subst (λ (rs : List (Receiver TakeBlock)). AreDrained rs f.ends.takes.items) (ap (λ z. z.items) takes_as) (flushes.some.done fewer)
