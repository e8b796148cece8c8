-- What the steps of a turn do, one after the other: acknowledgements are taken, the edition is entered, blocks are flushed, and what is
-- due is sent.
use Rattle.std.specs.Prelude.{◌≡◌, ◌||◌, ℕ, ◌<◌, true, false, length, is_err, Result, Ok, IfOk, IfErr}
use Rattle.ses_io.specs.Outside.{MediaOutside}
use Rattle.sound_model.specs.Regions.{Sounds}
use Rattle.edition_log.specs.EditionState.{EditionState as Edition}
use Rattle.audio_source.specs.Told.{source_sound}
use Rattle.audio_source.specs.declared.refusal.ReadFault.{ReadFault}
use Rattle.track_render.specs.Reading.{IsReadOn}
use Rattle.capture_flush.specs.declared.fault.WriteFault.{WriteFault}
use Rattle.capture_flush.specs.Flushed.{IsFlushed}
use Rattle.capture_flush.specs.Taking.{IsTakingOf}
use Rattle.read_ahead.specs.Reader.{ReaderState, IsTold}
use Rattle.read_ahead.specs.AllServes.{AreEntered, Goes, AllAtHand, total_sent}
use Rattle.capture_drain.specs.Drains.{IsDrained, AllDrain, HaveDrained, HaveStopped}
use Rattle.capture_drain.specs.Files.{RunStart, NotesFault, tape_of, WritesTakes}
use Rattle.butler.specs.Sends.{acks_of}
use Rattle.butler.specs.Table.{IsTable}
use Rattle.butler.specs.ButlerState.{ButlerState}
use Rattle.butler.specs.Turns.{pass_of}

-- what a butler reads from
abbrev pub reader_of : {V : Type 0} → ButlerState V → ReaderState V
reader_of b = record { media = b.media; sources = b.sources; room = b.room }

-- the sounds of that
abbrev pub sounds_of : {V : Type 0} → MediaOutside V → ButlerState V → Sounds
sounds_of outside b = source_sound (outside.files b.media) b.sources.opened

module _ {V : Type 0} where
  -- acknowledgements were taken
  pub record Accepts (b c : ButlerState V) : Type 0 where
    pub same : c ≡ record b { ends = record b.ends { acks = c.ends.acks }; nexts = c.nexts }
    pub acks : IsDrained b.ends.acks c.ends.acks
    pub table : IsTable b.nexts (acks_of b.ends.acks.received) → IsTable c.nexts (acks_of c.ends.acks.received)

  -- the edition was entered, unless it was entered last
  pub record EntersIn (e : Edition) (b c : ButlerState V) : Type 0 where
    pub same : c ≡ record b { supplies = c.supplies; entered = c.entered }
    pub entered : c.entered ≡ length e.edits
    pub again : b.entered ≡ length e.edits → c.supplies ≡ b.supplies
    pub anew : ¬ (b.entered ≡ length e.edits) → AreEntered e b.supplies c.supplies

  -- blocks were flushed
  pub record Flushes (outside : MediaOutside V) (run : RunStart) (most : ℕ) (b : ButlerState V) (result : Result ℕ WriteFault) (c : ButlerState V) : Type 0 where
    pub same : c ≡ record b { media = c.media; drain = c.drain; ends = record b.ends { takes = c.ends.takes }; write_failed = c.write_failed }
    pub flag : c.write_failed ≡ (is_err result || b.write_failed)
    pub some : IfOk result (HaveDrained most b.ends.takes.items c.ends.takes.items)
    pub rings : AllDrain b.ends.takes.items c.ends.takes.items
    pub given : outside.tells → IsFlushed (tape_of run b.ends.takes.items) b.drain.files (outside.files b.media) →
        IsFlushed (tape_of run c.ends.takes.items) c.drain.files (outside.files c.media)
    pub noted : NotesFault (is_err result) b.drain.files c.drain.files
    pub cut : IfErr result (λ fault. HaveStopped most b.ends.takes.items c.ends.takes.items)
    pub of : IsTakingOf run.session c.drain.files
    pub media : WritesTakes outside run.session b.ends.takes.items c.ends.takes.items b.media c.media result

  -- what is due was sent, unless it is hushed
  pub record SendsOn (outside : MediaOutside V) (e : Edition) (most : ℕ) (b : ButlerState V) (result : Result ℕ ReadFault) (c : ButlerState V) : Type 0 where
    pub same : c ≡ record b { media = c.media; sources = c.sources; supplies = c.supplies; ends = record b.ends { sends = c.ends.sends }; hushed = c.hushed }
    pub quiet : b.hushed ≡ true → (c ≡ b) × (result ≡ Ok 0)
    pub busy : b.hushed ≡ false → Goes (IsTold outside (reader_of b)) (sounds_of outside b) (pass_of e b) most b.supplies b.ends.sends.items result c.supplies c.ends.sends.items
        × (c.hushed ≡ is_err result)
    pub at_hand : AllAtHand (pass_of e b) b.supplies → total_sent c.ends.sends.items ≡ total_sent b.ends.sends.items → (c.media ≡ b.media) × (c.sources ≡ b.sources)
    pub read : IsReadOn outside b.media c.media b.sources c.sources result
    -- a read fails only where some item was asked
    pub some : IfErr result (λ fault. 0 < most)
