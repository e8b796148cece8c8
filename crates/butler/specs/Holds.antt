-- What a butler holds beside its ends that did nothing yet.
use Rattle.std.specs.Prelude.{◌≡◌, ℕ, false, length, replicate, IsSome}
use Rattle.edition_log.specs.EditionState.{EditionState as Edition}
use Rattle.audio_source.specs.Lines.{SourcesState}
use Rattle.read_ahead.specs.AllServes.{AreFirst}
use Rattle.capture_drain.specs.State.{IsFirst}
use Rattle.butler.specs.declared.butler.Holdings.{Holdings}

pub record IsFirstOf {V : Type 0} (media : V) (sources : SourcesState) (e : Edition) (cycles : ℕ) (h : Holdings V) : Type 0 where
  pub media_is : h.reader.media ≡ media
  pub sources_is : h.reader.sources ≡ sources
  -- with room for a block
  pub room : h.reader.room ≡ e.session.block
  pub cycles_is : h.cycles ≡ cycles
  pub supplies : AreFirst e h.supplies.items
  pub drain : IsFirst e.session h.drain
  pub nexts : h.nexts.items ≡ replicate 10001 0
  pub husk : IsSome h.husk
  pub entered : h.entered ≡ length e.edits
  -- nothing ended or failed
  pub ended : h.ended ≡ false
  pub not_hushed : h.hushed ≡ false
  pub no_write_failed : h.write_failed ≡ false
