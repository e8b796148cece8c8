-- One read of sources after another, and what the sources tell.
use Rattle.std.proofs.Common.{◌≡◌, ℕ, ◌∙◌, subst, sym, List}
use Rattle.std.specs.Prelude.{Result, Ok}
use mathlib.Core.Path.{fun_ext}
use Rattle.ses_io.specs.Faults.{HasCause}
use Rattle.ses_io.specs.Files.{Files}
use Rattle.ses_io.specs.Outside.{MediaOutside}
use Rattle.session_model.specs.Frames.{sounds_of}
use Rattle.audio_source.specs.declared.refusal.ReadFault.{ReadFault}
use Rattle.audio_source.specs.Opened.{OpenedSource}
use Rattle.audio_source.specs.Told.{source_sound, all_told}
use Rattle.audio_source.specs.Lines.{SourcesState, HoldsAsRead}
use Rattle.audio_source.proofs.FrameLaws.{lists_hold_the_frames}
use Rattle.track_render.specs.Reading.{IsReadOn}

-- the answer of reads that all went well
abbrev pub went : Result (Unit {0}) ReadFault
went = Ok tt

pub read_on : {V T U E F : Type 0} (outside : MediaOutside V) (old mid new : V) (before between now : SourcesState) (v : T) (second : Result U F) →
    IsReadOn {E = E} outside old mid before between (Ok v) → IsReadOn outside mid new between now second → IsReadOn outside old new before now second
read_on outside old mid new before between now v second a b = record {
  holds = λ t h. let K : Files → Type 0 = λ fs. HoldsAsRead fs now in subst K a.only_reads.files
      (b.holds t (let L : Files → Type 0 = λ fs. HoldsAsRead fs between in subst L (sym a.only_reads.files) (a.holds t h)));
  opened = b.opened ∙ a.opened;
  only_reads = record { files = b.only_reads.files ∙ a.only_reads.files; other_count = b.only_reads.other_count ∙ a.only_reads.other_count };
  cause = let K : ℕ → Type 0 = λ n. HasCause n (outside.read_faults new) second in subst K a.cause.kept b.cause;
}

-- lists of frames sound as their sources do
pub told_sounds : (files : Files) (opened : List OpenedSource) → sounds_of (all_told files opened) ≡ source_sound files opened
told_sounds files opened = fun_ext (λ s. fun_ext (λ i. fun_ext (λ c. lists_hold_the_frames files opened s i c)))
