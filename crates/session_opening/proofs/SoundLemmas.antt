-- What the opened sources sound like is what their files hold.
use Rattle.std.proofs.Common.{◌≡◌, ℕ, ◌<◌, ◌≤◌, List, length, sym, ap, ◌∙◌, ◌⊎◌, inl, inr, arith, get_or}
use Rattle.std.specs.Prelude.{slice_get, Some, None}
use Rattle.std.proofs.lemmas.Option.{slice_get_cases, slice_get_past}
use mathlib.Core.Path.{fun_ext}
use Rattle.session_model.specs.declared.session.Session.{Session}
use Rattle.session_model.specs.declared.session.SourceDecl.{SourceDecl}
use Rattle.ses_io.specs.Files.{Files}
use Rattle.audio_source.specs.Opened.{OpenedSource, IsOpened}
use Rattle.audio_source.specs.Told.{sample_by, source_sound}
use Rattle.audio_source.proofs.FrameLaws.{frames_are_the_files}
use Rattle.session_opening.specs.Sounds.{sample_in, sounds_in}

pub sounds_are : (files : Files) (s : Session) (opened : List OpenedSource) → IsOpened files s.rate s.sources.items opened → source_sound files opened ≡ sounds_in files s
sounds_are files s opened is = fun_ext (λ n. fun_ext (λ i. fun_ext (λ c. by n i c (slice_get_cases s.sources.items n).1))) where
  by : (n i c : ℕ) → ((d : SourceDecl) × (n < length s.sources.items) × (slice_get s.sources.items n ≡ Some d) × (get_or s.sources.items n d ≡ d)) ⊎ ((length s.sources.items ≤ n) × (slice_get s.sources.items n ≡ None))
      → source_sound files opened n i c ≡ sounds_in files s n i c
  by n i c (inl w) = frames_are_the_files files s.rate s.sources.items opened n w.0 i c is w.2 ∙ sym (ap (λ d. sample_in files d i c) w.2)
  by n i c (inr w) = ap (λ o. sample_by files o i c) (slice_get_past opened n (omega (arith, w.0, is.many))) ∙ sym (ap (λ d. sample_in files d i c) w.1)
