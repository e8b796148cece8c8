-- Sources that were opened have their files.
use Rattle.std.proofs.Common.{◌≡◌, ℕ, refl, sym, subst, ◌<◌, ◌≤◌, inl, inr, List, length, arith, get_or}
use Rattle.std.specs.Prelude.{◌⊎◌, Option, Some, None, Ok, Err, IsSome, slice_get}
use Rattle.std.proofs.lemmas.Option.{slice_get_cases, slice_get_within}
use Rattle.sound_model.specs.Wav.{Head}
use Rattle.ses_io.specs.Files.{Files}
use Rattle.session_model.specs.declared.session.SourceDecl.{SourceDecl}
use Rattle.audio_source.specs.Opened.{OpenedSource, IsOpened}
use Rattle.audio_source.specs.Refusals.{NoFile, source_head}

has_file : (rate channels : ℕ) (file : Option (List ℕ)) (h : Head) → source_head rate channels file ≡ Ok h → IsSome file
has_file rate channels (Some b) h e = refl
has_file rate channels None h e = absurd (nothing e)
  where
    nothing : Err NoFile ≡ Ok h → ⊥
    nothing n = cc

pub have_files : (files : Files) (rate : ℕ) (list : List SourceDecl) (opened : List OpenedSource) → IsOpened files rate list opened →
    (i : ℕ) (o : OpenedSource) → slice_get opened i ≡ Some o → IsSome (files o.file)
have_files files rate list opened is i o at = by (slice_get_cases list i).1 where
  by : ((d : SourceDecl) × (i < length list) × (slice_get list i ≡ Some d) × (get_or list i d ≡ d)) ⊎ ((length list ≤ i) × (slice_get list i ≡ None)) → IsSome (files o.file)
  by (inl w) = let as_opened = is.each i w.0 o w.2 at in subst (λ n. IsSome (files n)) (sym as_opened.file) (has_file rate w.0.channels (files w.0.file) o.head as_opened.head)
  by (inr w) = absurd (omega (arith, is.many, slice_get_within opened i o at, w.0))
