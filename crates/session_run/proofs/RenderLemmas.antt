-- What a render wrote, what its faults say of the counts, and what it reads.
use Rattle.std.proofs.Common.{◌≡◌, inl, inr, ℕ, suc, List, [], ◌∷◌, ◌++◌, refl, ap, ap₂, ◌∙◌, arith}
use Rattle.std.specs.Prelude.{Result, Ok, Err, map}
use mathlib.Core.Path.{fun_ext}
use Rattle.ses_io.specs.Faults.{HasCause}
use Rattle.ses_io.specs.Files.{Files}
use Rattle.ses_io.specs.Outside.{SinkOutside}
use Rattle.session_model.specs.declared.session.Session.{Session}
use Rattle.session_model.specs.declared.session.SourceDecl.{SourceDecl}
use Rattle.session_model.specs.Frames.{sounds_of}
use Rattle.audio_source.specs.Opened.{OpenedSource, IsListed, IsOpened, channels_of}
use Rattle.audio_source.specs.Told.{all_told}
use Rattle.audio_source.proofs.FrameLaws.{lists_hold_the_frames}
use Rattle.cycle_journal.specs.declared.status.Status.{Status}
use Rattle.cycle_journal.specs.declared.status.Status.TheVariants.{Done, ReadFault, MasterFault, NoMemory}
use Rattle.master_render.specs.Written.{IsWritten, reading, writing}
use Rattle.master_render.specs.declared.fault.RenderFault.{RenderFault}
use Rattle.master_render.specs.declared.fault.RenderFault.TheVariants as fault
use Rattle.session_opening.specs.declared.unopened.Unopened.TheVariants as unopened
use Rattle.session_opening.specs.Sounds.{sounds_in}
use Rattle.session_run.specs.Rendered.{IsRendered}
use Rattle.session_run.specs.Status.{IsOfRender, ReadsFailed, WritesFailed, status_after}
use Rattle.session_run.proofs.DoesLemmas.{kept}
use Rattle.session_opening.proofs.SoundLemmas.{sounds_are}
use Rattle.session_run.proofs.StatusLemmas as status

-- ---- how a rendering ended

pub reads_after : (before now : ℕ) (r : Result (Unit {0}) RenderFault) → HasCause before now (reading r) → ReadsFailed before now (status_after r)
reads_after before now (Ok v) c = status.quiet before now Done c.kept (λ is. cc)
reads_after before now (Err fault.ReadFault) c = record { cause = λ _. c.rose; later = λ _. c.later; same = λ not _. absurd (not refl) }
reads_after before now (Err fault.MasterFault) c = status.quiet before now MasterFault c.kept (λ is. cc)
reads_after before now (Err fault.NoMemory) c = status.quiet before now NoMemory c.kept (λ is. cc)

pub writes_after : (before now : ℕ) (r : Result (Unit {0}) RenderFault) → HasCause before now (writing r) → WritesFailed MasterFault before now (status_after r)
writes_after before now (Ok v) c = kept MasterFault before now Done (λ is. cc) c.kept
writes_after before now (Err fault.ReadFault) c = kept MasterFault before now ReadFault (λ is. cc) c.kept
writes_after before now (Err fault.MasterFault) c = record { cause = λ _. c.rose; same = λ not. absurd (not refl); later = c.later }
writes_after before now (Err fault.NoMemory) c = kept MasterFault before now NoMemory (λ is. cc) c.kept

pub memory_after : (r : Result (Unit {0}) RenderFault) → status_after r ≡ NoMemory → r ≡ Err fault.NoMemory
memory_after (Ok v) is = cc
memory_after (Err fault.ReadFault) is = cc
memory_after (Err fault.MasterFault) is = cc
memory_after (Err fault.NoMemory) is = refl

pub written_after : {W : Type 0} (sink : SinkOutside W) (file : List ℕ) (old new : W) (r : Result (Unit {0}) RenderFault) → IsWritten sink file old new r → IsRendered sink file old new (status_after r)
written_after sink file old new (Ok v) w = record { all = λ _. w.all; front = λ not. absurd (not refl) }
written_after sink file old new (Err fault.ReadFault) w = record { all = λ is. absurd (cc); front = λ _. w.front }
written_after sink file old new (Err fault.MasterFault) w = record { all = λ is. absurd (cc); front = λ _. w.front }
written_after sink file old new (Err fault.NoMemory) w = record { all = λ is. absurd (cc); front = λ _. w.front }

-- nothing was
pub untouched : {W : Type 0} (sink : SinkOutside W) (file : List ℕ) (old : W) (s : Status) → (s ≡ Done → ⊥) → IsRendered sink file old old s
untouched sink file old s not = record {
  all = λ is. absurd (not is);
  front = λ _. (0, record { within = omega arith; held = nothing_more (sink.held old) });
} where
  nothing_more : (xs : List ℕ) → xs ≡ xs ++ []
  nothing_more [] = refl
  nothing_more (x ∷ xs) = ap (λ ys. x ∷ ys) (nothing_more xs)

-- ---- what is read

-- the sources have the channels that the session names
pub channels_are : (rate : ℕ) (list : List SourceDecl) (opened : List OpenedSource) → IsListed rate list opened → channels_of opened ≡ map (λ d. d.channels) list
channels_are rate [] [] is = refl
channels_are rate [] (o ∷ os) is = absurd (omega (arith, is.many))
channels_are rate (d ∷ ds) [] is = absurd (omega (arith, is.many))
channels_are rate (d ∷ ds) (o ∷ os) is = ap₂ (λ n ns. n ∷ ns) (is.each 0 d o refl refl).channels
    (channels_are rate ds os (record { many = omega (arith, is.many); each = λ i x y at there. is.each (suc i) x y at there }))

-- they sound as their files do
pub told_sounds : (files : Files) (s : Session) (opened : List OpenedSource) → IsOpened files s.rate s.sources.items opened → sounds_of (all_told files opened) ≡ sounds_in files s
told_sounds files s opened is = fun_ext (λ n. fun_ext (λ i. fun_ext (λ c. lists_hold_the_frames files opened n i c))) ∙ sounds_are files s opened is

-- ---- statuses

-- a rendering ends as a render may
pub of_render : (s : Status) → (r : Result (Unit {0}) RenderFault) × (s ≡ status_after r) → IsOfRender s
of_render s (Ok v, is) = inl is
of_render s (Err fault.ReadFault, is) = inr (inr (unopened.ReadFault, is))
of_render s (Err fault.MasterFault, is) = inr (inl is)
of_render s (Err fault.NoMemory, is) = inr (inr (unopened.NoMemory, is))
