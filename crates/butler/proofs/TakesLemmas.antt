-- A turn keeps what is so of take files.
use Rattle.std.proofs.Common.{◌≡◌, ℕ, ◌+◌, ◌-◌, ◌^◌, ◌≤◌, [], ◌∷◌, length, length-append, sym, ap, ◌∙◌, arith}
use Rattle.std.specs.Prelude.{true, false, if◌then◌else◌, min, Result, Ok, Err}
use Rattle.std.proofs.lemmas.Bool.{true≢false}
use Rattle.ses_io.specs.Outside.{MediaOutside}
use Rattle.capture_drain.specs.Files.{NotesFault}
use Rattle.butler.specs.declared.turning.Turn.{Turn}
use Rattle.butler.specs.declared.faults.ButlerFault.{ButlerFault}
use Rattle.butler.specs.declared.faults.ButlerFault.TheVariants.{ReadFault, WriteFault}
use Rattle.butler.specs.ButlerState.{ButlerState, Served, start_of}
use Rattle.butler.specs.Faults.{Counts, Fails, is_write_fault}
use Rattle.butler.specs.Takes.{HoldsTakes}
use Rattle.butler.specs.Turns.{TakesAreKept}

module _ {V : Type 0} (media : MediaOutside V) (at : Served) (faults : ℕ) (old new : ButlerState V) where
  -- where no write has failed no take has
  none_failed : (answer : Result Turn ButlerFault) → NotesFault (is_write_fault answer) old.drain.files new.drain.files → HoldsTakes media (start_of at) faults old →
      (if is_write_fault answer then true else old.write_failed) ≡ false → new.drain.files.failed ≡ []
  none_failed (Ok t) noted held fine = noted ∙ held.none_failed fine
  none_failed (Err ReadFault) noted held fine = noted ∙ held.none_failed fine
  none_failed (Err WriteFault) noted held fine = absurd (true≢false fine)

  -- and no more have than writes did
  no_more : (answer : Result Turn ButlerFault) → NotesFault (is_write_fault answer) old.drain.files new.drain.files → Counts (is_write_fault answer) (media.write_faults old.media) (media.write_faults new.media) →
      min (faults + length old.drain.files.failed) (2 ^ 64 - 1) ≤ media.write_faults old.media → min (faults + length new.drain.files.failed) (2 ^ 64 - 1) ≤ media.write_faults new.media
  no_more (Ok t) noted counts many = omega (arith, ap length noted, counts, many)
  no_more (Err ReadFault) noted counts many = omega (arith, ap length noted, counts, many)
  no_more (Err WriteFault) noted counts many = omega (arith, ap length noted.1, length-append old.drain.files.failed (noted.0 ∷ []), counts.rose, many)

  pub takes_turned : (answer : Result Turn ButlerFault) → TakesAreKept at (media.files old.media) (media.files new.media) old new → Fails media old answer new → HoldsTakes media (start_of at) faults old →
      HoldsTakes media (start_of at) faults new
  takes_turned answer kept fails held = record {
    flushed = kept held.flushed;
    none_failed = λ fine. none_failed answer fails.noted held (sym fails.write_failed ∙ fine);
    many = no_more answer fails.noted fails.writes held.many;
  }
