-- What a turn keeps of the media.
use Rattle.std.proofs.Common.{ℕ, sym, subst, ◌∙◌, arith}
use Rattle.std.specs.Prelude.{Bool, true, false, if◌then◌else◌, List, Result}
use Rattle.ses_io.specs.Outside.{MediaOutside}
use Rattle.session_model.specs.declared.edit.Edit.{Edit}
use Rattle.edition_log.specs.EditionState.{EditionState as Edition}
use Rattle.butler.specs.declared.turning.Turn.{Turn}
use Rattle.butler.specs.declared.faults.ButlerFault.{ButlerFault}
use Rattle.butler.specs.ButlerState.{ButlerState}
use Rattle.butler.specs.Faults.{Counts, Fails, HasRisen, KeepsRest, is_read_fault, is_write_fault}
use Rattle.butler.specs.Serving.{IsTrueTo, SourcesStand}
use Rattle.butler.specs.Takes.{MayRecord}
use Rattle.butler.specs.Turns.{StaysTrue, TakesAreKept}
use Rattle.butler.proofs.SourceLemmas.{sources_are_no_takes}
use Rattle.butler.proofs.TakesLemmas.{takes_turned}
use Rattle.serve_worker.specs.Serves.{KeepsMedia, ServedFrom, with_entered}

-- one step more of a count
counts_on : (before middle now : ℕ) (was flag : Bool) → Counts was before middle → Counts flag middle now → Counts (if flag then true else was) before now
counts_on before middle now true true c d = record { later = omega (arith, c.later, d.later); rose = omega (arith, c.rose, d.later) }
counts_on before middle now true false c d = subst (HasRisen before) (sym d) c
counts_on before middle now false true c d = subst (λ n. HasRisen n now) c d
counts_on before middle now false false c d = d ∙ c

module _ {V : Type 0} (media : MediaOutside V) (on : ServedFrom) (e : Edition) (old new : ButlerState V) (answer : Result Turn ButlerFault) (failed : Bool) (kept : KeepsMedia media on failed old) (fails : Fails media old answer new)
    (rest : KeepsRest media on.at.session e old new) where
  pub media_turned : (edits : List Edit) → (media.tells → TakesAreKept on.at (media.files old.media) (media.files new.media) old new) →
      KeepsMedia media (with_entered edits on) (if is_read_fault answer then true else failed) new
  media_turned edits takes = record {
    others = λ tells q other. rest.others tells q other ∙ kept.others tells q other;
    may_record = λ tells. subst (MayRecord on.at.session on.at.held) (sym rest.sources) (kept.may_record tells);
    takes = λ tells. takes_turned media on.at on.write_faults old new answer (takes tells) fails (kept.takes tells);
    reads = counts_on on.read_faults (media.read_faults old.media) (media.read_faults new.media) failed (is_read_fault answer) kept.reads fails.reads;
    writes = subst (λ b. Counts b on.write_faults (media.write_faults new.media)) (sym fails.write_failed)
        (counts_on on.write_faults (media.write_faults old.media) (media.write_faults new.media) old.write_failed (is_write_fault answer) kept.writes fails.writes);
  }

  -- the files of the sources stand
  stand : media.tells → SourcesStand on.at.held (media.files new.media) old.sources.opened
  stand tells = let may = kept.may_record tells in
      sources_are_no_takes on.at.session on.at.held (media.files new.media) old.sources.opened may.fresh may.there (λ q other. rest.others tells q other ∙ kept.others tells q other)

  -- so all that was sent stays true to them
  pub true_turned : (media.tells → StaysTrue media on.at e old new) → (media.tells → IsTrueTo on.at.held on.at.session on.at.edits old) → media.tells → IsTrueTo on.at.held on.at.session e.edits new
  true_turned stays was tells = stays tells (stand tells) (was tells)
