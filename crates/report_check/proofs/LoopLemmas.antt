-- How the entries go on, one after the other, while files are read.
use Rattle.std.proofs.Common.{◌≡◌, ℕ, suc, ◌+◌, ap, arith, ◌∙◌, subst, sym, List, ◌∷◌, take}
use Rattle.std.specs.Prelude.{Result, Some, slice_get}
use Rattle.ses_io.specs.Files.{Files, content}
use Rattle.ses_io.specs.Faults.{HasCause}
use Rattle.ses_io.specs.Outside.{MediaOutside, OnlyReads}
use Rattle.session_model.specs.declared.session.Session.{Session}
use Rattle.session_model.specs.declared.edit.Edit.{Edit}
use Rattle.engine_model.specs.Journal.{Entry}
use Rattle.engine_model.specs.Played.{samples_of}
use Rattle.audio_source.specs.Lines.{SourcesState, HoldsAsRead}
use Rattle.cycle_journal.specs.declared.entry.Entry as code
use Rattle.cycle_journal.specs.JournalView.{seen_entry, seen_entries}
use Rattle.track_render.specs.Reading.{IsReadOn}
use Rattle.heard_blocks.specs.Reading.{IsTold}
use Rattle.heard_blocks.proofs.ReadLemmas.{sounds_on, told_on}
use Rattle.report_verdict.specs.Lines.{entry_stands}
use Rattle.report_check.specs.Checking.{before, samples_read}
use Rattle.report_check.proofs.EntryLemmas.{before_at, before_is, one_before, seen_at}

-- one more is done
pub one_done : (entries : List code.Entry) (c : ℕ) (e : code.Entry) → slice_get entries c ≡ Some e → before (take (c + 1) entries) ≡ seen_entry e ∷ before (take c entries)
one_done entries c e here = let next : c + 1 ≡ suc c = omega arith in ap (λ n. before (take n entries)) next ∙ before_is entries (suc c)
    ∙ one_before (seen_entries entries) c (seen_entry e) (seen_at entries c e here) ∙ ap (λ xs. seen_entry e ∷ xs) (sym (before_is entries c))

module _ {V T E : Type 0} (outside : MediaOutside V) (old mid : V) (first now : SourcesState) (result : Result T E) (read : IsReadOn outside old mid first now result) (s : Session) (edits : List Edit) (name : List ℕ) where
  -- whether an entry stands by what was read later, it stands by what there was
  pub stands_on : (entries : List code.Entry) (c : ℕ) (e : Entry) →
      entry_stands s edits (samples_read (outside.files mid) now s edits) (content (outside.files mid) name) (before (take c entries)) e
      ≡ entry_stands s edits (samples_read (outside.files old) first s edits) (content (outside.files old) name) (before_at (seen_entries entries) c) e
  stands_on entries c e = ap (λ samples. entry_stands s edits samples (content (outside.files mid) name) (before (take c entries)) e) (ap (λ sounds. samples_of sounds s edits) (sounds_on outside old mid first now result read))
      ∙ ap (λ files. entry_stands s edits (samples_read (outside.files old) first s edits) (content files name) (before (take c entries)) e) read.only_reads.files
      ∙ ap (λ done. entry_stands s edits (samples_read (outside.files old) first s edits) (content (outside.files old) name) done e) (before_is entries c)

  pub told_later : IsTold outside old first → IsTold outside mid now
  told_later told = told_on outside old mid first now result read told

-- ---- another file was read before

module _ {V : Type 0} (outside : MediaOutside V) (old mid : V) (reads : OnlyReads outside old mid) where
  pub told_behind : (sources : SourcesState) → IsTold outside old sources → IsTold outside mid sources
  told_behind sources told = record { tells = told.tells; lines = let K : Files → Type 0 = λ fs. HoldsAsRead fs sources in subst K (sym reads.files) told.lines }

  pub read_behind : {T E : Type 0} (new : V) (first now : SourcesState) (result : Result T E) → outside.read_faults mid ≡ outside.read_faults old → IsReadOn outside mid new first now result → IsReadOn outside old new first now result
  read_behind new first now result same read = record {
    holds = λ t h. let K : Files → Type 0 = λ fs. HoldsAsRead fs now in subst K reads.files (read.holds t (let L : Files → Type 0 = λ fs. HoldsAsRead fs first in subst L (sym reads.files) h));
    opened = read.opened;
    only_reads = record { files = read.only_reads.files ∙ reads.files; other_count = read.only_reads.other_count ∙ reads.other_count };
    cause = let K : ℕ → Type 0 = λ n. HasCause n (outside.read_faults new) result in subst K same read.cause;
  }
