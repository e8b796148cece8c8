-- The entries before this one stand.
use Rattle.std.proofs.Common.{◌≤◌, length, take}
use Rattle.ses_io.specs.Files.{content}
use Rattle.track_render.specs.Reading.{IsReadOn}
use Rattle.track_render.proofs.ReadLemmas.{went}
use Rattle.cycle_journal.specs.JournalView.{seen_entries}
use Rattle.heard_blocks.specs.Reading.{IsTold}
use Rattle.report_check.specs.Checking.{HasChecked, before, samples_read}
use Rattle.report_check.proofs.EntryLemmas.{IsPassed}
use Rattle.report_check.proofs.checker.Checker.fallen.Given as goal

abbrev pub invariant-loop-c : goal.invariant-loop-c
invariant-loop-c g l = record {
  checked : HasChecked l.s l.history.edits (before (take l.c l.entries)) l.self;
  within : l.c ≤ length l.entries;
  read : IsReadOn g.M.Media.outside l.initial.media l.media l.initial.sources l.sources went;
  passed : IsTold g.M.Media.outside l.initial.media l.initial.sources → IsPassed l.s l.history.edits (samples_read (g.M.Media.outside.files l.initial.media) l.initial.sources l.s l.history.edits)
      (content (g.M.Media.outside.files l.initial.media) l.master) (seen_entries l.entries) l.c;
}
