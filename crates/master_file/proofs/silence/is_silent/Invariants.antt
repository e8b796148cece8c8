use Rattle.std.proofs.Common.{◌≡◌, ◌≤◌, length}
use Rattle.ses_io.specs.Files.{content}
use Rattle.ses_io.specs.Outside.{OnlyReads}
use Rattle.report_verdict.specs.Master.{is_silent_from}
use Rattle.master_file.proofs.silence.is_silent.Given as goal

-- the blocks so far are silent, and no read failed
abbrev pub invariant-loop-block : goal.invariant-loop-block
invariant-loop-block g l = record {
  only_reads : OnlyReads g.M.Media.outside l.initial.media l.media;
  count : g.M.Media.outside.read_faults l.media ≡ g.M.Media.outside.read_faults l.initial.media;
  order : l.block ≤ l.to;
  room : length l.room ≡ length l.initial.room;
  rest : g.M.Media.outside.tells → is_silent_from l.s l.from l.to (content (g.M.Media.outside.files l.initial.media) l.name)
      ≡ is_silent_from l.s l.block l.to (content (g.M.Media.outside.files l.initial.media) l.name);
}
