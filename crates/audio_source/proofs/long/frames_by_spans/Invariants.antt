use Rattle.std.proofs.Common.{◌≡◌, ◌≤◌, ◌%◌, length, take}
use Rattle.std.specs.Prelude.{All}
use Rattle.session_model.specs.Frames.{interleaved, IsSample}
use Rattle.audio_source.specs.Told.{source_sound}
use Rattle.audio_source.specs.Lines.{HoldsAsRead}
use Rattle.audio_source.proofs.long.frames_by_spans.Given as goal

-- whole frames so far are the source's; no file changed, and no read failed
abbrev pub invariant-loop-turn : goal.invariant-loop-turn
invariant-loop-turn g l = record {
  within : l.done ≤ length l.out;
  turns : l._turn ≤ l.done;
  whole : l.done % l.channels ≡ 0;
  told : g.M.Media.outside.tells → HoldsAsRead (g.M.Media.outside.files l.fn.media) l.fn.sources →
      take l.done l.out ≡ interleaved (source_sound (g.M.Media.outside.files l.fn.media) l.fn.sources.opened l.source) l.channels l.from l.done;
  holds : g.M.Media.outside.tells → HoldsAsRead (g.M.Media.outside.files l.fn.media) l.fn.sources → HoldsAsRead (g.M.Media.outside.files l.fn.media) l.sources;
  range : All IsSample (take l.done l.out);
  opened : l.sources.opened ≡ l.fn.sources.opened;
  files : g.M.Media.outside.files l.media ≡ g.M.Media.outside.files l.fn.media;
  reads : g.M.Media.outside.read_faults l.media ≡ g.M.Media.outside.read_faults l.fn.media;
  writes : g.M.Media.outside.write_faults l.media ≡ g.M.Media.outside.write_faults l.fn.media;
}
