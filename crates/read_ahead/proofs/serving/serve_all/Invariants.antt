use Rattle.std.proofs.Common.{◌≡◌, length}
use Rattle.audio_source.specs.Told.{source_sound}
use Rattle.read_ahead.specs.Reader.{IsTold}
use Rattle.read_ahead.specs.AllServes.{AllAtHand}
use Rattle.read_ahead.proofs.ReadLemmas.{Reads, went}
use Rattle.read_ahead.proofs.ServeLemmas.{SoFar}
use Rattle.read_ahead.proofs.serving.serve_all.Given as goal

-- the tracks before this one were served
abbrev pub invariant-loop-track : goal.invariant-loop-track
invariant-loop-track g l = record {
  count : l.count ≡ length l.initial.supplies;
  so_far : SoFar (IsTold g.M.Media.outside l.initial.reader) (source_sound (g.M.Media.outside.files l.initial.reader.media) l.initial.reader.sources.opened) l.pass
      l.track l.most l.sent l.initial.supplies l.initial.sends l.supplies l.sends;
  still : AllAtHand l.pass l.initial.supplies → l.sent ≡ 0 → l.reader ≡ l.initial.reader;
  room : l.reader.room ≡ l.initial.reader.room;
  read : Reads g.M.Media.outside l.initial.reader l.reader went;
}
