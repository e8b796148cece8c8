use Rattle.std.proofs.Common.{◌≡◌, ◌⊎◌, ◌+◌, length, false}
use Rattle.audio_source.specs.Told.{source_sound}
use Rattle.read_ahead.specs.SendProgress.{needs_of, target_of}
use Rattle.read_ahead.specs.Reader.{IsTold}
use Rattle.read_ahead.specs.Items.{block_room}
use Rattle.read_ahead.specs.Serves.{Serves, IsStocked}
use Rattle.read_ahead.proofs.ReadLemmas.{Reads, went}
use Rattle.read_ahead.proofs.serving.serve.Given as goal

-- so many items were sent, and the ring wasn't found full; before the first one nothing changed
abbrev pub invariant-loop-sent : goal.invariant-loop-sent
invariant-loop-sent g l = record {
  serves : Serves (IsTold g.M.Media.outside l.initial.reader) (source_sound (g.M.Media.outside.files l.initial.reader.media) l.initial.reader.sources.opened) l.pass.edition
      (needs_of (target_of l.pass l.track)) l.initial.supply l.initial.end l.supply l.end;
  heads : l.end.heads ≡ l.initial.end.heads;
  counted : length l.end.sent ≡ length l.initial.end.sent + l.sent;
  before : (l.supply ≡ l.initial.supply) ⊎ (l.supply.made ≡ false);
  still : l.sent ≡ 0 → (l.supply ≡ l.initial.supply) × (l.reader ≡ l.initial.reader);
  stocked : IsStocked (block_room l.pass.edition l.track) l.supply l.end;
  still_open : l.end.closed ≡ false;
  room : l.reader.room ≡ l.initial.reader.room;
  read : Reads g.M.Media.outside l.initial.reader l.reader went;
}
