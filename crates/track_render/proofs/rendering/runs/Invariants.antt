-- The runs so far are told, and nothing but reads was done.
use Rattle.std.proofs.Common.{◌≡◌, ◌≤◌, ◌-◌, ◌*◌, take}
use Rattle.locate_loop.specs.Transport.{transport_of}
use Rattle.audio_source.specs.Told.{source_sound}
use Rattle.audio_source.specs.Lines.{HoldsAsRead}
use Rattle.track_render.specs.Blocks.{placed_block}
use Rattle.track_render.specs.Reading.{IsReadOn}
use Rattle.track_render.proofs.ReadLemmas.{went}
use Rattle.track_render.proofs.rendering.runs.Given as goal

abbrev pub invariant-loop-done : goal.invariant-loop-done
invariant-loop-done g l = record {
  within : l.done ≤ l.count;
  told : g.M.Media.outside.tells → HoldsAsRead (g.M.Media.outside.files l.fn.media) l.fn.sources → take (l.done * l.width) l.out ≡
      placed_block (source_sound (g.M.Media.outside.files l.fn.media) l.fn.sources.opened) l.list l.channels (transport_of l.transport) l.first (l.done * l.width);
  room : l.scratch ≡ l.fn.scratch;
  read : IsReadOn g.M.Media.outside l.fn.media l.media l.fn.sources l.sources went;
}

abbrev pub decreases-loop-done : goal.decreases-loop-done
decreases-loop-done g l = l.count - l.done
