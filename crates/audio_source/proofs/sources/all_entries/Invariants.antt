use Rattle.std.proofs.Common.{◌≡◌, map, take}
use Rattle.std.specs.Prelude.{All}
use Rattle.wav_codec.specs.Info.{IsFound}
use Rattle.audio_source.specs.Opened.{opened_source, IsListed, IsOpened}
use Rattle.audio_source.proofs.sources.all_entries.Given as goal

-- the sources so far are opened; no file changed, and no read failed
abbrev pub invariant-loop-source : goal.invariant-loop-source
invariant-loop-source g l = record {
  found : All (λ e. IsFound e.info) l.entries.items;
  listed : IsListed l.rate (take l.source l.list.items) (map opened_source l.entries.items);
  told : g.M.Media.outside.tells → IsOpened (g.M.Media.outside.files l.fn.media) l.rate (take l.source l.list.items) (map opened_source l.entries.items);
  files : g.M.Media.outside.files l.media ≡ g.M.Media.outside.files l.fn.media;
  reads : g.M.Media.outside.read_faults l.media ≡ g.M.Media.outside.read_faults l.fn.media;
  writes : g.M.Media.outside.write_faults l.media ≡ g.M.Media.outside.write_faults l.fn.media;
}
