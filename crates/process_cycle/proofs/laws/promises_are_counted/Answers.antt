use Rattle.std.specs.Prelude.{length, map}
use Rattle.track_playback.specs.SpareBoxes.{received_kinds}
use Rattle.process_cycle.proofs.CountedLemmas.{made_counted}
use Rattle.process_cycle.proofs.laws.promises_are_counted.Goals as goal

-- src/laws.rt:10:1
pub returns : goal.returns
returns c = λ at entries ends promised. made_counted at.session at.edits (length at.edits) (map received_kinds ends.plays.items) entries promised.made
