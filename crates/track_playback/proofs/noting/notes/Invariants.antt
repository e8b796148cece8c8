use Rattle.std.proofs.Common.{◌≡◌, ◌++◌, map, length}
use Rattle.cycle_journal.specs.JournalView.{seen_note, seen_state}
use Rattle.track_playback.specs.SpareBoxes.{received_kinds}
use Rattle.track_playback.proofs.NotingLemmas.{left, noted}
use Rattle.track_playback.proofs.noting.notes.Given as goal

-- the notes so far, and those of the tracks that are left
abbrev pub invariant-loop-playback : goal.invariant-loop-playback
invariant-loop-playback g l = record {
  count : length l.notes.items ≡ l.playback-index;
  notes : map seen_note l.notes.items ++ map (noted (seen_state l.state)) (left g.plays l.playback-index) ≡ map (noted (seen_state l.state)) (map received_kinds g.plays);
}
