-- What sources hold, as contracts see it: each line with its own samples alone.
use Rattle.std.specs.Prelude.{◌≡◌, ℕ, ◌*◌, ℤ, List, length, map, take, slice_index, All}
use Rattle.audio_source.specs.declared.entry.Entry.{Entry}
use Rattle.audio_source.specs.declared.line.LineName.{LineName}
use Rattle.audio_source.specs.Opened.{OpenedSource, channels_of, IsReadable}
use Rattle.audio_source.specs.Lines.{HeldLine, SourcesState}
use Rattle.audio_source.specs.Slots.{LineStore}

-- a line with as many samples as 4,096 frames of its source have
abbrev pub held_line : List OpenedSource → LineName × List ℤ → HeldLine
held_line opened l = record { source = l.0.source; line = l.0.line; samples = take (4096 * slice_index (channels_of opened) l.0.source) l.1 }

abbrev pub sources_state : List OpenedSource → LineStore → SourcesState
sources_state opened lines = record { opened = opened; held = map (held_line opened) lines.held }

-- Each source can be read by this buffer, and the lines have room for 4,096 frames of it.
pub record AreRead (entries : List Entry) (buffer : List ℕ) (lines : LineStore) : Type 0 where
  pub readable : All (IsReadable (length buffer)) entries
  pub room : length buffer ≡ 3 * lines.room
