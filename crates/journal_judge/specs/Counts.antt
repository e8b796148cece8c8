-- The numbers of a track, and those behind one more note.
use Rattle.std.specs.Prelude.{ℕ, ◌+◌, max}
use Rattle.engine_model.specs.Journal.{Play, Silent, Heard, Short, Take, Off, Taken, Lost, Note}
use Rattle.journal_judge.specs.declared.tracks.TakeCount.{TakeCount}
use Rattle.journal_judge.specs.declared.tracks.TrackCount.{TrackCount}

-- nothing was heard or taken
abbrev pub no_count : TrackCount
no_count = record { heard = 0; takes = record { greatest = 0; take = 1; index = 0 } }

-- the playlist edition that was heard, 0 where none was
abbrev pub heard_number : Play → ℕ
heard_number Silent = 0
heard_number (Heard p) = p
heard_number (Short tail) = 0

-- behind a block of the take that goes on
abbrev pub next_block : TakeCount → TakeCount
next_block c = record { greatest = max c.greatest c.take; take = c.take; index = c.index + 1 }

abbrev pub count_after : TakeCount → Take → TakeCount
count_after c Off = record { greatest = c.greatest; take = c.greatest + 1; index = 0 }
count_after c (Taken n i) = next_block c
count_after c (Lost n i head) = next_block c

abbrev pub note_after : TrackCount → Note → TrackCount
note_after c note = record { heard = max (heard_number note.play) c.heard; takes = count_after c.takes note.take }
