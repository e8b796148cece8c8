-- Entries of a journal as the definitions of the engine have them.
use Rattle.std.specs.Prelude.{List, map}
use Rattle.engine_model.specs.Journal as engine
use Rattle.cycle_journal.specs.declared.note.Play.{Play}
use Rattle.cycle_journal.specs.declared.note.Play.TheVariants.{Silent, Heard, Short}
use Rattle.cycle_journal.specs.declared.note.Take.{Take}
use Rattle.cycle_journal.specs.declared.note.Take.TheVariants.{Off, Taken, Lost}
use Rattle.cycle_journal.specs.declared.note.Note.{Note}
use Rattle.cycle_journal.specs.declared.entry.State.{State}
use Rattle.cycle_journal.specs.declared.entry.State.TheVariants.{Stopped, Seeking, Rolling}
use Rattle.cycle_journal.specs.declared.entry.Entry.{Entry}

abbrev pub seen_play : Play → engine.Play
seen_play Silent = engine.Silent
seen_play (Heard touched) = engine.Heard touched
seen_play (Short tail) = engine.Short tail

abbrev pub seen_take : Take → engine.Take
seen_take Off = engine.Off
seen_take (Taken take index) = engine.Taken take index
seen_take (Lost take index head) = engine.Lost take index head

abbrev pub seen_note : Note → engine.Note
seen_note note = record { play = seen_play note.play; take = seen_take note.take }

abbrev pub seen_state : State → engine.State
seen_state Stopped = engine.Stopped
seen_state (Seeking track tail) = engine.Seeking track tail
seen_state (Rolling generation seq) = engine.Rolling generation seq

abbrev pub seen_entry : Entry → engine.Entry
seen_entry e = record { edition = e.edition; settled = e.settled; state = seen_state e.state; notes = map seen_note e.notes.items }

-- the entries of a journal, in their order
abbrev pub seen_entries : List Entry → List engine.Entry
seen_entries entries = map seen_entry entries
