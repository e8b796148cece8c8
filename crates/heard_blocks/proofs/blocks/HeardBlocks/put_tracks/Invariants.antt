-- The tracks before this one were put.
use Rattle.engine_model.specs.Journal.{note_of}
use Rattle.audio_source.specs.Told.{source_sound}
use Rattle.track_render.specs.Reading.{IsReadOn}
use Rattle.track_render.proofs.ReadLemmas.{went}
use Rattle.cycle_journal.specs.JournalView.{seen_entry}
use Rattle.heard_blocks.specs.Playing.{PutsTracks, playing}
use Rattle.heard_blocks.specs.Reading.{IsTold}
use Rattle.heard_blocks.proofs.blocks.HeardBlocks.put_tracks.Given as goal

abbrev pub ghost-put_track : goal.ghost-put_track
ghost-put_track g a = g.s

abbrev pub invariant-loop-t : goal.invariant-loop-t
invariant-loop-t g l = record {
  put : PutsTracks (IsTold g.M.Media.outside l.initial.media l.initial.sources)
      (playing g.s l.history.edits (source_sound (g.M.Media.outside.files l.initial.media) l.initial.sources.opened) l.now l.seq)
      (λ t. (note_of t (seen_entry l.entry)).play) l.t l.initial.self l.self;
  read : IsReadOn g.M.Media.outside l.initial.media l.media l.initial.sources l.sources went;
}
