use Rattle.heard_blocks.proofs.PieceLemmas.{tracks_of}
use Rattle.heard_blocks.proofs.blocks.HeardBlocks.roll.Given as goal

abbrev pub ghost-put_tracks : goal.ghost-put_tracks
ghost-put_tracks g a = g.next.session

-- the pieces that the blocks on the desk stand for
abbrev pub ghost-roll : goal.ghost-roll
ghost-roll g a = record { session = g.next.session; tracks = tracks_of a.e.now.transport.generation a.seq a.self.now.desk.inputs 0 g.next.entry.notes }
