-- The law is the lemma.
use Rattle.engine_laws.proofs.MixedLemmas as blocks
use Rattle.engine_laws.proofs.played.genuine_pieces_make_the_block.Goals as goal

-- src/played.rt
pub returns : goal.returns
returns c = blocks.genuine_pieces_make_the_block
