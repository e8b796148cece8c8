use Rattle.std.proofs.Common.{ap, ◌∙◌, rules}
use Rattle.std.specs.Prelude.{slice_index_or}
use Rattle.heard_blocks.proofs.BringLemmas.{zero_at}
use Rattle.heard_blocks.proofs.blocks.HeardBlocks.new.Goals as goal

pub returns : goal.returns
returns c = record {
  heard = λ edits. record {
    ready = record {
      lists = c.in_ok-new.ensures.lists edits;
      master = c.in_ok-new-3.ensures.of;
      frames = c.in_ok-new-2.ensures;
      room = search rules;
    };
    last = λ t lt. ap (λ xs. slice_index_or xs t 0) c.in_ok-new.ensures.first ∙ zero_at 32 t;
  };
}
