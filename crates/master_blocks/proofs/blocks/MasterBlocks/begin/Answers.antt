use Rattle.std.proofs.Common.{◌≡◌, ◌*◌, ◌∙◌, length, ap₂, sym, subst, rules}
use Rattle.wav_codec.specs.Form.{written_form}
use Rattle.master_blocks.specs.State.{IsMasterOf}
use Rattle.master_blocks.proofs.StateLemmas.{some_channel, eight_channels, head_fits}
use Rattle.master_blocks.proofs.blocks.MasterBlocks.begin.Goals as goal
use Rattle.master_blocks.proofs.blocks.MasterBlocks.begin.Given as given

module _ (g : given.Over) (c : goal.After-len g) where
  of : IsMasterOf g.s (record { sink = c.self.inside.sink; form = written_form c.self.inside.form; desk = c.self.inside.desk })
  of = subst (IsMasterOf g.s) (sym c.self.view_is) c.requires.1.0

  count : c.len.result ≡ length c.self.inside.places.items
  count = search rules

  frames : c.from.result * c.len.result ≡ c.args.blocks * g.s.block
  frames = ap₂ (λ a b. a * b) c.from.ensures (count ∙ c.self.invariant.0 ∙ of.desk.block)

pub header-head-requires-clause-one_channel : goal.header-head-requires-clause-one_channel
header-head-requires-clause-one_channel g c = some_channel g.s c.self.inside.form (of g c).valid (of g c).form

pub header-head-requires-clause-eight_channels : goal.header-head-requires-clause-eight_channels
header-head-requires-clause-eight_channels g c = eight_channels g.s c.self.inside.form (of g c).valid (of g c).form

pub header-head-requires-clause-size : goal.header-head-requires-clause-size
header-head-requires-clause-size g c = head_fits g.s c.self.inside.form (of g c).valid (of g c).form _ c.args.blocks (frames g c) c.requires.1.1
