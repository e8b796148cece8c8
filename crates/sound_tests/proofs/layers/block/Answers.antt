use Rattle.session_model.specs.MemFrames.{channels_in}
use Rattle.sound_tests.proofs.Sources.{three_sources}
use Rattle.sound_tests.proofs.layers.block.Goals as goal

pub render-requires-clause-sources : goal.render-requires-clause-sources
render-requires-clause-sources c =
    three_sources (channels_in c.args.frames.now.frames.sources) c.args.channels c.in-Some.list c.requires.sources c.in-Some.ensures
