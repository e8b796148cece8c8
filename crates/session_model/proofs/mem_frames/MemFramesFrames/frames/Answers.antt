-- The frames of one source are those that are told of it.
use Rattle.std.proofs.Common.{◌≡◌, List, get_or, length, ap, ◌∙◌, subst}
use Rattle.session_model.specs.MemFrames.{Sound, FramesState}
use Rattle.session_model.proofs.FrameLemmas.{interleaved-at}
use Rattle.session_model.proofs.mem_frames.MemFramesFrames.frames.Goals as goal

pub returns-clause-told : goal.returns-clause-told
returns-clause-told c =
    let sources_of : FramesState → List Sound = λ m. m.sources in
    let same : c.self.inside.sources.items ≡ c.args.self.now.sources = ap sources_of c.self.view_is in
    let P : List Sound → Type 0 = λ sources. c.index.result.now ≡ get_or sources c.args.source c.index.result.now in
    c.fill.ensures.told ∙ interleaved-at c.args.self.now.sources c.args.source c.index.result.now (subst P same c.index.ensures) c.requires.source c.args.from (length c.fill.new.out)
