use Rattle.std.proofs.Common.{length, ap, sym, ◌∙◌}
use Rattle.std.specs.Prelude.{slice_index}
use Rattle.session_model.specs.Frames.{interleaved}
use Rattle.audio_source.specs.Opened.{channels_of}
use Rattle.audio_source.specs.Told.{source_sound}
use Rattle.audio_source.proofs.SourceLaws as laws
use Rattle.audio_source.proofs.view.SourceViewFrames.frames.Goals as goal

pub returns-in-Ok-clause-told : goal.returns-in-Ok-clause-told
returns-in-Ok-clause-told g c = λ t. let v = c.args.self.now in let files = g.M.Media.outside.files v.media.now in let channels = slice_index (channels_of v.sources.now.opened) c.args.source in
    laws.list_told files v.sources.now.opened c.args.source channels c.args.from (length c.frames_by_spans.new.out) c.frames_by_spans.new.out
    (c.in-Ok.ensures.told t.0 t.1 ∙ ap (interleaved (source_sound files v.sources.now.opened c.args.source) channels c.args.from) (sym c.frames_by_spans.auto.out))
