use Rattle.std.proofs.Common.{◌<◌, ◌^◌, ap, sym, length, subst, IfSome}
use Rattle.std.proofs.lemmas.List.Elements.{All-get_or}
use Rattle.audio_source.specs.Opened.{IsReadable}
use Rattle.audio_source.specs.Lines.{SourcesState}
use Rattle.audio_source.proofs.SourceLaws as laws
use Rattle.audio_source.proofs.StretchLaws as stretch
use Rattle.audio_source.proofs.SourceLaws.{IsEntryAt}
use Rattle.audio_source.proofs.sources.Sources.width.Goals as goal
use Rattle.audio_source.proofs.sources.Sources.width.Goals.{After-index}

entry : (c : After-index) → IsEntryAt c.self.inside.entries.items c.args.self.now.opened c.args.source c.index.result.now
entry c = record { view = ap (λ (x : SourcesState). x.opened) c.self.view_is; inside = c.requires; read = c.index.ensures }

pub returns-clause-width : goal.returns-clause-width
returns-clause-width c = sym (laws.entry_channels c.self.inside.entries.items c.args.self.now.opened c.args.source c.index.result.now (entry c))

readable : (c : After-index) → IsReadable (length c.self.inside.buffer.items) c.index.result.now
readable c = let es = c.self.inside.entries.items in let bytes = length c.self.inside.buffer.items in
    subst (IsReadable bytes) (sym c.index.ensures) (All-get_or (IsReadable bytes) es c.args.source c.index.result.now
    (laws.within es c.args.self.now.opened c.args.source c.index.result.now (entry c)) c.self.invariant.readable)

pub returns-clause-some : goal.returns-clause-some
returns-clause-some c = (readable (goal.at.returns-clause-some c).After-index).found.form.one_channel

pub returns-clause-few : goal.returns-clause-few
returns-clause-few c = let at = (goal.at.returns-clause-few c).After-index in
    subst (λ o. IfSome o (λ x. x.head.frames < 2 ^ 32)) (sym (laws.entry_there c.self.inside.entries.items c.args.self.now.opened c.args.source c.index.result.now (entry at)))
    (stretch.few_frames c.index.result.now.info (readable at).found)
