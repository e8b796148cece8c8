use Rattle.std.proofs.Common.{◌<◌, sym, ap, arith, length}
use Rattle.std.proofs.lemmas.List.{length-map}
use Rattle.audio_source.specs.Opened.{opened_source}
use Rattle.audio_source.specs.Lines.{SourcesState}
use Rattle.audio_source.proofs.SourceLaws as laws
use Rattle.audio_source.proofs.SourceLaws.{IsEntryAt}
use Rattle.audio_source.proofs.sources.Sources.channels.Goals as goal

pub returns : goal.returns
returns c = let entries = c.self.inside.entries.items in
    let here : c.args.source < length c.args.self.now.opened = omega (arith, c.if-source-len.false, c.len.ensures, ap length (ap (λ (x : SourcesState). x.opened) c.self.view_is), length-map entries opened_source) in
    let is : IsEntryAt entries c.args.self.now.opened c.args.source c.index.result.now = record { view = (ap (λ (x : SourcesState). x.opened) c.self.view_is); inside = here; read = c.index.ensures } in
    (here, sym (laws.entry_channels entries c.args.self.now.opened c.args.source c.index.result.now is))
