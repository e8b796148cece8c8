-- Some item has the name where one is found.
use Rattle.std.proofs.Common.{◌∙◌, bytes_eq}
use Rattle.session_toml.proofs.LookLaws.{any_found}
use Rattle.session_toml.proofs.rules.lookups.has_source.Goals as goal

pub returns : goal.returns
returns c = c.is_some.ensures ∙ any_found (λ d. bytes_eq d.name c.args.name) c.args.sources.now _ c.source_of.ensures
