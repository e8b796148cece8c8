-- The law, as it was proved of the definitions.
use Rattle.session_toml.proofs.VersionLaws.{first_version_is_linear}
use Rattle.session_toml.proofs.laws.first_version_is_linear.Goals as goal

pub returns : goal.returns
returns c = first_version_is_linear
