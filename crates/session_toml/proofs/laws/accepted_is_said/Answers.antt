-- The law, as it was proved of the definitions.
use Rattle.session_toml.proofs.SessionLaws.{accepted_is_said}
use Rattle.session_toml.proofs.laws.accepted_is_said.Goals as goal

pub returns : goal.returns
returns c = accepted_is_said
