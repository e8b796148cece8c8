-- The law is the lemma.
use Rattle.edit_laws.proofs.CommandLaws as laws
use Rattle.edit_laws.proofs.changes.a_route_command_touches_no_playlist.Goals as goal

pub returns : goal.returns
returns c = laws.a_route_command_touches_no_playlist
