-- The law is the lemma.
use Rattle.edit_laws.proofs.CommandLaws as laws
use Rattle.edit_laws.proofs.changes.a_region_command_is_heard_on_its_track_alone.Goals as goal

pub returns : goal.returns
returns c = laws.a_region_command_is_heard_on_its_track_alone
