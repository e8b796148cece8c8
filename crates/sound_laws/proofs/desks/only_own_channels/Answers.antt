-- The law is the lemma.
use Rattle.sound_laws.proofs.ChannelLaws
use Rattle.sound_laws.proofs.desks.only_own_channels.Goals as goal

pub returns : goal.returns
returns c = ChannelLaws.only_own_channels
