-- The law is the lemma.
use Rattle.sound_laws.proofs.DeskLaws
use Rattle.sound_laws.proofs.desks.solo_silences_other_tracks.Goals as goal

pub returns : goal.returns
returns c = DeskLaws.solo_silences_other_tracks
