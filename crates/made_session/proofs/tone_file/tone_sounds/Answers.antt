-- The laws of files, of this one.
use Rattle.made_session.proofs.ToneLemmas as lemmas
use Rattle.made_session.proofs.tone_file.tone_sounds.Goals as goal

pub returns : goal.returns
returns c = lemmas.tone_sounds c.written_head_is_read.ensures c.written_sound_is_read.ensures
