use Rattle.audio_source.proofs.FrameLaws as laws
use Rattle.audio_source.proofs.laws.frames_are_the_files.Goals as goal

pub returns : goal.returns
returns c = laws.frames_are_the_files
