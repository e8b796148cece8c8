use Rattle.sound_laws.proofs.FadeLaws.{rises_in}
use Rattle.sound_laws.proofs.values.fade_in_rises.Goals as goal

pub returns : goal.returns
returns c = rises_in
