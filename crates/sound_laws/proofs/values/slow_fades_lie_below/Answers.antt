use Rattle.sound_laws.proofs.FadeLaws.{slow_fades_lie_below}
use Rattle.sound_laws.proofs.values.slow_fades_lie_below.Goals as goal

pub returns : goal.returns
returns c = slow_fades_lie_below
