use Rattle.std.proofs.Common.{◌≤◌}
use Rattle.std.proofs.lemmas.List.Elements.{All-replicate}
use Rattle.sound_tests.proofs.kernels.fades_of.Goals as goal

pub returns : goal.returns
returns c = All-replicate (λ g. g ≤ 65536) 4096 _ c.requires
