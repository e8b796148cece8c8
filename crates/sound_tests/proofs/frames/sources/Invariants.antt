use Rattle.std.proofs.Common.{◌≡◌, map, take}
use Rattle.session_model.specs.MemFrames.{channels_in}
use Rattle.sound_tests.proofs.frames.sources.Given as goal

-- the sources so far have their channels
abbrev pub invariant-loop-i : goal.invariant-loop-i
invariant-loop-i l = channels_in l.list.items ≡ map (λ d. d.channels) (take l.i l.decl-items)
