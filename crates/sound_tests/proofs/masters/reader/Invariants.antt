use Rattle.std.proofs.Common.{◌≡◌, map, take}
use Rattle.session_model.specs.MemFrames.{channels_in}
use Rattle.sound_tests.proofs.masters.reader.Given as goal

-- the sources so far have their channels
abbrev pub invariant-loop-decl : goal.invariant-loop-decl
invariant-loop-decl l = channels_in l.list.items ≡ map (λ d. d.channels) (take l.decl-index l.decl-items)
