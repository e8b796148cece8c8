use Rattle.std.proofs.Common.{◌≡◌, max, fold, take}
use Rattle.input_head.specs.Input.{taken_by}
use Rattle.input_head.proofs.judging.wanted.Given as goal

-- the most that one of the tracks so far takes
abbrev pub invariant-loop-track : goal.invariant-loop-track
invariant-loop-track l = l.most ≡ fold (λ most k. max most (taken_by l.session k)) 0 (take l.track-index l.session.tracks.items)
