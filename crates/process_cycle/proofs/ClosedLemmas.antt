-- Whether the ring of some track has answered Closed.
use Rattle.std.proofs.Common.{◌≡◌, suc, List, [], ◌∷◌, refl, ap, ◌∙◌, arith}
use Rattle.std.specs.Prelude.{◌||◌}
use Rattle.std.specs.List.{list_any}
use Rattle.disk_ring.specs.Receiver.{Receiver}
use Rattle.piece_item.specs.declared.item.Item.{Item}
use Rattle.track_playback.specs.declared.playback.TrackPlayback.{TrackPlayback}
use Rattle.track_playback.specs.Played.{KnowsTheEnds}

pub any_ended : (a : List (Receiver Item)) (d : List TrackPlayback) → KnowsTheEnds a d → list_any (λ k. k.closed) d ≡ list_any (λ r. r.ended) a
any_ended [] [] knows = refl
any_ended [] (k ∷ d) knows = absurd (omega (arith, knows.count))
any_ended (r ∷ a) [] knows = absurd (omega (arith, knows.count))
any_ended (r ∷ a) (k ∷ d) knows = let first : k.closed ≡ r.ended = knows.closed 0 r k (omega arith) in
    let others : KnowsTheEnds a d = record { count = omega (arith, knows.count); closed = λ t x y within. knows.closed (suc t) x y (omega (arith, within)) } in
    ap (λ b. b || list_any (λ x. x.closed) d) first ∙ ap (λ b. r.ended || b) (any_ended a d others)
