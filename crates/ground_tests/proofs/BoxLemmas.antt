-- Rings of one box, as tests make them.
use Rattle.std.proofs.Common.{◌≡◌, ℕ, List, [], ◌∷◌, ◌++◌, Box, refl, ap, ◌∙◌}
use Rattle.std.specs.Global.{Global}
use Rattle.std.proofs.lemmas.List.Elements.{All-cons, All-nil, All-same}
use Rattle.disk_ring.specs.Rings.{AllOfRoom}

-- one box is of its own room
pub one_room : {T : Type 0} (room_of : T → ℕ) (husk : Box T Global) (made put : List (Box T Global)) → made ≡ [] → put ≡ made ++ husk ∷ [] → AllOfRoom room_of (room_of husk.value) put
one_room {T} room_of husk made put none one = let P : Box T Global → Type 0 = λ b. room_of b.value ≡ room_of husk.value in
    All-same P put (husk ∷ []) (one ∙ ap (λ l. l ++ husk ∷ []) none) (All-cons P husk [] refl (All-nil P))
