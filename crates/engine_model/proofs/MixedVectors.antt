-- Blocks that pieces make: the newest piece of a block is heard, and a track without its piece is silent.
use Rattle.std.proofs.Common.{◌≡◌, ℕ, ℤ, pos, [], ◌∷◌, refl, codes}
use Rattle.std.specs.Prelude.{negsuc, Some}
use Rattle.sound_model.specs.Routes.{input_within}
use Rattle.session_model.specs.declared.session.Session.{Session}
use Rattle.session_model.specs.declared.edit.Edit.TheVariants.{Roll}
use Rattle.session_model.specs.declared.route.RouteKind.TheVariants.{Track as OfTrack}
use Rattle.session_model.proofs.SessionVectors.{base, session, a, t, route, master, track, whole}
use Rattle.engine_model.specs.Items.{Item, Piece, Settled}
use Rattle.engine_model.specs.Journal.{Stopped, Rolling}
use Rattle.engine_model.specs.Mixed.{mixed_in}

two : Session
two = session (a ∷ []) (t 2 ∷ route (codes "u") (OfTrack 1) (Some 2) ∷ master ∷ []) (track 0 (whole ∷ []) ∷ track 1 (whole ∷ []) ∷ [])

piece : ℕ → ℕ → ℕ → ℤ → Item
piece t g s v = record { kind = Piece t g s 0; samples = v ∷ v ∷ v ∷ pos 1 ∷ [] }

mark : Item
mark = record { kind = Settled 0 0 0; samples = pos 9 ∷ pos 9 ∷ pos 9 ∷ pos 9 ∷ [] }

newest_is_heard : mixed_in base (Roll ∷ []) ((mark ∷ piece 0 0 1 (pos 7) ∷ piece 0 0 0 (pos 5) ∷ piece 0 0 0 (pos 3) ∷ []) ∷ []) 1 (Rolling 0 0) ≡ pos 5 ∷ pos 5 ∷ pos 5 ∷ pos 1 ∷ []
unfolding piece mark input_within
newest_is_heard = refl

tracks_are_summed : mixed_in two (Roll ∷ []) ((piece 0 0 1 (pos 5) ∷ []) ∷ (piece 1 0 1 (negsuc 2) ∷ []) ∷ []) 1 (Rolling 0 1) ≡ pos 2 ∷ pos 2 ∷ pos 2 ∷ pos 2 ∷ []
unfolding two piece input_within
tracks_are_summed = refl

short_is_silent : mixed_in two (Roll ∷ []) ((piece 0 0 1 (pos 5) ∷ []) ∷ (piece 1 0 0 (pos 8) ∷ []) ∷ []) 1 (Rolling 0 1) ≡ pos 5 ∷ pos 5 ∷ pos 5 ∷ pos 1 ∷ []
unfolding two piece input_within
short_is_silent = refl

other_generation_is_silent : mixed_in base (Roll ∷ []) ((piece 0 1 1 (pos 5) ∷ []) ∷ []) 1 (Rolling 0 1) ≡ pos 0 ∷ pos 0 ∷ pos 0 ∷ pos 0 ∷ []
unfolding piece input_within
other_generation_is_silent = refl

stopped_is_silent : mixed_in base [] ((piece 0 0 0 (pos 5) ∷ []) ∷ []) 0 Stopped ≡ pos 0 ∷ pos 0 ∷ pos 0 ∷ pos 0 ∷ []
unfolding piece
stopped_is_silent = refl
