-- Worked values of what a list of offers says, over a window of two boxes.
use Rattle.std.proofs.Common.{◌≡◌, pos, List, [], ◌∷◌, refl}
use Rattle.std.specs.Prelude.{ℕ, true, false, Some, None}
use Rattle.engine_model.specs.Items.{Piece, Settled}
use Rattle.engine_model.specs.Cycle.{force}
use Rattle.play_window.specs.Offers.{Offered, kinds, is_later, piece_of}

-- a piece of track 0, whose one sample tells it
abbrev piece : ℕ → ℕ → ℕ → ℕ → ℕ → ℕ → Offered
piece g n h s p sample = record { generation = g; next = n; item = record { kind = Piece 0 h s p; samples = pos sample ∷ [] } }

abbrev mark : ℕ → ℕ → ℕ → ℕ → ℕ → Offered
mark g n k h s = record { generation = g; next = n; item = record { kind = Settled k h s; samples = pos 0 ∷ [] } }

-- blocks 0 and 1, block 1 again by edition 3, its mark, and, once block 0 was played, block 2
abbrev first : List Offered
first = piece 0 1 0 2 3 13 ∷ mark 0 0 3 0 0 ∷ piece 0 0 0 1 3 12 ∷ piece 0 0 0 1 0 11 ∷ piece 0 0 0 0 0 10 ∷ []

-- then block 0 too late, and the first block of the next generation
abbrev second : List Offered
second = piece 1 0 1 0 3 15 ∷ piece 0 1 0 0 3 14 ∷ first

newest_of_block_1 : piece_of 0 1 first ≡ Some (record { kind = Piece 0 0 1 3; samples = pos 12 ∷ [] })
newest_of_block_1 = refl

block_2 : piece_of 0 2 first ≡ Some (record { kind = Piece 0 0 2 3; samples = pos 13 ∷ [] })
block_2 = refl

block_0_is_passed : piece_of 0 0 first ≡ None
block_0_is_passed = refl

block_3_was_not_given : piece_of 0 3 first ≡ None
block_3_was_not_given = refl

next_generation_has_none_yet : piece_of 1 0 first ≡ None
next_generation_has_none_yet = refl

marked_by_3 : force 0 1 (kinds first) ≡ 3
marked_by_3 = refl

next_generation_begins : piece_of 1 0 second ≡ Some (record { kind = Piece 0 1 0 3; samples = pos 15 ∷ [] })
next_generation_begins = refl

too_late_is_not_given : piece_of 0 0 second ≡ None
too_late_is_not_given = refl

mark_stays_in_force : force 1 0 (kinds second) ≡ 3
mark_stays_in_force = refl

-- a piece of generation 1 is later in generation 0 alone
later_in_0 : is_later 0 (Piece 0 1 0 3) ≡ true
later_in_0 = refl

now_in_1 : is_later 1 (Piece 0 1 0 3) ≡ false
now_in_1 = refl
