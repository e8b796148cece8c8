-- What is sent of a track step by step, and which lists are ordered.
use Rattle.std.proofs.Common.{◌≡◌, ℕ, zero, suc, List, [], ◌∷◌, refl, true, false, reverse, Option, Some, None}
use Rattle.session_model.specs.declared.edit.Edit.{Edit}
use Rattle.session_model.specs.declared.edit.Edit.TheVariants.{Roll, Locate}
use Rattle.session_model.proofs.SessionVectors.{base}
use Rattle.engine_model.specs.Items.{Kind, Piece, Settled}
use Rattle.engine_model.specs.Order.{is_ordered, is_ordered_newest}
use Rattle.engine_model.specs.Due.{Ack, due, next_block}
use Rattle.engine_model.proofs.Worked.{deep, quieter, mark_held}

-- ---- the farthest is revised first: a ring of 8, two region commands, and nothing is acknowledged

twice : List Edit
twice = quieter ∷ quieter ∷ []

onto : Option Kind → List Kind → List Kind
onto None sent = sent
onto (Some x) sent = x ∷ sent

-- what so many sends of a butler in edition k make of what was sent, newest first
sends : ℕ → ℕ → List Kind → List Kind
sends zero k sent = sent
sends (suc n) k sent = sends n k (onto (due (deep 8) twice 100 0 k [] sent) sent)

-- a mark, and the blocks 0 to 6
sent_first : reverse (sends 8 0 [])
    ≡ Settled 0 0 0 ∷ Piece 0 0 0 0 ∷ Piece 0 0 1 0 ∷ Piece 0 0 2 0 ∷ Piece 0 0 3 0 ∷ Piece 0 0 4 0 ∷ Piece 0 0 5 0 ∷ Piece 0 0 6 0 ∷ []
unfolding sends twice onto
sent_first = refl

-- the first edit: 6, 5 and 4 again
sent_again : sends 3 1 (sends 8 0 []) ≡ Piece 0 0 4 1 ∷ Piece 0 0 5 1 ∷ Piece 0 0 6 1 ∷ sends 8 0 []
unfolding sends twice onto
sent_again = refl

-- the second edit: again from the farthest on
sent_once_more : sends 1 2 (sends 3 1 (sends 8 0 [])) ≡ Piece 0 0 6 2 ∷ sends 3 1 (sends 8 0 [])
unfolding sends twice onto
sent_once_more = refl

-- all is revised, then marked, then the next block is sent, and no block past the depth
sent_to_the_end : sends 20 2 (sends 3 1 (sends 8 0 []))
    ≡ Piece 0 0 7 2 ∷ Settled 2 0 0 ∷ Piece 0 0 0 2 ∷ Piece 0 0 1 2 ∷ Piece 0 0 2 2 ∷ Piece 0 0 3 2 ∷ Piece 0 0 4 2 ∷ Piece 0 0 5 2 ∷ Piece 0 0 6 2
    ∷ sends 3 1 (sends 8 0 [])
unfolding sends twice onto
sent_to_the_end = refl

it_is_ordered : is_ordered_newest (deep 8) twice 0 (sends 20 2 (sends 3 1 (sends 8 0 []))) ≡ true
unfolding sends twice onto
it_is_ordered = refl

-- ---- the same list by hand, and lists that aren't ordered

farthest_first : is_ordered (deep 8) twice 0 (Settled 0 0 0 ∷ Piece 0 0 0 0 ∷ Piece 0 0 1 0 ∷ Piece 0 0 2 0 ∷ Piece 0 0 3 0 ∷ Piece 0 0 4 0 ∷ Piece 0 0 5 0
    ∷ Piece 0 0 6 0 ∷ Piece 0 0 6 1 ∷ Piece 0 0 5 1 ∷ Piece 0 0 4 1 ∷ Piece 0 0 6 2 ∷ []) ≡ true
unfolding twice
farthest_first = refl

nearest_first : is_ordered (deep 8) twice 0 (Settled 0 0 0 ∷ Piece 0 0 0 0 ∷ Piece 0 0 1 0 ∷ Piece 0 0 0 1 ∷ []) ≡ false
unfolding twice
nearest_first = refl

a_mark_too_early : is_ordered (deep 8) twice 0 (Settled 0 0 0 ∷ Piece 0 0 0 0 ∷ Piece 0 0 1 0 ∷ Piece 0 0 1 1 ∷ Settled 1 0 0 ∷ []) ≡ false
unfolding twice
a_mark_too_early = refl

-- the same mark from the block on that was revised
a_mark_in_time : is_ordered (deep 8) twice 0 (Settled 0 0 0 ∷ Piece 0 0 0 0 ∷ Piece 0 0 1 0 ∷ Piece 0 0 1 1 ∷ Settled 1 0 1 ∷ []) ≡ true
unfolding twice
a_mark_in_time = refl

an_old_piece_after_a_mark : is_ordered (deep 8) twice 0 (Settled 1 0 0 ∷ Piece 0 0 0 0 ∷ []) ≡ false
unfolding twice
an_old_piece_after_a_mark = refl

a_block_before_another : is_ordered (deep 8) twice 0 (Piece 0 0 1 0 ∷ Piece 0 0 0 0 ∷ []) ≡ false
unfolding twice
a_block_before_another = refl

a_mark_twice : is_ordered (deep 8) twice 0 (Settled 0 0 0 ∷ Settled 0 0 0 ∷ []) ≡ false
unfolding twice
a_mark_twice = refl

a_generation_that_fell : is_ordered base mark_held 0 (Piece 0 1 0 0 ∷ Piece 0 0 0 0 ∷ []) ≡ false
a_generation_that_fell = refl

a_generation_not_yet_there : is_ordered base mark_held 0 (Piece 0 2 0 0 ∷ []) ≡ false
a_generation_not_yet_there = refl

a_mark_of_another_generation : is_ordered base mark_held 0 (Settled 2 0 0 ∷ []) ≡ false
a_mark_of_another_generation = refl

another_track : is_ordered base mark_held 0 (Piece 1 0 0 0 ∷ []) ≡ false
another_track = refl

-- edit 1 changes no playlist
no_playlist_edition : is_ordered base mark_held 0 (Piece 0 0 0 1 ∷ []) ≡ false
no_playlist_edition = refl

-- playlist editions don't fall where a generation begins
a_playlist_edition_that_fell : is_ordered base (quieter ∷ Locate 0 ∷ []) 0 (Piece 0 0 0 1 ∷ Piece 0 1 0 0 ∷ []) ≡ false
a_playlist_edition_that_fell = refl

-- ---- what was played isn't sent again: block 0 was acknowledged, and block 1 is revised alone

passed_and_stale : List Ack → List Kind → Option Kind
passed_and_stale acks sent = due (deep 8) (quieter ∷ []) 100 0 1 acks sent

no_passed_block_is_revised : passed_and_stale (record { cycle = 1; generation = 0; next = 1; settled = 0 } ∷ []) (Piece 0 0 0 0 ∷ Settled 0 0 0 ∷ [])
    ∷ passed_and_stale (record { cycle = 1; generation = 0; next = 1; settled = 0 } ∷ []) (Piece 0 0 1 0 ∷ Piece 0 0 0 0 ∷ Settled 0 0 0 ∷ [])
    ∷ passed_and_stale [] (Piece 0 0 0 0 ∷ Settled 0 0 0 ∷ []) ∷ []
    ≡ Some (Settled 1 0 1) ∷ Some (Piece 0 0 1 1) ∷ Some (Piece 0 0 0 1) ∷ []
unfolding passed_and_stale
no_passed_block_is_revised = refl

-- ---- a late block is left out: three cycles were asked, two blocks fit the ring, and two were played meanwhile

ack : ℕ → Ack
ack next = record { cycle = next; generation = 0; next = next; settled = 1 }

ask : List Ack → List Kind → Option Kind
ask acks sent = due base (Roll ∷ []) 3 0 1 acks sent

short_after_first : ask [] [] ∷ ask [] (Settled 1 0 0 ∷ []) ∷ ask (ack 1 ∷ ack 2 ∷ []) (Piece 0 0 0 0 ∷ Settled 1 0 0 ∷ [])
    ∷ ask (ack 1 ∷ ack 2 ∷ []) (Piece 0 0 2 0 ∷ Piece 0 0 0 0 ∷ Settled 1 0 0 ∷ []) ∷ []
    ≡ Some (Settled 1 0 0) ∷ Some (Piece 0 0 0 0) ∷ Some (Piece 0 0 2 0) ∷ None ∷ []
unfolding ask ack
short_after_first = refl

-- without acknowledgements a ring of 2 takes no third block
no_third_block : ask [] (Piece 0 0 1 0 ∷ Piece 0 0 0 0 ∷ Settled 1 0 0 ∷ []) ≡ None
unfolding ask
no_third_block = refl

-- an acknowledgement of a newer generation says nothing of this one
of_a_newer_generation : next_block (record { cycle = 9; generation = 1; next = 0; settled = 1 } ∷ ack 2 ∷ ack 1 ∷ []) 0 ≡ 2
unfolding ack
of_a_newer_generation = refl
