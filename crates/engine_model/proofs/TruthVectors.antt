-- What rings and journals say together.
use Rattle.std.proofs.Common.{◌≡◌, ℕ, List, [], ◌∷◌, refl, true, false, Bool, ◌==◌, ◌+◌, map}
use Rattle.std.specs.List.{list_all}
use Rattle.session_model.specs.declared.edit.Edit.TheVariants.{Roll}
use Rattle.engine_model.specs.Items.{Kind, Piece, Settled}
use Rattle.engine_model.specs.Journal.{Play, Heard, Short, Taken, Lost, Seeking, Rolling, Entry}
use Rattle.engine_model.specs.Truth.{is_within, misses, is_missing, looked, losses, IsTruthful}
use Rattle.engine_model.proofs.Worked.{mark_held, rolling}

-- ---- the second block came too late: the butler sent a mark, block 0 and block 2, and three looks found nothing more

sent : List Kind
sent = Settled 1 0 0 ∷ Piece 0 0 0 0 ∷ Piece 0 0 2 0 ∷ []

abbrev journal : Play → List Entry
journal play = rolling 1 1 0 0 (Heard 0) ∷ rolling 1 1 0 1 play ∷ rolling 1 1 0 2 (Heard 0) ∷ []

short_is_true : IsTruthful (Roll ∷ []) 2 0 sent (2 ∷ 2 ∷ 3 ∷ []) [] (journal (Short 2))
unfolding sent
short_is_true = record { missing = refl; looked_for = refl; full = refl; found_full = refl }

-- no look found one item alone, and none four
is_looked_for : Play → Bool
is_looked_for play = is_within (looked 2 sent (misses (Roll ∷ []) 0 (journal play))) (2 ∷ 2 ∷ 3 ∷ [])

tails_that_no_look_found : map is_looked_for (Short 2 ∷ Short 1 ∷ Short 4 ∷ []) ≡ true ∷ false ∷ false ∷ []
unfolding is_looked_for sent
tails_that_no_look_found = refl

-- a piece that had come can't be short
it_had_come : list_all (is_missing sent) (misses (Roll ∷ []) 0 (rolling 1 1 0 0 (Short 2) ∷ [])) ≡ false
unfolding sent
it_had_come = refl

-- behind a mark that is held no look is needed
behind_a_held_mark : looked 2 (Settled 1 0 0 ∷ Piece 0 0 0 0 ∷ Settled 2 1 0 ∷ []) (misses mark_held 0 (rolling 1 1 0 1 (Short 3) ∷ [])) ≡ []
behind_a_held_mark = refl

-- but it is needed for any item that isn't held
behind_a_piece : looked 2 (Settled 1 0 0 ∷ Piece 0 0 0 0 ∷ Settled 2 1 0 ∷ []) (misses mark_held 0 (rolling 1 1 0 1 (Short 2) ∷ [])) ≡ 2 ∷ []
behind_a_piece = refl

-- two shorts need two looks
one_look_repeated : is_within (2 ∷ 2 ∷ []) (2 ∷ 3 ∷ []) ≡ false
one_look_repeated = refl

-- ---- lost blocks: a ring of 2 was full when nothing had been flushed

abbrev taking : ℕ → ℕ → Entry
taking s index = record { edition = 1; settled = 1; state = Rolling 0 s; notes = record { play = Heard 0; take = Taken 1 index } ∷ [] }

abbrev losing : ℕ → ℕ → ℕ → Entry
losing s index head = record { edition = 1; settled = 1; state = Rolling 0 s; notes = record { play = Heard 0; take = Lost 1 index head } ∷ [] }

a_block_is_lost : losses 0 (taking 0 0 ∷ taking 1 1 ∷ losing 2 2 0 ∷ taking 3 3 ∷ losing 4 4 1 ∷ [])
    ≡ record { head = 0; taken = 2 } ∷ record { head = 1; taken = 3 } ∷ []
a_block_is_lost = refl

lost_is_true : IsTruthful [] 2 0 [] [] (0 ∷ []) (taking 0 0 ∷ taking 1 1 ∷ losing 2 2 0 ∷ [])
lost_is_true = record { missing = refl; looked_for = refl; full = refl; found_full = refl }

-- with one block taken the ring wasn't full
not_full : list_all (λ l. l.taken == l.head) (losses 0 (taking 0 0 ∷ losing 1 1 0 ∷ [])) ≡ false
not_full = refl

-- each loss met the ring when just so many had been flushed, and they did so in this order
losses_in_their_order : list_all (λ l. l.taken == l.head + 2) (losses 0 (taking 0 0 ∷ taking 1 1 ∷ losing 2 2 0 ∷ taking 3 3 ∷ losing 4 4 1 ∷ [])) ≡ true
losses_in_their_order = refl

heads_changed_round : list_all (λ l. l.taken == l.head + 2) (losses 0 (taking 0 0 ∷ taking 1 1 ∷ losing 2 2 1 ∷ taking 3 3 ∷ losing 4 4 0 ∷ [])) ≡ false
heads_changed_round = refl

found_the_other_way_round : is_within (map (λ l. l.head) (losses 0 (taking 0 0 ∷ taking 1 1 ∷ losing 2 2 0 ∷ taking 3 3 ∷ losing 4 4 1 ∷ []))) (1 ∷ 0 ∷ []) ≡ false
found_the_other_way_round = refl

-- ---- a seek is a miss of the track that it names, and of no other

abbrev seeking : ℕ → Entry
seeking track = record { edition = 1; settled = 0; state = Seeking track 0; notes = [] }

missed_by_its_track : misses (Roll ∷ []) 1 (seeking 1 ∷ []) ≡ record { generation = 0; block = 0; tail = 0 } ∷ []
missed_by_its_track = refl

missed_by_no_other : misses (Roll ∷ []) 0 (seeking 1 ∷ []) ≡ []
missed_by_no_other = refl

-- two lost blocks that name each other's head are not true
heads_swapped : IsTruthful [] 2 0 [] [] (1 ∷ 0 ∷ []) (taking 0 0 ∷ taking 1 1 ∷ losing 2 2 1 ∷ taking 3 3 ∷ losing 4 4 0 ∷ []) → ⊥
heads_swapped t = cc t.full

-- nor are two that were found full in another order
found_in_another_order : IsTruthful [] 2 0 [] [] (1 ∷ 0 ∷ []) (taking 0 0 ∷ taking 1 1 ∷ losing 2 2 0 ∷ taking 3 3 ∷ losing 4 4 1 ∷ []) → ⊥
found_in_another_order t = cc t.found_full
