-- Journals that are lawful and journals that aren't, the entries that cycles make, and plain journals.
use Rattle.std.proofs.Common.{◌≡◌, ℕ, List, [], ◌∷◌, refl, true, false}
use Rattle.session_model.specs.declared.session.Session.{Session}
use Rattle.session_model.specs.declared.edit.Edit.{Edit}
use Rattle.session_model.specs.declared.edit.Edit.TheVariants.{Roll, Stop, Quit, Recording, Locate}
use Rattle.session_model.proofs.SessionVectors.{base, with_track, track, whole}
use Rattle.engine_model.specs.Items.{Kind, Piece, Settled}
use Rattle.engine_model.specs.Order.{is_ordered}
use Rattle.engine_model.specs.Journal.{Silent, Heard, Short, Take, Off, Taken, Lost, Stopped, Seeking, Rolling, Entry}
use Rattle.engine_model.specs.Fits.{is_lawful}
use Rattle.engine_model.specs.Cycle.{entry_of, is_held, settled_number, state_of}
use Rattle.engine_model.specs.Plain.{Do, Wait, Sync, plain, accepted, export_commands}
use Rattle.engine_model.proofs.Worked.{wait_then_locate, overwrite_heard, mark_held, rolling, unrecorded}

-- ---- lawful or not

located : is_lawful base wait_then_locate (rolling 1 1 0 0 (Heard 0) ∷ rolling 2 2 1 0 (Heard 0) ∷ []) ≡ true
located = refl

a_settled_number_that_fell : is_lawful base wait_then_locate (rolling 1 1 0 0 (Heard 0) ∷ rolling 2 0 1 0 (Heard 0) ∷ []) ≡ false
a_settled_number_that_fell = refl

after_the_quit : is_lawful base wait_then_locate (rolling 3 3 1 0 (Heard 0) ∷ []) ≡ false
after_the_quit = refl

overwritten : is_lawful base overwrite_heard (rolling 1 1 0 0 (Heard 0) ∷ rolling 2 2 0 1 (Heard 2) ∷ []) ≡ true
overwritten = refl

-- the overwrite was settled, and the old piece is heard
the_old_piece : is_lawful base overwrite_heard (rolling 1 1 0 0 (Heard 0) ∷ rolling 2 2 0 1 (Heard 0) ∷ []) ≡ false
the_old_piece = refl

-- where it wasn't settled yet, it may be
the_old_piece_in_time : is_lawful base overwrite_heard (rolling 1 1 0 0 (Heard 0) ∷ rolling 2 1 0 1 (Heard 0) ∷ []) ≡ true
the_old_piece_in_time = refl

no_playlist_edition : is_lawful base overwrite_heard (rolling 2 2 0 0 (Heard 1) ∷ []) ≡ false
no_playlist_edition = refl

heard_falls : is_lawful base overwrite_heard (rolling 1 1 0 0 (Heard 2) ∷ rolling 1 1 0 1 (Heard 0) ∷ []) ≡ false
heard_falls = refl

edition_falls : is_lawful base overwrite_heard (rolling 2 0 0 0 (Heard 0) ∷ rolling 1 0 0 1 (Heard 0) ∷ []) ≡ false
edition_falls = refl

settled_past_the_edition : is_lawful base overwrite_heard (rolling 1 2 0 0 (Heard 2) ∷ []) ≡ false
settled_past_the_edition = refl

a_block_left_out : is_lawful base overwrite_heard (rolling 1 1 0 0 (Heard 0) ∷ rolling 1 1 0 2 (Heard 0) ∷ []) ≡ false
a_block_left_out = refl

-- a first block is never short: the run seeks it
short_at_first : is_lawful base overwrite_heard (rolling 1 1 0 0 (Short 0) ∷ []) ≡ false
short_at_first = refl

rolling_at_rest : is_lawful base overwrite_heard (rolling 0 0 0 0 (Heard 0) ∷ []) ≡ false
rolling_at_rest = refl

-- a piece of a later playlist edition than the entry's own may be heard: it was sent after the cycle began
heard_ahead_of_its_edition : is_lawful base overwrite_heard (rolling 1 1 0 0 (Heard 2) ∷ []) ≡ true
heard_ahead_of_its_edition = refl

abbrev seeking : ℕ → ℕ → ℕ → Entry
seeking r track tail = record { edition = r; settled = r; state = Seeking track tail; notes = unrecorded Silent ∷ [] }

a_first_block_is_sought : is_lawful base (Roll ∷ []) (seeking 1 0 0 ∷ rolling 1 1 0 0 (Heard 0) ∷ []) ≡ true
a_first_block_is_sought = refl

-- no later one is
a_second_block_sought : is_lawful base (Roll ∷ []) (rolling 1 1 0 0 (Heard 0) ∷ seeking 1 0 1 ∷ []) ≡ false
a_second_block_sought = refl

-- nor is a track that there isn't
a_track_past_the_last : is_lawful base (Roll ∷ []) (seeking 1 1 0 ∷ []) ≡ false
a_track_past_the_last = refl

-- ---- takes: an armed track with recording on

abbrev armed : Session
armed = with_track (record (track 0 (whole ∷ [])) { armed = true })

abbrev recording : List Edit
recording = Recording true ∷ Roll ∷ Stop ∷ Roll ∷ []

abbrev taking : ℕ → ℕ → Take → Entry
taking r s take = record { edition = r; settled = r; state = Rolling 0 s; notes = record { play = Heard 0; take = take } ∷ [] }

abbrev stopped : ℕ → Entry
stopped r = record { edition = r; settled = r; state = Stopped; notes = unrecorded Silent ∷ [] }

two_takes : is_lawful armed recording (taking 2 0 (Taken 1 0) ∷ taking 2 1 (Lost 1 1 0) ∷ stopped 3 ∷ taking 4 2 (Taken 2 0) ∷ []) ≡ true
two_takes = refl

the_take_before : is_lawful armed recording (taking 2 0 (Taken 1 0) ∷ stopped 3 ∷ taking 4 1 (Taken 1 1) ∷ []) ≡ false
the_take_before = refl

-- a cycle that seeks ends a take, since its track wasn't recorded in it
take_over_a_seek : ℕ → ℕ → List Entry
take_over_a_seek number index = taking 2 0 (Taken 1 0) ∷ seeking 3 0 1
    ∷ record { edition = 3; settled = 3; state = Rolling 1 0; notes = record { play = Heard 0; take = Taken number index } ∷ [] } ∷ []

a_take_ends_at_a_seek : is_lawful armed (Recording true ∷ Roll ∷ Locate 0 ∷ []) (take_over_a_seek 2 0) ≡ true
unfolding take_over_a_seek
a_take_ends_at_a_seek = refl

a_take_over_a_seek : is_lawful armed (Recording true ∷ Roll ∷ Locate 0 ∷ []) (take_over_a_seek 1 1) ≡ false
unfolding take_over_a_seek
a_take_over_a_seek = refl

an_index_left_out : is_lawful armed recording (taking 2 0 (Taken 1 0) ∷ taking 2 1 (Taken 1 2) ∷ []) ≡ false
an_index_left_out = refl

not_taken : is_lawful armed recording (taking 2 0 Off ∷ []) ≡ false
not_taken = refl

not_armed : is_lawful base recording (taking 2 0 (Taken 1 0) ∷ []) ≡ false
not_armed = refl

-- ---- entries: what was received stands newest first

first_two : List Kind
first_two = Piece 0 0 1 0 ∷ Piece 0 0 0 0 ∷ Settled 1 0 0 ∷ []

-- the mark of the new generation is held in the second cycle
mark_is_held : is_held 2 0 1 (Settled 2 1 0) ≡ true
mark_is_held = refl

-- where block 1 is next and the ring has 2 boxes, a piece is held from block 3 on
held_from_the_depth_on : is_held 2 0 1 (Piece 0 0 3 0) ≡ true
held_from_the_depth_on = refl

taken_before_the_depth : is_held 2 0 1 (Piece 0 0 2 0) ≡ false
taken_before_the_depth = refl

-- of two tracks the second has no mark: nothing is settled
settled_by_all_tracks : settled_number 2 1 0 ((Settled 2 1 0 ∷ []) ∷ [] ∷ []) ≡ 0
settled_by_all_tracks = refl

-- and where it has no piece, it is the one that is sought
the_second_is_sought : state_of true 1 0 ((Piece 0 1 0 0 ∷ []) ∷ (Settled 2 1 0 ∷ []) ∷ []) ≡ Seeking 1 1
the_second_is_sought = refl

heard_first : entry_of base mark_held [] (first_two ∷ []) (Off ∷ []) 1 ≡ rolling 1 1 0 0 (Heard 0)
unfolding first_two
heard_first = refl

heard_second : entry_of base mark_held (rolling 1 1 0 0 (Heard 0) ∷ []) ((Settled 2 1 0 ∷ first_two) ∷ []) (Off ∷ []) 1 ≡ rolling 1 1 0 1 (Heard 0)
unfolding first_two
heard_second = refl

heard_third : entry_of base mark_held (rolling 1 1 0 1 (Heard 0) ∷ rolling 1 1 0 0 (Heard 0) ∷ [])
    ((Piece 0 1 0 0 ∷ Settled 2 1 0 ∷ first_two) ∷ []) (Off ∷ []) 2 ≡ rolling 2 2 1 0 (Heard 0)
unfolding first_two
heard_third = refl

sent_in_order : is_ordered base mark_held 0 (Settled 1 0 0 ∷ Piece 0 0 0 0 ∷ Piece 0 0 1 0 ∷ Settled 2 1 0 ∷ Piece 0 1 0 0 ∷ []) ≡ true
sent_in_order = refl

held_and_lawful : is_lawful base mark_held (rolling 1 1 0 0 (Heard 0) ∷ rolling 1 1 0 1 (Heard 0) ∷ rolling 2 2 1 0 (Heard 0) ∷ []) ≡ true
held_and_lawful = refl

-- a cycle before the butler's first turn
seek_one_cycle : entry_of base (Roll ∷ []) [] ([] ∷ []) (Off ∷ []) 1
    ≡ record { edition = 1; settled = 0; state = Seeking 0 0; notes = unrecorded Silent ∷ [] }
seek_one_cycle = refl

-- the mark came, and then the read failed
seek_behind_a_mark : entry_of base (Locate 0 ∷ Roll ∷ []) [] ((Settled 2 1 0 ∷ []) ∷ []) (Off ∷ []) 2
    ≡ record { edition = 2; settled = 2; state = Seeking 0 1; notes = unrecorded Silent ∷ [] }
seek_behind_a_mark = refl

short_of_the_second : entry_of base (Roll ∷ []) (rolling 1 1 0 0 (Heard 0) ∷ []) ((Piece 0 0 0 0 ∷ Settled 1 0 0 ∷ []) ∷ []) (Off ∷ []) 1
    ≡ rolling 1 1 0 1 (Short 2)
short_of_the_second = refl

-- without tracks the settled number is the edition
without_tracks : entry_of base (Locate 0 ∷ Roll ∷ []) [] [] [] 2 ≡ record { edition = 2; settled = 2; state = Rolling 1 0; notes = [] }
without_tracks = refl

-- ---- plain journals

exported : plain base 2 (export_commands 0) ≡ rolling 2 2 1 0 (Heard 0) ∷ rolling 2 2 1 1 (Heard 0) ∷ []
exported = refl

plainly_located : plain base 2 (Do Roll ∷ Wait 1 ∷ Do (Locate 4) ∷ Wait 1 ∷ Do Quit ∷ []) ≡ rolling 1 1 0 0 (Heard 0) ∷ rolling 2 2 1 0 (Heard 0) ∷ []
plainly_located = refl

-- none passes the cycles that were asked
no_more_than_asked : plain base 1 (Do Roll ∷ Wait 9 ∷ []) ≡ rolling 1 1 0 0 (Heard 0) ∷ []
no_more_than_asked = refl

nothing_after_a_quit : plain base 2 (Do Quit ∷ Do Roll ∷ Wait 1 ∷ []) ≡ []
nothing_after_a_quit = refl

-- a sync plays one cycle where none settled its edition
sync_both_ways : plain base 3 (Do Roll ∷ Sync ∷ Sync ∷ Do Stop ∷ Sync ∷ Do Quit ∷ []) ≡ rolling 1 1 0 0 (Heard 0) ∷ stopped 2 ∷ []
sync_both_ways = refl

what_is_refused_changes_nothing : accepted base 1 (Do (Locate 1099511627776) ∷ Do Roll ∷ Do Quit ∷ Do Roll ∷ []) ≡ Roll ∷ Quit ∷ []
what_is_refused_changes_nothing = refl

plain_takes : plain armed 3 (Do (Recording true) ∷ Do Roll ∷ Wait 1 ∷ Do Stop ∷ Wait 1 ∷ Do Roll ∷ [])
    ≡ taking 2 0 (Taken 1 0) ∷ stopped 3 ∷ taking 4 1 (Taken 2 0) ∷ []
plain_takes = refl
