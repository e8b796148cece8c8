-- What each event of the machine needs and does, on small states: each need fails once where all else would let the event happen.
use Rattle.std.proofs.Common.{◌≡◌, ℕ, List, [], ◌∷◌, ◌++◌, refl, true, false, codes, map, reverse, Bool, Some}
use Rattle.session_model.specs.declared.edit.Edit.TheVariants.{Roll, Quit, Recording, Locate, Arm}
use Rattle.session_model.proofs.SessionVectors.{base}
use Rattle.engine_model.specs.Items.{Piece, Settled}
use Rattle.engine_model.specs.Lines.{Says}
use Rattle.engine_model.specs.Plain.{Do}
use Rattle.engine_model.proofs.Worked.{two_tracks}
use Rattle.machine_model.specs.Core.{Core, at_first}
use Rattle.machine_model.specs.Events.{ToButler, ToControl, Event, Publish, EnterButler, Send, Flush, EnterProcess, Look, Capture, End, AckSend, AckTake, can, after}
use Rattle.machine_model.specs.Control.{is_played_out, is_over, Entries, SettledIn}
use Rattle.machine_model.specs.Letters.{C, B, P, looks, first_move, begins, by_letters}

-- the base after these events of a run of so many cycles
so : ℕ → List Event → Core
so cycles events = after base cycles (at_first base) events

may : ℕ → List Event → List Event → List Bool
may cycles before events = map (can base cycles (so cycles before)) events

-- ---- the butler

rolled : List Event
rolled = Publish Roll ∷ EnterButler ∷ []

-- a ring of two boxes takes two items; there is a third to send
full_ring : may 3 (rolled ++ Send 0 ∷ []) (Send 0 ∷ Send 1 ∷ []) ++ may 3 (rolled ++ Send 0 ∷ Send 0 ∷ []) (Send 0 ∷ []) ++ may 3 (rolled ++ Send 0 ∷ Send 0 ∷ EnterProcess ∷ Look 0 ∷ []) (Send 0 ∷ [])
    ≡ true ∷ false ∷ false ∷ true ∷ []
unfolding may so rolled
full_ring = refl

-- it sends for the edition that it entered, and not for one that was only published
for_its_edition : map (λ x. x.sent) (so 3 (Publish Roll ∷ Send 0 ∷ [])).tracks ++ map (λ x. x.sent) (so 3 (rolled ++ Send 0 ∷ [])).tracks ≡ (Settled 0 0 0 ∷ []) ∷ (Settled 1 0 0 ∷ []) ∷ []
unfolding so rolled
for_its_edition = refl

-- nothing is sent where nothing is due: one cycle was asked, and its block and mark were sent
nothing_due : may 1 (rolled ++ Send 0 ∷ Send 0 ∷ EnterProcess ∷ Look 0 ∷ Look 0 ∷ []) (Send 0 ∷ []) ≡ false ∷ []
unfolding may so rolled
nothing_due = refl

-- ---- a cycle begins

enters : may 1 [] (EnterProcess ∷ []) ++ may 0 [] (EnterProcess ∷ []) ++ may 1 (EnterProcess ∷ []) (EnterProcess ∷ []) ++ may 2 (EnterProcess ∷ Look 0 ∷ End ∷ []) (EnterProcess ∷ [])
    ++ may 1 (EnterProcess ∷ Look 0 ∷ End ∷ []) (EnterProcess ∷ []) ≡ true ∷ false ∷ false ∷ true ∷ false ∷ []
unfolding may so
enters = refl

-- in an edition that has quit no cycle is open, and none begins after it; nor is anything published
after_a_quit : may 2 (Publish Quit ∷ EnterProcess ∷ []) (EnterProcess ∷ Look 0 ∷ End ∷ Publish Roll ∷ []) ≡ false ∷ false ∷ false ∷ false ∷ []
unfolding may so
after_a_quit = refl

before_the_quit : may 2 (EnterProcess ∷ Publish Quit ∷ []) (Look 0 ∷ Publish Roll ∷ []) ≡ true ∷ false ∷ []
unfolding may so
before_the_quit = refl

what_is_refused_is_not_published : may 2 [] (Publish (Locate 1099511627776) ∷ Publish (Locate 0) ∷ []) ≡ false ∷ true ∷ []
unfolding may so
what_is_refused_is_not_published = refl

-- ---- looks

no_cycle_no_look : may 2 rolled (Look 0 ∷ []) ++ may 2 (EnterProcess ∷ []) (Look 0 ∷ Look 1 ∷ []) ≡ false ∷ true ∷ false ∷ []
unfolding may so rolled
no_cycle_no_look = refl

-- the second item is a mark of a later generation, which is held: the look-up is over, and nothing is taken past it
held : List Event
held = rolled ++ Send 0 ∷ EnterProcess ∷ Publish (Locate 4) ∷ EnterButler ∷ Send 0 ∷ Look 0 ∷ []

past_a_held_item : may 2 held (Look 0 ∷ End ∷ []) ++ may 2 (held ++ Look 0 ∷ []) (Look 0 ∷ End ∷ []) ≡ true ∷ false ∷ false ∷ true ∷ []
unfolding may so rolled held
past_a_held_item = refl

-- a look that finds nothing notes how many were received, each time
tails_noted : map (λ x. reverse x.tails) (so 2 (rolled ++ EnterProcess ∷ Look 0 ∷ Look 0 ∷ Send 0 ∷ Look 0 ∷ Look 0 ∷ [])).tracks ≡ (0 ∷ 0 ∷ 1 ∷ []) ∷ []
unfolding so rolled
tails_noted = refl

-- after an item a look-up isn't over: the next look may find more
an_item_is_no_end : may 2 (rolled ++ Send 0 ∷ EnterProcess ∷ Look 0 ∷ []) (End ∷ []) ++ may 2 (rolled ++ Send 0 ∷ EnterProcess ∷ Look 0 ∷ Look 0 ∷ []) (End ∷ []) ≡ false ∷ true ∷ []
unfolding may so rolled
an_item_is_no_end = refl

-- a new cycle looks anew
each_cycle_looks : may 2 (EnterProcess ∷ Look 0 ∷ []) (End ∷ []) ++ may 2 (EnterProcess ∷ Look 0 ∷ End ∷ EnterProcess ∷ []) (End ∷ []) ≡ true ∷ false ∷ []
unfolding may so
each_cycle_looks = refl

-- each track does
both_look : map (can two_tracks 2 (after two_tracks 2 (at_first two_tracks) (EnterProcess ∷ Look 0 ∷ []))) (End ∷ []) ++ map (can two_tracks 2 (after two_tracks 2 (at_first two_tracks) (EnterProcess ∷ Look 0 ∷ Look 1 ∷ []))) (End ∷ [])
    ≡ false ∷ true ∷ []
both_look = refl

looks_of_items : looks 2 0 1 [] ∷ looks 2 0 1 (Settled 2 1 0 ∷ Piece 0 1 0 0 ∷ []) ∷ looks 2 0 1 (Piece 0 0 1 0 ∷ Settled 2 1 0 ∷ []) ∷ looks 2 0 1 (Piece 0 0 1 0 ∷ Piece 0 0 2 0 ∷ []) ∷ [] ≡ 1 ∷ 1 ∷ 2 ∷ 3 ∷ []
looks_of_items = refl

-- ---- captures

recording : List Event
recording = Publish (Arm (codes "t") true) ∷ Publish (Recording true) ∷ Publish Roll ∷ EnterButler ∷ Send 0 ∷ Send 0 ∷ EnterProcess ∷ []

gathered : List Event
gathered = recording ++ Look 0 ∷ Look 0 ∷ Look 0 ∷ []

-- a track is captured once, when its cycle has looked, and the cycle ends after that
captured_once : may 3 (recording ++ Look 0 ∷ Look 0 ∷ []) (Capture 0 ∷ []) ++ may 3 gathered (Capture 0 ∷ Capture 1 ∷ End ∷ []) ++ may 3 (gathered ++ Capture 0 ∷ []) (Capture 0 ∷ End ∷ [])
    ≡ false ∷ true ∷ false ∷ false ∷ false ∷ true ∷ []
unfolding may so recording gathered
captured_once = refl

-- where nothing is recorded nothing is captured: it isn't armed; or the cycle seeks; or it is stopped
not_captured : may 3 (rolled ++ Send 0 ∷ Send 0 ∷ EnterProcess ∷ Look 0 ∷ Look 0 ∷ Look 0 ∷ []) (Capture 0 ∷ End ∷ [])
    ++ may 3 (Publish (Arm (codes "t") true) ∷ Publish (Recording true) ∷ Publish Roll ∷ EnterProcess ∷ Look 0 ∷ []) (Capture 0 ∷ End ∷ [])
    ++ may 3 (Publish (Arm (codes "t") true) ∷ Publish (Recording true) ∷ EnterProcess ∷ Look 0 ∷ []) (Capture 0 ∷ End ∷ []) ≡ false ∷ true ∷ false ∷ true ∷ false ∷ true ∷ []
unfolding may so rolled
not_captured = refl

flushes : may 3 gathered (Flush 0 ∷ []) ++ may 3 (gathered ++ Capture 0 ∷ []) (Flush 0 ∷ Flush 1 ∷ []) ++ may 3 (gathered ++ Capture 0 ∷ Flush 0 ∷ []) (Flush 0 ∷ []) ≡ false ∷ true ∷ false ∷ false ∷ []
unfolding may so recording gathered
flushes = refl

-- a turn flushes before it sends: a block waits, and the next piece is due
flushed_first : first_move base 3 (so 3 (gathered ++ Capture 0 ∷ End ∷ [])) ∷ first_move base 3 (so 3 (gathered ++ Capture 0 ∷ End ∷ Flush 0 ∷ [])) ∷ [] ≡ Some (Flush 0) ∷ Some (Send 0) ∷ []
unfolding so recording gathered
flushed_first = refl

-- ---- acknowledgements

one_entry : List Event
one_entry = rolled ++ EnterProcess ∷ Look 0 ∷ End ∷ []

-- an entry is acknowledged once on each ring
acknowledged_once : may 3 rolled (AckSend ToButler ∷ AckTake ToButler ∷ []) ++ may 3 one_entry (AckSend ToButler ∷ AckSend ToControl ∷ [])
    ++ may 3 (one_entry ++ AckSend ToButler ∷ []) (AckSend ToButler ∷ AckSend ToControl ∷ AckTake ToButler ∷ AckTake ToControl ∷ []) ++ may 3 (one_entry ++ AckSend ToButler ∷ AckTake ToButler ∷ []) (AckTake ToButler ∷ [])
    ≡ false ∷ false ∷ true ∷ true ∷ false ∷ true ∷ true ∷ false ∷ false ∷ []
unfolding may so rolled one_entry
acknowledged_once = refl

-- what it says: the number of the entry, its generation, the block that is next, and what the entry has settled
says : (so 3 (one_entry ++ AckSend ToControl ∷ [])).to_control.sent ≡ record { cycle = 1; generation = 0; next = 0; settled = 0 } ∷ []
unfolding so rolled one_entry
says = refl

two_blocks : (by_letters base 3 (begins base (Says (Do (Locate 4)) ∷ Says (Do Roll) ∷ [])) (C ∷ C ∷ B ∷ B ∷ P ∷ B ∷ P ∷ [])).core.to_control.sent
    ≡ record { cycle = 2; generation = 1; next = 2; settled = 2 } ∷ record { cycle = 1; generation = 1; next = 1; settled = 2 } ∷ []
two_blocks = refl

-- a full ring drops it: of three entries control has two, since it takes none, and the butler has them all
dropped : (by_letters base 3 (begins base []) (P ∷ P ∷ P ∷ B ∷ [])).core.to_control
    ≡ record { sent = record { cycle = 2; generation = 0; next = 0; settled = 0 } ∷ record { cycle = 1; generation = 0; next = 0; settled = 0 } ∷ []; taken = 0; told = 3 }
dropped = refl

the_butler's_too : map (λ a. a.cycle) (by_letters base 4 (begins base []) (P ∷ B ∷ P ∷ B ∷ P ∷ B ∷ [])).core.to_butler.sent ++ (by_letters base 4 (begins base []) (P ∷ B ∷ P ∷ B ∷ P ∷ B ∷ [])).core.to_butler.taken ∷ []
    ≡ 3 ∷ 2 ∷ 1 ∷ 3 ∷ []
the_butler's_too = refl

-- ---- what control waits for

played_out : is_played_out 1 (so 1 []) ∷ is_played_out 1 (so 1 (EnterProcess ∷ Look 0 ∷ End ∷ [])) ∷ is_played_out 2 (so 2 (EnterProcess ∷ Look 0 ∷ End ∷ [])) ∷ is_played_out 2 (so 2 (Publish Quit ∷ []))
    ∷ is_played_out 2 (so 2 (Publish Quit ∷ EnterProcess ∷ [])) ∷ [] ≡ false ∷ true ∷ false ∷ false ∷ true ∷ []
unfolding so
played_out = refl

over : map (is_over 3 (so 3 one_entry)) (Entries 1 ∷ Entries 2 ∷ SettledIn 0 ∷ SettledIn 1 ∷ []) ++ map (is_over 1 (so 1 one_entry)) (Entries 2 ∷ SettledIn 1 ∷ []) ≡ true ∷ false ∷ true ∷ false ∷ true ∷ true ∷ []
unfolding so rolled one_entry
over = refl
