-- Worked runs on one thread, by their letters and their serial rest: journals, replies and rings.
use Rattle.std.proofs.Common.{◌≡◌, ℕ, zero, suc, List, [], ◌∷◌, ◌++◌, refl, true, false, codes, map, Some, reverse, length}
use Rattle.std.specs.Option.{option_map_or}
use Rattle.session_model.specs.declared.session.Session.{Session}
use Rattle.session_model.specs.declared.edit.Edit.{Edit}
use Rattle.session_model.specs.declared.edit.Edit.TheVariants.{Roll, Stop, Quit, Recording, Locate, Loop, LoopOff, Arm, Gain, Add, Connect}
use Rattle.session_model.specs.declared.route.RouteKind.TheVariants.{Track as OfTrack, Bus}
use Rattle.session_model.proofs.SessionVectors.{base, session, source, route, master, track, whole}
use Rattle.sound_model.specs.Reach.{reaches, reaches_below}
use Rattle.engine_model.specs.Refusals as refusal
use Rattle.engine_model.specs.Refusals.{NoLoop, Cycle, Far}
use Rattle.engine_model.specs.Items.{Piece, Settled}
use Rattle.engine_model.specs.Journal.{Silent, Heard, Short, Take, Off, Taken, Lost, Stopped, Seeking, Rolling, Entry, Play}
use Rattle.engine_model.specs.Plain.{Do, Wait, Sync}
use Rattle.engine_model.specs.Lines.{Line, Nothing, Says, Unread, Number, NotCommand, Long, NotText}
use Rattle.engine_model.specs.Replies.{Reply, Accepted, Refused, LineRefused, Done, Synced, NotSynced}
use Rattle.engine_model.proofs.Worked.{quieter, rolling, unrecorded}
use Rattle.machine_model.specs.Core.{TrackState}
use Rattle.machine_model.specs.Letters.{Letter, C, B, E, G, P, Machine, begins, by_letter, by_letters}
use Rattle.machine_model.specs.Rest.{Phase, Between, next_letter, is_rest}

-- ---- a run to its end

-- the letters of the serial rest, of at most so many
rest_from : ℕ → Session → ℕ → Phase → Machine → List Letter
rest_from zero s cycles phase m = []
rest_from (suc n) s cycles phase m = option_map_or (λ next. next.0 ∷ rest_from n s cycles next.1 (by_letter s cycles m next.0)) (next_letter s cycles phase m) []

run_of : Session → ℕ → List Line → List Letter → Machine
run_of s cycles lines letters = let m = by_letters s cycles (begins s lines) letters in by_letters s cycles m (rest_from 200 s cycles Between m)

run : ℕ → List Line → List Letter → Machine
run cycles lines letters = run_of base cycles lines letters

journal : Machine → List Entry
journal m = reverse m.core.entries

replies : Machine → List Reply
replies m = reverse m.control.replies

-- ---- lines

does : Edit → Line
does edit = Says (Do edit)

wait : ℕ → Line
wait n = Says (Wait n)

roll : List Line
roll = does Roll ∷ []

-- ---- entries

stopped : ℕ → ℕ → Entry
stopped r settled = record { edition = r; settled = settled; state = Stopped; notes = unrecorded Silent ∷ [] }

seeking : ℕ → ℕ → ℕ → Entry
seeking r settled tail = record { edition = r; settled = settled; state = Seeking 0 tail; notes = unrecorded Silent ∷ [] }

taking : ℕ → ℕ → Play → Take → Entry
taking r s play take = record { edition = r; settled = r; state = Rolling 0 s; notes = record { play = play; take = take } ∷ [] }

-- ---- letters

-- the first cycle has its piece, the second none, since two turns were made
short_after_first : journal (run 3 roll (C ∷ B ∷ B ∷ P ∷ P ∷ [])) ≡ rolling 1 1 0 0 (Heard 0) ∷ rolling 1 1 0 1 (Short 2) ∷ rolling 1 1 0 2 (Heard 0) ∷ []
unfolding run run_of journal roll does rest_from
short_after_first = refl

seek_one_cycle : journal (run 2 roll (C ∷ P ∷ [])) ≡ seeking 1 0 0 ∷ rolling 1 1 0 0 (Heard 0) ∷ []
unfolding run run_of journal roll does rest_from seeking
seek_one_cycle = refl

starved_at_the_start : journal (run 2 roll (P ∷ P ∷ [])) ≡ stopped 0 0 ∷ stopped 0 0 ∷ []
unfolding run run_of journal roll does rest_from stopped
starved_at_the_start = refl

starved_seeking : journal (run 3 roll (C ∷ P ∷ P ∷ P ∷ [])) ≡ seeking 1 0 0 ∷ seeking 1 0 0 ∷ seeking 1 0 0 ∷ []
unfolding run run_of journal roll does rest_from seeking
starved_seeking = refl

held : List Line
held = does Roll ∷ does (Locate 4) ∷ []

mark_held : journal (run 3 held (C ∷ B ∷ B ∷ G ∷ B ∷ P ∷ E ∷ C ∷ B ∷ B ∷ P ∷ P ∷ [])) ≡ rolling 1 1 0 0 (Heard 0) ∷ rolling 1 1 0 1 (Heard 0) ∷ rolling 2 2 1 0 (Heard 0) ∷ []
unfolding run run_of journal held does rest_from
mark_held = refl

-- after its second cycle the piece of the new generation is still in the ring, behind the mark, which is held
two_cycles_later : List TrackState
two_cycles_later = (by_letters base 3 (begins base held) (C ∷ B ∷ B ∷ G ∷ B ∷ P ∷ E ∷ C ∷ B ∷ B ∷ P ∷ [])).core.tracks

its_piece_was_sent : map (λ x. reverse x.sent) two_cycles_later ≡ (Settled 1 0 0 ∷ Piece 0 0 0 0 ∷ Piece 0 0 1 0 ∷ Settled 2 1 0 ∷ Piece 0 1 0 0 ∷ []) ∷ []
unfolding two_cycles_later held does
its_piece_was_sent = refl

and_waits : map (λ x. x.received) two_cycles_later ≡ 4 ∷ []
unfolding two_cycles_later held does
and_waits = refl

-- a piece that was sent after its cycle began is heard in an older edition than its own
heard_ahead : journal (run 1 (does Roll ∷ does quieter ∷ []) (C ∷ B ∷ B ∷ E ∷ G ∷ C ∷ B ∷ P ∷ [])) ≡ rolling 1 1 0 0 (Heard 2) ∷ []
unfolding run run_of journal does rest_from
heard_ahead = refl

-- ---- takes

recording : List Line
recording = does (Arm (codes "t") true) ∷ does (Recording true) ∷ does Roll ∷ []

lost_block : journal (run 3 recording (C ∷ C ∷ C ∷ B ∷ B ∷ P ∷ P ∷ P ∷ [])) ≡ taking 3 0 (Heard 0) (Taken 1 0) ∷ taking 3 1 (Short 2) (Taken 1 1) ∷ taking 3 2 (Short 2) (Lost 1 2 0) ∷ []
unfolding run run_of journal recording does rest_from taking
lost_block = refl

-- the ring of 2 was full when nothing had been flushed
found_full : map (λ x. length x.put ∷ x.heads) (run 3 recording (C ∷ C ∷ C ∷ B ∷ B ∷ P ∷ P ∷ P ∷ [])).core.tracks ≡ (2 ∷ 0 ∷ []) ∷ []
unfolding run run_of recording does rest_from
found_full = refl

record_one_take : journal (run 2 recording []) ≡ taking 3 0 (Heard 0) (Taken 1 0) ∷ taking 3 1 (Heard 0) (Taken 1 1) ∷ []
unfolding run run_of journal recording does rest_from taking
record_one_take = refl

middle_edition_unheard : journal (run 2 (recording ++ wait 1 ∷ does (Recording false) ∷ does (Recording true) ∷ []) []) ≡ taking 3 0 (Heard 0) (Taken 1 0) ∷ taking 5 1 (Heard 0) (Taken 1 1) ∷ []
unfolding run run_of journal recording does wait rest_from taking
middle_edition_unheard = refl

two_takes : journal (run 3 (recording ++ wait 1 ∷ does (Recording false) ∷ wait 1 ∷ does (Recording true) ∷ []) [])
    ≡ taking 3 0 (Heard 0) (Taken 1 0) ∷ taking 4 1 (Heard 0) Off ∷ taking 5 2 (Heard 0) (Taken 2 0) ∷ []
unfolding run run_of journal recording does wait rest_from taking
two_takes = refl

-- ---- control

exported : journal (run 2 (does (Locate 0) ∷ roll) []) ≡ rolling 2 2 1 0 (Heard 0) ∷ rolling 2 2 1 1 (Heard 0) ∷ []
unfolding run run_of journal roll does rest_from
exported = refl

without_tracks : journal (run_of (session [] (master ∷ []) []) 1 (does (Locate 0) ∷ roll) []) ≡ record { edition = 2; settled = 2; state = Rolling 1 0; notes = [] } ∷ []
unfolding run_of journal roll does rest_from
without_tracks = refl

loop_from_start : journal (run 2 (does (Loop 2 5) ∷ roll) []) ≡ rolling 2 2 1 0 (Heard 0) ∷ rolling 2 2 1 1 (Heard 0) ∷ []
unfolding run run_of journal roll does rest_from
loop_from_start = refl

wait_then_locate : Machine
wait_then_locate = run 2 (does Roll ∷ wait 1 ∷ does (Locate 4) ∷ wait 1 ∷ does Quit ∷ []) []

located_in_time : journal wait_then_locate ≡ rolling 1 1 0 0 (Heard 0) ∷ rolling 2 2 1 0 (Heard 0) ∷ []
unfolding wait_then_locate run run_of journal does wait rest_from
located_in_time = refl

and_answered : replies wait_then_locate ≡ Accepted 1 ∷ Done ∷ Accepted 2 ∷ Done ∷ Accepted 3 ∷ []
unfolding wait_then_locate run run_of replies does wait rest_from
and_answered = refl

overwrite_heard : journal (run 2 (does Roll ∷ wait 1 ∷ does quieter ∷ wait 1 ∷ []) []) ≡ rolling 1 1 0 0 (Heard 0) ∷ rolling 2 2 0 1 (Heard 2) ∷ []
unfolding run run_of journal does wait rest_from
overwrite_heard = refl

sync_both_ways : replies (run 1 (does Roll ∷ Says Sync ∷ does Stop ∷ Says Sync ∷ []) []) ≡ Accepted 1 ∷ Synced 1 1 ∷ Accepted 2 ∷ NotSynced 2 ∷ []
unfolding run run_of replies does rest_from
sync_both_ways = refl

quit_at_once : Machine
quit_at_once = run 2 (does Quit ∷ does Roll ∷ []) []

no_entry : journal quit_at_once ≡ []
unfolding quit_at_once run run_of journal does rest_from
no_entry = refl

one_answer : replies quit_at_once ≡ Accepted 1 ∷ []
unfolding quit_at_once run run_of replies does rest_from
one_answer = refl

loop_off : replies (run 2 (does LoopOff ∷ does (Loop 2 5) ∷ does LoopOff ∷ roll) []) ≡ Refused NoLoop ∷ Accepted 1 ∷ Accepted 2 ∷ Accepted 3 ∷ []
unfolding run run_of replies roll does rest_from
loop_off = refl

add_far : replies (run 1 (does (Add (codes "t") 9 (codes "a") 0 2 1099511627775 0) ∷ does (Add (codes "t") 9 (codes "a") 0 1 1099511627775 0) ∷ []) [])
    ≡ Refused (Far 1099511627775) ∷ Accepted 1 ∷ []
unfolding run run_of replies does rest_from
add_far = refl

hostile_lines : replies (run 1 (Unread Long ∷ does Roll ∷ Nothing ∷ Unread NotText ∷ Unread (Number 3) ∷ does (Gain (codes "t") 262145) ∷ []) [])
    ≡ LineRefused Long ∷ Accepted 1 ∷ LineRefused NotText ∷ LineRefused (Number 3) ∷ Refused (refusal.Gain 262145) ∷ []
unfolding run run_of replies does rest_from
hostile_lines = refl

three_refused_lines : replies (run 1 (does (Gain (codes "t") 262145) ∷ Unread (Number 2) ∷ Unread NotCommand ∷ []) []) ≡ Refused (refusal.Gain 262145) ∷ LineRefused (Number 2) ∷ LineRefused NotCommand ∷ []
unfolding run run_of replies does rest_from
three_refused_lines = refl

-- two busses, of which the second leads to the first
busses : Session
busses = session (source (codes "a") ∷ []) (route (codes "t") (OfTrack 0) (Some 3) ∷ route (codes "b1") Bus (Some 3) ∷ route (codes "b2") Bus (Some 1) ∷ master ∷ []) (track 0 (whole ∷ []) ∷ [])

cycle_refused : Machine
cycle_refused = run_of busses 1 (does (Connect (codes "b1") (codes "b2")) ∷ []) []

its_answer : replies cycle_refused ≡ Refused (Cycle (codes "b1")) ∷ []
unfolding cycle_refused busses run_of replies does rest_from reaches reaches_below
its_answer = refl

its_entry : journal cycle_refused ≡ stopped 0 0 ∷ []
unfolding cycle_refused busses run_of journal does rest_from stopped reaches reaches_below
its_entry = refl

-- a line that says nothing uses its letter up
one_letter_a_line : replies (by_letters base 1 (begins base (Nothing ∷ roll)) (C ∷ [])) ∷ replies (by_letters base 1 (begins base (Nothing ∷ roll)) (C ∷ C ∷ [])) ∷ [] ≡ [] ∷ (Accepted 1 ∷ []) ∷ []
unfolding replies roll does
one_letter_a_line = refl

-- a wait that isn't over stands; the letter that finds it over answers it and carries out the next line
a_wait_stands : replies (by_letters base 2 (begins base (wait 1 ∷ roll)) (C ∷ C ∷ C ∷ [])) ∷ replies (by_letters base 2 (begins base (wait 1 ∷ roll)) (C ∷ P ∷ C ∷ [])) ∷ [] ≡ [] ∷ (Done ∷ Accepted 1 ∷ []) ∷ []
unfolding replies roll wait does
a_wait_stands = refl

-- ---- the serial rest is one list of letters

whole_rest : is_rest base 1 (begins base []) (E ∷ B ∷ G ∷ B ∷ G ∷ B ∷ P ∷ B ∷ []) ≡ true
whole_rest = refl

no_other_rest : map (is_rest base 1 (begins base [])) ((E ∷ B ∷ G ∷ B ∷ G ∷ B ∷ P ∷ []) ∷ (E ∷ B ∷ G ∷ B ∷ G ∷ B ∷ P ∷ B ∷ B ∷ []) ∷ (E ∷ B ∷ G ∷ B ∷ P ∷ B ∷ []) ∷ (B ∷ []) ∷ [] ∷ [])
    ≡ false ∷ false ∷ false ∷ false ∷ false ∷ []
no_other_rest = refl

-- after an accepted quit no cycle runs serially, not even one that was open; by a letter that one still runs
open_at_the_quit : journal (run 2 (does Roll ∷ does Quit ∷ []) (E ∷ C ∷ C ∷ [])) ∷ journal (run 2 (does Roll ∷ does Quit ∷ []) (E ∷ C ∷ C ∷ P ∷ [])) ∷ [] ≡ [] ∷ (stopped 0 0 ∷ []) ∷ []
unfolding run run_of journal does rest_from stopped
open_at_the_quit = refl

-- the last turns go on until one is idle
last_turns : map (is_rest base 2 (begins base (does Quit ∷ []))) ((C ∷ B ∷ B ∷ B ∷ []) ∷ (C ∷ B ∷ []) ∷ (C ∷ B ∷ B ∷ []) ∷ (C ∷ E ∷ B ∷ []) ∷ []) ≡ true ∷ false ∷ false ∷ false ∷ []
unfolding does
last_turns = refl
