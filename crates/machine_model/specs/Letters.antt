-- The five letters of a run on one thread, and the events that each stands for (own). How many these are depends on the state.
use Rattle.std.specs.Prelude.{ℕ, suc, ◌-◌, Bool, if◌then◌else◌, List, [], ◌∷◌, ◌++◌, length, map, filter, find, replicate, Option, Some, None, is_none}
use Rattle.std.specs.List.{range_with_len}
use Rattle.session_model.specs.declared.session.Session.{Session}
use Rattle.engine_model.specs.Items.{Kind}
use Rattle.engine_model.specs.Cycle.{is_held}
use Rattle.engine_model.specs.Lines.{Line}
use Rattle.machine_model.specs.Core.{TrackState, Core, at_first, unreceived_of, playing_generation, playing_block, has_held}
use Rattle.machine_model.specs.Events.{ToButler, ToControl, Event, EnterButler, Send, Flush, EnterProcess, Look, Capture, End, AckSend, AckTake, can, is_recorded, step, after}
use Rattle.machine_model.specs.Control.{Control, control_done, control_moves}

pub data Letter : Type 0 where
  -- control carries out one line
  C : Letter
  -- the butler enters and makes a turn that moves at most one item
  B : Letter
  -- the process enters; it looks once; it makes its entry
  E : Letter
  G : Letter
  P : Letter

pub record Machine : Type 0 where
  pub core : Core
  pub control : Control

abbrev pub begins : Session → List Line → Machine
begins session lines = record { core = at_first session; control = record { lines = lines; awaits = None; replies = [] } }

abbrev pub track_places : Core → List ℕ
track_places c = range_with_len 0 (length c.tracks)

-- ---- the butler

-- it enters and takes all acknowledgements
abbrev pub butler_begins : Core → List Event
butler_begins c = EnterButler ∷ replicate (length c.to_butler.sent - c.to_butler.taken) (AckTake ToButler)

-- then it flushes the first block that can be flushed, or else sends the first item that can be sent, in the order of the tracks
abbrev pub first_move : Session → ℕ → Core → Option Event
first_move session cycles c = find (can session cycles c) (map Flush (track_places c) ++ map Send (track_places c))

abbrev pub one_move : Option Event → List Event
one_move None = []
one_move (Some event) = event ∷ []

abbrev pub butler_moves : Session → ℕ → Core → List Event
butler_moves session cycles c = butler_begins c ++ one_move (first_move session cycles (after session cycles c (butler_begins c)))

-- a turn would move nothing
abbrev pub is_idle : Session → ℕ → Core → Bool
is_idle session cycles c = is_none (first_move session cycles (after session cycles c (butler_begins c)))

-- ---- the process

-- how many looks a look-up makes of these items: one for each up to one that is held, or one more that finds none
abbrev pub looks : ℕ → ℕ → ℕ → List Kind → ℕ
looks depth g s [] = 1
looks depth g s (x ∷ xs) = if is_held depth g s x then 1 else suc (looks depth g s xs)

abbrev pub looks_of : Session → Core → TrackState → ℕ
looks_of session c x = if has_held session c x then 0 else looks session.depth (playing_generation c) (playing_block c) (unreceived_of x)

-- the look-ups of tracks, of which the first is track t
abbrev pub look_ups : Session → Core → ℕ → List TrackState → List Event
look_ups session c t [] = []
look_ups session c t (x ∷ xs) = replicate (looks_of session c x) (Look t) ++ look_ups session c (suc t) xs

abbrev pub gather_moves : Session → ℕ → Core → List Event
gather_moves session cycles c = let d = step session cycles c EnterProcess in
    EnterProcess ∷ (if d.in_cycle then look_ups session d 0 d.tracks else [])

-- what a cycle does after its look: it captures the tracks that are recorded, makes its entry, and acknowledges it
abbrev pub ends_cycle : Session → Core → List Event
ends_cycle session d = if d.in_cycle then map Capture (filter (is_recorded session d) (track_places d)) ++ End ∷ AckSend ToButler ∷ AckSend ToControl ∷ [] else []

abbrev pub cycle_moves : Session → ℕ → Core → List Event
cycle_moves session cycles c = let looked = gather_moves session cycles c in looked ++ ends_cycle session (after session cycles c looked)

-- ---- a letter

abbrev pub moves : Session → ℕ → Machine → Letter → List Event
moves session cycles m C = control_moves session cycles m.core m.control
moves session cycles m B = butler_moves session cycles m.core
moves session cycles m E = EnterProcess ∷ []
moves session cycles m G = gather_moves session cycles m.core
moves session cycles m P = cycle_moves session cycles m.core

abbrev pub control_after : Session → ℕ → Machine → Letter → Control
control_after session cycles m C = control_done session cycles m.core m.control
control_after session cycles m B = m.control
control_after session cycles m E = m.control
control_after session cycles m G = m.control
control_after session cycles m P = m.control

abbrev pub by_letter : Session → ℕ → Machine → Letter → Machine
by_letter session cycles m letter = record {
  core = after session cycles m.core (moves session cycles m letter);
  control = control_after session cycles m letter;
}

abbrev pub by_letters : Session → ℕ → Machine → List Letter → Machine
by_letters session cycles m [] = m
by_letters session cycles m (letter ∷ letters) = by_letters session cycles (by_letter session cycles m letter) letters
