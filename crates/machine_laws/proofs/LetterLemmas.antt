-- What letters leave: only a letter of control publishes an edit.
use Rattle.std.proofs.Common.{◌≡◌, ℕ, zero, suc, ◌-◌, List, [], ◌∷◌, ◌++◌, length, refl, ◌∙◌}
use Rattle.std.specs.Prelude.{Bool, true, false, if◌then◌else◌, Option, Some, None, map, filter, replicate}
use Rattle.std.specs.List.{list_all}
use Rattle.std.proofs.lemmas.Bool.{and_parts, and_from, false≢true}
use Rattle.std.proofs.lemmas.List.Folds.{list_all-append}
use Rattle.session_model.specs.declared.session.Session.{Session}
use Rattle.machine_model.specs.Core.{Core, TrackState}
use Rattle.machine_model.specs.Events.{Event, ToButler, ToControl, Publish, EnterButler, Send, Flush, EnterProcess, Look, Capture, End, AckSend, AckTake, can, done, step, after, is_recorded}
use Rattle.machine_model.specs.Letters.{Letter, C, B, E, G, P, butler_begins, one_move, first_move, butler_moves, looks_of, look_ups, gather_moves, ends_cycle, cycle_moves, track_places}
use Rattle.machine_model.specs.Rest.{is_letter}
use Rattle.machine_laws.proofs.SerialTurns.{is_moving, moves_so}

-- ---- the test of a letter

pub letter_is : (a b : Letter) → is_letter a b ≡ true → a ≡ b
letter_is C C h = refl
letter_is B B h = refl
letter_is E E h = refl
letter_is G G h = refl
letter_is P P h = refl
letter_is a b h = absurd (false≢true h)

pub itself : (letter : Letter) → is_letter letter letter ≡ true
itself C = refl
itself B = refl
itself E = refl
itself G = refl
itself P = refl

-- ---- the edits

abbrev pub is_other : Event → Bool
is_other (Publish edit) = false
is_other event = true

-- an event that isn't control's leaves the edits
pub step_edits : (session : Session) (cycles : ℕ) (c : Core) (event : Event) → is_other event ≡ true → (step session cycles c event).edits ≡ c.edits
step_edits session cycles c event other = by (can session cycles c event)
  where
    does : (event : Event) → is_other event ≡ true → (done session cycles c event).edits ≡ c.edits
    does (Publish edit) e = absurd (false≢true e)
    does EnterButler e = refl
    does (Send t) e = refl
    does (Flush t) e = refl
    does EnterProcess e = refl
    does (Look t) e = refl
    does (Capture t) e = refl
    does End e = refl
    does (AckSend ToButler) e = refl
    does (AckSend ToControl) e = refl
    does (AckTake ToButler) e = refl
    does (AckTake ToControl) e = refl

    by : (b : Bool) → (if b then done session cycles c event else c).edits ≡ c.edits
    by true = does event other
    by false = refl

pub after_edits : (session : Session) (cycles : ℕ) (c : Core) (events : List Event) → list_all is_other events ≡ true → (after session cycles c events).edits ≡ c.edits
after_edits session cycles c [] others = refl
after_edits session cycles c (event ∷ events) others = let parts = and_parts (is_other event) (list_all is_other events) others in
    after_edits session cycles (step session cycles c event) events parts.1 ∙ step_edits session cycles c event parts.0

-- ---- the letters of the butler and the process have no other events

both_of : (xs ys : List Event) → list_all is_other xs ≡ true → list_all is_other ys ≡ true → list_all is_other (xs ++ ys) ≡ true
both_of xs ys a b = list_all-append is_other xs ys ∙ and_from (list_all is_other xs) (list_all is_other ys) a b

repeated : (n : ℕ) (event : Event) → is_other event ≡ true → list_all is_other (replicate n event) ≡ true
repeated zero event e = refl
repeated (suc n) event e = and_from (is_other event) (list_all is_other (replicate n event)) e (repeated n event e)

moving_is_other : (event : Event) → is_moving event ≡ true → is_other event ≡ true
moving_is_other (Send t) e = refl
moving_is_other (Flush t) e = refl
moving_is_other (Publish edit) e = absurd (false≢true e)
moving_is_other EnterButler e = refl
moving_is_other EnterProcess e = refl
moving_is_other (Look t) e = refl
moving_is_other (Capture t) e = refl
moving_is_other End e = refl
moving_is_other (AckSend side) e = refl
moving_is_other (AckTake side) e = refl

pub butler_others : (session : Session) (cycles : ℕ) (c : Core) → list_all is_other (butler_moves session cycles c) ≡ true
butler_others session cycles c = both_of (butler_begins c) (one_move (first_move session cycles (after session cycles c (butler_begins c))))
    (repeated (length c.to_butler.sent - c.to_butler.taken) (AckTake ToButler) refl) (by (first_move session cycles (after session cycles c (butler_begins c))) refl)
  where
    by : (o : Option Event) → first_move session cycles (after session cycles c (butler_begins c)) ≡ o → list_all is_other (one_move o) ≡ true
    by None is = refl
    by (Some event) is = and_from (is_other event) true (moving_is_other event (moves_so session cycles (after session cycles c (butler_begins c)) event is)) refl

looks_others : (session : Session) (c : Core) (t : ℕ) (xs : List TrackState) → list_all is_other (look_ups session c t xs) ≡ true
looks_others session c t [] = refl
looks_others session c t (x ∷ xs) = both_of (replicate (looks_of session c x) (Look t)) (look_ups session c (suc t) xs) (repeated (looks_of session c x) (Look t) refl)
    (looks_others session c (suc t) xs)

pub gather_others : (session : Session) (cycles : ℕ) (c : Core) → list_all is_other (gather_moves session cycles c) ≡ true
gather_others session cycles c = by (step session cycles c EnterProcess).in_cycle
  where
    by : (b : Bool) → list_all is_other (if b then look_ups session (step session cycles c EnterProcess) 0 (step session cycles c EnterProcess).tracks else []) ≡ true
    by true = looks_others session (step session cycles c EnterProcess) 0 (step session cycles c EnterProcess).tracks
    by false = refl

captures_others : (ts : List ℕ) → list_all is_other (map Capture ts) ≡ true
captures_others [] = refl
captures_others (t ∷ ts) = captures_others ts

pub cycle_others : (session : Session) (cycles : ℕ) (c : Core) → list_all is_other (cycle_moves session cycles c) ≡ true
cycle_others session cycles c = both_of (gather_moves session cycles c) (ends_cycle session (after session cycles c (gather_moves session cycles c))) (gather_others session cycles c)
    (by (after session cycles c (gather_moves session cycles c)) (after session cycles c (gather_moves session cycles c)).in_cycle)
  where
    by : (d : Core) (b : Bool) → list_all is_other (if b then map Capture (filter (is_recorded session d) (track_places d)) ++ End ∷ AckSend ToButler ∷ AckSend ToControl ∷ [] else []) ≡ true
    by d true = both_of (map Capture (filter (is_recorded session d) (track_places d))) (End ∷ AckSend ToButler ∷ AckSend ToControl ∷ [])
        (captures_others (filter (is_recorded session d) (track_places d))) refl
    by d false = refl
