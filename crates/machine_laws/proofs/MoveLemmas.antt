-- What is left to move: a turn that moves something leaves less, and look-ups leave as much.
use Rattle.std.proofs.Common.{◌≡◌, ℕ, zero, suc, ◌+◌, ◌-◌, ◌<◌, ◌≤◌, List, [], ◌∷◌, ◌++◌, length, refl, sym, ap, subst, arith, ◌∙◌}
use Rattle.std.specs.Prelude.{Bool, true, false, ◌&&◌, nat_lt, is_none, is_some, if◌then◌else◌, Option, Some, None, slice_get, map, find}
use Rattle.std.proofs.lemmas.Bool.{and_parts, ltb-true, true≢false, false≢true}
use Rattle.std.proofs.lemmas.Option.{none-some, same_Some}
use Rattle.session_model.specs.declared.session.Session.{Session}
use Rattle.engine_model.specs.Changes.{changed_at}
use Rattle.engine_model.specs.Items.{Kind}
use Rattle.machine_model.specs.Core.{TrackState, Core}
use Rattle.machine_model.specs.Events.{Event, Publish, EnterButler, Send, Flush, EnterProcess, Look, Capture, End, AckSend, AckTake, can, done, step, after, due_of, has_room, sent_one, looked_once}
use Rattle.machine_model.specs.Letters.{butler_begins, butler_moves, first_move, looks_of, track_places}
use Rattle.machine_laws.specs.Ends.{most_ever, left_to_move, TurnsLeaveLess, LooksLeaveAsMuch}
use Rattle.machine_laws.specs.Stands.{Stands}
use Rattle.machine_laws.proofs.EventLists.{changed_slice}
use Rattle.machine_laws.proofs.EventLemmas.{every_event, every_list_on}
use Rattle.machine_laws.proofs.LookLemmas.{looked_times, looked_fully, gather_done}
use Rattle.machine_laws.proofs.SerialTurns.{is_moving, moves_so, turned, turn_makes, idle_is}
use Rattle.machine_laws.proofs.StandingLemmas.{few_are_ever_sent}
use Rattle.machine_laws.proofs.Tracks.{at_place}
use Rattle.machine_laws.proofs.TurnLemmas.{begun_turn, turn_begins}

-- of one track
abbrev left_of : ℕ → TrackState → ℕ
left_of most x = (most - length x.sent) + (length x.put - x.flushed)

less_changed : (most : ℕ) (f : TrackState → TrackState) (t : ℕ) (xs : List TrackState) (x : TrackState) → slice_get xs t ≡ Some x → left_of most (f x) < left_of most x →
    left_to_move most (changed_at f t xs) < left_to_move most xs
less_changed most f t [] x there lt = absurd (none-some x there)
less_changed most f zero (y ∷ ys) x there lt = add (left_of most (f y)) (left_of most y) (left_to_move most ys) (subst (λ z. left_of most (f z) < left_of most z) (sym (same_Some y x there)) lt)
  where
    add : (a b c : ℕ) → a < b → a + c < b + c
    add a b c h = omega (arith, h)
less_changed most f (suc t) (y ∷ ys) x there lt = add (left_of most y) (left_to_move most (changed_at f t ys)) (left_to_move most ys) (less_changed most f t ys x there lt)
  where
    add : (a b c : ℕ) → b < c → a + b < a + c
    add a b c h = omega (arith, h)

some_item : (o : Option Kind) → is_some o ≡ true → (item : Kind) × (o ≡ Some item)
some_item None e = absurd (false≢true e)
some_item (Some x) e = (x, refl)

-- an event that the butler can do leaves less
event_leaves_less : (session : Session) (cycles : ℕ) (c : Core) (event : Event) → Stands session cycles c → is_moving event ≡ true → can session cycles c event ≡ true →
    left_to_move (most_ever cycles c) (step session cycles c event).tracks < left_to_move (most_ever cycles c) c.tracks
event_leaves_less session cycles c (Send t) s moving may = subst (λ d. left_to_move (most_ever cycles c) d.tracks < left_to_move (most_ever cycles c) c.tracks)
    (sym (ap (λ b. if b then done session cycles c (Send t) else c) may))
    (less_changed (most_ever cycles c) (λ x. sent_one (due_of session cycles c t x) x) t c.tracks there.0 there.1
    (by (some_item (due_of session cycles c t there.0) (and_parts (has_room session there.0) (is_some (due_of session cycles c t there.0)) there.2).1)))
  where
    there : (x : TrackState) × (slice_get c.tracks t ≡ Some x) × (has_room session x && is_some (due_of session cycles c t x) ≡ true)
    there = at_place c.tracks t (λ x. has_room session x && is_some (due_of session cycles c t x)) may

    most : (item : Kind) × (due_of session cycles c t there.0 ≡ Some item) → suc (length there.0.sent) ≤ most_ever cycles c
    most one = subst (λ o. length (sent_one o there.0).sent ≤ most_ever cycles c) one.1
        (few_are_ever_sent session cycles (done session cycles c (Send t)) t (sent_one (due_of session cycles c t there.0) there.0)
        (subst (Stands session cycles) (ap (λ b. if b then done session cycles c (Send t) else c) may) (every_event session cycles c (Send t) s))
        (changed_slice (λ x. sent_one (due_of session cycles c t x) x) t c.tracks there.0 there.1))

    by : (item : Kind) × (due_of session cycles c t there.0 ≡ Some item) → left_of (most_ever cycles c) (sent_one (due_of session cycles c t there.0) there.0) < left_of (most_ever cycles c) there.0
    by one = subst (λ o. left_of (most_ever cycles c) (sent_one o there.0) < left_of (most_ever cycles c) there.0) (sym one.1)
        (less (most_ever cycles c) (length there.0.sent) (length there.0.put - there.0.flushed) (most one))
      where
        less : (m n b : ℕ) → suc n ≤ m → (m - suc n) + b < (m - n) + b
        less m n b h = omega (arith, h)
event_leaves_less session cycles c (Flush t) s moving may = subst (λ d. left_to_move (most_ever cycles c) d.tracks < left_to_move (most_ever cycles c) c.tracks)
    (sym (ap (λ b. if b then done session cycles c (Flush t) else c) may))
    (less_changed (most_ever cycles c) (λ x. record x { flushed = suc x.flushed }) t c.tracks there.0 there.1
    (less (most_ever cycles c - length there.0.sent) there.0.flushed (length there.0.put) (ltb-true there.0.flushed (length there.0.put) there.2)))
  where
    there : (x : TrackState) × (slice_get c.tracks t ≡ Some x) × (nat_lt x.flushed (length x.put) ≡ true)
    there = at_place c.tracks t (λ x. nat_lt x.flushed (length x.put)) may

    less : (a f p : ℕ) → f < p → a + (p - suc f) < a + (p - f)
    less a f p h = omega (arith, h)
event_leaves_less session cycles c (Publish edit) s moving may = absurd (false≢true moving)
event_leaves_less session cycles c EnterButler s moving may = absurd (false≢true moving)
event_leaves_less session cycles c EnterProcess s moving may = absurd (false≢true moving)
event_leaves_less session cycles c (Look t) s moving may = absurd (false≢true moving)
event_leaves_less session cycles c (Capture t) s moving may = absurd (false≢true moving)
event_leaves_less session cycles c End s moving may = absurd (false≢true moving)
event_leaves_less session cycles c (AckSend side) s moving may = absurd (false≢true moving)
event_leaves_less session cycles c (AckTake side) s moving may = absurd (false≢true moving)

-- what a turn finds can be done
found_can : {X : Type 0} (p : X → Bool) (xs : List X) (x : X) → find p xs ≡ Some x → p x ≡ true
found_can p [] x e = absurd (none-some x e)
found_can p (y ∷ ys) x e = by (p y) refl (found_can p ys x) e
  where
    by : (b : Bool) → p y ≡ b → (find p ys ≡ Some x → p x ≡ true) → (if b then Some y else find p ys) ≡ Some x → p x ≡ true
    by true is rest at = subst (λ z. p z ≡ true) (same_Some y x at) is
    by false is rest at = rest at

pub moves_less : (session : Session) (cycles : ℕ) (c : Core) (event : Event) → Stands session cycles c → first_move session cycles (begun_turn c) ≡ Some event →
    left_to_move (most_ever cycles c) (after session cycles c (butler_moves session cycles c)).tracks < left_to_move (most_ever cycles c) c.tracks
moves_less session cycles c event s is = subst (λ d. left_to_move (most_ever cycles c) d.tracks < left_to_move (most_ever cycles c) c.tracks)
    (sym (turn_makes session cycles c s ∙ ap (turned session cycles c) is))
    (event_leaves_less session cycles (begun_turn c) event (subst (Stands session cycles) (turn_begins session cycles c s.to_butler.taken) (every_list_on session cycles c (butler_begins c) s))
    (moves_so session cycles (begun_turn c) event is) (found_can (can session cycles (begun_turn c)) (map Flush (track_places c) ++ map Send (track_places c)) event is))

pub turns_leave_less : TurnsLeaveLess
turns_leave_less session cycles c s busy = by (first_move session cycles (begun_turn c)) refl (sym (idle_is session cycles c s) ∙ busy)
  where
    by : (o : Option Event) → first_move session cycles (begun_turn c) ≡ o → is_none (first_move session cycles (begun_turn c)) ≡ false →
        left_to_move (most_ever cycles c) (after session cycles c (butler_moves session cycles c)).tracks < left_to_move (most_ever cycles c) c.tracks
    by None is e = absurd (true≢false (sym (ap (λ o. is_none o) is) ∙ e))
    by (Some event) is e = moves_less session cycles c event s is

-- ---- look-ups

same_left : (most n : ℕ) (x : TrackState) → left_of most (looked_times n x) ≡ left_of most x
same_left most zero x = refl
same_left most (suc n) x = same_left most n (looked_once x) ∙ by (nat_lt x.received (length x.sent))
  where
    by : (b : Bool) → left_of most (if b then record x { received = suc x.received; ended = false } else record x { tails = x.received ∷ x.tails; ended = true }) ≡ left_of most x
    by true = refl
    by false = refl

same_left_all : (session : Session) (c : Core) (most : ℕ) (xs : List TrackState) → left_to_move most (map (looked_fully session c) xs) ≡ left_to_move most xs
same_left_all session c most [] = refl
same_left_all session c most (x ∷ xs) = ap (λ n. n + left_to_move most (map (looked_fully session c) xs)) (same_left most (looks_of session c x) x)
    ∙ ap (λ n. left_of most x + n) (same_left_all session c most xs)

pub looks_leave_as_much : LooksLeaveAsMuch
looks_leave_as_much session cycles c s open_now = ap (λ d. left_to_move (most_ever cycles c) d.tracks) (gather_done session cycles c open_now (λ i x e. (s.playback i x e).received))
    ∙ same_left_all session c (most_ever cycles c) c.tracks
