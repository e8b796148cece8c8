-- The butler's turns in a run on one thread: what each moves, and that it keeps what was sent near.
use Rattle.std.proofs.Common.{◌≡◌, ℕ, zero, suc, ◌+◌, ◌<◌, List, [], ◌∷◌, ◌++◌, length, refl, sym, ap, subst, arith, ◌∙◌}
use Rattle.std.specs.Prelude.{Bool, true, false, ◌&&◌, not, if◌then◌else◌, is_none, Option, Some, None, slice_get, map, find}
use Rattle.std.specs.List.{list_all, range_with_len}
use Rattle.std.proofs.lemmas.Bool.{and_parts, and_from, not-true, not_from_false, false≢true}
use Rattle.std.proofs.lemmas.List.Folds.{list_all-append, list_all-map}
use Rattle.std.proofs.lemmas.Option.{none-some, same_Some}
use Rattle.session_model.specs.declared.session.Session.{Session}
use Rattle.session_model.specs.Lists.{EachAt}
use Rattle.engine_model.specs.Due.{next_block}
use Rattle.engine_model.specs.Edits.{generation}
use Rattle.engine_model.specs.Items.{Kind}
use Rattle.engine_model.specs.Journal.{rolled}
use Rattle.engine_laws.proofs.PlainLemmas.{range_step}
use Rattle.machine_model.specs.Core.{Core, TrackState, acks_taken}
use Rattle.machine_model.specs.Events.{Event, Publish, EnterButler, Send, Flush, EnterProcess, Look, Capture, End, AckSend, AckTake, can, done, step, after, due_of, sent_one}
use Rattle.machine_model.specs.Letters.{butler_begins, butler_moves, first_move, one_move, is_idle, track_places}
use Rattle.machine_laws.specs.Stands.{Stands}
use Rattle.machine_laws.proofs.EventLemmas.{every_event, every_list_on}
use Rattle.machine_laws.proofs.EventLists.{after_append}
use Rattle.machine_laws.proofs.NearLemmas.{IsNear, near_entered, near_sent}
use Rattle.machine_laws.proofs.SerialStates.{IsSerial, NearAt, IsInCycle}
use Rattle.machine_laws.proofs.Tracks.{each_changed}
use Rattle.machine_laws.proofs.TurnLemmas.{begun_turn, turn_begins, all_taken}

-- ---- what a turn finds

abbrev pub is_moving : Event → Bool
is_moving (Send t) = true
is_moving (Flush t) = true
is_moving event = false

all_from : (p : ℕ → Bool) (t n : ℕ) → ((i : ℕ) → p i ≡ true) → list_all p (range_with_len t n) ≡ true
all_from p t zero each = refl
all_from p t (suc n) each = ap (list_all p) (range_step t n) ∙ and_from (p t) (list_all p (range_with_len (suc t) n)) (each t) (all_from p (suc t) n each)

found_is : {X : Type 0} (p q : X → Bool) (xs : List X) (x : X) → list_all q xs ≡ true → find p xs ≡ Some x → q x ≡ true
found_is p q [] x all e = absurd (none-some x e)
found_is p q (y ∷ ys) x all e = let parts = and_parts (q y) (list_all q ys) all in by (p y) parts.0 (λ e'. found_is p q ys x parts.1 e') e
  where
    by : (b : Bool) → q y ≡ true → (find p ys ≡ Some x → q x ≡ true) → (if b then Some y else find p ys) ≡ Some x → q x ≡ true
    by true here rest at = subst (λ z. q z ≡ true) (same_Some y x at) here
    by false here rest at = rest at

found_none : {X : Type 0} (p : X → Bool) (xs : List X) → find p xs ≡ None → list_all (λ x. not (p x)) xs ≡ true
found_none p [] e = refl
found_none p (y ∷ ys) e = by (p y) refl (found_none p ys) e
  where
    by : (b : Bool) → p y ≡ b → (find p ys ≡ None → list_all (λ x. not (p x)) ys ≡ true) → (if b then Some y else find p ys) ≡ None → not (p y) && list_all (λ x. not (p x)) ys ≡ true
    by true is rest at = absurd (none-some y (sym at))
    by false is rest at = and_from (not (p y)) (list_all (λ x. not (p x)) ys) (not_from_false (p y) is) (rest at)

at_range : (p : ℕ → Bool) (t n i : ℕ) → list_all p (range_with_len t n) ≡ true → i < n → p (i + t) ≡ true
at_range p t zero i all lt = absurd (omega (arith, lt))
at_range p t (suc n) zero all lt = subst (λ k. p k ≡ true) (here t) (and_parts (p t) (list_all p (range_with_len (suc t) n)) (sym (ap (list_all p) (range_step t n)) ∙ all)).0
  where
    here : (t : ℕ) → t ≡ 0 + t
    here t = omega arith
at_range p t (suc n) (suc i) all lt = subst (λ k. p k ≡ true) (next i t)
    (at_range p (suc t) n i (and_parts (p t) (list_all p (range_with_len (suc t) n)) (sym (ap (list_all p) (range_step t n)) ∙ all)).1 (omega (arith, lt)))
  where
    next : (i t : ℕ) → i + suc t ≡ suc i + t
    next i t = omega arith

-- what it moves is sent or flushed,
pub moves_so : (session : Session) (cycles : ℕ) (c : Core) (event : Event) → first_move session cycles c ≡ Some event → is_moving event ≡ true
moves_so session cycles c event e = found_is (can session cycles c) is_moving (map Flush (track_places c) ++ map Send (track_places c)) event
    (list_all-append is_moving (map Flush (track_places c)) (map Send (track_places c))
    ∙ and_from (list_all is_moving (map Flush (track_places c))) (list_all is_moving (map Send (track_places c)))
    (list_all-map is_moving Flush (track_places c) ∙ all_from (λ i. true) 0 (length c.tracks) (λ i. refl))
    (list_all-map is_moving Send (track_places c) ∙ all_from (λ i. true) 0 (length c.tracks) (λ i. refl))) e

-- and where it moves nothing, nothing can be
pub none_moves : (session : Session) (cycles : ℕ) (c : Core) (t : ℕ) → first_move session cycles c ≡ None → t < length c.tracks →
    (can session cycles c (Flush t) ≡ false) × (can session cycles c (Send t) ≡ false)
none_moves session cycles c t e lt = let all = found_none (can session cycles c) (map Flush (track_places c) ++ map Send (track_places c)) e in
    let parts = and_parts (list_all (λ x. not (can session cycles c x)) (map Flush (track_places c))) (list_all (λ x. not (can session cycles c x)) (map Send (track_places c)))
    (sym (list_all-append (λ x. not (can session cycles c x)) (map Flush (track_places c)) (map Send (track_places c))) ∙ all) in (
      not-true (can session cycles c (Flush t)) (at_zero (λ i. not (can session cycles c (Flush i))) (sym (list_all-map (λ x. not (can session cycles c x)) Flush (track_places c)) ∙ parts.0)),
      not-true (can session cycles c (Send t)) (at_zero (λ i. not (can session cycles c (Send i))) (sym (list_all-map (λ x. not (can session cycles c x)) Send (track_places c)) ∙ parts.1)),
    )
  where
    at_zero : (p : ℕ → Bool) → list_all p (track_places c) ≡ true → p t ≡ true
    at_zero p h = subst (λ k. p k ≡ true) (none t) (at_range p 0 (length c.tracks) t h lt)
      where
        none : (t : ℕ) → t + 0 ≡ t
        none t = omega arith

-- ---- a turn begins

pub turn_serial : (session : Session) (cycles : ℕ) (c : Core) → IsSerial session cycles c → IsSerial session cycles (begun_turn c)
turn_serial session cycles c s = record {
  stands = subst (Stands session cycles) (turn_begins session cycles c s.stands.to_butler.taken) (every_list_on session cycles c (butler_begins c) s.stands);
  acks = s.acks;
  near = λ t x e. near_entered session c.edits session.depth t c.entered (length c.edits) c.entries x.sent s.stands.entered (s.stands.playback t x e).kept.from (s.near t x e);
}

-- ---- a turn moves an item

-- what an event of the butler leaves as it is
pub record Leaves (c d : Core) : Type 0 where
  pub edits : d.edits ≡ c.edits
  pub entries : d.entries ≡ c.entries
  pub entered : d.entered ≡ c.entered
  pub playing : d.playing ≡ c.playing
  pub in_cycle : d.in_cycle ≡ c.in_cycle
  pub to_butler : d.to_butler ≡ c.to_butler

leaves_itself : (c : Core) → Leaves c c
leaves_itself c = record { edits = refl; entries = refl; entered = refl; playing = refl; in_cycle = refl; to_butler = refl }

pub moved_leaves : (session : Session) (cycles : ℕ) (c : Core) (event : Event) → is_moving event ≡ true → Leaves c (step session cycles c event)
moved_leaves session cycles c (Send t) moving = by (can session cycles c (Send t))
  where
    by : (b : Bool) → Leaves c (if b then done session cycles c (Send t) else c)
    by true = record { edits = refl; entries = refl; entered = refl; playing = refl; in_cycle = refl; to_butler = refl }
    by false = leaves_itself c
moved_leaves session cycles c (Flush t) moving = by (can session cycles c (Flush t))
  where
    by : (b : Bool) → Leaves c (if b then done session cycles c (Flush t) else c)
    by true = record { edits = refl; entries = refl; entered = refl; playing = refl; in_cycle = refl; to_butler = refl }
    by false = leaves_itself c
moved_leaves session cycles c (Publish edit) moving = absurd (false≢true moving)
moved_leaves session cycles c EnterButler moving = absurd (false≢true moving)
moved_leaves session cycles c EnterProcess moving = absurd (false≢true moving)
moved_leaves session cycles c (Look t) moving = absurd (false≢true moving)
moved_leaves session cycles c (Capture t) moving = absurd (false≢true moving)
moved_leaves session cycles c End moving = absurd (false≢true moving)
moved_leaves session cycles c (AckSend side) moving = absurd (false≢true moving)
moved_leaves session cycles c (AckTake side) moving = absurd (false≢true moving)

-- what holds of each track after it, where sending and flushing keep it
moved_tracks : (session : Session) (cycles : ℕ) (c : Core) (Q : ℕ → TrackState → Type 0) (event : Event) → is_moving event ≡ true → EachAt Q c.tracks →
    ((t : ℕ) (x : TrackState) → slice_get c.tracks t ≡ Some x → Q t (sent_one (due_of session cycles c t x) x)) →
    ((t : ℕ) (x : TrackState) → slice_get c.tracks t ≡ Some x → Q t (record x { flushed = suc x.flushed })) →
    EachAt Q (step session cycles c event).tracks
moved_tracks session cycles c Q (Send t) moving each sends flushes = by (can session cycles c (Send t))
  where
    by : (b : Bool) → EachAt Q (if b then done session cycles c (Send t) else c).tracks
    by true = each_changed Q (λ x. sent_one (due_of session cycles c t x) x) t c.tracks each (sends t)
    by false = each
moved_tracks session cycles c Q (Flush t) moving each sends flushes = by (can session cycles c (Flush t))
  where
    by : (b : Bool) → EachAt Q (if b then done session cycles c (Flush t) else c).tracks
    by true = each_changed Q (λ x. record x { flushed = suc x.flushed }) t c.tracks each (flushes t)
    by false = each
moved_tracks session cycles c Q (Publish edit) moving each sends flushes = absurd (false≢true moving)
moved_tracks session cycles c Q EnterButler moving each sends flushes = absurd (false≢true moving)
moved_tracks session cycles c Q EnterProcess moving each sends flushes = absurd (false≢true moving)
moved_tracks session cycles c Q (Look t) moving each sends flushes = absurd (false≢true moving)
moved_tracks session cycles c Q (Capture t) moving each sends flushes = absurd (false≢true moving)
moved_tracks session cycles c Q End moving each sends flushes = absurd (false≢true moving)
moved_tracks session cycles c Q (AckSend side) moving each sends flushes = absurd (false≢true moving)
moved_tracks session cycles c Q (AckTake side) moving each sends flushes = absurd (false≢true moving)

-- the next block by the acknowledgements taken in a turn is the one that is next
pub next_is : (session : Session) (cycles : ℕ) (c : Core) → IsSerial session cycles c → (g : ℕ) → next_block (acks_taken (begun_turn c).to_butler) g ≡ rolled g c.entries
next_is session cycles c s g = ap (λ l. next_block l g) (all_taken c.to_butler) ∙ s.acks g

moved_near : (session : Session) (cycles : ℕ) (c : Core) (event : Event) → 0 < session.depth → is_moving event ≡ true → IsSerial session cycles c →
    EachAt (λ t x. NearAt session (begun_turn c) x) (step session cycles (begun_turn c) event).tracks
moved_near session cycles c event deep moving s = moved_tracks session cycles (begun_turn c) (λ t x. NearAt session (begun_turn c) x) event moving turned.near
    (λ t x e. sent t x (due_of session cycles (begun_turn c) t x) refl (turned.near t x e)) (λ t x e. turned.near t x e)
  where
    turned : IsSerial session cycles (begun_turn c)
    turned = turn_serial session cycles c s

    sent : (t : ℕ) (x : TrackState) (o : Option Kind) → due_of session cycles (begun_turn c) t x ≡ o → NearAt session (begun_turn c) x → NearAt session (begun_turn c) (sent_one o x)
    sent t x None is near = near
    sent t x (Some item) is near = subst (λ n. IsNear session.depth (generation c.edits (length c.edits)) n (item ∷ x.sent)) (next_is session cycles c s (generation c.edits (length c.edits)))
        (near_sent session c.edits cycles t (length c.edits) (acks_taken (begun_turn c).to_butler) x.sent item deep
        (subst (λ n. IsNear session.depth (generation c.edits (length c.edits)) n x.sent) (sym (next_is session cycles c s (generation c.edits (length c.edits)))) near) is)

near_left : (session : Session) (c d : Core) (x : TrackState) → Leaves c d → NearAt session c x → NearAt session d x
near_left session c d x l near = subst (λ es. IsNear session.depth (generation es d.entered) (rolled (generation es d.entered) d.entries) x.sent) (sym l.edits)
    (subst (λ k. IsNear session.depth (generation c.edits k) (rolled (generation c.edits k) d.entries) x.sent) (sym l.entered)
    (subst (λ es. IsNear session.depth (generation c.edits c.entered) (rolled (generation c.edits c.entered) es) x.sent) (sym l.entries) near))

pub moved_in_cycle : (session : Session) (cycles : ℕ) (c : Core) (event : Event) → 0 < session.depth → is_moving event ≡ true → IsInCycle session cycles c →
    IsInCycle session cycles (step session cycles (begun_turn c) event) × ((step session cycles (begun_turn c) event).entered ≡ length (step session cycles (begun_turn c) event).edits)
moved_in_cycle session cycles c event deep moving i = (
  record {
    serial = record {
      stands = every_event session cycles (begun_turn c) event (turn_serial session cycles c i.serial).stands;
      acks = λ g. ap (λ ring. next_block ring.sent g) left.to_butler ∙ i.serial.acks g ∙ ap (rolled g) (sym left.entries);
      near = λ t x e. near_left session (begun_turn c) (step session cycles (begun_turn c) event) x left (moved_near session cycles c event deep moving i.serial t x e);
    };
    under_way = left.in_cycle ∙ i.under_way;
    newest = left.playing ∙ i.newest ∙ ap length (sym left.edits);
    untaken = moved_tracks session cycles (begun_turn c) (λ t x. x.taking ≡ None) event moving i.untaken (λ t x e. sent x (due_of session cycles (begun_turn c) t x) ∙ i.untaken t x e) i.untaken;
  },
  left.entered ∙ ap length (sym left.edits),
)
  where
    left : Leaves (begun_turn c) (step session cycles (begun_turn c) event)
    left = moved_leaves session cycles (begun_turn c) event moving

    sent : (x : TrackState) (o : Option Kind) → (sent_one o x).taking ≡ x.taking
    sent x None = refl
    sent x (Some item) = refl

-- ---- the whole turn

-- what a turn makes, given what it moves
abbrev pub turned : Session → ℕ → Core → Option Event → Core
turned session cycles c None = begun_turn c
turned session cycles c (Some event) = step session cycles (begun_turn c) event

pub turn_makes : (session : Session) (cycles : ℕ) (c : Core) → Stands session cycles c →
    after session cycles c (butler_moves session cycles c) ≡ turned session cycles c (first_move session cycles (begun_turn c))
turn_makes session cycles c s = after_append session cycles c (butler_begins c) (one_move (first_move session cycles (after session cycles c (butler_begins c))))
    ∙ ap (λ d. after session cycles d (one_move (first_move session cycles d))) (turn_begins session cycles c s.to_butler.taken) ∙ by (first_move session cycles (begun_turn c))
  where
    by : (o : Option Event) → after session cycles (begun_turn c) (one_move o) ≡ turned session cycles c o
    by None = refl
    by (Some event) = refl

pub idle_is : (session : Session) (cycles : ℕ) (c : Core) → Stands session cycles c → is_idle session cycles c ≡ is_none (first_move session cycles (begun_turn c))
idle_is session cycles c s = ap (λ d. is_none (first_move session cycles d)) (turn_begins session cycles c s.to_butler.taken)
