-- The turns and looks of a cycle, and the last turns of a run, come to an end: each turn that moves something leaves less.
use Rattle.std.proofs.Common.{◌≡◌, inl, inr, ℕ, zero, suc, ◌+◌, ◌*◌, ◌<◌, ◌≤◌, List, [], ◌∷◌, ◌++◌, length, refl, sym, ap, subst, arith, ◌∙◌}
use Rattle.std.specs.Prelude.{◌⊎◌, Bool, true, false, ◌&&◌, ◌||◌, not, nat_le, nat_lt, if◌then◌else◌, is_none, Option, Some, None, map, filter}
use Rattle.std.proofs.lemmas.Bool.{and_from, not_from_true}
use Rattle.session_model.specs.declared.session.Session.{Session}
use Rattle.engine_model.specs.Edits.{has_quit}
use Rattle.engine_model.specs.Lines.{Line}
use Rattle.machine_model.specs.Core.{Core}
use Rattle.machine_model.specs.Control.{Awaited, Entries, SettledIn, is_played_out, is_last_settled}
use Rattle.machine_model.specs.Events.{Event, EnterProcess, Capture, End, AckSend, ToButler, ToControl, done, step, after, is_recorded}
use Rattle.machine_model.specs.Letters.{Letter, B, G, P, Machine, first_move, is_idle, butler_moves, look_ups, track_places, gather_moves, cycle_moves, ends_cycle, moves, by_letter}
use Rattle.machine_model.specs.Rest.{Phase, Between, BeforeTurn, BeforeLook, BeforeEntry, Over, Carry, Play}
use Rattle.machine_model.specs.Rest.{Finish, next_task, task_of, begin_task, next_letter, is_letter, is_next, is_rest_from}
use Rattle.machine_laws.specs.Ends.{most_ever, left_to_move}
use Rattle.machine_laws.specs.Stands.{Stands}
use Rattle.machine_laws.proofs.EntryLemmas.{cycle_makes_its_entry}
use Rattle.machine_laws.proofs.EventLemmas.{every_list_on}
use Rattle.machine_laws.proofs.EventLists.{after_append}
use Rattle.machine_laws.proofs.LetterLemmas.{itself}
use Rattle.machine_laws.proofs.LookLemmas.{gather_done}
use Rattle.machine_laws.proofs.MoveLemmas.{moves_less, looks_leave_as_much}
use Rattle.machine_laws.proofs.SerialTurns.{moves_so, moved_leaves, turned, turn_makes, idle_is}
use Rattle.machine_laws.proofs.TurnLemmas.{begun_turn}

-- letters to the end from a phase on
abbrev pub Rests : Session → ℕ → Phase → Machine → Type 0
Rests session cycles phase m = (letters : List Letter) × (is_rest_from session cycles phase m letters ≡ true)

pub one_more : (session : Session) (cycles : ℕ) (phase : Phase) (m : Machine) (letter : Letter) (next : Phase) → next_letter session cycles phase m ≡ Some (letter, next) →
    Rests session cycles next (by_letter session cycles m letter) → Rests session cycles phase m
one_more session cycles phase m letter next is rest = (
  letter ∷ rest.0,
  ap (λ o. is_next letter o (λ p. is_rest_from session cycles p (by_letter session cycles m letter) rest.0)) is
      ∙ and_from (is_letter letter letter) (is_rest_from session cycles next (by_letter session cycles m letter) rest.0) (itself letter) rest.1,
)

pub stands_on : (session : Session) (cycles : ℕ) (m : Machine) (letter : Letter) → Stands session cycles m.core → Stands session cycles (by_letter session cycles m letter).core
stands_on session cycles m letter s = every_list_on session cycles m.core (moves session cycles m letter) s

-- ---- turns

-- what a letter leaves of edits, entries, and where the process is
record Stays (c d : Core) : Type 0 where
  pub edits : d.edits ≡ c.edits
  pub entries : d.entries ≡ c.entries
  pub playing : d.playing ≡ c.playing
  pub in_cycle : d.in_cycle ≡ c.in_cycle

turn_stays : (session : Session) (cycles : ℕ) (c : Core) → Stands session cycles c → Stays c (after session cycles c (butler_moves session cycles c))
turn_stays session cycles c s = subst (Stays c) (sym (turn_makes session cycles c s)) (by (first_move session cycles (begun_turn c)) refl)
  where
    by : (o : Option Event) → first_move session cycles (begun_turn c) ≡ o → Stays c (turned session cycles c o)
    by None is = record { edits = refl; entries = refl; playing = refl; in_cycle = refl }
    by (Some event) is = let left = moved_leaves session cycles (begun_turn c) event (moves_so session cycles (begun_turn c) event is) in
        record { edits = left.edits; entries = left.entries; playing = left.playing; in_cycle = left.in_cycle }

-- ---- a cycle

-- a cycle is open, or none can be any more
abbrev pub Open : Core → Type 0
Open c = (c.in_cycle ≡ true) ⊎ ((c.in_cycle ≡ false) × (has_quit c.edits c.playing ≡ true))

-- an entry was made, or none can be any more
abbrev pub GotOn : Core → Core → Type 0
GotOn c d = (length d.entries ≡ suc (length c.entries)) ⊎ (has_quit d.edits d.playing ≡ true)

open_stays : (c d : Core) → Stays c d → Open c → Open d
open_stays c d s (inl o) = inl (s.in_cycle ∙ o)
open_stays c d s (inr o) = inr (s.in_cycle ∙ o.0, ap (λ es. has_quit es d.playing) s.edits ∙ ap (has_quit c.edits) s.playing ∙ o.1)

-- after a quit the process doesn't enter
shut_stays : (session : Session) (cycles : ℕ) (c : Core) → has_quit c.edits c.playing ≡ true → step session cycles c EnterProcess ≡ c
shut_stays session cycles c quit = ap (λ b. if b then done session cycles c EnterProcess else c)
    (none (not c.in_cycle && nat_lt (length c.entries) cycles) (not (has_quit c.edits c.playing)) (not_from_true (has_quit c.edits c.playing) quit))
  where
    none : (a b : Bool) → b ≡ false → a && b ≡ false
    none true b e = e
    none false b e = refl

gather_shut : (session : Session) (cycles : ℕ) (c : Core) → c.in_cycle ≡ false → has_quit c.edits c.playing ≡ true → after session cycles c (gather_moves session cycles c) ≡ c
gather_shut session cycles c shut quit = ap (λ d. after session cycles d (if d.in_cycle then look_ups session d 0 d.tracks else [])) (shut_stays session cycles c quit)
    ∙ ap (λ b. after session cycles c (if b then look_ups session c 0 c.tracks else [])) shut

look_stays : (session : Session) (cycles : ℕ) (c : Core) → Stands session cycles c → Open c →
    Stays c (after session cycles c (gather_moves session cycles c)) ×
    (left_to_move (most_ever cycles c) (after session cycles c (gather_moves session cycles c)).tracks ≡ left_to_move (most_ever cycles c) c.tracks)
look_stays session cycles c s (inl o) = (
  subst (Stays c) (sym (gather_done session cycles c o (λ i x e. (s.playback i x e).received))) (record { edits = refl; entries = refl; playing = refl; in_cycle = refl }),
  looks_leave_as_much session cycles c s o,
)
look_stays session cycles c s (inr o) = let same = gather_shut session cycles c o.0 o.1 in
    (subst (Stays c) (sym same) (record { edits = refl; entries = refl; playing = refl; in_cycle = refl }), ap (λ d. left_to_move (most_ever cycles c) d.tracks) same)

cycle_gets_on : (session : Session) (cycles : ℕ) (c : Core) → Stands session cycles c → Open c → GotOn c (after session cycles c (cycle_moves session cycles c))
cycle_gets_on session cycles c s (inl o) = inl (cycle_makes_its_entry session cycles c s o).one_more
cycle_gets_on session cycles c s (inr o) = inr (ap (λ d. has_quit d.edits d.playing) same ∙ o.1)
  where
    same : after session cycles c (cycle_moves session cycles c) ≡ c
    same = after_append session cycles c (gather_moves session cycles c) (ends_cycle session (after session cycles c (gather_moves session cycles c)))
        ∙ ap (λ d. after session cycles d (ends_cycle session d)) (gather_shut session cycles c o.0 o.1)
        ∙ ap (λ b. after session cycles c (if b then map Capture (filter (is_recorded session c) (track_places c)) ++ End ∷ AckSend ToButler ∷ AckSend ToControl ∷ [] else [])) o.0

-- the most and what is left are those of the edits
left_same : (cycles : ℕ) (c d : Core) → d.edits ≡ c.edits → left_to_move (most_ever cycles d) d.tracks ≡ left_to_move (most_ever cycles c) d.tracks
left_same cycles c d e = ap (λ es. left_to_move ((length es + 1) * cycles * (length es + 1) + (length es + 1)) d.tracks) e

-- what is left of a machine
abbrev left : ℕ → Machine → ℕ
left cycles m = left_to_move (most_ever cycles m.core) m.core.tracks

turn_less : (session : Session) (cycles : ℕ) (m : Machine) (event : Event) → Stands session cycles m.core → first_move session cycles (begun_turn m.core) ≡ Some event →
    left cycles (by_letter session cycles m B) < left cycles m
turn_less session cycles m event s is = subst (λ n. n < left cycles m)
    (sym (left_same cycles m.core (by_letter session cycles m B).core (turn_stays session cycles m.core s).edits)) (moves_less session cycles m.core event s is)

look_same : (session : Session) (cycles : ℕ) (m : Machine) → Stands session cycles m.core → Open m.core → left cycles (by_letter session cycles m G) ≡ left cycles m
look_same session cycles m s o = left_same cycles m.core (by_letter session cycles m G).core (look_stays session cycles m.core s o).0.edits ∙ (look_stays session cycles m.core s o).1

-- ---- turns and looks

-- a cycle from a turn on, where it is known how it goes on with less left
turn_by : (session : Session) (cycles : ℕ) (m : Machine) → Stands session cycles m.core → Open m.core →
    ((n : Machine) → Stands session cycles n.core → n.control ≡ m.control → GotOn m.core n.core → Rests session cycles Between n) →
    ((n : Machine) → Stands session cycles n.core → n.control ≡ m.control → n.core.entries ≡ m.core.entries → Open n.core → left cycles n < left cycles m → Rests session cycles BeforeTurn n) →
    Rests session cycles BeforeTurn m
turn_by session cycles m s o rest again = by (first_move session cycles (begun_turn m.core)) refl
  where
    -- after the butler's letter
    turned_on : Machine
    turned_on = by_letter session cycles m B

    stays : Stays m.core (by_letter session cycles m B).core
    stays = turn_stays session cycles m.core s

    letter : (o : Option Event) → first_move session cycles (begun_turn m.core) ≡ o → next_letter session cycles BeforeTurn m ≡ Some (B, if is_none o then BeforeEntry else BeforeLook)
    letter o is = ap (λ b. Some (B, if b then BeforeEntry else BeforeLook)) (idle_is session cycles m.core s ∙ ap (λ k. is_none k) is)

    got_on : GotOn turned_on.core (by_letter session cycles turned_on P).core → GotOn m.core (by_letter session cycles turned_on P).core
    got_on (inl e) = inl (e ∙ ap (λ es. suc (length es)) stays.entries)
    got_on (inr q) = inr q

    by : (o : Option Event) → first_move session cycles (begun_turn m.core) ≡ o → Rests session cycles BeforeTurn m
    by None is = one_more session cycles BeforeTurn m B BeforeEntry (letter None is) (one_more session cycles BeforeEntry turned_on P Between refl
        (rest (by_letter session cycles turned_on P) (stands_on session cycles turned_on P (stands_on session cycles m B s)) refl
        (got_on (cycle_gets_on session cycles turned_on.core (stands_on session cycles m B s) (open_stays m.core turned_on.core stays o)))))
    by (Some event) is = one_more session cycles BeforeTurn m B BeforeLook (letter (Some event) is) (one_more session cycles BeforeLook turned_on G BeforeTurn refl
        (again (by_letter session cycles turned_on G) (stands_on session cycles turned_on G (stands_on session cycles m B s)) refl (looks.entries ∙ stays.entries)
        (open_stays turned_on.core (by_letter session cycles turned_on G).core looks opened)
        (subst (λ n. n < left cycles m) (sym (look_same session cycles turned_on (stands_on session cycles m B s) opened)) (turn_less session cycles m event s is))))
      where
        opened : Open turned_on.core
        opened = open_stays m.core turned_on.core stays o

        looks : Stays turned_on.core (by_letter session cycles turned_on G).core
        looks = (look_stays session cycles turned_on.core (stands_on session cycles m B s) opened).0

-- turns and looks by turns until a turn moves nothing, and then the cycle's own letter
pub turns : (session : Session) (cycles p : ℕ) (m : Machine) → Stands session cycles m.core → Open m.core → left cycles m ≤ p →
    ((n : Machine) → Stands session cycles n.core → n.control ≡ m.control → GotOn m.core n.core → Rests session cycles Between n) → Rests session cycles BeforeTurn m
turns session cycles zero m s o low rest = turn_by session cycles m s o rest (λ n t e f on less. absurd (omega (arith, low, less)))
turns session cycles (suc p) m s o low rest = turn_by session cycles m s o rest (λ n t e f on less. turns session cycles p n t on (lower (left cycles n) (left cycles m) less low)
    (λ k u g got. rest k u (g ∙ e) (further n k f got)))
  where
    lower : (a b : ℕ) → a < b → b ≤ suc p → a ≤ p
    lower a b x y = omega (arith, x, y)

    further : (n k : Machine) → n.core.entries ≡ m.core.entries → GotOn n.core k.core → GotOn m.core k.core
    further n k f (inl g) = inl (g ∙ ap (λ es. suc (length es)) f)
    further n k f (inr q) = inr q

-- ---- the last turns

played_same : (cycles : ℕ) (c d : Core) → Stays c d → is_played_out cycles d ≡ is_played_out cycles c
played_same cycles c d s = ap (λ es. nat_le cycles (length es) || has_quit d.edits d.playing) s.entries
    ∙ ap (λ es. nat_le cycles (length c.entries) || has_quit es d.playing) s.edits ∙ ap (λ p. nat_le cycles (length c.entries) || has_quit c.edits p) s.playing

task_same : (cycles : ℕ) (c d : Core) → Stays c d → (awaits : Option Awaited) (lines : List Line) → next_task cycles d awaits lines ≡ next_task cycles c awaits lines
task_same cycles c d s (Some (Entries n)) lines = ap (λ b. if nat_le n (length d.entries) || b then Carry else Play) (played_same cycles c d s)
    ∙ ap (λ es. if nat_le n (length es) || is_played_out cycles c then Carry else Play) s.entries
task_same cycles c d s (Some (SettledIn k)) lines = ap (λ b. if is_last_settled k d.entries || b then Carry else Play) (played_same cycles c d s)
    ∙ ap (λ es. if is_last_settled k es || is_played_out cycles c then Carry else Play) s.entries
task_same cycles c d s None (line ∷ lines) = refl
task_same cycles c d s None [] = ap (λ b. if has_quit d.edits (length d.edits) || b then Finish else Play) (played_same cycles c d s)
    ∙ ap (λ es. if has_quit es (length es) || is_played_out cycles c then Finish else Play) s.edits

last_by : (session : Session) (cycles : ℕ) (m : Machine) → Stands session cycles m.core → task_of cycles m ≡ Finish →
    ((n : Machine) → Stands session cycles n.core → task_of cycles n ≡ Finish → left cycles n < left cycles m → Rests session cycles Between n) → Rests session cycles Between m
last_by session cycles m s task again = by (first_move session cycles (begun_turn m.core)) refl
  where
    letter : (o : Option Event) → first_move session cycles (begun_turn m.core) ≡ o → next_letter session cycles Between m ≡ Some (B, if is_none o then Over else Between)
    letter o is = ap (λ k. Some (begin_task (is_idle session cycles m.core) k)) task ∙ ap (λ b. Some (B, if b then Over else Between)) (idle_is session cycles m.core s ∙ ap (λ k. is_none k) is)

    by : (o : Option Event) → first_move session cycles (begun_turn m.core) ≡ o → Rests session cycles Between m
    by None is = one_more session cycles Between m B Over (letter None is) ([], refl)
    by (Some event) is = one_more session cycles Between m B Between (letter (Some event) is) (again (by_letter session cycles m B) (stands_on session cycles m B s)
        (task_same cycles m.core (by_letter session cycles m B).core (turn_stays session cycles m.core s) m.control.awaits m.control.lines ∙ task) (turn_less session cycles m event s is))

pub last_turns : (session : Session) (cycles p : ℕ) (m : Machine) → Stands session cycles m.core → task_of cycles m ≡ Finish → left cycles m ≤ p → Rests session cycles Between m
last_turns session cycles zero m s task low = last_by session cycles m s task (λ n t e less. absurd (omega (arith, low, less)))
last_turns session cycles (suc p) m s task low = last_by session cycles m s task (λ n t e less. last_turns session cycles p n t e (lower (left cycles n) (left cycles m) less low))
  where
    lower : (a b : ℕ) → a < b → b ≤ suc p → a ≤ p
    lower a b x y = omega (arith, x, y)
