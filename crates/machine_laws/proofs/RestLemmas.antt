-- The rest of a run: it is one list of letters, it leaves nothing to do, and on one thread it reaches the plain run.
use Rattle.std.proofs.Common.{◌≡◌, inl, inr, ℕ, List, [], ◌∷◌, length, refl, sym, ap, subst, ◌∙◌, le_antisymm}
use Rattle.std.specs.Prelude.{◌⊎◌, Bool, true, false, ◌&&◌, nat_lt, if◌then◌else◌, is_none, is_some, Option, Some, None}
use Rattle.std.specs.Option.{option_map_or}
use Rattle.std.proofs.lemmas.Bool.{and_parts, and_cases, ltb-false, false≢true}
use Rattle.std.proofs.lemmas.Option.{none-some, same_Some, slice_get_within}
use Rattle.session_model.specs.declared.session.Session.{Session}
use Rattle.engine_model.specs.Lines.{Line}
use Rattle.machine_model.specs.Control.{Awaited, is_over}
use Rattle.machine_model.specs.Core.{Core, TrackState}
use Rattle.machine_model.specs.Events.{Event, due_of, has_room}
use Rattle.machine_model.specs.Letters.{Letter, C, B, E, G, P, Machine, begins, first_move, is_idle, by_letter, by_letters}
use Rattle.machine_model.specs.Rest.{Phase, Between, BeforeTurn, BeforeLook, BeforeEntry, Over, Task, Carry, Play}
use Rattle.machine_model.specs.Rest.{Finish, is_finished, next_task, task_of, begin_task, next_letter, is_letter, is_next, is_rest_from}
use Rattle.machine_laws.specs.Ends.{TheRestIsOne, IsAtEnd, TheRestLeavesNothing, ThePlainRunIsReached}
use Rattle.machine_laws.specs.Stands.{Stands}
use Rattle.machine_laws.proofs.EndsLemmas.{stands_on}
use Rattle.machine_laws.proofs.EventLemmas.{stands_at_first}
use Rattle.machine_laws.proofs.IdleLemmas.{nothing_there}
use Rattle.machine_laws.proofs.LetterLemmas.{letter_is}
use Rattle.machine_laws.proofs.RunEndsLemmas.{every_run_ends}
use Rattle.machine_laws.proofs.SerialTurns.{none_moves, turned, turn_makes, idle_is}
use Rattle.machine_laws.proofs.TurnLemmas.{begun_turn}
use Rattle.machine_laws.proofs.WalkLemmas.{serial_is_plain}

-- ---- one list of letters

none_or : (session : Session) (cycles : ℕ) (m : Machine) (letter : Letter) (letters : List Letter) (o : Option (Letter × Phase)) → is_none o ≡ true →
    is_next letter o (λ next. is_rest_from session cycles next (by_letter session cycles m letter) letters) ≡ true → ⊥
none_or session cycles m letter letters None e h = false≢true h
none_or session cycles m letter letters (Some next) e h = false≢true e

same_lists : (a b : Letter) (xs ys : List Letter) → a ≡ b → xs ≡ ys → a ∷ xs ≡ b ∷ ys
same_lists a b xs ys e f = cc

rest_is_one : (session : Session) (cycles : ℕ) (phase : Phase) (m : Machine) (one other : List Letter) → is_rest_from session cycles phase m one ≡ true →
    is_rest_from session cycles phase m other ≡ true → one ≡ other
rest_is_one session cycles phase m [] [] a b = refl
rest_is_one session cycles phase m [] (k ∷ ks) a b = absurd (none_or session cycles m k ks (next_letter session cycles phase m) a b)
rest_is_one session cycles phase m (l ∷ ls) [] a b = absurd (none_or session cycles m l ls (next_letter session cycles phase m) b a)
rest_is_one session cycles phase m (l ∷ ls) (k ∷ ks) a b = by (λ next. rest_is_one session cycles next (by_letter session cycles m l) ls ks) (next_letter session cycles phase m) a b
  where
    by : ((next : Phase) → is_rest_from session cycles next (by_letter session cycles m l) ls ≡ true → is_rest_from session cycles next (by_letter session cycles m l) ks ≡ true → ls ≡ ks) →
        (o : Option (Letter × Phase)) → is_next l o (λ next. is_rest_from session cycles next (by_letter session cycles m l) ls) ≡ true →
        is_next k o (λ next. is_rest_from session cycles next (by_letter session cycles m k) ks) ≡ true → l ∷ ls ≡ k ∷ ks
    by rest None x y = absurd (false≢true x)
    by rest (Some next) x y = let one = and_parts (is_letter l next.0) (is_rest_from session cycles next.1 (by_letter session cycles m l) ls) x in
        let other = and_parts (is_letter k next.0) (is_rest_from session cycles next.1 (by_letter session cycles m k) ks) y in
        let same : l ≡ k = letter_is l next.0 one.0 ∙ sym (letter_is k next.0 other.0) in
        same_lists l k ls ks same (rest next.1 one.1 (subst (λ z. is_rest_from session cycles next.1 (by_letter session cycles m z) ks ≡ true) (sym same) other.1))

pub the_rest_is_one : TheRestIsOne
the_rest_is_one session cycles m one other a b = rest_is_one session cycles Between m one other a b

-- ---- nothing is left to do

-- the last turns are made where control has nothing to do, and no cycle can begin
finish_says : (cycles : ℕ) (c : Core) (awaits : Option Awaited) (lines : List Line) → next_task cycles c awaits lines ≡ Finish → (awaits ≡ None) × (lines ≡ []) × (is_finished cycles c ≡ true)
finish_says cycles c (Some a) lines task = absurd (by (is_over cycles c a) task)
  where
    by : (b : Bool) → (if b then Carry else Play) ≡ Finish → ⊥
    by true e = cc
    by false e = cc
finish_says cycles c None (line ∷ lines) task = absurd (carry_not task)
  where
    carry_not : Carry ≡ Finish → ⊥
    carry_not e = cc
finish_says cycles c None [] task = (refl, refl, by (is_finished cycles c) task)
  where
    by : (b : Bool) → (if b then Finish else Play) ≡ Finish → b ≡ true
    by true e = refl
    by false e = absurd (cc)

-- after a turn that moves nothing, where control has nothing to do, a run is at its end
at_end : (session : Session) (cycles : ℕ) (m : Machine) → Stands session cycles m.core → task_of cycles m ≡ Finish → first_move session cycles (begun_turn m.core) ≡ None →
    IsAtEnd session cycles (by_letter session cycles m B)
at_end session cycles m s task idle = subst (λ d. IsAtEnd session cycles (record { core = d; control = m.control }))
    (sym (turn_makes session cycles m.core s ∙ ap (turned session cycles m.core) idle)) (record {
      lines = says.1;
      awaits = says.0;
      finished = says.2;
      entered = refl;
      flushed = λ t x e. le_antisymm ((s.captures t x e).flushed) (ltb-false x.flushed (length x.put)
          (sym (ap (λ o. option_map_or (λ y. nat_lt y.flushed (length y.put)) o false) e) ∙ (none_moves session cycles (begun_turn m.core) t idle (slice_get_within m.core.tracks t x e)).0));
      moved = λ t x e. by t x (and_cases (has_room session x) (is_some (due_of session cycles (begun_turn m.core) t x))
          (sym (ap (λ o. option_map_or (λ y. has_room session y && is_some (due_of session cycles (begun_turn m.core) t y)) o false) e)
          ∙ (none_moves session cycles (begun_turn m.core) t idle (slice_get_within m.core.tracks t x e)).1));
    })
  where
    says : (m.control.awaits ≡ None) × (m.control.lines ≡ []) × (is_finished cycles m.core ≡ true)
    says = finish_says cycles m.core m.control.awaits m.control.lines task

    by : (t : ℕ) (x : TrackState) → (has_room session x ≡ false) ⊎ (is_some (due_of session cycles (begun_turn m.core) t x) ≡ false) →
        (due_of session cycles (begun_turn m.core) t x ≡ None) ⊎ (has_room session x ≡ false)
    by t x (inl full) = inr full
    by t x (inr none) = inl (nothing_there (due_of session cycles (begun_turn m.core) t x) none)

-- where a rest comes to its last phase
ends_at : (session : Session) (cycles : ℕ) (phase : Phase) (m : Machine) (letter : Letter) → Stands session cycles m.core → next_letter session cycles phase m ≡ Some (letter, Over) →
    IsAtEnd session cycles (by_letter session cycles m letter)
ends_at session cycles Between m letter s is = by (task_of cycles m) refl is
  where
    by : (task : Task) → task_of cycles m ≡ task → Some (begin_task (is_idle session cycles m.core) task) ≡ Some (letter, Over) → IsAtEnd session cycles (by_letter session cycles m letter)
    by Carry task e = absurd (between_not (ap (λ o. o.1) (same_Some (C, Between) (letter, Over) e)))
      where
        between_not : Between ≡ Over → ⊥
        between_not e' = cc
    by Play task e = absurd (turn_not (ap (λ o. o.1) (same_Some (E, BeforeTurn) (letter, Over) e)))
      where
        turn_not : BeforeTurn ≡ Over → ⊥
        turn_not e' = cc
    by Finish task e = found (first_move session cycles (begun_turn m.core)) refl
      where
        pair : ◌≡◌ {A = Letter × Phase} (B, if is_idle session cycles m.core then Over else Between) (letter, Over)
        pair = same_Some (B, if is_idle session cycles m.core then Over else Between) (letter, Over) e

        busy_not : (if false then Over else Between) ≡ Over → ⊥
        busy_not e' = cc

        found : (o : Option Event) → first_move session cycles (begun_turn m.core) ≡ o → IsAtEnd session cycles (by_letter session cycles m letter)
        found None idle = subst (λ l. IsAtEnd session cycles (by_letter session cycles m l)) (ap (λ p. p.0) pair) (at_end session cycles m s task idle)
        found (Some event) busy = absurd (busy_not (sym (ap (λ b. if b then Over else Between) (idle_is session cycles m.core s ∙ ap (λ o. is_none o) busy)) ∙ ap (λ p. p.1) pair))
ends_at session cycles BeforeTurn m letter s is =
    absurd (by (is_idle session cycles m.core) (ap (λ o. o.1) (same_Some (B, if is_idle session cycles m.core then BeforeEntry else BeforeLook) (letter, Over) is)))
  where
    by : (b : Bool) → (if b then BeforeEntry else BeforeLook) ≡ Over → ⊥
    by true e = cc
    by false e = cc
ends_at session cycles BeforeLook m letter s is = absurd (turn_not (ap (λ o. o.1) (same_Some (G, BeforeTurn) (letter, Over) is)))
  where
    turn_not : BeforeTurn ≡ Over → ⊥
    turn_not e = cc
ends_at session cycles BeforeEntry m letter s is = absurd (between_not (ap (λ o. o.1) (same_Some (P, Between) (letter, Over) is)))
  where
    between_not : Between ≡ Over → ⊥
    between_not e = cc
ends_at session cycles Over m letter s is = absurd (none-some (letter, Over) is)

leaves_nothing : (session : Session) (cycles : ℕ) (phase : Phase) (m : Machine) (letters : List Letter) → Stands session cycles m.core → (phase ≡ Over → IsAtEnd session cycles m) →
    is_rest_from session cycles phase m letters ≡ true → IsAtEnd session cycles (by_letters session cycles m letters)
leaves_nothing session cycles Between m [] s over rest = absurd (false≢true rest)
leaves_nothing session cycles BeforeTurn m [] s over rest = absurd (false≢true rest)
leaves_nothing session cycles BeforeLook m [] s over rest = absurd (false≢true rest)
leaves_nothing session cycles BeforeEntry m [] s over rest = absurd (false≢true rest)
leaves_nothing session cycles Over m [] s over rest = over refl
leaves_nothing session cycles phase m (letter ∷ letters) s over rest =
    by (λ next at. leaves_nothing session cycles next (by_letter session cycles m letter) letters (stands_on session cycles m letter s) at)
    (next_letter session cycles phase m) refl rest
  where
    by : ((next : Phase) → (next ≡ Over → IsAtEnd session cycles (by_letter session cycles m letter)) → is_rest_from session cycles next (by_letter session cycles m letter) letters ≡ true →
        IsAtEnd session cycles (by_letters session cycles (by_letter session cycles m letter) letters)) →
        (o : Option (Letter × Phase)) → next_letter session cycles phase m ≡ o → is_next letter o (λ next. is_rest_from session cycles next (by_letter session cycles m letter) letters) ≡ true →
        IsAtEnd session cycles (by_letters session cycles (by_letter session cycles m letter) letters)
    by again None is h = absurd (false≢true h)
    by again (Some next) is h = let parts = and_parts (is_letter letter next.0) (is_rest_from session cycles next.1 (by_letter session cycles m letter) letters) h in
        again next.1 (λ e. ends_at session cycles phase m letter s (is ∙ same_pair (sym (letter_is letter next.0 parts.0)) e)) parts.1
      where
        same_pair : next.0 ≡ letter → next.1 ≡ Over → ◌≡◌ {A = Option (Letter × Phase)} (Some (next.0, next.1)) (Some (letter, Over))
        same_pair e f = cc

pub the_rest_leaves_nothing : TheRestLeavesNothing
the_rest_leaves_nothing session cycles m letters s rest = leaves_nothing session cycles Between m letters s (λ e. absurd (between_not e)) rest
  where
    between_not : Between ≡ Over → ⊥
    between_not e = cc

-- ---- on one thread

pub the_plain_run_is_reached : ThePlainRunIsReached
the_plain_run_is_reached session cycles lines valid some few = let rest = every_run_ends session cycles (begins session lines) (stands_at_first session cycles) in
    (rest.0, rest.1, serial_is_plain session cycles lines rest.0 valid some few rest.1)
