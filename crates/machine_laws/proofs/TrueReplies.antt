-- Each reply of control is true when it is given, and hence at any time.
use Rattle.std.proofs.Common.{◌≡◌, inl, inr, ℕ, suc, ◌+◌, ◌-◌, ◌<◌, ◌≤◌, List, [], ◌∷◌, ◌++◌, length, refl, sym, ap, arith, ◌∙◌}
use Rattle.std.specs.Prelude.{Bool, true, false, ◌&&◌, ◌||◌, nat_le, nat_lt, if◌then◌else◌, Option, Some, None, Ok, Err, reverse, slice_get}
use Rattle.std.specs.List.{list_all}
use Rattle.std.specs.Option.{option_map_or}
use Rattle.std.proofs.lemmas.Bool.{and_parts, and_from, lt-ltb, leb-true, leb-false}
use Rattle.std.proofs.lemmas.List.{length-reverse, reverse-append, reverse-reverse}
use Rattle.std.proofs.lemmas.Option.{same_Some}
use Rattle.session_model.specs.declared.session.Session.{Session}
use Rattle.session_model.specs.declared.edit.Edit.{Edit}
use Rattle.engine_model.specs.Due.{Ack}
use Rattle.engine_model.specs.Edits.{is_quit}
use Rattle.engine_model.specs.Editions.{Edition, edition, apply}
use Rattle.engine_model.specs.Fits.{fits, is_no_older, are_heard_well, is_lawful_after, is_lawful_newest}
use Rattle.engine_model.specs.Journal.{Entry}
use Rattle.engine_model.specs.Lines.{Line, Nothing, Says, Unread}
use Rattle.engine_model.specs.Plain.{Do, Wait, Sync}
use Rattle.engine_model.specs.Refusals.{Checked}
use Rattle.engine_model.specs.Replies.{Reply, Accepted, Refused, LineRefused, Done, Synced, NotSynced, synced_by, is_acknowledged}
use Rattle.engine_laws.proofs.EditionLemmas.{at_the_end}
use Rattle.engine_laws.proofs.ListLemmas.{all_weaken}
use Rattle.machine_model.specs.Control.{Control, Awaited, Entries, SettledIn, is_over, is_played_out, is_last_settled, answer_to}
use Rattle.machine_model.specs.Control.{replying, waiting_for, edit_done, line_done, next_line_done, control_by}
use Rattle.machine_model.specs.Core.{Core}
use Rattle.machine_model.specs.Letters.{Letter, C, B, E, G, P, Machine, begins, moves, control_after, by_letter, by_letters}
use Rattle.machine_laws.specs.Answers.{RepliesAreTrue}
use Rattle.machine_laws.specs.Stands.{Stands, AreAcksOf}
use Rattle.machine_laws.proofs.Acknowledging.{ack_with}
use Rattle.machine_laws.proofs.EventLemmas.{every_list_on, stands_at_first}
use Rattle.machine_laws.proofs.StandingLemmas.{standing_is_lawful}
use Rattle.machine_laws.proofs.TruthLemmas.{Holds, AllHold, all_hold_after}

-- ---- an answer

-- where the last entry has an older edition settled, each has
none_settled : (session : Session) (edits : List Edit) (k : ℕ) (e : Entry) (before : List Entry) → is_lawful_newest session edits (e ∷ before) ≡ true → e.settled < k →
    list_all (λ o. nat_lt o.settled k) (e ∷ before) ≡ true
none_settled session edits k e before lawful lt = and_from (nat_lt e.settled k) (list_all (λ o. nat_lt o.settled k) before) (lt-ltb e.settled k lt)
    (all_weaken (λ old. is_no_older old e) (λ old. nat_lt old.settled k)
    (λ old h. lt-ltb old.settled k (low (leb-true old.settled e.settled (and_parts (nat_le old.edition e.edition) (nat_le old.settled e.settled) h).1)))
    before (and_parts (fits session edits before e) (list_all (λ old. is_no_older old e) before)
    (and_parts (fits session edits before e && list_all (λ old. is_no_older old e) before) (nat_le e.settled e.edition)
    (and_parts (fits session edits before e && list_all (λ old. is_no_older old e) before && nat_le e.settled e.edition) (are_heard_well session edits e.settled before 0 e.notes)
    (and_parts (is_lawful_after session edits before e) (is_lawful_newest session edits before) lawful).0).0).0).1)
  where
    low : {n : ℕ} → n ≤ e.settled → n < k
    low le = omega (arith, le, lt)

last_there : (e : Entry) (before : List Entry) → slice_get (reverse (e ∷ before)) (suc (length before) - 1) ≡ Some e
last_there e before = ap (λ l. slice_get l (suc (length before) - 1)) (reverse-append (e ∷ []) before) ∙ ap (slice_get (reverse before ++ e ∷ [])) (place (length before) (length-reverse before))
    ∙ at_the_end (reverse before) e
  where
    place : (n : ℕ) → length (reverse before) ≡ n → suc n - 1 ≡ length (reverse before)
    place n f = omega (arith, f)

synced_holds : (session : Session) (cycles k : ℕ) (c : Core) → is_lawful_newest session c.edits c.entries ≡ true → is_over cycles c (SettledIn k) ≡ true → Holds cycles c (synced_by k c.entries)
synced_holds session cycles k c lawful over = by c.entries refl over
  where
    by : (entries : List Entry) → c.entries ≡ entries → is_last_settled k entries || is_played_out cycles c ≡ true → Holds cycles c (synced_by k entries)
    by [] is h = (h, ap (list_all (λ e. nat_lt e.settled k)) is)
    by (e ∷ before) is h = settled (nat_le k e.settled) refl h
      where
        settled : (b : Bool) → nat_le k e.settled ≡ b → b || is_played_out cycles c ≡ true → Holds cycles c (if b then Synced k (suc (length before)) else NotSynced k)
        settled true f h' = (
          lt-ltb 0 (suc (length before)) (omega arith),
          ap (λ es. option_map_or (λ o. nat_le k o.settled) (slice_get (reverse es) (suc (length before) - 1)) false) is
              ∙ ap (λ o. option_map_or (λ x. nat_le k x.settled) o false) (last_there e before) ∙ f,
        )
        settled false f h' = (
          h',
          ap (list_all (λ o. nat_lt o.settled k)) is
              ∙ none_settled session c.edits k e before (ap (is_lawful_newest session c.edits) (sym is) ∙ lawful) (leb-false k e.settled f),
        )

answer_holds : (session : Session) (cycles : ℕ) (c : Core) (a : Awaited) → is_lawful_newest session c.edits c.entries ≡ true → is_over cycles c a ≡ true → Holds cycles c (answer_to c a)
answer_holds session cycles c (Entries n) lawful over = tt
answer_holds session cycles c (SettledIn k) lawful over = synced_holds session cycles k c lawful over

-- ---- control

module _ (session : Session) (cycles : ℕ) (c : Core) (lawful : is_lawful_newest session c.edits c.entries ≡ true) where
  edit_holds : (answer : Checked Edition) (quits : Bool) (rest : Control) → AllHold cycles c rest.replies → AllHold cycles c (edit_done answer quits rest).replies
  edit_holds (Err why) quits rest h = (tt, h)
  edit_holds (Ok next) true rest h = (tt, h)
  edit_holds (Ok next) false rest h = (tt, h)

  wait_holds : (a : Awaited) (rest : Control) → AllHold cycles c rest.replies → AllHold cycles c (waiting_for cycles c a rest).replies
  wait_holds a rest h = by (is_over cycles c a) refl
    where
      by : (b : Bool) → is_over cycles c a ≡ b → AllHold cycles c (if b then replying (answer_to c a) rest else record rest { awaits = Some a }).replies
      by true over = (answer_holds session cycles c a lawful over, h)
      by false over = h

  line_holds : (rest : Control) (line : Line) → AllHold cycles c rest.replies → AllHold cycles c (line_done session cycles c rest line).replies
  line_holds rest Nothing h = h
  line_holds rest (Unread why) h = (tt, h)
  line_holds rest (Says (Do edit)) h = edit_holds (apply (edition session c.edits (length c.edits)) edit) (is_quit edit) rest h
  line_holds rest (Says (Wait n)) h = wait_holds (Entries (length c.entries + n)) rest h
  line_holds rest (Says Sync) h = wait_holds (SettledIn (length c.edits)) rest h

  next_holds : (control : Control) (lines : List Line) → AllHold cycles c control.replies → AllHold cycles c (next_line_done session cycles c control lines).replies
  next_holds control [] h = h
  next_holds control (line ∷ lines) h = line_holds (record control { lines = lines }) line h

  pub control_holds : (control : Control) (awaits : Option Awaited) → AllHold cycles c control.replies → AllHold cycles c (control_by session cycles c control awaits).replies
  control_holds control None h = next_holds control control.lines h
  control_holds control (Some a) h = by (is_over cycles c a) refl
    where
      by : (b : Bool) → is_over cycles c a ≡ b →
          AllHold cycles c (if b then next_line_done session cycles c (record (replying (answer_to c a) control) { awaits = None }) control.lines else control).replies
      by true over = next_holds (record (replying (answer_to c a) control) { awaits = None }) control.lines (answer_holds session cycles c a lawful over, h)
      by false over = h

-- ---- letters

letter_holds : (session : Session) (cycles : ℕ) (m : Machine) (letter : Letter) → Stands session cycles m.core → AllHold cycles m.core m.control.replies →
    AllHold cycles m.core (control_after session cycles m letter).replies
letter_holds session cycles m C s h = control_holds session cycles m.core
    (ap (is_lawful_newest session m.core.edits) (sym (reverse-reverse m.core.entries)) ∙ standing_is_lawful session cycles m.core s) m.control m.control.awaits h
letter_holds session cycles m B s h = h
letter_holds session cycles m E s h = h
letter_holds session cycles m G s h = h
letter_holds session cycles m P s h = h

letters_hold : (session : Session) (cycles : ℕ) (m : Machine) (letters : List Letter) → Stands session cycles m.core → AllHold cycles m.core m.control.replies →
    Stands session cycles (by_letters session cycles m letters).core × AllHold cycles (by_letters session cycles m letters).core (by_letters session cycles m letters).control.replies
letters_hold session cycles m [] s h = (s, h)
letters_hold session cycles m (letter ∷ letters) s h = letters_hold session cycles (by_letter session cycles m letter) letters (every_list_on session cycles m.core (moves session cycles m letter) s)
    (all_hold_after session cycles m.core (moves session cycles m letter) (control_after session cycles m letter).replies s (letter_holds session cycles m letter s h))

-- ---- what holds is true

-- what was acknowledged has no edition settled that no entry has
acks_low : (edits : List Edit) (k : ℕ) (entries : List Entry) (acks : List Ack) → AreAcksOf edits entries acks → list_all (λ e. nat_lt e.settled k) entries ≡ true →
    list_all (λ a. nat_lt a.settled k) acks ≡ true
acks_low edits k entries [] of low = refl
acks_low edits k [] (a ∷ acks) of low = absurd of
acks_low edits k (e ∷ before) (a ∷ acks) (inl of) low = let parts = and_parts (nat_lt e.settled k) (list_all (λ o. nat_lt o.settled k) before) low in
    and_from (nat_lt a.settled k) (list_all (λ b. nat_lt b.settled k) acks) (ap (λ b. nat_lt b.settled k) (sym (same_Some (ack_with edits e before) a of.0)) ∙ parts.0)
    (acks_low edits k before acks of.1 parts.1)
acks_low edits k (e ∷ before) (a ∷ acks) (inr of) low = acks_low edits k before (a ∷ acks) of (and_parts (nat_lt e.settled k) (list_all (λ o. nat_lt o.settled k) before) low).1

is_true : (session : Session) (cycles : ℕ) (c : Core) (reply : Reply) → Stands session cycles c → Holds cycles c reply → is_acknowledged c.to_control.sent (reverse c.entries) reply ≡ true
is_true session cycles c (Accepted k) s h = refl
is_true session cycles c (Refused why) s h = refl
is_true session cycles c (LineRefused why) s h = refl
is_true session cycles c Done s h = refl
is_true session cycles c (Synced k n) s h = and_from (nat_lt 0 n) (option_map_or (λ e. nat_le k e.settled) (slice_get (reverse c.entries) (n - 1)) false) h.0 h.1
is_true session cycles c (NotSynced k) s h = acks_low c.edits k c.entries c.to_control.sent s.to_control.of_entries h.1

all_true : (session : Session) (cycles : ℕ) (c : Core) (replies : List Reply) → Stands session cycles c → AllHold cycles c replies →
    list_all (is_acknowledged c.to_control.sent (reverse c.entries)) replies ≡ true
all_true session cycles c [] s h = refl
all_true session cycles c (reply ∷ replies) s h = and_from (is_acknowledged c.to_control.sent (reverse c.entries) reply) (list_all (is_acknowledged c.to_control.sent (reverse c.entries)) replies)
    (is_true session cycles c reply s h.0) (all_true session cycles c replies s h.1)

pub replies_are_true : RepliesAreTrue
replies_are_true session cycles lines letters = let m = by_letters session cycles (begins session lines) letters in
    let both = letters_hold session cycles (begins session lines) letters (stands_at_first session cycles) tt in all_true session cycles m.core m.control.replies both.0 both.1
