-- What control has answered stays true: of the journal, and of what was acknowledged to control.
use Rattle.std.proofs.Common.{◌≡◌, inl, inr, ℕ, ◌-◌, List, [], ◌∷◌, ◌++◌, length, refl, sym, ap, ◌∙◌}
use Rattle.std.specs.Prelude.{◌⊎◌, Bool, true, false, ◌&&◌, ◌||◌, not, nat_le, nat_lt, if◌then◌else◌, Option, Some, None, reverse, slice_get}
use Rattle.std.specs.List.{list_all}
use Rattle.std.specs.Option.{option_map_or}
use Rattle.std.proofs.lemmas.Bool.{and_parts, or_cases, leb-true, le-ltb, lt-leb, true≢false, false≢true}
use Rattle.std.proofs.lemmas.List.{reverse-append}
use Rattle.std.proofs.lemmas.Option.{slice_get_within}
use Rattle.session_model.specs.declared.session.Session.{Session}
use Rattle.engine_model.specs.Edits.{has_quit}
use Rattle.engine_model.specs.Journal.{Entry}
use Rattle.engine_model.specs.Replies.{Reply, Accepted, Refused, LineRefused, Done, Synced, NotSynced}
use Rattle.engine_laws.proofs.EditionLemmas.{get_stays, quit_stays}
use Rattle.machine_model.specs.Control.{is_played_out}
use Rattle.machine_model.specs.Core.{Core}
use Rattle.machine_model.specs.Events.{Event, ToButler, ToControl, Publish, EnterButler, Send, Flush, EnterProcess, Look}
use Rattle.machine_model.specs.Events.{Capture, End, AckSend, AckTake, can, done, step, after, have_looked, has_its_capture}
use Rattle.machine_laws.specs.Stands.{Stands}
use Rattle.machine_laws.proofs.ByEnd.{made_now}
use Rattle.machine_laws.proofs.EventLemmas.{every_event}
use Rattle.session_model.specs.Lists.{each_from}

-- why a reply is true, and stays so: where none is synced no entry will be made any more
abbrev pub Holds : ℕ → Core → Reply → Type 0
Holds cycles c (Accepted k) = Unit {0}
Holds cycles c (Refused why) = Unit {0}
Holds cycles c (LineRefused why) = Unit {0}
Holds cycles c Done = Unit {0}
Holds cycles c (Synced k n) = (nat_lt 0 n ≡ true) × (option_map_or (λ e. nat_le k e.settled) (slice_get (reverse c.entries) (n - 1)) false ≡ true)
Holds cycles c (NotSynced k) = (is_played_out cycles c ≡ true) × (list_all (λ e. nat_lt e.settled k) c.entries ≡ true)

abbrev pub AllHold : ℕ → Core → List Reply → Type 0
AllHold cycles c [] = Unit {0}
AllHold cycles c (reply ∷ replies) = Holds cycles c reply × AllHold cycles c replies

-- ---- while events come

-- the entries stay, or there is one more where there can be; and what is played out stays so
record Grows (cycles : ℕ) (c d : Core) : Type 0 where
  pub entries : (d.entries ≡ c.entries) ⊎ ((e : Entry) × (d.entries ≡ e ∷ c.entries) × (is_played_out cycles c ≡ false))
  pub played : is_played_out cycles c ≡ true → is_played_out cycles d ≡ true

there_still : (xs ys : List Entry) (k n : ℕ) → option_map_or (λ e. nat_le k e.settled) (slice_get xs n) false ≡ true → option_map_or (λ e. nat_le k e.settled) (slice_get (xs ++ ys) n) false ≡ true
there_still xs ys k n h = by (slice_get xs n) refl h
  where
    by : (o : Option Entry) → slice_get xs n ≡ o → option_map_or (λ e. nat_le k e.settled) o false ≡ true → option_map_or (λ e. nat_le k e.settled) (slice_get (xs ++ ys) n) false ≡ true
    by None is e = absurd (false≢true e)
    by (Some x) is e = ap (λ o. option_map_or (λ e. nat_le k e.settled) o false) (get_stays xs ys n (slice_get_within xs n x is) ∙ is) ∙ e

holds_on : (cycles : ℕ) (c d : Core) (reply : Reply) → Grows cycles c d → Holds cycles c reply → Holds cycles d reply
holds_on cycles c d (Accepted k) g h = tt
holds_on cycles c d (Refused why) g h = tt
holds_on cycles c d (LineRefused why) g h = tt
holds_on cycles c d Done g h = tt
holds_on cycles c d (Synced k n) g h = (
  h.0,
  elim g.entries [
    | inl same ↦ ap (λ es. option_map_or (λ e. nat_le k e.settled) (slice_get (reverse es) (n - 1)) false) same ∙ h.1
    | inr one ↦ ap (λ es. option_map_or (λ e. nat_le k e.settled) (slice_get es (n - 1)) false) (ap reverse one.1 ∙ reverse-append (one.0 ∷ []) c.entries)
        ∙ there_still (reverse c.entries) (one.0 ∷ []) k (n - 1) h.1
  ],
)
holds_on cycles c d (NotSynced k) g h = (
  g.played h.0,
  elim g.entries [
    | inl same ↦ ap (list_all (λ e. nat_lt e.settled k)) same ∙ h.1
    | inr one ↦ absurd (true≢false (sym h.0 ∙ one.2))
  ],
)

all_hold_on : (cycles : ℕ) (c d : Core) (replies : List Reply) → Grows cycles c d → AllHold cycles c replies → AllHold cycles d replies
all_hold_on cycles c d [] g h = tt
all_hold_on cycles c d (reply ∷ replies) g h = (holds_on cycles c d reply g h.0, all_hold_on cycles c d replies g h.1)

grows_same : (cycles : ℕ) (c d : Core) → d.entries ≡ c.entries → d.edits ≡ c.edits → d.playing ≡ c.playing → Grows cycles c d
grows_same cycles c d e f g = record {
  entries = inl e;
  played = λ h. ap (λ es. nat_le cycles (length es) || has_quit d.edits d.playing) e ∙ ap (λ es. nat_le cycles (length c.entries) || has_quit es d.playing) f
      ∙ ap (λ p. nat_le cycles (length c.entries) || has_quit c.edits p) g ∙ h;
}

-- where all is played out no cycle is open, and none begins
none_begins : (cycles : ℕ) (c : Core) → is_played_out cycles c ≡ true → not c.in_cycle && nat_lt (length c.entries) cycles && not (has_quit c.edits c.playing) ≡ false
none_begins cycles c h = elim (or_cases (nat_le cycles (length c.entries)) (has_quit c.edits c.playing) h) [
  | inl le ↦ ap (λ b. not c.in_cycle && b && not (has_quit c.edits c.playing)) (le-ltb (length c.entries) cycles (leb-true cycles (length c.entries) le))
      ∙ first (not c.in_cycle) (not (has_quit c.edits c.playing))
  | inr quit ↦ ap (λ b. not c.in_cycle && nat_lt (length c.entries) cycles && not b) quit ∙ last (not c.in_cycle && nat_lt (length c.entries) cycles)
]
  where
    first : (a b : Bool) → a && false && b ≡ false
    first true b = refl
    first false b = refl

    last : (a : Bool) → a && false ≡ false
    last true = refl
    last false = refl

not_played : (session : Session) (cycles : ℕ) (c : Core) → Stands session cycles c → c.in_cycle ≡ true → is_played_out cycles c ≡ false
not_played session cycles c s open_now = ap (λ b. b || has_quit c.edits c.playing) (lt-leb cycles (length c.entries) (s.asked_now open_now)) ∙ s.unended open_now

step_grows : (session : Session) (cycles : ℕ) (c : Core) (event : Event) → Stands session cycles c → Grows cycles c (step session cycles c event)
step_grows session cycles c event s = by (can session cycles c event) refl
  where
    does : (event : Event) → can session cycles c event ≡ true → Grows cycles c (done session cycles c event)
    does (Publish edit) may = record { entries = inl refl; played = λ h. ap (λ q. nat_le cycles (length c.entries) || q) (quit_stays c.edits (edit ∷ []) c.playing s.playing) ∙ h }
    does EnterButler may = grows_same cycles c (done session cycles c EnterButler) refl refl refl
    does (Send t) may = grows_same cycles c (done session cycles c (Send t)) refl refl refl
    does (Flush t) may = grows_same cycles c (done session cycles c (Flush t)) refl refl refl
    does EnterProcess may = record { entries = inl refl; played = λ h. absurd (true≢false (sym may ∙ none_begins cycles c h)) }
    does (Look t) may = grows_same cycles c (done session cycles c (Look t)) refl refl refl
    does (Capture t) may = grows_same cycles c (done session cycles c (Capture t)) refl refl refl
    does End may = let over = not_played session cycles c s
        (and_parts c.in_cycle (have_looked session c) (and_parts (c.in_cycle && have_looked session c) (each_from (has_its_capture session c) 0 c.tracks) may).0).0 in
        record { entries = inr (made_now session c, refl, over); played = λ h. absurd (true≢false (sym h ∙ over)) }
    does (AckSend ToButler) may = grows_same cycles c (done session cycles c (AckSend ToButler)) refl refl refl
    does (AckSend ToControl) may = grows_same cycles c (done session cycles c (AckSend ToControl)) refl refl refl
    does (AckTake ToButler) may = grows_same cycles c (done session cycles c (AckTake ToButler)) refl refl refl
    does (AckTake ToControl) may = grows_same cycles c (done session cycles c (AckTake ToControl)) refl refl refl

    by : (b : Bool) → can session cycles c event ≡ b → Grows cycles c (if b then done session cycles c event else c)
    by true may = does event may
    by false may = grows_same cycles c c refl refl refl

pub all_hold_after : (session : Session) (cycles : ℕ) (c : Core) (events : List Event) (replies : List Reply) → Stands session cycles c → AllHold cycles c replies →
    AllHold cycles (after session cycles c events) replies
all_hold_after session cycles c [] replies s h = h
all_hold_after session cycles c (event ∷ events) replies s h = all_hold_after session cycles (step session cycles c event) events replies (every_event session cycles c event s)
    (all_hold_on cycles c (step session cycles c event) replies (step_grows session cycles c event s) h)
