-- The whole last letter of a cycle on one thread: look-ups, captures, the plain entry and its acknowledgements.
use Rattle.std.proofs.Common.{◌≡◌, ℕ, zero, suc, ◌-◌, ◌<◌, ◌≤◌, List, [], ◌∷◌, ◌++◌, length, refl, sym, ap, subst, arith, ◌∙◌}
use Rattle.std.specs.Prelude.{Bool, true, false, ◌&&◌, ◌==◌, max, if◌then◌else◌, map, filter}
use Rattle.std.proofs.lemmas.Bool.{and_from, lt-ltb, eqb-true}
use Rattle.std.proofs.lemmas.Option.{none-some, same_Some}
use Rattle.session_model.specs.declared.session.Session.{Session}
use Rattle.session_model.specs.Lists.{EachAt, each_from}
use Rattle.engine_model.specs.Due.{Ack, next_block}
use Rattle.engine_model.specs.Edits.{generation}
use Rattle.engine_model.specs.Editions.{edition}
use Rattle.engine_model.specs.Fits.{next_take}
use Rattle.engine_model.specs.Items.{Kind}
use Rattle.engine_model.specs.Journal.{is_rolling_in, rolled}
use Rattle.engine_model.specs.Plain.{plain_state, plain_entry}
use Rattle.machine_model.specs.Core.{Core, TrackState, AckRing}
use Rattle.machine_model.specs.Events.{Capture, End, AckSend, ToButler, ToControl, can, done, step, after, begun, is_recorded, have_looked, has_its_capture, ack_of, acknowledged}
use Rattle.machine_model.specs.Letters.{gather_moves, cycle_moves, ends_cycle, track_places}
use Rattle.machine_laws.specs.Stands.{Stands}
use Rattle.machine_laws.proofs.EntryLemmas.{acks_both}
use Rattle.machine_laws.proofs.EventLemmas.{every_list_on}
use Rattle.machine_laws.proofs.CaptureLemmas.{recorded_same}
use Rattle.machine_laws.proofs.CycleLemmas.{looked_up, taken_up, all_free, all_over, can_take_all, entry_is}
use Rattle.machine_laws.proofs.EventLists.{after_append}
use Rattle.machine_laws.proofs.GatherLemmas.{gathered, gather_all}
use Rattle.machine_laws.proofs.NearLemmas.{IsNear, near_later}
use Rattle.machine_laws.proofs.SerialStates.{IsBetweenCycles, IsReadyCycle}
use Rattle.machine_laws.proofs.TakeLemmas.{taken_if, taken_from, all_received, all_ended, all_take_theirs, have_looked_all, takes_done}
use Rattle.machine_laws.proofs.Tracks.{each_mapped}
use Rattle.machine_laws.proofs.TurnLemmas.{rolled_rises}

-- ---- the end

abbrev pub with_plain : Session → Core → Core
with_plain session c = record c { in_cycle = false; tracks = map begun (taken_up session c).tracks; entries = plain_entry session c.edits c.entries ∷ c.entries }

ends : (session : Session) (cycles : ℕ) (c : Core) → 0 < session.depth → IsReadyCycle session cycles c → step session cycles (taken_up session c) End ≡ with_plain session c
ends session cycles c deep r = ap (λ b. if b then done session cycles (taken_up session c) End else taken_up session c)
    (and_from (c.in_cycle && have_looked session (taken_up session c)) (each_from (has_its_capture session (taken_up session c)) 0 (taken_up session c).tracks)
    (and_from c.in_cycle (have_looked session (taken_up session c)) r.cycle.under_way
    (have_looked_all session (taken_up session c) (all_ended session (looked_up c) 0 (map gathered c.tracks) (all_over c.tracks))))
    (all_take_theirs session (looked_up c) (taken_up session c) (map gathered c.tracks) deep (can_take_all session cycles c r)
    (λ n. recorded_same session (looked_up c) (taken_up session c).tracks n (all_received session (looked_up c) 0 (map gathered c.tracks)))))
    ∙ ap (λ e. record c { in_cycle = false; tracks = map begun (taken_up session c).tracks; entries = e ∷ c.entries }) (entry_is session cycles c r)

cycle_ends : (session : Session) (cycles : ℕ) (c : Core) → 0 < session.depth → IsReadyCycle session cycles c →
    after session cycles c (cycle_moves session cycles c) ≡ after session cycles (with_plain session c) acks_both
cycle_ends session cycles c deep r = after_append session cycles c (gather_moves session cycles c) (ends_cycle session (after session cycles c (gather_moves session cycles c)))
    ∙ ap (λ d. after session cycles d (ends_cycle session d)) (gather_all session cycles c r.cycle.under_way (all_free session cycles c r.cycle r.entered))
    ∙ ap (λ b. after session cycles (looked_up c) (if b then map Capture (filter (is_recorded session (looked_up c)) (track_places (looked_up c))) ++ End ∷ acks_both else [])) r.cycle.under_way
    ∙ after_append session cycles (looked_up c) (map Capture (filter (is_recorded session (looked_up c)) (track_places (looked_up c)))) (End ∷ acks_both)
    ∙ ap (λ d. after session cycles d (End ∷ acks_both))
    (takes_done session cycles (looked_up c) r.cycle.under_way deep (all_over c.tracks) (can_take_all session cycles c r))
    ∙ ap (λ d. after session cycles d acks_both) (ends session cycles c deep r)

-- ---- the acknowledgements

abbrev its_ack : Session → Core → Ack
its_ack session c = record {
  cycle = suc (length c.entries);
  generation = generation c.edits (length c.edits);
  next = rolled (generation c.edits (length c.edits)) (plain_entry session c.edits c.entries ∷ c.entries);
  settled = length c.edits;
}

abbrev acked : Session → Core → AckRing → Core
acked session c ring = record (with_plain session c) {
  to_butler = record { sent = its_ack session c ∷ c.to_butler.sent; taken = c.to_butler.taken; told = suc (length c.entries) };
  to_control = ring;
}

acked_so : (session : Session) (cycles : ℕ) (c : Core) → 0 < session.depth → IsReadyCycle session cycles c →
    (ring : AckRing) × (after session cycles (with_plain session c) acks_both ≡ acked session c ring)
acked_so session cycles c deep r = (second.0, ap (λ d. step session cycles d (AckSend ToControl)) first ∙ second.1)
  where
    new : c.to_butler.told < suc (length c.entries)
    new = low r.cycle.serial.stands.to_butler.told
      where
        low : c.to_butler.told ≤ length c.entries → c.to_butler.told < suc (length c.entries)
        low le = omega (arith, le)

    room : length c.to_butler.sent - c.to_butler.taken < session.depth
    room = none_left r.taken
      where
        none_left : c.to_butler.taken ≡ length c.to_butler.sent → length c.to_butler.sent - c.to_butler.taken < session.depth
        none_left e = omega (arith, e, deep)

    first : step session cycles (with_plain session c) (AckSend ToButler) ≡ acked session c c.to_control
    first = ap (λ b. if b then done session cycles (with_plain session c) (AckSend ToButler) else with_plain session c) (lt-ltb c.to_butler.told (suc (length c.entries)) new)
        ∙ ap (λ b. record (with_plain session c) {
          to_butler =
              if b then record { sent = its_ack session c ∷ c.to_butler.sent; taken = c.to_butler.taken; told = suc (length c.entries) } else record c.to_butler { told = suc (length c.entries) };
        })
        (lt-ltb (length c.to_butler.sent - c.to_butler.taken) session.depth room)

    second : (ring : AckRing) × (step session cycles (acked session c c.to_control) (AckSend ToControl) ≡ acked session c ring)
    second = by (can session cycles (acked session c c.to_control) (AckSend ToControl))
      where
        by : (b : Bool) → (ring : AckRing) × ((if b then done session cycles (acked session c c.to_control) (AckSend ToControl) else acked session c c.to_control) ≡ acked session c ring)
        by true = (acknowledged session.depth (suc (length c.entries)) (ack_of c.edits (plain_entry session c.edits c.entries ∷ c.entries)) c.to_control, refl)
        by false = (c.to_control, refl)

-- they name each block that was played
acks_name : (session : Session) (c : Core) (sent : List Ack) → ((g : ℕ) → next_block sent g ≡ rolled g c.entries) → (g : ℕ) →
    next_block (its_ack session c ∷ sent) g ≡ rolled g (plain_entry session c.edits c.entries ∷ c.entries)
acks_name session c sent old g = by (generation c.edits (length c.edits) == g) refl
  where
    highest : (a b : ℕ) → a ≤ b → max b a ≡ b
    highest a b le = omega (arith, le)

    same_rolled : (generation c.edits (length c.edits) == g) ≡ true →
        rolled (generation c.edits (length c.edits)) (plain_entry session c.edits c.entries ∷ c.entries) ≡ rolled g (plain_entry session c.edits c.entries ∷ c.entries)
    same_rolled is = ap (λ n. rolled n (plain_entry session c.edits c.entries ∷ c.entries)) (eqb-true (generation c.edits (length c.edits)) g is)

    none_rolled : (rolls : Bool) → (generation c.edits (length c.edits) == g) ≡ false →
        rolled g c.entries ≡ (if is_rolling_in g (plain_state rolls (generation c.edits (length c.edits)) (rolled (generation c.edits (length c.edits)) c.entries)) then suc (rolled g c.entries)
        else rolled g c.entries)
    none_rolled false is = refl
    none_rolled true is = ap (λ b. if b then suc (rolled g c.entries) else rolled g c.entries) (sym is)

    by : (b : Bool) → (generation c.edits (length c.edits) == g) ≡ b →
        (if b then max (rolled (generation c.edits (length c.edits)) (plain_entry session c.edits c.entries ∷ c.entries)) (next_block sent g) else next_block sent g) ≡ rolled g
        (plain_entry session c.edits c.entries ∷ c.entries)
    by true is = ap (λ n. max n (next_block sent g)) (same_rolled is) ∙ ap (λ n. max (rolled g (plain_entry session c.edits c.entries ∷ c.entries)) n) (old g)
        ∙ highest (rolled g c.entries) (rolled g (plain_entry session c.edits c.entries ∷ c.entries)) (rolled_rises g (plain_entry session c.edits c.entries) c.entries)
    by false is = old g ∙ none_rolled (edition session c.edits (length c.edits)).transport.rolling is

-- ---- what stands after it

each_taken : (session : Session) (d : Core) (P : TrackState → Type 0) (t : ℕ) (xs : List TrackState) → ((b : Bool) (next : ℕ × ℕ) (x : TrackState) → P x → P (taken_if b next x)) →
    EachAt (λ i x. P x) xs →
    EachAt (λ i x. P x) (taken_from session d t xs)
each_taken session d P t [] keep each i x e = absurd (none-some x e)
each_taken session d P t (y ∷ ys) keep each zero x e =
    subst P (same_Some (taken_if (is_recorded session d t) (next_take t d.entries) y) x e) (keep (is_recorded session d t) (next_take t d.entries) y (each 0 y refl))
each_taken session d P t (y ∷ ys) keep each (suc i) x e = each_taken session d P (suc t) ys keep (λ j. each (suc j)) i x e

-- a cycle that was ready has the plain entry, and is over
pub record HasPlayed (session : Session) (cycles : ℕ) (c d : Core) : Type 0 where
  pub between : IsBetweenCycles session cycles d
  pub edits : d.edits ≡ c.edits
  pub entries : d.entries ≡ plain_entry session c.edits c.entries ∷ c.entries

pub cycle_plays : (session : Session) (cycles : ℕ) (c : Core) → 0 < session.depth → IsReadyCycle session cycles c → HasPlayed session cycles c (after session cycles c (cycle_moves session cycles c))
cycle_plays session cycles c deep r = subst (HasPlayed session cycles c) (sym whole) (record {
  between = record {
    serial = record {
      stands = subst (Stands session cycles) whole (every_list_on session cycles c (cycle_moves session cycles c) r.cycle.serial.stands);
      acks = acks_name session c c.to_butler.sent r.cycle.serial.acks;
      near = through (λ n sent. IsNear session.depth (generation c.edits c.entered) (rolled (generation c.edits c.entered) (plain_entry session c.edits c.entries ∷ c.entries)) sent)
          (λ t x e. near_later session.depth (generation c.edits c.entered) (rolled (generation c.edits c.entered) c.entries)
          (rolled (generation c.edits c.entered) (plain_entry session c.edits c.entries ∷ c.entries)) x.sent
          (rolled_rises (generation c.edits c.entered) (plain_entry session c.edits c.entries) c.entries) (r.cycle.serial.near t x e));
    };
    shut = refl;
    unended = r.cycle.serial.stands.unended r.cycle.under_way;
    received = through (λ n sent. n ≡ length sent) (λ t x e. refl);
  };
  edits = refl;
  entries = refl;
})
  where
    whole : after session cycles c (cycle_moves session cycles c) ≡ acked session c (acked_so session cycles c deep r).0
    whole = cycle_ends session cycles c deep r ∙ (acked_so session cycles c deep r).1

    through : (P : ℕ → List Kind → Type 0) → EachAt (λ t x. P (length x.sent) x.sent) c.tracks → EachAt (λ t x. P x.received x.sent) (map begun (taken_up session c).tracks)
    through P each = each_mapped (λ t x. P x.received x.sent) begun (taken_up session c).tracks (each_taken session (looked_up c) (λ x. P x.received x.sent) 0 (map gathered c.tracks) keep
        (each_mapped (λ t x. P x.received x.sent) gathered c.tracks each))
      where
        keep : (b : Bool) (next : ℕ × ℕ) (x : TrackState) → P x.received x.sent → P (taken_if b next x).received (taken_if b next x).sent
        keep true next x h = h
        keep false next x h = h
