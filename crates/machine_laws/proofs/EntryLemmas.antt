-- A cycle that is open makes its entry, whatever was received and captured.
use Rattle.std.proofs.Common.{◌≡◌, ℕ, suc, List, [], ◌∷◌, ◌++◌, refl, sym, ap, subst, ◌∙◌}
use Rattle.std.specs.Prelude.{Bool, true, false, ◌&&◌, if◌then◌else◌, map, filter}
use Rattle.std.specs.List.{list_all}
use Rattle.std.proofs.lemmas.Bool.{and_from}
use Rattle.session_model.specs.declared.session.Session.{Session}
use Rattle.session_model.specs.Lists.{each_from}
use Rattle.machine_model.specs.Core.{Core, TrackState, has_looked}
use Rattle.machine_model.specs.Events.{Event, Side, ToButler, ToControl, Capture, End, AckSend, can, done, step, after, is_recorded, have_looked, has_its_capture}
use Rattle.machine_model.specs.Letters.{gather_moves, cycle_moves, ends_cycle, track_places}
use Rattle.machine_laws.specs.Ends.{MakesItsEntry, CycleMakesItsEntry}
use Rattle.machine_laws.proofs.CaptureLemmas.{captured_from, captured_received, captured_looked, recorded_same, all_have_theirs, captures_done}
use Rattle.machine_laws.proofs.EventLists.{after_append}
use Rattle.machine_laws.proofs.LookLemmas.{looked_fully, look_up_walks, gather_done, AllWithin}

-- the state after the look-ups, and after the captures
abbrev looked_on : Session → Core → Core
looked_on session c = record c { tracks = map (looked_fully session c) c.tracks }

abbrev captured_on : Session → Core → Core
captured_on session c = record c { tracks = captured_from session (looked_on session c) 0 (map (looked_fully session c) c.tracks) }

all_looked : (session : Session) (c : Core) (xs : List TrackState) → AllWithin xs → list_all (has_looked session c) (map (looked_fully session c) xs) ≡ true
all_looked session c [] within = refl
all_looked session c (x ∷ xs) within = and_from (has_looked session c (looked_fully session c x)) (list_all (has_looked session c) (map (looked_fully session c) xs))
    (look_up_walks session c x (within 0 x refl)).1 (all_looked session c xs (λ i. within (suc i)))

-- all is there for the end
can_end : (session : Session) (cycles : ℕ) (c : Core) → c.in_cycle ≡ true → AllWithin c.tracks → can session cycles (captured_on session c) End ≡ true
can_end session cycles c open_now within =
    and_from (c.in_cycle && have_looked session (captured_on session c)) (each_from (has_its_capture session (captured_on session c)) 0 (captured_on session c).tracks)
    (and_from c.in_cycle (have_looked session (captured_on session c)) open_now
    (captured_looked session (looked_on session c) 0 (map (looked_fully session c) c.tracks) ∙ all_looked session c c.tracks within))
    (all_have_theirs session (looked_on session c) (captured_on session c) 0 (map (looked_fully session c) c.tracks)
    (λ n. recorded_same session (looked_on session c) (captured_on session c).tracks n (captured_received session (looked_on session c) 0 (map (looked_fully session c) c.tracks))))

abbrev pub acks_both : List Event
acks_both = AckSend ToButler ∷ AckSend ToControl ∷ []

cycle_is : (session : Session) (cycles : ℕ) (c : Core) → c.in_cycle ≡ true → AllWithin c.tracks →
    after session cycles c (cycle_moves session cycles c) ≡ after session cycles (done session cycles (captured_on session c) End) acks_both
cycle_is session cycles c open_now within = after_append session cycles c (gather_moves session cycles c) (ends_cycle session (after session cycles c (gather_moves session cycles c)))
    ∙ ap (λ d. after session cycles d (ends_cycle session d)) (gather_done session cycles c open_now within)
    ∙ ap (λ b. after session cycles (looked_on session c)
    (if b then map Capture (filter (is_recorded session (looked_on session c)) (track_places (looked_on session c))) ++ End ∷ acks_both else [])) open_now
    ∙ after_append session cycles (looked_on session c) (map Capture (filter (is_recorded session (looked_on session c)) (track_places (looked_on session c)))) (End ∷ acks_both)
    ∙ ap (λ d. after session cycles d (End ∷ acks_both))
    (captures_done session cycles (looked_on session c) [] (map (looked_fully session c) c.tracks) open_now (all_looked session c c.tracks within) refl)
    ∙ ap (λ b. after session cycles (if b then done session cycles (captured_on session c) End else captured_on session c) acks_both) (can_end session cycles c open_now within)

-- acknowledging leaves entries and cycle
acking_leaves : (session : Session) (cycles : ℕ) (c d : Core) (side : Side) → MakesItsEntry c d → MakesItsEntry c (step session cycles d (AckSend side))
acking_leaves session cycles c d ToButler m = by (can session cycles d (AckSend ToButler))
  where
    by : (b : Bool) → MakesItsEntry c (if b then done session cycles d (AckSend ToButler) else d)
    by true = record { shut = m.shut; one_more = m.one_more }
    by false = m
acking_leaves session cycles c d ToControl m = by (can session cycles d (AckSend ToControl))
  where
    by : (b : Bool) → MakesItsEntry c (if b then done session cycles d (AckSend ToControl) else d)
    by true = record { shut = m.shut; one_more = m.one_more }
    by false = m

pub cycle_makes_its_entry : CycleMakesItsEntry
cycle_makes_its_entry session cycles c s open_now = subst (MakesItsEntry c) (sym (cycle_is session cycles c open_now (λ i x e. (s.playback i x e).received)))
    (acking_leaves session cycles c (step session cycles (done session cycles (captured_on session c) End) (AckSend ToButler)) ToControl
    (acking_leaves session cycles c (done session cycles (captured_on session c) End) ToButler (record { shut = refl; one_more = refl })))
