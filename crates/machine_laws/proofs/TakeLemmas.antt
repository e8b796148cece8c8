-- The captures of a cycle whose rings were flushed: each track that is recorded takes its next block.
use Rattle.std.proofs.Common.{◌≡◌, ℕ, zero, suc, ◌+◌, ◌-◌, ◌<◌, List, [], ◌∷◌, length, refl, sym, ap, subst, arith, ◌∙◌}
use Rattle.std.specs.Prelude.{Bool, true, false, is_none, if◌then◌else◌, Some, None, slice_get, map, filter}
use Rattle.std.specs.List.{list_all}
use Rattle.std.specs.Option.{option_map_or}
use Rattle.std.proofs.lemmas.Bool.{and_parts, and_from, lt-ltb, or_left}
use Rattle.std.proofs.lemmas.Option.{none-some, same_Some}
use Rattle.session_model.specs.declared.session.Session.{Session}
use Rattle.session_model.specs.Lists.{each_from}
use Rattle.engine_model.specs.Journal.{Take, Off}
use Rattle.engine_model.specs.Fits.{next_take}
use Rattle.engine_model.specs.Plain.{plain_take}
use Rattle.engine_laws.proofs.ListLemmas.{all_weaken}
use Rattle.machine_model.specs.Core.{Core, TrackState, received_of, has_held, has_looked}
use Rattle.machine_model.specs.Events.{Capture, after, take_made, captured_once, is_recorded, have_looked, has_its_capture}
use Rattle.machine_laws.proofs.ByCapture.{with_block, with_loss}
use Rattle.machine_laws.proofs.CaptureLemmas.{capture_if, captured_from, captures_done, all_have_theirs}
use Rattle.machine_model.specs.Letters.{track_places}

-- a track before the captures of a cycle on one thread
pub record CanTake (x : TrackState) : Type 0 where
  pub untaken : x.taking ≡ None
  pub flushed : x.flushed ≡ length x.put

abbrev pub AllCanTake : List TrackState → Type 0
AllCanTake xs = (i : ℕ) (x : TrackState) → slice_get xs i ≡ Some x → CanTake x

abbrev pub taken_if : Bool → ℕ × ℕ → TrackState → TrackState
taken_if recorded next x = if recorded then with_block next x else x

-- the tracks after them, of which the first is track t
abbrev pub taken_from : Session → Core → ℕ → List TrackState → List TrackState
taken_from session d t [] = []
taken_from session d t (x ∷ xs) = taken_if (is_recorded session d t) (next_take t d.entries) x ∷ taken_from session d (suc t) xs

-- ---- what the captures leave

same_received : (b : Bool) (next : ℕ × ℕ) (x : TrackState) → received_of (taken_if b next x) ≡ received_of x
same_received true next x = refl
same_received false next x = refl

same_ended : (b : Bool) (next : ℕ × ℕ) (x : TrackState) → (taken_if b next x).ended ≡ x.ended
same_ended true next x = refl
same_ended false next x = refl

pub all_received : (session : Session) (d : Core) (t : ℕ) (xs : List TrackState) → map received_of (taken_from session d t xs) ≡ map received_of xs
all_received session d t [] = refl
all_received session d t (x ∷ xs) = ap (λ l. l ∷ map received_of (taken_from session d (suc t) xs)) (same_received (is_recorded session d t) (next_take t d.entries) x)
    ∙ ap (λ ls. received_of x ∷ ls) (all_received session d (suc t) xs)

pub all_ended : (session : Session) (d : Core) (t : ℕ) (xs : List TrackState) → list_all (λ x. x.ended) xs ≡ true → list_all (λ x. x.ended) (taken_from session d t xs) ≡ true
all_ended session d t [] h = refl
all_ended session d t (x ∷ xs) h = let parts = and_parts x.ended (list_all (λ y. y.ended) xs) h in
    and_from (taken_if (is_recorded session d t) (next_take t d.entries) x).ended (list_all (λ y. y.ended) (taken_from session d (suc t) xs))
    (same_ended (is_recorded session d t) (next_take t d.entries) x ∙ parts.0) (all_ended session d (suc t) xs parts.1)

pub have_looked_all : (session : Session) (c : Core) → list_all (λ x. x.ended) c.tracks ≡ true → have_looked session c ≡ true
have_looked_all session c h = all_weaken (λ x. x.ended) (has_looked session c) (λ x e. or_left x.ended (has_held session c x) e) c.tracks h

-- and what is noted of it is its next block
pub all_plain : (session : Session) (d : Core) (t : ℕ) (xs : List TrackState) → AllCanTake xs → (i : ℕ) (take : Take) → slice_get (map take_made (taken_from session d t xs)) i ≡ Some take →
    take ≡ plain_take (is_recorded session d (i + t)) (next_take (i + t) d.entries)
all_plain session d t [] each i take there = absurd (none-some take there)
all_plain session d t (x ∷ xs) each zero take there = sym (same_Some (take_made (taken_if (is_recorded session d t) (next_take t d.entries) x)) take there) ∙ by (is_recorded session d t)
    ∙ ap (λ n. plain_take (is_recorded session d n) (next_take n d.entries)) (here t)
  where
    here : (t : ℕ) → t ≡ 0 + t
    here t = omega arith

    by : (b : Bool) → take_made (taken_if b (next_take t d.entries) x) ≡ plain_take b (next_take t d.entries)
    by true = refl
    by false = ap (λ o. option_map_or (λ k. k) o Off) (each 0 x refl).untaken
all_plain session d t (x ∷ xs) each (suc i) take there = all_plain session d (suc t) xs (λ j. each (suc j)) i take there
    ∙ ap (λ n. plain_take (is_recorded session d n) (next_take n d.entries)) (next i t)
  where
    next : (i t : ℕ) → i + suc t ≡ suc i + t
    next i t = omega arith

-- ---- the captures

takes_block : (depth : ℕ) (next : ℕ × ℕ) (x : TrackState) → 0 < depth → CanTake x → captured_once depth next x ≡ with_block next x
takes_block depth next x deep h = ap (λ b. if b then with_block next x else with_loss next x) (lt-ltb (length x.put - x.flushed) depth (room h.flushed))
  where
    room : x.flushed ≡ length x.put → length x.put - x.flushed < depth
    room e = omega (arith, e, deep)

takes_are : (session : Session) (d : Core) (t : ℕ) (xs : List TrackState) → 0 < session.depth → AllCanTake xs → captured_from session d t xs ≡ taken_from session d t xs
takes_are session d t [] deep each = refl
takes_are session d t (x ∷ xs) deep each = ap (λ y. y ∷ captured_from session d (suc t) xs) (by (is_recorded session d t))
    ∙ ap (λ ys. taken_if (is_recorded session d t) (next_take t d.entries) x ∷ ys) (takes_are session d (suc t) xs deep (λ i. each (suc i)))
  where
    by : (b : Bool) → capture_if session.depth b (next_take t d.entries) x ≡ taken_if b (next_take t d.entries) x
    by false = refl
    by true = ap (λ o. if is_none o then captured_once session.depth (next_take t d.entries) x else x) (each 0 x refl).untaken
        ∙ takes_block session.depth (next_take t d.entries) x deep (each 0 x refl)

pub all_take_theirs : (session : Session) (d f : Core) (xs : List TrackState) → 0 < session.depth → AllCanTake xs → ((n : ℕ) → is_recorded session f n ≡ is_recorded session d n) →
    each_from (has_its_capture session f) 0 (taken_from session d 0 xs) ≡ true
all_take_theirs session d f xs deep each same = subst (λ ys. each_from (has_its_capture session f) 0 ys ≡ true) (takes_are session d 0 xs deep each) (all_have_theirs session d f 0 xs same)

pub takes_done : (session : Session) (cycles : ℕ) (d : Core) → d.in_cycle ≡ true → 0 < session.depth → list_all (λ x. x.ended) d.tracks ≡ true → AllCanTake d.tracks →
    after session cycles d (map Capture (filter (is_recorded session d) (track_places d))) ≡ record d { tracks = taken_from session d 0 d.tracks }
takes_done session cycles d open_now deep ended each = captures_done session cycles d [] d.tracks open_now (have_looked_all session d ended) refl
    ∙ ap (λ ts. record d { tracks = ts }) (takes_are session d 0 d.tracks deep each)
