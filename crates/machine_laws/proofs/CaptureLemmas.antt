-- The captures of a cycle, where each look-up is over: each track that is recorded has its capture.
use Rattle.std.proofs.Common.{◌≡◌, ℕ, suc, ◌-◌, List, [], ◌∷◌, ◌++◌, length, refl, sym, ap, ◌∙◌}
use Rattle.std.specs.Prelude.{Bool, true, false, ◌&&◌, ◌||◌, not, nat_lt, is_none, is_some, if◌then◌else◌, Option, Some, None, map, filter}
use Rattle.std.specs.List.{list_all, range_with_len}
use Rattle.std.specs.Option.{option_map_or}
use Rattle.std.proofs.lemmas.Bool.{and_from, or_left, or_right, not_from_false}
use Rattle.std.proofs.lemmas.List.{append_assoc}
use Rattle.session_model.specs.declared.session.Session.{Session}
use Rattle.session_model.specs.Lists.{each_from}
use Rattle.engine_model.specs.Cycle.{state_of}
use Rattle.engine_model.specs.Editions.{edition}
use Rattle.engine_model.specs.Fits.{records, next_take}
use Rattle.engine_model.specs.Journal.{Take, is_rolling}
use Rattle.engine_laws.proofs.EditionLemmas.{one_longer}
use Rattle.engine_laws.proofs.PlainLemmas.{range_step}
use Rattle.machine_model.specs.Core.{Core, TrackState, received_of, first_is_held, has_held, has_looked, playing_generation, playing_block}
use Rattle.machine_model.specs.Events.{Event, Capture, step, after, captured_once, is_recorded, have_looked, has_its_capture, with_tracks}
use Rattle.machine_laws.proofs.ByCapture.{with_block, with_loss}
use Rattle.machine_laws.proofs.EventLists.{changed_there, slice_there}

abbrev pub capture_if : ℕ → Bool → ℕ × ℕ → TrackState → TrackState
capture_if depth recorded next x = if recorded && is_none x.taking then captured_once depth next x else x

-- the tracks after the captures, of which the first is track t
abbrev pub captured_from : Session → Core → ℕ → List TrackState → List TrackState
captured_from session d t [] = []
captured_from session d t (x ∷ xs) = capture_if session.depth (is_recorded session d t) (next_take t d.entries) x ∷ captured_from session d (suc t) xs

-- ---- what a capture leaves

-- what was received of a track, and whether its last look found no more
abbrev Same : TrackState → TrackState → Type 0
Same y x = (received_of y ≡ received_of x) × (y.ended ≡ x.ended)

once_same : (depth : ℕ) (next : ℕ × ℕ) (x : TrackState) → Same (captured_once depth next x) x
once_same depth next x = by (nat_lt (length x.put - x.flushed) depth)
  where
    by : (b : Bool) → Same (if b then with_block next x else with_loss next x) x
    by true = (refl, refl)
    by false = (refl, refl)

once_takes : (depth : ℕ) (next : ℕ × ℕ) (x : TrackState) → is_some (captured_once depth next x).taking ≡ true
once_takes depth next x = by (nat_lt (length x.put - x.flushed) depth)
  where
    by : (b : Bool) → is_some (if b then with_block next x else with_loss next x).taking ≡ true
    by true = refl
    by false = refl

capture_same : (depth : ℕ) (recorded : Bool) (next : ℕ × ℕ) (x : TrackState) → Same (capture_if depth recorded next x) x
capture_same depth recorded next x = by (recorded && is_none x.taking)
  where
    by : (b : Bool) → Same (if b then captured_once depth next x else x) x
    by true = once_same depth next x
    by false = (refl, refl)

looked_same_of : (session : Session) (d : Core) (x y : TrackState) → Same y x → has_looked session d y ≡ has_looked session d x
looked_same_of session d x y s = ap (λ b. b || has_held session d y) s.1
    ∙ ap (λ l. x.ended || first_is_held session.depth (playing_generation d) (playing_block d) l) s.0

all_but : {X : Type 0} (p : X → Bool) (pre : List X) (x y : X) (xs : List X) → p y ≡ p x → list_all p (pre ++ y ∷ xs) ≡ list_all p (pre ++ x ∷ xs)
all_but p [] x y xs e = ap (λ b. b && list_all p xs) e
all_but p (z ∷ pre) x y xs e = ap (λ b. p z && b) (all_but p pre x y xs e)

map_but : {X Y : Type 0} (f : X → Y) (pre : List X) (x y : X) (xs : List X) → f y ≡ f x → map f (pre ++ y ∷ xs) ≡ map f (pre ++ x ∷ xs)
map_but f [] x y xs e = ap (λ z. z ∷ map f xs) e
map_but f (z ∷ pre) x y xs e = ap (λ zs. f z ∷ zs) (map_but f pre x y xs e)

pub captured_received : (session : Session) (d : Core) (t : ℕ) (xs : List TrackState) → map received_of (captured_from session d t xs) ≡ map received_of xs
captured_received session d t [] = refl
captured_received session d t (x ∷ xs) = ap (λ l. l ∷ map received_of (captured_from session d (suc t) xs))
    (capture_same session.depth (is_recorded session d t) (next_take t d.entries) x).0 ∙ ap (λ ls. received_of x ∷ ls) (captured_received session d (suc t) xs)

pub captured_looked : (session : Session) (d : Core) (t : ℕ) (xs : List TrackState) → list_all (has_looked session d) (captured_from session d t xs) ≡ list_all (has_looked session d) xs
captured_looked session d t [] = refl
captured_looked session d t (x ∷ xs) = ap (λ b. b && list_all (has_looked session d) (captured_from session d (suc t) xs))
    (looked_same_of session d x (capture_if session.depth (is_recorded session d t) (next_take t d.entries) x) (capture_same session.depth (is_recorded session d t) (next_take t d.entries) x))
    ∙ ap (λ b. has_looked session d x && b) (captured_looked session d (suc t) xs)

-- whether a cycle records a track is a matter of what was received
pub recorded_same : (session : Session) (d : Core) (tracks : List TrackState) (t : ℕ) → map received_of tracks ≡ map received_of d.tracks →
    is_recorded session (record d { tracks = tracks }) t ≡ is_recorded session d t
recorded_same session d tracks t e =
    ap (λ l. is_rolling (state_of (edition session d.edits d.playing).transport.rolling (playing_generation d) (playing_block d) l) && records (edition session d.edits d.playing) t) e

-- each track that is recorded has its capture
pub all_have_theirs : (session : Session) (d f : Core) (t : ℕ) (xs : List TrackState) → ((n : ℕ) → is_recorded session f n ≡ is_recorded session d n) →
    each_from (has_its_capture session f) t (captured_from session d t xs) ≡ true
all_have_theirs session d f t [] same = refl
all_have_theirs session d f t (x ∷ xs) same = and_from (not (is_recorded session f t) || is_some (capture_if session.depth (is_recorded session d t) (next_take t d.entries) x).taking)
    (each_from (has_its_capture session f) (suc t) (captured_from session d (suc t) xs)) (by (is_recorded session d t) x.taking refl (same t))
    (all_have_theirs session d f (suc t) xs same)
  where
    by : (b : Bool) (o : Option Take) → x.taking ≡ o → is_recorded session f t ≡ b →
        not (is_recorded session f t) || is_some (if b && is_none o then captured_once session.depth (next_take t d.entries) x else x).taking ≡ true
    by false o is e = or_left (not (is_recorded session f t)) (is_some x.taking) (not_from_false (is_recorded session f t) e)
    by true None is e = or_right (not (is_recorded session f t)) (is_some (captured_once session.depth (next_take t d.entries) x).taking) (once_takes session.depth (next_take t d.entries) x)
    by true (Some take) is e = or_right (not (is_recorded session f t)) (is_some x.taking) (ap (λ k. is_some k) is)

-- ---- the captures

pub captures_done : (session : Session) (cycles : ℕ) (d : Core) (pre xs : List TrackState) → d.in_cycle ≡ true → list_all (has_looked session d) (pre ++ xs) ≡ true →
    map received_of (pre ++ xs) ≡ map received_of d.tracks →
    after session cycles (record d { tracks = pre ++ xs }) (map Capture (filter (is_recorded session d) (range_with_len (length pre) (length xs))))
    ≡ record d { tracks = pre ++ captured_from session d (length pre) xs }
captures_done session cycles d pre [] open_now looked same = refl
captures_done session cycles d pre (x ∷ xs) open_now looked same =
    ap (λ l. after session cycles (record d { tracks = pre ++ x ∷ xs }) (map Capture (filter (is_recorded session d) l))) (range_step (length pre) (length xs))
    ∙ by (is_recorded session d (length pre)) refl
    (λ y s. ap (λ n. after session cycles (record d { tracks = (pre ++ y ∷ []) ++ xs }) (map Capture (filter (is_recorded session d) (range_with_len n (length xs))))) (sym (one_longer pre y))
    ∙ captures_done session cycles d (pre ++ y ∷ []) xs open_now
    (ap (list_all (has_looked session d)) (append_assoc pre (y ∷ []) xs) ∙ all_but (has_looked session d) pre x y xs (looked_same_of session d x y s) ∙ looked)
    (ap (map received_of) (append_assoc pre (y ∷ []) xs) ∙ map_but received_of pre x y xs s.0 ∙ same)
    ∙ ap (λ n. record d { tracks = (pre ++ y ∷ []) ++ captured_from session d n xs }) (one_longer pre y)
    ∙ ap (λ ts. record d { tracks = ts }) (append_assoc pre (y ∷ []) (captured_from session d (suc (length pre)) xs)))
  where
    -- the state before this capture, the block that is next, and the rest of the captures
    now : Core
    now = record d { tracks = pre ++ x ∷ xs }

    next : ℕ × ℕ
    next = next_take (length pre) d.entries

    later : List Event
    later = map Capture (filter (is_recorded session d) (range_with_len (suc (length pre)) (length xs)))

    -- the capture is made where none was made of the track
    takes : is_recorded session d (length pre) ≡ true →
        step session cycles now (Capture (length pre)) ≡ record d { tracks = (pre ++ (if is_none x.taking then captured_once session.depth next x else x) ∷ []) ++ xs }
    takes recorded = ap (λ b. if b then with_tracks (captured_once session.depth next) (length pre) now else now)
        (all_of (have_looked session now) (is_recorded session now (length pre)) looked (recorded_same session d (pre ++ x ∷ xs) (length pre) same ∙ recorded)
        ∙ ap (λ o. option_map_or (λ y. is_none y.taking) o false) (slice_there pre x xs))
        ∙ taken (is_none x.taking)
      where
        all_of : (b c : Bool) → b ≡ true → c ≡ true → {e : Bool} → (d.in_cycle && b && c && e) ≡ e
        all_of b c f g {e} = ap (λ k. k && b && c && e) open_now ∙ ap (λ k. k && c && e) f ∙ ap (λ k. k && e) g

        taken : (b : Bool) → (if b then with_tracks (captured_once session.depth next) (length pre) now else now) ≡ record d
            { tracks = (pre ++ (if b then captured_once session.depth next x else x) ∷ []) ++ xs }
        taken true = ap (λ ts. record d { tracks = ts }) (changed_there (captured_once session.depth next) pre x xs ∙ sym (append_assoc pre (captured_once session.depth next x ∷ []) xs))
        taken false = ap (λ ts. record d { tracks = ts }) (sym (append_assoc pre (x ∷ []) xs))

    by : (b : Bool) → is_recorded session d (length pre) ≡ b →
        ((y : TrackState) → Same y x → after session cycles (record d { tracks = (pre ++ y ∷ []) ++ xs }) later ≡ record d { tracks = pre ++ y ∷ captured_from session d (suc (length pre)) xs }) →
        after session cycles now (map Capture (if b then length pre ∷ filter (is_recorded session d) (range_with_len (suc (length pre)) (length xs))
        else filter (is_recorded session d) (range_with_len (suc (length pre)) (length xs))))
        ≡ record d { tracks = pre ++ capture_if session.depth b next x ∷ captured_from session d (suc (length pre)) xs }
    by true recorded rest = ap (λ c. after session cycles c later) (takes recorded)
        ∙ rest (if is_none x.taking then captured_once session.depth next x else x) (capture_same session.depth true next x)
    by false recorded rest = ap (λ ts. after session cycles (record d { tracks = ts }) later) (sym (append_assoc pre (x ∷ []) xs)) ∙ rest x (refl, refl)
