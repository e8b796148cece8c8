-- The look-ups of a cycle: each ends at an item that is held, or finds no more.
use Rattle.std.proofs.Common.{◌≡◌, ℕ, zero, suc, ◌+◌, ◌-◌, ◌<◌, ◌≤◌, List, [], ◌∷◌, ◌++◌, length, take, drop, get_or, refl, sym, ap, subst, arith, ◌∙◌}
use Rattle.std.specs.Prelude.{Bool, true, false, ◌&&◌, not, nat_lt, if◌then◌else◌, Some, slice_get, map, reverse, replicate}
use Rattle.std.specs.Option.{option_map_or}
use Rattle.std.proofs.lemmas.Bool.{and_from, or_right, lt-ltb, le-ltb, not_from_false, not_from_true}
use Rattle.std.proofs.lemmas.List.{append_assoc, drop_more, take_more, reverse-append}
use Rattle.session_model.specs.declared.session.Session.{Session}
use Rattle.engine_model.specs.Cycle.{is_held}
use Rattle.engine_model.specs.Edits.{has_quit}
use Rattle.engine_model.specs.Items.{Kind, Blank}
use Rattle.engine_laws.proofs.EditionLemmas.{one_longer}
use Rattle.machine_model.specs.Core.{Core, TrackState, received_of, unreceived_of, playing_generation, playing_block, first_is_held, has_held, has_looked}
use Rattle.machine_model.specs.Events.{EnterProcess, Look, done, step, after, looked_once, with_tracks}
use Rattle.machine_model.specs.Letters.{looks, looks_of, look_ups, gather_moves}
use Rattle.machine_laws.proofs.EventLists.{after_append, changed_nothing, changed_twice, changed_there, changed_slice, slice_there}

abbrev pub looked_times : ℕ → TrackState → TrackState
looked_times zero x = x
looked_times (suc n) x = looked_times n (looked_once x)

-- ---- a look-up of a track

-- a track after its look-up
abbrev pub looked_fully : Session → Core → TrackState → TrackState
looked_fully session c x = looked_times (looks_of session c x) x

-- each look finds that the last item isn't held, and after the last one the look-up is over
abbrev Walked : Session → Core → ℕ → TrackState → Type 0
Walked session c n x = ((i : ℕ) → i < n → has_held session c (looked_times i x) ≡ false) × (has_looked session c (looked_times n x) ≡ true)

takes_next : (x : TrackState) → x.received < length x.sent → looked_once x ≡ record x { received = suc x.received; ended = false }
takes_next x lt = ap (λ b. if b then record x { received = suc x.received; ended = false } else record x { tails = x.received ∷ x.tails; ended = true })
    (lt-ltb x.received (length x.sent) lt)

finds_none : (x : TrackState) → length x.sent ≤ x.received → looked_once x ≡ record x { tails = x.received ∷ x.tails; ended = true }
finds_none x le = ap (λ b. if b then record x { received = suc x.received; ended = false } else record x { tails = x.received ∷ x.tails; ended = true })
    (le-ltb x.received (length x.sent) le)

-- the next item
abbrev next_item : TrackState → Kind
next_item x = get_or x.sent (length x.sent - suc x.received) Blank

next_unreceived : (x : TrackState) → x.received < length x.sent → unreceived_of x ≡ next_item x ∷ unreceived_of (record x { received = suc x.received; ended = false })
next_unreceived x lt = ap (λ n. reverse (take n x.sent)) one ∙ ap reverse (take_more x.sent (length x.sent - suc x.received) Blank within)
    ∙ reverse-append (take (length x.sent - suc x.received) x.sent) (next_item x ∷ [])
  where
    one : length x.sent - x.received ≡ length x.sent - suc x.received + 1
    one = omega (arith, lt)

    within : length x.sent - suc x.received < length x.sent
    within = omega (arith, lt)

next_received : (x : TrackState) → x.received < length x.sent → received_of (record x { received = suc x.received; ended = false }) ≡ next_item x ∷ received_of x
next_received x lt = drop_more x.sent (length x.sent - suc x.received) Blank within ∙ ap (λ n. next_item x ∷ drop n x.sent) one
  where
    within : length x.sent - suc x.received < length x.sent
    within = omega (arith, lt)

    one : length x.sent - suc x.received + 1 ≡ length x.sent - x.received
    one = omega (arith, lt)

walked : (session : Session) (c : Core) (m : ℕ) (x : TrackState) → m + x.received ≡ length x.sent → has_held session c x ≡ false →
    Walked session c (looks session.depth (playing_generation c) (playing_block c) (unreceived_of x)) x
walked session c zero x e free = subst (λ xs. Walked session c (looks session.depth (playing_generation c) (playing_block c) xs) x) (sym none)
    (λ i lt. first i lt, ap (has_looked session c) (finds_none x (omega (arith, e))))
  where
    none : unreceived_of x ≡ []
    none = ap (λ n. reverse (take n x.sent)) (zero_left (length x.sent) refl)
      where
        zero_left : (l : ℕ) → l ≡ length x.sent → l - x.received ≡ 0
        zero_left l f = omega (arith, e, f)

    first : (i : ℕ) → i < 1 → has_held session c (looked_times i x) ≡ false
    first zero lt = free
    first (suc i) lt = absurd (omega (arith, lt))
walked session c (suc m) x e free = subst (λ xs. Walked session c (looks session.depth (playing_generation c) (playing_block c) xs) x) (sym (next_unreceived x lt))
    (by (is_held session.depth (playing_generation c) (playing_block c) (next_item x)) refl
    (walked session c m (record x { received = suc x.received; ended = false }) (omega (arith, e))))
  where
    lt : x.received < length x.sent
    lt = omega (arith, e)

    -- the track after one look
    next : TrackState
    next = record x { received = suc x.received; ended = false }

    held : has_held session c next ≡ is_held session.depth (playing_generation c) (playing_block c) (next_item x)
    held = ap (first_is_held session.depth (playing_generation c) (playing_block c)) (next_received x lt)

    one : (i : ℕ) → i < 1 → has_held session c (looked_times i x) ≡ false
    one zero lt' = free
    one (suc i) lt' = absurd (omega (arith, lt'))

    by : (b : Bool) → is_held session.depth (playing_generation c) (playing_block c) (next_item x) ≡ b →
        (has_held session c next ≡ false → Walked session c (looks session.depth (playing_generation c) (playing_block c) (unreceived_of next)) next) →
        Walked session c (if b then 1 else suc (looks session.depth (playing_generation c) (playing_block c) (unreceived_of next))) x
    by true is rest = (one, ap (has_looked session c) (takes_next x lt) ∙ held ∙ is)
    by false is rest = let more = rest (held ∙ is) in (
      λ i lt'. each more.0 i lt',
      ap (λ y. has_looked session c (looked_times (looks session.depth (playing_generation c) (playing_block c) (unreceived_of next)) y)) (takes_next x lt) ∙ more.1,
    )
      where
        each : ((i : ℕ) → i < looks session.depth (playing_generation c) (playing_block c) (unreceived_of next) → has_held session c (looked_times i next) ≡ false) →
            (i : ℕ) → i < suc (looks session.depth (playing_generation c) (playing_block c) (unreceived_of next)) → has_held session c (looked_times i x) ≡ false
        each more zero lt' = free
        each more (suc i) lt' = ap (λ y. has_held session c (looked_times i y)) (takes_next x lt) ∙ more i (omega (arith, lt'))

-- so it is for each look-up
pub look_up_walks : (session : Session) (c : Core) (x : TrackState) → x.received ≤ length x.sent → Walked session c (looks_of session c x) x
look_up_walks session c x le = by (has_held session c x) refl
  where
    back : length x.sent - x.received + x.received ≡ length x.sent
    back = omega (arith, le)

    by : (b : Bool) → has_held session c x ≡ b → Walked session c (if b then 0 else looks session.depth (playing_generation c) (playing_block c) (unreceived_of x)) x
    by true is = (λ i lt. absurd (omega (arith, lt)), or_right x.ended (has_held session c x) is)
    by false is = walked session c (length x.sent - x.received) x back is

looks_done : (session : Session) (cycles n t : ℕ) (c : Core) (x : TrackState) → c.in_cycle ≡ true → slice_get c.tracks t ≡ Some x →
    ((i : ℕ) → i < n → has_held session c (looked_times i x) ≡ false) → after session cycles c (replicate n (Look t)) ≡ with_tracks (looked_times n) t c
looks_done session cycles zero t c x open_now there free = ap (λ ts. record c { tracks = ts }) (sym (changed_nothing t c.tracks))
looks_done session cycles (suc n) t c x open_now there free = ap (λ d. after session cycles d (replicate n (Look t))) now
    ∙ looks_done session cycles n t (with_tracks looked_once t c) (looked_once x) open_now (changed_slice looked_once t c.tracks x there) (λ i lt. free (suc i) (omega (arith, lt)))
    ∙ ap (λ ts. record c { tracks = ts }) (changed_twice (looked_times n) looked_once t c.tracks)
  where
    now : step session cycles c (Look t) ≡ with_tracks looked_once t c
    now = ap (λ b. if b then with_tracks looked_once t c else c)
        (and_from c.in_cycle (option_map_or (λ y. not (has_held session c y)) (slice_get c.tracks t) false) open_now
        (ap (λ o. option_map_or (λ y. not (has_held session c y)) o false) there ∙ not_from_false (has_held session c x) (free 0 (omega arith))))

-- ---- all tracks

-- of each track no more was received than sent
abbrev pub AllWithin : List TrackState → Type 0
AllWithin xs = (i : ℕ) (x : TrackState) → slice_get xs i ≡ Some x → x.received ≤ length x.sent

look_ups_done : (session : Session) (cycles : ℕ) (c : Core) (pre xs : List TrackState) → c.in_cycle ≡ true → AllWithin xs →
    after session cycles (record c { tracks = pre ++ xs }) (look_ups session c (length pre) xs) ≡ record c { tracks = pre ++ map (looked_fully session c) xs }
look_ups_done session cycles c pre [] open_now within = refl
look_ups_done session cycles c pre (x ∷ xs) open_now within =
    after_append session cycles (record c { tracks = pre ++ x ∷ xs }) (replicate (looks_of session c x) (Look (length pre))) (look_ups session c (suc (length pre)) xs)
    ∙ ap (λ d. after session cycles d (look_ups session c (suc (length pre)) xs)) first
    ∙ ap (λ n. after session cycles (record c { tracks = (pre ++ looked_fully session c x ∷ []) ++ xs }) (look_ups session c n xs)) (sym (one_longer pre (looked_fully session c x)))
    ∙ look_ups_done session cycles c (pre ++ looked_fully session c x ∷ []) xs open_now (λ i. within (suc i))
    ∙ ap (λ ts. record c { tracks = ts }) (append_assoc pre (looked_fully session c x ∷ []) (map (looked_fully session c) xs))
  where
    first : after session cycles (record c { tracks = pre ++ x ∷ xs }) (replicate (looks_of session c x) (Look (length pre)))
        ≡ record c { tracks = (pre ++ looked_fully session c x ∷ []) ++ xs }
    first = looks_done session cycles (looks_of session c x) (length pre) (record c { tracks = pre ++ x ∷ xs }) x open_now (slice_there pre x xs)
        (look_up_walks session c x (within 0 x refl)).0
        ∙ ap (λ ts. record c { tracks = ts }) (changed_there (looked_times (looks_of session c x)) pre x xs ∙ sym (append_assoc pre (looked_fully session c x ∷ []) xs))

-- a process in a cycle doesn't enter
pub enters_not : (session : Session) (cycles : ℕ) (c : Core) → c.in_cycle ≡ true → step session cycles c EnterProcess ≡ c
enters_not session cycles c open_now = ap (λ b. if b && nat_lt (length c.entries) cycles && not (has_quit c.edits c.playing) then done session cycles c EnterProcess else c)
    (not_from_true c.in_cycle open_now)

pub gather_done : (session : Session) (cycles : ℕ) (c : Core) → c.in_cycle ≡ true → AllWithin c.tracks →
    after session cycles c (gather_moves session cycles c) ≡ record c { tracks = map (looked_fully session c) c.tracks }
gather_done session cycles c open_now within = ap (λ d. after session cycles d (if d.in_cycle then look_ups session d 0 d.tracks else [])) (enters_not session cycles c open_now)
    ∙ ap (λ b. after session cycles c (if b then look_ups session c 0 c.tracks else [])) open_now
    ∙ look_ups_done session cycles c [] c.tracks open_now within
