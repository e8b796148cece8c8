-- A look-up where nothing is held receives all that was sent, and notes that there is no more.
use Rattle.std.proofs.Common.{◌≡◌, ℕ, zero, suc, ◌+◌, ◌-◌, ◌≤◌, List, [], ◌∷◌, length, take, drop, refl, ap, arith, ◌∙◌}
use Rattle.std.specs.Prelude.{true, false, not, min, if◌then◌else◌, Some, slice_get, map}
use Rattle.std.proofs.lemmas.Bool.{and_parts, lt-ltb, le-ltb, not-true}
use Rattle.std.proofs.lemmas.List.{length-reverse, length-take, take-append-drop}
use Rattle.session_model.specs.declared.session.Session.{Session}
use Rattle.engine_model.specs.Cycle.{is_held}
use Rattle.engine_model.specs.Items.{Kind}
use Rattle.engine_laws.specs.SerialLaws.{none_is_held}
use Rattle.machine_model.specs.Core.{Core, TrackState, unreceived_of, playing_generation, playing_block, first_is_held, has_held}
use Rattle.machine_model.specs.Events.{after}
use Rattle.machine_model.specs.Letters.{looks, looks_of, gather_moves}
use Rattle.machine_laws.proofs.EventLists.{all_both, all_reversed}
use Rattle.machine_laws.proofs.LookLemmas.{looked_times, looked_fully, gather_done}

-- ---- one track

received_free : (depth g s n : ℕ) (xs : List Kind) → none_is_held depth g s xs ≡ true → first_is_held depth g s (drop n xs) ≡ false
received_free depth g s n xs none = first (drop n xs) (all_both (λ x. not (is_held depth g s x)) (take n xs) (drop n xs) (ap (none_is_held depth g s) (take-append-drop n xs) ∙ none)).1
  where
    first : (ys : List Kind) → none_is_held depth g s ys ≡ true → first_is_held depth g s ys ≡ false
    first [] h = refl
    first (y ∷ ys) h = not-true (is_held depth g s y) (and_parts (not (is_held depth g s y)) (none_is_held depth g s ys) h).0

-- nothing that was sent of a track is held
abbrev pub IsFree : Session → Core → TrackState → Type 0
IsFree session c x = none_is_held session.depth (playing_generation c) (playing_block c) x.sent ≡ true

pub none_held : (session : Session) (c : Core) (x : TrackState) → IsFree session c x → has_held session c x ≡ false
none_held session c x free = received_free session.depth (playing_generation c) (playing_block c) (length x.sent - x.received) x.sent free

looks_all : (depth g s : ℕ) (xs : List Kind) → none_is_held depth g s xs ≡ true → looks depth g s xs ≡ suc (length xs)
looks_all depth g s [] h = refl
looks_all depth g s (x ∷ xs) h = let parts = and_parts (not (is_held depth g s x)) (none_is_held depth g s xs) h in
    ap (λ b. if b then 1 else suc (looks depth g s xs)) (not-true (is_held depth g s x) parts.0) ∙ ap suc (looks_all depth g s xs parts.1)

looks_are : (session : Session) (c : Core) (x : TrackState) → IsFree session c x → looks_of session c x ≡ suc (length x.sent - x.received)
looks_are session c x free = ap (λ b. if b then 0 else looks session.depth (playing_generation c) (playing_block c) (unreceived_of x)) (none_held session c x free)
    ∙ looks_all session.depth (playing_generation c) (playing_block c) (unreceived_of x)
    (all_reversed (λ k. not (is_held session.depth (playing_generation c) (playing_block c) k)) (take (length x.sent - x.received) x.sent)
    (all_both (λ k. not (is_held session.depth (playing_generation c) (playing_block c) k)) (take (length x.sent - x.received) x.sent) (drop (length x.sent - x.received) x.sent)
    (ap (none_is_held session.depth (playing_generation c) (playing_block c)) (take-append-drop (length x.sent - x.received) x.sent) ∙ free)).0)
    ∙ ap suc (length-reverse (take (length x.sent - x.received) x.sent) ∙ length-take (length x.sent - x.received) x.sent ∙ low (length x.sent) x.received)
  where
    low : (n r : ℕ) → min (n - r) n ≡ n - r
    low n r = omega arith

-- all that was sent is received, and the look-up is over
abbrev pub gathered : TrackState → TrackState
gathered x = record x { received = length x.sent; tails = length x.sent ∷ x.tails; ended = true }

looked_all : (m : ℕ) (x : TrackState) → m + x.received ≡ length x.sent → looked_times (suc m) x ≡ gathered x
looked_all zero x e = ap (λ b. if b then record x { received = suc x.received; ended = false } else record x { tails = x.received ∷ x.tails; ended = true })
    (le-ltb x.received (length x.sent) (omega (arith, e)))
    ∙ ap (λ n. record x { received = n; tails = n ∷ x.tails; ended = true }) now
  where
    now : x.received ≡ length x.sent
    now = omega (arith, e)
looked_all (suc m) x e = ap (λ y. looked_times (suc m) y)
    (ap (λ b. if b then record x { received = suc x.received; ended = false } else record x { tails = x.received ∷ x.tails; ended = true }) (lt-ltb x.received (length x.sent) (omega (arith, e))))
    ∙ looked_all m (record x { received = suc x.received; ended = false }) (omega (arith, e))

-- where nothing is held, all that was sent is received
fully_all : (session : Session) (c : Core) (xs : List TrackState) → ((i : ℕ) (x : TrackState) → slice_get xs i ≡ Some x → IsFree session c x × (x.received ≤ length x.sent)) →
    map (looked_fully session c) xs ≡ map gathered xs
fully_all session c [] free = refl
fully_all session c (x ∷ xs) free = ap (λ y. y ∷ map (looked_fully session c) xs) (ap (λ n. looked_times n x) (looks_are session c x (free 0 x refl).0)
    ∙ looked_all (length x.sent - x.received) x (back (free 0 x refl).1)) ∙ ap (λ ys. gathered x ∷ ys) (fully_all session c xs (λ i. free (suc i)))
  where
    back : x.received ≤ length x.sent → length x.sent - x.received + x.received ≡ length x.sent
    back le = omega (arith, le)

-- each track is free, and no more was received than sent
abbrev pub AllFree : Session → Core → List TrackState → Type 0
AllFree session c xs = (i : ℕ) (x : TrackState) → slice_get xs i ≡ Some x → IsFree session c x × (x.received ≤ length x.sent)

pub gather_all : (session : Session) (cycles : ℕ) (c : Core) → c.in_cycle ≡ true → AllFree session c c.tracks →
    after session cycles c (gather_moves session cycles c) ≡ record c { tracks = map gathered c.tracks }
gather_all session cycles c open_now free = gather_done session cycles c open_now (λ i x e. (free i x e).1) ∙ ap (λ ts. record c { tracks = ts }) (fully_all session c c.tracks free)
