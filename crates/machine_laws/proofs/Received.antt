-- What was received of each track as a step leaves it, and the state that the entry of the cycle will have by it.
use Rattle.std.proofs.Common.{◌≡◌, ℕ, zero, suc, ◌+◌, ◌-◌, ◌≤◌, List, [], ◌∷◌, ◌++◌, length, drop, get_or, refl, sym, ap, subst, arith, ◌∙◌}
use Rattle.std.specs.Prelude.{Bool, true, false, nat_lt, nat_eq, if◌then◌else◌, Option, Some, None, slice_get, map}
use Rattle.std.proofs.lemmas.Bool.{and_parts, and_from, ltb-true, false≢true, or_right}
use Rattle.std.proofs.lemmas.List.{length-drop, drop_more, length-map}
use Rattle.std.proofs.lemmas.Option.{none-some, same_Some}
use Rattle.session_model.specs.declared.session.Session.{Session}
use Rattle.engine_model.specs.Changes.{changed_at}
use Rattle.engine_model.specs.Edits.{generation}
use Rattle.engine_model.specs.Editions.{edition}
use Rattle.engine_model.specs.Items.{Kind, Piece, Settled, Blank, among, blocks}
use Rattle.engine_model.specs.Journal.{is_rolling}
use Rattle.engine_model.specs.Cycle.{has_piece, waiting, first_state, state_of}
use Rattle.engine_model.specs.Fits.{records}
use Rattle.engine_model.specs.Made.{Receives}
use Rattle.machine_model.specs.Core.{TrackState, Core, received_of, coming_state, playing_block}
use Rattle.machine_model.specs.Events.{sent_one, looked_once, is_recorded}
use Rattle.machine_laws.proofs.Tracks.{of_mapped, also_there, each_changed, long_changed}

-- ---- one track

pub received_long : (x : TrackState) → x.received ≤ length x.sent → length (received_of x) ≡ x.received
received_long x le = length-drop (length x.sent - x.received) x.sent ∙ by
  where
    by : length x.sent - (length x.sent - x.received) ≡ x.received
    by = omega (arith, le)

drop_next : (n r : ℕ) (y : Kind) (ys : List Kind) → n ≡ length ys → r ≤ n → drop (suc n - r) (y ∷ ys) ≡ drop (n - r) ys
drop_next n r y ys e le = ap (λ k. drop k (y ∷ ys)) by
  where
    by : suc n - r ≡ suc (n - r)
    by = omega (arith, le)

pub received_sent : (o : Option Kind) (x : TrackState) → x.received ≤ length x.sent → received_of (sent_one o x) ≡ received_of x
received_sent None x le = refl
received_sent (Some y) x le = drop_next (length x.sent) x.received y x.sent refl le

-- a look takes one item or none
pub more_received : (x : TrackState) → (more : List Kind) × (received_of (looked_once x) ≡ more ++ received_of x)
more_received x = by (nat_lt x.received (length x.sent)) refl
  where
    by : (b : Bool) → nat_lt x.received (length x.sent) ≡ b →
        (more : List Kind) × (received_of (if b then record x { received = suc x.received; ended = false } else record x { tails = x.received ∷ x.tails; ended = true }) ≡ more ++ received_of x)
    by false e = ([], refl)
    by true e = let lt = ltb-true x.received (length x.sent) e in let n : ℕ = length x.sent - suc x.received in
        let next : length x.sent - x.received ≡ n + 1 = omega (arith, lt) in
        let item : Kind = get_or x.sent n Blank in
        (item ∷ [], drop_more x.sent n Blank (omega (arith, lt)) ∙ ap (λ k. item ∷ drop k x.sent) (sym next))

-- ---- all tracks

pub receives_itself : (tracks : List (List Kind)) → Receives tracks tracks
receives_itself tracks = record { many = refl; each = λ t xs ys a b. ([], sym (same_Some xs ys (sym a ∙ b))) }

pub receives_same : (old new : List (List Kind)) → new ≡ old → Receives old new
receives_same old new e = subst (λ l. Receives old l) (sym e) (receives_itself old)

pub receives_changed : (f : TrackState → TrackState) (t : ℕ) (tracks : List TrackState) → ((x : TrackState) → (more : List Kind) × (received_of (f x) ≡ more ++ received_of x)) →
    Receives (map received_of tracks) (map received_of (changed_at f t tracks))
receives_changed f t tracks more = record {
  many = length-map (changed_at f t tracks) received_of ∙ long_changed f t tracks ∙ sym (length-map tracks received_of);
  each = λ i xs ys a b. let old = of_mapped received_of tracks i xs a in let new = of_mapped received_of (changed_at f t tracks) i ys b in
      let one = each_changed (λ j y. (x : TrackState) → slice_get tracks j ≡ Some x → (l : List Kind) × (received_of y ≡ l ++ received_of x)) f t tracks
      (λ j y e x e'. ([], ap received_of (same_Some y x (sym e ∙ e'))))
      (λ x e y e'. ((more x).0, (more x).1 ∙ ap (λ z. (more x).0 ++ received_of z) (same_Some x y (sym e ∙ e'))))
      i new.0 new.1 old.0 old.1 in
      (one.0, new.2 ∙ one.1 ∙ ap (λ l. one.0 ++ l) (sym old.2));
}

-- ---- the state to come

piece_stays : (g s : ℕ) (more xs : List Kind) → has_piece g s xs ≡ true → has_piece g s (more ++ xs) ≡ true
piece_stays g s [] xs e = e
piece_stays g s (Piece u h r p ∷ more) xs e = by (nat_eq h g) (piece_stays g s more xs e)
  where
    by : (b : Bool) → among s (blocks g (more ++ xs)) ≡ true → among s (if b then r ∷ blocks g (more ++ xs) else blocks g (more ++ xs)) ≡ true
    by true h' = or_right (nat_eq r s) (among s (blocks g (more ++ xs))) h'
    by false h' = h'
piece_stays g s (Settled k h r ∷ more) xs e = piece_stays g s more xs e
piece_stays g s (Blank ∷ more) xs e = piece_stays g s more xs e

none_waits : (g t : ℕ) (tracks : List (List Kind)) (i : ℕ) (xs : List Kind) → waiting g t tracks ≡ None → slice_get tracks i ≡ Some xs → has_piece g 0 xs ≡ true
none_waits g t [] i xs e there = absurd (none-some xs there)
none_waits g t (y ∷ ys) i xs e there = by (λ j e'. none_waits g (suc t) ys j xs e') (has_piece g 0 y) refl e i there
  where
    by : ((j : ℕ) → waiting g (suc t) ys ≡ None → slice_get ys j ≡ Some xs → has_piece g 0 xs ≡ true) →
        (b : Bool) → has_piece g 0 y ≡ b → (if b then waiting g (suc t) ys else Some (t, length y)) ≡ None → (j : ℕ) → slice_get (y ∷ ys) j ≡ Some xs → has_piece g 0 xs ≡ true
    by next true h e zero there = ap (has_piece g 0) (sym (same_Some y xs there)) ∙ h
    by next true h e (suc j) there = next j e there
    by next false h e j there = absurd (none-some (t, length y) (sym e))

pub all_there : (g t : ℕ) (tracks : List (List Kind)) → ((i : ℕ) (xs : List Kind) → slice_get tracks i ≡ Some xs → has_piece g 0 xs ≡ true) → waiting g t tracks ≡ None
all_there g t [] each = refl
all_there g t (y ∷ ys) each = ap (λ b. if b then waiting g (suc t) ys else Some (t, length y)) (each 0 y refl) ∙ all_there g (suc t) ys (λ i. each (suc i))

rolls_on : (g s : ℕ) (rolls : Bool) (old new : List (List Kind)) → Receives old new → is_rolling (state_of rolls g s old) ≡ true → is_rolling (state_of rolls g s new) ≡ true
rolls_on g s false old new r e = absurd (false≢true e)
rolls_on g (suc s) true old new r e = refl
rolls_on g zero true old new r e = by (waiting g 0 old) refl e
  where
    by : (o : Option (ℕ × ℕ)) → waiting g 0 old ≡ o → is_rolling (first_state g o) ≡ true → is_rolling (first_state g (waiting g 0 new)) ≡ true
    by (Some w) e h = absurd (false≢true h)
    by None e h = ap (λ o. is_rolling (first_state g o)) (all_there g 0 new (λ i ys there.
        let old_there = also_there new old i ys r.many there in let more = r.each i old_there.0 ys old_there.1 there in
        ap (has_piece g 0) more.1 ∙ piece_stays g 0 more.0 old_there.0 (none_waits g 0 old i old_there.0 e old_there.1)))

-- a cycle that records a track does so when more was received
pub recorded_on : (session : Session) (c : Core) (tracks : List TrackState) (t : ℕ) → Receives (map received_of c.tracks) (map received_of tracks) →
    is_recorded session c t ≡ true → is_recorded session (record c { tracks = tracks }) t ≡ true
recorded_on session c tracks t r e = let parts = and_parts (is_rolling (coming_state session c)) (records (edition session c.edits c.playing) t) e in
    and_from (is_rolling (coming_state session (record c { tracks = tracks }))) (records (edition session c.edits c.playing) t)
    (rolls_on (generation c.edits c.playing) (playing_block c) (edition session c.edits c.playing).transport.rolling (map received_of c.tracks) (map received_of tracks) r parts.0) parts.1
