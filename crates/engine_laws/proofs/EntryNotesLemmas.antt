-- The state and the notes of a cycle's entry keep the journal lawful.
use Rattle.std.proofs.Common.{◌≡◌, ℕ, zero, suc, ◌+◌, ◌<◌, ◌≤◌, List, [], ◌∷◌, length, refl, sym, ap, subst, arith, ◌∙◌}
use Rattle.std.specs.Prelude.{Bool, true, false, ◌&&◌, not, ◌==◌, nat_eq, if◌then◌else◌, Option, Some, None, slice_get, replicate}
use Rattle.std.specs.Option.{option_map_or}
use Rattle.std.proofs.lemmas.List.{length-replicate}
use Rattle.std.proofs.lemmas.Bool.{and_from, and_parts, eq-eqb, lt-ltb, true≢false}
use Rattle.session_model.specs.declared.edit.Edit.{Edit}
use Rattle.session_model.specs.declared.session.Session.{Session}
use Rattle.engine_model.specs.Edits.{generation, has_quit}
use Rattle.engine_model.specs.Editions.{Edition, edition}
use Rattle.engine_model.specs.Items.{Kind, newest}
use Rattle.engine_model.specs.Journal.{Heard, Short, Take, Off, Note, State, Stopped, Seeking, Rolling, Entry, is_rolling, rolled}
use Rattle.engine_model.specs.Fits.{fits, fits_state, fits_play, fits_take, fits_note, fits_notes, records, next_take}
use Rattle.engine_model.specs.Cycle.{has_piece, waiting, first_state, rolling_state, state_of, play_of, notes_of, entry_of}
use Rattle.engine_model.specs.Made.{fit_takes}
use Rattle.engine_laws.proofs.LawfulLemmas.{fits_from}

-- ---- the state

-- where it rolls, it rolls at this place, and a first block has all its pieces
unfoldable pub PlaysAs : ℕ → ℕ → List (List Kind) → State → Type 0
PlaysAs g n tracks (Rolling h s) = (h ≡ g) × (s ≡ n) × ((t : ℕ) (xs : List Kind) → slice_get tracks t ≡ Some xs → has_piece g n xs ≡ false → 0 < n)
PlaysAs g n tracks Stopped = Unit {0}
PlaysAs g n tracks (Seeking t tail) = Unit {0}

none_waits : (g t i : ℕ) (tracks : List (List Kind)) (xs : List Kind) → waiting g t tracks ≡ None → slice_get tracks i ≡ Some xs → has_piece g 0 xs ≡ true
none_waits g t i [] xs none there = absurd (none_is_some there)
  where
    none_is_some : None ≡ Some xs → ⊥
    none_is_some e = cc
none_waits g t i (y ∷ ys) xs none there = by (has_piece g 0 y) refl i there (λ k. none_waits g (suc t) k ys xs)
  where
    some_is_none : (w : ℕ × ℕ) → Some w ≡ None → ⊥
    some_is_none w e = cc

    by : (b : Bool) → has_piece g 0 y ≡ b → (k : ℕ) → slice_get (y ∷ ys) k ≡ Some xs → ((j : ℕ) → waiting g (suc t) ys ≡ None → slice_get ys j ≡ Some xs → has_piece g 0 xs ≡ true) → has_piece g 0 xs ≡ true
    by false e k at rest = absurd (some_is_none (t, length y) (sym (ap (λ b. if b then waiting g (suc t) ys else Some (t, length y)) e) ∙ none))
    by true e zero at rest = let same : y ≡ xs = cc in subst (λ l. has_piece g 0 l ≡ true) same e
    by true e (suc k) at rest = rest k (sym (ap (λ b. if b then waiting g (suc t) ys else Some (t, length y)) e) ∙ none) at

first_plays : (g : ℕ) (tracks : List (List Kind)) (o : Option (ℕ × ℕ)) → waiting g 0 tracks ≡ o → PlaysAs g 0 tracks (first_state g o)
unfolding PlaysAs
first_plays g tracks None none = (refl, refl, λ t xs there missing. absurd (true≢false (sym (none_waits g 0 t tracks xs none there) ∙ missing)))
first_plays g tracks (Some w) some = tt

rolling_plays : (g n : ℕ) (tracks : List (List Kind)) → PlaysAs g n tracks (rolling_state g n tracks)
unfolding PlaysAs
rolling_plays g zero tracks = first_plays g tracks (waiting g 0 tracks) refl
rolling_plays g (suc n) tracks = (refl, refl, λ t xs there missing. omega arith)

pub plays_as : (rolls : Bool) (g n : ℕ) (tracks : List (List Kind)) → PlaysAs g n tracks (state_of rolls g n tracks)
unfolding PlaysAs
plays_as true g n tracks = rolling_plays g n tracks
plays_as false g n tracks = tt

waits_within : (g t : ℕ) (tracks : List (List Kind)) (w : ℕ × ℕ) → waiting g t tracks ≡ Some w → w.0 < t + length tracks
waits_within g t [] w at = absurd (none_is_some at)
  where
    none_is_some : None ≡ Some w → ⊥
    none_is_some e = cc
waits_within g t (y ∷ ys) w at = by (has_piece g 0 y) refl (waits_within g (suc t) ys w)
  where
    by : (b : Bool) → has_piece g 0 y ≡ b → (waiting g (suc t) ys ≡ Some w → w.0 < suc t + length ys) → w.0 < t + suc (length ys)
    by true e rest = let low = rest (sym (ap (λ b. if b then waiting g (suc t) ys else Some (t, length y)) e) ∙ at) in omega arith
    by false e rest = let same : Some (t, length y) ≡ Some w = sym (ap (λ b. if b then waiting g (suc t) ys else Some (t, length y)) e) ∙ at in
        let is : t ≡ w.0 = cc in omega arith

first_fits : (tracks : List (List Kind)) (many g : ℕ) (o : Option (ℕ × ℕ)) → length tracks ≡ many → waiting g 0 tracks ≡ o → fits_state true many g 0 (first_state g o) ≡ true
first_fits tracks many g None is none = and_from (nat_eq g g) (nat_eq 0 0) (eq-eqb g g refl) refl
first_fits tracks many g (Some w) is some = let low = waits_within g 0 tracks w some in lt-ltb w.0 many (omega arith)

state_fits : (rolls : Bool) (g n many : ℕ) (tracks : List (List Kind)) → length tracks ≡ many → fits_state rolls many g n (state_of rolls g n tracks) ≡ true
state_fits false g n many tracks is = refl
state_fits true g zero many tracks is = first_fits tracks many g (waiting g 0 tracks) is refl
state_fits true g (suc n) many tracks is = and_from (nat_eq g g) (nat_eq (suc n) (suc n)) (eq-eqb g g refl) (eq-eqb (suc n) (suc n) refl)

-- ---- the notes

notes_long : (state : State) (tracks : List (List Kind)) (takes : List Take) → length takes ≡ length tracks → length (notes_of state tracks takes) ≡ length tracks
notes_long state [] takes is = refl
notes_long state (xs ∷ tracks) [] is = absurd (omega arith)
notes_long state (xs ∷ tracks) (take ∷ takes) is = ap suc (notes_long state tracks takes (omega arith))

play_fits : (g n : ℕ) (tracks : List (List Kind)) (state : State) (t : ℕ) (xs : List Kind) → PlaysAs g n tracks state → slice_get tracks t ≡ Some xs → fits_play (is_rolling state) n (play_of state xs) ≡ true
unfolding PlaysAs
play_fits g n tracks Stopped t xs plays there = refl
play_fits g n tracks (Seeking u tail) t xs plays there = refl
play_fits g n tracks (Rolling h s) t xs plays there = by (has_piece h s xs) refl
  where
    by : (b : Bool) → has_piece h s xs ≡ b → fits_play true n (if b then Heard (newest h s xs) else Short (length xs)) ≡ true
    by true e = refl
    by false e = lt-ltb 0 n (plays.2 t xs there (sym (ap (λ k. has_piece k s xs) plays.0 ∙ ap (λ k. has_piece g k xs) plays.1) ∙ e))

pub some_takes : (many : ℕ) (tracks : List (List Kind)) → length tracks ≡ many → length (replicate many Off) ≡ length tracks
some_takes many tracks is = length-replicate many Off ∙ sym is

off_fits : (rolling armed : Bool) (next : ℕ × ℕ) → fits_take (rolling && (false && armed)) next Off ≡ true
off_fits true armed next = refl
off_fits false armed next = refl

-- where no take is recorded, no take fits
pub none_fit : (now : Edition) (rolling : Bool) (before : List Entry) (t many : ℕ) → now.transport.recording ≡ false → fit_takes now rolling before t (replicate many Off) ≡ true
none_fit now rolling before t zero still = refl
none_fit now rolling before t (suc many) still = and_from (fits_take (rolling && records now t) (next_take t before) Off) (fit_takes now rolling before (suc t) (replicate many Off))
    (ap (λ b. fits_take (rolling && (b && armed)) (next_take t before) Off) still ∙ off_fits rolling armed (next_take t before))
    (none_fit now rolling before (suc t) many still)
  where
    armed : Bool
    armed = option_map_or (λ k. k.armed) (slice_get now.session.tracks.items t) false

-- the notes of the tracks from track t on fit, where the takes do
notes_fit : (now : Edition) (g n : ℕ) (all tracks : List (List Kind)) (takes : List Take) (state : State) (before : List Entry) (t : ℕ) → PlaysAs g n all state →
    fit_takes now (is_rolling state) before t takes ≡ true → ((i : ℕ) (xs : List Kind) → slice_get tracks i ≡ Some xs → slice_get all (t + i) ≡ Some xs) →
    fits_notes now (is_rolling state) n before t (notes_of state tracks takes) ≡ true
notes_fit now g n all [] takes state before t plays fit there = refl
notes_fit now g n all (xs ∷ tracks) [] state before t plays fit there = refl
notes_fit now g n all (xs ∷ tracks) (take ∷ takes) state before t plays fit there =
    let parts = and_parts (fits_take (is_rolling state && records now t) (next_take t before) take) (fit_takes now (is_rolling state) before (suc t) takes) fit in
    and_from (fits_note now (is_rolling state) n before t (record { play = play_of state xs; take = take }))
    (fits_notes now (is_rolling state) n before (suc t) (notes_of state tracks takes))
    (and_from (fits_play (is_rolling state) n (play_of state xs)) (fits_take (is_rolling state && records now t) (next_take t before) take)
    (play_fits g n all state (t + 0) xs plays (there 0 xs refl)) parts.0)
    (notes_fit now g n all tracks takes state before (suc t) plays parts.1 (λ i ys at. subst (λ k. slice_get all k ≡ Some ys) {x = t + suc i} {y = suc t + i} (omega arith) (there (suc i) ys at)))

pub entry_fits : (session : Session) (edits : List Edit) (r : ℕ) (tracks : List (List Kind)) (takes : List Take) (entries : List Entry) → r ≤ length edits →
    length tracks ≡ length session.tracks.items →
    length takes ≡ length tracks → has_quit edits r ≡ false → fit_takes (edition session edits r) (is_rolling (entry_of session edits entries tracks takes r).state) entries 0 takes ≡ true →
    fits session edits entries (entry_of session edits entries tracks takes r) ≡ true
entry_fits session edits r tracks takes entries within many each open_still fit =
    let now : Edition = edition session edits r in let g : ℕ = generation edits r in let n : ℕ = rolled g entries in
    let state : State = state_of now.transport.rolling g n tracks in let notes : List Note = notes_of state tracks takes in
    fits_from session edits entries (entry_of session edits entries tracks takes r) within (ap not open_still)
    (and_from (fits_state now.transport.rolling (length session.tracks.items) g n state && length notes == length session.tracks.items) (fits_notes now (is_rolling state) n entries 0 notes)
    (and_from (fits_state now.transport.rolling (length session.tracks.items) g n state) (length notes == length session.tracks.items)
    (state_fits now.transport.rolling g n (length session.tracks.items) tracks many)
    (eq-eqb (length notes) (length session.tracks.items) (notes_long state tracks takes each ∙ many)))
    (notes_fit now g n tracks tracks takes state entries 0 (plays_as now.transport.rolling g n tracks) fit
    (λ i xs at. subst (λ k. slice_get tracks k ≡ Some xs) {x = i} {y = 0 + i} (omega arith) at)))
