-- A journal stays true of the rings: misses, looks and losses.
use Rattle.std.proofs.Common.{◌≡◌, inl, inr, ℕ, zero, suc, ◌+◌, ◌-◌, ◌<◌, ◌≤◌, List, [], ◌∷◌, ◌++◌, length, take, refl, sym, ap, subst, arith, ◌∙◌, length-append}
use Rattle.std.specs.Prelude.{◌⊎◌, Bool, true, false, ◌&&◌, ◌||◌, not, ◌==◌, nat_le, nat_lt, if◌then◌else◌, Option, Some, None, slice_get, reverse, replicate}
use Rattle.std.specs.List.{list_all}
use Rattle.std.specs.Option.{option_map_or}
use Rattle.std.proofs.lemmas.Bool.{and_from, le-leb, eqb-true, lt-ltb, true≢false}
use Rattle.std.proofs.lemmas.List.{append_assoc, append-nil, length-replicate, length-reverse, reverse-append}
use Rattle.std.proofs.lemmas.List.Folds.{list_all-append}
use Rattle.std.proofs.Math.Bool.{or_assoc, or_comm}
use Rattle.std.proofs.Math.Seq.{take-length}
use Rattle.session_model.specs.declared.edit.Edit.{Edit}
use Rattle.session_model.specs.declared.session.Session.{Session}
use Rattle.engine_model.specs.Edits.{generation}
use Rattle.engine_model.specs.Editions.{edition}
use Rattle.engine_model.specs.Items.{Kind, Piece, Settled, Blank, among, blocks, newest}
use Rattle.engine_model.specs.Journal.{Heard, Short, Take, Off, State, Stopped, Seeking, Rolling, Entry, note_at, note_of, rolled}
use Rattle.engine_model.specs.Cycle.{is_held, has_piece, waiting, first_state, state_of, notes_of, entry_of}
use Rattle.engine_model.specs.Truth.{Miss, miss_of_play, miss_in, misses, item_at, was_held, looked, is_missing, is_within, losses_from, loss_of, taken_after}
use Rattle.engine_laws.specs.TruthLaws.{TruthStands, HasLooked}
use Rattle.engine_laws.specs.JournalInvariant.{no_takes}
use Rattle.engine_laws.proofs.MixedLemmas.{note_is}
use Rattle.engine_laws.proofs.TruthfulLemmas.{within_more, within_both}

-- ---- the entry

pub misses_more : (edits : List Edit) (t : ℕ) (journal : List Entry) (e : Entry) → misses edits t (journal ++ e ∷ []) ≡ misses edits t journal ++ miss_in edits t e e.state
misses_more edits t [] e = append-nil (miss_in edits t e e.state)
misses_more edits t (j ∷ js) e = ap (λ l. miss_in edits t j j.state ++ l) (misses_more edits t js e) ∙ sym (append_assoc (miss_in edits t j j.state) (misses edits t js) (miss_in edits t e e.state))

looked_more : (depth : ℕ) (sent : List Kind) (ms ns : List Miss) → looked depth sent (ms ++ ns) ≡ looked depth sent ms ++ looked depth sent ns
looked_more depth sent [] ns = refl
looked_more depth sent (m ∷ ms) ns = by (was_held depth sent m) (looked_more depth sent ms ns)
  where
    by : (b : Bool) → looked depth sent (ms ++ ns) ≡ looked depth sent ms ++ looked depth sent ns →
        (if b then looked depth sent (ms ++ ns) else m.tail ∷ looked depth sent (ms ++ ns)) ≡ (if b then looked depth sent ms else m.tail ∷ looked depth sent ms) ++ looked depth sent ns
    by true e = e
    by false e = ap (λ l. m.tail ∷ l) e

lost_more : (t taken : ℕ) (journal : List Entry) (e : Entry) → (note_of t e).take ≡ Off → losses_from t taken (journal ++ e ∷ []) ≡ losses_from t taken journal
lost_more t taken [] e off = ap (λ k. loss_of taken k ++ []) off
lost_more t taken (j ∷ js) e off = ap (λ l. loss_of taken (note_of t j).take ++ l) (lost_more t (taken_after taken (note_of t j).take) js e off)

-- no note of these is of a take
off_at : (state : State) (tracks : List (List Kind)) (many t : ℕ) → (note_at t (notes_of state tracks (replicate many Off))).take ≡ Off
off_at state [] many t = refl
off_at state (xs ∷ tracks) zero t = refl
off_at state (xs ∷ tracks) (suc many) zero = refl
off_at state (xs ∷ tracks) (suc many) (suc t) = off_at state tracks many t

-- a block is among those of a list and of its reverse
among_append : (g s : ℕ) (xs ys : List Kind) → among s (blocks g (xs ++ ys)) ≡ (among s (blocks g xs) || among s (blocks g ys))
among_append g s [] ys = refl
among_append g s (Piece u h r p ∷ xs) ys = by (h == g) (among_append g s xs ys)
  where
    by : (b : Bool) → among s (blocks g (xs ++ ys)) ≡ (among s (blocks g xs) || among s (blocks g ys)) →
        among s (if b then r ∷ blocks g (xs ++ ys) else blocks g (xs ++ ys)) ≡ (among s (if b then r ∷ blocks g xs else blocks g xs) || among s (blocks g ys))
    by true e = ap (λ b. r == s || b) e ∙ sym (or_assoc (r == s) (among s (blocks g xs)) (among s (blocks g ys)))
    by false e = e
among_append g s (Settled k h r ∷ xs) ys = among_append g s xs ys
among_append g s (Blank ∷ xs) ys = among_append g s xs ys

among_reverse : (g s : ℕ) (xs : List Kind) → among s (blocks g (reverse xs)) ≡ among s (blocks g xs)
among_reverse g s [] = refl
among_reverse g s (x ∷ xs) = ap (λ l. among s (blocks g l)) (reverse-append (x ∷ []) xs) ∙ among_append g s (reverse xs) (x ∷ [])
    ∙ ap (λ b. b || among s (blocks g (x ∷ []))) (among_reverse g s xs) ∙ or_comm (among s (blocks g xs)) (among s (blocks g (x ∷ []))) ∙ sym (among_append g s (x ∷ []) xs)

-- what a state says of the tracks
unfoldable pub StateIs : ℕ → ℕ → List (List Kind) → State → Type 0
StateIs g n tracks Stopped = Unit {0}
StateIs g n tracks (Seeking u tail) = (n ≡ 0) × (waiting g 0 tracks ≡ Some (u, tail))
StateIs g n tracks (Rolling h s) = (h ≡ g) × (s ≡ n)

first_is : (g : ℕ) (tracks : List (List Kind)) (o : Option (ℕ × ℕ)) → waiting g 0 tracks ≡ o → StateIs g 0 tracks (first_state g o)
unfolding StateIs
first_is g tracks None is = (refl, refl)
first_is g tracks (Some w) is = (refl, is)

pub state_is : (rolls : Bool) (g n : ℕ) (tracks : List (List Kind)) → StateIs g n tracks (state_of rolls g n tracks)
unfolding StateIs
state_is false g n tracks = tt
state_is true g zero tracks = first_is g tracks (waiting g 0 tracks) refl
state_is true g (suc n) tracks = (refl, refl)

same_pair : (a b c d : ℕ) → ◌≡◌ {A = Option (ℕ × ℕ)} (Some (a, b)) (Some (c, d)) → (a ≡ c) × (b ≡ d)
same_pair a b c d e = (ap (λ (o : Option (ℕ × ℕ)). option_map_or (λ p. p.0) o 0) e, ap (λ (o : Option (ℕ × ℕ)). option_map_or (λ p. p.1) o 0) e)

-- a track that waits is none before the first one asked
past : (g k : ℕ) (tracks : List (List Kind)) (u tail : ℕ) → waiting g k tracks ≡ Some (u, tail) → k ≤ u
past g k [] u tail waits = absurd (none_is_some waits)
  where
    none_is_some : ◌≡◌ {A = Option (ℕ × ℕ)} None (Some (u, tail)) → ⊥
    none_is_some e = cc
past g k (y ∷ ys) u tail waits = by (has_piece g 0 y) refl (past g (suc k) ys u tail)
  where
    by : (b : Bool) → has_piece g 0 y ≡ b → (waiting g (suc k) ys ≡ Some (u, tail) → suc k ≤ u) → k ≤ u
    by true e rest = let low = rest (sym (ap (λ b. if b then waiting g (suc k) ys else Some (k, length y)) e) ∙ waits) in omega arith
    by false e rest = let same = (same_pair k (length y) u tail (sym (ap (λ b. if b then waiting g (suc k) ys else Some (k, length y)) e) ∙ waits)).0 in omega arith

-- the track that waits is without its first piece
waits_there : (g k i : ℕ) (tracks : List (List Kind)) (xs : List Kind) (u tail : ℕ) → waiting g k tracks ≡ Some (u, tail) → slice_get tracks i ≡ Some xs → k + i ≡ u →
    (tail ≡ length xs) × (has_piece g 0 xs ≡ false)
waits_there g k i [] xs u tail waits there at = absurd (none_is_some there)
  where
    none_is_some : None ≡ Some xs → ⊥
    none_is_some e = cc
waits_there g k zero (y ∷ ys) xs u tail waits there at = by (has_piece g 0 y) refl
  where
    same : y ≡ xs
    same = cc

    by : (b : Bool) → has_piece g 0 y ≡ b → (tail ≡ length xs) × (has_piece g 0 xs ≡ false)
    by true e = let later = past g (suc k) ys u tail (sym (ap (λ b. if b then waiting g (suc k) ys else Some (k, length y)) e) ∙ waits) in absurd (omega arith)
    by false e = (sym (same_pair k (length y) u tail (sym (ap (λ b. if b then waiting g (suc k) ys else Some (k, length y)) e) ∙ waits)).1 ∙ ap length same, sym (ap (has_piece g 0) same) ∙ e)
waits_there g k (suc i) (y ∷ ys) xs u tail waits there at = by (has_piece g 0 y) refl (waits_there g (suc k) i ys xs u tail)
  where
    by : (b : Bool) → has_piece g 0 y ≡ b → (waiting g (suc k) ys ≡ Some (u, tail) → slice_get ys i ≡ Some xs → suc k + i ≡ u → (tail ≡ length xs) × (has_piece g 0 xs ≡ false)) →
        (tail ≡ length xs) × (has_piece g 0 xs ≡ false)
    by true e rest = rest (sym (ap (λ b. if b then waiting g (suc k) ys else Some (k, length y)) e) ∙ waits) there (omega arith)
    by false e rest = let early = (same_pair k (length y) u tail (sym (ap (λ b. if b then waiting g (suc k) ys else Some (k, length y)) e) ∙ waits)).0 in absurd (omega arith)

-- a miss of the track in a new entry: its block isn't among what was received
unfoldable pub IsNewMiss : ℕ → ℕ → List Kind → List Miss → Type 0
IsNewMiss g n xs ms = (ms ≡ []) ⊎ ((ms ≡ record { generation = g; block = n; tail = length xs } ∷ []) × (has_piece g n xs ≡ false))

miss_of : (g n h s : ℕ) (xs : List Kind) (b : Bool) → h ≡ g → s ≡ n → has_piece h s xs ≡ b → IsNewMiss g n xs (miss_of_play h s (if b then Heard (newest h s xs) else Short (length xs)))
unfolding IsNewMiss
miss_of g n h s xs true same place e = inl refl
miss_of g n h s xs false same place e = inr (
  ap (λ k. record { generation = k; block = s; tail = length xs } ∷ []) same ∙ ap (λ k. record { generation = g; block = k; tail = length xs } ∷ []) place,
  sym (ap (λ k. has_piece k s xs) same ∙ ap (λ k. has_piece g k xs) place) ∙ e,
)

seek_of : (g n u tail t : ℕ) (tracks : List (List Kind)) (xs : List Kind) (b : Bool) → n ≡ 0 → waiting g 0 tracks ≡ Some (u, tail) → slice_get tracks t ≡ Some xs → (u == t) ≡ b →
    IsNewMiss g n xs (if b then record { generation = g; block = 0; tail = tail } ∷ [] else [])
unfolding IsNewMiss
seek_of g n u tail t tracks xs false none waits there e = inl refl
seek_of g n u tail t tracks xs true none waits there e = let same : u ≡ t = eqb-true u t e in let is = waits_there g 0 t tracks xs u tail waits there (omega arith) in
    inr (ap (λ k. record { generation = g; block = k; tail = tail } ∷ []) (sym none) ∙ ap (λ k. record { generation = g; block = n; tail = k } ∷ []) is.0, ap (λ k. has_piece g k xs) none ∙ is.1)

pub new_misses : (edits : List Edit) (t r settled n : ℕ) (tracks : List (List Kind)) (xs : List Kind) (takes : List Take) (state : State) → length takes ≡ length tracks →
    slice_get tracks t ≡ Some xs →
    StateIs (generation edits r) n tracks state →
    IsNewMiss (generation edits r) n xs (miss_in edits t (record { edition = r; settled = settled; state = state; notes = notes_of state tracks takes }) state)
unfolding StateIs IsNewMiss
new_misses edits t r settled n tracks xs takes Stopped many there is = inl refl
new_misses edits t r settled n tracks xs takes (Seeking u tail) many there is = seek_of (generation edits r) n u tail t tracks xs (u == t) is.0 is.1 there refl
new_misses edits t r settled n tracks xs takes (Rolling h s) many there is = subst (λ p. IsNewMiss (generation edits r) n xs (miss_of_play h s p))
    (sym (note_is (Rolling h s) tracks takes t xs many there))
    (miss_of (generation edits r) n h s xs (has_piece h s xs) is.0 is.1 refl)

-- ---- the entry, put together

take_all : (xs : List Kind) → take (length xs) (reverse xs) ≡ reverse xs
take_all xs = ap (λ n. take n (reverse xs)) (sym (length-reverse xs)) ∙ take-length (reverse xs)

one_missing : (g n : ℕ) (xs : List Kind) → has_piece g n xs ≡ false → is_missing (reverse xs) (record { generation = g; block = n; tail = length xs }) ≡ true
one_missing g n xs none = ap (λ l. not (among n (blocks g l))) (take_all xs) ∙ ap not (among_reverse g n xs ∙ none)

-- the last item received is held
last_of : (xs : List Kind) (x : Kind) → item_at (length xs) (xs ++ x ∷ []) ≡ x
last_of [] x = refl
last_of (y ∷ ys) x = last_of ys x

held_last : (depth g n : ℕ) (xs rest : List Kind) (x : Kind) → reverse xs ≡ rest ++ x ∷ [] → is_held depth g n x ≡ true →
    was_held depth (reverse xs) (record { generation = g; block = n; tail = length xs }) ≡ true
held_last depth g n xs rest x is held = and_from (nat_lt 0 (length xs) && nat_le (length xs) (length (reverse xs))) (is_held depth g n (item_at (length xs - 1) (reverse xs)))
    (and_from (nat_lt 0 (length xs)) (nat_le (length xs) (length (reverse xs))) (lt-ltb 0 (length xs) some) (le-leb (length xs) (length (reverse xs)) enough))
    (ap (λ l. is_held depth g n (item_at (length xs - 1) l)) is ∙ ap (λ k. is_held depth g n (item_at k (rest ++ x ∷ []))) place ∙ ap (is_held depth g n) (last_of rest x) ∙ held)
  where
    long : length xs ≡ length rest + 1
    long = sym (length-reverse xs) ∙ ap length is ∙ length-append rest (x ∷ [])

    some : 0 < length xs
    some = omega (arith, long)

    enough : length xs ≤ length (reverse xs)
    enough = grind (arith, length-reverse xs)

    place : length xs - 1 ≡ length rest
    place = omega (arith, long)

-- what is looked for in one miss more
looks_by : (depth g n : ℕ) (xs : List Kind) (old before tails : List ℕ) (b : Bool) → was_held depth (reverse xs) (record { generation = g; block = n; tail = length xs }) ≡ b → is_within old before ≡ true →
    HasLooked depth g n (reverse xs) before tails → is_within (old ++ (if b then [] else length xs ∷ [])) tails ≡ true
looks_by depth g n xs old before tails true e within (inl look) = ap (λ l. is_within l tails) (append-nil old)
    ∙ ap (is_within old) (look.1 ∙ append_assoc before look.0 (length (reverse xs) ∷ [])) ∙ within_more old before (look.0 ++ length (reverse xs) ∷ []) within
looks_by depth g n xs old before tails false e within (inl look) = ap (is_within (old ++ length xs ∷ [])) (look.1 ∙ ap (λ k. before ++ look.0 ++ k ∷ []) (length-reverse xs))
    ∙ within_both old before look.0 (length xs) within
looks_by depth g n xs old before tails true e within (inr look) = ap (λ l. is_within l tails) (append-nil old) ∙ ap (is_within old) look.5 ∙ within_more old before look.2 within
looks_by depth g n xs old before tails false e within (inr look) = absurd (true≢false (sym (held_last depth g n xs look.1 look.0 look.3 look.4) ∙ e))

-- and in no miss more
looks_none : (depth g n : ℕ) (xs : List Kind) (old before tails : List ℕ) → is_within old before ≡ true → HasLooked depth g n (reverse xs) before tails → is_within old tails ≡ true
looks_none depth g n xs old before tails within (inl look) = ap (is_within old) (look.1 ∙ append_assoc before look.0 (length (reverse xs) ∷ [])) ∙ within_more old before (look.0 ++ length (reverse xs) ∷ []) within
looks_none depth g n xs old before tails within (inr look) = ap (is_within old) look.5 ∙ within_more old before look.2 within

pub both_true : {a b : Bool} → a ≡ true → b ≡ true → a && b ≡ true
both_true {a} {b} h k = and_from a b h k

-- the new misses are missing, and none names more items than were received
pub more_missing : (g n : ℕ) (xs : List Kind) (old ms : List Miss) → IsNewMiss g n xs ms →
    list_all (is_missing (reverse xs)) old ≡ true → list_all (λ m. nat_le m.tail (length (reverse xs))) old ≡ true →
    (list_all (is_missing (reverse xs)) (old ++ ms) ≡ true) × (list_all (λ m. nat_le m.tail (length (reverse xs))) (old ++ ms) ≡ true)
unfolding IsNewMiss
more_missing g n xs old ms (inl none) missing within = let same : old ++ ms ≡ old = ap (λ k. old ++ k) none ∙ append-nil old in
    (ap (list_all (is_missing (reverse xs))) same ∙ missing, ap (list_all (λ m. nat_le m.tail (length (reverse xs)))) same ∙ within)
more_missing g n xs old ms (inr one) missing within = (
  ap (λ l. list_all (is_missing (reverse xs)) (old ++ l)) one.0
      ∙ list_all-append (is_missing (reverse xs)) old (record { generation = g; block = n; tail = length xs } ∷ [])
      ∙ both_true missing (both_true (one_missing g n xs one.1) refl),
  ap (λ l. list_all (λ m. nat_le m.tail (length (reverse xs))) (old ++ l)) one.0
      ∙ list_all-append (λ m. nat_le m.tail (length (reverse xs))) old (record { generation = g; block = n; tail = length xs } ∷ [])
      ∙ both_true within (both_true (le-leb (length xs) (length (reverse xs)) (grind (arith, length-reverse xs))) refl),
)

-- and they were looked for
pub more_looked : (depth g n : ℕ) (xs : List Kind) (before tails : List ℕ) (old ms : List Miss) → IsNewMiss g n xs ms →
    HasLooked depth g n (reverse xs) before tails → is_within (looked depth (reverse xs) old) before ≡ true → is_within (looked depth (reverse xs) (old ++ ms)) tails ≡ true
unfolding IsNewMiss
more_looked depth g n xs before tails old ms (inl none) look within = ap (λ k. is_within (looked depth (reverse xs) k) tails) (ap (λ k. old ++ k) none ∙ append-nil old)
    ∙ looks_none depth g n xs (looked depth (reverse xs) old) before tails within look
more_looked depth g n xs before tails old ms (inr one) look within = ap (λ l. is_within (looked depth (reverse xs) (old ++ l)) tails) one.0
    ∙ ap (λ l. is_within l tails) (looked_more depth (reverse xs) old (record { generation = g; block = n; tail = length xs } ∷ []))
    ∙ looks_by depth g n xs (looked depth (reverse xs) old) before tails (was_held depth (reverse xs) (record { generation = g; block = n; tail = length xs })) refl within look

pub truth_stands_with_its_entry : (session : Session) (edits : List Edit) (depth t : ℕ) (before tails : List ℕ) (tracks : List (List Kind)) (xs : List Kind) (journal : List Entry) →
    slice_get tracks t ≡ Some xs → length tracks ≡ length session.tracks.items →
    HasLooked depth (generation edits (length edits)) (rolled (generation edits (length edits)) (reverse journal)) (reverse xs) before tails →
    TruthStands edits depth t (reverse xs) before journal →
    TruthStands edits depth t (reverse xs) tails (journal ++ entry_of session edits (reverse journal) tracks (no_takes session) (length edits) ∷ [])
truth_stands_with_its_entry session edits depth t before tails tracks xs journal there many look old =
    let r : ℕ = length edits in let g : ℕ = generation edits r in let n : ℕ = rolled g (reverse journal) in let rolls : Bool = (edition session edits r).transport.rolling in
    let state : State = state_of rolls g n tracks in let e : Entry = entry_of session edits (reverse journal) tracks (no_takes session) r in
    let new = new_misses edits t r e.settled n tracks xs (no_takes session) state (length-replicate (length session.tracks.items) Off ∙ sym many) there (state_is rolls g n tracks) in
    let all = more_missing g n xs (misses edits t journal) (miss_in edits t e state) new old.missing old.within in
    let more = misses_more edits t journal e in record {
      missing = ap (list_all (is_missing (reverse xs))) more ∙ all.0;
      looked_for = ap (λ l. is_within (looked depth (reverse xs) l) tails) more ∙ more_looked depth g n xs before tails (misses edits t journal) (miss_in edits t e state) new look old.looked_for;
      within = ap (list_all (λ m. nat_le m.tail (length (reverse xs)))) more ∙ all.1;
      none_lost = lost_more t 0 journal e (off_at state tracks (length session.tracks.items) t) ∙ old.none_lost;
    }
