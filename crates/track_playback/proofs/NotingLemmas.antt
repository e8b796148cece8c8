-- What is noted of each track, one track after the other.
use Rattle.std.proofs.Common.{◌≡◌, ℕ, zero, suc, ◌+◌, ◌<◌, ◌≤◌, List, [], ◌∷◌, ◌++◌, length, map, refl, ap, ◌∙◌, sym, drop, replicate, arith}
use Rattle.std.specs.Prelude.{Bool, true, false, min, slice_get, slice_index_or, Option, Some, None}
use Rattle.std.specs.Option.{option_map}
use Rattle.std.proofs.lemmas.List.{length-map, map-append, append_assoc}
use Rattle.std.proofs.lemmas.Option.{slice_get-map}
use Rattle.engine_model.specs.Items as engine
use Rattle.engine_model.specs.Items.{Piece, newest}
use Rattle.engine_model.specs.Journal as journal
use Rattle.engine_model.specs.Cycle.{has_piece, force, settled_number, waiting, play_of, notes_of}
use Rattle.play_window.specs.Laws.{Shows}
use Rattle.disk_ring.specs.Receiver.{Receiver}
use Rattle.piece_item.specs.declared.item.Item.{Item}
use Rattle.cycle_journal.specs.declared.note.Note.{Note}
use Rattle.cycle_journal.specs.declared.entry.State.{State}
use Rattle.cycle_journal.specs.JournalView.{seen_state, seen_note}
use Rattle.track_playback.specs.declared.playback.TrackPlayback.{TrackPlayback}
use Rattle.track_playback.specs.declared.play_position.PlayPosition.{PlayPosition}
use Rattle.track_playback.specs.SpareBoxes.{received_kinds}
use Rattle.track_playback.specs.Heard.{IsHeard, AreHeard, touched_of}
use Rattle.play_window.proofs.BoxLemmas.{unless, when}
use Rattle.track_playback.proofs.HeardLemmas.{ring_of}

-- ---- one track

-- a piece that is shown is heard
pub heard_is : (g s : ℕ) (xs : List engine.Kind) (item : engine.Item) (n : ℕ) → Shows g s (has_piece g s xs) (newest g s xs) (Some item) → n ≡ touched_of item.kind
    → journal.Heard n ≡ play_of (journal.Rolling g s) xs
heard_is g s xs item n shows is = ap journal.Heard (is ∙ ap touched_of shows.1.1) ∙ sym (when (has_piece g s xs) (journal.Heard (newest g s xs)) (journal.Short (length xs)) shows.0)

-- where none is shown, the track is silent
pub short_is : (g s : ℕ) (xs : List engine.Kind) (n : ℕ) → Shows g s (has_piece g s xs) (newest g s xs) None → n ≡ length xs → journal.Short n ≡ play_of (journal.Rolling g s) xs
short_is g s xs n shows is = ap journal.Short is ∙ sym (unless (has_piece g s xs) (journal.Heard (newest g s xs)) (journal.Short (length xs)) shows)

-- ---- tracks that are left

-- the first of those that are left
pub left_is : {X : Type 0} (xs : List X) (t : ℕ) (x : X) → slice_get xs t ≡ Some x → drop t xs ≡ x ∷ drop (suc t) xs
left_is [] t x there = absurd (none_is_some there)
  where
    none_is_some : None ≡ Some x → ⊥
    none_is_some e = cc
left_is (y ∷ ys) zero x there = let same : y ≡ x = cc in ap (λ z. z ∷ ys) same
left_is (y ∷ ys) (suc t) x there = left_is ys t x there

pub none_left : {X : Type 0} (xs : List X) (t : ℕ) → length xs ≤ t → drop t xs ≡ []
none_left [] zero le = refl
none_left [] (suc t) le = refl
none_left (x ∷ xs) zero le = absurd (omega arith)
none_left (x ∷ xs) (suc t) le = none_left xs t (omega arith)

-- the kinds of the tracks from number t on
abbrev pub left : List (Receiver Item) → ℕ → List (List engine.Kind)
left plays t = drop t (map received_kinds plays)

left_of : (plays : List (Receiver Item)) (t : ℕ) (r : Receiver Item) → slice_get plays t ≡ Some r → left plays t ≡ received_kinds r ∷ left plays (t + 1)
left_of plays t r there = left_is (map received_kinds plays) t (received_kinds r) (slice_get-map received_kinds plays t ∙ ap (option_map received_kinds) there)
    ∙ ap (λ n. received_kinds r ∷ left plays n) next
  where
    next : suc t ≡ t + 1
    next = omega arith

-- ---- the settled number

settled_less : (m f g s : ℕ) (tracks : List (List engine.Kind)) → settled_number (min m f) g s tracks ≡ min f (settled_number m g s tracks)
settled_less m f g s [] = omega arith
settled_less m f g s (xs ∷ tracks) = ap (min (force g s xs)) (settled_less m f g s tracks) ∙ swap (force g s xs) f (settled_number m g s tracks)
  where
    swap : (a b n : ℕ) → min a (min b n) ≡ min b (min a n)
    swap a b n = omega arith

pub settled_more : (at : PlayPosition) (plays : List (Receiver Item)) (playbacks : List TrackPlayback) (t least n all : ℕ) (d : TrackPlayback) → AreHeard at plays playbacks → t < length playbacks → d ≡ slice_index_or playbacks t d
    → ((r : Receiver Item) → IsHeard at r d → n ≡ force at.generation at.next (received_kinds r))
    → settled_number least at.generation at.next (left plays t) ≡ all → settled_number (min least n) at.generation at.next (left plays (t + 1)) ≡ all
settled_more at plays playbacks t least n all d heard lt is told so_far = let r = ring_of at plays playbacks t d heard lt is in
    settled_less least n at.generation at.next (left plays (t + 1)) ∙ ap (λ f. min f (settled_number least at.generation at.next (left plays (t + 1)))) (told r.ring r.heard)
    ∙ sym (ap (settled_number least at.generation at.next) (left_of plays t r.ring r.there)) ∙ so_far

pub settled_all : (g s least t all : ℕ) (plays : List (Receiver Item)) → length plays ≤ t → settled_number least g s (left plays t) ≡ all → least ≡ all
settled_all g s least t all plays le so_far = sym (ap (settled_number least g s) (none_left (map received_kinds plays) t (omega (arith, length-map plays received_kinds)))) ∙ so_far

-- ---- the track that waits

pub waiting_more : (at : PlayPosition) (plays : List (Receiver Item)) (playbacks : List TrackPlayback) (t : ℕ) (there : Bool) (all : Option (ℕ × ℕ)) (d : TrackPlayback) → AreHeard at plays playbacks → t < length playbacks → d ≡ slice_index_or playbacks t d
    → ((r : Receiver Item) → IsHeard at r d → there ≡ has_piece at.generation 0 (received_kinds r)) → there ≡ true
    → waiting at.generation t (left plays t) ≡ all → waiting at.generation (t + 1) (left plays (t + 1)) ≡ all
waiting_more at plays playbacks t there all d heard lt is told found so_far = let r = ring_of at plays playbacks t d heard lt is in
    ap (λ n. waiting at.generation n (left plays (t + 1))) next
    ∙ sym (when (has_piece at.generation 0 (received_kinds r.ring)) (waiting at.generation (suc t) (left plays (t + 1))) (Some (t, length (received_kinds r.ring))) (sym (told r.ring r.heard) ∙ found))
    ∙ sym (ap (waiting at.generation t) (left_of plays t r.ring r.there)) ∙ so_far
  where
    next : t + 1 ≡ suc t
    next = omega arith

pub waiting_here : (at : PlayPosition) (plays : List (Receiver Item)) (playbacks : List TrackPlayback) (t n : ℕ) (there : Bool) (all : Option (ℕ × ℕ)) (d : TrackPlayback) → AreHeard at plays playbacks → t < length playbacks → d ≡ slice_index_or playbacks t d
    → ((r : Receiver Item) → IsHeard at r d → there ≡ has_piece at.generation 0 (received_kinds r)) → there ≡ false
    → ((r : Receiver Item) → IsHeard at r d → n ≡ length (received_kinds r))
    → waiting at.generation t (left plays t) ≡ all → Some (t, n) ≡ all
waiting_here at plays playbacks t n there all d heard lt is told missing tail so_far = let r = ring_of at plays playbacks t d heard lt is in
    ap (λ k. Some (t, k)) (tail r.ring r.heard)
    ∙ sym (unless (has_piece at.generation 0 (received_kinds r.ring)) (waiting at.generation (suc t) (left plays (t + 1))) (Some (t, length (received_kinds r.ring))) (sym (told r.ring r.heard) ∙ missing))
    ∙ sym (ap (waiting at.generation t) (left_of plays t r.ring r.there)) ∙ so_far

pub none_waits : (g t : ℕ) (all : Option (ℕ × ℕ)) (plays : List (Receiver Item)) → length plays ≤ t → waiting g t (left plays t) ≡ all → None ≡ all
none_waits g t all plays le so_far = sym (ap (waiting g t) (none_left (map received_kinds plays) t (omega (arith, length-map plays received_kinds)))) ∙ so_far

-- ---- notes

-- the note of a track of which nothing is taken
abbrev pub noted : journal.State → List engine.Kind → journal.Note
noted state xs = record { play = play_of state xs; take = journal.Off }

pub notes_are : (state : journal.State) (tracks : List (List engine.Kind)) → notes_of state tracks (replicate (length tracks) journal.Off) ≡ map (noted state) tracks
notes_are state [] = refl
notes_are state (xs ∷ tracks) = ap (λ l. noted state xs ∷ l) (notes_are state tracks)

pub noted_more : (at : PlayPosition) (state : State) (plays : List (Receiver Item)) (playbacks : List TrackPlayback) (t : ℕ) (notes : List Note) (note : Note) (all : List journal.Note) (d : TrackPlayback) → AreHeard at plays playbacks → t < length playbacks → d ≡ slice_index_or playbacks t d
    → ((r : Receiver Item) → IsHeard at r d → seen_note note ≡ noted (seen_state state) (received_kinds r))
    → map seen_note notes ++ map (noted (seen_state state)) (left plays t) ≡ all → map seen_note (notes ++ note ∷ []) ++ map (noted (seen_state state)) (left plays (t + 1)) ≡ all
noted_more at state plays playbacks t notes note all d heard lt is told so_far = let r = ring_of at plays playbacks t d heard lt is in let rest = map (noted (seen_state state)) (left plays (t + 1)) in
    ap (λ l. l ++ rest) (map-append seen_note notes (note ∷ [])) ∙ append_assoc (map seen_note notes) (seen_note note ∷ []) rest
    ∙ ap (λ n. map seen_note notes ++ n ∷ rest) (told r.ring r.heard)
    ∙ sym (ap (λ l. map seen_note notes ++ map (noted (seen_state state)) l) (left_of plays t r.ring r.there)) ∙ so_far

pub noted_all : (state : State) (plays : List (Receiver Item)) (t : ℕ) (notes : List Note) → length plays ≤ t
    → map seen_note notes ++ map (noted (seen_state state)) (left plays t) ≡ map (noted (seen_state state)) (map received_kinds plays)
    → map seen_note notes ≡ notes_of (seen_state state) (map received_kinds plays) (replicate (length plays) journal.Off)
noted_all state plays t notes le so_far = sym (append_none (map seen_note notes)) ∙ sym (ap (λ l. map seen_note notes ++ map (noted (seen_state state)) l) (none_left (map received_kinds plays) t (omega (arith, length-map plays received_kinds))))
    ∙ so_far ∙ sym (notes_are (seen_state state) (map received_kinds plays)) ∙ ap (λ n. notes_of (seen_state state) (map received_kinds plays) (replicate n journal.Off)) (length-map plays received_kinds)
  where
    append_none : {X : Type 0} (xs : List X) → xs ++ [] ≡ xs
    append_none [] = refl
    append_none (x ∷ xs) = ap (λ l. x ∷ l) (append_none xs)
