-- Where each track is ready, and each block that is recorded was taken, the entry of the cycle is the plain one.
use Rattle.std.proofs.Common.{◌≡◌, ℕ, zero, suc, ◌+◌, List, [], ◌∷◌, length, refl, sym, ap, subst, arith, ◌∙◌}
use Rattle.std.specs.Prelude.{Bool, true, false, ◌&&◌, min, if◌then◌else◌, Some, slice_get, map}
use Rattle.std.specs.List.{range_with_len}
use Rattle.session_model.specs.declared.session.Session.{Session}
use Rattle.session_model.specs.declared.edit.Edit.{Edit}
use Rattle.engine_model.specs.Cycle.{force, has_piece, settled_number, first_state, state_of, play_of, notes_of, entry_of}
use Rattle.engine_model.specs.Editions.{Edition, edition}
use Rattle.engine_model.specs.Edits.{generation, playlist_edition}
use Rattle.engine_model.specs.Fits.{records, next_take}
use Rattle.engine_model.specs.Items.{Kind, newest}
use Rattle.engine_model.specs.Journal.{Play, Silent, Heard, Short, Take, Note, State, Entry, rolled}
use Rattle.engine_model.specs.Plain.{plain_state, plain_take, plain_note, plain_entry}
use Rattle.engine_laws.specs.SerialLaws.{IsReady}
use Rattle.engine_laws.proofs.PlainLemmas.{range_step}
use Rattle.machine_laws.proofs.Received.{all_there}

settled_all : (r g s : ℕ) (tracks : List (List Kind)) → ((t : ℕ) (xs : List Kind) → slice_get tracks t ≡ Some xs → force g s xs ≡ r) → settled_number r g s tracks ≡ r
settled_all r g s [] each = refl
settled_all r g s (y ∷ ys) each = low (force g s y) (settled_number r g s ys) (each 0 y refl) (settled_all r g s ys (λ t. each (suc t)))
  where
    low : (a b : ℕ) → a ≡ r → b ≡ r → min a b ≡ r
    low a b e f = omega (arith, e, f)

pub state_plain : (rolls : Bool) (g s : ℕ) (tracks : List (List Kind)) → ((i : ℕ) (xs : List Kind) → slice_get tracks i ≡ Some xs → has_piece g s xs ≡ true) →
    state_of rolls g s tracks ≡ plain_state rolls g s
state_plain false g s tracks each = refl
state_plain true g zero tracks each = ap (first_state g) (all_there g 0 tracks each)
state_plain true g (suc s) tracks each = refl

play_plain : (session : Session) (edits : List Edit) (rolls : Bool) (t g s : ℕ) (xs : List Kind) → IsReady session edits t g s xs →
    play_of (plain_state rolls g s) xs ≡ (if rolls then Heard (playlist_edition session edits t (length edits)) else Silent)
play_plain session edits false t g s xs ready = refl
play_plain session edits true t g s xs ready = ap (λ b. if b then Heard (newest g s xs) else Short (length xs)) ready.there ∙ ap Heard ready.fresh

same_note : (a b : Play) (c d : Take) → a ≡ b → c ≡ d → ◌≡◌ {A = Note} (record { play = a; take = c }) (record { play = b; take = d })
same_note a b c d h k = cc

same_notes : (a b : Note) (x y : List Note) → a ≡ b → x ≡ y → a ∷ x ≡ b ∷ y
same_notes a b x y h k = cc

-- each take is the plain one of its track
abbrev pub PlainTakes : Edition → List Entry → ℕ → List Take → Type 0
PlainTakes now before t takes = (i : ℕ) (take : Take) → slice_get takes i ≡ Some take → take ≡ plain_take (now.transport.rolling && records now (i + t)) (next_take (i + t) before)

notes_plain : (session : Session) (edits : List Edit) (now : Edition) (before : List Entry) (g s t : ℕ) (tracks : List (List Kind)) (takes : List Take) → length takes ≡ length tracks →
    ((i : ℕ) (xs : List Kind) → slice_get tracks i ≡ Some xs → IsReady session edits (i + t) g s xs) → PlainTakes now before t takes →
    notes_of (plain_state now.transport.rolling g s) tracks takes ≡ map (plain_note session edits now before) (range_with_len t (length tracks))
notes_plain session edits now before g s t [] takes many each took = refl
notes_plain session edits now before g s t (xs ∷ tracks) [] many each took = absurd (omega (arith, many))
notes_plain session edits now before g s t (xs ∷ tracks) (take ∷ takes) many each took =
    same_notes (record { play = play_of (plain_state now.transport.rolling g s) xs; take = take }) (plain_note session edits now before t)
    (notes_of (plain_state now.transport.rolling g s) tracks takes) (map (plain_note session edits now before) (range_with_len (suc t) (length tracks)))
    (same_note (play_of (plain_state now.transport.rolling g s) xs) (if now.transport.rolling then Heard (playlist_edition session edits t (length edits)) else Silent) take
    (plain_take (now.transport.rolling && records now t) (next_take t before))
    (play_plain session edits now.transport.rolling t g s xs (subst (λ k. IsReady session edits k g s xs) (here t) (each 0 xs refl)))
    (took 0 take refl ∙ ap (λ k. plain_take (now.transport.rolling && records now k) (next_take k before)) (here t)))
    (notes_plain session edits now before g s (suc t) tracks takes (omega (arith, many)) (λ i ys at. subst (λ k. IsReady session edits k g s ys) (next i t) (each (suc i) ys at))
    (λ i k at. took (suc i) k at ∙ ap (λ n. plain_take (now.transport.rolling && records now n) (next_take n before)) (next i t)))
    ∙ sym (ap (map (plain_note session edits now before)) (range_step t (length tracks)))
  where
    here : (t : ℕ) → 0 + t ≡ t
    here t = omega arith

    next : (i t : ℕ) → suc i + t ≡ i + suc t
    next i t = omega arith

same_entry : (r a b : ℕ) (x y : State) (m n : List Note) → a ≡ b → x ≡ y → m ≡ n →
    ◌≡◌ {A = Entry} (record { edition = r; settled = a; state = x; notes = m }) (record { edition = r; settled = b; state = y; notes = n })
same_entry r a b x y m n h k l = cc

pub ready_entry_with_takes : (session : Session) (edits : List Edit) (before : List Entry) (tracks : List (List Kind)) (takes : List Take) → length tracks ≡ length session.tracks.items →
    length takes ≡ length tracks →
    ((t : ℕ) (xs : List Kind) → slice_get tracks t ≡ Some xs → IsReady session edits t (generation edits (length edits)) (rolled (generation edits (length edits)) before) xs) →
    PlainTakes (edition session edits (length edits)) before 0 takes → entry_of session edits before tracks takes (length edits) ≡ plain_entry session edits before
ready_entry_with_takes session edits before tracks takes many long each took =
    let r : ℕ = length edits in let now : Edition = edition session edits r in let g : ℕ = generation edits r in let s : ℕ = rolled g before in let rolls : Bool = now.transport.rolling in
    let state = state_plain rolls g s tracks (λ i xs there. (each i xs there).there) in
    same_entry r (settled_number r g s tracks) r (state_of rolls g s tracks) (plain_state rolls g s)
    (notes_of (state_of rolls g s tracks) tracks takes) (map (plain_note session edits now before) (range_with_len 0 (length session.tracks.items)))
    (settled_all r g s tracks (λ t xs there. (each t xs there).settled)) state
    (ap (λ k. notes_of k tracks takes) state
    ∙ notes_plain session edits now before g s 0 tracks takes long (λ i xs there. subst (λ k. IsReady session edits k g s xs) (from i) (each i xs there)) took
    ∙ ap (λ n. map (plain_note session edits now before) (range_with_len 0 n)) many)
  where
    from : (i : ℕ) → i ≡ i + 0
    from i = omega arith
