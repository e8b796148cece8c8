-- What a journal says of pieces that weren't there stands while more is received, more edits come, and entries are made.
use Rattle.std.proofs.Common.{◌≡◌, inl, inr, ℕ, List, [], ◌∷◌, ◌++◌, length, refl, sym, ap, ◌∙◌}
use Rattle.std.specs.Prelude.{Bool, true, nat_le, slice_get, Some, reverse}
use Rattle.std.specs.List.{list_all}
use Rattle.std.proofs.lemmas.Bool.{and_parts}
use Rattle.std.proofs.lemmas.List.{append-nil, length-reverse, reverse-append}
use Rattle.std.proofs.lemmas.List.Folds.{list_all-append}
use Rattle.session_model.specs.declared.edit.Edit.{Edit}
use Rattle.session_model.specs.declared.session.Session.{Session}
use Rattle.engine_model.specs.Edits.{generation}
use Rattle.engine_model.specs.Editions.{edition}
use Rattle.engine_model.specs.Items.{Kind}
use Rattle.engine_model.specs.Journal.{Take, State, Entry, rolled}
use Rattle.engine_model.specs.Cycle.{state_of, entry_of}
use Rattle.engine_model.specs.Truth.{Miss, miss_in, misses, looked, is_missing, is_within}
use Rattle.engine_laws.specs.MadeLaws.{HasLookedUp, LooksStandWhileReceiving, LooksStandWhileEditing, LooksStandWithItsEntry}
use Rattle.engine_laws.specs.TruthLaws.{HasLooked}
use Rattle.engine_laws.proofs.TruthfulLemmas.{all_missing, all_within, looked_stays, misses_stay, within_more}
use Rattle.engine_laws.proofs.TruthLemmas.{both_true, IsNewMiss, state_is, new_misses, misses_more, more_missing, more_looked}

-- ---- more is received

within_reverse : (xs : List Kind) (ms : List Miss) → list_all (λ m. nat_le m.tail (length xs)) ms ≡ list_all (λ m. nat_le m.tail (length (reverse xs))) ms
within_reverse xs ms = ap (λ n. list_all (λ m. nat_le m.tail n) ms) (sym (length-reverse xs))

pub looks_stand_while_receiving : LooksStandWhileReceiving
looks_stand_while_receiving edits depth t more received further tails entries old =
    let ms : List Miss = misses edits t (reverse entries) in
    let within : list_all (λ m. nat_le m.tail (length (reverse received))) ms ≡ true = sym (within_reverse received ms) ∙ old.within in record {
      missing = ap (λ l. list_all (is_missing l) ms) (reverse-append more received) ∙ all_missing (reverse received) (reverse more) ms within old.missing;
      looked_for = ap (λ l. is_within (looked depth l ms) (reverse (further ++ tails))) (reverse-append more received)
          ∙ ap (λ l. is_within (looked depth (reverse received ++ reverse more) ms) l) (reverse-append further tails)
          ∙ ap (λ l. is_within l (reverse tails ++ reverse further)) (looked_stays depth (reverse received) (reverse more) ms within)
          ∙ within_more (looked depth (reverse received) ms) (reverse tails) (reverse further) old.looked_for;
      within = within_reverse (more ++ received) ms ∙ ap (λ l. list_all (λ m. nat_le m.tail (length l)) ms) (reverse-append more received)
          ∙ all_within (reverse received) (reverse more) ms within;
    }

-- ---- more edits come

all_reverse : (p : Entry → Bool) (entries : List Entry) → list_all p entries ≡ true → list_all p (reverse entries) ≡ true
all_reverse p [] all = refl
all_reverse p (e ∷ es) all = let parts = and_parts (p e) (list_all p es) all in
    ap (list_all p) (reverse-append (e ∷ []) es) ∙ list_all-append p (reverse es) (e ∷ []) ∙ both_true (all_reverse p es parts.1) (both_true parts.0 refl)

pub looks_stand_while_editing : LooksStandWhileEditing
looks_stand_while_editing edits extra depth t received tails entries all old =
    let same = misses_stay edits extra t (reverse entries) (all_reverse (λ e. nat_le e.edition (length edits)) entries all) in record {
      missing = ap (λ ms. list_all (is_missing (reverse received)) ms) same ∙ old.missing;
      looked_for = ap (λ ms. is_within (looked depth (reverse received) ms) (reverse tails)) same ∙ old.looked_for;
      within = ap (λ ms. list_all (λ m. nat_le m.tail (length received)) ms) same ∙ old.within;
    }

-- ---- with the entry of a cycle

-- one more entry names these misses more
pub new_entry_misses : (session : Session) (edits : List Edit) (t r : ℕ) (tracks : List (List Kind)) (xs : List Kind) (takes : List Take) (entries : List Entry) →
    slice_get tracks t ≡ Some xs → length tracks ≡ length session.tracks.items → length takes ≡ length session.tracks.items →
    let e = entry_of session edits entries tracks takes r in
    (ms : List Miss) × (misses edits t (reverse (e ∷ entries)) ≡ misses edits t (reverse entries) ++ ms) × IsNewMiss (generation edits r) (rolled (generation edits r) entries) xs ms
new_entry_misses session edits t r tracks xs takes entries there many each =
    let g : ℕ = generation edits r in let n : ℕ = rolled g entries in let rolls : Bool = (edition session edits r).transport.rolling in
    let state : State = state_of rolls g n tracks in let e : Entry = entry_of session edits entries tracks takes r in (
      miss_in edits t e state,
      ap (misses edits t) (reverse-append (e ∷ []) entries) ∙ misses_more edits t (reverse entries) e,
      new_misses edits t r e.settled n tracks xs takes state (each ∙ sym many) there (state_is rolls g n tracks),
    )

looked_up : (depth g s : ℕ) (xs : List Kind) (before tails : List ℕ) → HasLookedUp depth g s xs before tails → HasLooked depth g s (reverse xs) (reverse before) (reverse tails)
looked_up depth g s xs before tails (inl is) = inl (
  [],
  ap reverse is ∙ reverse-append (length xs ∷ []) before ∙ ap (λ n. reverse before ++ n ∷ []) (sym (length-reverse xs))
      ∙ ap (λ l. l ++ length (reverse xs) ∷ []) (sym (append-nil (reverse before))),
)
looked_up depth g s xs before tails (inr held) = inr (
  held.0,
  reverse held.1,
  [],
  ap reverse held.2 ∙ reverse-append (held.0 ∷ []) held.1,
  held.3,
  ap reverse held.4
      ∙ sym (append-nil (reverse before)),
)

pub looks_stand_with_its_entry : LooksStandWithItsEntry
looks_stand_with_its_entry session edits depth t r before tails tracks xs takes entries there many each up old =
    let new = new_entry_misses session edits t r tracks xs takes entries there many each in
    let ms : List Miss = misses edits t (reverse entries) in
    let all = more_missing (generation edits r) (rolled (generation edits r) entries) xs ms new.0 new.2 old.missing (sym (within_reverse xs ms) ∙ old.within) in record {
      missing = ap (list_all (is_missing (reverse xs))) new.1 ∙ all.0;
      looked_for = ap (λ l. is_within (looked depth (reverse xs) l) (reverse tails)) new.1
          ∙ more_looked depth (generation edits r) (rolled (generation edits r) entries) xs (reverse before) (reverse tails) ms new.0 new.2
          (looked_up depth (generation edits r) (rolled (generation edits r) entries) xs before tails up) old.looked_for;
      within = ap (list_all (λ m. nat_le m.tail (length xs))) new.1 ∙ within_reverse xs (ms ++ new.0) ∙ all.1;
    }
