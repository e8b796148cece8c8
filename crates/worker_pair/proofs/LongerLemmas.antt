-- What a longer list of edits says of the editions of its beginning.
use Rattle.std.proofs.Common.{◌≡◌, ℕ, ◌≤◌, List, [], ◌∷◌, ◌++◌, length, sym, ap, arith, le_refl, ◌∙◌}
use Rattle.std.specs.Prelude.{Bool, slice_get, Some}
use Rattle.std.proofs.lemmas.List.{append_assoc, length-append}
use Rattle.std.proofs.lemmas.Option.{same_Some, slice_get_within}
use mathlib.Core.List.{IsPrefix}
use Rattle.session_model.specs.declared.session.Session.{Session}
use Rattle.session_model.specs.declared.edit.Edit.{Edit}
use Rattle.engine_model.specs.Cycle.{entry_of, notes_of, settled_number, state_of}
use Rattle.engine_model.specs.Editions.{edition}
use Rattle.engine_model.specs.Edits.{generation, has_quit, starts}
use Rattle.engine_model.specs.Items.{Kind}
use Rattle.engine_model.specs.Journal.{Entry, Take, rolled}
use Rattle.engine_laws.proofs.EditionLemmas.{edition_stays, quit_stays}
use Rattle.engine_laws.proofs.NumberLemmas.{count_stays}
use Rattle.machine_laws.proofs.EventLists.{slice_there}

-- the beginning of a list, and the item after it
pub next_begins : {X : Type 0} (xs rest ys : List X) (x : X) → xs ++ rest ≡ ys → slice_get ys (length xs) ≡ Some x → IsPrefix (xs ++ x ∷ []) ys
next_begins xs [] ys x is here = absurd (let within = slice_get_within ys (length xs) x here in omega (arith, within, ap length is, length-append xs []))
next_begins xs (y ∷ rest) ys x is here = (rest, append_assoc xs (x ∷ []) rest ∙ ap (λ z. xs ++ z ∷ rest) (sym same) ∙ is)
  where
    same : y ≡ x
    same = same_Some y x (sym (slice_there xs y rest) ∙ ap (λ l. slice_get l (length xs)) is ∙ here)

-- an entry by the generation, and whether the transport rolls
abbrev entry_by : List Entry → List (List Kind) → List Take → ℕ → ℕ → Bool → Entry
entry_by before tracks takes r g rolls = let block = rolled g before in let state = state_of rolls g block tracks in
    record { edition = r; settled = settled_number r g block tracks; state = state; notes = notes_of state tracks takes }

module _ (first edits : List Edit) (begins : IsPrefix first edits) where
  -- its editions are the same,
  pub edition_longer : (s : Session) (k : ℕ) → k ≤ length first → edition s edits k ≡ edition s first k
  edition_longer s k low = ap (λ l. edition s l k) (sym begins.1) ∙ edition_stays s first begins.0 k low

  -- their generations are,
  pub generation_longer : generation edits (length first) ≡ generation first (length first)
  generation_longer = ap (λ l. generation l (length first)) (sym begins.1) ∙ count_stays starts first begins.0 (length first) (le_refl (length first))

  -- and whether a quit is among them
  pub quit_longer : has_quit edits (length first) ≡ has_quit first (length first)
  quit_longer = ap (λ l. has_quit l (length first)) (sym begins.1) ∙ quit_stays first begins.0 (length first) (le_refl (length first))

  -- so are the entries that are made in the last of them
  pub entry_longer : (s : Session) (before : List Entry) (tracks : List (List Kind)) (takes : List Take) →
      entry_of s edits before tracks takes (length first) ≡ entry_of s first before tracks takes (length first)
  entry_longer s before tracks takes = λ i. entry_by before tracks takes (length first) (generation_longer i) (rolls i)
    where
      rolls : (edition s edits (length first)).transport.rolling ≡ (edition s first (length first)).transport.rolling
      rolls = ap (λ e. e.transport.rolling) (edition_longer s (length first) (le_refl (length first)))
