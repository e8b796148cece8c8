-- What is heard is judged by the greatest that was heard before, and a playlist edition by the change of its number.
use Rattle.std.proofs.Common.{◌≡◌, ℕ, zero, suc, ◌<◌, ◌≤◌, List, [], ◌∷◌, length, true≢false, refl, sym, ap, subst, arith, ◌∙◌}
use Rattle.std.specs.Prelude.{Bool, true, false, ◌&&◌, ◌==◌, nat_le, Option, Some, None, slice_get}
use Rattle.std.specs.Option.{option_map_or}
use Rattle.std.specs.List.{list_all}
use Rattle.std.proofs.lemmas.Bool.{and_parts, and_from, leb-true, le-leb, eqb-true, eq-eqb}
use Rattle.std.proofs.lemmas.Option.{slice_get_within}
use Rattle.session_model.specs.declared.session.Session.{Session}
use Rattle.session_model.specs.declared.edit.Edit.{Edit}
use Rattle.session_model.specs.Valid.{IsValid}
use Rattle.engine_model.specs.Changes.{Change}
use Rattle.engine_model.specs.Edits.{playlist_edition, touches}
use Rattle.engine_model.specs.Journal.{Entry, Play, Silent, Heard, Short, note_of}
use Rattle.engine_model.specs.Fits.{is_heard_after, is_heard_well}
use Rattle.engine_laws.proofs.LawfulLemmas.{heard_from, heard_parts}
use Rattle.engine_laws.proofs.NumberLemmas.{last_low}
use Rattle.session_change.specs.Change.{list_of}
use Rattle.edit_history.specs.History.{HistoryState, IsHistoryOf}
use Rattle.edit_history.specs.Laws.{IsOfPlaylist}
use Rattle.edit_history.proofs.LawLemmas.{each_change_is_of_the_touched_playlist}
use Rattle.journal_judge.specs.Counts.{heard_number}
use Rattle.journal_judge.specs.Deciding.{is_of, is_well_heard, names_change}
use Rattle.journal_judge.specs.Numbers.{greatest_heard}

-- ---- the greatest that was heard

heard_low : (play : Play) (p : ℕ) → is_heard_after play (Heard p) ≡ true → heard_number play ≤ p
heard_low Silent p h = omega arith
heard_low (Heard q) p h = leb-true q p h
heard_low (Short tail) p h = omega arith

low_heard : (play : Play) (p : ℕ) → heard_number play ≤ p → is_heard_after play (Heard p) ≡ true
low_heard Silent p h = refl
low_heard (Heard q) p h = le-leb q p h
low_heard (Short tail) p h = refl

greatest_low : (t p : ℕ) (es : List Entry) → list_all (λ old. is_heard_after (note_of t old).play (Heard p)) es ≡ true → greatest_heard t es ≤ p
greatest_low t p [] all = omega arith
greatest_low t p (e ∷ es) all = let step = and_parts (is_heard_after (note_of t e).play (Heard p)) (list_all (λ old. is_heard_after (note_of t old).play (Heard p)) es) all in
    omega (arith, heard_low (note_of t e).play p step.0, greatest_low t p es step.1)

low_greatest : (t p : ℕ) (es : List Entry) → greatest_heard t es ≤ p → list_all (λ old. is_heard_after (note_of t old).play (Heard p)) es ≡ true
low_greatest t p [] low = refl
low_greatest t p (e ∷ es) low = and_from (is_heard_after (note_of t e).play (Heard p)) (list_all (λ old. is_heard_after (note_of t old).play (Heard p)) es)
    (low_heard (note_of t e).play p (omega (arith, low))) (low_greatest t p es (omega (arith, low)))

-- where nothing is heard, nothing is newer
silent_after : (play : Play) → is_heard_after play Silent ≡ true
silent_after Silent = refl
silent_after (Heard q) = refl
silent_after (Short tail) = refl

short_after : (play : Play) (tail : ℕ) → is_heard_after play (Short tail) ≡ true
short_after Silent tail = refl
short_after (Heard q) tail = refl
short_after (Short other) tail = refl

each_is : (f : Entry → Bool) (es : List Entry) → ((e : Entry) → f e ≡ true) → list_all f es ≡ true
each_is f [] all = refl
each_is f (e ∷ es) all = and_from (f e) (list_all f es) (all e) (each_is f es all)

-- ---- a playlist edition

of_it : (t : ℕ) (o : Option ℕ) → option_map_or (λ u. u == t) o false ≡ true → o ≡ Some t
of_it t None h = absurd (true≢false (sym h))
of_it t (Some u) h = ap (λ n. Some n) (eqb-true u t h)

it_of : (t : ℕ) (o : Option ℕ) → o ≡ Some t → option_map_or (λ u. u == t) o false ≡ true
it_of t o is = ap (λ x. option_map_or (λ u. u == t) x false) is ∙ eq-eqb t t refl

there : {X : Type 0} (xs : List X) (k : ℕ) → k < length xs → (x : X) × (slice_get xs k ≡ Some x)
there [] k lt = absurd (omega arith)
there (x ∷ xs) zero lt = (x, refl)
there (x ∷ xs) (suc k) lt = there xs k (omega (arith, lt))

module _ (s : Session) (h : HistoryState) (valid : IsValid s) (is : IsHistoryOf s h) (t : ℕ) where
  of_change : (k : ℕ) (change : Change) → slice_get h.changes k ≡ Some change → (edit : Edit) × IsOfPlaylist s h k edit change t
  of_change k change here = let lt : k < length h.changes = slice_get_within h.changes k change here in
      let edit = there h.edits k (subst (λ n. k < n) is.many lt) in
      (edit.0, each_change_is_of_the_touched_playlist s h k edit.0 change valid t is record { here = edit.1; its = here })

  -- what names a change of the playlist is an edition of it
  pub named_is : (p : ℕ) → names_change h.changes t p ≡ true → (p ≡ playlist_edition s h.edits t p) × (p ≤ length h.edits)
  named_is zero names = (refl, omega arith)
  named_is (suc k) names = by (slice_get h.changes k) refl
    where
      by : (o : Option Change) → slice_get h.changes k ≡ o → (suc k ≡ playlist_edition s h.edits t (suc k)) × (suc k ≤ length h.edits)
      by None none = absurd (true≢false (sym names ∙ ap (λ o. option_map_or (is_of t) o false) none))
      by (Some change) here = let own = of_change k change here in let lt : k < length h.changes = slice_get_within h.changes k change here in
          (sym (own.1.its (of_it t (list_of change) (sym (ap (λ o. option_map_or (is_of t) o false) here) ∙ names))), omega (arith, lt, is.many))

  pub is_named : (p : ℕ) → p ≡ playlist_edition s h.edits t p → p ≤ length h.edits → names_change h.changes t p ≡ true
  is_named zero same le = refl
  is_named (suc k) same le = let change = there h.changes k (subst (λ n. k < n) (sym is.many) (omega (arith, le))) in
      ap (λ o. option_map_or (is_of t) o false) change.1 ∙ by change.0 change.1 (is_of t change.0) refl
    where
      by : (change : Change) → slice_get h.changes k ≡ Some change → (b : Bool) → is_of t change ≡ b → is_of t change ≡ true
      by change here true e = e
      by change here false e = let own = of_change k change here in
          let stays : playlist_edition s h.edits t (suc k) ≡ playlist_edition s h.edits t k = own.1.others (λ at. true≢false (sym (it_of t (list_of change) at) ∙ e)) in
          let low : playlist_edition s h.edits t k ≤ k = last_low (touches s t) h.edits k in
          absurd (omega (arith, same, stays, low))

  -- ---- what is heard

  module _ (before : List Entry) (settled floor heard : ℕ) (floor_is : floor ≡ playlist_edition s h.edits t settled) (heard_is : heard ≡ greatest_heard t before) where
    pub well_heard : (play : Play) → is_well_heard h.changes t floor heard play ≡ true →
        (is_heard_well s h.edits settled t play ≡ true) × (list_all (λ old. is_heard_after (note_of t old).play play) before ≡ true)
    well_heard Silent well = (refl, each_is (λ old. is_heard_after (note_of t old).play Silent) before (λ e. silent_after (note_of t e).play))
    well_heard (Short tail) well = (refl, each_is (λ old. is_heard_after (note_of t old).play (Short tail)) before (λ e. short_after (note_of t e).play tail))
    well_heard (Heard p) well = let two = and_parts (names_change h.changes t p && nat_le floor p) (nat_le heard p) well in
        let one = and_parts (names_change h.changes t p) (nat_le floor p) two.0 in let named = named_is p one.0 in
        (heard_from s h.edits settled t p named.0 named.1 (subst (λ n. n ≤ p) floor_is (leb-true floor p one.1)), low_greatest t p before (subst (λ n. n ≤ p) heard_is (leb-true heard p two.1)))

    pub heard_well : (play : Play) → is_heard_well s h.edits settled t play ≡ true → list_all (λ old. is_heard_after (note_of t old).play play) before ≡ true →
        is_well_heard h.changes t floor heard play ≡ true
    heard_well Silent well after = refl
    heard_well (Short tail) well after = refl
    heard_well (Heard p) well after = let parts = heard_parts s h.edits settled t p well in
        and_from (names_change h.changes t p && nat_le floor p) (nat_le heard p)
        (and_from (names_change h.changes t p) (nat_le floor p) (is_named p parts.0 parts.1) (le-leb floor p (subst (λ n. n ≤ p) (sym floor_is) parts.2)))
        (le-leb heard p (subst (λ n. n ≤ p) (sym heard_is) (greatest_low t p before after)))
