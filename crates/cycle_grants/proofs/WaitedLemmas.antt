-- The pieces of a track that weren't there, as a process looks for them.
use Rattle.std.proofs.Common.{◌≡◌, inl, inr, ℕ, suc, ◌-◌, List, [], ◌∷◌, ◌++◌, length, refl, sym, ap, ◌∙◌, subst, arith}
use Rattle.std.specs.Prelude.{Bool, true, false, ◌&&◌, nat_le, nat_lt, if◌then◌else◌, reverse, slice_get, Some}
use Rattle.std.specs.List.{list_all}
use Rattle.std.proofs.lemmas.Bool.{and_from, and_parts, true≢false, le-leb, lt-ltb}
use Rattle.std.proofs.lemmas.List.{append-nil, length-reverse, reverse-append}
use Rattle.std.proofs.lemmas.List.Folds.{list_all-append}
use Rattle.session_model.specs.declared.session.Session.{Session}
use Rattle.session_model.specs.declared.edit.Edit.{Edit}
use Rattle.engine_model.specs.Edits.{generation}
use Rattle.engine_model.specs.Editions.{edition}
use Rattle.engine_model.specs.Items.{Kind}
use Rattle.engine_model.specs.Journal.{Take, Entry, rolled}
use Rattle.engine_model.specs.Cycle.{entry_of, has_piece, is_held, state_of}
use Rattle.engine_model.specs.Truth.{Miss, item_at, looked, miss_in, misses, was_held}
use Rattle.engine_model.specs.Waited.{are_waited}
use Rattle.engine_laws.proofs.TruthLemmas.{IsNewMiss, misses_more, new_misses, state_is}
use Rattle.cycle_grants.specs.Patience.{HasWaited, IsWaitedFor, WaitedForStands, WaitedForWithItsEntry}
use Rattle.cycle_grants.proofs.PatienceLemmas.{further_looks, looked_stands, one_more_is_looked_for}

pub waited_for_stands : WaitedForStands
waited_for_stands patience edits extra depth t received more tails further entries within fewer was =
    let rev : reverse (more ++ received) ≡ reverse received ++ reverse more = reverse-append more received in
    let same = looked_stands edits extra depth t (reverse received) (reverse more) (reverse entries) (all_reverse entries within) (within_reverse received (misses edits t (reverse entries)) ∙ fewer) in
    ap (λ l. are_waited patience (looked depth l (misses (edits ++ extra) t (reverse entries))) (tails ++ further)) rev
    ∙ ap (λ l. are_waited patience l (tails ++ further)) same
    ∙ further_looks patience (looked depth (reverse received) (misses edits t (reverse entries))) tails further was
  where
    all_reverse : (es : List Entry) → list_all (λ e. nat_le e.edition (length edits)) es ≡ true → list_all (λ e. nat_le e.edition (length edits)) (reverse es) ≡ true
    all_reverse [] all = refl
    all_reverse (e ∷ es) all = let parts = and_parts (nat_le e.edition (length edits)) (list_all (λ x. nat_le x.edition (length edits)) es) all in
        ap (list_all (λ x. nat_le x.edition (length edits))) (reverse-append (e ∷ []) es) ∙ list_all-append (λ x. nat_le x.edition (length edits)) (reverse es) (e ∷ [])
        ∙ and_from (list_all (λ x. nat_le x.edition (length edits)) (reverse es)) (nat_le e.edition (length edits) && true) (all_reverse es parts.1) (and_from (nat_le e.edition (length edits)) true parts.0 refl)

    within_reverse : (xs : List Kind) (ms : List Miss) → list_all (λ m. nat_le m.tail (length (reverse xs))) ms ≡ list_all (λ m. nat_le m.tail (length xs)) ms
    within_reverse xs ms = ap (λ n. list_all (λ m. nat_le m.tail n) ms) (length-reverse xs)

-- ---- the entry of a cycle

looked_more : (depth : ℕ) (sent : List Kind) (ms ns : List Miss) → looked depth sent (ms ++ ns) ≡ looked depth sent ms ++ looked depth sent ns
looked_more depth sent [] ns = refl
looked_more depth sent (m ∷ ms) ns = by (was_held depth sent m) (looked_more depth sent ms ns)
  where
    by : (b : Bool) → looked depth sent (ms ++ ns) ≡ looked depth sent ms ++ looked depth sent ns →
        (if b then looked depth sent (ms ++ ns) else m.tail ∷ looked depth sent (ms ++ ns)) ≡ (if b then looked depth sent ms else m.tail ∷ looked depth sent ms) ++ looked depth sent ns
    by true e = e
    by false e = ap (λ l. m.tail ∷ l) e

-- the item received last
last_item : (xs : List Kind) (x : Kind) → item_at (length xs) (xs ++ x ∷ []) ≡ x
last_item [] x = refl
last_item (y ∷ ys) x = last_item ys x

-- where it is held the miss needs no look
held_last : (depth g s : ℕ) (x : Kind) (rest : List Kind) → is_held depth g s x ≡ true → was_held depth (reverse (x ∷ rest)) (record { generation = g; block = s; tail = length (x ∷ rest) }) ≡ true
held_last depth g s x rest held =
    let long : length (reverse (x ∷ rest)) ≡ suc (length rest) = length-reverse (x ∷ rest) in
    and_from (nat_lt 0 (suc (length rest)) && nat_le (suc (length rest)) (length (reverse (x ∷ rest)))) (is_held depth g s (item_at (suc (length rest) - 1) (reverse (x ∷ rest))))
    (and_from (nat_lt 0 (suc (length rest))) (nat_le (suc (length rest)) (length (reverse (x ∷ rest)))) (lt-ltb 0 (suc (length rest)) (omega arith)) (le-leb (suc (length rest)) (length (reverse (x ∷ rest))) (omega (arith, long))))
    (ap (λ l. is_held depth g s (item_at (suc (length rest) - 1) l)) (reverse-append (x ∷ []) rest)
    ∙ ap (λ n. is_held depth g s (item_at n (reverse rest ++ x ∷ []))) (place (length-reverse rest)) ∙ ap (is_held depth g s) (last_item (reverse rest) x) ∙ held)
  where
    place : length (reverse rest) ≡ length rest → suc (length rest) - 1 ≡ length (reverse rest)
    place is = omega (arith, is)

module _ (patience : ℕ) (depth g s : ℕ) (before further : List ℕ) (xs : List Kind) (old : List Miss) where
  abbrev sought : List ℕ
  sought = looked depth (reverse xs) old

  -- one more number, unless an item is held
  by_held : (b : Bool) → was_held depth (reverse xs) (record { generation = g; block = s; tail = length xs }) ≡ b → HasWaited patience depth g s xs before (before ++ further) →
      are_waited patience sought before ≡ true → are_waited patience (sought ++ (if b then [] else length xs ∷ [])) (before ++ further) ≡ true
  by_held true is waited was = ap (λ l. are_waited patience l (before ++ further)) (append-nil sought) ∙ further_looks patience sought before further was
  by_held false is (inl looks) was = ap (λ l. are_waited patience (sought ++ length xs ∷ []) l) looks.2 ∙ one_more_is_looked_for patience (length xs) sought before looks.0 looks.1 was
  by_held false is (inr last) was = absurd (true≢false (sym (subst (λ l. was_held depth (reverse l) (record { generation = g; block = s; tail = length l }) ≡ true) (sym last.2) (held_last depth g s last.0 last.1 last.3)) ∙ is))

  -- by what the entry misses
  by_miss : (ms : List Miss) → IsNewMiss g s xs ms → (has_piece g s xs ≡ false → HasWaited patience depth g s xs before (before ++ further)) → are_waited patience sought before ≡ true →
      are_waited patience (looked depth (reverse xs) (old ++ ms)) (before ++ further) ≡ true
  unfolding IsNewMiss
  by_miss ms (inl none) waited was = ap (λ l. are_waited patience (looked depth (reverse xs) l) (before ++ further)) (ap (λ k. old ++ k) none ∙ append-nil old)
      ∙ further_looks patience sought before further was
  by_miss ms (inr one) waited was = ap (λ l. are_waited patience (looked depth (reverse xs) (old ++ l)) (before ++ further)) one.0
      ∙ ap (λ l. are_waited patience l (before ++ further)) (looked_more depth (reverse xs) old (record { generation = g; block = s; tail = length xs } ∷ []))
      ∙ by_held (was_held depth (reverse xs) (record { generation = g; block = s; tail = length xs })) refl (waited one.1) was

module _ (patience : ℕ) (session : Session) (edits : List Edit) (depth t r : ℕ) (before further : List ℕ) (tracks : List (List Kind)) (xs : List Kind) (takes : List Take) (entries : List Entry)
    (there : slice_get tracks t ≡ Some xs) (many : length tracks ≡ length session.tracks.items) (each : length takes ≡ length session.tracks.items) where
  abbrev g : ℕ
  g = generation edits r

  abbrev s : ℕ
  s = rolled g entries

  abbrev rolls : Bool
  rolls = (edition session edits r).transport.rolling

  abbrev e : Entry
  e = entry_of session edits entries tracks takes r

  named : misses edits t (reverse (e ∷ entries)) ≡ misses edits t (reverse entries) ++ miss_in edits t e (state_of rolls g s tracks)
  named = ap (misses edits t) (reverse-append (e ∷ []) entries) ∙ misses_more edits t (reverse entries) e

  by_roll : (b : Bool) → rolls ≡ b → (rolls ≡ true → has_piece g s xs ≡ false → HasWaited patience depth g s xs before (before ++ further)) →
      IsWaitedFor patience edits depth t xs before entries → IsWaitedFor patience edits depth t xs (before ++ further) (e ∷ entries)
  by_roll false is waited was = ap (λ l. are_waited patience (looked depth (reverse xs) l) (before ++ further))
      (named ∙ ap (λ b. misses edits t (reverse entries) ++ miss_in edits t e (state_of b g s tracks)) is ∙ append-nil (misses edits t (reverse entries)))
      ∙ further_looks patience (looked depth (reverse xs) (misses edits t (reverse entries))) before further was
  by_roll true is waited was = ap (λ l. are_waited patience (looked depth (reverse xs) l) (before ++ further)) named
      ∙ by_miss patience depth g s before further xs (misses edits t (reverse entries)) (miss_in edits t e (state_of rolls g s tracks))
      (new_misses edits t r e.settled s tracks xs takes (state_of rolls g s tracks) (each ∙ sym many) there (state_is rolls g s tracks)) (waited is) was

pub waited_for_with_its_entry : WaitedForWithItsEntry
waited_for_with_its_entry patience session edits depth t r before further tracks xs takes entries there many each waited was =
    by_roll patience session edits depth t r before further tracks xs takes entries there many each (edition session edits r).transport.rolling refl waited was
