-- The blocks that entries took and lost of a track, and the losses that a journal names.
use Rattle.std.proofs.Common.{◌≡◌, ℕ, ◌+◌, List, [], ◌∷◌, ◌++◌, length, refl, sym, ap, ◌∙◌}
use Rattle.std.specs.Prelude.{true, ◌==◌, reverse, map, Some}
use Rattle.std.specs.List.{list_all}
use Rattle.std.proofs.lemmas.Bool.{and_from}
use Rattle.std.proofs.lemmas.List.{append_assoc, append-nil, map-append, reverse-append}
use Rattle.std.proofs.lemmas.List.Folds.{list_all-append}
use Rattle.engine_model.specs.Journal.{Take, Off, Taken, Lost, Entry, note_of}
use Rattle.engine_model.specs.Truth.{Loss, loss_of, taken_after, losses_from, losses}
use Rattle.machine_laws.specs.Stands.{block_of_take, head_of_take, blocks_taken, heads_lost, met_full}

abbrev taken_through : ℕ → ℕ → List Entry → ℕ
taken_through t n [] = n
taken_through t n (e ∷ es) = taken_through t (taken_after n (note_of t e).take) es

losses_more : (t n : ℕ) (journal : List Entry) (e : Entry) → losses_from t n (journal ++ e ∷ []) ≡ losses_from t n journal ++ loss_of (taken_through t n journal) (note_of t e).take
losses_more t n [] e = by (note_of t e).take
  where
    by : (take : Take) → loss_of n take ++ [] ≡ loss_of n take
    by Off = refl
    by (Taken k i) = refl
    by (Lost k i head) = refl
losses_more t n (j ∷ js) e = ap (λ l. loss_of n (note_of t j).take ++ l) (losses_more t (taken_after n (note_of t j).take) js e)
    ∙ sym (append_assoc (loss_of n (note_of t j).take) (losses_from t (taken_after n (note_of t j).take) js) (loss_of (taken_through t (taken_after n (note_of t j).take) js) (note_of t e).take))

through_more : (t n : ℕ) (journal : List Entry) (e : Entry) → taken_through t n (journal ++ e ∷ []) ≡ taken_after (taken_through t n journal) (note_of t e).take
through_more t n [] e = refl
through_more t n (j ∷ js) e = through_more t (taken_after n (note_of t j).take) js e

through_is : (t : ℕ) (entries : List Entry) → taken_through t 0 (reverse entries) ≡ length (blocks_taken t entries)
through_is t [] = refl
through_is t (e ∷ es) = ap (taken_through t 0) (reverse-append (e ∷ []) es) ∙ through_more t 0 (reverse es) e ∙ ap (λ n. taken_after n (note_of t e).take) (through_is t es) ∙ by (note_of t e).take
  where
    by : (take : Take) → taken_after (length (blocks_taken t es)) take ≡ length (block_of_take take ++ blocks_taken t es)
    by Off = refl
    by (Taken k i) = refl
    by (Lost k i head) = refl

-- the losses with one entry more
pub losses_with : (t : ℕ) (e : Entry) (entries : List Entry) → losses t (reverse (e ∷ entries)) ≡ losses t (reverse entries) ++ loss_of (length (blocks_taken t entries)) (note_of t e).take
losses_with t e entries = ap (losses t) (reverse-append (e ∷ []) entries) ∙ losses_more t 0 (reverse entries) e
    ∙ ap (λ n. losses t (reverse entries) ++ loss_of n (note_of t e).take) (through_is t entries)

-- each met a full ring
pub full_with : (depth t : ℕ) (e : Entry) (entries : List Entry) → list_all (λ l. l.taken == l.head + depth) (losses t (reverse entries)) ≡ true →
    met_full depth (length (blocks_taken t entries)) (Some (note_of t e).take) ≡ true → list_all (λ l. l.taken == l.head + depth) (losses t (reverse (e ∷ entries))) ≡ true
full_with depth t e entries old new = ap (list_all (λ l. l.taken == l.head + depth)) (losses_with t e entries)
    ∙ list_all-append (λ l. l.taken == l.head + depth) (losses t (reverse entries)) (loss_of (length (blocks_taken t entries)) (note_of t e).take)
    ∙ and_from (list_all (λ l. l.taken == l.head + depth) (losses t (reverse entries))) (list_all (λ l. l.taken == l.head + depth) (loss_of (length (blocks_taken t entries)) (note_of t e).take)) old
    (by (length (blocks_taken t entries)) (note_of t e).take new)
  where
    by : (n : ℕ) (take : Take) → met_full depth n (Some take) ≡ true → list_all (λ l. l.taken == l.head + depth) (loss_of n take) ≡ true
    by n Off h = refl
    by n (Taken k i) h = refl
    by n (Lost k i head) h = and_from (n == head + depth) true h refl

-- the losses name the heads, in their order
pub heads_are : (t : ℕ) (entries : List Entry) → map (λ l. l.head) (losses t (reverse entries)) ≡ reverse (heads_lost t entries)
heads_are t [] = refl
heads_are t (e ∷ es) = ap (map (λ l. l.head)) (losses_with t e es) ∙ by (length (blocks_taken t es)) (note_of t e).take (losses t (reverse es)) (heads_are t es)
  where
    more : (ls : List Loss) (l : Loss) → map (λ k. k.head) (ls ++ l ∷ []) ≡ map (λ k. k.head) ls ++ l.head ∷ []
    more ls l = map-append (λ k. k.head) ls (l ∷ [])

    by : (n : ℕ) (take : Take) (ls : List Loss) → map (λ l. l.head) ls ≡ reverse (heads_lost t es) → map (λ l. l.head) (ls ++ loss_of n take) ≡ reverse (head_of_take take ++ heads_lost t es)
    by n Off ls h = ap (map (λ l. l.head)) (append-nil ls) ∙ h
    by n (Taken k i) ls h = ap (map (λ l. l.head)) (append-nil ls) ∙ h
    by n (Lost k i head) ls h = more ls (record { head = head; taken = n }) ∙ ap (λ l. l ++ head ∷ []) h ∙ sym (reverse-append (head ∷ []) (heads_lost t es))
