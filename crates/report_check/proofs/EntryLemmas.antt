-- Which line of the entries falls first, place by place.
use Rattle.std.proofs.Common.{◌≡◌, ℕ, zero, suc, ◌+◌, ◌≤◌, refl, ap, arith, ◌∙◌, sym, List, [], ◌∷◌, ◌++◌, length, take, drop}
use Rattle.std.specs.Prelude.{Bool, true, false, ◌&&◌, Option, Some, None, slice_get, reverse}
use Rattle.std.specs.Option.{option_map}
use Rattle.std.proofs.Math.Seq.{take-suc}
use Rattle.std.proofs.lemmas.List.{length-map, length-reverse, length-take-le, reverse-append, take-map}
use Rattle.std.proofs.lemmas.Option.{slice_get-map, slice_get_within, get_or_from_slice_get}
use Rattle.session_model.specs.declared.session.Session.{Session}
use Rattle.session_model.specs.declared.edit.Edit.{Edit}
use Rattle.engine_model.specs.Journal.{Entry}
use Rattle.engine_model.specs.Fits.{is_lawful_after}
use Rattle.engine_model.specs.Played.{Samples}
use Rattle.cycle_journal.specs.declared.entry.Entry as code
use Rattle.cycle_journal.specs.JournalView.{seen_entry, seen_entries}
use Rattle.master_blocks.specs.Bytes.{entry_bytes}
use Rattle.report_verdict.specs.Lines.{entries_stand, entry_stands, first_fall}
use Rattle.report_verdict.specs.Master.{block_place, stand_at}
use Rattle.report_check.specs.Checking.{before}

-- the entries before one of a list, the newest first
abbrev pub before_at : List Entry → ℕ → List Entry
before_at entries c = reverse (take c entries)

pub before_is : (entries : List code.Entry) (c : ℕ) → before (take c entries) ≡ before_at (seen_entries entries) c
before_is entries c = ap reverse (sym (take-map seen_entry c entries))

-- the item of a place, and those behind it
pub left_is : {X : Type 0} (xs : List X) (t : ℕ) (x : X) → slice_get xs t ≡ Some x → drop t xs ≡ x ∷ drop (suc t) xs
left_is [] t x there = absurd (none_is_some there)
  where
    none_is_some : None ≡ Some x → ⊥
    none_is_some e = cc
left_is (y ∷ ys) zero x there = let same : y ≡ x = cc in ap (λ z. z ∷ ys) same
left_is (y ∷ ys) (suc t) x there = left_is ys t x there

take_more : {X : Type 0} (xs : List X) (k : ℕ) (x : X) → slice_get xs k ≡ Some x → take (suc k) xs ≡ take k xs ++ x ∷ []
take_more xs k x here = take-suc xs k x (slice_get_within xs k x here) ∙ ap (λ e. take k xs ++ e ∷ []) (get_or_from_slice_get xs k x x here)

pub one_before : (all : List Entry) (c : ℕ) (e : Entry) → slice_get all c ≡ Some e → before_at all (suc c) ≡ e ∷ before_at all c
one_before all c e here = ap reverse (take_more all c e here) ∙ reverse-append (take c all) (e ∷ [])

pub before_long : (all : List Entry) (c : ℕ) → c ≤ length all → length (before_at all c) ≡ c
before_long all c within = length-reverse (take c all) ∙ length-take-le c all within

-- the entry as definitions have it
pub seen_at : (entries : List code.Entry) (c : ℕ) (e : code.Entry) → slice_get entries c ≡ Some e → slice_get (seen_entries entries) c ≡ Some (seen_entry e)
seen_at entries c e here = slice_get-map seen_entry entries c ∙ ap (option_map seen_entry) here

module _ (s : Session) (edits : List Edit) (samples : Samples) (file : List ℕ) (all : List Entry) where
  -- the first that falls from entry c on
  abbrev pub fall_from : ℕ → Option ℕ
  fall_from c = first_fall (entries_stand s edits samples file (before_at all c) (drop c all))

  -- all that stood so far is passed over
  abbrev pub IsPassed : ℕ → Type 0
  IsPassed c = first_fall (entries_stand s edits samples file [] all) ≡ option_map (λ k. c + k) (fall_from c)

  pub none_passed : IsPassed 0
  none_passed = go (first_fall (entries_stand s edits samples file [] all))
    where
      go : (o : Option ℕ) → o ≡ option_map (λ k. 0 + k) o
      go None = refl
      go (Some k) = let same : k ≡ 0 + k = omega arith in ap Some same

  module _ (c : ℕ) (e : Entry) (here : slice_get all c ≡ Some e) (passed : IsPassed c) where
    abbrev stands_here : Bool
    stands_here = entry_stands s edits samples file (before_at all c) e

    from_here : fall_from c ≡ first_fall (stands_here ∷ entries_stand s edits samples file (e ∷ before_at all c) (drop (suc c) all))
    from_here = ap (λ xs. first_fall (entries_stand s edits samples file (before_at all c) xs)) (left_is all c e here)

    falls : stands_here ≡ false → first_fall (entries_stand s edits samples file [] all) ≡ Some c
    falls fell = passed ∙ ap (option_map (λ k. c + k)) (from_here ∙ ap (λ b. first_fall (b ∷ entries_stand s edits samples file (e ∷ before_at all c) (drop (suc c) all))) fell)
        ∙ (let same : c + 0 ≡ c = omega arith in ap Some same)

    pub falls_here : stands_here ≡ false → first_fall (entries_stand s edits samples file [] all) ≡ Some c
    falls_here fell = falls fell

    pub passes : stands_here ≡ true → IsPassed (suc c)
    passes stood = passed ∙ ap (option_map (λ k. c + k)) (from_here
        ∙ ap (λ b. first_fall (b ∷ entries_stand s edits samples file (e ∷ before_at all c) (drop (suc c) all))) stood
        ∙ ap (λ xs. option_map suc (first_fall (entries_stand s edits samples file xs (drop (suc c) all)))) (sym (one_before all c e here)))
        ∙ go (fall_from (suc c))
      where
        go : (o : Option ℕ) → option_map (λ k. c + k) (option_map suc o) ≡ option_map (λ k. suc c + k) o
        go None = refl
        go (Some k) = let same : c + suc k ≡ suc c + k = omega arith in ap Some same

  -- none is left
  pub all_passed : (c : ℕ) → length all ≤ c → IsPassed c → first_fall (entries_stand s edits samples file [] all) ≡ None
  all_passed c past passed = passed ∙ ap (λ xs. option_map (λ k. c + k) (first_fall (entries_stand s edits samples file (before_at all c) xs))) (none_left all c past)
    where
      none_left : (xs : List Entry) (n : ℕ) → length xs ≤ n → drop n xs ≡ []
      none_left [] zero le = refl
      none_left [] (suc n) le = refl
      none_left (x ∷ xs) zero le = absurd (omega (arith, le))
      none_left (x ∷ xs) (suc n) le = none_left xs n (omega (arith, le))

  pub entries_many : (before rest : List Entry) → length (entries_stand s edits samples file before rest) ≡ length rest
  entries_many before [] = refl
  entries_many before (e ∷ rest) = ap suc (entries_many (e ∷ before) rest)

-- ---- one entry

-- by its piece of the master
pub stands_by : (s : Session) (edits : List Edit) (samples : Samples) (file : List ℕ) (done : List code.Entry) (e : Entry) (place : ℕ) (bytes : List ℕ) → is_lawful_after s edits (before done) e ≡ true →
    place ≡ block_place s (length done) → bytes ≡ entry_bytes s edits samples e → stand_at place bytes file ≡ entry_stands s edits samples file (before done) e
stands_by s edits samples file done e place bytes lawful at is = let n : length (before done) ≡ length done = length-reverse (seen_entries done) ∙ length-map done seen_entry in
    ap (λ p. stand_at p bytes file) (at ∙ ap (block_place s) (sym n)) ∙ ap (λ b. stand_at (block_place s (length (before done))) b file) is
    ∙ sym (ap (λ b. b && stand_at (block_place s (length (before done))) (entry_bytes s edits samples e) file) lawful)

-- it isn't lawful
pub falls_unlawful : (s : Session) (edits : List Edit) (samples : Samples) (file : List ℕ) (done : List code.Entry) (e : Entry) → is_lawful_after s edits (before done) e ≡ false →
    false ≡ entry_stands s edits samples file (before done) e
falls_unlawful s edits samples file done e fell = sym (ap (λ b. b && stand_at (block_place s (length (before done))) (entry_bytes s edits samples e) file) fell)
