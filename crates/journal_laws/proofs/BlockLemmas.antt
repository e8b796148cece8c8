-- The blocks of a generation count up from 0.
use Rattle.std.proofs.Common.{◌≡◌, ℕ, zero, suc, ◌+◌, List, [], ◌∷◌, ◌++◌, length, refl, sym, ap, arith, ◌∙◌, append_assoc}
use Rattle.std.specs.Prelude.{Bool, true, false, ◌&&◌, ◌==◌, nat_eq, if◌then◌else◌, reverse}
use Rattle.std.specs.List.{range_with_len}
use Rattle.std.proofs.lemmas.Bool.{and_parts, eqb-true}
use Rattle.std.proofs.lemmas.List.{append-nil, reverse-reverse}
use Rattle.session_model.specs.declared.edit.Edit.{Edit}
use Rattle.session_model.specs.declared.session.Session.{Session}
use Rattle.engine_model.specs.Editions.{edition}
use Rattle.engine_model.specs.Edits.{generation}
use Rattle.engine_model.specs.Journal.{State, Stopped, Seeking, Rolling, Entry, is_rolling_in, rolled}
use Rattle.engine_model.specs.Fits.{fits_state, is_lawful_after, is_lawful_newest}
use Rattle.journal_laws.specs.Blocks.{block_in_state, blocks_played, BlocksCountUp}
use Rattle.journal_laws.proofs.JournalLemmas.{fits_in_parts, turned}

played_more : (g : ℕ) (es : List Entry) (e : Entry) → blocks_played g (es ++ e ∷ []) ≡ blocks_played g es ++ block_in_state g e.state
played_more g [] e = append-nil (block_in_state g e.state)
played_more g (d ∷ es) e = ap (λ l. block_in_state g d.state ++ l) (played_more g es e) ∙ sym (append_assoc (block_in_state g d.state) (blocks_played g es) (block_in_state g e.state))

range_more : (a n : ℕ) → range_with_len a (suc n) ≡ range_with_len a n ++ (a + n) ∷ []
range_more a zero = ap (λ n. n ∷ []) {x = a} {y = a + 0} (omega arith)
range_more a (suc n) = ap (λ l. a ∷ l) (range_more (a + 1) n) ∙ ap (λ k. a ∷ range_with_len (a + 1) n ++ k ∷ []) {x = a + 1 + n} {y = a + suc n} (omega arith)

-- a state that fits plays the next block of its generation, and none of another one
state_plays : (rolls : Bool) (tracks h g : ℕ) (before : List Entry) (state : State) → fits_state rolls tracks h (rolled h before) state ≡ true →
    range_with_len 0 (rolled g before) ++ block_in_state g state ≡ range_with_len 0 (if is_rolling_in g state then suc (rolled g before) else rolled g before)
state_plays rolls tracks h g before Stopped fit = append-nil (range_with_len 0 (rolled g before))
state_plays rolls tracks h g before (Seeking t tail) fit = append-nil (range_with_len 0 (rolled g before))
state_plays rolls tracks h g before (Rolling k s) fit = by (k == g) refl
  where
    by : (b : Bool) → (k == g) ≡ b → range_with_len 0 (rolled g before) ++ (if b then s ∷ [] else []) ≡ range_with_len 0 (if b then suc (rolled g before) else rolled g before)
    by false other = append-nil (range_with_len 0 (rolled g before))
    by true same = let two = and_parts (rolls && k == h) (nat_eq s (rolled h before)) fit in let one = and_parts rolls (nat_eq k h) two.0 in
        let is : s ≡ 0 + rolled g before = eqb-true s (rolled h before) two.1 ∙ ap (λ n. rolled n before) (sym (eqb-true k h one.1) ∙ eqb-true k g same) ∙ zero_more (rolled g before) in
        ap (λ n. range_with_len 0 (rolled g before) ++ n ∷ []) is ∙ sym (range_more 0 (rolled g before))
      where
        zero_more : (n : ℕ) → n ≡ 0 + n
        zero_more n = omega arith

count_up : (session : Session) (edits : List Edit) (entries : List Entry) (g : ℕ) → is_lawful_newest session edits entries ≡ true →
    blocks_played g (reverse entries) ≡ range_with_len 0 (rolled g entries)
count_up session edits [] g lawful = refl
count_up session edits (e ∷ before) g lawful = let step = and_parts (is_lawful_after session edits before e) (is_lawful_newest session edits before) lawful in
    ap (blocks_played g) (turned e before) ∙ played_more g (reverse before) e
    ∙ ap (λ l. l ++ block_in_state g e.state) (count_up session edits before g step.1)
    ∙ state_plays (edition session edits e.edition).transport.rolling (length session.tracks.items) (generation edits e.edition) g before e.state (fits_in_parts session edits before e step.0).state

rolled_more : (g : ℕ) (es : List Entry) (e : Entry) → rolled g (es ++ e ∷ []) ≡ rolled g (e ∷ es)
rolled_more g [] e = refl
rolled_more g (d ∷ es) e = by (is_rolling_in g d.state) (is_rolling_in g e.state) (rolled_more g es e)
  where
    by : (b c : Bool) → rolled g (es ++ e ∷ []) ≡ (if c then suc (rolled g es) else rolled g es) →
        (if b then suc (rolled g (es ++ e ∷ [])) else rolled g (es ++ e ∷ [])) ≡ (if c then suc (if b then suc (rolled g es) else rolled g es) else if b then suc (rolled g es) else rolled g es)
    by true true is = ap suc is
    by true false is = ap suc is
    by false true is = is
    by false false is = is

rolled_turned : (g : ℕ) (es : List Entry) → rolled g (reverse es) ≡ rolled g es
rolled_turned g [] = refl
rolled_turned g (e ∷ es) = ap (rolled g) (turned e es) ∙ rolled_more g (reverse es) e ∙ ap (λ n. if is_rolling_in g e.state then suc n else n) (rolled_turned g es)

pub blocks_count_up : BlocksCountUp
blocks_count_up session edits journal g lawful = ap (blocks_played g) (sym (reverse-reverse journal)) ∙ count_up session edits (reverse journal) g lawful
    ∙ ap (range_with_len 0) (rolled_turned g journal)
