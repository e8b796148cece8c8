-- The takes of a track are runs of entries.
use Rattle.std.proofs.Common.{◌≡◌, inl, inr, ℕ, zero, suc, ◌+◌, ◌≤◌, ◌<◌, List, [], ◌∷◌, ◌++◌, length, refl, sym, ap, subst, arith, ◌∙◌, length-append}
use Rattle.std.specs.Prelude.{Bool, true, ◌&&◌, nat_eq, Option, Some, None}
use Rattle.std.proofs.lemmas.Bool.{and_parts, eqb-true, cases_lt, cases_order}
use Rattle.std.proofs.lemmas.Option.{some_pair_parts}
use Rattle.engine_model.specs.Journal.{Take, Off, Taken, Lost, Entry, note_of}
use Rattle.engine_model.specs.Fits.{fits_take, take_after, take_number}
use Rattle.journal_laws.specs.TakeRuns.{take_at, numbered, IsTakeOf}

-- ---- one take note

pub number_is : (k : Take) (n i : ℕ) → numbered k ≡ Some (n, i) → take_number k ≡ n
number_is Off n i is = absurd (none_is is)
  where
    none_is : ◌≡◌ {A = Option (ℕ × ℕ)} None (Some (n, i)) → ⊥
    none_is e = cc
number_is (Taken m j) n i is = (some_pair_parts m n j i is).0
number_is (Lost m j head) n i is = (some_pair_parts m n j i is).0

pub off_is : (k : Take) → numbered k ≡ None → k ≡ Off
off_is Off is = refl
off_is (Taken n i) is = absurd (some_is is)
  where
    some_is : ◌≡◌ {A = Option (ℕ × ℕ)} (Some (n, i)) None → ⊥
    some_is e = cc
off_is (Lost n i head) is = absurd (some_is is)
  where
    some_is : ◌≡◌ {A = Option (ℕ × ℕ)} (Some (n, i)) None → ⊥
    some_is e = cc

-- a note that fits has the next take and its index
pub next_is : (recorded : Bool) (next : ℕ × ℕ) (k : Take) (n i : ℕ) → fits_take recorded next k ≡ true → numbered k ≡ Some (n, i) → (n ≡ next.0) × (i ≡ next.1)
next_is recorded next Off n i fit is = absurd (none_is is)
  where
    none_is : ◌≡◌ {A = Option (ℕ × ℕ)} None (Some (n, i)) → ⊥
    none_is e = cc
next_is recorded next (Taken m j) n i fit is = let two = and_parts (recorded && nat_eq m next.0) (nat_eq j next.1) fit in let one = and_parts recorded (nat_eq m next.0) two.0 in
    let same = some_pair_parts m n j i is in (sym same.0 ∙ eqb-true m next.0 one.1, sym same.1 ∙ eqb-true j next.1 two.1)
next_is recorded next (Lost m j head) n i fit is = let two = and_parts (recorded && nat_eq m next.0) (nat_eq j next.1) fit in let one = and_parts recorded (nat_eq m next.0) two.0 in
    let same = some_pair_parts m n j i is in (sym same.0 ∙ eqb-true m next.0 one.1, sym same.1 ∙ eqb-true j next.1 two.1)

-- which take follows another
pub after_none : (k : Take) (most : ℕ) → numbered k ≡ None → (◌≡◌ {A = ℕ} (take_after k most).0 (suc most)) × (◌≡◌ {A = ℕ} (take_after k most).1 0)
after_none k most none = (ap (λ l. (take_after l most).0) (off_is k none), ap (λ l. (take_after l most).1) (off_is k none))

pub after_some : (k : Take) (most n i : ℕ) → numbered k ≡ Some (n, i) → ((take_after k most).0 ≡ n) × ((take_after k most).1 ≡ suc i)
after_some Off most n i is = absurd (none_is is)
  where
    none_is : ◌≡◌ {A = Option (ℕ × ℕ)} None (Some (n, i)) → ⊥
    none_is e = cc
after_some (Taken m j) most n i is = let same = some_pair_parts m n j i is in (same.0, ap suc same.1)
after_some (Lost m j head) most n i is = let same = some_pair_parts m n j i is in (same.0, ap suc same.1)

-- ---- one entry more

pub at_old : (t c : ℕ) (js : List Entry) (e : Entry) → c < length js → take_at t c (js ++ e ∷ []) ≡ take_at t c js
at_old t c [] e lt = absurd (omega arith)
at_old t zero (j ∷ js) e lt = refl
at_old t (suc c) (j ∷ js) e lt = at_old t c js e (omega arith)

pub at_new : (t c : ℕ) (js : List Entry) (e : Entry) → c ≡ length js → take_at t c (js ++ e ∷ []) ≡ (note_of t e).take
at_new t zero [] e is = refl
at_new t (suc c) [] e is = absurd (omega arith)
at_new t zero (j ∷ js) e is = absurd (omega arith)
at_new t (suc c) (j ∷ js) e is = at_new t c js e (omega arith)

pub past_end : (t c : ℕ) (js : List Entry) → length js ≤ c → take_at t c js ≡ Off
past_end t c [] le = refl
past_end t zero (j ∷ js) le = absurd (omega arith)
past_end t (suc c) (j ∷ js) le = past_end t c js (omega arith)

pub one_longer : (js : List Entry) (e : Entry) → length (js ++ e ∷ []) ≡ suc (length js)
one_longer js e = grind (arith, length-append js (e ∷ []))

-- what is asked of each place is asked of those before, and of the new one
pub at_each : (t c : ℕ) (js : List Entry) (e : Entry) (P : Take → Type 0) → ((c < length js) → P (take_at t c js)) → (c ≡ length js → P (note_of t e).take) →
    (length js < c → P Off) → P (take_at t c (js ++ e ∷ []))
at_each t c js e P old new past = elim (cases_order c (length js)) [
  | inl is ↦ subst P (sym (at_new t c js e is)) (new is)
  | inr (inl lt) ↦ subst P (sym (at_old t c js e lt)) (old lt)
  | inr (inr gt) ↦ subst P (sym (past_end t c (js ++ e ∷ []) (omega (arith, one_longer js e)))) (past gt)
]

pub keeps : (t n : ℕ) (js : List Entry) (e : Entry) → 1 ≤ n → (take_number (note_of t e).take ≡ n → ⊥) → IsTakeOf t n js → IsTakeOf t n (js ++ e ∷ [])
keeps t n js e low other old = record {
  first = old.first;
  many = old.many;
  some = old.some;
  within = omega (arith, one_longer js e, old.within);
  each = λ i lt. ap numbered (at_old t (old.first + i) js e (omega (arith, old.within))) ∙ old.each i lt;
  only = λ c. at_each t c js e (λ k. take_number k ≡ n → (old.first ≤ c) × (c < old.first + old.many)) (λ lt is. old.only c is) (λ here is. absurd (other is)) (λ past is. absurd (omega arith));
  begins = λ c is. at_old t c js e (omega (arith, old.within, old.some)) ∙ old.begins c is;
}

-- the last entry is of take n, with index i
pub record Ends (t n i : ℕ) (js : List Entry) : Type 0 where
  pub low : 1 ≤ n
  pub the : IsTakeOf t n js
  pub at : the.first + the.many ≡ length js
  pub so_many : the.many ≡ suc i

pub grows : (t n i : ℕ) (js : List Entry) (e : Entry) → Ends t n i js → numbered (note_of t e).take ≡ Some (n, suc i) → Ends t n (suc i) (js ++ e ∷ [])
grows t n i js e run is = record {
  low = run.low;
  the = record {
    first = old.first;
    many = suc old.many;
    some = omega arith;
    within = omega (arith, one_longer js e, ends);
    each = λ j lt. elim (cases_lt j old.many) [
      | inl less ↦ ap numbered (at_old t (old.first + j) js e (omega (arith, ends))) ∙ old.each j less
      | inr ge ↦ let here : suc i ≡ j = omega (arith, run.so_many) in ap numbered (at_new t (old.first + j) js e (omega (arith, ends))) ∙ is ∙ ap (λ k. Some (n, k)) here
    ];
    only = λ c. at_each t c js e (λ k. take_number k ≡ n → (old.first ≤ c) × (c < old.first + suc old.many)) (λ lt of. let at = old.only c of in (at.0, omega (arith, at.1)))
        (λ here of. (omega (arith, ends), omega (arith, ends))) (λ past of. absurd (omega (arith, run.low)));
    begins = λ c of. at_old t c js e (omega (arith, old.within, old.some)) ∙ old.begins c of;
  };
  at = omega (arith, one_longer js e, ends);
  so_many = ap suc run.so_many;
}
  where
    old : IsTakeOf t n js
    old = run.the

    ends : old.first + old.many ≡ length js
    ends = run.at

pub starts_anew : (t n : ℕ) (js : List Entry) (e : Entry) → 1 ≤ n → numbered (note_of t e).take ≡ Some (n, 0) → ((c : ℕ) → take_number (take_at t c js) < n) →
    ((c : ℕ) → suc c ≡ length js → take_at t c js ≡ Off) →
    Ends t n 0 (js ++ e ∷ [])
starts_anew t n js e low is less before = record {
  low = low;
  the = record {
    first = length js;
    many = 1;
    some = omega arith;
    within = omega (arith, one_longer js e);
    each = λ j lt. let here : 0 ≡ j = omega arith in ap numbered (at_new t (length js + j) js e (omega arith)) ∙ is ∙ ap (λ k. Some (n, k)) here;
    only = λ c. at_each t c js e (λ k. take_number k ≡ n → (length js ≤ c) × (c < length js + 1)) (λ lt of. absurd (omega (arith, less c))) (λ here of. (omega arith, omega arith))
        (λ past of. absurd (omega arith));
    begins = λ c of. at_old t c js e (omega arith) ∙ before c of;
  };
  at = omega (arith, one_longer js e);
  so_many = omega arith;
}
