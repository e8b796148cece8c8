-- Looks for grants, one after the other.
use Rattle.std.proofs.Common.{◌≡◌, ℕ, zero, suc, ◌+◌, ◌<◌, ◌≤◌, inl, inr, List, [], ◌∷◌, ◌++◌, length, refl, sym, ap, ◌∙◌, subst, arith, length-append, append-nil}
use Rattle.std.specs.Prelude.{◌⊎◌, ◌≢◌, Bool, true, false, ◌&&◌, ◌==◌, nat_lt, if◌then◌else◌, Some, take, map, filter, replicate}
use Rattle.std.proofs.lemmas.Bool.{true≢false, eq-eqb, lt-ltb}
use Rattle.std.proofs.lemmas.List.{append_assoc, map-append, take-append-le, take_all, length-map}
use mathlib.Core.Logic.{dite}
use mathlib.Core.List.{IsPrefix}
use native.Mathlib.Decide.{ℕ_discrete}
use base.Growing.{prefix_trans}
use Rattle.engine_model.specs.Waited.{allowed, last_of, times}
use Rattle.disk_ring.specs.Receiver.{GoesOnOut}
use Rattle.disk_ring.proofs.GoesOn.{goes_on_out_trans}
use Rattle.cycle_grants.specs.Grants.{grant_of, grants_in}
use Rattle.cycle_grants.specs.Allowance.{AllowanceState, Awaits, FindsInTime, TakesAll, TriesInVain}
use Rattle.cycle_grants.proofs.GrantLemmas.{times_append}
use Rattle.cycle_grants.proofs.FullLemmas.{last_noted}

-- ---- how often a number was noted

times_here : (n : ℕ) (xs : List ℕ) → times n (n ∷ xs) ≡ suc (times n xs)
times_here n xs = ap (λ b. length (if b then n ∷ filter (λ x. x == n) xs else filter (λ x. x == n) xs)) (eq-eqb n n refl)

not_equal : (n m : ℕ) → n ≢ m → (m == n) ≡ false
not_equal n m other = grind (arith, other)

times_there : (n m : ℕ) (xs : List ℕ) → n ≢ m → times n (m ∷ xs) ≡ times n xs
times_there n m xs other = ap (λ b. length (if b then m ∷ filter (λ x. x == n) xs else filter (λ x. x == n) xs)) (not_equal n m other)

times_same : (n k : ℕ) → times n (replicate k n) ≡ k
times_same n zero = refl
times_same n (suc k) = times_here n (replicate k n) ∙ ap suc (times_same n k)

times_other : (n m k : ℕ) → n ≢ m → times n (replicate k m) ≡ 0
times_other n m zero other = refl
times_other n m (suc k) other = times_there n m (replicate k m) other ∙ times_other n m k other

-- the number noted last is noted further
last_further : (xs : List ℕ) (n k : ℕ) → last_of xs ≡ Some n → last_of (xs ++ replicate k n) ≡ Some n
last_further xs n zero is = ap last_of (append-nil xs) ∙ is
last_further xs n (suc k) is = ap last_of (sym (append_assoc xs (n ∷ []) (replicate k n))) ∙ last_further (xs ++ n ∷ []) n k (last_noted xs n)

-- ---- a call so far: it waits as it did, and of the grants received nothing was tried again yet

pub record Tries (patience made : ℕ) (a b : AllowanceState) : Type 0 where
  pub ring : GoesOnOut a.from b.from
  pub waits : b.waits ≡ a.waits
  pub looks : List ℕ
  pub noted : b.from.tails ≡ a.from.tails ++ looks
  pub last : last_of looks ≡ Some (length b.from.received)
  pub told : IsPrefix a.from.heard b.from.received
  pub once : times (length b.from.received) looks ≡ 1
  pub none_past : (n : ℕ) → length b.from.received < n → times n looks ≡ 0
  pub few : (n : ℕ) → times n looks ≤ suc patience
  pub again : (n : ℕ) → 1 < times n looks → (a.waits ≡ true) × (allowed (take n (grants_in b.from)) ≤ made)

-- of one look its number is noted once
one_look : (n m : ℕ) → times n (m ∷ []) ≤ 1
one_look n m = dite (ℕ_discrete n m) (λ same. subst (λ k. times n (k ∷ []) ≤ 1) same (omega (arith, times_here n []))) (λ other. omega (arith, times_there n m [] other))

pub tries_first : (patience made : ℕ) (a b : AllowanceState) → TakesAll a b → Tries patience made a b
tries_first patience made a b all = record {
  ring = all.ring;
  waits = all.waits;
  looks = length b.from.received ∷ [];
  noted = all.tails;
  last = refl;
  told = all.told;
  once = times_here (length b.from.received) [];
  none_past = λ n past. times_there n (length b.from.received) [] (grind (arith, past));
  few = λ n. omega (arith, one_look n (length b.from.received));
  again = λ n more. absurd (omega (arith, more, one_look n (length b.from.received)));
}

-- ---- one more was found, and all that came with it

-- the grants that were received by then
grants_then : (n : ℕ) (b d : AllowanceState) → GoesOnOut b.from d.from → n ≤ length b.from.received → take n (grants_in d.from) ≡ take n (grants_in b.from)
grants_then n b d ring few = ap (take n) (sym (ap (map grant_of) ring.received.1) ∙ map-append grant_of b.from.received ring.received.0)
    ∙ take-append-le n (grants_in b.from) (map grant_of ring.received.0) (omega (arith, few, length-map b.from.received grant_of))

module _ (patience made : ℕ) (a b c d : AllowanceState) (was : Tries patience made a b) (waited : b.waits ≡ true) (past : allowed (grants_in b.from) ≤ made) (found : FindsInTime patience b c)
    (all : TakesAll c d) where
  abbrev at : ℕ
  at = length b.from.received

  abbrev end : ℕ
  end = length d.from.received

  abbrev looks : List ℕ
  looks = (was.looks ++ replicate found.tries at) ++ end ∷ []

  later : at < end
  later = omega (arith, ap length found.received, length-append b.from.received (found.grant ∷ []), ap length all.ring.received.1, length-append c.from.received all.ring.received.0)

  in_all : (n : ℕ) → times n looks ≡ times n was.looks + times n (replicate found.tries at) + times n (end ∷ [])
  in_all n = times_append n (was.looks ++ replicate found.tries at) (end ∷ []) ∙ ap (λ k. k + times n (end ∷ [])) (times_append n was.looks (replicate found.tries at))

  -- before the number tried again they are as they were
  in_past : (n : ℕ) → n ≢ at → n ≢ end → times n looks ≡ times n was.looks
  in_past n other early = omega (arith, in_all n, times_other n at found.tries other, times_there n end [] early)

  at_it : times at looks ≡ 1 + found.tries
  at_it = omega (arith, in_all at, was.once, times_same at found.tries, times_there at end [] (let l = later in grind (arith, l)))

  at_end : times end looks ≡ 1
  at_end = omega (arith, in_all end, was.none_past end later, times_other end at found.tries (let l = later in grind (arith, l)), times_here end [])

  further : GoesOnOut b.from d.from
  further = goes_on_out_trans b.from c.from d.from found.ring all.ring

  few_by : (n : ℕ) → times n looks ≤ suc patience
  few_by n = dite (ℕ_discrete n at) (λ same. subst (λ k. times k looks ≤ suc patience) (sym same) (omega (arith, at_it, found.few)))
      (λ other. dite (ℕ_discrete n end) (λ same. subst (λ k. times k looks ≤ suc patience) (sym same) (omega (arith, at_end)))
      (λ early. omega (arith, in_past n other early, was.few n)))

  again_by : (n : ℕ) → 1 < times n looks → (a.waits ≡ true) × (allowed (take n (grants_in d.from)) ≤ made)
  again_by n more = dite (ℕ_discrete n at)
      (λ same. (
        sym was.waits ∙ waited,
        subst (λ k. allowed (take k (grants_in d.from)) ≤ made) (sym same)
            (subst (λ gs. allowed gs ≤ made) (sym (grants_then at b d further (omega arith) ∙ take_all at (grants_in b.from) (omega (arith, length-map b.from.received grant_of)))) past),
      ))
      (λ other. dite (ℕ_discrete n end) (λ same. absurd (omega (arith, subst (λ k. 1 < times k looks) same more, at_end)))
      (λ early. let old = was.again n (omega (arith, more, in_past n other early)) in (old.0, subst (λ gs. allowed gs ≤ made) (sym (grants_then n b d further (low other early (nat_lt at n) refl))) old.1)))
    where
      low : n ≢ at → n ≢ end → (f : Bool) → nat_lt at n ≡ f → n ≤ at
      low other early true is = let none = was.none_past n (grind (arith, is)) in absurd (omega (arith, more, in_past n other early, none))
      low other early false is = grind (arith, is)

  pub tries_on : Tries patience made a d
  tries_on = record {
    ring = goes_on_out_trans a.from b.from d.from was.ring further;
    waits = all.waits ∙ found.waits ∙ was.waits;
    looks = looks;
    noted = all.tails ∙ ap (λ l. l ++ end ∷ []) (found.tails ∙ ap (λ l. l ++ replicate found.tries at) was.noted)
        ∙ ap (λ l. l ++ end ∷ []) (append_assoc a.from.tails was.looks (replicate found.tries at)) ∙ append_assoc a.from.tails (was.looks ++ replicate found.tries at) (end ∷ []);
    last = last_noted (was.looks ++ replicate found.tries at) end;
    told = prefix_trans a.from.heard c.from.heard d.from.received (prefix_trans a.from.heard b.from.heard c.from.heard was.ring.heard found.ring.heard) all.told;
    once = at_end;
    none_past = λ n beyond. let l = later in omega (arith, in_past n (grind (arith, beyond, l)) (grind (arith, beyond)), was.none_past n (omega (arith, beyond, l)));
    few = few_by;
    again = again_by;
  }

-- ---- the end of a call

pub it_may_go_on : (patience made : ℕ) (a b : AllowanceState) → Tries patience made a b → (b.waits ≡ false) ⊎ (made < allowed (grants_in b.from)) → Awaits patience made a b
it_may_go_on patience made a b was may = record {
  ring = was.ring;
  looks = was.looks;
  noted = was.noted;
  last = was.last;
  told = was.told;
  again = was.again;
  few = was.few;
  waits = by may;
  lost = λ waited over. absurd (true≢false (sym waited ∙ sym was.waits ∙ over));
}
  where
    by : (b.waits ≡ false) ⊎ (made < allowed (grants_in b.from)) → b.waits ≡ (a.waits && nat_lt made (allowed (grants_in b.from)))
    by (inl over) = over ∙ ap (λ w. w && nat_lt made (allowed (grants_in b.from))) (sym over ∙ was.waits)
    by (inr less) = was.waits ∙ by_it a.waits ∙ ap (λ f. a.waits && f) (sym (lt-ltb made (allowed (grants_in b.from)) less))
      where
        by_it : (w : Bool) → w ≡ (w && true)
        by_it true = refl
        by_it false = refl

module _ (patience made : ℕ) (a b c d : AllowanceState) (was : Tries patience made a b) (waited : b.waits ≡ true) (past : allowed (grants_in b.from) ≤ made) (vain : TriesInVain patience b c)
    (is : d ≡ record c { waits = false }) where
  abbrev tried : ℕ
  tried = length b.from.received

  abbrev all_looks : List ℕ
  all_looks = was.looks ++ replicate patience tried

  from_is : d.from ≡ c.from
  from_is = ap (λ (s : AllowanceState). s.from) is

  received_is : d.from.received ≡ b.from.received
  received_is = ap (λ r. r.received) from_is ∙ vain.received

  at_all : times tried all_looks ≡ suc patience
  at_all = omega (arith, times_append tried was.looks (replicate patience tried), was.once, times_same tried patience)

  elsewhere : (k : ℕ) → k ≢ tried → times k all_looks ≡ times k was.looks
  elsewhere k other = omega (arith, times_append k was.looks (replicate patience tried), times_other k tried patience other)

  pub it_gives_up : Awaits patience made a d
  it_gives_up = record {
    ring = subst (GoesOnOut a.from) (sym from_is) (goes_on_out_trans a.from b.from c.from was.ring vain.ring);
    looks = all_looks;
    noted = ap (λ r. r.tails) from_is ∙ vain.tails ∙ ap (λ l. l ++ replicate patience tried) was.noted ∙ append_assoc a.from.tails was.looks (replicate patience tried);
    last = last_further was.looks tried patience was.last ∙ ap (λ l. Some (length l)) (sym received_is);
    told = subst (IsPrefix a.from.heard) (sym received_is) was.told;
    again = λ k more. (
      sym was.waits ∙ waited,
      subst (λ l. allowed (take k (map grant_of l)) ≤ made) (sym received_is) (dite (ℕ_discrete k tried)
          (λ same. subst (λ m. allowed (take m (grants_in b.from)) ≤ made) (sym same) (subst (λ gs. allowed gs ≤ made) (sym (take_all tried (grants_in b.from) (omega (arith, length-map b.from.received grant_of)))) past))
          (λ other. (was.again k (omega (arith, more, elsewhere k other))).1)),
    );
    few = λ k. dite (ℕ_discrete k tried) (λ same. subst (λ m. times m all_looks ≤ suc patience) (sym same) (omega (arith, at_all))) (λ other. omega (arith, elsewhere k other, was.few k));
    waits = ap (λ (s : AllowanceState). s.waits) is ∙ sym (ap (λ w. w && nat_lt made (allowed (grants_in d.from))) (sym was.waits ∙ waited) ∙ not_more);
    lost = λ w over. ap (λ l. times (length l) all_looks) received_is ∙ at_all;
  }
    where
      not_more : nat_lt made (allowed (grants_in d.from)) ≡ false
      not_more = ap (λ l. nat_lt made (allowed (map grant_of l))) received_is ∙ grind (arith, past)
