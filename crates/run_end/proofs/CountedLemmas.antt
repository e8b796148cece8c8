-- How counts of faults go on.
use Rattle.std.proofs.Common.{◌≡◌, ℕ, ◌≤◌, refl, sym, subst, arith}
use Rattle.std.specs.Prelude.{Bool, true, false, Ok, Err}
use Rattle.std.proofs.lemmas.Bool.{true≢false}
use Rattle.ses_io.specs.Faults.{risen, HasCause}
use Rattle.run_end.specs.Failures.{IsFaultCount}

-- a count that stands
pub counted_still : (before was now : ℕ) (rose : Bool) → now ≡ was → IsFaultCount before was rose → IsFaultCount before now rose
counted_still before was now rose same c = subst (λ n. IsFaultCount before n rose) (sym same) c

-- a count that rose
pub counted_more : (before was now : ℕ) (rose : Bool) → was ≤ now → risen was ≤ now → IsFaultCount before was rose → IsFaultCount before now true
counted_more before was now rose later more c = record {
  later = omega (arith, c.later, later);
  kept = λ e. absurd (true≢false e);
  raised = λ e. omega (arith, c.later, more);
}

-- nothing was counted yet
pub counted_none : (before : ℕ) → IsFaultCount before before false
counted_none before = record {
  later = omega arith;
  kept = λ e. refl;
  raised = λ e. absurd (true≢false (sym e));
}

-- where the call that counts was answered Ok,
pub counted_ok : {T E : Type 0} (before was now : ℕ) (rose : Bool) (x : T) → HasCause {E = E} was now (Ok x) → IsFaultCount before was rose → IsFaultCount before now rose
counted_ok before was now rose x cause c = counted_still before was now rose cause.kept c

-- and where it was answered a fault
pub counted_err : {T E : Type 0} (before was now : ℕ) (rose : Bool) (e : E) → HasCause {T = T} was now (Err e) → IsFaultCount before was rose → IsFaultCount before now true
counted_err before was now rose e cause c = counted_more before was now rose cause.later cause.rose c

-- a count that had risen has
pub counted_later : (before was now : ℕ) → was ≤ now → IsFaultCount before was true → IsFaultCount before now true
counted_later before was now later c = record {
  later = omega (arith, c.later, later);
  kept = λ e. absurd (true≢false e);
  raised = λ e. omega (arith, c.raised e, later);
}
