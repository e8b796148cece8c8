-- Counts of faults, one step after another.
use Rattle.std.proofs.Common.{◌≡◌, ℕ, ◌≤◌, arith, ◌∙◌, sym, refl}
use Rattle.std.specs.Prelude.{Bool, true, false}
use Rattle.ses_io.specs.Faults.{risen}
use Rattle.control_desk.specs.GoesOn.{IsCounted}

true_no : true ≡ false → ⊥
true_no e = cc

pub clash : {P : Type 0} (b : Bool) → b ≡ false → b ≡ true → P
clash b off on = absurd (true_no (sym on ∙ off))

-- none failed
pub counted_same : (before now : ℕ) (was : Bool) → now ≡ before → IsCounted before now was was
counted_same before now was same = record { later = omega (arith, same); kept = λ e. same; raised = λ off on. clash was off on }

-- one failed
pub counted_fault : (before now : ℕ) → before ≤ now → risen before ≤ now → IsCounted before now false true
counted_fault before now later rose = record { later = later; kept = λ e. absurd (true_no e); raised = λ off on. rose }

-- what is so stays so
pub counted_on : (x y z : ℕ) (was mid is : Bool) → IsCounted x y was mid → IsCounted y z mid is → (was ≡ true → mid ≡ true) → (mid ≡ true → is ≡ true) → IsCounted x z was is
counted_on x y z true false is one two first second = absurd (true_no (sym (first refl)))
counted_on x y z true true false one two first second = absurd (true_no (sym (second refl)))
counted_on x y z false true false one two first second = absurd (true_no (sym (second refl)))
counted_on x y z true true true one two first second = record {
  later = omega (arith, one.later, two.later);
  kept = λ e. two.kept refl ∙ one.kept refl;
  raised = λ off on. absurd (true_no off);
}
counted_on x y z false true true one two first second = record {
  later = omega (arith, one.later, two.later);
  kept = λ e. absurd (true_no e);
  raised = λ off on. omega (arith, one.raised refl refl, two.later);
}
counted_on x y z false false is one two first second = record {
  later = omega (arith, one.later, two.later);
  kept = λ e. two.kept e ∙ one.kept refl;
  raised = λ off on. omega (arith, one.kept refl, two.raised refl on);
}
