-- A word that is refused is the first from the left whose form fails.
use Rattle.std.proofs.Common.{◌≡◌, ℕ, zero, suc, ◌+◌, ◌<◌, List, [], ◌∷◌, Option, Some, None, IsSome, is_some, Ok, Err, refl, ap, sym, subst, arith}
use Rattle.std.specs.Prelude.{slice_get}
use Rattle.edit_script.specs.declared.refusal.LineRefusal.{LineRefusal}
use Rattle.edit_script.specs.Words.{word_at}
use Rattle.edit_script.specs.Forms.{Form, Value, value_of, wrong}
use Rattle.edit_script.specs.Table.{forms_of}
use Rattle.edit_script.specs.Reading.{Read, ◌>>=◌, found, values_from}
use Rattle.edit_script.specs.Laws.{IsFirstWrong, FirstWrongIsNamed}

abbrev Wrong : ℕ → List Form → List (List ℕ) → LineRefusal → Type 0
Wrong i forms words why = (k : ℕ) × (form : Form) × IsFirstWrong i forms words why k form

at_first : (i : ℕ) (form : Form) (forms : List Form) (words : List (List ℕ)) (why : LineRefusal) → value_of form (word_at words i) ≡ None → why ≡ wrong form i → Wrong i (form ∷ forms) words why
at_first i form forms words why fails named = let here : i ≡ i + 0 = omega arith in (
  0,
  form,
  record {
    its_form = refl;
    fails = subst (λ k. value_of form (word_at words k) ≡ None) here fails;
    named = subst (λ k. why ≡ wrong form k) here named;
    before = λ j other less there. absurd (omega arith);
  },
)

-- the word before is of its form
one_before : (i : ℕ) (form : Form) (forms : List Form) (words : List (List ℕ)) (k : ℕ) → IsSome (value_of form (word_at words i)) →
    ((j : ℕ) (other : Form) → j < k → slice_get forms j ≡ Some other → IsSome (value_of other (word_at words (suc i + j)))) →
    (j : ℕ) (other : Form) → j < suc k → slice_get (form ∷ forms) j ≡ Some other → IsSome (value_of other (word_at words (i + j)))
one_before i form forms words k right later zero other less there = let here : i ≡ i + 0 = omega arith in let same : form ≡ other = cc in
    subst (λ n. IsSome (value_of other (word_at words n))) here (subst (λ f. IsSome (value_of f (word_at words i))) same right)
one_before i form forms words k right later (suc j) other less there = let place : suc i + j ≡ i + suc j = omega arith in
    subst (λ n. IsSome (value_of other (word_at words n))) place (later j other (omega arith) there)

further : (i : ℕ) (form : Form) (forms : List Form) (words : List (List ℕ)) (why : LineRefusal) → IsSome (value_of form (word_at words i)) → Wrong (suc i) forms words why → Wrong i (form ∷ forms) words why
further i form forms words why right w = let place : suc i + w.0 ≡ i + suc w.0 = omega arith in (
  suc w.0,
  w.1,
  record {
    its_form = w.2.its_form;
    fails = subst (λ k. value_of w.1 (word_at words k) ≡ None) place w.2.fails;
    named = subst (λ k. why ≡ wrong w.1 k) place w.2.named;
    before = one_before i form forms words w.0 right w.2.before;
  },
)

either : (i : ℕ) (form : Form) (forms : List Form) (words : List (List ℕ)) (why : LineRefusal) (o : Option Value) (rest : Read (List Value)) → value_of form (word_at words i) ≡ o →
    (rest ≡ Err why → Wrong (suc i) forms words why) → (found (wrong form i) o >>= λ v. rest >>= λ vs. Ok (v ∷ vs)) ≡ Err why → Wrong i (form ∷ forms) words why
either i form forms words why None rest is later refused = let named : wrong form i ≡ why = cc in at_first i form forms words why is (sym named)
either i form forms words why (Some v) (Ok vs) is later refused = absurd (cc)
either i form forms words why (Some v) (Err other) is later refused = let same : other ≡ why = cc in further i form forms words why (ap is_some is) (later (ap (λ e. Err e) same))

wrong_in : (forms : List Form) (i : ℕ) (words : List (List ℕ)) (why : LineRefusal) → values_from i forms words ≡ Err why → Wrong i forms words why
wrong_in [] i words why refused = absurd (cc)
wrong_in (form ∷ forms) i words why refused = either i form forms words why (value_of form (word_at words i)) (values_from (suc i) forms words) refl (wrong_in forms (suc i) words why) refused

pub first_wrong_is_named : FirstWrongIsNamed
first_wrong_is_named v words why refused = wrong_in (forms_of v) 2 words why refused
