-- A state that is read is what stood there, and what stands there is read.
use Rattle.std.proofs.Common.{◌≡◌, ℕ, ◌+◌, ◌-◌, List, ◌++◌, Some, codes, decimal, inl, inr, refl, sym, ap, subst, ◌∙◌, arith}
use Rattle.std.proofs.lemmas.Option.{same_Some}
use Rattle.engine_model.specs.Journal.{State, Stopped, Seeking, Rolling}
use Rattle.edit_script.specs.Forms.{largest}
use Rattle.cycle_journal.specs.Report.{state_text}
use Rattle.report_reader.specs.Grammar.{IsState}
use Rattle.report_reader.specs.Fields.{◌>>=◌, chosen, after, digits, number_in, numbered}
use Rattle.report_reader.specs.Notes.{seeking_in, rolling_in, state_in}
use Rattle.report_reader.proofs.FieldLemmas.{some_of, chosen_some, after_is, IsRead, number_is, number_again, numbered_is, numbered_again}
use Rattle.report_reader.proofs.FlatLemmas.{flat4}

seeking_is : (bytes : List ℕ) (x : State × List ℕ) → seeking_in bytes ≡ Some x → IsRead state_text IsState (codes "seeking " ++ bytes) x
unfolding seeking_in
seeking_is bytes x e =
    let a = some_of (number_in 1 32 bytes) (λ track. numbered (codes " ") 0 largest track.1 >>= λ tail. Some (Seeking (track.0 - 1) tail.0, tail.1)) x e in
    let b = some_of (numbered (codes " ") 0 largest a.0.1) (λ tail. Some (Seeking (a.0.0 - 1) tail.0, tail.1)) x a.2 in
    let m = number_is 1 32 bytes a.0 a.1 in
    let n = numbered_is (codes " ") 0 largest a.0.1 b.0 b.1 in
    let track : a.0.0 - 1 + 1 ≡ a.0.0 = omega (arith, m.1.least) in
    let all : codes "seeking " ++ bytes ≡ codes "seeking " ++ (decimal (a.0.0 - 1 + 1) ++ (codes " " ++ (decimal b.0.0 ++ b.0.1))) =
    ap (λ (r : List ℕ). codes "seeking " ++ r) (m.0 ∙ ap (λ (r : List ℕ). decimal a.0.0 ++ r) n.0 ∙ ap (λ k. decimal k ++ (codes " " ++ (decimal b.0.0 ++ b.0.1))) (sym track)) in
    subst (IsRead state_text IsState (codes "seeking " ++ bytes)) (same_Some (Seeking (a.0.0 - 1) b.0.0, b.0.1) x b.2)
    (all ∙ sym (flat4 (codes "seeking ") (decimal (a.0.0 - 1 + 1)) (codes " ") (decimal b.0.0) b.0.1), (omega (arith, m.1.least, m.1.most), omega (arith, n.1.most)))

seeking_again : (track tail : ℕ) (rest : List ℕ) → IsState (Seeking track tail) → digits rest ≡ 0 → seeking_in (decimal (track + 1) ++ (codes " " ++ (decimal tail ++ rest))) ≡ Some (Seeking track tail, rest)
unfolding seeking_in
seeking_again track tail rest is none =
    let back : track + 1 - 1 ≡ track = omega arith in
    rw (
      number_again 1 32 (track + 1) (codes " " ++ (decimal tail ++ rest)) (record { least = omega arith; most = omega (arith, is.0) }) (omega (arith, is.0)) refl,
      numbered_again (codes " ") 0 largest tail rest (record { least = omega arith; most = omega (arith, is.1) }) is.1 none,
    ) (ap (λ t. Some (Seeking t tail, rest)) back)

rolling_is : (bytes : List ℕ) (x : State × List ℕ) → rolling_in bytes ≡ Some x → IsRead state_text IsState (codes "rolling " ++ bytes) x
unfolding rolling_in
rolling_is bytes x e =
    let a = some_of (number_in 0 10000 bytes) (λ generation. numbered (codes " ") 0 99999 generation.1 >>= λ seq. Some (Rolling generation.0 seq.0, seq.1)) x e in
    let b = some_of (numbered (codes " ") 0 99999 a.0.1) (λ seq. Some (Rolling a.0.0 seq.0, seq.1)) x a.2 in
    let m = number_is 0 10000 bytes a.0 a.1 in
    let n = numbered_is (codes " ") 0 99999 a.0.1 b.0 b.1 in
    let all : codes "rolling " ++ bytes ≡ codes "rolling " ++ (decimal a.0.0 ++ (codes " " ++ (decimal b.0.0 ++ b.0.1))) = ap (λ (r : List ℕ). codes "rolling " ++ r) (m.0 ∙ ap (λ (r : List ℕ). decimal a.0.0 ++ r) n.0) in
    subst (IsRead state_text IsState (codes "rolling " ++ bytes)) (same_Some (Rolling a.0.0 b.0.0, b.0.1) x b.2)
    (all ∙ sym (flat4 (codes "rolling ") (decimal a.0.0) (codes " ") (decimal b.0.0) b.0.1), (m.1.most, omega (arith, n.1.most)))

rolling_again : (generation seq : ℕ) (rest : List ℕ) → IsState (Rolling generation seq) → digits rest ≡ 0 → rolling_in (decimal generation ++ (codes " " ++ (decimal seq ++ rest))) ≡ Some (Rolling generation seq, rest)
unfolding rolling_in
rolling_again generation seq rest is none =
    rw (
      number_again 0 10000 generation (codes " " ++ (decimal seq ++ rest)) (record { least = omega arith; most = is.0 }) (omega (arith, is.0)) refl,
      numbered_again (codes " ") 0 99999 seq rest (record { least = omega arith; most = omega (arith, is.1) }) (omega (arith, is.1)) none,
    ) refl

pub state_is : (bytes : List ℕ) (x : State × List ℕ) → state_in bytes ≡ Some x → IsRead state_text IsState bytes x
unfolding state_in
state_is bytes x e =
    elim (chosen_some (after (codes "stopped") bytes) (λ rest. Some (Stopped, rest)) (chosen (after (codes "seeking ") bytes) seeking_in (after (codes "rolling ") bytes >>= rolling_in)) x e) [
      | inl p ↦ subst (IsRead state_text IsState bytes) (same_Some (Stopped, p.0) x p.2) (after_is (codes "stopped") bytes p.0 p.1, tt)
      | inr f ↦ elim (chosen_some (after (codes "seeking ") bytes) seeking_in (after (codes "rolling ") bytes >>= rolling_in) x f) [
        | inl p ↦ let h = seeking_is p.0 x p.2 in (after_is (codes "seeking ") bytes p.0 p.1 ∙ h.0, h.1)
        | inr g ↦ let p = some_of (after (codes "rolling ") bytes) rolling_in x g in let h = rolling_is p.0 x p.2 in (after_is (codes "rolling ") bytes p.0 p.1 ∙ h.0, h.1)
      ]
    ]

pub state_again : (state : State) (rest : List ℕ) → IsState state → digits rest ≡ 0 → state_in (state_text state ++ rest) ≡ Some (state, rest)
unfolding state_in
state_again Stopped rest is none = refl
state_again (Seeking track tail) rest is none = ap state_in (flat4 (codes "seeking ") (decimal (track + 1)) (codes " ") (decimal tail) rest) ∙ seeking_again track tail rest is none
state_again (Rolling generation seq) rest is none = ap state_in (flat4 (codes "rolling ") (decimal generation) (codes " ") (decimal seq) rest) ∙ rolling_again generation seq rest is none
