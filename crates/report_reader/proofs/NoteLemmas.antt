-- A note that is read is what stood there, and what stands there is read.
use Rattle.std.proofs.Common.{◌≡◌, ℕ, zero, suc, ◌≤◌, List, [], ◌∷◌, ◌++◌, length, Some, All, codes, decimal, inl, inr, refl, sym, ap, subst, ◌∙◌, arith}
use Rattle.std.proofs.lemmas.List.Elements.{All-nil, All-cons, All-head, All-tail}
use Rattle.std.proofs.lemmas.Option.{same_Some}
use Rattle.engine_model.specs.Journal.{Play, Silent, Heard, Short, Take, Off, Taken, Lost, Note}
use Rattle.edit_script.specs.Forms.{largest}
use Rattle.cycle_journal.specs.Report.{play_text, take_text, note_text, notes_text}
use Rattle.report_reader.specs.Grammar.{IsPlayed, IsTaken, IsNoted}
use Rattle.report_reader.specs.Fields.{◌>>=◌, chosen, after, digits, number_in, numbered}
use Rattle.report_reader.specs.Notes.{heard_in, short_in, play_in, taken_in, lost_in, take_in, note_in, notes_in}
use Rattle.report_reader.proofs.FieldLemmas.{some_of, chosen_some, after_is, IsRead, number_is, number_again, numbered_is, numbered_again}
use Rattle.report_reader.proofs.FlatLemmas.{flat3, flat4, flat6}

-- ---- what was heard

heard_is : (bytes : List ℕ) (x : Play × List ℕ) → heard_in bytes ≡ Some x → IsRead play_text IsPlayed (codes "h" ++ bytes) x
heard_is bytes x e =
    let a = some_of (number_in 0 10000 bytes) (λ touched. Some (Heard touched.0, touched.1)) x e in
    let n = number_is 0 10000 bytes a.0 a.1 in
    subst (IsRead play_text IsPlayed (codes "h" ++ bytes)) (same_Some (Heard a.0.0, a.0.1) x a.2) (ap (λ (r : List ℕ). codes "h" ++ r) n.0, n.1.most)

short_is : (bytes : List ℕ) (x : Play × List ℕ) → short_in bytes ≡ Some x → IsRead play_text IsPlayed (codes "s" ++ bytes) x
short_is bytes x e =
    let a = some_of (number_in 0 largest bytes) (λ tail. Some (Short tail.0, tail.1)) x e in
    let n = number_is 0 largest bytes a.0 a.1 in
    subst (IsRead play_text IsPlayed (codes "s" ++ bytes)) (same_Some (Short a.0.0, a.0.1) x a.2) (ap (λ (r : List ℕ). codes "s" ++ r) n.0, omega (arith, n.1.most))

pub play_is : (bytes : List ℕ) (x : Play × List ℕ) → play_in bytes ≡ Some x → IsRead play_text IsPlayed bytes x
unfolding play_in
play_is bytes x e =
    elim (chosen_some (after (codes "-") bytes) (λ rest. Some (Silent, rest)) (chosen (after (codes "h") bytes) heard_in (after (codes "s") bytes >>= short_in)) x e) [
      | inl p ↦ subst (IsRead play_text IsPlayed bytes) (same_Some (Silent, p.0) x p.2) (after_is (codes "-") bytes p.0 p.1, tt)
      | inr f ↦ elim (chosen_some (after (codes "h") bytes) heard_in (after (codes "s") bytes >>= short_in) x f) [
        | inl p ↦ let h = heard_is p.0 x p.2 in (after_is (codes "h") bytes p.0 p.1 ∙ h.0, h.1)
        | inr g ↦ let p = some_of (after (codes "s") bytes) short_in x g in let h = short_is p.0 x p.2 in (after_is (codes "s") bytes p.0 p.1 ∙ h.0, h.1)
      ]
    ]

pub play_again : (play : Play) (rest : List ℕ) → IsPlayed play → digits rest ≡ 0 → play_in (play_text play ++ rest) ≡ Some (play, rest)
unfolding play_in
play_again Silent rest is none = refl
play_again (Heard touched) rest is none = ap (λ o. o >>= λ n. Some (Heard n.0, n.1)) (number_again 0 10000 touched rest (record { least = omega arith; most = is }) (omega (arith, is)) none)
play_again (Short tail) rest is none = ap (λ o. o >>= λ n. Some (Short n.0, n.1)) (number_again 0 largest tail rest (record { least = omega arith; most = omega (arith, is) }) is none)

-- ---- what was taken

taken_is : (bytes : List ℕ) (x : Take × List ℕ) → taken_in bytes ≡ Some x → IsRead take_text IsTaken (codes "t" ++ bytes) x
unfolding taken_in
taken_is bytes x e =
    let a = some_of (number_in 1 100000 bytes) (λ take. numbered (codes ".") 0 99999 take.1 >>= λ index. Some (Taken take.0 index.0, index.1)) x e in
    let b = some_of (numbered (codes ".") 0 99999 a.0.1) (λ index. Some (Taken a.0.0 index.0, index.1)) x a.2 in
    let m = number_is 1 100000 bytes a.0 a.1 in
    let n = numbered_is (codes ".") 0 99999 a.0.1 b.0 b.1 in
    let all : codes "t" ++ bytes ≡ codes "t" ++ (decimal a.0.0 ++ (codes "." ++ (decimal b.0.0 ++ b.0.1))) = ap (λ (r : List ℕ). codes "t" ++ r) (m.0 ∙ ap (λ (r : List ℕ). decimal a.0.0 ++ r) n.0) in
    subst (IsRead take_text IsTaken (codes "t" ++ bytes)) (same_Some (Taken a.0.0 b.0.0, b.0.1) x b.2)
    (all ∙ sym (flat4 (codes "t") (decimal a.0.0) (codes ".") (decimal b.0.0) b.0.1), (m.1, omega (arith, n.1.most)))

taken_again : (take index : ℕ) (rest : List ℕ) → IsTaken (Taken take index) → digits rest ≡ 0 → taken_in (decimal take ++ (codes "." ++ (decimal index ++ rest))) ≡ Some (Taken take index, rest)
unfolding taken_in
taken_again take index rest is none =
    rw (
      number_again 1 100000 take (codes "." ++ (decimal index ++ rest)) is.0 (omega (arith, is.0.most)) refl,
      numbered_again (codes ".") 0 99999 index rest (record { least = omega arith; most = omega (arith, is.1) }) (omega (arith, is.1)) none,
    ) refl

lost_is : (bytes : List ℕ) (x : Take × List ℕ) → lost_in bytes ≡ Some x → IsRead take_text IsTaken (codes "l" ++ bytes) x
unfolding lost_in
lost_is bytes x e =
    let a = some_of (number_in 1 100000 bytes) (λ take. numbered (codes ".") 0 99999 take.1 >>= λ index. numbered (codes ".") 0 largest index.1 >>= λ head. Some (Lost take.0 index.0 head.0, head.1)) x e in
    let b = some_of (numbered (codes ".") 0 99999 a.0.1) (λ index. numbered (codes ".") 0 largest index.1 >>= λ head. Some (Lost a.0.0 index.0 head.0, head.1)) x a.2 in
    let d = some_of (numbered (codes ".") 0 largest b.0.1) (λ head. Some (Lost a.0.0 b.0.0 head.0, head.1)) x b.2 in
    let m = number_is 1 100000 bytes a.0 a.1 in
    let n = numbered_is (codes ".") 0 99999 a.0.1 b.0 b.1 in
    let o = numbered_is (codes ".") 0 largest b.0.1 d.0 d.1 in
    let all : codes "l" ++ bytes ≡ codes "l" ++ (decimal a.0.0 ++ (codes "." ++ (decimal b.0.0 ++ (codes "." ++ (decimal d.0.0 ++ d.0.1))))) =
    ap (λ (r : List ℕ). codes "l" ++ r) (m.0 ∙ ap (λ (r : List ℕ). decimal a.0.0 ++ r) (n.0 ∙ ap (λ (r : List ℕ). codes "." ++ (decimal b.0.0 ++ r)) o.0)) in
    subst (IsRead take_text IsTaken (codes "l" ++ bytes)) (same_Some (Lost a.0.0 b.0.0 d.0.0, d.0.1) x d.2)
    (all ∙ sym (flat6 (codes "l") (decimal a.0.0) (codes ".") (decimal b.0.0) (codes ".") (decimal d.0.0) d.0.1), (m.1, omega (arith, n.1.most), omega (arith, o.1.most)))

lost_again : (take index head : ℕ) (rest : List ℕ) → IsTaken (Lost take index head) → digits rest ≡ 0 →
    lost_in (decimal take ++ (codes "." ++ (decimal index ++ (codes "." ++ (decimal head ++ rest))))) ≡ Some (Lost take index head, rest)
unfolding lost_in
lost_again take index head rest is none =
    rw (
      number_again 1 100000 take (codes "." ++ (decimal index ++ (codes "." ++ (decimal head ++ rest)))) is.0 (omega (arith, is.0.most)) refl,
      numbered_again (codes ".") 0 99999 index (codes "." ++ (decimal head ++ rest)) (record { least = omega arith; most = omega (arith, is.1) }) (omega (arith, is.1)) refl,
      numbered_again (codes ".") 0 largest head rest (record { least = omega arith; most = omega (arith, is.2) }) is.2 none,
    ) refl

pub take_is : (bytes : List ℕ) (x : Take × List ℕ) → take_in bytes ≡ Some x → IsRead take_text IsTaken bytes x
unfolding take_in
take_is bytes x e =
    elim (chosen_some (after (codes "-") bytes) (λ rest. Some (Off, rest)) (chosen (after (codes "t") bytes) taken_in (after (codes "l") bytes >>= lost_in)) x e) [
      | inl p ↦ subst (IsRead take_text IsTaken bytes) (same_Some (Off, p.0) x p.2) (after_is (codes "-") bytes p.0 p.1, tt)
      | inr f ↦ elim (chosen_some (after (codes "t") bytes) taken_in (after (codes "l") bytes >>= lost_in) x f) [
        | inl p ↦ let h = taken_is p.0 x p.2 in (after_is (codes "t") bytes p.0 p.1 ∙ h.0, h.1)
        | inr g ↦ let p = some_of (after (codes "l") bytes) lost_in x g in let h = lost_is p.0 x p.2 in (after_is (codes "l") bytes p.0 p.1 ∙ h.0, h.1)
      ]
    ]

pub take_again : (take : Take) (rest : List ℕ) → IsTaken take → digits rest ≡ 0 → take_in (take_text take ++ rest) ≡ Some (take, rest)
unfolding take_in
take_again Off rest is none = refl
take_again (Taken take index) rest is none = ap take_in (flat4 (codes "t") (decimal take) (codes ".") (decimal index) rest) ∙ taken_again take index rest is none
take_again (Lost take index head) rest is none = ap take_in (flat6 (codes "l") (decimal take) (codes ".") (decimal index) (codes ".") (decimal head) rest) ∙ lost_again take index head rest is none

-- ---- notes

pub note_is : (bytes : List ℕ) (x : Note × List ℕ) → note_in bytes ≡ Some x → IsRead note_text IsNoted bytes x
unfolding note_in
note_is bytes x e =
    let a = some_of (play_in bytes) (λ play. after (codes "/") play.1 >>= λ rest. take_in rest >>= λ take. Some (record { play = play.0; take = take.0 }, take.1)) x e in
    let b = some_of (after (codes "/") a.0.1) (λ rest. take_in rest >>= λ take. Some (record { play = a.0.0; take = take.0 }, take.1)) x a.2 in
    let d = some_of (take_in b.0) (λ take. Some (record { play = a.0.0; take = take.0 }, take.1)) x b.2 in
    let p = play_is bytes a.0 a.1 in
    let t = take_is b.0 d.0 d.1 in
    let all : bytes ≡ play_text a.0.0 ++ (codes "/" ++ (take_text d.0.0 ++ d.0.1)) =
    p.0 ∙ ap (λ (r : List ℕ). play_text a.0.0 ++ r) (after_is (codes "/") a.0.1 b.0 b.1 ∙ ap (λ (r : List ℕ). codes "/" ++ r) t.0) in
    let made : Note × List ℕ = (record { play = a.0.0; take = d.0.0 }, d.0.1) in
    subst (IsRead note_text IsNoted bytes) (same_Some made x d.2) (all ∙ sym (flat3 (play_text a.0.0) (codes "/") (take_text d.0.0) d.0.1), record { play = p.1; take = t.1 })

pub note_again : (note : Note) (rest : List ℕ) → IsNoted note → digits rest ≡ 0 → note_in (note_text note ++ rest) ≡ Some (note, rest)
unfolding note_in
note_again note rest is none =
    ap note_in (flat3 (play_text note.play) (codes "/") (take_text note.take) rest)
    ∙ rw (play_again note.play (codes "/" ++ (take_text note.take ++ rest)) is.play refl) (ap (λ o. o >>= λ t. Some (record { play = note.play; take = t.0 }, t.1)) (take_again note.take rest is.take none))

-- no digit stands in front of notes
pub notes_end : (notes : List Note) → digits (notes_text notes) ≡ 0
notes_end [] = refl
notes_end (note ∷ notes) = refl

-- what the notes of a line keep
pub record AreRead (most : ℕ) (bytes : List ℕ) (notes : List Note) : Type 0 where
  pub is : bytes ≡ notes_text notes
  pub few : length notes ≤ most
  pub noted : All IsNoted notes

none_read : (most : ℕ) (notes : List Note) → [] ≡ notes → AreRead most [] notes
none_read most notes e = subst (AreRead most []) e (record { is = refl; few = omega arith; noted = All-nil IsNoted })

pub notes_are : (most : ℕ) (bytes : List ℕ) (notes : List Note) → notes_in most bytes ≡ Some notes → AreRead most bytes notes
unfolding notes_in
notes_are zero [] notes e = none_read 0 notes (same_Some [] notes e)
notes_are (suc most) [] notes e = none_read (suc most) notes (same_Some [] notes e)
notes_are zero (b ∷ bytes) notes e = absurd (cc)
notes_are (suc most) (b ∷ bytes) notes e =
    let a = some_of (after (codes " ") (b ∷ bytes)) (λ rest. note_in rest >>= λ note. notes_in most note.1 >>= λ others. Some (note.0 ∷ others)) notes e in
    let d = some_of (note_in a.0) (λ note. notes_in most note.1 >>= λ others. Some (note.0 ∷ others)) notes a.2 in
    let f = some_of (notes_in most d.0.1) (λ others. Some (d.0.0 ∷ others)) notes d.2 in
    let one = note_is a.0 d.0 d.1 in
    let others = notes_are most d.0.1 f.0 f.1 in
    let all : b ∷ bytes ≡ codes " " ++ (note_text d.0.0 ++ notes_text f.0) =
    after_is (codes " ") (b ∷ bytes) a.0 a.1 ∙ ap (λ (r : List ℕ). codes " " ++ r) (one.0 ∙ ap (λ (r : List ℕ). note_text d.0.0 ++ r) others.is) in
    subst (AreRead (suc most) (b ∷ bytes)) (same_Some (d.0.0 ∷ f.0) notes f.2) (record {
      is = all;
      few = omega (arith, others.few);
      noted = All-cons IsNoted d.0.0 f.0 one.1 others.noted;
    })

pub notes_again : (most : ℕ) (notes : List Note) → length notes ≤ most → All IsNoted notes → notes_in most (notes_text notes) ≡ Some notes
unfolding notes_in
notes_again zero [] few noted = refl
notes_again (suc most) [] few noted = refl
notes_again zero (note ∷ notes) few noted = absurd (omega (arith, few))
notes_again (suc most) (note ∷ notes) few noted =
    ap (λ o. o >>= λ n. notes_in most n.1 >>= λ others. Some (n.0 ∷ others)) (note_again note (notes_text notes) (All-head IsNoted note notes noted) (notes_end notes))
    ∙ ap (λ o. o >>= λ others. Some (note ∷ others)) (notes_again most notes (omega (arith, few)) (All-tail IsNoted note notes noted))
