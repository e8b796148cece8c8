-- Lines hold one report, or have one first bad line.
use Rattle.std.proofs.Common.{◌≡◌, ℕ, ◌-◌, ◌<◌, ◌≤◌, List, ◌++◌, length, take, drop, Ok, Result, inl, inr, sym, ap, subst, ◌∙◌, append_assoc, take-append-drop, take-take, arith}
use Rattle.std.proofs.lemmas.Bool.{cases_lt}
use Rattle.cycle_journal.specs.Report.{Reported}
use Rattle.report_reader.specs.Grammar.{HasReport, MayBecome, IsBadLine}
use Rattle.report_reader.specs.Laws.{ReportsAreReadOneWay, ReadHasNoBadLine, OneLineIsBad}
use Rattle.report_reader.proofs.WholeLemmas.{stands_read}

abbrev Found : ℕ × Reported → Result (ℕ × Reported) ℕ
Found x = Ok x

found_is : (x y : ℕ × Reported) → Found x ≡ Found y → x ≡ y
found_is x y e = cc

pub read_one_way : ReportsAreReadOneWay
read_one_way lines f g x y p q = let same = found_is (f, x) (g, y) (sym (stands_read lines f x p) ∙ stands_read lines g y q) in
    (ap (λ (z : ℕ × Reported). z.0) same, ap (λ (z : ℕ × Reported). z.1) same)

-- what may become a report may from its front on
front_may : (n : ℕ) (lines : List (List ℕ)) → MayBecome lines → MayBecome (take n lines)
front_may n lines may = record {
  more = drop n lines ++ may.more;
  becomes = subst HasReport (ap (λ ls. ls ++ may.more) (sym (take-append-drop n lines)) ∙ append_assoc (take n lines) (drop n lines) may.more) may.becomes;
}

whole_may : (lines : List (List ℕ)) (n : ℕ) → HasReport lines → MayBecome (take n lines)
whole_may lines n has = record { more = drop n lines; becomes = subst HasReport (sym (take-append-drop n lines)) has }

pub not_both : ReadHasNoBadLine
not_both lines first n r at bad =
    let has : HasReport lines = record { first = first; reported = r; is = at } in
    elim (cases_lt (length lines) n) [
      | inl past ↦ bad.short (omega (arith, past, bad.counted.most)) has
      | inr within ↦ bad.bad within (whole_may lines n has)
    ]

not_later : (lines : List (List ℕ)) (n m : ℕ) → IsBadLine lines n → IsBadLine lines m → n < m → ⊥
not_later lines n m p q before =
    let fewer : n ≤ m - 1 = omega (arith, before) in
    let front : take n (take (m - 1) lines) ≡ take n lines = take-take n (m - 1) lines fewer in
    p.bad (omega (arith, before, q.counted.most)) (subst MayBecome front (front_may n (take (m - 1) lines) q.begun))

pub one_line : OneLineIsBad
one_line lines n m p q = elim (cases_lt n m) [
  | inl before ↦ absurd (not_later lines n m p q before)
  | inr other ↦ elim (cases_lt m n) [
    | inl behind ↦ absurd (not_later lines m n q p behind)
    | inr another ↦ omega (arith, other, another)
  ]
]
