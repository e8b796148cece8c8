-- The line that is refused is the first that no report has there.
use Rattle.std.proofs.Common.{◌≡◌, ℕ, suc, ◌+◌, ◌-◌, ◌<◌, ◌≤◌, List, [], ◌∷◌, ◌++◌, length, take, Option, Some, None, Ok, Err, Result, refl, sym, ap, subst, ◌∙◌, arith}
use Rattle.std.proofs.lemmas.List.Elements.{All-nil}
use Rattle.ses_units.specs.declared.bits.Bits.TheVariants.{B16}
use Rattle.cycle_journal.specs.declared.head.ReportHead.{ReportHead}
use Rattle.cycle_journal.specs.Report.{Reported, first_line, format_line, end_line}
use Rattle.report_reader.specs.Grammar.{IsHead, IsReportAt, MayBecome, IsBadLine}
use Rattle.report_reader.specs.Fields.{chosen}
use Rattle.report_reader.specs.Reading.{Stage, Before, Begun, Within, Whole, bare, step, ended, reading}
use Rattle.report_reader.proofs.ReadingLemmas.{bad_line, good_line, whole_stays}
use Rattle.report_reader.proofs.StageLemmas.{IsOther, After, step_after, counted_more, read_stands}
use Rattle.report_reader.proofs.WholeLemmas.{end_read, head_read, first_read, stands_read}

-- ---- what is begun can be ended

shortest : ReportHead
shortest = record { rate = 8000; bits = B16; channels = 1; block = 1; cycles = 1 }

shortest_is : IsHead shortest
unfolding shortest
shortest_is = record {
  rate = record { least = omega arith; most = omega arith };
  channels = record { least = omega arith; most = omega arith };
  block = record { least = omega arith; most = omega arith };
  cycles = record { least = omega arith; most = omega arith };
}

-- lines that more lines make a report
abbrev Ends : ℕ → Stage → List (List ℕ) → Type 0
Ends n stage lines = (more : List (List ℕ)) × (x : ℕ × Reported) × (reading n stage (lines ++ more) ≡ Ok x)

head_ends : (n first : ℕ) → reading n (Begun first) (format_line shortest ∷ end_line 0 ∷ []) ≡ Ok (first, bare shortest)
head_ends n first = head_read n first shortest (end_line 0 ∷ []) shortest_is ∙ end_read (n + 1) first (bare shortest) [] (omega arith)

stage_ends : (lines : List (List ℕ)) (stage : Stage) (n : ℕ) → After lines stage → Ends n stage []
stage_ends lines Before n a = (first_line ∷ format_line shortest ∷ end_line 0 ∷ [], (n, bare shortest), first_read n (format_line shortest ∷ end_line 0 ∷ []) ∙ head_ends (n + 1) n)
stage_ends lines (Begun first) n a = (format_line shortest ∷ end_line 0 ∷ [], (first, bare shortest), head_ends n first)
stage_ends lines (Within first r) n a = (end_line (length r.entries) ∷ [], (first, r), end_read n first r [] (omega (arith, a.readable.few, a.readable.head.cycles.most)))
stage_ends lines (Whole first r) n a = ([], (first, r), whole_stays n first r [])

-- ---- where reading stops

-- Reading stops at the line behind so many: with those before it goes on, and with it never.
record StopsAt (n : ℕ) (stage : Stage) (lines : List (List ℕ)) (m : ℕ) : Type 0 where
  at : ℕ
  counted : m ≡ n + at
  within : at ≤ length lines
  begun : Ends n stage (take at lines)
  bad : at < length lines → (more : List (List ℕ)) → reading n stage (take (suc at) lines ++ more) ≡ Err m

abbrev Fails : ℕ → Result (ℕ × Reported) ℕ
Fails n = Err n

same_fault : (n m : ℕ) → Fails n ≡ Fails m → n ≡ m
same_fault n m e = cc

ended_fails : (n : ℕ) (stage : Stage) (m : ℕ) → ended n stage ≡ Err m → n ≡ m
ended_fails n Before m e = same_fault n m e
ended_fails n (Begun first) m e = same_fault n m e
ended_fails n (Within first r) m e = same_fault n m e
ended_fails n (Whole first r) m e = absurd (cc)

-- one line more in front
later : (n : ℕ) (stage next : Stage) (line : List ℕ) (lines : List (List ℕ)) (m : ℕ) → step n stage line ≡ Some next → StopsAt (n + 1) next lines m → StopsAt n stage (line ∷ lines) m
later n stage next line lines m one s = record {
  at = suc s.at;
  counted = omega (arith, s.counted);
  within = omega (arith, s.within);
  begun = (s.begun.0, s.begun.1, good_line n stage next line (take s.at lines ++ s.begun.0) one ∙ s.begun.2);
  bad = λ there more. good_line n stage next line (take (suc s.at) lines ++ more) one ∙ s.bad (omega (arith, there)) more;
}

here : (lines : List (List ℕ)) (n : ℕ) (stage : Stage) (line : List ℕ) (rest : List (List ℕ)) (m : ℕ) → After lines stage → step n stage line ≡ None → n ≡ m → StopsAt n stage (line ∷ rest) m
here lines n stage line rest m a none same = record {
  at = 0;
  counted = omega (arith, same);
  within = omega arith;
  begun = stage_ends lines stage n a;
  bad = λ there more. bad_line n stage line more none ∙ ap (λ k. Fails k) same;
}

stops_by : (lines : List (List ℕ)) (n : ℕ) (stage : Stage) (line : List ℕ) (rest : List (List ℕ)) (m : ℕ) (o : Option Stage) → step n stage line ≡ o → After lines stage →
    ((next : Stage) → step n stage line ≡ Some next → reading (n + 1) next rest ≡ Err m → StopsAt (n + 1) next rest m) → chosen o (λ next. reading (n + 1) next rest) (Err n) ≡ Err m → StopsAt n stage (line ∷ rest) m
stops_by lines n stage line rest m (Some next) one a behind e = later n stage next line rest m one (behind next one e)
stops_by lines n stage line rest m None none a behind e = here lines n stage line rest m a none (same_fault n m e)

stops : (rest lines : List (List ℕ)) (n : ℕ) (stage : Stage) (m : ℕ) → n ≡ suc (length lines) → After lines stage → reading n stage rest ≡ Err m → StopsAt n stage rest m
unfolding reading
stops [] lines n stage m counted a e = record {
  at = 0;
  counted = omega (arith, ended_fails n stage m e);
  within = omega arith;
  begun = stage_ends lines stage n a;
  bad = λ there more. absurd (omega (arith, there));
}
stops (line ∷ rest) lines n stage m counted a e =
    stops_by lines n stage line rest m (step n stage line) refl a
    (λ next one onward. stops rest (lines ++ line ∷ []) (n + 1) next m (counted_more lines line n counted) (step_after lines n stage next line counted a one) onward) e

-- ---- the first bad line

found_not : (x : ℕ × Reported) (n : ℕ) (r : Result (ℕ × Reported) ℕ) → r ≡ Ok x → r ≡ Err n → ⊥
found_not x n r one none = cc

pub refused_line : (lines : List (List ℕ)) (m : ℕ) → reading 1 Before lines ≡ Err m → IsBadLine lines m
refused_line lines m e =
    let s = stops lines [] 1 Before m refl (All-nil IsOther) e in
    let before : m - 1 ≡ s.at = omega (arith, s.counted) in
    let upto : m ≡ suc s.at = omega (arith, s.counted) in
    let ended : IsReportAt (take s.at lines ++ s.begun.0) s.begun.1.0 s.begun.1.1 = read_stands [] (take s.at lines ++ s.begun.0) 1 Before s.begun.1 refl (All-nil IsOther) s.begun.2 in
    let begun : MayBecome (take s.at lines) = record { more = s.begun.0; becomes = record { first = s.begun.1.0; reported = s.begun.1.1; is = ended } } in
    record {
      counted = record { least = omega (arith, s.counted); most = omega (arith, s.counted, s.within) };
      begun = subst (λ k. MayBecome (take k lines)) (sym before) begun;
      bad = λ there may. let may : MayBecome (take (suc s.at) lines) = subst (λ k. MayBecome (take k lines)) upto may in
          found_not (may.becomes.first, may.becomes.reported) m (reading 1 Before (take (suc s.at) lines ++ may.more)) (stands_read (take (suc s.at) lines ++ may.more) may.becomes.first may.becomes.reported may.becomes.is)
          (s.bad (omega (arith, upto, there)) may.more);
      short = λ there has. found_not (has.first, has.reported) m (reading 1 Before lines) (stands_read lines has.first has.reported has.is) e;
    }

pub read_report_stands : (lines : List (List ℕ)) (x : ℕ × Reported) → reading 1 Before lines ≡ Ok x → IsReportAt lines x.0 x.1
read_report_stands lines x e = read_stands [] lines 1 Before x refl (All-nil IsOther) e
