-- The lines of a file, and its next line.
use Rattle.std.proofs.Common.{◌≡◌, ℕ, suc, ◌+◌, ◌<◌, ◌≤◌, Bool, true, false, not, ◌==◌, List, [], ◌∷◌, ◌++◌, length, take, drop, filter, All, refl, sym, ap, ◌∙◌, append_assoc, arith, eqb-true}
use Rattle.std.specs.Prelude.{if◌then◌else◌}
use Rattle.std.specs.List.{prefix_len, list_all}
use Rattle.std.proofs.lemmas.List.Elements.{All-nil, All-cons, All-head, All-tail}
use Rattle.std.proofs.lemmas.Bool.{true≢false}
use Rattle.edit_script.proofs.NumberLemmas.{left, right}
use Rattle.cycle_journal.specs.Report.{ended}
use Rattle.report_reader.specs.Grammar.{IsLine, IsCut}
use Rattle.report_reader.specs.Laws.{FilesAreCutOneWay}
use Rattle.report_reader.specs.Reading.{onto, cut, lines_of}

line_more : (b : ℕ) (line : List ℕ) → (b == 10) ≡ false → IsLine line → IsLine (b ∷ line)
line_more b line other is = rw other is

cut_more : (b : ℕ) (bytes : List ℕ) (lines : List (List ℕ)) (rest : List ℕ) → (b == 10) ≡ false → IsCut bytes lines rest → IsCut (b ∷ bytes) (onto b lines rest).0 (onto b lines rest).1
cut_more b bytes [] rest other c = record { is = ap (λ (l : List ℕ). b ∷ l) c.is; lines_are = All-nil IsLine; rest_is = line_more b rest other c.rest_is }
cut_more b bytes (line ∷ lines) rest other c = record {
  is = ap (λ (l : List ℕ). b ∷ l) c.is;
  lines_are = All-cons IsLine (b ∷ line) lines (line_more b line other (All-head IsLine line lines c.lines_are)) (All-tail IsLine line lines c.lines_are);
  rest_is = c.rest_is;
}

cut_at : (b : ℕ) (bytes : List ℕ) (lines : List (List ℕ)) (rest : List ℕ) (t : Bool) → (b == 10) ≡ t → IsCut bytes lines rest →
    IsCut (b ∷ bytes) (if t then ([] ∷ lines, rest) else onto b lines rest).0 (if t then ([] ∷ lines, rest) else onto b lines rest).1
cut_at b bytes lines rest true feed c = record {
  is = ap (λ (n : ℕ). n ∷ bytes) (eqb-true b 10 feed) ∙ ap (λ (l : List ℕ). 10 ∷ l) c.is;
  lines_are = All-cons IsLine [] lines refl c.lines_are;
  rest_is = c.rest_is;
}
cut_at b bytes lines rest false other c = cut_more b bytes lines rest other c

pub is_cut : (bytes : List ℕ) → IsCut bytes (cut bytes).0 (cut bytes).1
unfolding cut
is_cut [] = record { is = refl; lines_are = All-nil IsLine; rest_is = refl }
is_cut (b ∷ bytes) = cut_at b bytes (cut bytes).0 (cut bytes).1 (b == 10) refl (is_cut bytes)

-- ---- how many lines

onto_length : (b : ℕ) (lines : List (List ℕ)) (rest : List ℕ) → length (onto b lines rest).0 ≡ length lines
onto_length b [] rest = refl
onto_length b (line ∷ lines) rest = refl

counted : (b : ℕ) (bytes : List ℕ) (lines : List (List ℕ)) (rest : List ℕ) (t : Bool) → length (filter (λ b. b == 10) bytes) ≡ length lines →
    length (if t then b ∷ filter (λ b. b == 10) bytes else filter (λ b. b == 10) bytes) ≡ length (if t then ([] ∷ lines, rest) else onto b lines rest).0
counted b bytes lines rest true same = ap suc same
counted b bytes lines rest false same = same ∙ sym (onto_length b lines rest)

pub length_lines : (bytes : List ℕ) → length (filter (λ b. b == 10) bytes) ≡ length (lines_of bytes)
unfolding cut
length_lines [] = refl
length_lines (b ∷ bytes) = counted b bytes (cut bytes).0 (cut bytes).1 (b == 10) (length_lines bytes)

-- ---- the next line

-- how many bytes stand before the first line feed, or in all
abbrev before_feed : List ℕ → ℕ
before_feed bytes = prefix_len (λ b. not (b == 10)) bytes

onto_none : (b : ℕ) (lines : List (List ℕ)) (rest : List ℕ) → lines ≡ [] → (onto b lines rest).0 ≡ []
onto_none b lines rest is = ap (λ ls. (onto b ls rest).0) is

onto_one : (b : ℕ) (lines : List (List ℕ)) (rest line : List ℕ) (others : List (List ℕ)) → lines ≡ line ∷ others → (onto b lines rest).0 ≡ (b ∷ line) ∷ others
onto_one b lines rest line others is = ap (λ ls. (onto b ls rest).0) is

first_byte : (b : ℕ) (bytes : List ℕ) (t : Bool) → (b == 10) ≡ t → lines_of (b ∷ bytes) ≡ (if t then ([] ∷ (cut bytes).0, (cut bytes).1) else onto b (cut bytes).0 (cut bytes).1).0
unfolding cut
first_byte b bytes t is = ap (λ u. (if u then ([] ∷ (cut bytes).0, (cut bytes).1) else onto b (cut bytes).0 (cut bytes).1).0) is

no_line_at : (b : ℕ) (bytes : List ℕ) (t : Bool) → (b == 10) ≡ t → length (b ∷ bytes) ≤ before_feed (b ∷ bytes) → (length bytes ≤ before_feed bytes → lines_of bytes ≡ []) → lines_of (b ∷ bytes) ≡ []
no_line_at b bytes true feed all behind = let none : before_feed (b ∷ bytes) ≡ 0 = rw feed refl in absurd (omega (arith, all, none))
no_line_at b bytes false other all behind =
    let more : before_feed (b ∷ bytes) ≡ 1 + before_feed bytes = rw other refl in
    let rest : length bytes ≤ before_feed bytes = omega (arith, all, more) in
    first_byte b bytes false other ∙ onto_none b (cut bytes).0 (cut bytes).1 (behind rest)

no_line_by : (bytes : List ℕ) → length bytes ≤ before_feed bytes → lines_of bytes ≡ []
unfolding cut
no_line_by [] all = refl
no_line_by (b ∷ bytes) all = no_line_at b bytes (b == 10) refl all (no_line_by bytes)

pub no_line : (bytes : List ℕ) (k : ℕ) → k ≡ before_feed bytes → k ≡ length bytes → lines_of bytes ≡ []
no_line bytes k is all = no_line_by bytes (omega (arith, is, all))

-- the next line, and those behind it
abbrev HasNext : List ℕ → Type 0
HasNext bytes = lines_of bytes ≡ take (before_feed bytes) bytes ∷ lines_of (drop (before_feed bytes + 1) bytes)

next_line_at : (b : ℕ) (bytes : List ℕ) (t : Bool) → (b == 10) ≡ t → before_feed (b ∷ bytes) < length (b ∷ bytes) → (before_feed bytes < length bytes → HasNext bytes) → HasNext (b ∷ bytes)
next_line_at b bytes true feed some behind =
    let none : before_feed (b ∷ bytes) ≡ 0 = rw feed refl in
    let first : lines_of (b ∷ bytes) ≡ [] ∷ lines_of bytes = first_byte b bytes true feed in
    first ∙ ap (λ n. take n (b ∷ bytes) ∷ lines_of (drop (n + 1) (b ∷ bytes))) (sym none)
next_line_at b bytes false other some behind =
    let more : before_feed (b ∷ bytes) ≡ suc (before_feed bytes) = rw other (omega arith) in
    let fewer : before_feed bytes < length bytes = omega (arith, some, more) in
    let first : lines_of (b ∷ bytes) ≡ (onto b (cut bytes).0 (cut bytes).1).0 = first_byte b bytes false other in
    let one : suc (before_feed bytes) + 1 ≡ suc (before_feed bytes + 1) = omega arith in
    first ∙ onto_one b (cut bytes).0 (cut bytes).1 (take (before_feed bytes) bytes) (lines_of (drop (before_feed bytes + 1) bytes)) (behind fewer)
    ∙ ap (λ n. (b ∷ take (before_feed bytes) bytes) ∷ lines_of (drop n (b ∷ bytes))) (sym one)
    ∙ ap (λ n. take n (b ∷ bytes) ∷ lines_of (drop (n + 1) (b ∷ bytes))) (sym more)

next_line_by : (bytes : List ℕ) → before_feed bytes < length bytes → HasNext bytes
next_line_by [] some = absurd (omega (arith, some))
next_line_by (b ∷ bytes) some = next_line_at b bytes (b == 10) refl some (next_line_by bytes)

pub next_line : (bytes : List ℕ) (k : ℕ) → k ≡ before_feed bytes → k < length bytes → lines_of bytes ≡ take k bytes ∷ lines_of (drop (k + 1) bytes)
next_line bytes k is some =
    next_line_by bytes (omega (arith, is, some)) ∙ ap (λ n. take n bytes ∷ lines_of (drop (n + 1) bytes)) (sym is)

-- ---- one way

pub not_a_feed : (b : ℕ) (t : Bool) → (b == 10) ≡ t → not (b == 10) ≡ true → (b == 10) ≡ false
not_a_feed b true feed is = absurd (true≢false (sym is ∙ ap not feed))
not_a_feed b false other is = other

other_byte : (b : ℕ) (bytes : List ℕ) (lines : List (List ℕ)) (rest : List ℕ) → (b == 10) ≡ false → cut bytes ≡ (lines, rest) → cut (b ∷ bytes) ≡ onto b lines rest
unfolding cut
other_byte b bytes lines rest other is =
    ap (λ t. if t then ([] ∷ (cut bytes).0, (cut bytes).1) else onto b (cut bytes).0 (cut bytes).1) other ∙ ap (λ (p : List (List ℕ) × List ℕ). onto b p.0 p.1) is

head_of : (b : ℕ) (line : List ℕ) → IsLine (b ∷ line) → (b == 10) ≡ false
head_of b line is = not_a_feed b (b == 10) refl (left (not (b == 10)) (list_all (λ b. not (b == 10)) line) is)

tail_of : (b : ℕ) (line : List ℕ) → IsLine (b ∷ line) → IsLine line
tail_of b line is = right (not (b == 10)) (list_all (λ b. not (b == 10)) line) is

cut_line : (line bytes : List ℕ) (lines : List (List ℕ)) (rest : List ℕ) → IsLine line → cut bytes ≡ (lines, rest) → cut (line ++ 10 ∷ bytes) ≡ (line ∷ lines, rest)
unfolding cut
cut_line [] bytes lines rest is behind = ap (λ (p : List (List ℕ) × List ℕ). ([] ∷ p.0, p.1)) behind
cut_line (b ∷ line) bytes lines rest is behind = other_byte b (line ++ 10 ∷ bytes) (line ∷ lines) rest (head_of b line is) (cut_line line bytes lines rest (tail_of b line is) behind)

cut_rest : (rest : List ℕ) → IsLine rest → cut rest ≡ ([], rest)
unfolding cut
cut_rest [] is = refl
cut_rest (b ∷ rest) is = other_byte b rest [] rest (head_of b rest is) (cut_rest rest (tail_of b rest is))

cut_ended : (lines : List (List ℕ)) (rest : List ℕ) → All IsLine lines → IsLine rest → cut (ended lines ++ rest) ≡ (lines, rest)
cut_ended [] rest all is = cut_rest rest is
cut_ended (line ∷ lines) rest all is =
    ap cut (append_assoc line (10 ∷ ended lines) rest) ∙ cut_line line (ended lines ++ rest) lines rest (All-head IsLine line lines all) (cut_ended lines rest (All-tail IsLine line lines all) is)

pub cut_one_way : FilesAreCutOneWay
cut_one_way bytes lines others rest left c d =
    let same : (lines, rest) ≡ (others, left) = sym (cut_ended lines rest c.lines_are c.rest_is) ∙ ap cut (sym c.is ∙ d.is) ∙ cut_ended others left d.lines_are d.rest_is in
    (ap (λ (p : List (List ℕ) × List ℕ). p.0) same, ap (λ (p : List (List ℕ) × List ℕ). p.1) same)

-- ---- no more lines than bytes

onto_few : (b : ℕ) (lines : List (List ℕ)) (rest : List ℕ) (n : ℕ) → length lines ≤ n → length (onto b lines rest).0 ≤ suc n
onto_few b lines rest n few = omega (arith, onto_length b lines rest, few)

few_at : (b : ℕ) (lines : List (List ℕ)) (rest : List ℕ) (n : ℕ) (t : Bool) → length lines ≤ n → length (if t then ([] ∷ lines, rest) else onto b lines rest).0 ≤ suc n
few_at b lines rest n true few = omega (arith, few)
few_at b lines rest n false few = onto_few b lines rest n few

pub few_lines : (bytes : List ℕ) → length (lines_of bytes) ≤ length bytes
unfolding cut
few_lines [] = omega arith
few_lines (b ∷ bytes) = few_at b (cut bytes).0 (cut bytes).1 (length bytes) (b == 10) (few_lines bytes)
