-- The text of a report has its lines: no line feed stands in one.
use Rattle.std.proofs.Common.{◌≡◌, ℕ, suc, ◌+◌, ◌^◌, ◌<◌, Bool, true, false, not, ◌==◌, List, [], ◌∷◌, ◌++◌, length, All, codes, decimal, refl, sym, ap, ◌∙◌, append-nil, eqb-true, arith}
use Rattle.std.specs.Char.{is_ascii_digit}
use Rattle.std.specs.List.{list_all}
use Rattle.std.proofs.lemmas.Bool.{true≢false}
use Rattle.std.proofs.lemmas.Fmt.{digits_decimal}
use Rattle.std.proofs.lemmas.List.Elements.{All-nil, All-cons, All-head, All-tail, All-append}
use Rattle.ses_units.specs.Bits.{bits_of}
use Rattle.ses_units.specs.declared.bits.Bits.{Bits}
use Rattle.ses_units.specs.declared.bits.Bits.TheVariants.{B16, B24}
use Rattle.session_model.specs.declared.edit.Edit.{Edit}
use Rattle.engine_model.specs.Journal.{Play, Silent, Heard, Short, Take, Off, Taken, Lost, Note, State, Stopped, Seeking, Rolling, Entry}
use Rattle.edit_script.specs.Words.{is_text}
use Rattle.edit_script.specs.Table.{word_of}
use Rattle.edit_script.specs.Printing.{verb_of, values_of, line_of_edit}
use Rattle.edit_script.specs.Laws.{IsSayable}
use Rattle.edit_script.proofs.NumberLemmas.{numerals, all_digits, left, right}
use Rattle.edit_script.proofs.PlainWords.{word_plain}
use Rattle.edit_script.proofs.SplitLemmas.{word_is_text, values_are_text}
use Rattle.cycle_journal.specs.declared.head.ReportHead.{ReportHead}
use Rattle.cycle_journal.specs.Report.{Reported, play_text, take_text, notes_text, state_text, first_line, format_line, edit_line, edit_lines, entry_line, entry_lines, end_line, report_lines, report}
use Rattle.report_reader.specs.Grammar.{IsHead, IsPlayed, IsTaken, IsNoted, IsState, IsEntry, IsReadable, IsLine}
use Rattle.report_reader.specs.Laws.{WrittenIsRead}
use Rattle.report_reader.proofs.StageLemmas.{IsOther}

-- ---- texts with no line feed

record HasNoFeed (text : List ℕ) : Type 0 where
  is : IsLine text

join_by : (a b : List ℕ) → IsLine a → IsLine b → IsLine (a ++ b)
join_by [] b p q = q
join_by (x ∷ a) b p q = rw (left (not (x == 10)) (list_all (λ b. not (b == 10)) a) p) (join_by a b (right (not (x == 10)) (list_all (λ b. not (b == 10)) a) p) q)

join : {a b : List ℕ} → HasNoFeed a → HasNoFeed b → HasNoFeed (a ++ b)
join {a} {b} p q = record { is = join_by a b p.is q.is }

word : (text : List ℕ) → IsLine text → HasNoFeed text
word text p = record { is = p }

-- bytes that keep a rule that a line feed doesn't
not_feed : (p : ℕ → Bool) (b : ℕ) (t : Bool) → p 10 ≡ false → p b ≡ true → (b == 10) ≡ t → not (b == 10) ≡ true
not_feed p b true never is feed = absurd (true≢false (sym is ∙ ap p (eqb-true b 10 feed) ∙ never))
not_feed p b false never is other = ap not other

ruled : (p : ℕ → Bool) (text : List ℕ) → p 10 ≡ false → list_all p text ≡ true → IsLine text
ruled p [] never all = refl
ruled p (b ∷ text) never all = rw (not_feed p b (b == 10) never (left (p b) (list_all p text) all) refl) (ruled p text never (right (p b) (list_all p text) all))

number : (n : ℕ) → n < 2 ^ 64 → HasNoFeed (decimal n)
number n small = record { is = ruled is_ascii_digit (decimal n) refl (all_digits (decimal n) ∙ digits_decimal numerals n small) }

blank : HasNoFeed (codes " ")
blank = record { is = refl }

dot : HasNoFeed (codes ".")
dot = record { is = refl }

-- ---- lines

play_line : (play : Play) → IsPlayed play → HasNoFeed (play_text play)
play_line Silent is = word (codes "-") refl
play_line (Heard touched) is = join (word (codes "h") refl) (number touched (omega (arith, is)))
play_line (Short tail) is = join (word (codes "s") refl) (number tail is)

take_line : (take : Take) → IsTaken take → HasNoFeed (take_text take)
take_line Off is = word (codes "-") refl
take_line (Taken take index) is = join (join (join (word (codes "t") refl) (number take (omega (arith, is.0.most)))) dot) (number index (omega (arith, is.1)))
take_line (Lost take index head) is = join (join (join (join (join (word (codes "l") refl) (number take (omega (arith, is.0.most)))) dot) (number index (omega (arith, is.1)))) dot) (number head is.2)

notes_line : (notes : List Note) → All IsNoted notes → HasNoFeed (notes_text notes)
notes_line [] is = word [] refl
notes_line (note ∷ notes) is = let one = All-head IsNoted note notes is in
    join (join blank (join (join (play_line note.play one.play) (word (codes "/") refl)) (take_line note.take one.take))) (notes_line notes (All-tail IsNoted note notes is))

state_line : (state : State) → IsState state → HasNoFeed (state_text state)
state_line Stopped is = word (codes "stopped") refl
state_line (Seeking track tail) is = join (join (join (word (codes "seeking ") refl) (number (track + 1) (omega (arith, is.0)))) blank) (number tail is.1)
state_line (Rolling generation seq) is = join (join (join (word (codes "rolling ") refl) (number generation (omega (arith, is.0)))) blank) (number seq (omega (arith, is.1)))

bits_small : (bits : Bits) → bits_of bits < 2 ^ 64
bits_small B16 = omega arith
bits_small B24 = omega arith

format_is_line : (h : ReportHead) → IsHead h → HasNoFeed (format_line h)
format_is_line h is =
    join (join (join (join (join (join (join (join (join (word (codes "format ") refl) (number h.rate (omega (arith, is.rate.most)))) blank) (number (bits_of h.bits) (bits_small h.bits))) blank)
    (number h.channels (omega (arith, is.channels.most)))) blank) (number h.block (omega (arith, is.block.most)))) blank) (number h.cycles (omega (arith, is.cycles.most)))

edit_text : (e : Edit) → IsSayable e → HasNoFeed (line_of_edit e)
edit_text e s = record { is = ruled is_text (line_of_edit e) refl (values_are_text (word_of (verb_of e)) (values_of e) s.words (word_is_text (word_of (verb_of e)) (word_plain (verb_of e)))) }

edit_is_line : (k : ℕ) (e : Edit) → k < 2 ^ 64 → IsSayable e → HasNoFeed (edit_line k e)
edit_is_line k e small s = join (join (join (word (codes "edit ") refl) (number k small)) blank) (edit_text e s)

entry_is_line : (c : ℕ) (e : Entry) → c < 2 ^ 64 → IsEntry e → HasNoFeed (entry_line c e)
entry_is_line c e small is =
    join (join (join (join (join (join (join (join (word (codes "cycle ") refl) (number c small)) blank) (number e.edition (omega (arith, is.edition)))) blank) (number e.settled (omega (arith, is.settled)))) blank)
    (state_line e.state is.state)) (notes_line e.notes is.notes)

edits_are_lines : (k : ℕ) (edits : List Edit) → k + length edits < 2 ^ 64 → All IsSayable edits → All IsLine (edit_lines k edits)
edits_are_lines k [] small is = All-nil IsLine
edits_are_lines k (e ∷ edits) small is =
    All-cons IsLine (edit_line k e) (edit_lines (suc k) edits) (edit_is_line k e (omega (arith, small)) (All-head IsSayable e edits is)).is (edits_are_lines (suc k) edits (omega (arith, small)) (All-tail IsSayable e edits is))

entries_are_lines : (c : ℕ) (entries : List Entry) → c + length entries < 2 ^ 64 → All IsEntry entries → All IsLine (entry_lines c entries)
entries_are_lines c [] small is = All-nil IsLine
entries_are_lines c (e ∷ entries) small is =
    All-cons IsLine (entry_line c e) (entry_lines (suc c) entries) (entry_is_line c e (omega (arith, small)) (All-head IsEntry e entries is)).is (entries_are_lines (suc c) entries (omega (arith, small)) (All-tail IsEntry e entries is))

lines_are : (r : Reported) → IsReadable r → All IsLine (report_lines r)
lines_are r is =
    let last = end_line (length r.entries) in
    let few : length r.entries < 1000000 = omega (arith, is.few, is.head.cycles.most) in
    let end : All IsLine (last ∷ []) = All-cons IsLine last [] (join (word (codes "end ") refl) (number (length r.entries) (omega (arith, few)))).is (All-nil IsLine) in
    let entries : All IsLine (entry_lines 1 r.entries ++ last ∷ []) = All-append IsLine (entry_lines 1 r.entries) (last ∷ []) (entries_are_lines 1 r.entries (omega (arith, few)) is.entries) end in
    let behind : All IsLine (edit_lines 1 r.edits ++ (entry_lines 1 r.entries ++ last ∷ [])) =
    All-append IsLine (edit_lines 1 r.edits) (entry_lines 1 r.entries ++ last ∷ []) (edits_are_lines 1 r.edits (omega (arith, is.few_edits)) is.edits) entries in
    All-cons IsLine first_line (format_line r.head ∷ edit_lines 1 r.edits ++ (entry_lines 1 r.entries ++ last ∷ [])) refl
    (All-cons IsLine (format_line r.head) (edit_lines 1 r.edits ++ (entry_lines 1 r.entries ++ last ∷ [])) (format_is_line r.head is.head).is behind)

pub written_is_read : WrittenIsRead
unfolding report
written_is_read r is = (
  record { is = sym (append-nil (report r)); lines_are = lines_are r is; rest_is = refl },
  record {
    readable = is;
    before = [];
    behind = [];
    is = sym (append-nil (report_lines r));
    counted = refl;
    skipped = All-nil IsOther;
  },
)
