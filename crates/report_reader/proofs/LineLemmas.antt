-- A line that is read is the line of what is read, and the line of each is read.
use Rattle.std.proofs.Common.{◌≡◌, ℕ, ◌^◌, ◌<◌, Bool, true, false, ◌==◌, List, [], ◌++◌, length, Option, Some, None, Ok, Err, is_some, codes, decimal, bytes_eq, refl, sym, ap, subst, ◌∙◌, append-nil, arith}
use Rattle.std.specs.Prelude.{if◌then◌else◌}
use Rattle.std.proofs.lemmas.Bool.{eqb-true}
use Rattle.std.proofs.lemmas.Option.{same_Some, cond_some}
use Rattle.std.proofs.lemmas.Slice.Eq.{bytes_eq-Decides}
use Rattle.ses_units.specs.Bits.{bits_of}
use Rattle.ses_units.specs.declared.bits.Bits.{Bits}
use Rattle.ses_units.specs.declared.bits.Bits.TheVariants.{B16, B24}
use Rattle.session_model.specs.declared.edit.Edit.{Edit}
use Rattle.session_model.specs.Formed.{IsBetween}
use Rattle.engine_model.specs.Journal.{Entry}
use Rattle.engine_model.specs.Lines.{Says}
use Rattle.engine_model.specs.Plain as plain
use Rattle.edit_script.specs.declared.command.Command.{Command}
use Rattle.edit_script.specs.declared.command.Command.TheVariants.{Do, Wait, Sync, Nothing}
use Rattle.edit_script.specs.Laws.{IsSayable}
use Rattle.edit_script.specs.Printing.{line_of_edit}
use Rattle.edit_script.specs.Reading.{Read, said, line_of, read_line}
use Rattle.edit_script.proofs.PrintLaws.{printed_is_read}
use Rattle.edit_script.proofs.ReadLaws.{read_can_be_said}
use Rattle.cycle_journal.specs.declared.head.ReportHead.{ReportHead}
use Rattle.cycle_journal.specs.Report.{state_text, notes_text, format_line, edit_line, entry_line, end_line}
use Rattle.report_reader.specs.Grammar.{IsHead, IsEntry}
use Rattle.report_reader.specs.Fields.{◌>>=◌, after, numbered}
use Rattle.report_reader.specs.Notes.{state_in, notes_in}
use Rattle.report_reader.specs.Lines.{whole, bits_in, format_in, canonical, edit_in, entry_in, is_end}
use Rattle.report_reader.proofs.FieldLemmas.{some_of, after_is, numbered_is, numbered_again}
use Rattle.report_reader.proofs.FlatLemmas.{flat3, flat8, flat10, joined4, joined9, joined10}
use Rattle.report_reader.proofs.NoteLemmas.{notes_end, notes_are, notes_again}
use Rattle.report_reader.proofs.NotesLoop.{no_bytes}
use Rattle.report_reader.proofs.StateLemmas.{state_is, state_again}

-- ---- the whole of a line

whole_some : {A : Type 0} (x y : A) (rest : List ℕ) → whole x rest ≡ Some y → (rest ≡ []) × (x ≡ y)
whole_some x y rest e = let g = cond_some (length rest == 0) x y e in (no_bytes rest g.0, g.1)

exactly : (k : ℕ) → IsBetween k k k
exactly k = record { least = omega arith; most = omega arith }

is_exact : (k n : ℕ) → IsBetween k n k → n ≡ k
is_exact k n between = omega (arith, between.least, between.most)

-- ---- the format line

bits_is : (n : ℕ) (bits : Bits) → bits_in n ≡ Some bits → n ≡ bits_of bits
bits_is n bits e = sixteen (n == 16) refl e
  where
    other : (b : Bool) → (n == 24) ≡ b → (if b then Some B24 else None) ≡ Some bits → n ≡ bits_of bits
    other true is e = eqb-true n 24 is ∙ ap bits_of (same_Some B24 bits e)
    other false is e = absurd (cc)

    sixteen : (b : Bool) → (n == 16) ≡ b → (if b then Some B16 else (if n == 24 then Some B24 else None)) ≡ Some bits → n ≡ bits_of bits
    sixteen true is e = eqb-true n 16 is ∙ ap bits_of (same_Some B16 bits e)
    sixteen false is e = other (n == 24) refl e

bits_again : (bits : Bits) → bits_in (bits_of bits) ≡ Some bits
bits_again B16 = refl
bits_again B24 = refl

bits_between : (bits : Bits) → IsBetween 16 (bits_of bits) 24
bits_between B16 = record { least = omega arith; most = omega arith }
bits_between B24 = record { least = omega arith; most = omega arith }

-- a line, as what it says
pub record IsFormat (line : List ℕ) (h : ReportHead) : Type 0 where
  pub is : line ≡ format_line h
  pub head : IsHead h

pub format_is : (line : List ℕ) (h : ReportHead) → format_in line ≡ Some h → IsFormat line h
unfolding format_in
format_is line h e =
    let a = some_of (numbered (codes "format ") 8000 192000 line) (λ rate. numbered (codes " ") 16 24 rate.1 >>= λ count. bits_in count.0 >>= λ bits. numbered (codes " ") 1 2 count.1 >>= λ channels.
    numbered (codes " ") 1 4096 channels.1 >>= λ block. numbered (codes " ") 1 100000 block.1 >>= λ cycles. whole (record { rate = rate.0; bits = bits; channels = channels.0; block = block.0; cycles = cycles.0 }) cycles.1) h e in
    let b = some_of (numbered (codes " ") 16 24 a.0.1) (λ count. bits_in count.0 >>= λ bits. numbered (codes " ") 1 2 count.1 >>= λ channels.
    numbered (codes " ") 1 4096 channels.1 >>= λ block. numbered (codes " ") 1 100000 block.1 >>= λ cycles. whole (record { rate = a.0.0; bits = bits; channels = channels.0; block = block.0; cycles = cycles.0 }) cycles.1) h a.2 in
    let c = some_of (bits_in b.0.0) (λ bits. numbered (codes " ") 1 2 b.0.1 >>= λ channels.
    numbered (codes " ") 1 4096 channels.1 >>= λ block. numbered (codes " ") 1 100000 block.1 >>= λ cycles. whole (record { rate = a.0.0; bits = bits; channels = channels.0; block = block.0; cycles = cycles.0 }) cycles.1) h b.2 in
    let d = some_of (numbered (codes " ") 1 2 b.0.1) (λ channels.
    numbered (codes " ") 1 4096 channels.1 >>= λ block. numbered (codes " ") 1 100000 block.1 >>= λ cycles. whole (record { rate = a.0.0; bits = c.0; channels = channels.0; block = block.0; cycles = cycles.0 }) cycles.1) h c.2 in
    let f = some_of (numbered (codes " ") 1 4096 d.0.1) (λ block. numbered (codes " ") 1 100000 block.1 >>= λ cycles. whole (record { rate = a.0.0; bits = c.0; channels = d.0.0; block = block.0; cycles = cycles.0 }) cycles.1) h d.2 in
    let g = some_of (numbered (codes " ") 1 100000 f.0.1) (λ cycles. whole (record { rate = a.0.0; bits = c.0; channels = d.0.0; block = f.0.0; cycles = cycles.0 }) cycles.1) h f.2 in
    let w = whole_some (record { rate = a.0.0; bits = c.0; channels = d.0.0; block = f.0.0; cycles = g.0.0 }) h g.0.1 g.2 in
    let na = numbered_is (codes "format ") 8000 192000 line a.0 a.1 in
    let nb = numbered_is (codes " ") 16 24 a.0.1 b.0 b.1 in
    let nd = numbered_is (codes " ") 1 2 b.0.1 d.0 d.1 in
    let nf = numbered_is (codes " ") 1 4096 d.0.1 f.0 f.1 in
    let ng = numbered_is (codes " ") 1 100000 f.0.1 g.0 g.1 in
    let count : decimal b.0.0 ≡ decimal (bits_of c.0) = ap decimal (bits_is b.0.0 c.0 c.1) in
    subst (IsFormat line) w.1 (record {
      is = joined10 line a.0.1 b.0.1 d.0.1 f.0.1 g.0.1 (codes "format ") (decimal a.0.0) (codes " ") (decimal (bits_of c.0)) (codes " ") (decimal d.0.0) (codes " ") (decimal f.0.0) (codes " ") (decimal g.0.0)
          na.0 (nb.0 ∙ ap (λ (x : List ℕ). codes " " ++ (x ++ b.0.1)) count) nd.0 nf.0 ng.0 w.0;
      head = record { rate = na.1; channels = nd.1; block = nf.1; cycles = ng.1 };
    })

pub format_again : (h : ReportHead) → IsHead h → format_in (format_line h) ≡ Some h
unfolding format_in
format_again h is =
    let nil = append-nil (decimal h.cycles) in
    ap format_in (flat10 (codes "format ") (decimal h.rate) (codes " ") (decimal (bits_of h.bits)) (codes " ") (decimal h.channels) (codes " ") (decimal h.block) (codes " ") (decimal h.cycles)
    ∙ ap (λ (x : List ℕ). codes "format " ++ (decimal h.rate ++ (codes " " ++ (decimal (bits_of h.bits) ++ (codes " " ++ (decimal h.channels ++ (codes " " ++ (decimal h.block ++ (codes " " ++ x))))))))) (sym nil))
    ∙ rw (
      numbered_again (codes "format ") 8000 192000 h.rate (codes " " ++ (decimal (bits_of h.bits) ++ (codes " " ++ (decimal h.channels ++ (codes " " ++ (decimal h.block ++ (codes " " ++ (decimal h.cycles ++ [])))))))) is.rate (omega (arith, is.rate.most)) refl,
      numbered_again (codes " ") 16 24 (bits_of h.bits) (codes " " ++ (decimal h.channels ++ (codes " " ++ (decimal h.block ++ (codes " " ++ (decimal h.cycles ++ [])))))) (bits_between h.bits) (omega (arith, (bits_between h.bits).most)) refl,
      bits_again h.bits,
      numbered_again (codes " ") 1 2 h.channels (codes " " ++ (decimal h.block ++ (codes " " ++ (decimal h.cycles ++ [])))) is.channels (omega (arith, is.channels.most)) refl,
      numbered_again (codes " ") 1 4096 h.block (codes " " ++ (decimal h.cycles ++ [])) is.block (omega (arith, is.block.most)) refl,
      numbered_again (codes " ") 1 100000 h.cycles [] is.cycles (omega (arith, is.cycles.most)) refl,
    ) refl

-- ---- the line of an entry

pub record IsEntryLine (c : ℕ) (line : List ℕ) (e : Entry) : Type 0 where
  pub is : line ≡ entry_line c e
  pub entry : IsEntry e

pub entry_is : (c : ℕ) (line : List ℕ) (e : Entry) → entry_in c line ≡ Some e → IsEntryLine c line e
unfolding entry_in
entry_is c line e read =
    let p = some_of (numbered (codes "cycle ") c c line) (λ number. numbered (codes " ") 0 10000 number.1 >>= λ edition. numbered (codes " ") 0 10000 edition.1 >>= λ settled. after (codes " ") settled.1 >>= λ text.
    state_in text >>= λ state. notes_in 32 state.1 >>= λ notes. Some (record { edition = edition.0; settled = settled.0; state = state.0; notes = notes })) e read in
    let q = some_of (numbered (codes " ") 0 10000 p.0.1) (λ edition. numbered (codes " ") 0 10000 edition.1 >>= λ settled. after (codes " ") settled.1 >>= λ text.
    state_in text >>= λ state. notes_in 32 state.1 >>= λ notes. Some (record { edition = edition.0; settled = settled.0; state = state.0; notes = notes })) e p.2 in
    let r = some_of (numbered (codes " ") 0 10000 q.0.1) (λ settled. after (codes " ") settled.1 >>= λ text.
    state_in text >>= λ state. notes_in 32 state.1 >>= λ notes. Some (record { edition = q.0.0; settled = settled.0; state = state.0; notes = notes })) e q.2 in
    let s = some_of (after (codes " ") r.0.1) (λ text. state_in text >>= λ state. notes_in 32 state.1 >>= λ notes. Some (record { edition = q.0.0; settled = r.0.0; state = state.0; notes = notes })) e r.2 in
    let t = some_of (state_in s.0) (λ state. notes_in 32 state.1 >>= λ notes. Some (record { edition = q.0.0; settled = r.0.0; state = state.0; notes = notes })) e s.2 in
    let u = some_of (notes_in 32 t.0.1) (λ notes. Some (record { edition = q.0.0; settled = r.0.0; state = t.0.0; notes = notes })) e t.2 in
    let np = numbered_is (codes "cycle ") c c line p.0 p.1 in
    let nq = numbered_is (codes " ") 0 10000 p.0.1 q.0 q.1 in
    let nr = numbered_is (codes " ") 0 10000 q.0.1 r.0 r.1 in
    let st = state_is s.0 t.0 t.1 in
    let ns = notes_are 32 t.0.1 u.0 u.1 in
    let number : p.0.0 ≡ c = is_exact c p.0.0 np.1 in
    let made : Entry = record { edition = q.0.0; settled = r.0.0; state = t.0.0; notes = u.0 } in
    subst (IsEntryLine c line) (same_Some made e u.2) (record {
      is = joined9 line p.0.1 q.0.1 r.0.1 s.0 t.0.1 (codes "cycle ") (decimal c) (codes " ") (decimal q.0.0) (codes " ") (decimal r.0.0) (codes " ") (state_text t.0.0) (notes_text u.0)
          (np.0 ∙ ap (λ k. codes "cycle " ++ (decimal k ++ p.0.1)) number) nq.0 nr.0 (after_is (codes " ") r.0.1 s.0 s.1) st.0 ns.is;
      entry = record { edition = nq.1.most; settled = nr.1.most; state = st.1; few = ns.few; notes = ns.noted };
    })

pub entry_again : (c : ℕ) (e : Entry) → c < 2 ^ 64 → IsEntry e → entry_in c (entry_line c e) ≡ Some e
unfolding entry_in
entry_again c e small is =
    ap (entry_in c) (flat8 (codes "cycle ") (decimal c) (codes " ") (decimal e.edition) (codes " ") (decimal e.settled) (codes " ") (state_text e.state) (notes_text e.notes))
    ∙ rw (
      numbered_again (codes "cycle ") c c c (codes " " ++ (decimal e.edition ++ (codes " " ++ (decimal e.settled ++ (codes " " ++ (state_text e.state ++ notes_text e.notes)))))) (exactly c) small refl,
      numbered_again (codes " ") 0 10000 e.edition (codes " " ++ (decimal e.settled ++ (codes " " ++ (state_text e.state ++ notes_text e.notes)))) (record { least = omega arith; most = is.edition }) (omega (arith, is.edition)) refl,
      numbered_again (codes " ") 0 10000 e.settled (codes " " ++ (state_text e.state ++ notes_text e.notes)) (record { least = omega arith; most = is.settled }) (omega (arith, is.settled)) refl,
      state_again e.state (notes_text e.notes) is.state (notes_end e.notes),
      notes_again 32 e.notes is.few is.notes,
    ) refl

-- ---- the line of an edit

canonical_is : (text : List ℕ) (r : Read Command) (e : Edit) → canonical text r ≡ Some e → (r ≡ Ok (Do e)) × (text ≡ line_of_edit e)
canonical_is text (Ok (Do f)) e read = let g = cond_some (bytes_eq (line_of_edit f) text) f e read in
    (ap (λ (x : Edit). Ok (Do x)) g.1, sym ((bytes_eq-Decides (line_of_edit f) text).0 g.0) ∙ ap line_of_edit g.1)
canonical_is text (Ok (Wait n)) e read = absurd (cc)
canonical_is text (Ok Sync) e read = absurd (cc)
canonical_is text (Ok Nothing) e read = absurd (cc)
canonical_is text (Err why) e read = absurd (cc)

sayable : (text : List ℕ) (e : Edit) → said text ≡ Ok (Do e) → IsSayable e
unfolding read_line
sayable text e read = read_can_be_said text e (ap line_of read)

says_edit : (r : Read Command) (e : Edit) → line_of r ≡ Says (plain.Do e) → r ≡ Ok (Do e)
says_edit (Ok (Do f)) e one = let same : f ≡ e = cc in ap (λ g. Ok (Do g)) same
says_edit (Ok (Wait n)) e one = absurd (cc)
says_edit (Ok Sync) e one = absurd (cc)
says_edit (Ok Nothing) e one = absurd (cc)
says_edit (Err why) e one = absurd (cc)

said_edit : (e : Edit) → IsSayable e → said (line_of_edit e) ≡ Ok (Do e)
unfolding read_line
said_edit e s = says_edit (said (line_of_edit e)) e (printed_is_read e s)

pub record IsEditLine (k : ℕ) (line : List ℕ) (e : Edit) : Type 0 where
  pub is : line ≡ edit_line k e
  pub edit : IsSayable e

pub edit_is : (k : ℕ) (line : List ℕ) (e : Edit) → edit_in k line ≡ Some e → IsEditLine k line e
unfolding edit_in
edit_is k line e read =
    let a = some_of (numbered (codes "edit ") k k line) (λ number. after (codes " ") number.1 >>= λ text. canonical text (said text)) e read in
    let b = some_of (after (codes " ") a.0.1) (λ text. canonical text (said text)) e a.2 in
    let c = canonical_is b.0 (said b.0) e b.2 in
    let n = numbered_is (codes "edit ") k k line a.0 a.1 in
    record {
      is = joined4 line a.0.1 b.0 (codes "edit ") (decimal k) (codes " ") (line_of_edit e) (n.0 ∙ ap (λ m. codes "edit " ++ (decimal m ++ a.0.1)) (is_exact k a.0.0 n.1)) (after_is (codes " ") a.0.1 b.0 b.1) c.1;
      edit = sayable b.0 e c.0;
    }

pub edit_again : (k : ℕ) (e : Edit) → k < 2 ^ 64 → IsSayable e → edit_in k (edit_line k e) ≡ Some e
unfolding edit_in
edit_again k e small is =
    ap (edit_in k) (flat3 (codes "edit ") (decimal k) (codes " ") (line_of_edit e))
    ∙ rw (numbered_again (codes "edit ") k k k (codes " " ++ line_of_edit e) (exactly k) small refl, said_edit e is, (bytes_eq-Decides (line_of_edit e) (line_of_edit e)).1 refl) refl

-- ---- the last line

is_there : {A : Type 0} (o : Option A) → is_some o ≡ true → (x : A) × (o ≡ Some x)
is_there (Some x) e = (x, refl)
is_there None e = absurd (cc)

pub end_is : (c : ℕ) (line : List ℕ) → is_end c line ≡ true → line ≡ end_line c
unfolding is_end
end_is c line e =
    let x = is_there (numbered (codes "end ") c c line >>= λ n. whole n.0 n.1) e in
    let a = some_of (numbered (codes "end ") c c line) (λ n. whole n.0 n.1) x.0 x.1 in
    let w = whole_some a.0.0 x.0 a.0.1 a.2 in
    let n = numbered_is (codes "end ") c c line a.0 a.1 in
    n.0 ∙ ap (λ m. codes "end " ++ (decimal m ++ a.0.1)) (is_exact c a.0.0 n.1) ∙ ap (λ (r : List ℕ). codes "end " ++ (decimal c ++ r)) w.0 ∙ ap (λ (r : List ℕ). codes "end " ++ r) (append-nil (decimal c))

pub end_again : (c : ℕ) → c < 2 ^ 64 → is_end c (end_line c) ≡ true
unfolding is_end
end_again c small =
    ap (λ (r : List ℕ). is_end c (codes "end " ++ r)) (sym (append-nil (decimal c))) ∙ ap (λ o. is_some (o >>= λ n. whole n.0 n.1)) (numbered_again (codes "end ") c c c [] (exactly c) small refl)
