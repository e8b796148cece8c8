-- Lines that are read one after another.
use Rattle.std.proofs.Common.{inl, inr, ◌≡◌, ℕ, suc, ◌+◌, ◌≤◌, refl, ap, arith, ◌∙◌, sym, subst, List, [], ◌∷◌, ◌++◌, length, take, append_assoc, append-nil, length-append}
use Rattle.std.specs.Prelude.{Bool, true, false, map, Option, Some, None, Ok, Err}
use Rattle.std.proofs.lemmas.Bool.{false≢true, true≢false}
use Rattle.ses_io.specs.Faults.{risen}
use Rattle.ses_io.specs.Outside.{SourceOutside}
use Rattle.engine_model.specs.Lines.{Line}
use Rattle.edit_script.specs.Reading.{Read, said, line_of, read_line}
use Rattle.edit_script.specs.Laws.{ReadCanBeSaid, WaitsAreFew}
use Rattle.edit_script.specs.declared.command.Command.{Command}
use Rattle.edit_script.specs.declared.command.Command.TheVariants as command
use Rattle.control_lines.specs.Begun.{bare}
use Rattle.control_lines.specs.Lines.{LinesState, allowance, unread, to_come, Takes, TakesLine, TakesAFront, CutsLine}
use Rattle.control_desk.specs.State.{lines_in}
use Rattle.control_desk.specs.GoesOn.{ReadsLines}
use Rattle.control_desk.specs.Taking.{taken, IsLegal, AreLegal}
use Rattle.control_desk.proofs.CountLemmas.{counted_same, counted_fault, counted_on}

-- ---- bytes

first_taken : (front rest : List ℕ) (n : ℕ) → take (length front + n) (front ++ rest) ≡ front ++ take n rest
first_taken [] rest n = ap (λ k. take k rest) (omega arith)
first_taken (x ∷ front) rest n = let e : length (x ∷ front) + n ≡ suc (length front + n) = omega arith in
    ap (λ k. take k (x ∷ front ++ rest)) e ∙ ap (λ xs. x ∷ xs) (first_taken front rest n)

module _ {C : Type 0} (source : SourceOutside C) where
  takes_on : {xs ys : List ℕ} {a b c : LinesState C} → Takes source xs a b → Takes source ys b c → Takes source (xs ++ ys) a c
  takes_on {xs} {ys} {a} {b} {c} one two = record {
    allowed = omega (arith, one.allowed, two.allowed, length-append xs ys);
    next = λ t. one.next t ∙ ap (λ zs. xs ++ zs) (two.next t) ∙ sym (append_assoc xs ys (unread source c));
  }

  -- bytes that were taken were the first of those to come
  front_is : {bytes : List ℕ} {old new : LinesState C} → source.tells → Takes source bytes old new → to_come source old ≡ bytes ++ to_come source new
  front_is {bytes} {old} {new} tells takes = ap (λ n. take n (unread source old)) takes.allowed ∙ ap (take (length bytes + allowance new)) (takes.next tells)
      ∙ first_taken bytes (unread source new) (allowance new)

-- ---- one line

-- what is read of a line is what it says
read_is : (line : List ℕ) → read_line line ≡ line_of (said line)
unfolding read_line
read_is line = refl

legal_line : ReadCanBeSaid → WaitsAreFew → (line : List ℕ) (answer : Read Command) → answer ≡ said line → IsLegal (line_of answer)
legal_line said_again few line (Ok (command.Do edit)) is = (said_again line edit (read_is line ∙ ap line_of (sym is))).forms
legal_line said_again few line (Ok (command.Wait n)) is = few line n (read_is line ∙ ap line_of (sym is))
legal_line said_again few line (Ok command.Sync) is = tt
legal_line said_again few line (Ok command.Nothing) is = tt
legal_line said_again few line (Err why) is = tt

module _ {C : Type 0} (source : SourceOutside C) where
  -- of each line that is read so much is known
  pub legal_of : (old new : LinesState C) (answer : Option (Read Command)) → ReadCanBeSaid → WaitsAreFew → TakesLine source old answer new → AreLegal answer
  legal_of old new None said_again few took = tt
  legal_of old new (Some answer) said_again few (inl whole) = legal_line said_again few (bare whole.line) answer whole.says
  legal_of old new (Some answer) said_again few (inr last) = legal_line said_again few (last.byte ∷ last.line) answer last.says

  cut_by : (before after : List ℕ) (answer : Option (Read Command)) → CutsLine before answer after → before ≡ before → (answer ≡ None → after ≡ before) → lines_in before ≡ taken answer ++ lines_in after
  cut_by before after None cuts e same = ap lines_in (sym (same refl))
  cut_by before after (Some answer) cuts e same = ap (map read_line) cuts.2 ∙ ap (λ x. x ∷ lines_in after) (read_is cuts.0 ∙ ap line_of (sym cuts.1))

  bytes_of : (old new : LinesState C) (answer : Option (Read Command)) → TakesLine source old answer new →
      (bytes : List ℕ) × Takes source bytes old new × (answer ≡ None → bytes ≡ []) × (length (taken answer) ≤ length bytes)
  bytes_of old new None took = ([], took.0, λ e. refl, omega arith)
  bytes_of old new (Some answer) (inl whole) = (whole.line ++ 10 ∷ [], whole.takes, λ e. absurd cc, omega (arith, length-append whole.line (10 ∷ [])))
  bytes_of old new (Some answer) (inr last) = (last.byte ∷ last.line, last.takes, λ e. absurd cc, omega arith)

  -- a line was read, or none is left
  pub reads_next : (old new : LinesState C) (answer : Option (Read Command)) → TakesLine source old answer new →
      (source.tells → CutsLine (to_come source old) answer (to_come source new)) → source.faults new.source ≡ source.faults old.source →
      ReadsLines source (taken answer) old new false false
  reads_next old new answer took cuts same = let b = bytes_of old new answer took in record {
    bytes = b.0;
    some = b.3;
    lost = [];
    takes = subst (λ xs. Takes source xs old new) (sym (append-nil b.0)) b.1;
    no_feed = refl;
    none_lost = λ e. refl;
    none_waits = λ fine e. absurd (false≢true e);
    first = λ t. cut_by (to_come source old) (to_come source new) answer (cuts t) refl
        (λ none. sym (front_is source t b.1 ∙ ap (λ xs. xs ++ to_come source new) (b.2 none)));
    counted = counted_same (source.faults old.source) (source.faults new.source) false same;
  }

  -- a read failed
  pub reads_fault : (old new : LinesState C) → TakesAFront source old new → source.faults old.source ≤ source.faults new.source → risen (source.faults old.source) ≤ source.faults new.source →
      ReadsLines source [] old new false true
  reads_fault old new front later rose = record {
    bytes = [];
    some = omega arith;
    lost = front.line;
    takes = front.takes;
    no_feed = front.no_feed;
    none_lost = λ e. absurd cc;
    none_waits = λ fine e. front.none;
    first = λ t. ap lines_in (front_is source t front.takes);
    counted = counted_fault (source.faults old.source) (source.faults new.source) later rose;
  }

  -- nothing was read
  pub reads_none : (s : LinesState C) (was : Bool) → ReadsLines source [] s s was was
  reads_none s was = record {
    bytes = [];
    some = omega arith;
    lost = [];
    takes = record { allowed = omega arith; next = λ t. refl };
    no_feed = refl;
    none_lost = λ e. refl;
    none_waits = λ fine e. absurd (true≢false (sym e ∙ fine));
    first = λ t. refl;
    counted = counted_same (source.faults s.source) (source.faults s.source) was refl;
  }

  -- ---- one after another

  regrouped : (a x b y : List ℕ) → x ≡ [] → (a ++ x) ++ (b ++ y) ≡ (a ++ b) ++ y
  regrouped a x b y none = ap (λ xs. (a ++ xs) ++ (b ++ y)) none ∙ ap (λ xs. xs ++ (b ++ y)) (append-nil a) ∙ sym (append_assoc a b y)

  pub reads_on : (xs ys : List Line) (a b c : LinesState C) (was mid is : Bool) → ReadsLines source xs a b was mid → ReadsLines source ys b c mid is →
      (was ≡ true → mid ≡ true) → (mid ≡ true → (ys ≡ []) × (c ≡ b) × (is ≡ true)) → ReadsLines source (xs ++ ys) a c was is
  reads_on xs ys a b c was true is one two first over = let o = over refl in
      subst (λ i. ReadsLines source (xs ++ ys) a c was i) (sym o.2)
      (subst (λ s. ReadsLines source (xs ++ ys) a s was true) (sym o.1)
      (subst (λ zs. ReadsLines source zs a b was true) (sym (ap (λ zs. xs ++ zs) o.0 ∙ append-nil xs)) one))
  reads_on xs ys a b c was false is one two first over = record {
    bytes = one.bytes ++ two.bytes;
    some = omega (arith, one.some, two.some, length-append xs ys, length-append one.bytes two.bytes);
    lost = two.lost;
    takes = subst (λ zs. Takes source zs a c) (regrouped one.bytes one.lost two.bytes two.lost (one.none_lost refl)) (takes_on source one.takes two.takes);
    no_feed = two.no_feed;
    none_lost = two.none_lost;
    none_waits = λ fine e. two.none_waits refl e;
    first = λ t. one.first t ∙ ap (λ zs. xs ++ lines_in (zs ++ to_come source b)) (one.none_lost refl) ∙ ap (λ zs. xs ++ zs) (two.first t)
        ∙ sym (append_assoc xs ys (lines_in (two.lost ++ to_come source c)));
    counted = counted_on (source.faults a.source) (source.faults b.source) (source.faults c.source) was false is one.counted two.counted first (λ e. absurd cc);
  }
