-- The line that was taken is the first of the lines that the bytes make.
use Rattle.std.proofs.Common.{◌≡◌, ℕ, suc, ◌+◌, refl, ap, arith, ◌∙◌, sym, List, [], ◌∷◌, ◌++◌, length, take, inl, inr}
use Rattle.std.specs.Prelude.{Bool, true, false, not, ◌&&◌, ◌==◌, if◌then◌else◌, reverse, Option, Some, None}
use Rattle.std.proofs.lemmas.List.{append-nil, append_assoc, reverse-append, reverse-reverse}
use Rattle.ses_io.specs.Outside.{SourceOutside}
use Rattle.engine_model.specs.Lines.{without_return, lines_from}
use Rattle.edit_script.specs.Reading.{Read}
use Rattle.edit_script.specs.declared.command.Command.{Command}
use Rattle.control_lines.specs.Begun.{bare, has_no_feed}
use Rattle.control_lines.specs.Lines.{LinesState, allowance, unread, to_come, Takes, TakesLine, SaysWhole, SaysLast, CutsLine}

-- ---- lists of bytes

turned : (x : ℕ) (line back : List ℕ) → reverse (x ∷ line) ++ back ≡ reverse line ++ x ∷ back
turned x line back = ap (λ xs. xs ++ back) (reverse-append (x ∷ []) line) ∙ append_assoc (reverse line) (x ∷ []) back

-- a byte that is no line feed is in the line
on_from : (x : ℕ) (back bytes : List ℕ) → not (x == 10) ≡ true → lines_from back (x ∷ bytes) ≡ lines_from (x ∷ back) bytes
on_from x [] bytes other = go (x == 10) other
  where
    go : (b : Bool) → not b ≡ true → (if b then reverse (without_return []) ∷ lines_from [] bytes else lines_from (x ∷ []) bytes) ≡ lines_from (x ∷ []) bytes
    go false e = refl
    go true e = absurd cc
on_from x (y ∷ back) bytes other = go (x == 10) other
  where
    go : (b : Bool) → not b ≡ true → (if b then reverse (without_return (y ∷ back)) ∷ lines_from [] bytes else lines_from (x ∷ y ∷ back) bytes) ≡ lines_from (x ∷ y ∷ back) bytes
    go false e = refl
    go true e = absurd cc

-- a line feed ends it
at_feed : (back rest : List ℕ) → lines_from back (10 ∷ rest) ≡ reverse (without_return back) ∷ lines_from [] rest
at_feed [] rest = refl
at_feed (y ∷ back) rest = refl

-- and so does the end
at_end : (y : ℕ) (back : List ℕ) → lines_from (y ∷ back) [] ≡ reverse (y ∷ back) ∷ []
at_end y back = refl

and_one : (b c : Bool) → (b && c) ≡ true → b ≡ true
and_one true c e = refl
and_one false c e = absurd cc

and_two : (b c : Bool) → (b && c) ≡ true → c ≡ true
and_two true c e = e
and_two false c e = absurd cc

whole_from : (line back rest : List ℕ) → has_no_feed line ≡ true → lines_from back (line ++ 10 ∷ rest) ≡ reverse (without_return (reverse line ++ back)) ∷ lines_from [] rest
whole_from [] back rest none = at_feed back rest
whole_from (x ∷ line) back rest none = on_from x back (line ++ 10 ∷ rest) (and_one (not (x == 10)) (has_no_feed line) none)
    ∙ whole_from line (x ∷ back) rest (and_two (not (x == 10)) (has_no_feed line) none)
    ∙ ap (λ xs. reverse (without_return xs) ∷ lines_from [] rest) (sym (turned x line back))

last_from : (line : List ℕ) (y : ℕ) (back : List ℕ) → has_no_feed line ≡ true → lines_from (y ∷ back) line ≡ reverse (reverse line ++ y ∷ back) ∷ []
last_from [] y back none = at_end y back
last_from (x ∷ line) y back none = on_from x (y ∷ back) line (and_one (not (x == 10)) (has_no_feed line) none)
    ∙ last_from line x (y ∷ back) (and_two (not (x == 10)) (has_no_feed line) none)
    ∙ ap (λ xs. reverse xs ∷ []) (sym (turned x line (y ∷ back)))

first_taken : (front rest : List ℕ) (n : ℕ) → take (length front + n) (front ++ rest) ≡ front ++ take n rest
first_taken [] rest n = ap (λ k. take k rest) (omega arith)
first_taken (x ∷ front) rest n = let e : length (x ∷ front) + n ≡ suc (length front + n) = omega arith in
    ap (λ k. take k (x ∷ front ++ rest)) e ∙ ap (λ xs. x ∷ xs) (first_taken front rest n)

-- ---- what was taken

module _ {C : Type 0} (outside : SourceOutside C) (tells : outside.tells) where
  front_is : {bytes : List ℕ} {old new : LinesState C} → Takes outside bytes old new → to_come outside old ≡ bytes ++ to_come outside new
  front_is {bytes} {old} {new} takes = ap (λ n. take n (unread outside old)) takes.allowed ∙ ap (take (length bytes + allowance new)) (takes.next tells)
      ∙ first_taken bytes (unread outside new) (allowance new)

  by_whole : {old new : LinesState C} {answer : Read Command} → SaysWhole outside old answer new → CutsLine (to_come outside old) (Some answer) (to_come outside new)
  by_whole {old} {new} whole = (
    bare whole.line,
    whole.says,
    ap (lines_from []) (front_is whole.takes ∙ append_assoc whole.line (10 ∷ []) (to_come outside new))
        ∙ whole_from whole.line [] (to_come outside new) whole.no_feed
        ∙ ap (λ xs. reverse (without_return xs) ∷ lines_from [] (to_come outside new)) (append-nil (reverse whole.line)),
  )

  by_last : {old new : LinesState C} {answer : Read Command} → SaysLast outside old answer new → CutsLine (to_come outside old) (Some answer) (to_come outside new)
  by_last {old} {new} last = (
    last.byte ∷ last.line,
    last.says,
    ap (lines_from []) (front_is last.takes ∙ ap (λ xs. (last.byte ∷ last.line) ++ xs) (last.last tells) ∙ append-nil (last.byte ∷ last.line))
        ∙ on_from last.byte [] last.line (and_one (not (last.byte == 10)) (has_no_feed last.line) last.no_feed)
        ∙ last_from last.line last.byte [] (and_two (not (last.byte == 10)) (has_no_feed last.line) last.no_feed)
        ∙ ap (λ xs. reverse xs ∷ []) (sym (reverse-append (last.byte ∷ []) last.line))
        ∙ ap (λ xs. xs ∷ []) (reverse-reverse (last.byte ∷ last.line))
        ∙ ap (λ xs. (last.byte ∷ last.line) ∷ lines_from [] xs) (sym (last.last tells)),
  )

  pub cuts_of : (old new : LinesState C) (answer : Option (Read Command)) → TakesLine outside old answer new → CutsLine (to_come outside old) answer (to_come outside new)
  cuts_of old new None took = ap (lines_from []) (took.1 tells)
  cuts_of old new (Some answer) (inl whole) = by_whole whole
  cuts_of old new (Some answer) (inr last) = by_last last
