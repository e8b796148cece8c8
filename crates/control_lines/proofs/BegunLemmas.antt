-- What is kept of a line says what the line says.
use denote.Ref.{Bor}
use Rattle.std.proofs.Common.{◌≡◌, ℕ, suc, ◌+◌, ◌<◌, ◌≤◌, ◌≢◌, refl, ap, arith, ◌∙◌, sym, subst, List, [], ◌∷◌, ◌++◌, length, take}
use Rattle.std.specs.Prelude.{Bool, true, false, ◌==◌, if◌then◌else◌, nat_lt, reverse, set, Option, Some, None, Err, MatchOption, unwrap_or}
use Rattle.std.proofs.lemmas.Bool.{lt-ltb, le-ltb, ltb-true, ltb-false}
use Rattle.std.proofs.lemmas.List.{length_push, length-reverse, reverse-reverse, reverse-append, take_all, take-append-le, take_more_set}
use Rattle.engine_model.specs.Lines.{without_return}
use Rattle.edit_script.specs.Reading.{Read, said}
use Rattle.edit_script.specs.declared.command.Command.{Command}
use Rattle.edit_script.specs.declared.refusal.LineRefusal.TheVariants.{Long}
use Rattle.control_lines.specs.Begun.{IsBegun, IsLast, bare}

-- ---- one byte more

pub more_of : (line kept : List ℕ) (many byte : ℕ) (more : Bool) → IsBegun line kept many more → many ≡ 4097 → IsBegun (line ++ byte ∷ []) kept many true
more_of line kept many byte more is full = record {
  front = is.front ∙ sym (take-append-le 4097 line (byte ∷ []) (omega (arith, is.many_are, full)));
  many_are = omega (arith, is.many_are, full, length_push line byte);
  more_are = sym (lt-ltb 4097 (length (line ++ byte ∷ [])) (omega (arith, is.many_are, full, length_push line byte)));
}

pub kept_of : (line kept : List ℕ) (many byte : ℕ) (more : Bool) → IsBegun line kept many more → many < 4097 → length kept ≡ 4097 →
    IsBegun (line ++ byte ∷ []) (set kept many byte) (many + 1) more
kept_of line kept many byte more is few long = record {
  front = take_more_set kept many byte (omega (arith, few, long)) ∙ ap (λ xs. xs ++ byte ∷ []) (is.front ∙ take_all 4097 line (omega (arith, is.many_are, few)))
      ∙ sym (take_all 4097 (line ++ byte ∷ []) (omega (arith, is.many_are, few, length_push line byte)));
  many_are = omega (arith, is.many_are, few, length_push line byte);
  more_are = is.more_are ∙ le-ltb 4097 (length line) (omega (arith, is.many_are, few)) ∙ sym (le-ltb 4097 (length (line ++ byte ∷ [])) (omega (arith, is.many_are, few, length_push line byte)));
}

-- ---- the line

-- it has more than can be kept,
pub more_is : (line kept : List ℕ) (many : ℕ) (more : Bool) → IsBegun line kept many more → more ≡ true → 4097 < length line
more_is line kept many more is full = ltb-true 4097 (length line) (sym is.more_are ∙ full)

-- or it is all kept
pub all_of : (line kept : List ℕ) (many : ℕ) (more : Bool) → IsBegun line kept many more → more ≡ false → take many kept ≡ line
all_of line kept many more is none = is.front ∙ take_all 4097 line (ltb-false 4097 (length line) (sym is.more_are ∙ none))

pub long_said : (line : List ℕ) → 4096 < length line → Err Long ≡ said line
long_said line long = let e : nat_lt 4096 (length line) ≡ true = lt-ltb 4096 (length line) long in rw e refl

-- a carriage return at most is dropped
bare_length : (back : List ℕ) → length back ≤ suc (length (without_return back))
bare_length [] = omega arith
bare_length (b ∷ back) = go (b == 13)
  where
    go : (c : Bool) → suc (length back) ≤ suc (length (if c then back else b ∷ back))
    go true = omega arith
    go false = omega arith

pub still_long : (line : List ℕ) → 4097 < length line → 4096 < length (bare line)
still_long line long = omega (arith, long, length-reverse line, length-reverse (without_return (reverse line)), bare_length (reverse line))

-- a carriage return at its end is dropped,
bare_return : (front : List ℕ) → bare (front ++ 13 ∷ []) ≡ front
bare_return front = ap (λ back. reverse (without_return back)) (reverse-append front (13 ∷ [])) ∙ reverse-reverse front

-- and nothing else
bare_same : (line : List ℕ) → ((front : List ℕ) → line ≢ front ++ 13 ∷ []) → bare line ≡ line
bare_same line other = go (reverse line) (sym (reverse-reverse line)) ∙ reverse-reverse line
  where
    go : (back : List ℕ) → line ≡ reverse back → reverse (without_return back) ≡ reverse back
    go [] same = refl
    go (b ∷ back) same = by_last (b == 13) refl
      where
        by_last : (c : Bool) → c ≡ (b == 13) → reverse (if c then back else b ∷ back) ≡ reverse (b ∷ back)
        by_last false e = refl
        by_last true e = let is : b ≡ 13 = grind (arith, e) in
            absurd (other (reverse back) (same ∙ reverse-append (b ∷ []) back ∙ ap (λ x. reverse back ++ x ∷ []) is))

-- so what is left of it once a return was taken from its end
pub bare_of : (line : List ℕ) (r : Option (Bor (List ℕ))) (whole : Bor (List ℕ)) → whole.now ≡ line →
    MatchOption r ((front : List ℕ) → line ≢ front ++ 13 ∷ []) (λ x. line ≡ x.now ++ 13 ∷ []) → (unwrap_or r whole).now ≡ bare line
bare_of line None whole same other = same ∙ sym (bare_same line other)
bare_of line (Some x) whole same stripped = sym (bare_return x.now) ∙ ap bare (sym stripped)

pub cut_of : (kept line : List ℕ) (r : Option (Bor (List ℕ))) → kept ≡ line → MatchOption r ((front : List ℕ) → kept ≢ front ++ 13 ∷ []) (λ x. kept ≡ x.now ++ 13 ∷ []) →
    MatchOption r ((front : List ℕ) → line ≢ front ++ 13 ∷ []) (λ x. line ≡ x.now ++ 13 ∷ [])
cut_of kept line r same cases = subst (λ xs. MatchOption r ((front : List ℕ) → xs ≢ front ++ 13 ∷ []) (λ x. xs ≡ x.now ++ 13 ∷ [])) same cases

-- ---- the last line

-- one byte at least is one that was begun
pub last_of : (line : List ℕ) (answer : Read Command) → 0 < length line → answer ≡ said line → IsLast line (Some answer)
last_of [] answer some says = absurd (omega (arith, some))
last_of (b ∷ line) answer some says = ap Some says

pub no_last : (line : List ℕ) → length line ≡ 0 → IsLast line None
no_last [] none = refl
no_last (b ∷ line) none = absurd (omega (arith, none))
