-- A line whose line feed is among the bytes that wait is taken where it stands.
use Rattle.std.proofs.Common.{inl, ◌≡◌, ℕ, suc, ◌+◌, ◌-◌, ◌≤◌, ◌<◌, refl, ap, arith, ◌∙◌, sym, subst, List, [], ◌∷◌, ◌++◌, length, take, drop}
use Rattle.std.specs.List.{position_or_len}
use Rattle.std.specs.Prelude.{Bool, true, false, not, ◌&&◌, ◌==◌, cond, nat_lt, position, Option, Some, None, IfSome}
use Rattle.std.proofs.lemmas.Bool.{ltb-true}
use Rattle.std.proofs.lemmas.List.{append_assoc, length-append, drop-drop, drop-take}
use Rattle.ses_io.specs.Outside.{SourceOutside}
use Rattle.edit_script.specs.Reading.{Read, said}
use Rattle.edit_script.specs.declared.command.Command.{Command}
use Rattle.control_lines.specs.Begun.{IsCutAt, bare, has_no_feed}
use Rattle.control_lines.specs.Lines.{LinesState, TakesLine}

-- ---- the first line feed

at_front : (b : ℕ) (bytes : List ℕ) → true ≡ (b == 10) → IsCutAt 0 (b ∷ bytes)
at_front b bytes feed = record { within = omega arith; no_feed = refl; feed = ap (λ x. x ∷ bytes) (grind (arith, feed)) }

further : (b : ℕ) (bytes : List ℕ) (k : ℕ) → false ≡ (b == 10) → IsCutAt k bytes → IsCutAt (suc k) (b ∷ bytes)
further b bytes k other cut = record {
  within = omega (arith, cut.within);
  no_feed = subst (λ c. (not c && has_no_feed (take k bytes)) ≡ true) other cut.no_feed;
  feed = ap (λ xs. b ∷ xs) cut.feed;
}

found_at : (b : ℕ) (bytes : List ℕ) (rest : ℕ) (c : Bool) → c ≡ (b == 10) → (rest < length bytes → IsCutAt rest bytes) → cond (not c) (1 + rest) 0 < suc (length bytes) → IsCutAt (cond (not c) (1 + rest) 0) (b ∷ bytes)
found_at b bytes rest true feed first within = at_front b bytes feed
found_at b bytes rest false other first within = let one : suc rest ≡ 1 + rest = omega arith in
    subst (λ k. IsCutAt k (b ∷ bytes)) one (further b bytes rest other (first (omega (arith, within))))

first_feed : (bytes : List ℕ) → position_or_len (λ b. b == 10) bytes < length bytes → IsCutAt (position_or_len (λ b. b == 10) bytes) bytes
first_feed [] low = absurd (omega (arith, low))
first_feed (b ∷ bytes) low = found_at b bytes (position_or_len (λ x. x == 10) bytes) (b == 10) refl (first_feed bytes) low

pub cut_at : (bytes : List ℕ) (found : Option ℕ) → found ≡ position (λ b. b == 10) bytes → IfSome found (λ long. IsCutAt long bytes)
cut_at bytes found is = subst (λ r. IfSome r (λ long. IsCutAt long bytes)) (sym is) (go (nat_lt (position_or_len (λ b. b == 10) bytes) (length bytes)) refl)
  where
    first : ℕ
    first = position_or_len (λ b. b == 10) bytes

    go : (c : Bool) → c ≡ nat_lt first (length bytes) → IfSome (cond c (Some first) None) (λ long. IsCutAt long bytes)
    go true within = first_feed bytes (ltb-true first (length bytes) (sym within))
    go false none = tt

-- ---- the line before it

-- the bytes that wait in a piece, as they are borrowed
pub borrowed : (piece : List ℕ) (at end : ℕ) → at ≤ end → take (end - at) (drop at piece) ≡ drop at (take end piece)
borrowed piece at end order = sym (drop-take at (end - at) piece) ∙ ap (λ n. drop at (take n piece)) (omega (arith, order))

module _ {C : Type 0} (outside : SourceOutside C) where
  pub taken : (was : LinesState C) (source : C) (budget : ℕ) (kept waiting : List ℕ) (at long next : ℕ) (answer : Read Command) →
      record { source = source; waiting = drop at kept; budget = budget } ≡ was → waiting ≡ drop at kept → next ≡ at + (long + 1) → IsCutAt long waiting → answer ≡ said (bare (take long waiting)) →
      TakesLine outside was (Some answer) (record { source = source; waiting = drop next kept; budget = budget })
  taken was source budget kept waiting at long next answer same is on cut says = subst (λ s. TakesLine outside s (Some answer) (record { source = source; waiting = drop next kept; budget = budget })) same (inl record {
    line = take long waiting;
    no_feed = cut.no_feed;
    takes = record {
      allowed = omega (arith, ap length whole, length-append (take long waiting ++ 10 ∷ []) (drop next kept));
      next = λ t. ap (λ xs. xs ++ outside.left source) whole ∙ append_assoc (take long waiting ++ 10 ∷ []) (drop next kept) (outside.left source);
    };
    says = says;
  })
    where
      rest : drop (suc long) waiting ≡ drop next kept
      rest = ap (drop (suc long)) is ∙ drop-drop (suc long) at kept ∙ ap (λ n. drop n kept) (omega (arith, on))

      whole : drop at kept ≡ (take long waiting ++ 10 ∷ []) ++ drop next kept
      whole = sym is ∙ cut.feed ∙ ap (λ xs. take long waiting ++ 10 ∷ xs) rest ∙ sym (append_assoc (take long waiting) (10 ∷ []) (drop next kept))
