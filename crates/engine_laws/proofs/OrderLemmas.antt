-- What the order of a list says of any two of its items.
use Rattle.std.proofs.Common.{◌≡◌, ℕ, ◌<◌, ◌≤◌, inl, inr, List, [], ◌∷◌, length, refl, sym, subst, arith, ◌∙◌}
use Rattle.std.specs.Prelude.{Bool, true, false, ◌&&◌, ◌||◌, nat_lt, nat_le, nat_eq}
use Rattle.std.specs.List.{list_all}
use Rattle.std.proofs.lemmas.Bool.{and_parts, or_cases, eqb-true, cases_lt, true≢false}
use Rattle.session_model.specs.declared.edit.Edit.{Edit}
use Rattle.session_model.specs.declared.session.Session.{Session}
use Rattle.engine_model.specs.Edits.{generation, playlist_edition}
use Rattle.engine_model.specs.Items.{Blank, Kind, Piece, Settled, among, blocks, newest}
use Rattle.engine_model.specs.Order.{is_ordered_newest, may_follow, precedes_mark, precedes_piece}
use Rattle.engine_laws.specs.Kept.{is_from}

pub all_at : (p : ℕ → Bool) (xs : List ℕ) (s : ℕ) → list_all p xs ≡ true → among s xs ≡ true → p s ≡ true
all_at p [] s h m = absurd (grind (arith, m))
all_at p (x ∷ xs) s h m = let parts = and_parts (p x) (list_all p xs) h in
    elim (or_cases (nat_eq x s) (among s xs) m) [ inl e ↦ subst (λ n. p n ≡ true) (eqb-true x s e) parts.0 | inr e ↦ all_at p xs s parts.1 e ]

-- the parts of what a piece asks, and of what a mark asks
pub parts6 : (a b c d e f : Bool) → a && b && c && d && e && f ≡ true → (d ≡ true) × (e ≡ true) × (f ≡ true)
parts6 a b c d e f h = let one = and_parts (a && b && c && d && e) f h in let two = and_parts (a && b && c && d) e one.0 in ((and_parts (a && b && c) d two.0).1, two.1, one.1)

pub parts4 : (a b c d : Bool) → a && b && c && d ≡ true → (c ≡ true) × (d ≡ true)
parts4 a b c d h = let one = and_parts (a && b && c) d h in ((and_parts (a && b) c one.0).1, one.1)

pub piece_parts : (session : Session) (edits : List Edit) (t u g s p : ℕ) (xs : List Kind) → may_follow session edits t xs (Piece u g s p) ≡ true →
    (list_all (precedes_piece session edits t g p) xs ≡ true) × (among s (blocks g xs) || list_all (λ r. nat_lt r s) (blocks g xs) ≡ true) × (list_all (λ r. nat_le r s || nat_le p (newest g r xs)) (blocks g xs) ≡ true)
piece_parts session edits t u g s p xs h = parts6 (nat_eq u t) (nat_eq p (playlist_edition session edits t p)) (nat_le g (generation edits (length edits)))
    (list_all (precedes_piece session edits t g p) xs) (among s (blocks g xs) || list_all (λ r. nat_lt r s) (blocks g xs)) (list_all (λ r. nat_le r s || nat_le p (newest g r xs)) (blocks g xs)) h

pub mark_parts : (session : Session) (edits : List Edit) (t k g s : ℕ) (xs : List Kind) → may_follow session edits t xs (Settled k g s) ≡ true →
    (list_all (precedes_mark k g) xs ≡ true) × (list_all (λ r. nat_lt r s || nat_le (playlist_edition session edits t k) (newest g r xs)) (blocks g xs) ≡ true)
mark_parts session edits t k g s xs h = parts4 (nat_le k (length edits)) (nat_eq g (generation edits k)) (list_all (precedes_mark k g) xs) (list_all (λ r. nat_lt r s || nat_le (playlist_edition session edits t k) (newest g r xs)) (blocks g xs)) h

-- whether a mark stands in a list
abbrev pub holds_mark : ℕ → ℕ → ℕ → List Kind → Bool
holds_mark k g s [] = false
holds_mark k g s (Settled j h r ∷ xs) = (nat_eq j k && nat_eq h g && nat_eq r s) || holds_mark k g s xs
holds_mark k g s (x ∷ xs) = holds_mark k g s xs

-- no item of a later generation stands before
none_later : (k h g : ℕ) (xs : List Kind) (s : ℕ) → list_all (precedes_mark k h) xs ≡ true → h < g → among s (blocks g xs) ≡ false
none_later k h g [] s e lt = refl
none_later k h g (Piece u i r p ∷ xs) s e lt = grind (arith, e, none_later k h g xs s)
none_later k h g (Settled j i r ∷ xs) s e lt = grind (arith, e, none_later k h g xs s)
none_later k h g (Blank ∷ xs) s e lt = none_later k h g xs s e lt

-- a piece after a mark has touched at least what the mark says
after_mark : (session : Session) (edits : List Edit) (t k h s0 g p : ℕ) (xs : List Kind) → list_all (precedes_piece session edits t g p) xs ≡ true → holds_mark k h s0 xs ≡ true → playlist_edition session edits t k ≤ p
after_mark session edits t k h s0 g p [] e m = absurd (grind (arith, m))
after_mark session edits t k h s0 g p (Piece u i r q ∷ xs) e m = grind (arith, e, m, after_mark session edits t k h s0 g p xs)
after_mark session edits t k h s0 g p (Settled j i r ∷ xs) e m = grind (arith, e, m, after_mark session edits t k h s0 g p xs)
after_mark session edits t k h s0 g p (Blank ∷ xs) e m = after_mark session edits t k h s0 g p xs e m

-- what a mark says of the pieces before it
pub this_mark : (session : Session) (edits : List Edit) (t k h s0 g s : ℕ) (xs : List Kind) → list_all (precedes_mark k h) xs ≡ true → list_all (λ r. nat_lt r s0 || nat_le (playlist_edition session edits t k) (newest h r xs)) (blocks h xs) ≡ true →
    h ≤ g → (h ≡ g → s0 ≤ s) → among s (blocks g xs) ≡ true → playlist_edition session edits t k ≤ newest g s xs
this_mark session edits t k h s0 g s xs e d le f a = elim (cases_lt h g) [
  | inl lt ↦ absurd (true≢false (sym a ∙ none_later k h g xs s e lt))
  | inr ge ↦ let same : h ≡ g = omega arith in
      let here = all_at (λ r. nat_lt r s0 || nat_le (playlist_edition session edits t k) (newest h r xs)) (blocks h xs) s d (subst (λ x. among s (blocks x xs) ≡ true) (sym same) a) in
      subst (λ x. playlist_edition session edits t k ≤ newest x s xs) same (grind (arith, here, f same))
]

-- a mark stands for all that it is in force for: the newest piece of each such place has touched at least what the mark says
pub mark_holds : (session : Session) (edits : List Edit) (t k h s0 g s : ℕ) (xs : List Kind) → is_ordered_newest session edits t xs ≡ true → holds_mark k h s0 xs ≡ true →
    h ≤ g → (h ≡ g → s0 ≤ s) → among s (blocks g xs) ≡ true → playlist_edition session edits t k ≤ newest g s xs
mark_holds session edits t k h s0 g s [] o m le f a = absurd (grind (arith, m))
mark_holds session edits t k h s0 g s (Piece u i r p ∷ xs) o m le f a = let step = and_parts (may_follow session edits t xs (Piece u i r p)) (is_ordered_newest session edits t xs) o in
    grind (arith, a, after_mark session edits t k h s0 i p xs (piece_parts session edits t u i r p xs step.0).0 m, mark_holds session edits t k h s0 g s xs step.1 m le f)
mark_holds session edits t k h s0 g s (Settled j i r ∷ xs) o m le f a = let step = and_parts (may_follow session edits t xs (Settled j i r)) (is_ordered_newest session edits t xs) o in
    let both = mark_parts session edits t j i r xs step.0 in
    elim (or_cases (nat_eq j k && nat_eq i h && nat_eq r s0) (holds_mark k h s0 xs) m) [
      | inl e ↦ let one = and_parts (nat_eq j k && nat_eq i h) (nat_eq r s0) e in let two = and_parts (nat_eq j k) (nat_eq i h) one.0 in
          let jk = eqb-true j k two.0 in let ih = eqb-true i h two.1 in let rs = eqb-true r s0 one.1 in
          subst (λ n. playlist_edition session edits t n ≤ newest g s xs) jk
          (this_mark session edits t j i r g s xs both.0 both.1 (subst (λ n. n ≤ g) (sym ih) le) (λ x. subst (λ n. n ≤ s) (sym rs) (f (sym ih ∙ x))) a)
      | inr e ↦ mark_holds session edits t k h s0 g s xs step.1 e le f a
    ]
mark_holds session edits t k h s0 g s (Blank ∷ xs) o m le f a = mark_holds session edits t k h s0 g s xs o m le f a

pub newest_low : (session : Session) (edits : List Edit) (t g p h r : ℕ) (xs : List Kind) → list_all (precedes_piece session edits t g p) xs ≡ true → newest h r xs ≤ p
newest_low session edits t g p h r [] e = grind arith
newest_low session edits t g p h r (Piece u i q n ∷ xs) e = grind (arith, e, newest_low session edits t g p h r xs)
newest_low session edits t g p h r (Settled j i q ∷ xs) e = grind (arith, e, newest_low session edits t g p h r xs)
newest_low session edits t g p h r (Blank ∷ xs) e = newest_low session edits t g p h r xs e

-- in a generation the newest touched numbers never fall along seq
pub newest_rises : (session : Session) (edits : List Edit) (t g r s : ℕ) (xs : List Kind) → is_ordered_newest session edits t xs ≡ true → r ≤ s →
    among r (blocks g xs) ≡ true → among s (blocks g xs) ≡ true → newest g r xs ≤ newest g s xs
newest_rises session edits t g r s [] o le a b = absurd (grind (arith, a))
newest_rises session edits t g r s (Piece u i q p ∷ xs) o le a b = let step = and_parts (may_follow session edits t xs (Piece u i q p)) (is_ordered_newest session edits t xs) o in
    let parts = piece_parts session edits t u i q p xs step.0 in
    let above : among s (blocks i xs) ≡ true → nat_le s q || nat_le p (newest i s xs) ≡ true = all_at (λ r. nat_le r q || nat_le p (newest i r xs)) (blocks i xs) s parts.2 in
    grind (arith, a, b, above, newest_low session edits t i p g r xs parts.0, newest_rises session edits t g r s xs step.1 le)
newest_rises session edits t g r s (Settled j i q ∷ xs) o le a b = newest_rises session edits t g r s xs (and_parts (may_follow session edits t xs (Settled j i q)) (is_ordered_newest session edits t xs) o).1 le a b
newest_rises session edits t g r s (Blank ∷ xs) o le a b = newest_rises session edits t g r s xs o le a b

-- no newest touched number is above the edition that the butler serves
pub newest_from : (session : Session) (edits : List Edit) (t k g s : ℕ) (xs : List Kind) → list_all (is_from session edits t k) xs ≡ true → newest g s xs ≤ playlist_edition session edits t k
newest_from session edits t k g s [] e = grind arith
newest_from session edits t k g s (Piece u i q n ∷ xs) e = grind (arith, e, newest_from session edits t k g s xs)
newest_from session edits t k g s (Settled j i q ∷ xs) e = grind (arith, e, newest_from session edits t k g s xs)
newest_from session edits t k g s (Blank ∷ xs) e = newest_from session edits t k g s xs e
