-- Lists whose elements only grow: where their sum stands none grew, and where it grew by one, one did.
use Rattle.std.proofs.Common.{◌≡◌, ◌≢◌, ℕ, zero, suc, ◌+◌, ◌≤◌, List, [], ◌∷◌, length, refl, sym, ap, ◌∙◌, arith}
use Rattle.std.specs.Prelude.{slice_get, sum_by, Some}
use Rattle.std.proofs.lemmas.List.Sums.{sum_by-cons}
use Rattle.std.proofs.lemmas.Option.{same_Some, slice_get_within}
use mathlib.Core.Logic.{dite}
use native.Mathlib.Decide.{ℕ_discrete}

module _ {X : Type 0} (f : X → ℕ) where
  abbrev pub Rise : List X → List X → Type 0
  Rise xs ys = (t : ℕ) (x y : X) → slice_get xs t ≡ Some x → slice_get ys t ≡ Some y → f x ≤ f y

  abbrev pub Stand : List X → List X → Type 0
  Stand xs ys = (t : ℕ) (x y : X) → slice_get xs t ≡ Some x → slice_get ys t ≡ Some y → f y ≡ f x

  -- one grew by one, and the others stand
  pub record OneGrew (xs ys : List X) : Type 0 where
    pub place : ℕ
    pub was : X
    pub now : X
    pub was_there : slice_get xs place ≡ Some was
    pub now_there : slice_get ys place ≡ Some now
    pub grew : f now ≡ f was + 1
    pub others : (t : ℕ) (x y : X) → t ≢ place → slice_get xs t ≡ Some x → slice_get ys t ≡ Some y → f y ≡ f x

  pub never_less : (xs ys : List X) → length ys ≡ length xs → Rise xs ys → sum_by f xs ≤ sum_by f ys
  never_less [] [] same each = omega arith
  never_less [] (y ∷ ys) same each = absurd (omega (arith, same))
  never_less (x ∷ xs) [] same each = absurd (omega (arith, same))
  never_less (x ∷ xs) (y ∷ ys) same each = omega (arith, each 0 x y refl refl, never_less xs ys (omega (arith, same)) (λ t. each (suc t)), sum_by-cons f x xs, sum_by-cons f y ys)

  pub none_grew : (xs ys : List X) → length ys ≡ length xs → Rise xs ys → sum_by f ys ≡ sum_by f xs → Stand xs ys
  none_grew [] ys same each total t a b ha hb = absurd (omega (arith, slice_get_within [] t a ha))
  none_grew (x ∷ xs) [] same each total t a b ha hb = absurd (omega (arith, same))
  none_grew (x ∷ xs) (y ∷ ys) same each total zero a b ha hb = omega (
    arith,
    total,
    each 0 x y refl refl,
    never_less xs ys (omega (arith, same)) (λ t. each (suc t)),
    sum_by-cons f x xs,
    sum_by-cons f y ys,
    ap f (same_Some x a ha),
    ap f (same_Some y b hb),
  )
  none_grew (x ∷ xs) (y ∷ ys) same each total (suc t) a b ha hb = none_grew xs ys (omega (arith, same)) (λ u. each (suc u)) (omega (
    arith,
    total,
    each 0 x y refl refl,
    never_less xs ys (omega (arith, same)) (λ u. each (suc u)),
    sum_by-cons f x xs,
    sum_by-cons f y ys,
  )) t a b ha hb

  grew_first : (x y : X) (xs ys : List X) → f y ≡ f x + 1 → Stand xs ys → OneGrew (x ∷ xs) (y ∷ ys)
  grew_first x y xs ys grew rest = record { place = 0; was = x; now = y; was_there = refl; now_there = refl; grew = grew; others = others } where
    others : (t : ℕ) (a b : X) → t ≢ 0 → slice_get (x ∷ xs) t ≡ Some a → slice_get (y ∷ ys) t ≡ Some b → f b ≡ f a
    others zero a b other ha hb = absurd (other refl)
    others (suc t) a b other ha hb = rest t a b ha hb

  grew_later : (x y : X) (xs ys : List X) → f y ≡ f x → OneGrew xs ys → OneGrew (x ∷ xs) (y ∷ ys)
  grew_later x y xs ys stands one = record {
    place = suc one.place;
    was = one.was;
    now = one.now;
    was_there = one.was_there;
    now_there = one.now_there;
    grew = one.grew;
    others = others;
  } where
    others : (t : ℕ) (a b : X) → t ≢ suc one.place → slice_get (x ∷ xs) t ≡ Some a → slice_get (y ∷ ys) t ≡ Some b → f b ≡ f a
    others zero a b other ha hb = ap f (sym (same_Some y b hb)) ∙ stands ∙ ap f (same_Some x a ha)
    others (suc t) a b other ha hb = one.others t a b (λ e. other (ap suc e)) ha hb

  pub one_grew : (xs ys : List X) → length ys ≡ length xs → Rise xs ys → sum_by f ys ≡ sum_by f xs + 1 → OneGrew xs ys
  one_grew [] [] same each total = absurd (omega (arith, total))
  one_grew [] (y ∷ ys) same each total = absurd (omega (arith, same))
  one_grew (x ∷ xs) [] same each total = absurd (omega (arith, same))
  one_grew (x ∷ xs) (y ∷ ys) same each total = let many : length ys ≡ length xs = omega (arith, same) in let first = each 0 x y refl refl in
      let rest : Rise xs ys = λ t. each (suc t) in let least = never_less xs ys many rest in let head = sum_by-cons f x xs in let last = sum_by-cons f y ys in
      dite (ℕ_discrete (f y) (f x))
      (λ (stands : f y ≡ f x). grew_later x y xs ys stands (one_grew xs ys many rest (omega (arith, total, stands, head, last))))
      (λ (other : f y ≢ f x). let more : f x + 1 ≤ f y = omega (arith, first, other) in
      grew_first x y xs ys (omega (arith, total, more, least, head, last)) (none_grew xs ys many rest (omega (arith, total, more, least, head, last))))
