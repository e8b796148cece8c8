-- Beginnings of a list.
use Rattle.std.proofs.Common.{◌≡◌, ◌<◌, ◌≤◌, List, [], ◌∷◌, ◌++◌, length, get_or, refl, sym, ap, ◌∙◌, arith}
use Rattle.std.proofs.lemmas.List.{append-nil, length-append, nil_from_length}
use mathlib.Core.List.{IsPrefix}

module _ {X : Type 0} where
  pub begins_length : (xs ys : List X) → IsPrefix xs ys → length xs ≤ length ys
  begins_length xs ys p = omega (arith, ap length p.1, length-append xs p.0)

  -- a beginning that is as long is the list
  pub whole : (xs ys : List X) → IsPrefix xs ys → length ys ≤ length xs → xs ≡ ys
  whole xs ys p h = sym (append-nil xs) ∙ ap (λ l. xs ++ l) (sym (nil_from_length p.0 (omega (arith, ap length p.1, length-append xs p.0)))) ∙ p.1

  rest_of : X → List X → List X
  rest_of d [] = []
  rest_of d (x ∷ xs) = xs

  -- a beginning and the item after it
  pub next_begins : (xs ys : List X) (d : X) → IsPrefix xs ys → length xs < length ys → IsPrefix (xs ++ get_or ys (length xs) d ∷ []) ys
  unfolding rest_of
  next_begins [] [] d p h = absurd (omega arith)
  next_begins [] (y ∷ ys) d p h = (ys, refl)
  next_begins (x ∷ xs) [] d p h = absurd (omega arith)
  next_begins (x ∷ xs) (y ∷ ys) d p h =
      let tail : IsPrefix xs ys = (p.0, ap (rest_of d) p.1) in
      let more = next_begins xs ys d tail (omega arith) in
      let head : x ≡ y = ap (λ l. get_or l 0 d) p.1 in
      (more.0, λ i. head i ∷ more.1 i)
