-- A buffer that is filled from its front, part by part.
use Rattle.std.proofs.Common.{◌≡◌, ℕ, ◌+◌, ◌≤◌, List, ◌++◌, length, take, sym, ap, ◌∙◌}
use Rattle.std.proofs.Math.Seq.{take-append-add}
use Rattle.std.proofs.lemmas.List.{take-append-le, length-take-le}
use borrow.Rule.Slice.PartMut.{put_mid}

-- the first a stay, and n of what was written there follow
pub take_more-put_mid : {X : Type 0} (a k : ℕ) (xs ys : List X) (n : ℕ) → a ≤ length xs → n ≤ length ys → take (a + n) (put_mid a k xs ys) ≡ take a xs ++ take n ys
take_more-put_mid a k xs ys n within enough =
    ap (λ m. take (m + n) (put_mid a k xs ys)) (sym (length-take-le a xs within))
    ∙ take-append-add (take a xs) (ys ++ _) n
    ∙ ap (λ zs. take a xs ++ zs) (take-append-le n ys _ enough)
