-- The pieces of a line are printed one behind another.
use Rattle.std.proofs.Common.{◌≡◌, ℕ, ℤ, List, ◌++◌, append_assoc, codes, decimal, refl, ap, sym, ◌∙◌, string_bytes, to_z, of_z}
use Rattle.std.specs.Fmt.{signed_decimal}
use Rattle.std.specs.Int.{w128}
use Rattle.std.proofs.lemmas.Int.{to_z-of_z}
use Rattle.session_gen.specs.Line.{line_of}
use Rattle.session_gen.proofs.line.line_of.Goals as goal

abbrev printed : ℕ → ℕ → ℕ → ℤ → List ℕ
printed n tracks regions sum = codes "gen " ++ (decimal n ++ (codes " tracks " ++ (decimal tracks ++ (codes " regions " ++ (decimal regions
    ++ (codes " cycles 256 sum " ++ (signed_decimal sum ++ codes "\n")))))))

grouped : (a b c d e f g h i : List ℕ) → a ++ b ++ c ++ d ++ e ++ f ++ g ++ h ++ i ≡ a ++ (b ++ (c ++ (d ++ (e ++ (f ++ (g ++ (h ++ i)))))))
grouped a b c d e f g h i = simp append_assoc refl

same : (n tracks regions : ℕ) (sum : ℤ) → line_of n tracks regions sum ≡ printed n tracks regions sum
unfolding line_of
same n tracks regions sum = grouped (codes "gen ") (decimal n) (codes " tracks ") (decimal tracks) (codes " regions ") (decimal regions)
    (codes " cycles 256 sum ") (signed_decimal sum) (codes "\n")

pub returns : goal.returns
returns c = let is : string_bytes c.in_ok-format.field-0 ≡ printed c.args.n c.args.tracks c.args.regions (to_z w128 (of_z w128 c.args.sum)) = c.in_ok-format.ensures.ok in
    is ∙ ap (printed c.args.n c.args.tracks c.args.regions) (to_z-of_z w128 c.args.sum c.ranges.sum) ∙ sym (same c.args.n c.args.tracks c.args.regions c.args.sum)
