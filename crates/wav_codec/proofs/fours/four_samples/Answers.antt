use Rattle.std.proofs.Common.{ℕ, ◌+◌, ◌<◌, ◌≤◌, refl, ◌∙◌, arith, List, ◌∷◌, ◌++◌, length, drop, take, get_or, replicate}
use Rattle.wav_codec.proofs.LaneLemmas.{four_are, three_is, zero_at, piece_is_small, zeros_are}
use Rattle.wav_codec.proofs.fours.four_samples.Goals as goal

pub returns : goal.returns
returns c =
    let xs : List ℕ = c.args.bytes.now in
    let at : ℕ = c.args.at in
    let fifteen : List ℕ = replicate 15 0 in
    let zeros : List ℕ = 0 ∷ fifteen in
    let b : ℕ → ℕ = λ i. get_or (take 16 (drop at xs) ++ zeros) i 0 in
    let long : at + 16 ≤ length xs = c.requires in
    let small : (i : ℕ) → b i < 256 = piece_is_small xs zeros at (λ i. omega (arith, c.type_inv.bytes i)) (λ i. omega (arith, zeros_are 16 i)) in
    four_are b (b 16) (zero_at xs fifteen at long) small _ refl
    ∙ rw (
      three_is xs zeros at 0 1 2 at (omega arith) (omega arith) (omega arith) (omega arith) long,
      three_is xs zeros at 3 4 5 (at + 3) (omega arith) (omega arith) (omega arith) (omega arith) long,
      three_is xs zeros at 6 7 8 (at + 6) (omega arith) (omega arith) (omega arith) (omega arith) long,
      three_is xs zeros at 9 10 11 (at + 9) (omega arith) (omega arith) (omega arith) (omega arith) long,
    ) refl
