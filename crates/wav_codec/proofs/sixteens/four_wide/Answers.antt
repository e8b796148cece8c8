use Rattle.std.proofs.Common.{◌∙◌, ◌+◌, ℕ, ℤ, pos, get_or, ap, rules, FitsSigned, w32}
use Rattle.std.proofs.lemmas.Int.{to_z-of_z}
use Rattle.sound_model.specs.Numbers.{twos_complement, file_sample}
use Rattle.wav_codec.proofs.WideLemmas.{four_wide_are, take_four}
use Rattle.wav_codec.proofs.sixteens.four_wide.Goals as goal

pub returns : goal.returns
returns c =
    let item : ℕ → ℤ = λ i. get_or c.args.samples.now (c.args.at + i) (pos 0) in
    let first : ℤ = get_or c.args.samples.now c.args.at (pos 0) in
    let fit : FitsSigned w32 first = search rules in
    let fit_1 : FitsSigned w32 (item 1) = search rules in
    let fit_2 : FitsSigned w32 (item 2) = search rules in
    let fit_3 : FitsSigned w32 (item 3) = search rules in
    four_wide_are _ first (item 1) (item 2) (item 3) _ _ _ _ (take_four c.args.at c.args.samples.now c.requires)
    (c.bounded.ensures ∙ ap (λ v. twos_complement 32 (file_sample 24 v)) (to_z-of_z w32 first fit))
    (c.bounded-2.ensures ∙ ap (λ v. twos_complement 32 (file_sample 24 v)) (to_z-of_z w32 (item 1) fit_1))
    (c.bounded-3.ensures ∙ ap (λ v. twos_complement 32 (file_sample 24 v)) (to_z-of_z w32 (item 2) fit_2))
    (c.bounded-4.ensures ∙ ap (λ v. twos_complement 32 (file_sample 24 v)) (to_z-of_z w32 (item 3) fit_3))
