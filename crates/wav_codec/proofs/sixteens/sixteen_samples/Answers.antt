use Rattle.std.proofs.Common.{◌≡◌, ◌∙◌, ◌+◌, ◌≤◌, ℕ, ℤ, List, take, drop, length, sym, ap, arith}
use Rattle.std.proofs.lemmas.List.{length-take-le, length-drop}
use Rattle.sound_model.specs.Wav.{sound_bytes}
use Rattle.wav_codec.proofs.WideLemmas.{sixteen_are, by_fours}
use Rattle.wav_codec.proofs.sixteens.sixteen_samples.Goals as goal

pub returns : goal.returns
returns c =
    let xs : List ℤ = c.args.samples.now in
    let at : ℕ = c.args.at in
    let four : (k : ℕ) → k + 4 ≤ length xs → length (take 4 (drop k xs)) ≡ 4 = λ k h. length-take-le 4 (drop k xs) (omega (arith, length-drop k xs, h)) in
    sixteen_are (take 4 (drop at xs)) (take 4 (drop (at + 4) xs)) (take 4 (drop (at + 8) xs)) (take 4 (drop (at + 12) xs)) _ _ _ _
    (four at (omega (arith, c.requires))) (four (at + 4) (omega (arith, c.requires))) (four (at + 8) (omega (arith, c.requires))) (four (at + 12) (omega (arith, c.requires)))
    c.four_wide-a.ensures c.four_wide-b.ensures c.four_wide-c.ensures c.four_wide-d.ensures
    ∙ ap (sound_bytes 24) (sym (by_fours at xs))
