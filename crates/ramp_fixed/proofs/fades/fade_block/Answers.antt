use Rattle.std.proofs.Common.{◌≡◌, ℕ, ◌+◌, ◌-◌, ◌*◌, ◌/◌, ◌≤◌, length, drop, ◌∙◌, arith, rules}
use Rattle.std.proofs.lemmas.List.Elements.{All-same}
use Rattle.sound_model.specs.Regions.{Region, shaped, fade}
use Rattle.ses_units.specs.Shape.{shape_of}
use Rattle.ramp_fixed.specs.Fades.{faded_region}
use Rattle.ramp_fixed.proofs.Parts.{same_on_range, replicate_is_range, three_parts, parts_put, ranged, repeated}
use Rattle.ramp_fixed.proofs.FadeValues.{fades_within, fade_rises, fade_falls, fade_full}
use Rattle.ramp_fixed.proofs.fades.fade_block.Goals as goal

pub returns-clause-are : goal.returns-clause-are
returns-clause-are c =
    let r : Region = faded_region c.args.long c.args.fade_in c.args.fade_out (shape_of c.args.shape_in) (shape_of c.args.shape_out) in
    let n : ℕ = length c.args.out.now in
    let a : ℕ = c.clamp.result - c.args.first in
    let b : ℕ = c.clamp-2.result - c.args.first in
    let rising : ℕ → ℕ = λ i. shaped (shape_of c.args.shape_in) (65536 * i / c.args.fade_in) in
    let falling : ℕ → ℕ = λ i. shaped (shape_of c.args.shape_out) (65536 * (c.args.long - 1 - i) / c.args.fade_out) in
    let long_in : length c.rise.new.out ≡ a = search rules in
    let long_full : length c.fill_full.new.out ≡ b - a = search rules in
    let long_out : length c.fall.new.out ≡ n - b = search rules in
    let first = ranged rising c.args.first _ a c.rise.new.out c.rise.ensures long_in in
    let second = repeated 65536 _ (b - a) c.fill_full.new.out c.fill_full.ensures long_full in
    let third = ranged falling (c.args.first + b) _ (n - b) c.fall.new.out c.fall.ensures long_out in
    parts_put a b c.rise.new.out c.fill_full.new.out c.fall.new.out (drop a c.args.out.now) _ long_in (omega arith)
    ∙ three_parts (fade r) c.args.first n a b c.rise.new.out c.fill_full.new.out c.fall.new.out (omega arith) (omega arith)
    (first ∙ same_on_range rising (fade r) c.args.first a (λ i h m. fade_rises r i (omega arith)))
    (second ∙ replicate_is_range (fade r) 65536 (c.args.first + a) (b - a) (λ i h m. fade_full r i (omega arith) (omega arith)))
    (third ∙ same_on_range falling (fade r) (c.args.first + b) (n - b) (λ i h m. fade_falls r i (omega arith) (omega arith)))

pub returns-clause-quiet : goal.returns-clause-quiet
returns-clause-quiet c =
    let r : Region = faded_region c.args.long c.args.fade_in c.args.fade_out (shape_of c.args.shape_in) (shape_of c.args.shape_out) in
    All-same (λ f. f ≤ 65536) _ _ (returns-clause-are c) (fades_within r c.args.first (length c.args.out.now))
