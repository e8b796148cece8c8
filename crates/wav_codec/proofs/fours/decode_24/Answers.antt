use Rattle.std.proofs.Common.{◌≡◌, ℕ, ◌*◌, ◌+◌, ◌/◌, ◌-◌, ℤ, sym, ap, subst, ◌∙◌, arith, List, length, map, take, drop, to_z, of_z, w32}
use Rattle.std.proofs.lemmas.List.{length-take, length-take-le, length-drop, take_all}
use Rattle.std.proofs.lemmas.Simd.{put_chunk_whole}
use Rattle.std.specs.Simd.Lanes.{put_chunk}
use Rattle.std.proofs.lemmas.List.FromFn.{length-map-range_with_len}
use borrow.Rule.Slice.PartMut.{same_len_mid}
use Rattle.sound_model.specs.Numbers.{sample_at}
use Rattle.wav_codec.specs.Samples.{samples_of}
use Rattle.wav_codec.proofs.SplitLemmas.{four_at, four_more, four_same, all_others}
use Rattle.wav_codec.proofs.fours.decode_24.Goals as goal

pub loop-i-preserved : goal.loop-i-preserved
loop-i-preserved c =
    let place : 12 * c.loop-i.i ≡ 4 * c.loop-i.i * 3 = omega arith in
    let n : ℕ = 4 * c.loop-i.i in
    let k : ℕ = 4 * c.loop-i.i + 4 - 4 * c.loop-i.i in
    let out : List ℤ = c.loop-i.out in
    let four : List ℤ = map (to_z w32) (map (of_z w32) c.four_samples.result) in
    let same : four ≡ c.four_samples.result = four_same (12 * c.loop-i.i) c.args.bytes.now c.four_samples.result (λ i. omega (arith, c.type_inv.bytes i)) c.four_samples.ensures in
    let count : length four ≡ 4 = ap length (same ∙ c.four_samples.ensures) in
    let room : length (take k (drop n out)) ≡ length four = length-take-le k (drop n out) (omega (arith, length-drop n out)) ∙ omega (arith, count) in
    four_more n (4 * (c.loop-i.i + 1)) k c.args.bytes.now out (put_chunk 0 (take k (drop n out)) four) c.loop-i.invariant
    (put_chunk_whole (take k (drop n out)) four room ∙ same ∙ c.four_samples.ensures ∙ ap (λ at. four_at at c.args.bytes.now) place) (omega arith) (omega arith)

pub returns : goal.returns
returns c =
    let bytes : List ℕ = c.args.bytes.now in
    let f : ℕ = c.saturating_sub-fours.result / 12 in
    let n : ℕ = 4 * f in
    let out : List ℤ = c.loop-i.out in
    let rest : List ℤ = c.decode_24_singly.new.out in
    let turns : 4 * c.loop-i.i ≡ n = omega arith in
    let part : List ℕ = take (length bytes - 12 * f) (drop (12 * f) bytes) in
    let left : List ℤ = take (length out - n) (drop n out) in
    let count : length left ≡ length out - n = omega (arith, length-take (length out - n) (drop n out), length-drop n out) in
    let place : 12 * f ≡ n * 3 = omega arith in
    let here : part ≡ drop (n * 3) bytes = take_all (length bytes - 12 * f) (drop (12 * f) bytes) (omega (arith, length-drop (12 * f) bytes)) ∙ ap (λ k. drop k bytes) place in
    let others : rest ≡ samples_of 24 (length out - n) (drop (n * 3) bytes) =
    c.decode_24_singly.ensures ∙ ap (λ k. samples_of 24 k part) count ∙ ap (samples_of 24 (length out - n)) here in
    let long : length rest ≡ length out - n = ap length others ∙ length-map-range_with_len (λ i. sample_at 24 (drop (i * 3) (drop (n * 3) bytes))) 0 (length out - n) in
    let so_far : take n out ≡ samples_of 24 n bytes = subst (λ k. take k out ≡ samples_of 24 k bytes) turns c.loop-i.invariant in
    all_others n (length out - n) bytes out rest so_far others (omega arith) (same_len_mid n (length out - n) out rest (long ∙ sym count)) long
    ∙ ap (λ k. samples_of 24 k bytes) c.loop-i.auto.out
