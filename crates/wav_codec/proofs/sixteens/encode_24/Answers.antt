use Rattle.std.proofs.Common.{◌≡◌, ◌∙◌, ◌+◌, ◌-◌, ◌*◌, ◌/◌, ◌++◌, ℕ, ℤ, List, take, drop, length, sym, ap, subst, arith}
use Rattle.std.proofs.lemmas.Grind.{flat_map-append}
use Rattle.std.proofs.lemmas.Slice.{take-put_mid}
use Rattle.std.proofs.lemmas.List.{take_all, length-take-le, length-drop, take-append-drop}
use Rattle.std.proofs.Math.Seq.{take-add}
use borrow.Rule.Slice.PartMut.{put_mid, same_len_mid}
use Rattle.sound_model.specs.Numbers.{sample_bytes}
use Rattle.sound_model.specs.Wav.{sound_bytes}
use Rattle.wav_codec.proofs.Samples.{length-sound_bytes}
use Rattle.wav_codec.proofs.sixteens.encode_24.Goals as goal

pub loop-i-preserved : goal.loop-i-preserved
loop-i-preserved c =
    let i : ℕ = c.loop-i.i in
    let samples : List ℤ = c.args.samples.now in
    let new : List ℕ = c.put_sixteen.new.out in
    let end : 48 * (i + 1) ≡ 16 * i * 3 + 48 = omega arith in
    let begin : 16 * i * 3 ≡ 48 * i = omega arith in
    let next : 16 * i + 16 ≡ 16 * (i + 1) = omega arith in
    let more : List ℤ = take 16 (drop (16 * i) samples) in (
      ap (λ k. take k new) end ∙ c.put_sixteen.ensures.bytes
          ∙ ap (λ bs. bs ++ sound_bytes 24 more) (ap (λ k. take k c.loop-i.out) begin ∙ c.loop-i.invariant.0)
          ∙ sym (flat_map-append (sample_bytes 24) (take (16 * i) samples) more)
          ∙ ap (sound_bytes 24) (sym (take-add (16 * i) 16 samples) ∙ ap (λ k. take k samples) next),
      c.put_sixteen.ensures.length ∙ c.loop-i.invariant.1,
    )

pub returns : goal.returns
returns c =
    let samples : List ℤ = c.args.samples.now in
    let out : List ℕ = c.loop-i.out in
    let rest : List ℕ = c.encode_24_singly.new.out in
    let f : ℕ = length samples / 16 in
    let n : ℕ = 48 * f in
    let k : ℕ = length out - n in
    let turns : c.loop-i.i ≡ f = omega arith in
    let whole : length out ≡ length samples * 3 = c.loop-i.invariant.1 in
    let left : List ℤ = take (length samples - 16 * f) (drop (16 * f) samples) in
    let here : left ≡ drop (16 * f) samples = take_all (length samples - 16 * f) (drop (16 * f) samples) (omega (arith, length-drop (16 * f) samples)) in
    let others : rest ≡ sound_bytes 24 (drop (16 * f) samples) = c.encode_24_singly.ensures ∙ ap (sound_bytes 24) here in
    let long : length rest ≡ k = ap length others ∙ length-sound_bytes 24 (drop (16 * f) samples) ∙ omega (arith, length-drop (16 * f) samples, whole) in
    let room : length (take k (drop n out)) ≡ k = length-take-le k (drop n out) (omega (arith, length-drop n out)) in
    let so_far : take n out ≡ sound_bytes 24 (take (16 * f) samples) = subst (λ j. take (48 * j) out ≡ sound_bytes 24 (take (16 * j) samples)) turns c.loop-i.invariant.0 in
    sym (take_all (length out) (put_mid n k out rest) (omega (arith, same_len_mid n k out rest (long ∙ sym room))))
    ∙ take-put_mid n k out rest (length out) (omega (arith, long, whole)) (omega (arith, whole))
    ∙ ap (λ bs. bs ++ rest) so_far ∙ ap (λ bs. sound_bytes 24 (take (16 * f) samples) ++ bs) others
    ∙ sym (flat_map-append (sample_bytes 24) (take (16 * f) samples) (drop (16 * f) samples))
    ∙ ap (sound_bytes 24) (take-append-drop (16 * f) samples)
