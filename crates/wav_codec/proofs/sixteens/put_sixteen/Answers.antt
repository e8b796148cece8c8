use Rattle.std.proofs.Common.{◌≡◌, ◌∙◌, ◌+◌, ◌-◌, ◌*◌, ◌≤◌, ◌++◌, ℕ, List, take, length, ap, arith}
use Rattle.std.proofs.lemmas.List.{append_assoc}
use Rattle.wav_codec.proofs.WideLemmas.{stored, take-stored, length-stored}
use Rattle.wav_codec.proofs.sixteens.put_sixteen.Goals as goal

pub returns-clause-bytes : goal.returns-clause-bytes
returns-clause-bytes c =
    let at : ℕ = 3 * c.args.at in
    let out : List ℕ = c.args.out.now in
    let a : List ℕ = c.sixteen_samples.result.0 in
    let b : List ℕ = c.sixteen_samples.result.1 in
    let d : List ℕ = c.sixteen_samples.result.2 in
    let la : length a ≡ 16 = omega arith in
    let lb : length b ≡ 16 = omega arith in
    let ld : length d ≡ 16 = omega arith in
    let k : ℕ = at + 16 - at in
    let m : ℕ = at + 32 - (at + 16) in
    let one : List ℕ = stored at k out a in
    let two : List ℕ = stored (at + 16) m one b in
    let room : at + 48 ≤ length out = omega arith in
    let l1 : length one ≡ length out = length-stored at k out a (omega arith) la (omega (arith, room)) in
    let l2 : length two ≡ length one = length-stored (at + 16) m one b (omega arith) lb (omega (arith, room, l1)) in
    let place : at ≡ c.args.at * 3 = omega arith in
    take-stored (at + 32) (at + 48 - (at + 32)) (c.args.at * 3 + 48) two d (omega arith) ld (omega (arith, room, l1, l2)) (omega arith)
    ∙ ap (λ bs. bs ++ d) (take-stored (at + 16) m (at + 32) one b (omega arith) lb (omega (arith, room, l1)) (omega arith)
    ∙ ap (λ bs. bs ++ b) (take-stored at k (at + 16) out a (omega arith) la (omega (arith, room)) (omega arith))
    ∙ append_assoc (take at out) a b) ∙ append_assoc (take at out) (a ++ b) d
    ∙ ap (λ j. take j out ++ ((a ++ b) ++ d)) place
    ∙ ap (λ bs. take (c.args.at * 3) out ++ bs) c.sixteen_samples.ensures
