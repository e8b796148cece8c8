-- Each sample that is written is that of its frame and channel.
use Rattle.std.proofs.Common.{◌≡◌, ℕ, ◌+◌, ◌/◌, ◌%◌, sym, arith, rules, subst}
use Rattle.std.specs.Prelude.{ℤ, FitsSigned}
use Rattle.std.specs.Int.{w32}
use Rattle.std.proofs.lemmas.Int.{to_z-of_z}
use Rattle.session_model.specs.Frames.{sample_of, IsSample}
use Rattle.session_model.specs.MemFrames.{frames_of}
use Rattle.session_model.proofs.FrameLemmas.{interleaved-filled, filled_more, all_filled}
use Rattle.session_model.proofs.mem_sound.MemSound.fill.Goals as goal

pub loop-k-preserved : goal.loop-k-preserved
loop-k-preserved c =
    let P : ℕ → ℤ → Type 0 = λ k v. (v ≡ sample_of (frames_of c.args.self.now) (c.args.from + k / c.args.self.now.channels) (k % c.args.self.now.channels)) × IsSample v in
    let fits : FitsSigned w32 c.sample.result = search rules in
    filled_more P c.loop-k.out c.loop-k.k _ (omega arith) c.loop-k.invariant
    (let Q : ℤ → Type 0 = P c.loop-k.k in subst Q (sym (to_z-of_z w32 c.sample.result fits)) (c.sample.ensures.value, c.sample.ensures.range))

pub returns-clause-told : goal.returns-clause-told
returns-clause-told c = interleaved-filled (sample_of (frames_of c.args.self.now)) c.args.self.now.channels c.args.from c.loop-k.out (λ k l. (c.loop-k.invariant k (omega arith)).0)

pub returns-clause-range : goal.returns-clause-range
returns-clause-range c = all_filled IsSample c.loop-k.out c.loop-k.k (omega arith) (λ k l. (c.loop-k.invariant k l).1)
