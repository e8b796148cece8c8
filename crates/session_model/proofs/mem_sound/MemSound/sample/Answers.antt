-- A sample stands in its frame, and past the last frame there is silence.
use Rattle.std.proofs.Common.{◌≡◌, ◌+◌, ◌*◌, ◌/◌, ◌%◌, List, ap, ◌∙◌, arith, get_or, rules}
use Rattle.std.specs.Prelude.{ℤ, pos, FitsSigned}
use Rattle.std.specs.Int.{w32}
use Rattle.std.proofs.lemmas.Int.{to_z-of_z}
use Rattle.session_model.specs.Frames.{sample_of}
use Rattle.session_model.specs.MemFrames.{frames_of, Sound}
use Rattle.session_model.proofs.FrameLemmas.{sample_of-far, sample_of-near, some_channel}
use Rattle.session_model.proofs.mem_sound.MemSound.sample.Goals as goal

pub returns-then-frame-samples-clause-value : goal.returns-then-frame-samples-clause-value
returns-then-frame-samples-clause-value c =
    let held : List ℤ → Sound = λ xs. record { channels = c.self.inside.channels; samples = xs } in
    let same : held c.as_slice-samples.result.now ≡ c.args.self.now = ap held c.as_slice-samples.ensures.value ∙ c.self.view_is in
    sample_of-far (held c.as_slice-samples.result.now) c.args.from c.args.k c.saturating_add-frame.result c.saturating_add-frame.ensures (omega arith) c.if-frame-samples.true
    ∙ ap (λ s. sample_of (frames_of s) (c.args.from + c.args.k / s.channels) (c.args.k % s.channels)) same

pub returns-clause-value : goal.returns-clause-value
returns-clause-value c =
    let held : List ℤ → Sound = λ xs. record { channels = c.self.inside.channels; samples = xs } in
    let same : held c.as_slice-samples.result.now ≡ c.args.self.now = ap held c.as_slice-samples.ensures.value ∙ c.self.view_is in
    let read : ℤ = get_or c.as_slice-samples.result.now (c.saturating_add-frame.result * c.self.inside.channels + c.args.k % c.self.inside.channels) (pos 0) in
    let fits : FitsSigned w32 read = search rules in
    to_z-of_z w32 read fits
    ∙ sample_of-near (held c.as_slice-samples.result.now) c.args.from c.args.k c.saturating_add-frame.result c.saturating_add-frame.ensures (omega arith) c.if-frame-samples.false
    (some_channel _ _ c.self.invariant)
    ∙ ap (λ s. sample_of (frames_of s) (c.args.from + c.args.k / s.channels) (c.args.k % s.channels)) same
