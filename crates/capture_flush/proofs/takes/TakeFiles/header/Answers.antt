use Rattle.std.proofs.Common.{◌≡◌, ◌∙◌, ◌≤◌, ◌*◌, ap, ap₂, subst, sym}
use Rattle.sound_model.specs.Wav.{header}
use Rattle.wav_codec.specs.declared.form.WavForm.{WavForm}
use Rattle.wav_codec.specs.Form.{written_form, data_bytes}
use Rattle.capture_flush.proofs.HeaderLemmas.{size_fits, header_is}
use Rattle.capture_flush.proofs.TakingLemmas.{few_samples}
use Rattle.capture_flush.proofs.takes.TakeFiles.header.Goals as goal

pub header-requires-clause-size : goal.header-requires-clause-size
header-requires-clause-size g c = let form : WavForm = record { channels = c.channels.result; rate = c.self.inside.rate; bits = c.self.inside.bits } in
    let few = (few_samples g.s c.args.self.now c.args.track c.requires.0 c.requires.1.0).2 in
    let block : c.from-2.result ≡ c.args.self.now.block = c.from-2.ensures ∙ ap (λ v. v.block) c.self.view_is in
    size_fits form c.from.result c.from-2.result (subst (λ n. n ≤ 100000) (sym c.from.ensures) c.requires.1.1) (subst (λ n. n ≤ 4096) (sym block) few) c.channels.ensures.most

pub returns : goal.returns
returns g c = let block : c.from-2.result ≡ c.args.self.now.block = c.from-2.ensures ∙ ap (λ v. v.block) c.self.view_is in
    let form : WavForm = record { channels = c.channels.result; rate = c.self.inside.rate; bits = c.self.inside.bits } in
    c.header.ensures ∙ ap (λ n. header (written_form form) (data_bytes form n)) (ap₂ (λ m n. m * n) c.from.ensures block)
    ∙ header_is g.s c.args.self.now c.args.track c.args.blocks form c.requires.0 c.channels.ensures.channels (ap (λ v. v.rate) c.self.view_is) (ap (λ v. v.bits) c.self.view_is)
