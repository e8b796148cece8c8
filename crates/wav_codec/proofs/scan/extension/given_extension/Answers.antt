use Rattle.std.proofs.Common.{sym, subst}
use Rattle.wav_codec.specs.Progress.{Agrees}
use Rattle.wav_codec.specs.declared.fields.Fields.{Fields}
use Rattle.wav_codec.specs.declared.scan.Stage.TheVariants.{Subformat}
use Rattle.wav_codec.proofs.Extensions.{extension_given}
use Rattle.wav_codec.proofs.scan.extension.given_extension.Goals as goal

pub returns-clause-answer : goal.returns-clause-answer
returns-clause-answer c b agrees taken =
    subst (λ (f : Fields). Agrees (record { size = c.args.size; stage = Subformat c.args.riff_size c.args.at c.args.chunk_size f }) b)
    (sym c.with_extension-fields.ensures) (extension_given _ _ _ _ b c.args.bytes.now c.args.fields agrees taken)
