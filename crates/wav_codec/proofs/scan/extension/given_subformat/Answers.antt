use Rattle.std.proofs.Common.{◌+◌, sym, subst, arith}
use Rattle.wav_codec.specs.Progress.{Agrees}
use Rattle.wav_codec.specs.declared.fields.Fields.{Fields}
use Rattle.wav_codec.specs.declared.scan.Stage.TheVariants.{FormatEnd}
use Rattle.wav_codec.proofs.Pieces.{whole_piece}
use Rattle.wav_codec.proofs.Extensions.{subformat_given}
use Rattle.wav_codec.proofs.scan.extension.given_subformat.Goals as goal

pub returns-clause-answer : goal.returns-clause-answer
returns-clause-answer c b agrees taken =
    c.fields_given.ensures.answer b
    (subst (λ (f : Fields). Agrees (record { size = c.args.size; stage = FormatEnd c.args.riff_size c.args.at c.args.chunk_size f }) b)
    (sym c.with_subformat-fields.ensures) (subformat_given _ _ _ _ b c.args.bytes.now c.args.fields agrees taken))
    (omega (arith, whole_piece 8 (c.args.at + 40) b c.args.bytes.now taken c.if-bytes-lt8.false (omega arith)))
