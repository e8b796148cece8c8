use Rattle.wav_codec.proofs.Formats.{format_read}
use Rattle.wav_codec.proofs.scan.format.after_format.Goals as goal

pub returns-clause-answer : goal.returns-clause-answer
returns-clause-answer c b agrees whole =
    c.look_at.ensures.answer b (format_read c.args.size c.args.riff_size c.args.at c.args.chunk_size c.after.result c.args.fields c.in_ok-form.form b
    agrees whole c.in_ok-form.ensures c.after.ensures)
