use Rattle.std.proofs.Common.{◌∙◌, arith}
use Rattle.wav_codec.proofs.Steps.{Given, no_chunk, size_given, data_here, skipped}
use Rattle.wav_codec.proofs.Formats.{short_format, format_asked}
use Rattle.wav_codec.proofs.scan.chunk.given_chunk.Goals as goal

pub returns-then-bytes-lt8-clause-answer : goal.returns-then-bytes-lt8-clause-answer
returns-then-bytes-lt8-clause-answer c b agrees taken =
    no_chunk c.args.size c.args.riff_size c.args.at c.args.form b c.args.bytes.now agrees c.requires.place taken c.if-bytes-lt8.true

pub returns-in-Sound-clause-answer : goal.returns-in-Sound-clause-answer
returns-in-Sound-clause-answer c b agrees taken =
    let given : Given c.args.size c.args.riff_size c.args.at c.args.form b c.args.bytes.now =
    record { agrees = agrees; reached = c.requires.place; inside = c.requires.inside; taken = taken; whole = omega arith } in
    c.sound_at.ensures.answer b agrees.size (c.size_field-chunk_size.ensures ∙ size_given _ _ _ _ _ _ given)
    (data_here _ _ _ _ _ _ given c.in-Sound.ensures)

pub returns-in-Skipped-clause-answer : goal.returns-in-Skipped-clause-answer
returns-in-Skipped-clause-answer c b agrees taken =
    let given : Given c.args.size c.args.riff_size c.args.at c.args.form b c.args.bytes.now =
    record { agrees = agrees; reached = c.requires.place; inside = c.requires.inside; taken = taken; whole = omega arith } in
    c.look_at.ensures.answer b
    (skipped _ _ _ _ _ _ _ _ given c.in-Skipped.ensures.0 c.in-Skipped.ensures.1 c.size_field-chunk_size.ensures c.after.ensures)

pub returns-then-chunk_size-lt16-clause-answer : goal.returns-then-chunk_size-lt16-clause-answer
returns-then-chunk_size-lt16-clause-answer c b agrees taken =
    let given : Given c.args.size c.args.riff_size c.args.at c.args.form b c.args.bytes.now =
    record { agrees = agrees; reached = c.requires.place; inside = c.requires.inside; taken = taken; whole = omega arith } in
    short_format _ _ _ _ _ _ _ given c.in-FirstFormat.ensures.0 c.in-FirstFormat.ensures.1 c.size_field-chunk_size.ensures c.if-chunk_size-lt16.true

pub returns-else-chunk_size-lt16-clause-answer : goal.returns-else-chunk_size-lt16-clause-answer
returns-else-chunk_size-lt16-clause-answer c b agrees taken =
    let given : Given c.args.size c.args.riff_size c.args.at c.args.form b c.args.bytes.now =
    record { agrees = agrees; reached = c.requires.place; inside = c.requires.inside; taken = taken; whole = omega arith } in
    format_asked _ _ _ _ _ _ _ given c.in-FirstFormat.ensures.0 c.in-FirstFormat.ensures.1 c.size_field-chunk_size.ensures
