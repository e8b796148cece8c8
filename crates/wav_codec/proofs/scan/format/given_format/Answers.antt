use Rattle.std.proofs.Common.{◌+◌, sym, ◌∙◌, arith}
use Rattle.wav_codec.proofs.Pieces.{whole_piece}
use Rattle.wav_codec.proofs.Formats.{cut_format, plain_fields, extensible_short, extensible_fields}
use Rattle.wav_codec.proofs.scan.format.given_format.Goals as goal

pub returns-in_default-clause-answer : goal.returns-in_default-clause-answer
returns-in_default-clause-answer c b agrees taken =
    cut_format c.args.size c.args.riff_size c.args.at c.args.chunk_size b c.args.bytes.now agrees c.requires.fields taken c.in_default.ensures

pub returns-then-not-is_extensible-clause-answer : goal.returns-then-not-is_extensible-clause-answer
returns-then-not-is_extensible-clause-answer c b agrees taken =
    c.fields_given.ensures.answer b
    (plain_fields _ _ _ _ b c.args.bytes.now c.in-Some.fields agrees c.requires.fields (record { taken = taken; given = c.in-Some.ensures.1 })
    (sym c.is_extensible.ensures ∙ c.if-not-is_extensible.true))
    (whole_piece 16 (c.args.at + 8) b c.args.bytes.now taken (omega (arith, c.in-Some.ensures.0)) (omega arith))

pub returns-then-chunk_size-lt-EXTENSIBLE_SIZE-clause-answer : goal.returns-then-chunk_size-lt-EXTENSIBLE_SIZE-clause-answer
returns-then-chunk_size-lt-EXTENSIBLE_SIZE-clause-answer c b agrees taken =
    extensible_short _ _ _ _ b c.args.bytes.now c.in-Some.fields agrees (record { taken = taken; given = c.in-Some.ensures.1 })
    (sym c.is_extensible.ensures ∙ c.if-not-is_extensible.false) c.if-chunk_size-lt-EXTENSIBLE_SIZE.true

pub returns-clause-answer : goal.returns-clause-answer
returns-clause-answer c b agrees taken =
    extensible_fields _ _ _ _ b c.args.bytes.now c.in-Some.fields agrees (record { taken = taken; given = c.in-Some.ensures.1 })
    (sym c.is_extensible.ensures ∙ c.if-not-is_extensible.false) c.if-chunk_size-lt-EXTENSIBLE_SIZE.false
