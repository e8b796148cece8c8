use Rattle.std.proofs.Common.{arith}
use Rattle.wav_codec.proofs.Steps.{past_last_place, past_riff}
use Rattle.wav_codec.proofs.scan.chunk.look_at.Goals as goal

pub returns-then-at-gt-LAST_PLACE-clause-answer : goal.returns-then-at-gt-LAST_PLACE-clause-answer
returns-then-at-gt-LAST_PLACE-clause-answer c b agrees =
    past_last_place c.args.size c.args.riff_size c.args.at c.args.form b agrees c.if-at-gt-LAST_PLACE.true

pub returns-then-from-at-clause-answer : goal.returns-then-from-at-clause-answer
returns-then-from-at-clause-answer c b agrees =
    past_riff c.args.size c.args.riff_size c.args.at c.args.form b agrees (omega arith) (omega arith)
