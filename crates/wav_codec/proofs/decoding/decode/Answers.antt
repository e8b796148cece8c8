use Rattle.std.proofs.Common.{length, arith}
use Rattle.std.proofs.lemmas.List.Elements.{All-same}
use Rattle.wav_codec.specs.Samples.{IsInside}
use Rattle.wav_codec.proofs.Samples.{inside_of_8, inside_of_16, inside_of_24}
use Rattle.wav_codec.proofs.decoding.decode.Goals as goal

pub returns-in-8-clause-range : goal.returns-in-8-clause-range
returns-in-8-clause-range c =
    All-same IsInside _ _ c.decode_8.ensures (inside_of_8 (length c.args.out.now) c.args.bytes.now (λ i. omega (arith, c.type_inv.bytes i)))

pub returns-in-16-clause-range : goal.returns-in-16-clause-range
returns-in-16-clause-range c =
    All-same IsInside _ _ c.decode_16.ensures (inside_of_16 (length c.args.out.now) c.args.bytes.now (λ i. omega (arith, c.type_inv.bytes i)))

pub returns-in_default-clause-range : goal.returns-in_default-clause-range
returns-in_default-clause-range c =
    All-same IsInside _ _ c.decode_24.ensures (inside_of_24 (length c.args.out.now) c.args.bytes.now (λ i. omega (arith, c.type_inv.bytes i)))
