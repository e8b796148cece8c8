-- Two bytes of each sample.
use Rattle.std.proofs.Common.{ap, arith, length}
use Rattle.made_session.specs.Tone.{tone_sample}
use Rattle.made_session.proofs.ListLemmas.{each-long}
use Rattle.made_session.proofs.tone_file.sound.Goals as goal

pub encode-requires : goal.encode-requires
encode-requires c = omega (arith, ap length c.as_mut_slice.ensures.value, c.in_ok-bytes.ensures.len, ap length c.as_slice.ensures.value, ap length c.in_ok-samples.ensures, each-long tone_sample 4096)
