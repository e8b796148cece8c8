-- The track that is written back is the one that stood there with a change.
use Rattle.std.proofs.Common.{refl, Some}
use Rattle.capture_flush.proofs.KeepLemmas.{written}
use Rattle.capture_flush.proofs.flushing.keep.Goals as goal

pub returns : goal.returns
returns c = written (λ k. record k { last = Some c.args.place }) c.args.tracks.now c.as_mut_slice.result.now c.args.track _ _ c.as_mut_slice.ensures.items c.requires refl
