-- One read more goes on behind those so far.
use Rattle.std.proofs.Common.{◌≡◌, ℕ, ◌∙◌, subst, List}
use Rattle.ses_io.specs.Files.{Files, content, IsPart}
use Rattle.ses_io.proofs.Streams.{IsPart-then, fits-then}
use Rattle.ses_io.proofs.media.read_at_full.Goals as goal

-- the same part of the same file, said another way
part_as : (name : List ℕ) (before now : Files) (a n : ℕ) (part : List ℕ) → now ≡ before → IsPart (content now name) a part n → IsPart (content before name) a part n
part_as name before now a n part same h = let L : Files → Type 0 = λ fs. IsPart (content fs name) a part n in subst L same h

pub loop-filled-preserved : goal.loop-filled-preserved
loop-filled-preserved g c = record {
  within = fits-then c.loop-filled.filled _ _ _ c.loop-filled.invariant.within c.read_at.auto.buf c.in_ok-n.ensures.bound;
  part = λ t. IsPart-then _ c.args.at _ _ c.loop-filled.filled _ (c.loop-filled.invariant.part t) c.read_at.auto.buf
      (part_as c.args.name.now (g.M.Media.outside.files c.args.media.now) (g.M.Media.outside.files c.loop-filled.media) _ _ _ c.loop-filled.invariant.files (c.in_ok-n.ensures.bytes t));
  files = c.in_ok-n.ensures.only_reads.files ∙ c.loop-filled.invariant.files;
  reads = c.in_ok-n.ensures.cause.kept ∙ c.loop-filled.invariant.reads;
  writes = c.in_ok-n.ensures.only_reads.other_count ∙ c.loop-filled.invariant.writes;
}
