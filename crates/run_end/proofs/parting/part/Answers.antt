use Rattle.std.proofs.Common.{ap, ◌∙◌, refl}
use Rattle.cycle_journal.specs.JournalView.{seen_entries}
use Rattle.piece_item.specs.declared.butler_ends.ButlerEnds.{ButlerEnds}
use Rattle.run_rings.specs.Rings.{joined_tracks}
use Rattle.run_end.specs.declared.failures.Failures.{Failures}
use Rattle.run_end.proofs.PartLemmas.{finishes_so, not_quiet, not_recording, only_write}
use Rattle.run_end.proofs.parting.part.Goals as goal
use Rattle.run_end.proofs.parting.part.Goals.{then-records, else-records}

-- src/parting.rt
pub returns : goal.returns
returns g c = let old = c.args.rest in let e = old.ending in let joined = c.join_ends-tracks.ensures in record {
  input = refl;
  master = refl;
  journal = refl;
  edits = c.copy_edits.ensures;
  rings = joined.tracks ∙ ap (λ (b : ButlerEnds). joined_tracks e.ends b) c.parts-media.ensures.ends;
  whole = joined.whole;
  acks = joined.acks;
  acks_whole = joined.acks_whole;
  failed = elim c.if-records.branch [
    | then-records w ↦ only_write old.failed c.if-records.failed w.finish_takes.result w.failed-is
    | else-records w ↦ only_write old.failed c.if-records.failed old.failed.write w.failed-is
  ];
  quiet = λ quiet. elim c.if-records.branch [
    | then-records w ↦ not_quiet c.args.records e.butler.media c.if-records.media old.failed.write c.if-records.failed.write w.if-records.true quiet
    | else-records w ↦ (w.media-is ∙ c.parts-media.ensures.media, ap (λ (f : Failures). f.write) w.failed-is)
  ];
  finishes = λ recording. elim c.if-records.branch [
    | then-records w ↦ finishes_so g.M.Media.outside g.run (seen_entries old.stopped.journal.items) c.parts-media.result.files e.butler.drain.files old.failed c.if-records.failed w.finish_takes.result e.butler.media c.parts-media.result.media
        w.finish_takes.new.media c.if-records.media w.failed-is c.parts-media.ensures.media w.media-is c.parts-media.ensures.files w.finish_takes.ensures
    | else-records w ↦ not_recording g.M.Media.outside g.run (seen_entries old.stopped.journal.items) e.butler.drain.files c.args.records old.failed.write c.if-records.failed.write e.butler.media c.if-records.media w.if-records.false recording
  ];
}
