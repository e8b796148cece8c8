use Rattle.std.specs.Prelude.{◌≡◌}
use Rattle.serve_worker.specs.Kept.{KeepsButler}
use Rattle.serve_worker.specs.Serves.{FlushesAlone, entered_last, served_from}
use Rattle.serve_worker.proofs.serving.flush_out.Given as goal

abbrev pub ghost-in_edition : goal.ghost-in_edition
ghost-in_edition g a = served_from g.M.Media.outside a.told.now (entered_last a.w)

abbrev pub invariant-loop-turn : goal.invariant-loop-turn
invariant-loop-turn g l = record {
  flushes : FlushesAlone g.M.Media.outside l.told l.w;
  keeps : KeepsButler l.fn.w.butler l.w.butler;
  reader : l.w.reader ≡ l.fn.w.reader;
  unread : g.M.Media.outside.read_faults l.w.butler.media ≡ g.M.Media.outside.read_faults l.fn.w.butler.media;
}
