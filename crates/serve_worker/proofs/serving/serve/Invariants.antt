use mathlib.Core.List.{IsPrefix}
use Rattle.route_lists.specs.Answers.{HasSameTold}
use Rattle.serve_worker.specs.Kept.{KeepsButler}
use Rattle.serve_worker.specs.Serves.{ServesAlone, entered_last, served_from}
use Rattle.serve_worker.proofs.serving.serve.Given as goal

abbrev pub ghost-one : goal.ghost-one
ghost-one g a = served_from g.M.Media.outside a.told.now (entered_last a.w)

abbrev pub invariant-loop-turn : goal.invariant-loop-turn
invariant-loop-turn g l = record {
  serves : ServesAlone g.M.Media.outside l.told l.w;
  keeps : KeepsButler l.fn.w.butler l.w.butler;
  told : HasSameTold l.fn.w.reader l.w.reader;
  grows : IsPrefix l.fn.w.reader.edition.edits l.w.reader.edition.edits;
}
