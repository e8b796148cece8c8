use Rattle.std.proofs.Common.{◌++◌, ◌*◌, [], length, arith, sym, ap, ◌∙◌}
use Rattle.std.specs.Prelude.{replicate}
use Rattle.capture_flush.proofs.WriteLemmas.{Adds-none, Adds-then, Adds-as, Adds-stopped}
use Rattle.capture_flush.proofs.TimesLemmas.{once_more, times_from}
use Rattle.std.proofs.lemmas.List.{append_assoc}
use Rattle.capture_flush.proofs.writes.append_repeated.Goals as goal

pub loop-time-init : goal.loop-time-init
loop-time-init g c = record { added = Adds-as g.M.Media.outside _ [] _ _ _ _ (ap (λ n. replicate n 0) {x = 0} {y = 0 * length c.args.zeros.now} (omega arith)) (Adds-none g.M.Media.outside _ _); zeros = c.requires }

pub loop-time-preserved : goal.loop-time-preserved
loop-time-preserved g c = record {
  added = Adds-as g.M.Media.outside _ _ _ _ _ _ (once_more c.loop-time.time c.args.zeros.now c.requires) (Adds-then g.M.Media.outside _ _ _ _ _ _ _ c.loop-time.invariant.added c.in_ok-append_all.ensures);
  zeros = c.requires;
}

pub returns-in_err-append_all : goal.returns-in_err-append_all
returns-in_err-append_all g c = let zeros = c.args.zeros.now in let rest = times_from c.loop-time.time c.args.times (length zeros) c.loop-time-test.true in
    Adds-stopped g.M.Media.outside _ (replicate (c.loop-time.time * length zeros) 0) zeros (replicate rest.0 0) _ _ _ _ _ _ c.from_residual.ensures.0
    (sym (append_assoc (replicate (c.loop-time.time * length zeros) 0) zeros (replicate rest.0 0)) ∙ ap (λ zs. zs ++ replicate rest.0 0) (once_more c.loop-time.time zeros c.requires) ∙ sym rest.1)
    c.loop-time.invariant.added c.in_err-append_all.ensures
