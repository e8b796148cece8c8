use Rattle.std.proofs.Common.{sym, subst}
use Rattle.butler.specs.Takes.{MayRecord}
use Rattle.session_opening.proofs.FileLemmas.{have_files}
use Rattle.beside_tests.proofs.side_opening.start_of.Goals as goal

-- src/side_opening.rt
pub returns-clause-record : goal.returns-clause-record
returns-clause-record g c tells = let media = g.M.Media.outside in let l = c.in_ok-edition.field-0 in let is = c.in_ok-edition.ensures in let files = media.files c.args.media in
    subst (λ f. MayRecord l.edition.session f l.sources.opened) (sym is.only_reads.files)
    (record { fresh = is.fresh tells; there = have_files files l.edition.session.rate l.edition.session.sources.items l.sources.opened (is.heads tells) })
