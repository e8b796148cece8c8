use Rattle.std.proofs.Common.{sym, subst, rules}
use Rattle.butler.specs.Takes.{MayRecord}
use Rattle.session_opening.proofs.FileLemmas.{have_files}
use Rattle.thread_rows.proofs.opening.opened.Goals as goal

-- src/opening.rt:31:1
pub returns-clause-may : goal.returns-clause-may
returns-clause-may g c = let media = g.M.Media.outside in let l = c.in_ok-edition.field-0 in let is = c.in_ok-edition.ensures in let files = media.files c.args.world.media in
    record {
      valid = is.loaded.valid;
      edition_of = is.loaded.edition;
      first = is.loaded.edits;
      not_ended = is.loaded.ended;
      listed = is.loaded.listed;
      held = is.loaded.held;
      some_cycle = search rules;
      near = search rules;
      form_found = c.in-Ok.ensures.found;
      may_record = λ no_script tells. subst (λ f. MayRecord l.edition.session f l.sources.opened) (sym is.only_reads.files)
          (record { fresh = is.fresh tells; there = have_files files l.edition.session.rate l.edition.session.sources.items l.sources.opened (is.heads tells) });
    }
