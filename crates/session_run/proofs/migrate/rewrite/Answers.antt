use Rattle.std.proofs.Common.{List, ℕ, sym, subst}
use Rattle.session_run.specs.Migrated.{IsMigratedText}
use Rattle.session_run.proofs.MigratedLemmas.{own_text}
use Rattle.session_run.proofs.OutLemmas.{text_written}
use Rattle.session_run.proofs.migrate.rewrite.Goals as goal

pub returns-clause-written : goal.returns-clause-written
returns-clause-written g c = let r = c.write_text.ensures in let is_own : List ℕ → Type 0 = λ l. IsMigratedText g.M.Media.outside c.args.media.now c.args.name.now l in
    let own : is_own c.in-Ok-text_of_session.text.items = own_text g.M.Media.outside c.args.media.now c.args.name.now c.in-Ok.session c.in-Ok.ensures.read c.in-Ok.ensures.told
    c.in-Ok-text_of_session.text.items c.in-Ok-text_of_session.ensures.read_back c.in-Ok-text_of_session.ensures.keys in
    text_written g.O.Sink.outside is_own c.args.out.now c.write_text.new.out c.write_text.result c.as_slice.result.now (subst is_own (sym c.as_slice.ensures.value) own) r.ends r.whole r.front
