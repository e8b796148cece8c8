use Rattle.std.proofs.Common.{◌≡◌, ◌∙◌, ap, rules}
use Rattle.std.specs.Prelude.{Some, Err}
use Rattle.ses_io.specs.Files.{content}
use Rattle.report_check.specs.Checking.{samples_read}
use Rattle.report_check.proofs.BehindLemmas.{edit_falls, first_of_refused}
use Rattle.report_check.proofs.lines.fallen_behind_form.Goals as goal

pub returns-in-Err-Refused-clause-told : goal.returns-in-Err-Refused-clause-told
returns-in-Err-Refused-clause-told g c = λ t. let files = g.M.Media.outside.files c.args.media.now in let edits = c.args.edits.items in
    let same : c.from.result ≡ c.in-Err-Refused.n = search rules in
    ap Some same ∙ edit_falls c.args.s.now edits (samples_read files c.args.sources.now c.args.s.now edits) (content files c.args.master.now) c.args.cycles c.args.entries.now
    c.in-Err-Refused.n (first_of_refused c.args.s.now edits c.of.result c.in-Err-Refused.n (c.in-Err-Refused.is ∙ ap Err c.in-Err-Refused.field-0-is) c.of.ensures.refused)
