use Rattle.std.proofs.Common.{◌≡◌, ◌∙◌, ◌+◌, ap, arith, length, sym}
use Rattle.std.specs.Prelude.{Some}
use Rattle.std.specs.Option.{option_map}
use Rattle.ses_io.specs.Files.{content}
use Rattle.report_check.specs.Checking.{samples_read}
use Rattle.report_check.proofs.BehindLemmas.{behind_edits}
use Rattle.report_check.proofs.lines.fallen_behind_edits.Goals as goal

pub returns-in-Some-clause-told : goal.returns-in-Some-clause-told
returns-in-Some-clause-told g c = λ t. let files = g.M.Media.outside.files c.args.media.now in let edits = c.args.history.now.edits in
    let many : 1 + length c.edits.result.now + c.from.result ≡ 1 + length edits + c.in-Some.k = omega (arith, ap length c.edits.ensures, c.from.ensures) in
    ap Some many ∙ sym (behind_edits c.args.s.now edits (samples_read files c.args.sources.now c.args.s.now edits) (content files c.args.master.now) c.args.cycles c.args.entries.now c.requires.history.accepted
    ∙ ap (option_map (λ k. 1 + length edits + k)) (sym (c.in_ok-k.ensures.told t) ∙ c.in-Some.is))

pub returns-in-None-clause-told : goal.returns-in-None-clause-told
returns-in-None-clause-told g c = λ t. let files = g.M.Media.outside.files c.args.media.now in let edits = c.args.history.now.edits in
    sym (behind_edits c.args.s.now edits (samples_read files c.args.sources.now c.args.s.now edits) (content files c.args.master.now) c.args.cycles c.args.entries.now c.requires.history.accepted
    ∙ ap (option_map (λ k. 1 + length edits + k)) (sym (c.in_ok-k.ensures.told t) ∙ c.in-None.is))
