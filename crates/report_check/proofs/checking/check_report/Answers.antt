use Rattle.std.proofs.Common.{◌≡◌, refl, rules}
use Rattle.ses_io.specs.Files.{content}
use Rattle.audio_source.specs.Told.{source_sound}
use Rattle.report_check.proofs.CheckLemmas.{is_refuted, is_verified}
use Rattle.report_check.proofs.checking.check_report.Goals as goal

pub returns-in-Ok-Some-clause-told : goal.returns-in-Ok-Some-clause-told
returns-in-Ok-Some-clause-told g c = λ t. let r = c.args.report in let files = g.M.Media.outside.files c.args.media.now in
    let j : c.entries-entries.result.now ≡ r.journal.items = search rules in
    is_refuted c.args.s.now (source_sound files c.args.sources.now.opened) (content files c.args.master.now)
    r r.head r.edits.items c.entries-entries.result.now (record { head_is = refl; edits_are = refl; entries_are = j })
    c.in-Ok-Some.field-0 (c.in-Ok-Some.ensures.told t)
    r.first_line c.in-Ok-Some.k refl c.in-Ok-Some.field-0-is

pub returns-in-Ok-None-clause-told : goal.returns-in-Ok-None-clause-told
returns-in-Ok-None-clause-told g c = λ t. let r = c.args.report in let files = g.M.Media.outside.files c.args.media.now in
    let j : c.entries-entries.result.now ≡ r.journal.items = search rules in
    is_verified c.args.s.now (source_sound files c.args.sources.now.opened) (content files c.args.master.now)
    r r.head r.edits.items c.entries-entries.result.now (record { head_is = refl; edits_are = refl; entries_are = j })
    c.in-Ok-None.field-0 (c.in-Ok-None.ensures.told t)
    c.in-Ok-None.field-0-is
