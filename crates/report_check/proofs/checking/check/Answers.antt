use Rattle.std.proofs.Common.{ap}
use Rattle.ses_io.specs.Files.{content}
use Rattle.audio_source.specs.Told.{source_sound}
use Rattle.report_reader.specs.Reading.{reported_of}
use Rattle.report_check.proofs.CheckLemmas.{verified_by}
use Rattle.report_check.proofs.LoopLemmas.{read_behind, told_behind}
use Rattle.report_check.proofs.checking.check.Goals as goal

pub returns-clause-told : goal.returns-clause-told
returns-clause-told g c = λ t. let m = g.M.Media.outside in let reads = c.in_ok-report.ensures.only_reads in let r = c.in_ok-report.report in let files = m.files c.args.media.now in let now = m.files c.report_in.new.media in
    verified_by c.args.s.now (source_sound files c.args.sources.now.opened) (source_sound now c.args.sources.now.opened) (content files c.args.report.now) (content files c.args.master.now) (content now c.args.master.now)
    r.first_line (reported_of r) c.check_report.result (c.in_ok-report.ensures.told t.tells) (ap (λ fs. source_sound fs c.args.sources.now.opened) reads.files) (ap (λ fs. content fs c.args.master.now) reads.files)
    (c.check_report.ensures.told (told_behind m c.args.media.now c.report_in.new.media reads c.args.sources.now t))

pub returns-clause-read : goal.returns-clause-read
returns-clause-read g c = read_behind g.M.Media.outside c.args.media.now c.report_in.new.media c.in_ok-report.ensures.only_reads c.check_report.new.media c.args.sources.now c.check_report.new.sources _
    c.in_ok-report.ensures.cause.kept c.check_report.ensures.read
