use Rattle.std.proofs.Common.{◌≡◌, ◌∙◌, ap, length, rules}
use Rattle.std.specs.Prelude.{true, false}
use Rattle.std.specs.Option.{is_some}
use Rattle.ses_io.specs.Files.{content}
use Rattle.report_verdict.specs.Master.{is_silent_from}
use Rattle.report_check.specs.Checking.{samples_read}
use Rattle.report_check.proofs.BehindLemmas.{entry_falls, last_falls, last_stands}
use Rattle.report_check.proofs.entries.fallen_behind.Goals as goal

pub returns-then-is_some-clause-told : goal.returns-then-is_some-clause-told
returns-then-is_some-clause-told g c = λ t. let files = g.M.Media.outside.files c.args.media.now in
    entry_falls c.args.s.now c.args.history.now.edits (samples_read files c.args.sources.now c.args.s.now c.args.history.now.edits) (content files c.args.master.now) c.args.cycles c.args.entries.now
    c.in_ok-fallen.fallen (let some : is_some c.in_ok-fallen.fallen ≡ true = search rules in some) (c.in_ok-fallen.ensures.told t)

pub returns-then-silent-clause-told : goal.returns-then-silent-clause-told
returns-then-silent-clause-told g c = λ t. let files = g.M.Media.outside.files c.args.media.now in
    last_stands c.args.s.now c.args.history.now.edits (samples_read files c.args.sources.now c.args.s.now c.args.history.now.edits) (content files c.args.master.now) c.args.cycles c.args.entries.now
    c.in_ok-fallen.fallen c.in_ok-silent.silent (let none : is_some c.in_ok-fallen.fallen ≡ false = search rules in none) (c.in_ok-fallen.ensures.told t)
    (c.in_ok-silent.ensures.told t.tells ∙ ap (λ f. is_silent_from c.args.s.now (length c.args.entries.now) c.args.cycles (content f c.args.master.now)) c.in_ok-fallen.ensures.read.only_reads.files)
    (let still : c.in_ok-silent.silent ≡ true = search rules in still)

pub returns-else-silent-clause-told : goal.returns-else-silent-clause-told
returns-else-silent-clause-told g c = λ t. let files = g.M.Media.outside.files c.args.media.now in
    last_falls c.args.s.now c.args.history.now.edits (samples_read files c.args.sources.now c.args.s.now c.args.history.now.edits) (content files c.args.master.now) c.args.cycles c.args.entries.now
    c.in_ok-fallen.fallen c.in_ok-silent.silent (let none : is_some c.in_ok-fallen.fallen ≡ false = search rules in none) (c.in_ok-fallen.ensures.told t)
    (c.in_ok-silent.ensures.told t.tells ∙ ap (λ f. is_silent_from c.args.s.now (length c.args.entries.now) c.args.cycles (content f c.args.master.now)) c.in_ok-fallen.ensures.read.only_reads.files)
    (let fell : c.in_ok-silent.silent ≡ false = search rules in fell)
