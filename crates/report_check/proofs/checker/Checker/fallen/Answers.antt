use Rattle.std.proofs.Common.{◌≡◌, ◌+◌, ◌∙◌, arith, rules, sym, subst, suc}
use Rattle.std.specs.Prelude.{Some, slice_get, true, false}
use Rattle.std.proofs.lemmas.Grind.{common_steps}
use Rattle.std.proofs.lemmas.Option.{gets}
use Rattle.ses_io.specs.Files.{content}
use Rattle.cycle_journal.specs.JournalView.{seen_entries, seen_entry}
use Rattle.track_render.proofs.ReadLemmas.{read_on, went}
use Rattle.report_check.specs.Checking.{HasChecked, samples_read}
use Rattle.report_check.proofs.EntryLemmas.{IsPassed, falls_here, passes, seen_at}
use Rattle.report_check.proofs.LoopLemmas.{one_done, stands_on, told_later}
use Rattle.report_check.proofs.checker.Checker.fallen.Goals as goal

pub returns-then-not-branch-clause-told : goal.returns-then-not-branch-clause-told
returns-then-not-branch-clause-told g c = λ t. let l = c.loop-c in let outside = g.M.Media.outside in let s = c.args.s.now in let edits = c.args.history.now.edits in let entries = c.args.entries.now in
    let e = c.index-entries-c.result in let read = l.invariant.read in
    let here : slice_get entries l.c ≡ Some e = grind (arith, common_steps, gets, c.index-entries-c.is, c.loop-c-test.true) in
    let fell : c.in_ok-entry_stands.field-0 ≡ false = search rules in
    sym (falls_here s edits (samples_read (outside.files c.args.media.now) c.args.sources.now s edits) (content (outside.files c.args.media.now) c.args.master.now) (seen_entries entries) l.c (seen_entry e) (seen_at entries l.c e here) (l.invariant.passed t)
    (sym (stands_on outside c.args.media.now l.media c.args.sources.now l.sources went read s edits c.args.master.now entries l.c (seen_entry e))
    ∙ sym (c.in_ok-entry_stands.ensures.told (told_later outside c.args.media.now l.media c.args.sources.now l.sources went read s edits c.args.master.now t)) ∙ fell))

pub returns-then-not-branch-clause-read : goal.returns-then-not-branch-clause-read
returns-then-not-branch-clause-read g c = let l = c.loop-c in read_on g.M.Media.outside c.args.media.now l.media c.entry_stands.new.media c.args.sources.now l.sources c.entry_stands.new.sources tt went l.invariant.read c.in_ok-entry_stands.ensures.read

pub loop-c-preserved : goal.loop-c-preserved
loop-c-preserved g c = let l = c.loop-c in let outside = g.M.Media.outside in let s = c.args.s.now in let edits = c.args.history.now.edits in let entries = c.args.entries.now in
    let e = c.index-entries-c.result in let read = l.invariant.read in
    let here : slice_get entries l.c ≡ Some e = grind (arith, common_steps, gets, c.index-entries-c.is, c.loop-c-test.true) in
    let stood : c.in_ok-entry_stands.field-0 ≡ true = search rules in record {
      checked = subst (λ done. HasChecked s edits done c.entry_stands.new.self) (sym (one_done entries l.c e here)) (c.in_ok-entry_stands.ensures.checked (search rules));
      within = omega (arith, c.loop-c-test.true);
      read = read_on outside c.args.media.now l.media c.entry_stands.new.media c.args.sources.now l.sources c.entry_stands.new.sources tt went read c.in_ok-entry_stands.ensures.read;
      passed = λ t. let next : suc l.c ≡ l.c + 1 = omega arith in let samples = samples_read (outside.files c.args.media.now) c.args.sources.now s edits in let file = content (outside.files c.args.media.now) c.args.master.now in
          subst (IsPassed s edits samples file (seen_entries entries)) next
          (passes s edits samples file (seen_entries entries) l.c (seen_entry e) (seen_at entries l.c e here) (l.invariant.passed t)
          (sym (stands_on outside c.args.media.now l.media c.args.sources.now l.sources went read s edits c.args.master.now entries l.c (seen_entry e))
          ∙ sym (c.in_ok-entry_stands.ensures.told (told_later outside c.args.media.now l.media c.args.sources.now l.sources went read s edits c.args.master.now t)) ∙ stood));
    }
