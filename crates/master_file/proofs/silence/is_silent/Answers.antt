use Rattle.std.proofs.Common.{◌≡◌, ◌+◌, ◌∙◌, true, false, ap, arith, rules, sym}
use Rattle.std.specs.Prelude.{◌&&◌}
use Rattle.ses_io.specs.Files.{content}
use Rattle.report_verdict.specs.Master.{is_silent_from}
use Rattle.master_file.proofs.SilenceLemmas.{by_one, none_left}
use Rattle.master_file.proofs.silence.is_silent.Goals as goal

pub returns-then-not-branch-clause-told : goal.returns-then-not-branch-clause-told
returns-then-not-branch-clause-told g c = λ t. let l = c.loop-block in
    let rest = is_silent_from c.args.s.now (l.block + 1) c.args.to (content (g.M.Media.outside.files c.args.media.now) c.args.name.now) in
    let fell : c.in_ok-holds.field-0 ≡ false = search rules in
    sym (l.invariant.rest t ∙ by_one c.args.s.now l.block c.args.to _ c.args.silence.now _ _ c.in_ok-holds.field-0
    (omega (arith, c.loop-block-test.true)) (omega (arith, c.data_long-place.ensures.long)) c.requires.silence
    (ap (λ files. content files c.args.name.now) l.invariant.only_reads.files) (c.in_ok-holds.ensures.told t) ∙ ap (λ b. b && rest) fell)

pub loop-block-preserved : goal.loop-block-preserved
loop-block-preserved g c = let l = c.loop-block in record {
  only_reads = record { files = c.in_ok-holds.ensures.only_reads.files ∙ l.invariant.only_reads.files; other_count = c.in_ok-holds.ensures.only_reads.other_count ∙ l.invariant.only_reads.other_count };
  count = c.in_ok-holds.ensures.cause.kept ∙ l.invariant.count;
  order = omega (arith, c.loop-block-test.true);
  room = c.in_ok-holds.ensures.long ∙ l.invariant.room;
  rest = λ t. let rest = is_silent_from c.args.s.now (l.block + 1) c.args.to (content (g.M.Media.outside.files c.args.media.now) c.args.name.now) in
      let stood : c.in_ok-holds.field-0 ≡ true = search rules in
      l.invariant.rest t ∙ by_one c.args.s.now l.block c.args.to _ c.args.silence.now _ _ c.in_ok-holds.field-0
      (omega (arith, c.loop-block-test.true)) (omega (arith, c.data_long-place.ensures.long)) c.requires.silence
      (ap (λ files. content files c.args.name.now) l.invariant.only_reads.files) (c.in_ok-holds.ensures.told t) ∙ ap (λ b. b && rest) stood;
}

pub returns-clause-told : goal.returns-clause-told
returns-clause-told g c = λ t. sym (c.loop-block.invariant.rest t ∙ ap (λ n. is_silent_from c.args.s.now n c.args.to (content (g.M.Media.outside.files c.args.media.now) c.args.name.now))
    (omega (arith, c.loop-block.invariant.order, c.loop-block-test.false)) ∙ none_left c.args.s.now c.args.to _)
