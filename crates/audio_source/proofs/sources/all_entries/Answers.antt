use Rattle.std.proofs.Common.{◌∙◌, ap, length, arith, subst, rules}
use Rattle.ses_io.specs.Files.{Files}
use Rattle.wav_codec.specs.Info.{IsFound}
use Rattle.audio_source.specs.Answers.{IsRefusalOf}
use Rattle.audio_source.specs.Opened.{opened_source, IsListedAs, IsOpenedAs}
use Rattle.audio_source.proofs.PairLaws as laws
use Rattle.audio_source.proofs.sources.all_entries.Goals as goal

pub returns-in-Err-clause-refused : goal.returns-in-Err-clause-refused
returns-in-Err-clause-refused g c = λ t. let list = c.args.list.now.items in let d = c.index-decls-source.result in
    let at = laws.item_at c.as_slice-decls.result.now list c.loop-source.source d c.as_slice-decls.ensures.items (omega (arith, c.loop-source-test.true, c.len-source-end.ensures.len, ap length c.as_slice-decls.ensures.items)) c.index-decls-source.is in
    let K : Files → Type 0 = λ fs. IsRefusalOf fs c.args.rate d c.loop-source.source c.in-Err.refusal in
    laws.names_first (g.M.Media.outside.files c.args.media.now) c.args.rate list _ c.loop-source.source d c.in-Err.refusal (c.loop-source.invariant.told t) at
    (subst K c.loop-source.invariant.files (c.in-Err.ensures.refused t))

pub loop-source-preserved : goal.loop-source-preserved
loop-source-preserved g c = let list = c.args.list.now.items in let d = c.index-decls-source.result in
    let at = laws.item_at c.as_slice-decls.result.now list c.loop-source.source d c.as_slice-decls.ensures.items (omega (arith, c.loop-source-test.true, c.len-source-end.ensures.len, ap length c.as_slice-decls.ensures.items)) c.index-decls-source.is in
    let K : Files → Type 0 = λ fs. IsOpenedAs fs c.args.rate d (opened_source c.in-Ok.entry) in
    record {
      found = laws.all_push (λ e. IsFound e.info) c.loop-source.entries.items c.push.new.self.items c.in-Ok.entry c.loop-source.invariant.found (search rules) c.in-Ok.ensures.found;
      listed = laws.paired_push (IsListedAs c.args.rate) opened_source list c.loop-source.entries.items c.push.new.self.items c.loop-source.source d c.in-Ok.entry
          c.loop-source.invariant.listed at (search rules) c.in-Ok.ensures.listed;
      told = λ t. laws.paired_push (IsOpenedAs (g.M.Media.outside.files c.args.media.now) c.args.rate) opened_source list c.loop-source.entries.items c.push.new.self.items c.loop-source.source d c.in-Ok.entry
          (c.loop-source.invariant.told t) at (search rules) (subst K c.loop-source.invariant.files (c.in-Ok.ensures.told t));
      files = c.in-Ok.ensures.only_reads.files ∙ c.loop-source.invariant.files;
      reads = c.in-Ok.ensures.cause ∙ c.loop-source.invariant.reads;
      writes = c.in-Ok.ensures.only_reads.other_count ∙ c.loop-source.invariant.writes;
    }
