use Rattle.std.proofs.Common.{ℕ, ◌++◌, ap, sym, ◌∙◌, codes}
use Rattle.audio_source.specs.declared.refusal.FileRefusal.{FileRefusal}
use Rattle.fault_lines.specs.File.{file_words, two_numbers}
use Rattle.fault_lines.proofs.PieceLemmas.{then_more}
use Rattle.fault_lines.proofs.line.Line.file.Goals as goal

pub returns-in-ChannelsDiffer-clause-bytes : goal.returns-in-ChannelsDiffer-clause-bytes
returns-in-ChannelsDiffer-clause-bytes c =
    let has = c.in-ChannelsDiffer.has in
    let want = c.in-ChannelsDiffer.want in
    let line = c.word-line-in-ChannelsDiffer.result.text.bytes in
    let first = ap (λ (n : ℕ). line ++ two_numbers n c.from-in-ChannelsDiffer-2.result) c.from-in-ChannelsDiffer.ensures in
    let second = ap (λ (n : ℕ). line ++ two_numbers has n) c.from-in-ChannelsDiffer-2.ensures in
    then_more c.args.self.text.bytes (codes "channels-differ ") (two_numbers has want) c.word-line-in-ChannelsDiffer.ensures.bytes (c.numbers-in-ChannelsDiffer.ensures.bytes ∙ first ∙ second)
    ∙ ap (λ (why : FileRefusal). c.args.self.text.bytes ++ file_words why) (sym c.in-ChannelsDiffer.is)
