use Rattle.std.proofs.Common.{◌≡◌, ◌*◌, ◌/◌, length, take, drop, ◌++◌, arith, ◌∙◌, subst, List, ℕ}
use Rattle.std.proofs.lemmas.List.{take-append-le, length-take-le}
use Rattle.ses_io.specs.Files.{content}
use Rattle.wav_codec.specs.Info.{head_of}
use Rattle.audio_source.specs.Spans.{IsPieceAt}
use Rattle.audio_source.proofs.ByteLaws as bytes
use Rattle.audio_source.proofs.SpanLaws as laws
use Rattle.audio_source.proofs.span.span.Goals as goal

pub fetch-requires-clause-whole : goal.fetch-requires-clause-whole
fetch-requires-clause-whole g c = let info = c.args.entry.now.info in let f = c.min-frames.result in let many = length c.args.out.now in
    bytes.cut_whole f info.channels (info.bits / 8) c.args.buf.now
    (bytes.bytes_fit f many info.channels info.bits (length c.args.buf.now) c.requires.found.form.bits (omega (arith, c.min-frames.ensures)) c.requires.room)

pub deliver-requires-clause-whole : goal.deliver-requires-clause-whole
deliver-requires-clause-whole g c = let info = c.args.entry.now.info in
    bytes.given_whole c.in_ok-read.read info.channels (info.bits / 8) c.fetch.new.buf _ c.in_ok-read.ensures.bound c.in_ok-read.ensures.whole

pub deliver-requires-clause-room : goal.deliver-requires-clause-room
deliver-requires-clause-room g c = let info = c.args.entry.now.info in let f = c.min-frames.result in let many = length c.args.out.now in
    let fit = bytes.bytes_fit f many info.channels info.bits (length c.args.buf.now) c.requires.found.form.bits (omega (arith, c.min-frames.ensures)) c.requires.room in
    bytes.given_room c.in_ok-read.read f many info.channels (info.bits / 8) c.fetch.new.buf _ c.in_ok-read.ensures.bound
    (omega (arith, c.fetch.auto.buf, length-take-le (f * info.channels * (info.bits / 8)) c.args.buf.now fit)) (omega (arith, c.min-frames.ensures))

pub returns-clause-told : goal.returns-clause-told
returns-clause-told g c = λ t. let info = c.args.entry.now.info in let f = c.min-frames.result in let many = length c.args.out.now in
    let n = c.in_ok-read.read in let asked = f * info.channels * (info.bits / 8) in
    let fit = bytes.bytes_fit f many info.channels info.bits (length c.args.buf.now) c.requires.found.form.bits (omega (arith, c.min-frames.ensures)) c.requires.room in
    let long : length c.fetch.new.buf ≡ asked = c.fetch.auto.buf ∙ length-take-le asked c.args.buf.now fit in
    laws.stretch (head_of info) (content (g.M.Media.outside.files c.args.media.now) c.args.entry.now.file) c.args.from many f n c.fetch.new.buf
    (take n (c.fetch.new.buf ++ drop asked c.args.buf.now)) c.deliver.new.out
    (record {
      depth = c.requires.found.form.bits;
      channels = c.requires.found.form.one_channel;
      inside = c.requires.inside;
      wholes = c.requires.whole;
      wanted_are = c.min-frames.ensures;
      room = long ∙ bytes.frames_times f info.channels (info.bits / 8);
      few = c.in_ok-read.ensures.bound;
      whole = c.in_ok-read.ensures.whole;
      piece = let K : List ℕ → Type 0 = λ name. IsPieceAt (head_of info) (content (g.M.Media.outside.files c.args.media.now) name) c.args.from c.fetch.new.buf n in
          subst K c.as_str.ensures.bytes (c.in_ok-read.ensures.told t);
      bytes_are = take-append-le n c.fetch.new.buf (drop asked c.args.buf.now) c.in_ok-read.ensures.bound;
      out_is = c.deliver.ensures.samples;
    })
