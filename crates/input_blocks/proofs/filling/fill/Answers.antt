use Rattle.std.proofs.Common.{◌≡◌, ◌*◌, ◌/◌, length, take, drop, ◌++◌, ◌<◌, arith, ◌∙◌, ap, sym, subst}
use Rattle.std.proofs.lemmas.List.{take-append-le, length-take-le}
use Rattle.audio_source.proofs.ByteLaws as bytes
use Rattle.audio_source.proofs.SpanLaws as laws
use Rattle.wav_codec.specs.Info.{form_read}
use Rattle.input_blocks.proofs.FrontLemmas as fronts
use Rattle.input_blocks.proofs.filling.fill.Goals as goal

pub slice_bounds-fetch-end : goal.slice_bounds-fetch-end
slice_bounds-fetch-end g c = fronts.fit c.min-frames.result c.requires.1.0 c.min-frames.ensures

pub slice_bounds-fetch-end-2 : goal.slice_bounds-fetch-end-2
slice_bounds-fetch-end-2 g c = let info = c.args.info.now in
    sym (length-take-le (c.min-frames.result * info.channels * (info.bits / 8)) c.args.buf.now (fronts.fit c.min-frames.result c.requires.1.0 c.min-frames.ensures))

pub fetch-requires-clause-whole : goal.fetch-requires-clause-whole
fetch-requires-clause-whole g c = let info = c.args.info.now in
    bytes.cut_whole c.min-frames.result info.channels (info.bits / 8) c.args.buf.now (fronts.fit c.min-frames.result c.requires.1.0 c.min-frames.ensures)

pub returns-in_err-read-clause-lost : goal.returns-in_err-read-clause-lost
returns-in_err-read-clause-lost g c = λ t. let info = c.args.info.now in let f = c.min-frames.result in
    let asked = length-take-le (f * info.channels * (info.bits / 8)) c.args.buf.now (fronts.fit f c.requires.1.0 c.min-frames.ensures) in
    fronts.after_a_fault c.from_residual.result
    (fronts.loses_of _ _ _ _ (asked ∙ bytes.frames_times f info.channels (info.bits / 8) ∙ ap (λ n. n * (info.channels * (info.bits / 8))) c.min-frames.ensures) (c.in_err-read.ensures.lost t))

pub returns-in_err-read-clause-asked : goal.returns-in_err-read-clause-asked
returns-in_err-read-clause-asked g c = let info = c.args.info.now in let f = c.min-frames.result in
    let asked = length-take-le (f * info.channels * (info.bits / 8)) c.args.buf.now (fronts.fit f c.requires.1.0 c.min-frames.ensures) in
    fronts.after_a_fault c.from_residual.result
    (subst (λ n. 0 < n) (asked ∙ bytes.frames_times f info.channels (info.bits / 8) ∙ ap (λ n. n * (info.channels * (info.bits / 8))) c.min-frames.ensures) c.in_err-read.ensures.asked)

pub deliver-requires-clause-whole : goal.deliver-requires-clause-whole
deliver-requires-clause-whole g c = let info = c.args.info.now in
    bytes.given_whole c.in_ok-read.read info.channels (info.bits / 8) c.fetch.new.buf _ c.in_ok-read.ensures.bound c.in_ok-read.ensures.whole

pub deliver-requires-clause-room : goal.deliver-requires-clause-room
deliver-requires-clause-room g c = let info = c.args.info.now in let f = c.min-frames.result in let has = c.requires.1.0 in
    bytes.given_room c.in_ok-read.read f (length c.args.out.now) info.channels (info.bits / 8) c.fetch.new.buf _ c.in_ok-read.ensures.bound
    (omega (arith, c.fetch.auto.buf, length-take-le (f * info.channels * (info.bits / 8)) c.args.buf.now (fronts.fit f has c.min-frames.ensures))) (omega (arith, c.min-frames.ensures))

pub returns-clause-place : goal.returns-clause-place
returns-clause-place g c = λ t. let info = c.args.info.now in let f = c.min-frames.result in
    fronts.further_on c.args.from f info.channels (info.bits / 8) (length (take (f * info.channels * (info.bits / 8)) c.args.buf.now)) g.start _ _ (c.requires.1.1 t) (c.in_ok-read.ensures.rest t)
    (length-take-le (f * info.channels * (info.bits / 8)) c.args.buf.now (fronts.fit f c.requires.1.0 c.min-frames.ensures))

pub returns-clause-samples : goal.returns-clause-samples
returns-clause-samples g c = λ t. let info = c.args.info.now in let f = c.min-frames.result in let many = length c.args.out.now in
    let has = c.requires.1.0 in let n = c.in_ok-read.read in let asked = f * info.channels * (info.bits / 8) in
    let long : length c.fetch.new.buf ≡ asked = c.fetch.auto.buf ∙ length-take-le asked c.args.buf.now (fronts.fit f has c.min-frames.ensures) in
    laws.stretch (record { form = form_read info; data_at = 0; frames = info.frames }) g.start c.args.from many f n c.fetch.new.buf
    (take n (c.fetch.new.buf ++ drop asked c.args.buf.now)) c.deliver.new.out
    (record {
      depth = has.found.form.bits;
      channels = has.found.form.one_channel;
      inside = has.inside;
      wholes = has.whole;
      wanted_are = c.min-frames.ensures;
      room = long ∙ bytes.frames_times f info.channels (info.bits / 8);
      few = c.in_ok-read.ensures.bound;
      whole = c.in_ok-read.ensures.whole;
      piece = fronts.piece_of (form_read info) info.frames c.args.from n g.start _ c.fetch.new.buf (c.requires.1.1 t) (c.in_ok-read.ensures.front t);
      bytes_are = take-append-le n c.fetch.new.buf (drop asked c.args.buf.now) c.in_ok-read.ensures.bound;
      out_is = c.deliver.ensures.samples;
    })
