use Rattle.std.proofs.Common.{◌≡◌, ◌∙◌, length, take, drop, ap}
use Rattle.std.proofs.lemmas.List.{length-take-le}
use Rattle.ses_io.specs.Files.{content}
use Rattle.wav_codec.specs.Progress.{wanted_long}
use Rattle.audio_source.proofs.HeadLaws as laws
use Rattle.audio_source.proofs.heading.step.Goals as goal

pub returns-in-Err-clause-told : goal.returns-in-Err-clause-told
returns-in-Err-clause-told g c = λ t agrees. let b = content (g.M.Media.outside.files c.args.media.now) c.args.name.now in
    let want = c.want-want.result in
    let long : length c.read_at_full.new.buf ≡ want.length = c.read_at_full.auto.buf ∙ length-take-le want.length _ c.want-want.ensures.few in
    laws.refusal_told c.args.scan b c.in-Err.refusal c.requires (c.in-Err.ensures.answer b agrees
    (laws.wanted_read b want.at want.length c.in_ok-read.read c.read_at_full.new.buf _ (c.in_ok-read.ensures.bytes t) (c.in_ok-read.ensures.all t) long ∙ ap (λ n. take n (drop want.at b)) c.want-want.ensures.length ∙ ap (λ a. take (wanted_long c.args.scan) (drop a b)) c.want-want.ensures.at))
