-- One more track.
use Rattle.std.proofs.Common.{◌+◌, ◌∙◌, ◌∷◌, ◌++◌, ap, sym, arith, take, []}
use Rattle.std.proofs.lemmas.List.{length-take-le}
use Rattle.session_toml.specs.Built.{numbered, track_in}
use Rattle.session_toml.proofs.NumberedLaws.{numbered-long, numbered-taken, listed-more, listed-room}
use Rattle.session_toml.proofs.build.tracks_in.Goals as goal

pub push-requires : goal.push-requires
push-requires c =
    listed-room 32 c.loop-i.i c.loop-i.tracks (numbered (track_in c.args.names.now) 0 (take c.loop-i.i c.args.texts.now)) c.loop-i.invariant
    (numbered-long (track_in c.args.names.now) 0 (take c.loop-i.i c.args.texts.now) ∙ length-take-le c.loop-i.i c.args.texts.now (omega (arith, c.loop-i-test.true)))
    (omega (arith, c.requires.few, c.loop-i-test.true))

pub loop-i-preserved : goal.loop-i-preserved
loop-i-preserved c =
    let one = c.in_ok-track.ensures in
    let text = c.index-texts-i.result in
    let done = numbered (track_in c.args.names.now) 0 (take c.loop-i.i c.args.texts.now) in
    listed-more 32 c.loop-i.tracks c.push.new.self done (numbered (track_in c.args.names.now) 0 (take (c.loop-i.i + 1) c.args.texts.now)) c.in_ok-track.track c.loop-i.invariant c.push.ensures
    (numbered-taken (track_in c.args.names.now) c.args.texts.now c.loop-i.i text c.loop-i-test.true
    ∙ ap (λ t. done ++ track_in c.args.names.now c.loop-i.i t ∷ []) (sym c.index-texts-i.is) ∙ ap (λ k. done ++ k ∷ []) (sym one))
