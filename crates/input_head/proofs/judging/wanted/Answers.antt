use Rattle.std.proofs.Common.{◌∙◌, ap, arith, max, fold, get_or, length}
use Rattle.std.proofs.lemmas.List.{take_all}
use Rattle.std.proofs.lemmas.Option.{slice_get_read}
use Rattle.session_model.specs.declared.track.Track.{Track}
use Rattle.std.specs.Prelude.{List}
use Rattle.input_head.specs.Input.{taken_by, wanted_channels}
use Rattle.input_head.proofs.WantedLemmas.{route_within, input_within}
use Rattle.input_head.proofs.judging.wanted.Goals as goal

pub taken_by-requires-clause-route : goal.taken_by-requires-clause-route
taken_by-requires-clause-route c = let s = c.args.session.now in let same = c.as_slice-track-items.ensures.items in let k = c.track-item.result in
    route_within s c.loop-track.track-index k c.requires
    (slice_get_read s.tracks.items _ c.loop-track.track-index k (ap length same) c.loop-track-test.true (c.track-item.is ∙ ap (λ (ks : List Track). get_or ks c.loop-track.track-index k) same))

pub taken_by-requires-clause-few : goal.taken_by-requires-clause-few
taken_by-requires-clause-few c = let s = c.args.session.now in let same = c.as_slice-track-items.ensures.items in let k = c.track-item.result in
    input_within s c.loop-track.track-index k c.requires
    (slice_get_read s.tracks.items _ c.loop-track.track-index k (ap length same) c.loop-track-test.true (c.track-item.is ∙ ap (λ (ks : List Track). get_or ks c.loop-track.track-index k) same))

pub returns : goal.returns
unfolding wanted_channels
returns c = let s = c.args.session.now in
    c.loop-track.invariant ∙ ap (λ (ks : List Track). fold (λ most k. max most (taken_by s k)) 0 ks)
    (take_all c.loop-track.track-index s.tracks.items (omega (arith, c.loop-track-test.false, ap length c.as_slice-track-items.ensures.items)))
