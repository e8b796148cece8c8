-- The block that was put is the track's, and the box that comes back fits the ring.
use Rattle.std.proofs.Common.{rules, ◌≡◌, ◌*◌, ◌∙◌, length, ap}
use Rattle.session_model.specs.Formed.{channels_at}
use Rattle.track_capture.specs.Picked.{picked}
use Rattle.track_capture.specs.Counted.{FitsRing, block_at}
use Rattle.track_capture.proofs.BlockLemmas.{is_taken, block_long, still_fits}
use Rattle.track_capture.proofs.capture.TrackCapture.capture.Goals as goal

pub returns-in-Ok-clause-captured : goal.returns-in-Ok-clause-captured
returns-in-Ok-clause-captured g c = let s = c.args.session.now in let t = c.args.track in let box = c.in-Some.block.value in
    let room : length box.samples.items ≡ s.block * channels_at s t = search rules in
    let is : c.fill.new.block ≡ block_at box c.next-place.result (picked s t c.args.channels c.args.input.now) = search rules in
    is_taken s t c.args.channels c.args.input.now c.args.ring.now _ box c.fill.new.block _ c.next-place.result room is c.in-Ok.ensures.answer

pub returns-in-Err-clause-fits : goal.returns-in-Err-clause-fits
returns-in-Err-clause-fits g c = let s = c.args.session.now in let t = c.args.track in let box = c.in-Some.block.value in
    let room : length box.samples.items ≡ s.block * channels_at s t = search rules in
    let is : c.fill.new.block ≡ block_at box c.next-place.result (picked s t c.args.channels c.args.input.now) = search rules in
    let fits : FitsRing (s.block * channels_at s t) c.args.self.now c.args.ring.now = search rules in
    still_fits (s.block * channels_at s t) c.args.self.now _ c.args.ring.now _ fits
    (ap (λ b. length b.value.samples.items) c.in-Err.ensures.answer.0 ∙ block_long s t c.args.channels c.args.input.now box c.fill.new.block c.next-place.result room is)
    (ap (λ d. d.room) c.in-Err.ensures.answer.1.heads) (ap (λ d. d.closed) c.in-Err.ensures.answer.1.heads)
