use Rattle.std.proofs.Common.{◌≡◌, ℕ, ◌/◌, List, length, reverse, sym, subst}
use Rattle.std.specs.Prelude.{OnOk, ℤ}
use Rattle.sound_model.specs.Regions.{Sounds}
use Rattle.session_model.specs.Frames.{sounds_of}
use Rattle.session_model.specs.Region.{regions_of}
use Rattle.playlist_layers.specs.Spans.{SoundAlike, picked}
use Rattle.mix_kernel.proofs.Ranges.{whole_frames}
use Rattle.playlist_layers.proofs.SpanLemmas.{heard_alike}
use Rattle.playlist_layers.proofs.rendering.span.Goals as goal

pub returns-clause-told : goal.returns-clause-told
returns-clause-told g c = λ t.
    let sounds : Sounds = sounds_of (g.F.Frames.outside.frames c.args.frames.now) in
    let n : ℕ = length c.args.out.now in
    let alike = subst (λ ps. SoundAlike c.args.here (n / c.args.channels) (picked (regions_of c.args.regions.now) ps) (reverse (picked (regions_of c.args.regions.now) c.args.places.now)))
    (sym c.as_slice.ensures.value) c.heard.ensures.heard in
    subst (λ (want : List ℤ). OnOk c.hear.result (c.hear.new.out ≡ want))
    (heard_alike sounds (picked (regions_of c.args.regions.now) c.as_slice.result.now) (reverse (picked (regions_of c.args.regions.now) c.args.places.now)) c.args.channels c.args.here (n / c.args.channels) n
    c.requires.channels (whole_frames n c.args.channels c.requires.channels c.requires.whole) alike)
    (c.hear.ensures.told t)
