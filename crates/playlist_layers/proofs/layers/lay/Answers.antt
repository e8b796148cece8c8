use Rattle.std.proofs.Common.{◌≡◌, ℕ, ◌+◌, ◌-◌, ◌/◌, ◌∙◌, List, length, refl, ap, subst, rules}
use Rattle.std.specs.Prelude.{ℤ, pos, cond, replicate}
use Rattle.sound_model.specs.Regions.{Region, Sounds, fade}
use Rattle.session_model.specs.Region.{region_of}
use Rattle.session_model.specs.Frames.{sounds_of, interleaved}
use Rattle.mix_kernel.specs.Blocks.{scaled_evenly, summed, laid_over, spread}
use Rattle.mix_kernel.proofs.Ranges.{whole_frames}
use Rattle.playlist_layers.proofs.LayerSteps.{faded_step, full_step}
use Rattle.playlist_layers.proofs.layers.lay.Goals as goal
use Rattle.playlist_layers.proofs.layers.lay.Given.{Over}
use Rattle.playlist_layers.proofs.layers.lay.Goals.{In_ok-frames}

-- the samples that were read are the region's
read : (g : Over) (c : In_ok-frames g) → g.F.Frames.outside.tells c.args.frames.now →
    c.frames.new.out ≡ interleaved (sounds_of (g.F.Frames.outside.frames c.args.frames.now) c.args.region.now.source) c.args.channels
    (c.args.region.now.start + (c.args.here - c.args.region.now.at)) (length c.args.sums.now)
read g c = λ t.
    let source = sounds_of (g.F.Frames.outside.frames c.args.frames.now) c.args.region.now.source in
    let first : ℕ = c.args.region.now.start + (c.args.here - c.args.region.now.at) in
    let long : length c.frames.new.out ≡ length c.args.sums.now = search rules in
    subst (λ channels. c.frames.new.out ≡ interleaved source channels first (length c.frames.new.out)) c.requires.source.same (c.in_ok-frames.ensures.told t)
    ∙ ap (interleaved source c.args.channels first) long

pub returns-then-is_full-clause-told : goal.returns-then-is_full-clause-told
returns-then-is_full-clause-told g c = λ t below e.
    let r : Region = region_of c.args.region.now in
    let n : ℕ = length c.args.sums.now in
    let sounds : Sounds = sounds_of (g.F.Frames.outside.frames c.args.frames.now) in
    let step = full_step sounds r below c.args.channels c.args.here (n / c.args.channels) n c.requires.channels (whole_frames n c.args.channels c.requires.channels c.requires.whole) c.requires.covers
    (c.if-is_full.ensures.0 (search rules)) in
    c.lay_full.ensures.sums
    ∙ ap (λ (ss : List ℤ). summed (cond r.opaque (replicate n (pos 0)) c.args.sums.now) (scaled_evenly ss r.gain)) (read g (goal.at.returns-then-is_full-clause-told g c).In_ok-frames t)
    ∙ ap (λ (bs : List ℤ). summed (cond r.opaque (replicate n (pos 0)) bs)
    (scaled_evenly (interleaved (sounds r.source) c.args.channels (r.start + (c.args.here - r.at)) n) r.gain)) e
    ∙ step

pub returns-else-is_full-clause-told : goal.returns-else-is_full-clause-told
returns-else-is_full-clause-told g c = λ t below e.
    let r : Region = region_of c.args.region.now in
    let n : ℕ = length c.args.sums.now in
    let sounds : Sounds = sounds_of (g.F.Frames.outside.frames c.args.frames.now) in
    let own : List ℤ = interleaved (sounds r.source) c.args.channels (r.start + (c.args.here - r.at)) n in
    let step = faded_step sounds r below c.args.channels c.args.here (n / c.args.channels) n c.requires.channels (whole_frames n c.args.channels c.requires.channels c.requires.whole) c.requires.covers
    r.opaque refl in
    c.lay_faded.ensures.sums
    ∙ ap (λ (ss : List ℤ). laid_over c.args.sums.now (scaled_evenly ss r.gain) c.fade_gains.new.gains r.opaque) (read g (goal.at.returns-else-is_full-clause-told g c).In_ok-frames t)
    ∙ ap (λ (fs : List ℕ). laid_over c.args.sums.now (scaled_evenly own r.gain) fs r.opaque)
    (c.fade_gains.ensures.gains ∙ ap (spread (λ i. fade r (c.args.here - r.at + i)) c.args.channels) (search rules))
    ∙ ap (λ (bs : List ℤ). laid_over bs (scaled_evenly own r.gain) (spread (λ i. fade r (c.args.here - r.at + i)) c.args.channels n) r.opaque) e
    ∙ step
