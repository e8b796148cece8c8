use Rattle.std.proofs.Common.{◌≡◌, ◌∙◌, List, length, ap, ap₂, arith, sym, subst, Some}
use Rattle.std.specs.Prelude.{ℤ, All, OnOk, slice_get, slice_index_or}
use Rattle.sound_model.specs.Regions.{Sounds}
use Rattle.session_model.specs.declared.track.Track.{Track}
use Rattle.session_model.specs.Formed as formed
use Rattle.locate_loop.specs.Transport.{transport_of}
use Rattle.audio_source.specs.Told.{source_sound}
use Rattle.track_render.specs.Blocks.{placed_block}
use Rattle.track_render.proofs.TrackLemmas.{item_at, sources_shown, regions_read}
use Rattle.track_render.proofs.rendering.render.Given.{Over}
use Rattle.track_render.proofs.rendering.render.Goals as goal
use Rattle.track_render.proofs.rendering.render.Goals.{After-width-channels}

read : (g : Over) (c : After-width-channels g) → Track
read g c = slice_index_or c.as_slice.result.now c.args.track c.index-as_slice-track.result

there : (g : Over) (c : After-width-channels g) → slice_get c.args.session.now.tracks.items c.args.track ≡ Some (read g c)
unfolding read
there g c = let s = c.args.session.now in
    item_at s.tracks.items c.as_slice.result.now c.args.track c.index-as_slice-track.result c.as_slice.ensures.items (omega (arith, ap length c.as_slice.ensures.items, c.requires.track)) c.index-as_slice-track.is
    ∙ ap Some c.index-as_slice-track.is

pub runs-requires-clause-shown : goal.runs-requires-clause-shown
unfolding read
runs-requires-clause-shown g c = let at = (goal.at.runs-requires-clause-shown g c).After-width-channels in let s = c.args.session.now in let track = read g at in
    sources_shown s c.args.sources.now.opened c.width-channels.result track.list c.requires.sources
    (subst (λ n. All (formed.HasSource s n) track.list) (sym c.width-channels.ensures.channels) (c.requires.valid.formed.tracks c.args.track track (there g at)).regions)

pub returns-clause-told : goal.returns-clause-told
unfolding read
returns-clause-told g c = λ t h. let at = (goal.at.returns-clause-told g c).After-width-channels in let s = c.args.session.now in
    let sounds : Sounds = source_sound (g.M.Media.outside.files c.args.media.now) c.args.sources.now.opened in
    subst (λ (want : List ℤ). OnOk c.runs.result (c.runs.new.out ≡ want))
    (ap₂ (λ rs n. placed_block sounds rs n (transport_of c.args.transport.now) c.args.first (length c.args.out.now)) (regions_read s c.args.track (read g at) (there g at)) c.width-channels.ensures.channels)
    (c.runs.ensures.told t h)
