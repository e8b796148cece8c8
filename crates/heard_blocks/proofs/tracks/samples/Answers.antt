use Rattle.std.proofs.Common.{◌≡◌, ℕ, ◌≤◌, ◌*◌, ◌∙◌, ap, arith, length, subst}
use Rattle.std.specs.Prelude.{Option}
use Rattle.std.specs.Option.{option_map_or}
use Rattle.session_model.specs.declared.route.Route.{Route}
use Rattle.session_model.specs.Formed.{channels_at}
use Rattle.track_render.proofs.TrackLemmas.{item_at}
use Rattle.heard_blocks.proofs.RoomLemmas.{within_room}
use Rattle.heard_blocks.proofs.tracks.samples.Goals as goal

pub returns-clause-most : goal.returns-clause-most
returns-clause-most c = let s = c.args.session.now in let track = c.args.track in let q = c.index-as_slice-track.result in
    let there = item_at s.routes.items c.as_slice.result.now track q c.as_slice.ensures.items (omega (arith, ap length c.as_slice.ensures.items, c.requires.track, c.requires.valid.formed.limits.master)) c.index-as_slice-track.is in
    let wide : channels_at s track ≡ q.channels = ap (λ (o : Option Route). option_map_or (λ (x : Route). x.channels) o 0) there in
    subst (λ (n : ℕ). s.block * n ≤ 2 * s.block) (wide ∙ ap (λ (x : Route). x.channels) c.index-as_slice-track.is)
    (within_room s track c.requires.valid c.requires.track)
