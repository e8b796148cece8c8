-- The next region is new to those that follow it.
use Rattle.std.proofs.Common.{ℕ, ◌-◌, ◌∙◌, ap, sym, subst, arith, length, drop}
use Rattle.std.proofs.lemmas.List.{length-drop}
use Rattle.sound_model.specs.Regions.{Region}
use Rattle.session_model.specs.Playlist.{has_region}
use Rattle.session_model.specs.Region.{IsRegion}
use Rattle.session_walk.specs.InRange.{IsRegionText}
use Rattle.session_toml.proofs.PlaylistLaws.{playlist-long, playlist-fresh, region-limits, region-id}
use Rattle.session_toml.proofs.build.playlist_in.Goals as goal

pub insert-requires-clause-room : goal.insert-requires-clause-room
insert-requires-clause-room c =
    let j = length c.args.texts.now - c.loop-k.k in
    omega (arith, ap length c.loop-k.invariant, playlist-long c.args.names.now (drop j c.args.texts.now), length-drop j c.args.texts.now, c.requires.playable.few, c.loop-k-test.true)

pub insert-requires-clause-fresh : goal.insert-requires-clause-fresh
insert-requires-clause-fresh c =
    let n : ℕ = length c.args.texts.now in
    let r = c.index-texts-texts.result in
    let id = ap (λ (q : Region). q.id) c.region_in.ensures ∙ region-id c.args.names.now r in
    ap (λ l. has_region l c.region_in.result.id) c.loop-k.invariant ∙ ap (has_region _) id
    ∙ playlist-fresh c.args.names.now c.args.texts.now (n - 1 - c.loop-k.k) (n - c.loop-k.k) r (omega (arith, c.loop-k-test.true)) (omega (arith, c.loop-k-test.true)) c.index-texts-texts.is c.requires.playable

pub insert-requires-clause-limits : goal.insert-requires-clause-limits
insert-requires-clause-limits c =
    let n : ℕ = length c.args.texts.now in
    let r = c.index-texts-texts.result in
    let limits : IsRegionText r = subst IsRegionText (sym c.index-texts-texts.is) (c.requires.playable.limits (n - 1 - c.loop-k.k) r (omega (arith, c.loop-k-test.true))) in
    subst IsRegion (sym c.region_in.ensures) (region-limits c.args.names.now r limits)
