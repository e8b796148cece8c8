-- The next region stands last.
use Rattle.std.proofs.Common.{◌≡◌, ◌∙◌, ap, sym, subst, arith, length}
use Rattle.sound_model.specs.Regions.{Region}
use Rattle.sound_model.specs.Layers.{with_region}
use Rattle.session_model.specs.Playlist.{has_region}
use Rattle.session_model.specs.Region.{IsRegion}
use Rattle.made_session.specs.Each.{each_below}
use Rattle.made_session.specs.Made.{region}
use Rattle.made_session.proofs.ListLemmas.{each-long, each-none}
use Rattle.made_session.proofs.PlaylistLemmas.{region-limits, region-fresh, region-next}
use Rattle.made_session.proofs.regions.playlist.Goals as goal

pub loop-j-init : goal.loop-j-init
loop-j-init c = c.in_ok-list.ensures ∙ sym (each-none region)

pub insert-requires-clause-room : goal.insert-requires-clause-room
insert-requires-clause-room c = omega (arith, ap length c.loop-j.invariant, each-long region c.loop-j.j, c.loop-j-test.true, c.regions_each-j-end.ensures.few)

pub insert-requires-clause-fresh : goal.insert-requires-clause-fresh
insert-requires-clause-fresh c = ap (λ l. has_region l c.region.result.id) c.loop-j.invariant
    ∙ ap (has_region (each_below region c.loop-j.j)) (ap (λ (r : Region). r.id) c.region.ensures) ∙ region-fresh c.loop-j.j

pub insert-requires-clause-limits : goal.insert-requires-clause-limits
insert-requires-clause-limits c = subst IsRegion (sym c.region.ensures) (region-limits c.loop-j.j (omega (arith, c.loop-j-test.true, c.regions_each-j-end.ensures.few)))

pub loop-j-preserved : goal.loop-j-preserved
loop-j-preserved c = c.insert.ensures ∙ ap (λ r. with_region r c.loop-j.list) c.region.ensures ∙ ap (with_region (region c.loop-j.j)) c.loop-j.invariant ∙ region-next c.loop-j.j

pub returns : goal.returns
returns c = let all : c.loop-j.j ≡ c.regions_each-j-end.result = omega (arith, c.loop-j-test.false, c.loop-j.auto) in
    c.loop-j.invariant ∙ ap (each_below region) (all ∙ c.regions_each-j-end.ensures.regions)
