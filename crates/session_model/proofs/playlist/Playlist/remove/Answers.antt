-- What is left is the list without the region, which is a playlist; where no region has the id all stays.
use Rattle.std.proofs.Common.{◌==◌, position, remove, find, get_or, Some, is_some, sym, ap, ◌∙◌, subst, arith, List, All}
use Rattle.std.specs.Option.{option_map}
use Rattle.session_model.specs.declared.region.Region.{Region}
use Rattle.session_model.specs.Region.{region_of, regions_of, IsRegion}
use Rattle.session_model.specs.Starts.{IsIndexOf}
use Rattle.session_model.specs.Playlist.{IsPlaylist, has_id, has_region, without_region}
use Rattle.session_model.proofs.Cases.{false_is_true}
use Rattle.session_model.proofs.PlaceLemmas.{without_region-remove, without_region-absent, find-at, find-absent, has_region-at, has_region-absent}
use Rattle.session_model.proofs.WriteLemmas.{position-found, position-absent, removed}
use Rattle.session_model.proofs.PlaylistLemmas.{IsPlaylist-without_region}
use Rattle.session_model.proofs.playlist.Playlist.remove.Goals as goal

-- ---- a region has the id

pub returns-clause-others : goal.returns-clause-others
returns-clause-others c =
    let items = c.self.inside.list.items in
    let found = position-found (λ r. r.id == c.args.id) items c.in_ok-place.place (ap (position (λ r. r.id == c.args.id)) (sym c.as_slice.ensures.items) ∙ sym c.in_ok-place.ensures.index) in
    let parts = removed items c.as_mut_slice.result.now c.put_at_end.new.regions c.pop-r.new.self.items c.pop-r.result c.in_ok-place.place
    c.as_mut_slice.ensures.items c.put_at_end.auto.regions c.put_at_end.ensures c.pop-r.ensures.items in
    ap regions_of parts.0 ∙ ap (λ i. regions_of (remove items i)) (sym found.0)
    ∙ sym (without_region-remove c.args.id items c.self.invariant.0.apart found.1) ∙ ap (λ qs. without_region qs c.args.id) c.self.view_is

pub returns-clause-region : goal.returns-clause-region
returns-clause-region c =
    let items = c.self.inside.list.items in
    let found = position-found (λ r. r.id == c.args.id) items c.in_ok-place.place (ap (position (λ r. r.id == c.args.id)) (sym c.as_slice.ensures.items) ∙ sym c.in_ok-place.ensures.index) in
    let parts = removed items c.as_mut_slice.result.now c.put_at_end.new.regions c.pop-r.new.self.items c.pop-r.result c.in_ok-place.place
    c.as_mut_slice.ensures.items c.put_at_end.auto.regions c.put_at_end.ensures c.pop-r.ensures.items in
    ap (λ r. Some (region_of r)) parts.1 ∙ ap (λ i. Some (region_of (get_or items i c.pop-r.result))) (sym found.0)
    ∙ sym (find-at c.args.id items c.pop-r.result found.1) ∙ ap (find (has_id c.args.id)) c.self.view_is

pub returns-clause-absent : goal.returns-clause-absent
returns-clause-absent c =
    let items = c.self.inside.list.items in
    let found = position-found (λ r. r.id == c.args.id) items c.in_ok-place.place (ap (position (λ r. r.id == c.args.id)) (sym c.as_slice.ensures.items) ∙ sym c.in_ok-place.ensures.index) in (
      λ e. false_is_true (sym e),
      λ e. sym (has_region-at c.args.id items found.1) ∙ ap (λ qs. has_region qs c.args.id) c.self.view_is ∙ e,
    )

pub renew-requires-clause-limits : goal.renew-requires-clause-limits
renew-requires-clause-limits c =
    let items = c.self.inside.list.items in
    let found = position-found (λ r. r.id == c.args.id) items c.in_ok-place.place (ap (position (λ r. r.id == c.args.id)) (sym c.as_slice.ensures.items) ∙ sym c.in_ok-place.ensures.index) in
    let parts = removed items c.as_mut_slice.result.now c.put_at_end.new.regions c.pop-r.new.self.items c.pop-r.result c.in_ok-place.place
    c.as_mut_slice.ensures.items c.put_at_end.auto.regions c.put_at_end.ensures c.pop-r.ensures.items in
    let others = ap regions_of parts.0 ∙ ap (λ i. regions_of (remove items i)) (sym found.0) ∙ sym (without_region-remove c.args.id items c.self.invariant.0.apart found.1) in
    let P : List Region → Type 0 = λ xs. All IsRegion (regions_of xs) in
    subst P (sym c.as_slice-2.ensures.items) (subst (All IsRegion) (sym others) ((IsPlaylist-without_region c.args.id (regions_of items) c.self.invariant.0).limits))

pub invariant_of-self : goal.invariant_of-self
invariant_of-self c =
    let P : List Region → Type 0 = λ xs. IsIndexOf (regions_of xs) c.renew.new.self in (
      subst IsPlaylist (sym (returns-clause-others c)) (IsPlaylist-without_region c.args.id c.args.self.now (subst IsPlaylist c.self.view_is c.self.invariant.0)),
      omega (arith, c.pop-r.ensures.room, c.self.invariant.1),
      subst P c.as_slice-2.ensures.items c.renew.ensures,
    )

-- ---- none has it

pub returns-in_err-place-clause-region : goal.returns-in_err-place-clause-region
returns-in_err-place-clause-region c =
    let items = c.self.inside.list.items in
    let past = position-absent (λ r. r.id == c.args.id) items (ap (position (λ r. r.id == c.args.id)) (sym c.as_slice.ensures.items) ∙ sym c.in_err-place.ensures.index) in
    ap (option_map region_of) c.from_residual.ensures ∙ sym (find-absent c.args.id items past) ∙ ap (find (has_id c.args.id)) c.self.view_is

pub returns-in_err-place-clause-others : goal.returns-in_err-place-clause-others
returns-in_err-place-clause-others c =
    let items = c.self.inside.list.items in
    let past = position-absent (λ r. r.id == c.args.id) items (ap (position (λ r. r.id == c.args.id)) (sym c.as_slice.ensures.items) ∙ sym c.in_err-place.ensures.index) in
    sym c.self.view_is ∙ sym (without_region-absent c.args.id items past) ∙ ap (λ qs. without_region qs c.args.id) c.self.view_is

pub returns-in_err-place-clause-absent : goal.returns-in_err-place-clause-absent
returns-in_err-place-clause-absent c =
    let items = c.self.inside.list.items in
    let past = position-absent (λ r. r.id == c.args.id) items (ap (position (λ r. r.id == c.args.id)) (sym c.as_slice.ensures.items) ∙ sym c.in_err-place.ensures.index) in (
      λ e. sym (ap (λ qs. has_region qs c.args.id) c.self.view_is) ∙ has_region-absent c.args.id items past,
      λ e. ap is_some c.from_residual.ensures,
    )
