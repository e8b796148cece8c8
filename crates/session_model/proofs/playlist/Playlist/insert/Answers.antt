-- The list that is written back is the one with the region, and it is a playlist.
use Rattle.std.proofs.Common.{◌≡◌, List, sym, ap, ◌∙◌, subst, arith, All}
use Rattle.std.specs.Prelude.{ℕ}
use Rattle.std.specs.List.{position_or_len}
use Rattle.sound_model.specs.Layers.{with_region, is_below}
use Rattle.ses_io.specs.FixedList.{Listed}
use Rattle.session_model.specs.declared.region.Region.{Region}
use Rattle.session_model.specs.Region.{region_of, regions_of, IsRegion}
use Rattle.session_model.specs.Playlist.{IsPlaylist}
use Rattle.session_model.specs.Starts.{IsIndexOf}
use Rattle.session_model.proofs.WriteLemmas.{regions_of-inserted}
use Rattle.session_model.proofs.PlaylistLemmas.{IsPlaylist-with_region}
use Rattle.session_model.proofs.playlist.Playlist.insert.Goals as goal

pub returns : goal.returns
returns c =
    let items_of : Listed Region → List Region = λ l. l.items in
    regions_of-inserted c.args.r c.self.inside.list.items c.push.new.self.items c.as_mut_slice.result.now c.put_last_at.new.regions c.place_of-place.result
    (ap items_of c.push.ensures) c.as_mut_slice.ensures.items c.put_last_at.auto.regions c.put_last_at.ensures
    (c.place_of-place.ensures.place ∙ ap (position_or_len (λ q. is_below (region_of c.args.r) (region_of q))) c.as_slice.ensures.items)
    ∙ ap (with_region (region_of c.args.r)) c.self.view_is

pub renew-requires-clause-limits : goal.renew-requires-clause-limits
renew-requires-clause-limits c =
    let items_of : Listed Region → List Region = λ l. l.items in
    let written =
    regions_of-inserted c.args.r c.self.inside.list.items c.push.new.self.items c.as_mut_slice.result.now c.put_last_at.new.regions c.place_of-place.result
    (ap items_of c.push.ensures) c.as_mut_slice.ensures.items c.put_last_at.auto.regions c.put_last_at.ensures
    (c.place_of-place.ensures.place ∙ ap (position_or_len (λ q. is_below (region_of c.args.r) (region_of q))) c.as_slice.ensures.items)
    ∙ ap (with_region (region_of c.args.r)) c.self.view_is in
    let P : List Region → Type 0 = λ xs. All IsRegion (regions_of xs) in
    let playlist =
    IsPlaylist-with_region (region_of c.args.r) c.args.self.now (subst IsPlaylist c.self.view_is c.self.invariant.0) c.requires.room c.requires.fresh c.requires.limits in
    subst P (sym c.as_slice-2.ensures.items) (subst (All IsRegion) (sym written) playlist.limits)

pub invariant_of-self : goal.invariant_of-self
invariant_of-self c =
    let room_of : Listed Region → ℕ = λ l. l.room in
    let room : c.push.new.self.room ≡ c.self.inside.list.room = ap room_of c.push.ensures in
    let P : List Region → Type 0 = λ xs. IsIndexOf (regions_of xs) c.renew.new.self in (
      subst IsPlaylist (sym (returns c))
          (IsPlaylist-with_region (region_of c.args.r) c.args.self.now (subst IsPlaylist c.self.view_is c.self.invariant.0) c.requires.room c.requires.fresh c.requires.limits),
      omega (arith, room, c.self.invariant.1),
      subst P c.as_slice-2.ensures.items c.renew.ensures,
    )
