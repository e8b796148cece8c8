use Rattle.std.proofs.Common.{◌≡◌, ◌-◌, length, slice_get, ap, sym, ◌∙◌, refl, subst, Option, Some, IfSome, arith}
use Rattle.std.proofs.lemmas.List.Elements.{All-take, All-drop}
use Rattle.session_model.specs.declared.route.Route.{Route}
use Rattle.session_text.specs.Kept.{IsKeptFader}
use Rattle.session_text.specs.Within.{LeadsWithin}
use Rattle.session_text.specs.Parts.{document_table}
use Rattle.session_text.specs.Said.{said_of, master}
use Rattle.session_text.proofs.CodeLaws.{item-got, table-view}
use Rattle.session_text.proofs.WithinLaws.{routes-within, tracks-within}
use Rattle.session_text.proofs.document.session_table.Goals as goal

pub tracks-requires-clause-routes : goal.tracks-requires-clause-routes
tracks-requires-clause-routes c = rw c.as_slice-routes.ensures.items (routes-within c.args.s.now c.requires)

pub tracks-requires-clause-tracks : goal.tracks-requires-clause-tracks
tracks-requires-clause-tracks c = rw (c.as_slice-own.ensures.items, c.as_slice-decls.ensures.items) (tracks-within c.args.s.now c.requires)

pub busses-requires : goal.busses-requires
busses-requires c =
    let P : Route → Type 0 = LeadsWithin (length c.args.s.now.routes.items) in
    let routes = c.args.s.now.routes.items in
    rw c.as_slice-routes.ensures.items (All-take P _ _ (All-drop P _ routes (routes-within c.args.s.now c.requires)))

last-is : (c : goal.In_ok-put-5) → master c.args.s.now ≡ Some c.index-routes-last.result
last-is c =
    let routes = c.as_slice-routes.result.now in
    ap (λ rs. slice_get rs (length rs - 1)) (sym c.as_slice-routes.ensures.items)
    ∙ item-got routes (length routes - 1) c.index-routes-last.result (omega (arith, ap length c.as_slice-routes.ensures.items, c.requires.limits.master)) c.index-routes-last.is

pub returns-clause-table : goal.returns-clause-table
unfolding document_table said_of
returns-clause-table c = rw (
  c.in_ok-put-5.ensures,
  table-view c.in_ok-master.master _ c.in_ok-master.ensures.table,
  c.in_ok-put-4.ensures,
  c.in_ok-busses.ensures.value,
  c.in_ok-put-3.ensures,
  c.in_ok-tracks.ensures.value,
  c.in_ok-put-2.ensures,
  c.in_ok-sources.ensures.value,
  c.in_ok-put.ensures,
  table-view c.in_ok-head_table.field-0 _ c.in_ok-head_table.ensures.table,
  c.new-table.ensures.empty,
  last-is c,
  c.as_slice-routes.ensures.items,
  c.as_slice-own.ensures.items,
  c.as_slice-decls.ensures.items,
) refl

pub returns-clause-kept : goal.returns-clause-kept
returns-clause-kept c =
    let P : Option Route → Type 0 = λ o. IfSome o IsKeptFader in
    record {
      takes = c.in_ok-head_table.ensures.takes;
      sources = rw c.as_slice-decls.ensures.items at c.in_ok-sources.ensures.kept;
      track_routes = rw (c.as_slice-routes.ensures.items, c.as_slice-own.ensures.items) at c.in_ok-tracks.ensures.routes;
      playlists = rw c.as_slice-own.ensures.items at c.in_ok-tracks.ensures.lists;
      busses = rw (c.as_slice-routes.ensures.items, c.as_slice-own.ensures.items) at c.in_ok-busses.ensures.kept;
      master = subst P (sym (last-is c)) c.in_ok-master.ensures.kept;
    }
