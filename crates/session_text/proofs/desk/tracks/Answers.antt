use Rattle.std.proofs.Common.{◌≤◌, ◌∙◌, ap, sym, arith, length, map}
use Rattle.toml.specs.Data.{table}
use Rattle.session_text.specs.Parts.{track_table}
use Rattle.session_text.specs.Said.{names_of, said_track}
use Rattle.session_text.specs.Tables.{values}
use Rattle.session_text.proofs.ListLaws.{map-map}
use Rattle.session_text.proofs.CodeLaws.{table-view, all-written, wrote-more, kept-all}
use Rattle.session_text.proofs.PairLaws.{IsKeptPair, beside, beside-long, beside-item, kept-routes, kept-lists}
use Rattle.session_text.proofs.desk.tracks.Goals as goal

pub loop-i-preserved : goal.loop-i-preserved
loop-i-preserved c =
    let routes = c.args.routes.now in
    let tracks = c.args.tracks.now in
    wrote-more _ IsKeptPair (beside routes tracks) c.loop-i.i (c.index-routes-i.result, c.index-tracks-i.result) _ _ _ c.loop-i.invariant c.in_ok-push.ensures.items
    (table-view c.in_ok-table.table _ c.in_ok-table.ensures.table) (record { route = c.in_ok-table.ensures.route; list = c.in_ok-table.ensures.list })
    (omega (arith, beside-long routes tracks c.requires.few, c.loop-i-test.true))
    (beside-item routes tracks c.loop-i.i c.index-routes-i.result c.index-tracks-i.result c.requires.few c.loop-i-test.true c.index-routes-i.is c.index-tracks-i.is)

pub returns-clause-value : goal.returns-clause-value
returns-clause-value c =
    let pairs = beside c.args.routes.now c.args.tracks.now in
    let say = said_track (map (λ d. d.name) c.args.sources.now) (names_of c.args.routes.now) in
    let end : length pairs ≤ c.loop-i.i = omega (arith, beside-long c.args.routes.now c.args.tracks.now c.requires.few, c.loop-i-test.false) in
    all-written (λ p. table (track_table (say p))) pairs c.loop-i.i c.loop-i.tables c.loop-i.invariant.written end ∙ ap values (sym (map-map say (λ k. table (track_table k)) pairs))

pub returns-clause-routes : goal.returns-clause-routes
returns-clause-routes c =
    let pairs = beside c.args.routes.now c.args.tracks.now in
    let end : length pairs ≤ c.loop-i.i = omega (arith, beside-long c.args.routes.now c.args.tracks.now c.requires.few, c.loop-i-test.false) in
    kept-routes c.args.routes.now c.args.tracks.now c.requires.few (kept-all _ IsKeptPair pairs c.loop-i.i _ c.loop-i.invariant end)

pub returns-clause-lists : goal.returns-clause-lists
returns-clause-lists c =
    let pairs = beside c.args.routes.now c.args.tracks.now in
    let end : length pairs ≤ c.loop-i.i = omega (arith, beside-long c.args.routes.now c.args.tracks.now c.requires.few, c.loop-i-test.false) in
    kept-lists c.args.routes.now c.args.tracks.now c.requires.few (kept-all _ IsKeptPair pairs c.loop-i.i _ c.loop-i.invariant end)
