use Rattle.std.proofs.Common.{◌<◌, length, map}
use Rattle.sound_model.specs.Regions as sound
use Rattle.session_model.specs.Region.{region_of, IsRegion}
use Rattle.session_text.specs.Parts.{region_table}
use Rattle.session_text.specs.Said.{said_region}
use Rattle.session_text.proofs.CodeLaws.{of-item, one-more, tables-written, table-view}
use Rattle.session_text.proofs.regions.regions.Goals as goal

pub region_table-requires-clause-source : goal.region_table-requires-clause-source
region_table-requires-clause-source c =
    of-item (λ (r : sound.Region). r.source < length c.args.sources.now) region_of c.regions-r-items.result.now c.args.list.now c.loop-r.r-index c.r-item.result
    c.regions-r-items.ensures.regions c.requires c.loop-r-test.true c.r-item.is

pub region_table-requires-clause-limits : goal.region_table-requires-clause-limits
region_table-requires-clause-limits c =
    of-item IsRegion region_of c.regions-r-items.result.now c.args.list.now c.loop-r.r-index c.r-item.result
    c.regions-r-items.ensures.regions c.regions-r-items.ensures.playlist.limits c.loop-r-test.true c.r-item.is

pub loop-r-preserved : goal.loop-r-preserved
loop-r-preserved c =
    one-more _ c.regions-r-items.result.now c.loop-r.r-index c.r-item.result _ _ _ c.loop-r.invariant c.in_ok-push.ensures.items
    (table-view c.in_ok-region_table.field-0 _ c.in_ok-region_table.ensures) c.loop-r-test.true c.r-item.is

pub returns-clause-value : goal.returns-clause-value
returns-clause-value c =
    tables-written region_table (said_region (map (λ d. d.name) c.args.sources.now)) region_of c.regions-r-items.result.now c.args.list.now c.loop-r.r-index c.loop-r.tables
    c.loop-r.invariant c.loop-r-test.false c.regions-r-items.ensures.regions
