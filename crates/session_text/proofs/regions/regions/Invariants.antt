-- The tables so far.
use Rattle.std.proofs.Common.{◌≡◌, map, take}
use Rattle.toml.specs.Data.{table}
use Rattle.toml.specs.View.{view}
use Rattle.session_model.specs.Region.{region_of}
use Rattle.session_text.specs.Parts.{region_table}
use Rattle.session_text.specs.Said.{said_region}
use Rattle.session_text.proofs.regions.regions.Given as goal

abbrev pub invariant-loop-r : goal.invariant-loop-r
invariant-loop-r l = map view l.tables.items ≡ map (λ r. table (region_table (said_region (map (λ d. d.name) l.sources) (region_of r)))) (take l.r-index l.r-items)
