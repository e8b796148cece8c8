-- A change as the definitions of the engine have it, and which changes are of links and of playlists.
use Rattle.std.specs.Prelude.{ℕ, Bool, true, false, Option, Some, None}
use Rattle.engine_model.specs.Changes as engine
use Rattle.ses_units.specs.Point.{point_of}
use Rattle.session_model.specs.Region.{region_of}
use Rattle.session_change.specs.declared.change.Change.{Change}
use Rattle.session_change.specs.declared.change.Change.TheVariants.{TransportOnly, Armed, Soloed, Muted, Faded, Panned, InMode, PointSet, PointUnset, Leads, SendSet, SendUnset, RegionPut, RegionTaken}

-- a change as the engine's definitions see it
abbrev pub change_seen : Change → engine.Change
change_seen TransportOnly = engine.TransportOnly
change_seen (Armed track on) = engine.Armed track on
change_seen (Soloed track on) = engine.Soloed track on
change_seen (Muted route on) = engine.Muted route on
change_seen (Faded route gain) = engine.Faded route gain
change_seen (Panned route left right) = engine.Panned route left right
change_seen (InMode route mode) = engine.InMode route mode
change_seen (PointSet route point) = engine.PointSet route (point_of point)
change_seen (PointUnset route place) = engine.PointUnset route place
change_seen (Leads route to) = engine.Leads route to
change_seen (SendSet route link) = engine.SendSet route link
change_seen (SendUnset route to) = engine.SendUnset route to
change_seen (RegionPut track region) = engine.RegionPut track (region_of region)
change_seen (RegionTaken track id) = engine.RegionTaken track id

-- the change is of a link from one route to another
abbrev pub relinks : engine.Change → Bool
relinks engine.TransportOnly = false
relinks (engine.Armed track on) = false
relinks (engine.Soloed track on) = false
relinks (engine.Muted route on) = false
relinks (engine.Faded route gain) = false
relinks (engine.Panned route left right) = false
relinks (engine.InMode route mode) = false
relinks (engine.PointSet route point) = false
relinks (engine.PointUnset route place) = false
relinks (engine.Leads route to) = true
relinks (engine.SendSet route link) = true
relinks (engine.SendUnset route to) = true
relinks (engine.RegionPut track region) = false
relinks (engine.RegionTaken track id) = false

-- the track whose playlist the change is of, if it is of one
abbrev pub list_of : engine.Change → Option ℕ
list_of engine.TransportOnly = None
list_of (engine.Armed track on) = None
list_of (engine.Soloed track on) = None
list_of (engine.Muted route on) = None
list_of (engine.Faded route gain) = None
list_of (engine.Panned route left right) = None
list_of (engine.InMode route mode) = None
list_of (engine.PointSet route point) = None
list_of (engine.PointUnset route place) = None
list_of (engine.Leads route to) = None
list_of (engine.SendSet route link) = None
list_of (engine.SendUnset route to) = None
list_of (engine.RegionPut track region) = Some track
list_of (engine.RegionTaken track id) = Some track
