-- Refusals as the definitions of the engine have them.
use Rattle.engine_model.specs.Refusals as engine
use Rattle.edit_resolve.specs.declared.reason.Bound.{Bound}
use Rattle.edit_resolve.specs.declared.reason.Bound.TheVariants.{Edits, Points, Sends, Regions}
use Rattle.edit_resolve.specs.declared.reason.Refusal.{Refusal}
use Rattle.edit_resolve.specs.declared.reason.Refusal.TheVariants.{Limit, NoRoute, NotTrack, NotBus, NoSource, NoRegion, RegionTwice, NoInput, OnMaster, Gain, Far, LoopEmpty, NoLoop, NoPoint, NoSend, Channels, Cycle, Fades}

abbrev pub bound_of : Bound → engine.Bound
bound_of Edits = engine.Edits
bound_of Points = engine.Points
bound_of Sends = engine.Sends
bound_of Regions = engine.Regions

abbrev pub refusal_of : Refusal → engine.Refusal
refusal_of (Limit bound) = engine.Limit (bound_of bound)
refusal_of (NoRoute name) = engine.NoRoute name
refusal_of (NotTrack name) = engine.NotTrack name
refusal_of (NotBus name) = engine.NotBus name
refusal_of (NoSource name) = engine.NoSource name
refusal_of (NoRegion id) = engine.NoRegion id
refusal_of (RegionTwice id) = engine.RegionTwice id
refusal_of (NoInput name) = engine.NoInput name
refusal_of OnMaster = engine.OnMaster
refusal_of (Gain gain) = engine.Gain gain
refusal_of (Far place) = engine.Far place
refusal_of LoopEmpty = engine.LoopEmpty
refusal_of NoLoop = engine.NoLoop
refusal_of (NoPoint at) = engine.NoPoint at
refusal_of (NoSend name) = engine.NoSend name
refusal_of (Channels name) = engine.Channels name
refusal_of (Cycle name) = engine.Cycle name
refusal_of (Fades id) = engine.Fades id
