-- The words that say why an edit isn't accepted (own).
use Rattle.std.specs.Prelude.{ℕ, List, ◌++◌, codes, decimal}
use Rattle.engine_model.specs.Refusals.{Bound, Edits, Points, Sends, Regions, Refusal, Limit, NoRoute, NotTrack, NotBus, NoSource, NoRegion, RegionTwice, NoInput, OnMaster, Gain, Far, LoopEmpty, NoLoop, NoPoint, NoSend, Channels, Cycle, Fades}

-- what is full, and how many there may be
abbrev pub bound_text : Bound → List ℕ
bound_text Edits = codes "edits 10000"
bound_text Points = codes "points 1024"
bound_text Sends = codes "sends 8"
bound_text Regions = codes "regions 256"

abbrev pub refusal_text : Refusal → List ℕ
refusal_text (Limit bound) = codes "limit " ++ bound_text bound
refusal_text (NoRoute name) = codes "no-route " ++ name
refusal_text (NotTrack name) = codes "not-track " ++ name
refusal_text (NotBus name) = codes "not-bus " ++ name
refusal_text (NoSource name) = codes "no-source " ++ name
refusal_text (NoRegion id) = codes "no-region " ++ decimal id
refusal_text (RegionTwice id) = codes "region-twice " ++ decimal id
refusal_text (NoInput name) = codes "no-input " ++ name
refusal_text OnMaster = codes "master"
refusal_text (Gain gain) = codes "gain " ++ decimal gain
refusal_text (Far place) = codes "far " ++ decimal place
refusal_text LoopEmpty = codes "loop-empty"
refusal_text NoLoop = codes "no-loop"
refusal_text (NoPoint place) = codes "no-point " ++ decimal place
refusal_text (NoSend name) = codes "no-send " ++ name
refusal_text (Channels name) = codes "channels " ++ name
refusal_text (Cycle name) = codes "cycle " ++ name
refusal_text (Fades id) = codes "fades " ++ decimal id
