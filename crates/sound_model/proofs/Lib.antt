-- Worked values of the definitions: each line computes, or the crate isn't proved.
mod WavVectors
mod RefusalVectors
mod TrackVectors
mod RouteVectors
