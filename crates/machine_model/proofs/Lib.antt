-- Worked runs of the core machine: each line computes, or the crate isn't proved.
mod RunVectors
mod EventVectors
