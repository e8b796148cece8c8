-- Lines that were begun, and what is read of control.
mod BegunLemmas
mod LineLemmas
mod CutLemmas
mod FeedLemmas
