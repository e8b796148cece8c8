-- Lemmas of the master of a run.
mod SinkLemmas
mod FileLemmas
mod DeskLemmas
mod StateLemmas
mod EndLemmas
mod RollLemmas
