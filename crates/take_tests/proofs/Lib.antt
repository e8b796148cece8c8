-- What the check of a journal stands on.
mod CountedLemmas
