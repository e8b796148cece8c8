-- The proofs of the law and of what a block is, and worked values.
mod RestLemmas
mod FrontLemmas
mod BlockLemmas
mod RestVectors
