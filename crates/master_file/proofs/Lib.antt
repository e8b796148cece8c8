-- How long the parts of a master's file are, and its silence block by block.
mod SizeLemmas
mod SilenceLemmas
