-- What holds of every text that the walk accepts.
use Rattle.std.specs.Prelude.{◌≡◌, ℕ, List, Ok}
use Rattle.session_walk.specs.declared.said.Written.{Written}
use Rattle.toml.specs.Data.{Members}
use Rattle.session_walk.specs.Text.{document, written}
use Rattle.session_walk.specs.InRange.{IsInRange}
use Rattle.session_walk.specs.Says.{SaysAll}

-- what is read of a text is in range
abbrev pub WrittenIsInRange : Type 0
WrittenIsInRange = (bytes : List ℕ) (w : Written) → written bytes ≡ Ok w → IsInRange w

-- it is what the document says, key by key
abbrev pub WrittenIsSaid : Type 0
WrittenIsSaid = (bytes : List ℕ) (w : Written) → written bytes ≡ Ok w → (m : Members) × (document bytes ≡ Ok m) × SaysAll m w
