-- The first word of a command, which names it (own).
use Rattle.std.specs.Prelude.{ℕ, if◌then◌else◌, List, Option, Some, None, codes, bytes_eq}

pub data Verb : Type 0 where
  Check : Verb
  Render : Verb
  Export : Verb
  Migrate : Verb
  Play : Verb
  Verify : Verb
  Gen : Verb

abbrev pub verb_of : List ℕ → Option Verb
verb_of name = if bytes_eq name (codes "check") then Some Check
    else (if bytes_eq name (codes "render") then Some Render
    else (if bytes_eq name (codes "export") then Some Export
    else (if bytes_eq name (codes "migrate") then Some Migrate
    else (if bytes_eq name (codes "play") then Some Play
    else (if bytes_eq name (codes "verify") then Some Verify
    else (if bytes_eq name (codes "gen") then Some Gen else None))))))
