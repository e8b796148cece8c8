-- What is said of the file of a master.
use Rattle.std.specs.Prelude.{◌≡◌, ℕ, ◌≤◌, List, ◌++◌, length}
use Rattle.std.specs.List.{flat_map}
use Rattle.session_model.specs.declared.session.Session.{Session}
use Rattle.session_model.specs.declared.edit.Edit.{Edit}
use Rattle.session_model.specs.Valid.{IsValid}
use Rattle.engine_model.specs.Journal.{Entry}
use Rattle.engine_model.specs.Played.{Samples, master_file}
use Rattle.master_blocks.specs.Bytes.{head_bytes, entry_bytes, end_bytes}

-- The master's file is its header, the block of each entry in their order, silence for the cycles that weren't made, and a pad byte.
abbrev pub TheMasterIsItsBlocks : Type 0
TheMasterIsItsBlocks = (s : Session) (edits : List Edit) (samples : Samples) (cycles : ℕ) (journal : List Entry) → IsValid s → length journal ≤ cycles →
    master_file s edits samples cycles journal ≡ head_bytes s cycles ++ flat_map (entry_bytes s edits samples) journal ++ end_bytes s cycles (length journal)
