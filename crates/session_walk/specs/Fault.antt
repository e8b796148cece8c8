-- What a call that may want memory gives of a definition: its value or its refusal, exactly, or want of memory.
use Rattle.std.specs.Prelude.{◌≡◌, List, map, String, Vec, Result, Ok, Err}
use Rattle.std.specs.Borrow.{Bor}
use Rattle.std.specs.BTreeMap.{BTreeMap}
use Rattle.std.specs.declared.alloc.Global.{Global}
use Rattle.toml.specs.Data.{Members}
use Rattle.toml.specs.View.{table_view}
use Rattle.toml.specs.declared.value.Value.{Value}
use Rattle.session_walk.specs.declared.fault.SessionFault.{SessionFault}
use Rattle.session_walk.specs.declared.fault.SessionFault.TheVariants.{Refused, NoMemory}
use Rattle.session_walk.specs.Section.{Read}

abbrev pub Gives : {A : Type 0} → Read A → Result A SessionFault → Type 0
Gives read (Ok x) = read ≡ Ok x
Gives read (Err (Refused refusal)) = read ≡ Err refusal
Gives read (Err NoMemory) = Unit {0}

-- the same of tables that are lent
abbrev pub GivesTables : Read (List Members) → Result (Vec (Bor (BTreeMap (String Global) Value)) Global) SessionFault → Type 0
GivesTables read (Ok rows) = read ≡ Ok (map (λ t. table_view t.now) rows.items)
GivesTables read (Err (Refused refusal)) = read ≡ Err refusal
GivesTables read (Err NoMemory) = Unit {0}
