-- The tables of a document as the code holds them.
use Rattle.std.specs.Prelude.{◌≡◌, ◌+◌, ◌≤◌, length, map, String, Result, Ok, Err}
use Rattle.std.specs.Borrow.{Bor}
use Rattle.std.specs.BTreeMap.{BTreeMap}
use Rattle.std.specs.declared.alloc.Global.{Global}
use Rattle.toml.specs.Data.{Members}
use Rattle.toml.specs.View.{table_view}
use Rattle.toml.specs.declared.value.Value.{Value}
use Rattle.session_model.specs.declared.refusal.SessionRefusal.{SessionRefusal}
use Rattle.session_walk.specs.declared.fault.SessionFault.{SessionFault}
use Rattle.session_walk.specs.declared.fault.SessionFault.TheVariants.{Refused, NoMemory}
use Rattle.session_walk.specs.declared.text.Outline as code
use Rattle.session_walk.specs.Section.{Read}
use Rattle.session_walk.specs.Text.{Outline}

abbrev pub Table : Type 0
Table = BTreeMap (String Global) Value

abbrev pub lent_table : Result (Bor Table) SessionRefusal → Read Members
lent_table (Ok table) = Ok (table_view table.now)
lent_table (Err refusal) = Err refusal

abbrev pub outline_view : code.Outline → Outline
outline_view o = record {
  session = table_view o.session.now;
  sources = map (λ t. table_view t.now) o.sources.items;
  tracks = map (λ t. table_view t.now) o.tracks.items;
  busses = map (λ t. table_view t.now) o.busses.items;
  master = table_view o.master.now;
}

abbrev pub GivesOutline : Read Outline → Result code.Outline SessionFault → Type 0
GivesOutline read (Ok o) = read ≡ Ok (outline_view o)
GivesOutline read (Err (Refused refusal)) = read ≡ Err refusal
GivesOutline read (Err NoMemory) = Unit {0}

-- the limits of a session's lists
pub record HasRoom (o : code.Outline) : Type 0 where
  pub sources : length o.sources.items ≤ 64
  pub tracks : length o.tracks.items ≤ 32
  pub routes : length o.tracks.items + length o.busses.items ≤ 63

abbrev pub GivesDocument : Read Members → Result Table SessionFault → Type 0
GivesDocument read (Ok table) = read ≡ Ok (table_view table)
GivesDocument read (Err (Refused refusal)) = read ≡ Err refusal
GivesDocument read (Err NoMemory) = Unit {0}
