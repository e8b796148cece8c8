-- The tables so far.
use Rattle.toml.specs.Data.{table}
use Rattle.session_model.specs.declared.session.SourceDecl.{SourceDecl}
use Rattle.session_text.specs.Kept.{IsKeptSource}
use Rattle.session_text.specs.Parts.{source_table}
use Rattle.session_text.proofs.CodeLaws.{Wrote}
use Rattle.session_text.proofs.sources.sources.Given as goal

abbrev pub invariant-loop-d : goal.invariant-loop-d
invariant-loop-d l = Wrote (λ (d : SourceDecl). table (source_table d)) IsKeptSource l.decls l.d-index l.tables.items
