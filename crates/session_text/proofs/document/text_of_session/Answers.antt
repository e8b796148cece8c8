use Rattle.std.proofs.Common.{◌≡◌, ◌≤◌, ap, ◌∙◌, arith, Some, string_bytes}
use Rattle.std.specs.Prelude.{Ok}
use Rattle.std.proofs.lemmas.Str.{IsUtf8-string_bytes}
use Rattle.toml.specs.Data.{members_depth}
use Rattle.toml.specs.View.{table_view}
use Rattle.session_walk.specs.Text.{document}
use Rattle.session_walk.proofs.TableLaws.{document_read}
use Rattle.session_text.specs.Said.{said_of}
use Rattle.session_text.specs.Session.{session_table}
use Rattle.session_text.proofs.DepthLaws.{document-depth}
use Rattle.session_text.proofs.SessionLaws.{session-read}
use Rattle.session_text.proofs.document.text_of_session.Goals as goal

-- the document of the text is the table
table-is : (c : goal.After-drop-table) → document c.into_bytes.result.items ≡ Ok (session_table c.args.s.now)
table-is c =
    let low : members_depth (table_view c.in_ok-table.table) ≤ 80 = omega (arith, document-depth (said_of c.args.s.now), ap members_depth c.in_ok-table.ensures.table) in
    ap (λ v. document v.items) c.into_bytes.ensures.value
    ∙ document_read (string_bytes c.in-Ok.text) (session_table c.args.s.now) (IsUtf8-string_bytes c.in-Ok.text) (c.in-Ok.ensures.reads_back low ∙ ap Some c.in_ok-table.ensures.table)

pub returns-in-Ok-clause-keys : goal.returns-in-Ok-clause-keys
returns-in-Ok-clause-keys c = table-is c

pub returns-in-Ok-clause-read_back : goal.returns-in-Ok-clause-read_back
returns-in-Ok-clause-read_back c = session-read c.into_bytes.result.items c.args.s.now c.requires c.in_ok-table.ensures.kept (table-is c)
