-- The tables so far.
use Rattle.std.proofs.Common.{◌≤◌}
use Rattle.toml.specs.Data.{table}
use Rattle.session_model.specs.declared.route.SendLink.{SendLink}
use Rattle.session_text.specs.Parts.{send_table}
use Rattle.session_text.specs.Said.{names_of, said_send}
use Rattle.session_text.proofs.CodeLaws.{Wrote}
use Rattle.session_text.proofs.sends.sends.Given as goal

abbrev pub invariant-loop-l : goal.invariant-loop-l
invariant-loop-l l = Wrote (λ (k : SendLink). table (send_table (said_send (names_of l.routes) k))) (λ k. k.gain ≤ 262144) l.links l.l-index l.tables.items
