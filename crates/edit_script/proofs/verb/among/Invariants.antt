-- The rows to come, and what is known of those before, give the verb.
use Rattle.std.proofs.Common.{◌≡◌, false, drop}
use Rattle.edit_script.specs.Rows.{among_rows, rows_of}
use Rattle.edit_script.proofs.verb.among.Given as goal

abbrev pub invariant-loop-word : goal.invariant-loop-word
invariant-loop-word l = among_rows false l.first l.words (rows_of l.rows) ≡ among_rows l.known l.first l.words (rows_of (drop l.word-index l.rows))
