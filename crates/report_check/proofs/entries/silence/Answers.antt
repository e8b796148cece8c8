use Rattle.std.proofs.Common.{◌≡◌, ◌∙◌, List, ℕ, ap, subst, sym}
use Rattle.std.specs.Prelude.{IfOk, replicate}
use Rattle.report_check.proofs.SilenceLemmas.{silence_is_zeros}
use Rattle.report_check.proofs.entries.silence.Goals as goal

pub returns : goal.returns
returns c = subst (λ (xs : List ℕ). IfOk c.zeros.result (λ v. v.items ≡ xs)) (ap (λ n. replicate n 0) c.data_long.ensures.long ∙ sym (silence_is_zeros c.args.s.now 1)) c.zeros.ensures
