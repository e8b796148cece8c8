use Rattle.std.proofs.Common.{◌≡◌, true, false, is_some, is_ok, ap, refl}
use Rattle.ses_units.proofs.NameLemmas.{IsOk-from_utf8, IsUtf8-from_name}
use Rattle.ses_units.specs.Name.{is_name}
use Rattle.edit_script.proofs.NumberLemmas.{not_true}
use Rattle.edit_script.proofs.choices.name.Goals as goal

no_name : (c : goal.After-from_residual) → is_name c.args.word.now ≡ false
no_name c = not_true (is_name c.args.word.now) (λ named.
    let ok : is_ok c.from_utf8.result ≡ true = IsOk-from_utf8 _ _ _ c.from_utf8.result c.from_utf8.ensures.cases (IsUtf8-from_name c.args.word.now named) in
    let none : is_some c.ok.result ≡ false = ap is_some c.in_err-text.was in
    absurd (cc (c.ok.ensures.variant)))

pub returns-in_err-text : goal.returns-in_err-text
returns-in_err-text c = rw (no_name c, c.from_residual.ensures) refl
