use Rattle.std.proofs.Common.{◌≡◌, true, false, is_some, is_ok, ap, ◌∙◌}
use Rattle.ses_units.proofs.NameLemmas.{IsOk-from_utf8}
use Rattle.edit_script.proofs.NumberLemmas.{IsUtf8-from_digits, text_is, parsed}
use Rattle.report_reader.proofs.fields.value.Goals as goal

pub returns-in_err-digits : goal.returns-in_err-digits
returns-in_err-digits c =
    let ok : is_ok c.from_utf8.result ≡ true = IsOk-from_utf8 _ _ _ c.from_utf8.result c.from_utf8.ensures.cases (IsUtf8-from_digits c.args.word.now (cc)) in
    let none : is_some c.ok.result ≡ false = ap is_some c.in_err-digits.was in
    absurd (cc (c.ok.ensures.variant))

pub returns : goal.returns
returns c = let text : c.in_ok-digits.digits.now ≡ c.args.word.now = text_is c.args.word.now _ _ c.from_utf8.result c.ok.result c.in_ok-digits.digits c.from_utf8.ensures.cases c.ok.ensures.value c.in_ok-digits.was in
    c.ok-2.ensures.value ∙ parsed c.args.word.now c.parse.result (cc) (rw text at c.parse.ensures.value.0)
