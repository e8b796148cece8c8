use Rattle.std.proofs.Common.{◌≡◌, true, false, ap, sym, ◌∙◌, Ok, Err}
use Rattle.std.specs.List.{list_all}
use Rattle.std.proofs.lemmas.Result.{err_from_is_err_and}
use Rattle.edit_script.specs.Kept.{kept}
use Rattle.edit_script.specs.Reading.{◌>>=◌, verb_by, command_of, is_comment, said, line_of, read_line}
use Rattle.edit_script.specs.Words.{is_text, word_at}
use Rattle.edit_script.proofs.ReadingLemmas.{said_in_words}
use Rattle.edit_script.proofs.parsing.parse.Goals as goal

said_then : (c : goal.After-command) → c.command.result ≡ said c.args.line.now
said_then c = let ws = kept c.of-words.result in let n = c.of-words.result.count in
    let verb : verb_by (word_at ws 1) n ≡ Ok c.in_ok-verb.verb =
    ap (λ w. verb_by w n) (sym c.at-2.ensures) ∙ ap (verb_by c.at-2.result.now) (sym c.count-2.ensures) ∙ sym c.of.ensures ∙ c.in_ok-verb.was in
    let text : list_all is_text c.args.line.now ≡ true = sym c.is_text.ensures ∙ c.if-not-is_text.false in
    let plain : is_comment (word_at ws 1) ≡ false = ap is_comment (sym c.at.ensures) ∙ sym c.starts_with.ensures.value ∙ c.if-starts_with.false in
    c.command.ensures ∙ ap (λ r. r >>= λ v. command_of v ws) (sym verb)
    ∙ said_in_words c.args.line.now ws n c.if-line-gt-LONGEST.false text c.of-words.ensures.first c.of-words.ensures.count (λ none. c.if-count-eq0.false (c.count.ensures ∙ none)) plain

pub returns-clause-said : goal.returns-clause-said
returns-clause-said c = said_then c

pub returns-clause-line : goal.returns-clause-line
unfolding read_line
returns-clause-line c = ap line_of (said_then c)

said_not : (c : goal.After-from_residual) → c.from_residual.result ≡ said c.args.line.now
said_not c = let ws = kept c.of-words.result in let n = c.of-words.result.count in
    let p = err_from_is_err_and c.from_residual.result c.from_residual.ensures.1 in
    let verb : verb_by (word_at ws 1) n ≡ Err c.in_err-verb.field-0.0 =
    ap (λ w. verb_by w n) (sym c.at-2.ensures) ∙ ap (verb_by c.at-2.result.now) (sym c.count-2.ensures) ∙ sym c.of.ensures ∙ c.in_err-verb.was in
    let text : list_all is_text c.args.line.now ≡ true = sym c.is_text.ensures ∙ c.if-not-is_text.false in
    let plain : is_comment (word_at ws 1) ≡ false = ap is_comment (sym c.at.ensures) ∙ sym c.starts_with.ensures.value ∙ c.if-starts_with.false in
    p.1 ∙ ap (λ why. Err why) p.2 ∙ ap (λ r. r >>= λ v. command_of v ws) (sym verb)
    ∙ said_in_words c.args.line.now ws n c.if-line-gt-LONGEST.false text c.of-words.ensures.first c.of-words.ensures.count (λ none. c.if-count-eq0.false (c.count.ensures ∙ none)) plain

pub returns-in_err-verb-clause-said : goal.returns-in_err-verb-clause-said
returns-in_err-verb-clause-said c = said_not c

pub returns-in_err-verb-clause-line : goal.returns-in_err-verb-clause-line
unfolding read_line
returns-in_err-verb-clause-line c = ap line_of (said_not c)
