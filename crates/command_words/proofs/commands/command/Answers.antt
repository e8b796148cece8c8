-- The first word names the command, and the others are its parts.
use Rattle.std.proofs.Common.{◌≡◌, List, ℕ, Some, None, sym, ap, ◌∙◌}
use Rattle.std.specs.Borrow.{Bor}
use Rattle.std.specs.Option.{option_map}
use Rattle.command_words.specs.Options.{few, parted}
use Rattle.command_words.specs.Spoken.{texts, command_view, parts_view, verb_view}
use Rattle.command_words.specs.Verbs.{verb_of}
use Rattle.command_words.specs.Words.{command}
use Rattle.command_words.proofs.PartsLaws.{command_of}
use Rattle.command_words.proofs.commands.command.Goals as goal

pub returns-in_err-parts-clause-value : goal.returns-in_err-parts-clause-value
returns-in_err-parts-clause-value c = let w = c.in_ok-name.name.now.now in let ws = texts c.in_ok-name.others.now in let v = verb_view c.in_ok-verb.verb in
    let named : verb_of w ≡ Some v = sym c.verb_of.ensures ∙ ap (option_map verb_view) c.in_ok-verb.was in
    let same : few None ≡ few (parted ws None) = ap (λ o. few (option_map parts_view o)) (sym c.in_err-parts.was) ∙ c.parted.ensures in
    ap (option_map command_view) c.from_residual-in_err-parts.ensures ∙ command_of w ws v None named same
    ∙ sym (ap (λ (l : List (Bor (List ℕ))). command (texts l)) c.in_ok-name.ensures.cases.0)

pub returns-clause-value : goal.returns-clause-value
returns-clause-value c = let w = c.in_ok-name.name.now.now in let ws = texts c.in_ok-name.others.now in let v = verb_view c.in_ok-verb.verb in
    let named : verb_of w ≡ Some v = sym c.verb_of.ensures ∙ ap (option_map verb_view) c.in_ok-verb.was in
    let same : few (Some (parts_view c.in_ok-parts.parts)) ≡ few (parted ws None) = ap (λ o. few (option_map parts_view o)) (sym c.in_ok-parts.was) ∙ c.parted.ensures in
    c.made.ensures.value ∙ command_of w ws v (Some (parts_view c.in_ok-parts.parts)) named same
    ∙ sym (ap (λ (l : List (Bor (List ℕ))). command (texts l)) c.in_ok-name.ensures.cases.0)
