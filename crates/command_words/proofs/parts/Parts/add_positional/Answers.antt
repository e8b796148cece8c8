-- A fourth word makes the words no command.
use Rattle.std.proofs.Common.{sym, ◌∙◌, length, eqb-true}
use Rattle.std.proofs.lemmas.List.{length-map}
use Rattle.command_words.specs.Spoken.{parts_view}
use Rattle.command_words.proofs.PartsLaws.{four_words}
use Rattle.command_words.proofs.parts.Parts.add_positional.Goals as goal

pub returns-then-is_full : goal.returns-then-is_full
returns-then-is_full c = λ later. let items = c.args.self.now.positional.items in
    four_words (parts_view c.args.self.now) c.args.word.now later
    (length-map items (λ w. w.now) ∙ eqb-true (length items) 3 (sym c.is_full.ensures.value ∙ c.if-is_full.true))
