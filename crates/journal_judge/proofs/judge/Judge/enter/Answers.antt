-- The edition of the entry is entered, and the one that it has settled.
use Rattle.std.proofs.Common.{refl, sym, ap, ◌∙◌}
use Rattle.cycle_journal.specs.JournalView.{seen_entry}
use Rattle.journal_judge.proofs.DecideLemmas.{entered_anew, entered_on}
use Rattle.journal_judge.proofs.judge.Judge.enter.Goals as goal

pub returns-then-transport-generation : goal.returns-then-transport-generation
returns-then-transport-generation g c = entered_anew g.before.session c.args.history.now c.requires.0 g.before.entries (seen_entry c.args.entry.now) c.args.self.now _ c.requires.1.0 c.requires.1.1
    c.advance.ensures.at c.advance-2.ensures.at (ap (λ x. x.tracks) c.self.view_is)
    (λ e. c.if-transport-generation.true (ap (λ t. t.generation) c.transport-2.ensures.transport ∙ e ∙ sym (ap (λ x. x.entered.transport.generation) c.self.view_is) ∙ sym (ap (λ t. t.generation) c.transport.ensures.transport))) refl

pub returns-else-transport-generation : goal.returns-else-transport-generation
returns-else-transport-generation g c = entered_on g.before.session c.args.history.now c.requires.0 g.before.entries (seen_entry c.args.entry.now) c.args.self.now _ c.requires.1.0 c.requires.1.1
    c.advance.ensures.at c.advance-2.ensures.at (ap (λ x. x.tracks) c.self.view_is)
    (sym (ap (λ t. t.generation) c.transport-2.ensures.transport) ∙ c.if-transport-generation.false ∙ ap (λ t. t.generation) c.transport.ensures.transport ∙ ap (λ x. x.entered.transport.generation) c.self.view_is)
    (ap (λ x. x.rolled) c.self.view_is)
