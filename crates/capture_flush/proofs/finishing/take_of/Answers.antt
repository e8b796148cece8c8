use Rattle.std.proofs.Common.{◌∙◌, List, get_or, sym, ap}
use Rattle.cycle_journal.specs.declared.note.Note.{Note}
use Rattle.cycle_journal.specs.declared.note.Play.TheVariants.{Silent}
use Rattle.cycle_journal.specs.declared.note.Take.TheVariants.{Off}
use Rattle.cycle_journal.specs.JournalView.{seen_take}
use Rattle.capture_flush.proofs.WalkLemmas.{note_seen}
use Rattle.capture_flush.proofs.finishing.take_of.Goals as goal

pub returns : goal.returns
returns c = let none : Note = record { play = Silent; take = Off } in
    ap (λ (ns : List Note). seen_take (get_or ns c.args.track none).take) c.as_slice.ensures.value ∙ sym (note_seen c.args.track c.args.e.now.notes.items none c.requires)
