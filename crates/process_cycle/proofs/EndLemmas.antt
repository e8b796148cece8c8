-- A master that was ended holds header, blocks and end.
use Rattle.std.proofs.Common.{◌≡◌, ℕ, List, ◌++◌, length, ap, ◌∙◌}
use Rattle.std.specs.Prelude.{reverse}
use Rattle.std.specs.List.{flat_map}
use Rattle.std.proofs.lemmas.List.{append_assoc, reverse-reverse}
use Rattle.ses_io.specs.Outside.{SinkOutside}
use Rattle.engine_model.specs.Played.{samples_of}
use Rattle.master_blocks.specs.Bytes.{head_bytes, entry_bytes, end_bytes}
use Rattle.cycle_journal.specs.JournalView.{seen_entries}
use Rattle.process_cycle.specs.CutOff.{HoldsAll}
use Rattle.process_cycle.specs.Promised.{IsMastered}
use Rattle.process_cycle.specs.ProcessState.{ProcessState, Playing}

-- what was held, and what was written behind it
all_joined : (b h f back e before now : List ℕ) → now ≡ before ++ e → before ≡ b ++ h ++ back → back ≡ f → now ≡ b ++ h ++ f ++ e
all_joined b h f back e before now wrote held same = wrote ∙ ap (λ l. l ++ e) (held ∙ ap (λ l. b ++ h ++ l) same) ∙ simp append_assoc

-- the master holds all of it behind the blocks of the journal
pub holds_all : {I W : Type 0} (sinks : SinkOutside W) (at : Playing) (p : ProcessState I W) (w : W) → IsMastered sinks at p → sinks.tells →
    sinks.held w ≡ sinks.held p.master.sink ++ end_bytes at.session p.journal.room (length p.journal.items) →
    HoldsAll sinks at (record p { master = record p.master { sink = w } })
holds_all sinks at p w mastered tells wrote more sounds genuine = let blocks = entry_bytes at.session (at.edits ++ more) (samples_of sounds at.session (at.edits ++ more)) in
    all_joined at.before (head_bytes at.session p.journal.room) (flat_map blocks (seen_entries p.journal.items)) (flat_map blocks (reverse (reverse (seen_entries p.journal.items))))
    (end_bytes at.session p.journal.room (length p.journal.items)) (sinks.held p.master.sink) (sinks.held w) wrote (mastered tells more sounds genuine)
    (ap (flat_map blocks) (reverse-reverse (seen_entries p.journal.items)))
