-- The process after a cycle whose entry was noted: it plays on, made its entry, and its master stands.
use Rattle.std.proofs.Common.{◌≡◌, ℕ, ◌≤◌, [], ◌∷◌, ◌++◌, length, ap, ◌∙◌, sym, subst, arith}
use Rattle.ses_io.specs.FixedList.{Listed}
use Rattle.ses_io.specs.Outside.{SourceOutside, SinkOutside}
use Rattle.edition_log.specs.EditionState as log
use Rattle.piece_item.specs.declared.ack.Ack.{Ack}
use Rattle.cycle_journal.specs.declared.entry.Entry.{Entry}
use Rattle.master_blocks.specs.State.{IsMasterOf}
use Rattle.process_cycle.specs.Cycles.{Acknowledges, MakesEntry, MayCycle, ReadsBlock, block_after, next_bytes}
use Rattle.process_cycle.specs.Making.{IsMade}
use Rattle.process_cycle.specs.Noting.{NotesOnly, told_of}
use Rattle.process_cycle.specs.Playing.{IsPlaying}
use Rattle.process_cycle.specs.ProcessState.{ProcessState, Playing}
use Rattle.process_cycle.specs.Promised.{IsMastered}
use Rattle.process_cycle.proofs.EntryLemmas.{next_few}
use Rattle.process_cycle.proofs.CycleLemmas.{after, makes_entry, mastered_after_a_cycle, plays_after_a_cycle}

module _ {I W : Type 0} (inputs : SourceOutside I) (at : Playing) (e : log.EditionState) (p q fin : ProcessState I W) (may : MayCycle inputs at e p) (made : Entry) (m : IsMade e p q made)
    (noted : fin.journal ≡ record q.journal { items = q.journal.items ++ made ∷ [] }) (next : fin.next ≡ block_after made.state q.next)
    (to_butler : Acknowledges (told_of fin made) q.ends.to_butler fin.ends.to_butler) (to_control : Acknowledges (told_of fin made) q.ends.to_control fin.ends.to_control) (same : NotesOnly q fin) where
  -- the process by what it was before the cycle
  abbrev by_first : ProcessState I W → ProcessState I W
  by_first x = record x {
    ends = record { plays = x.ends.plays; takes = x.ends.takes; to_butler = fin.ends.to_butler; to_control = fin.ends.to_control };
    journal = fin.journal;
    next = fin.next;
  }

  abbrev journal_of : ProcessState I W → Listed Entry
  journal_of x = record x.journal { items = x.journal.items ++ made ∷ [] }

  abbrev told_at : ℕ → Ack
  told_at g = record { cycle = length fin.journal.items; generation = g; next = fin.next; settled = made.settled }

  abbrev finished : ProcessState I W
  finished = after inputs at e p q may made m fin.ends.to_butler fin.ends.to_control fin.journal fin.next (noted ∙ ap journal_of m.same) (next ∙ ap (λ x. block_after made.state x.next) m.same)

  fin_is : fin ≡ finished
  fin_is = same ∙ ap by_first m.same

  told : told_of fin made ≡ told_at p.generation
  told = ap told_at (ap (λ x. x.generation) fin_is)

  butler_told : Acknowledges (told_of fin made) p.ends.to_butler fin.ends.to_butler
  butler_told = subst (λ a. Acknowledges (told_of fin made) a fin.ends.to_butler) (ap (λ x. x.ends.to_butler) m.same) to_butler

  control_told : Acknowledges (told_of fin made) p.ends.to_control fin.ends.to_control
  control_told = subst (λ a. Acknowledges (told_of fin made) a fin.ends.to_control) (ap (λ x. x.ends.to_control) m.same) to_control

  module _ (master : IsMasterOf at.session q.master) (reads : ReadsBlock inputs at p q) where
    pub plays_after : IsPlaying inputs at fin
    plays_after = subst (IsPlaying inputs at) (sym fin_is) (plays_after_a_cycle inputs at e p q may made m fin.ends.to_butler fin.ends.to_control fin.journal fin.next (noted ∙ ap journal_of m.same)
        (next ∙ ap (λ x. block_after made.state x.next) m.same) (told_of fin made) told butler_told control_told master reads)

    pub entry_after : MakesEntry at.session e p fin
    entry_after = subst (MakesEntry at.session e p) (sym fin_is) (makes_entry inputs at e p q may made m fin.ends.to_butler fin.ends.to_control fin.journal fin.next (noted ∙ ap journal_of m.same)
        (next ∙ ap (λ x. block_after made.state x.next) m.same) (told_of fin made) told butler_told control_told master reads)

  pub mastered_after : (outside : SinkOutside W) → (outside.tells → outside.held q.master.sink ≡ outside.held p.master.sink ++ next_bytes at.session e p) → IsMastered outside at p → IsMastered outside at fin
  mastered_after outside wrote was = subst (IsMastered outside at) (sym fin_is) (mastered_after_a_cycle inputs at e p q may made m fin.ends.to_butler fin.ends.to_control fin.journal fin.next (noted ∙ ap journal_of m.same)
      (next ∙ ap (λ x. block_after made.state x.next) m.same) outside wrote was)

-- the next block is far from the end of 32 bits
pub next_is_near : {I W : Type 0} (inputs : SourceOutside I) (at : Playing) (e : log.EditionState) (p q : ProcessState I W) (made : Entry) → MayCycle inputs at e p → IsMade e p q made → q.next ≤ 100000
next_is_near inputs at e p q made may m = omega (arith, ap (λ x. x.next) m.same, next_few inputs at e p may)
