-- What was answered is true of the journal and of what was acknowledged, and what has failed of control is noted.
use Rattle.std.proofs.Common.{◌≡◌, inl, inr, ℕ, List, [], ◌∷◌, length, refl, sym, ap, subst, ◌∙◌, arith}
use Rattle.std.specs.Prelude.{Bool, true, false, ◌&&◌, suc, reverse, Option, Some, None}
use Rattle.std.specs.List.{list_all}
use Rattle.std.proofs.lemmas.Bool.{and_from, and_parts, false≢true}
use Rattle.std.proofs.lemmas.List.{reverse-append}
use Rattle.std.proofs.lemmas.List.Folds.{list_all-append}
use Rattle.std.proofs.lemmas.Option.{same_Some}
use Rattle.ses_io.specs.Outside.{SourceOutside, SinkOutside}
use Rattle.session_model.specs.declared.edit.Edit.{Edit}
use Rattle.engine_model.specs.Due.{Ack}
use Rattle.engine_model.specs.Edits.{generation}
use Rattle.engine_model.specs.Journal.{Entry, rolled}
use Rattle.engine_model.specs.Lines.{Line}
use Rattle.engine_model.specs.Replies.{Reply}
use Rattle.process_cycle.specs.Told.{AreTold}
use Rattle.serial_laws.specs.Truth.{AreOfEntries}
use Rattle.control_desk.specs.GoesOn as desk
use Rattle.control_desk.specs.GoesOn.{GoesOn, Passes}
use Rattle.control_desk.specs.State.{ControlState}
use Rattle.control_desk.specs.Standing.{read_failed, write_failed}
use Rattle.run_end.specs.Failures.{IsFaultCount}

-- ---- acknowledgements are of entries

-- of more entries too
more_entries : (e : Entry) (before : List Entry) (acks : List Ack) → AreOfEntries before acks → AreOfEntries (e ∷ before) acks
more_entries e before [] all = tt
more_entries e before (ack ∷ acks) all = (record { place = suc (all.0.place); entry = all.0.entry; there = all.0.there; settled = all.0.settled }, more_entries e before acks all.1)

pub told_of_entries : (edits : List Edit) (depth : ℕ) (entries : List Entry) (acks : List Ack) (heads : List ℕ) → AreTold edits depth entries acks heads → AreOfEntries entries acks
told_of_entries edits depth [] acks heads told = subst (AreOfEntries []) (sym told.0) tt
told_of_entries edits depth (e ∷ before) acks heads (inl put) = subst (AreOfEntries (e ∷ before)) (sym put.newest) (
  record { place = 0; entry = e; there = refl; settled = ap (λ (a : Ack). a.settled) (sym (same_Some (acknowledged e before) put.ack put.is)) },
  more_entries e before put.earlier (told_of_entries edits depth before put.earlier heads put.told),
)
  where
    acknowledged : Entry → List Entry → Ack
    acknowledged e before = record {
      cycle = suc (length before);
      generation = generation edits e.edition;
      next = rolled (generation edits e.edition) (e ∷ before);
      settled = e.settled;
    }
told_of_entries edits depth (e ∷ before) acks heads (inr full) = more_entries e before acks (told_of_entries edits depth before acks full.earlier full.told)

-- what is so of each reply is so of them in the other order
pub all_turned : {X : Type 0} (p : X → Bool) (xs : List X) → list_all p xs ≡ true → list_all p (reverse xs) ≡ true
all_turned p [] all = refl
all_turned p (x ∷ xs) all = let both = and_parts (p x) (list_all p xs) all in
    ap (list_all p) (reverse-append (x ∷ []) xs) ∙ list_all-append p (reverse xs) (x ∷ [])
    ∙ and_from (list_all p (reverse xs)) (p x && true) (all_turned p xs both.1) (and_from (p x) true both.0 refl)

-- ---- faults of control

module _ {C O : Type 0} (source : SourceOutside C) (sink : SinkOutside O) where
  counted_by : (before now : ℕ) (rose : Bool) → desk.IsCounted before now false rose → IsFaultCount before now rose
  counted_by before now rose c = record { later = c.later; kept = c.kept; raised = λ e. c.raised refl e }

  counted_still : (before now : ℕ) (rose : Bool) → now ≡ before → rose ≡ false → IsFaultCount before now rose
  counted_still before now rose same none = record { later = omega (arith, same); kept = λ e. same; raised = λ e. absurd (false≢true (sym none ∙ e)) }

  -- its source and out, as it began and ended
  pub record ControlIsCounted (old new : ControlState C O) : Type 0 where
    pub reads : IsFaultCount (source.faults old.lines.source) (source.faults new.lines.source) (read_failed new.standing)
    pub writes : IsFaultCount (sink.faults old.out) (sink.faults new.out) (write_failed new.standing)

  by_script : (old new : ControlState C O) (lines : List Line) (replies : List Reply) (s t : Option (List Line)) → read_failed old.standing ≡ false → write_failed old.standing ≡ false →
      Passes source sink old lines replies new s t → ControlIsCounted old new
  by_script old new lines replies None None unread unwritten passes = record {
    reads = counted_by (source.faults old.lines.source) (source.faults new.lines.source) (read_failed new.standing)
        (subst (λ b. desk.IsCounted (source.faults old.lines.source) (source.faults new.lines.source) b (read_failed new.standing)) unread passes.0.counted);
    writes = counted_by (sink.faults old.out) (sink.faults new.out) (write_failed new.standing)
        (subst (λ b. desk.IsCounted (sink.faults old.out) (sink.faults new.out) b (write_failed new.standing)) unwritten passes.1.counted);
  }
  by_script old new lines replies (Some before) (Some after) unread unwritten passes = record {
    reads = counted_still (source.faults old.lines.source) (source.faults new.lines.source) (read_failed new.standing) (ap (λ l. source.faults l.source) passes.1) (passes.3 ∙ unread);
    writes = counted_still (sink.faults old.out) (sink.faults new.out) (write_failed new.standing) (ap sink.faults passes.2) (passes.4 ∙ unwritten);
  }
  by_script old new lines replies None (Some after) unread unwritten passes = absurd passes
  by_script old new lines replies (Some before) None unread unwritten passes = absurd passes

  pub control_counted : (old new : ControlState C O) (lines : List Line) (replies : List Reply) → read_failed old.standing ≡ false → write_failed old.standing ≡ false → GoesOn source sink old lines replies new →
      ControlIsCounted old new
  control_counted old new lines replies unread unwritten goes = by_script old new lines replies old.script new.script unread unwritten goes.passes
