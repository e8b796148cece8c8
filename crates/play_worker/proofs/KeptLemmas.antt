-- What a process keeps over its cycles.
use Rattle.std.proofs.Common.{◌≡◌, inl, inr, ℕ, ℤ, [], ◌∷◌, List, length, refl, sym, ap, ◌∙◌, subst, arith, append-nil}
use Rattle.std.specs.Prelude.{slice_get, Result, Ok, Err, OnOk, OnErr}
use Rattle.std.proofs.lemmas.Option.{same_Some, slice_get_within}
use base.Growing.{prefix_trans}
use Rattle.ses_io.specs.Outside.{SourceOutside}
use Rattle.session_model.specs.declared.session.Session.{Session}
use Rattle.engine_laws.proofs.ListLemmas.{item_at}
use Rattle.disk_ring.specs.Sender.{Sender, GoesOnIn}
use Rattle.disk_ring.specs.Receiver.{GoesOnOut}
use Rattle.disk_ring.proofs.GoesOn.{after_put, after_full, goes_on_in_refl, goes_on_in_trans, goes_on_out_refl, goes_on_out_trans}
use Rattle.piece_item.specs.declared.ack.Ack.{Ack}
use Rattle.piece_item.specs.declared.take_block.TakeBlock.{TakeBlock}
use Rattle.cycle_journal.specs.declared.note.Take.{Take}
use Rattle.cycle_journal.specs.declared.note.Take.TheVariants.{Off, Taken, Lost}
use Rattle.edition_log.specs.EditionState.{EditionState as Edition}
use Rattle.track_capture.specs.Counted.{HasCaptured}
use Rattle.process_ends.specs.declared.ends.ProcessEnds.{ProcessEnds}
use Rattle.process_cycle.specs.declared.fault.CycleFault.{CycleFault}
use Rattle.process_cycle.specs.declared.fault.CycleFault.TheVariants.{InputFault, MasterFault}
use Rattle.process_cycle.specs.ProcessState.{Playing, ProcessState}
use Rattle.process_cycle.specs.Looked.{Keeps}
use Rattle.process_cycle.specs.Cycles.{Acknowledges, CycleReads, HasStopped, MakesEntry}
use Rattle.play_worker.specs.Patient.{AllGoOn}
use Rattle.play_worker.specs.Kept.{KeepsRings, KeepsRun}

-- ---- looks

module _ {I W : Type 0} where
  pub keeps_trans : (a b c : ProcessState I W) → Keeps a b → Keeps b c → Keeps a c
  keeps_trans a b c h k = record {
    same = k.same ∙ ap (λ (z : ProcessState I W). record z {
      ends = record { plays = c.ends.plays; takes = z.ends.takes; to_butler = z.ends.to_butler; to_control = z.ends.to_control };
      playbacks = c.playbacks;
      entered = c.entered;
      generation = c.generation;
      next = c.next;
    }) h.same;
    plays_room = k.plays_room ∙ h.plays_room;
  }

  -- the ends that put, and the input, are as they were
  pub looks_keep_run : (a b : ProcessState I W) → length b.ends.plays.items ≡ length a.ends.plays.items → AllGoOn a.ends.plays.items b.ends.plays.items → Keeps a b → KeepsRun a b
  looks_keep_run a b many plays keeps =
      let takes : b.ends.takes ≡ a.ends.takes = ap (λ (z : ProcessState I W). z.ends.takes) keeps.same in
      let journal : b.journal ≡ a.journal = ap (λ (z : ProcessState I W). z.journal) keeps.same in record {
        rings = record {
          many_plays = many;
          plays = plays;
          many_takes = ap (λ l. length l.items) takes;
          takes = λ t x y hx hy. subst (GoesOnIn x) (same_Some x y (sym hx ∙ sym (ap (λ l. slice_get l.items t) takes) ∙ hy)) (goes_on_in_refl x);
          to_butler = subst (GoesOnIn a.ends.to_butler) (sym (ap (λ (z : ProcessState I W). z.ends.to_butler) keeps.same)) (goes_on_in_refl a.ends.to_butler);
          to_control = subst (GoesOnIn a.ends.to_control) (sym (ap (λ (z : ProcessState I W). z.ends.to_control) keeps.same)) (goes_on_in_refl a.ends.to_control);
        };
        journal = ([], append-nil a.journal.items ∙ ap (λ j. j.items) (sym journal));
        room = ap (λ j. j.room) journal;
        stream = ap (λ (z : ProcessState I W). z.input.stream) keeps.same;
        block = ap (λ (z : ProcessState I W). z.input.block) keeps.same;
      }

-- ---- an entry

acknowledged : (ack : Ack) (a b : Sender Ack) → Acknowledges ack a b → GoesOnIn a b
acknowledged ack a b (inl put) = after_put a b ack put.1.sent put.1.head.rises
acknowledged ack a b (inr full) = after_full a b full.0 full.1.heads full.1.head_is.rises

captured : (s : Session) (t channels : ℕ) (input : List ℤ) (a : Sender TakeBlock) (note : Take) (b : Sender TakeBlock) → HasCaptured s t channels input a note b → GoesOnIn a b
captured s t channels input a Off b is = subst (GoesOnIn a) (sym is) (goes_on_in_refl a)
captured s t channels input a (Taken n i) b is = after_put a b is.block is.sent is.head.rises
captured s t channels input a (Lost n i head) b is = after_full a b head is.heads is.head_is.rises

module _ {I W : Type 0} (inputs : SourceOutside I) (at : Playing) (e : Edition) (p q : ProcessState I W) where
  entry_keeps_run : MakesEntry at.session e p q → q.input.stream ≡ p.input.stream → q.input.block ≡ p.input.block → KeepsRun p q
  entry_keeps_run made stream block = record {
    rings = record {
      many_plays = ap (λ (z : ProcessState I W). length z.ends.plays.items) made.same;
      plays = λ t x y hx hy. subst (GoesOnOut x) (same_Some x y (sym hx ∙ sym (ap (λ (z : ProcessState I W). slice_get z.ends.plays.items t) made.same) ∙ hy)) (goes_on_out_refl x);
      many_takes = made.rings;
      takes = λ t x y hx hy. let note = item_at made.made.notes.items t (omega (arith, slice_get_within p.ends.takes.items t x hx, made.notes)) in
          captured at.session t q.input.stream.form.channels q.input.samples x note.0.take y (made.captured t x y note.0 hx hy note.1);
      to_butler = acknowledged _ p.ends.to_butler q.ends.to_butler made.to_butler;
      to_control = acknowledged _ p.ends.to_control q.ends.to_control made.to_control;
    };
    journal = (made.made ∷ [], sym (ap (λ j. j.items) made.noted));
    room = ap (λ j. j.room) made.noted;
    stream = stream;
    block = block;
  }

  fault_keeps_run : HasStopped p q → q.input.stream ≡ p.input.stream → q.input.block ≡ p.input.block → KeepsRun p q
  fault_keeps_run stopped stream block = let ends : q.ends ≡ p.ends = ap (λ (z : ProcessState I W). z.ends) stopped in
      let journal : q.journal ≡ p.journal = ap (λ (z : ProcessState I W). z.journal) stopped in record {
        rings = subst (KeepsRings p.ends) (sym ends) (rings_stand p.ends);
        journal = ([], append-nil p.journal.items ∙ ap (λ j. j.items) (sym journal));
        room = ap (λ j. j.room) journal;
        stream = stream;
        block = block;
      }
    where
      rings_stand : (r : ProcessEnds) → KeepsRings r r
      rings_stand r = record {
        many_plays = refl;
        plays = λ t x y hx hy. subst (GoesOnOut x) (same_Some x y (sym hx ∙ hy)) (goes_on_out_refl x);
        many_takes = refl;
        takes = λ t x y hx hy. subst (GoesOnIn x) (same_Some x y (sym hx ∙ hy)) (goes_on_in_refl x);
        to_butler = goes_on_in_refl r.to_butler;
        to_control = goes_on_in_refl r.to_control;
      }

  pub cycle_keeps_run : (result : Result (Unit {0}) CycleFault) → OnOk result (MakesEntry at.session e p q) → OnErr result (HasStopped p q) → CycleReads inputs at p result q → KeepsRun p q
  cycle_keeps_run (Ok x) made fault reads = entry_keeps_run made reads.stream reads.block
  cycle_keeps_run (Err InputFault) made fault reads = fault_keeps_run fault reads.stream reads.block
  cycle_keeps_run (Err MasterFault) made fault reads = fault_keeps_run fault reads.stream reads.block

-- ---- one after the other

module _ {I W : Type 0} where
  pub run_refl : (p : ProcessState I W) → KeepsRun p p
  run_refl p = looks_keep_run p p refl (λ t x y hx hy. subst (GoesOnOut x) (same_Some x y (sym hx ∙ hy)) (goes_on_out_refl x)) (record { same = refl; plays_room = refl })

  pub run_trans : (a b c : ProcessState I W) → KeepsRun a b → KeepsRun b c → KeepsRun a c
  run_trans a b c h k = record {
    rings = record {
      many_plays = k.rings.many_plays ∙ h.rings.many_plays;
      plays = λ t x z hx hz. let y = item_at b.ends.plays.items t (omega (arith, slice_get_within a.ends.plays.items t x hx, h.rings.many_plays)) in
          goes_on_out_trans x y.0 z (h.rings.plays t x y.0 hx y.1) (k.rings.plays t y.0 z y.1 hz);
      many_takes = k.rings.many_takes ∙ h.rings.many_takes;
      takes = λ t x z hx hz. let y = item_at b.ends.takes.items t (omega (arith, slice_get_within a.ends.takes.items t x hx, h.rings.many_takes)) in
          goes_on_in_trans x y.0 z (h.rings.takes t x y.0 hx y.1) (k.rings.takes t y.0 z y.1 hz);
      to_butler = goes_on_in_trans a.ends.to_butler b.ends.to_butler c.ends.to_butler h.rings.to_butler k.rings.to_butler;
      to_control = goes_on_in_trans a.ends.to_control b.ends.to_control c.ends.to_control h.rings.to_control k.rings.to_control;
    };
    journal = prefix_trans a.journal.items b.journal.items c.journal.items h.journal k.journal;
    room = k.room ∙ h.room;
    stream = k.stream ∙ h.stream;
    block = k.block ∙ h.block;
  }
