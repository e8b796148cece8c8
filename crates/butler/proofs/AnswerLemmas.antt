-- What a turn answers: so many blocks were flushed, and then so many items were sent, or a read failed.
use Rattle.std.proofs.Common.{◌≡◌, ℕ, zero, suc, ◌+◌, ◌-◌, ◌<◌, ◌≤◌, List, refl, sym, ap, ◌∙◌, subst, arith}
use Rattle.std.specs.Prelude.{Result, Ok, slice_get, Some}
use Rattle.ses_io.specs.FixedList.{Listed}
use Rattle.ses_io.specs.Outside.{MediaOutside}
use Rattle.session_model.specs.declared.session.Session.{Session}
use Rattle.edition_log.specs.EditionState.{EditionState as Edition}
use Rattle.audio_source.specs.declared.refusal.ReadFault.{ReadFault as ReadFailed}
use Rattle.disk_ring.specs.Sender.{Sender}
use Rattle.piece_item.specs.declared.item.Item.{Item}
use Rattle.piece_item.specs.declared.ack.Ack.{Ack as Acknowledgement}
use Rattle.read_ahead.specs.AllServes.{total_sent}
use Rattle.capture_drain.specs.Drains.{total_received}
use Rattle.butler.specs.declared.turning.Turn.{Turn}
use Rattle.butler.specs.declared.turning.Turn.TheVariants.{Moved, Idle}
use Rattle.butler.specs.Sends.{acks_of, IsDone}
use Rattle.butler.specs.ButlerState.{ButlerState, Served, start_of}
use Rattle.butler.specs.Turns.{HasFlushed, Leaves, HasClosed, Answers}
use Rattle.butler.specs.Steps.{Accepts, EntersIn, Flushes, SendsOn}
use Rattle.butler.proofs.FlushedLemmas as flushed
use Rattle.butler.proofs.SendingLemmas.{HasSentAll, HasSentSome}

module _ {V : Type 0} (outside : MediaOutside V) (at : Served) (e : Edition) (most n : ℕ) (b c d f g : ButlerState V) (accepts : Accepts b c) (enters : EntersIn e c d)
    (flushes : Flushes outside (start_of at) most d (Ok n) f) (result : Result ℕ ReadFailed) (sends : SendsOn outside e (most - n) f result g) where
  sends_were : f.ends.sends ≡ b.ends.sends
  sends_were = flushed.sends_after outside at e most b c d f accepts enters (Ok n) flushes

  were : (t : ℕ) (x : Sender Item) → slice_get b.ends.sends.items t ≡ Some x → slice_get f.ends.sends.items t ≡ Some x
  were t x hx = ap (λ (z : Listed (Sender Item)). slice_get z.items t) sends_were ∙ hx

  total_was : total_sent f.ends.sends.items ≡ total_sent b.ends.sends.items
  total_was = ap (λ (z : Listed (Sender Item)). total_sent z.items) sends_were

  counted : (total_received f.ends.takes.items ≡ total_received b.ends.takes.items + n) × (n ≤ most) × (f.write_failed ≡ b.write_failed)
  counted = flushed.counted outside at e most n b c d f accepts enters flushes

  received_is : total_received g.ends.takes.items ≡ total_received f.ends.takes.items
  received_is = ap (λ z. total_received z.ends.takes.items) sends.same

  -- flushing is over where fewer were flushed than asked
  pub over : n < most → HasFlushed b g
  over fewer = subst (λ (z : ButlerState V). HasFlushed b z) (sym sends.same) (flushed.over outside at e most n b c d f accepts enters flushes fewer)

  done_as : (t : ℕ) (x y : Sender Item) → IsDone at.session e.edits f.cycles t (acks_of f.ends.acks.received) x y → IsDone at.session e.edits b.cycles t (acks_of g.ends.acks.received) x y
  done_as t x y done = let P : (ℕ × List Acknowledgement) → Type 0 = λ z. IsDone at.session e.edits z.0 t (acks_of z.1) x y in
      subst P (λ i. (flushed.cycles_after outside at e most b c d f accepts enters (Ok n) flushes i, sym (ap (λ z. z.ends.acks.received) sends.same) i)) done

  pub leaves : (m : ℕ) → HasSentAll at.session e (most - n) m f g → Leaves at.session e (acks_of g.ends.acks.received) most (n + m) b g
  leaves m all = let few = all.few in let sent = all.counted in let had = counted in let within = had.1 in let taken = had.0 in record {
    most = omega arith;
    moved = omega (arith, sent, total_was, taken, received_is);
    still_open = λ t x y hx hy. all.still_open t x y (were t x hx) hy;
    flushed_first = λ more. over (omega (arith, sent, total_was, few, within, more));
    flushed = λ fewer. over (omega arith);
    done = λ fewer t x y hx hy. done_as t x y (all.done (omega arith) t x y (were t x hx) hy);
    ahead = λ fewer fine. all.ahead (omega arith) (flushed.reads_after outside at e most b c d f accepts enters (Ok n) flushes ∙ fine);
    in_order = λ u t x y z w below hx hy hz hw more. done_as u x y (all.in_order u t x y z w below (were u x hx) hy (were t z hz) hw more);
  }

  -- a read failed, so something was asked of the tracks
  pub closes : HasSentSome at.session e (most - n) f g → 0 < most - n → HasClosed at.session e (acks_of g.ends.acks.received) most b g
  closes some asked = let had = counted in let fewer = some.fewer in let within = had.1 in let taken = had.0 in record {
    closed = some.closed;
    flushed = over (omega arith);
    fewer = omega (arith, fewer, total_was, taken, received_is);
    in_order = λ u t x y z w below hx hy hz hw more. done_as u x y (some.in_order u t x y z w below (were u x hx) hy (were t z hz) hw more);
  }

-- the answer, by how many were moved
pub answers_by : {V : Type 0} (s : Session) (e : Edition) (most moved : ℕ) (b g : ButlerState V) (turn : Turn) → (moved ≡ 0 → turn ≡ Idle) → (1 ≤ moved → turn ≡ Moved moved) →
    Leaves s e (acks_of g.ends.acks.received) most moved b g → Answers s e most b (Ok turn) g
answers_by s e most zero b g turn idle some leaves = subst (λ (t : Turn). Answers s e most b (Ok t) g) (sym (idle refl)) leaves
answers_by s e most (suc m) b g turn idle some leaves = subst (λ (t : Turn). Answers s e most b (Ok t) g) (sym (some (omega arith))) (omega arith, leaves)
