-- What a butler keeps of its ends.
use Rattle.std.proofs.Common.{◌≡◌, ℕ, ◌≤◌, List, refl, sym, ◌∙◌, subst, arith}
use Rattle.std.specs.Prelude.{Bool, true, false, if◌then◌else◌, slice_get, Some, Result}
use Rattle.std.proofs.lemmas.Option.{same_Some, slice_get_within}
use mathlib.Core.List.{IsPrefix}
use base.Growing.{prefix_refl, prefix_trans}
use Rattle.ses_io.specs.Outside.{MediaOutside}
use Rattle.session_model.specs.declared.session.Session.{Session}
use Rattle.session_model.specs.declared.edit.Edit.{Edit}
use Rattle.engine_laws.proofs.ListLemmas.{item_at}
use Rattle.edition_log.specs.EditionState.{EditionState as Edition}
use Rattle.disk_ring.specs.Receiver.{GoesOnOut}
use Rattle.disk_ring.specs.Sender.{Sender}
use Rattle.disk_ring.proofs.GoesOn.{goes_on_out_refl, goes_on_out_trans}
use Rattle.piece_item.specs.declared.butler_ends.ButlerEnds.{ButlerEnds}
use Rattle.piece_item.specs.declared.item.Item.{Item}
use Rattle.butler.specs.declared.turning.Turn.{Turn}
use Rattle.butler.specs.declared.faults.ButlerFault.{ButlerFault}
use Rattle.butler.specs.ButlerState.{ButlerState}
use Rattle.butler.specs.Faults.{Fails, KeepsRest, is_read_fault, is_write_fault}
use Rattle.butler.specs.Hushed.{Hushes}
use Rattle.butler.specs.Serving.{IsServing}
use Rattle.butler.specs.Turns.{AllSend, Receives}
use Rattle.serve_worker.specs.Kept.{KeepsButler, KeepsItsEnds, KeepsSending}

-- ---- one end

sending_refl : (a : Sender Item) → KeepsSending a a
sending_refl a = record { ring = refl; depth = refl; room = refl; sent = prefix_refl a.sent; heads = prefix_refl a.heads; got = omega arith; closed = λ so. so }

sending_trans : (a b c : Sender Item) → KeepsSending a b → KeepsSending b c → KeepsSending a c
sending_trans a b c h k = record {
  ring = k.ring ∙ h.ring;
  depth = k.depth ∙ h.depth;
  room = k.room ∙ h.room;
  sent = prefix_trans a.sent b.sent c.sent h.sent k.sent;
  heads = prefix_trans a.heads b.heads c.heads h.heads k.heads;
  got = omega (arith, h.got, k.got);
  closed = λ so. k.closed (h.closed so);
}

sending_shut : (a b : Sender Item) → b ≡ record a { closed = true } → KeepsSending a b
sending_shut a b is = subst (KeepsSending a) (sym is) (record { ring = refl; depth = refl; room = refl; sent = prefix_refl a.sent; heads = prefix_refl a.heads; got = omega arith; closed = λ so. refl })

-- ---- all of them

pub rings_refl : (ends : ButlerEnds) → KeepsItsEnds ends ends
rings_refl ends = record {
  many_sends = refl;
  sends = λ t a b ha hb. subst (KeepsSending a) (same_Some a b (sym ha ∙ hb)) (sending_refl a);
  many_takes = refl;
  takes = λ t a b ha hb. subst (GoesOnOut a) (same_Some a b (sym ha ∙ hb)) (goes_on_out_refl a);
  acks = goes_on_out_refl ends.acks;
}

pub rings_trans : (x y z : ButlerEnds) → KeepsItsEnds x y → KeepsItsEnds y z → KeepsItsEnds x z
rings_trans x y z h k = record {
  many_sends = k.many_sends ∙ h.many_sends;
  sends = λ t a c ha hc. let b = item_at y.sends.items t (omega (arith, slice_get_within x.sends.items t a ha, h.many_sends)) in
      sending_trans a b.0 c (h.sends t a b.0 ha b.1) (k.sends t b.0 c b.1 hc);
  many_takes = k.many_takes ∙ h.many_takes;
  takes = λ t a c ha hc. let b = item_at y.takes.items t (omega (arith, slice_get_within x.takes.items t a ha, h.many_takes)) in
      goes_on_out_trans a b.0 c (h.takes t a b.0 ha b.1) (k.takes t b.0 c b.1 hc);
  acks = goes_on_out_trans x.acks y.acks z.acks h.acks k.acks;
}

-- ---- the butler

module _ {V : Type 0} where
  pub butler_refl : (b : ButlerState V) → KeepsButler b b
  butler_refl b = record { ends = rings_refl b.ends; opened = refl; cycles = refl; hushed = λ so. so; write_failed = λ so. so }

  pub butler_trans : (a b c : ButlerState V) → KeepsButler a b → KeepsButler b c → KeepsButler a c
  butler_trans a b c h k = record {
    ends = rings_trans a.ends b.ends c.ends h.ends k.ends;
    opened = k.opened ∙ h.opened;
    cycles = k.cycles ∙ h.cycles;
    hushed = λ so. k.hushed (h.hushed so);
    write_failed = λ so. k.write_failed (h.write_failed so);
  }

  -- told to send nothing any more it keeps them too
  pub butler_hushed : (old new : ButlerState V) → Hushes old new → KeepsButler old new
  butler_hushed old new does = subst (KeepsButler old) (sym does.same) (record {
    ends = record {
      many_sends = does.shut.sends;
      sends = λ t a b ha hb. sending_shut a b (does.shut.each t a b ha hb);
      many_takes = refl;
      takes = (rings_refl old.ends).takes;
      acks = goes_on_out_refl old.ends.acks;
    };
    opened = refl;
    cycles = refl;
    hushed = λ so. refl;
    write_failed = λ so. so;
  })

-- what has failed has
still_failed : (flag was now : Bool) → now ≡ (if flag then true else was) → was ≡ true → now ≡ true
still_failed true was now is so = is
still_failed false was now is so = is ∙ so

-- ---- a turn

module _ {V : Type 0} (media : MediaOutside V) (s : Session) (before now : List Edit) (e : Edition) (old new : ButlerState V) (answer : Result Turn ButlerFault) (was : IsServing s before old) (is : IsServing s now new)
    (fails : Fails media old answer new) where
  still_closed : (flag : Bool) → (a b : Bool) → a ≡ old.hushed → b ≡ new.hushed → new.hushed ≡ (if flag then true else old.hushed) → a ≡ true → b ≡ true
  still_closed true a b ha hb so on = hb ∙ so
  still_closed false a b ha hb so on = hb ∙ so ∙ sym ha ∙ on

  sent_on : (t : ℕ) (a b : Sender Item) → slice_get old.ends.sends.items t ≡ Some a → slice_get new.ends.sends.items t ≡ Some b → b.ring ≡ a.ring → b.depth ≡ a.depth → b.room ≡ a.room →
      IsPrefix a.sent b.sent → IsPrefix a.heads b.heads → a.got ≤ b.got → KeepsSending a b
  sent_on t a b ha hb ring depth room sent heads got = let p = item_at old.supplies t (omega (arith, slice_get_within old.ends.sends.items t a ha, was.sends, was.supplies)) in
      let q = item_at new.supplies t (omega (arith, slice_get_within new.ends.sends.items t b hb, is.sends, is.supplies)) in record {
        ring = ring;
        depth = depth;
        room = room;
        sent = sent;
        heads = heads;
        got = got;
        closed = still_closed (is_read_fault answer) a.closed b.closed (was.tracks t p.0 a p.1 ha).closed (is.tracks t q.0 b q.1 hb).closed fails.hushed;
      }

  turn_keeps_rings : Receives old new → AllSend s e old new → KeepsItsEnds old.ends new.ends
  turn_keeps_rings receives sends = record {
    many_sends = is.sends ∙ sym was.sends;
    sends = λ t a b ha hb. let did = sends t a b ha hb in sent_on t a b ha hb did.ring did.depth did.room (did.items, sym did.sent) (did.full, sym did.heads) did.got;
    many_takes = receives.takes.many;
    takes = λ t a b ha hb. (receives.takes.each t a b ha hb).goes_on;
    acks = receives.acks.goes_on;
  }

  pub turn_keeps : Receives old new → AllSend s e old new → KeepsRest media s e old new → KeepsButler old new
  turn_keeps receives sends rest = record {
    ends = turn_keeps_rings receives sends;
    opened = rest.sources;
    cycles = rest.cycles;
    hushed = still_failed (is_read_fault answer) old.hushed new.hushed fails.hushed;
    write_failed = still_failed (is_write_fault answer) old.write_failed new.write_failed fails.write_failed;
  }
