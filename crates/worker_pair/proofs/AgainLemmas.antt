-- Ends that know all of each other may meet again once one of each pair has gone on: where their counts agree nothing moved.
use Rattle.std.proofs.Common.{◌≡◌, inl, inr, ℕ, ◌+◌, ◌^◌, ◌≤◌, List, [], ◌∷◌, length, append-nil, sym, ap, subst, arith, ◌∙◌}
use Rattle.std.specs.Prelude.{ℤ, slice_get, slice_index_or, Some}
use Rattle.std.proofs.lemmas.Option.{slice_get-get_or}
use mathlib.Core.List.{IsPrefix}
use base.Growing.{prefix_refl}
use Rattle.session_model.specs.declared.session.Session.{Session}
use Rattle.machine_laws.proofs.Tracks.{also_there}
use Rattle.disk_ring.specs.Sender.{Sender}
use Rattle.disk_ring.specs.Receiver.{Receiver, GoesOnOut}
use Rattle.disk_ring.specs.Rings.{StillMet}
use Rattle.disk_ring.proofs.Beginnings.{whole}
use Rattle.piece_item.specs.declared.ack.Ack.{Ack}
use Rattle.piece_item.specs.declared.take_block.TakeBlock.{TakeBlock}
use Rattle.cycle_journal.specs.declared.note.Take.{Take}
use Rattle.cycle_journal.specs.declared.note.Take.TheVariants.{Off, Taken, Lost}
use Rattle.track_capture.specs.Counted.{HasCaptured}
use Rattle.process_cycle.specs.Cycles.{Acknowledges}
use Rattle.process_ends.specs.Ends.{AllMeet, AllStillMet, Meet}
use Rattle.worker_pair.specs.Met.{KnowEachOther, AllKnow}

-- more was put, or the ring was closed
pub record PutsOn {T : Type 0} (a c : Sender T) : Type 0 where
  pub depth : c.depth ≡ a.depth
  pub sent : IsPrefix a.sent c.sent

-- ---- a pair of ends

module _ {T : Type 0} where
  -- of which one puts on
  pub still_in : (a c : Sender T) (b : Receiver T) → KnowEachOther a b → PutsOn a c → StillMet c b
  still_in a c b know on agree = let was = know.passed in let same : a.sent ≡ c.sent = whole a.sent c.sent on.sent (sym (ap length know.heard) ∙ agree.heard) in record {
    depth = know.depth ∙ sym on.depth;
    passed = record {
      begins = subst (IsPrefix b.received) same was.begins;
      all = λ ended. (sym agree.over ∙ (agree.ended ended).0, (was.all ended).1 ∙ same);
      within = subst (λ n. length c.sent ≤ length b.received + n) (sym on.depth) (subst (λ l. length l ≤ length b.received + a.depth) same was.within);
      small = subst (λ l. length l ≤ 2 ^ 62) same was.small;
    };
    heard = subst (IsPrefix b.heard) (know.heard ∙ same) (prefix_refl b.heard);
    over = λ over. (sym agree.over ∙ over, know.heard ∙ same);
    got = omega (arith, agree.got);
  }

  -- of which one takes on
  pub still_out : (a : Sender T) (b d : Receiver T) → KnowEachOther a b → GoesOnOut b d → StillMet a d
  still_out a b d know on agree = let was = know.passed in let same : b.received ≡ d.received = whole b.received d.received on.received (sym know.got ∙ agree.got) in
      let told : b.heard ≡ d.heard = whole b.heard d.heard on.heard (ap length know.heard ∙ sym agree.heard) in record {
        depth = on.depth ∙ know.depth;
        passed = record {
          begins = subst (λ l. IsPrefix l a.sent) same was.begins;
          all = λ ended. (sym agree.over ∙ (agree.ended ended).0, sym (agree.ended ended).1 ∙ sym told ∙ know.heard);
          within = subst (λ l. length a.sent ≤ length l + a.depth) same was.within;
          small = was.small;
        };
        heard = subst (IsPrefix d.heard) (sym told ∙ know.heard) (prefix_refl d.heard);
        over = λ over. (sym agree.over ∙ over, sym told ∙ know.heard);
        got = omega (arith, agree.got);
      }

  -- of which neither went on
  pub still_known : (a : Sender T) (b : Receiver T) → KnowEachOther a b → StillMet a b
  still_known a b know = still_in a a b know (record { depth = λ i. a.depth; sent = prefix_refl a.sent })

  -- a meeting of which changes nothing
  pub meet_known : (a : Sender T) (b : Receiver T) → KnowEachOther a b → Meet a b a b
  meet_known a b know = record {
    sender = λ i. record a { got = know.got i };
    receiver = λ i. record b { heard = know.heard i; over = know.over i };
    met = record {
      depth = know.depth;
      passed = know.passed;
      heard = subst (IsPrefix b.heard) know.heard (prefix_refl b.heard);
      over = λ over. (sym know.over ∙ over, know.heard);
      got = omega (arith, know.got);
    };
  }

  -- ---- the pairs of two lists

  pub all_in : (a c : List (Sender T)) (b : List (Receiver T)) → AllKnow a b → length c ≡ length a → ((t : ℕ) (x y : Sender T) → slice_get a t ≡ Some x → slice_get c t ≡ Some y → PutsOn x y) →
      AllStillMet c b
  all_in a c b know many on t y r hy hr = let x = also_there c a t y many hy in still_in x.0 y r (know t x.0 r x.1 hr) (on t x.0 y x.1 hy)

  pub all_out : (a : List (Sender T)) (b d : List (Receiver T)) → AllKnow a b → length d ≡ length b → ((t : ℕ) (x y : Receiver T) → slice_get b t ≡ Some x → slice_get d t ≡ Some y → GoesOnOut x y) →
      AllStillMet a d
  all_out a b d know many on t s y hs hy = let x = also_there d b t y many hy in still_out s x.0 y (know t s x.0 hs x.1) (on t x.0 y x.1 hy)

  pub all_known : (a : List (Sender T)) (b : List (Receiver T)) → AllKnow a b → AllStillMet a b
  all_known a b know t s r hs hr = still_known s r (know t s r hs hr)

  pub all_meet_known : (a : List (Sender T)) (b : List (Receiver T)) → AllKnow a b → length b ≡ length a → AllMeet a b a b
  all_meet_known a b know many = record {
    senders = λ i. length a;
    receivers = λ i. length b;
    each = λ t x y within. meet_known (slice_index_or a t x) (slice_index_or b t y)
        (know t (slice_index_or a t x) (slice_index_or b t y) (slice_get-get_or a t x within) (slice_get-get_or b t y (omega (arith, within, many))));
  }

-- ---- what puts on

-- a capture
pub capture_puts : (s : Session) (t channels : ℕ) (input : List ℤ) (take : Take) (k l : Sender TakeBlock) → HasCaptured s t channels input k take l → PutsOn k l
capture_puts s t channels input Off k l same = record { depth = ap (λ (z : Sender TakeBlock). z.depth) same; sent = ([], append-nil k.sent ∙ sym (ap (λ (z : Sender TakeBlock). z.sent) same)) }
capture_puts s t channels input (Taken n i) k l taken = record { depth = ap (λ (z : Sender TakeBlock). z.depth) taken.sent; sent = (taken.block ∷ [], sym (ap (λ (z : Sender TakeBlock). z.sent) taken.sent)) }
capture_puts s t channels input (Lost n i head) k l refused =
    record { depth = ap (λ (z : Sender TakeBlock). z.depth) refused.heads; sent = ([], append-nil k.sent ∙ sym (ap (λ (z : Sender TakeBlock). z.sent) refused.heads)) }

-- an acknowledgement
pub ack_puts : (ack : Ack) (a b : Sender Ack) → Acknowledges ack a b → PutsOn a b
ack_puts ack a b (inl put) = record { depth = ap (λ (z : Sender Ack). z.depth) put.1.sent; sent = (ack ∷ [], sym (ap (λ (z : Sender Ack). z.sent) put.1.sent)) }
ack_puts ack a b (inr none) = record { depth = ap (λ (z : Sender Ack). z.depth) none.1.heads; sent = ([], append-nil a.sent ∙ sym (ap (λ (z : Sender Ack). z.sent) none.1.heads)) }
