-- A turn of at most one item is one move, or none.
use Rattle.std.proofs.Common.{◌≡◌, ◌≢◌, ℕ, ◌+◌, ◌^◌, ◌<◌, ◌≤◌, List, [], ◌∷◌, ◌++◌, length, refl, sym, ap, ◌∙◌, subst, arith, true, false, inl, inr, append-nil}
use Rattle.std.specs.Prelude.{Bool, ◌&&◌, not, nat_lt, is_some, if◌then◌else◌, reverse, slice_get, Some, None}
use Rattle.std.specs.Option.{option_map_or}
use Rattle.std.proofs.lemmas.Bool.{and_from, and_left, and_right, lt-ltb, eq-eqb, ne_eqb, false_from_ne_true}
use Rattle.std.proofs.lemmas.Option.{slice_get_within, same_Some}
use mathlib.Core.List.{IsPrefix}
use mathlib.Core.Logic.{dite}
use native.Mathlib.Decide.{ℕ_discrete}
use Rattle.session_model.specs.declared.session.Session.{Session}
use Rattle.engine_model.specs.Items.{Kind}
use Rattle.engine_model.specs.Due.{due}
use Rattle.engine_laws.proofs.JournalInvariantLemmas.{get_new}
use Rattle.machine_model.specs.Events.{Event, Send, Flush}
use Rattle.edition_log.specs.EditionState.{EditionState as Edition}
use Rattle.disk_ring.specs.Sender.{Sender}
use Rattle.disk_ring.specs.Receiver.{Receiver}
use Rattle.disk_ring.proofs.Beginnings.{begins_length}
use Rattle.piece_item.specs.declared.item.Item.{Item}
use Rattle.piece_item.specs.declared.take_block.TakeBlock.{TakeBlock}
use Rattle.read_ahead.specs.Items.{kinds}
use Rattle.read_ahead.specs.AllServes.{total_sent}
use Rattle.capture_drain.specs.Drains.{total_received}
use Rattle.butler.specs.declared.turning.Turn.TheVariants.{Moved, Idle}
use Rattle.butler.specs.Sends.{acks_of, SendsOf, IsDone}
use Rattle.butler.specs.ButlerState.{ButlerState}
use Rattle.butler.specs.Turns.{Receives, AllSend, HasFlushed, Leaves}
use Rattle.butler.specs.Moves.{waits, has_room, due_of, can_send, can_move, first_move, flushed_by, one_of, sent_by, IsAlone, MakesMove, ATurnOfOneIsOneMove}
use Rattle.butler.proofs.RingMoveLemmas.{none_at, no_wait, one_waits, found_full, one_due, sent_more, kinds_more, kinds_stand}
use Rattle.butler.proofs.GrowLemmas.{Rise, Stand, OneGrew, never_less, none_grew, one_grew}
use Rattle.butler.proofs.FindLemmas.{found_none, found_front, found_back}

abbrev taken : Receiver TakeBlock → ℕ
taken r = length r.received

abbrev put : Sender Item → ℕ
put d = length d.sent

abbrev counted : Bool → ℕ
counted here = if here then 1 else 0

module _ {V : Type 0} (s : Session) (e : Edition) (old new : ButlerState V) (receives : Receives old new) (sends : AllSend s e old new) (alone : IsAlone old new) where
  abbrev C : List (Receiver TakeBlock)
  C = old.ends.takes.items

  abbrev B : List (Receiver TakeBlock)
  B = new.ends.takes.items

  abbrev D : List (Sender Item)
  D = old.ends.sends.items

  abbrev F : List (Sender Item)
  F = new.ends.sends.items

  abbrev can : Event → Bool
  can = can_move s e old new

  takes_rise : Rise taken C B
  takes_rise t c b hc hb = begins_length c.received b.received (receives.takes.each t c b hc hb).goes_on.received

  sends_rise : Rise put D F
  sends_rise t d f hd hf = omega (arith, sent_more s e.edits old.cycles t (acks_of new.ends.acks.received) d f (sends t d f hd hf))

  -- ---- what can't be done

  no_flush_at : (t : ℕ) → ((c b : Receiver TakeBlock) → slice_get C t ≡ Some c → slice_get B t ≡ Some b → IsPrefix c.heard b.received × (taken b ≡ taken c)) → can (Flush t) ≡ false
  no_flush_at t over = none_at waits (slice_get C t) (λ c hc. let b = get_new B C t c (sym alone.many) hc in let all = over c b.0 hc b.1 in no_wait c b.0 all.0 all.1)

  no_flush : HasFlushed old new → Stand taken C B → (t : ℕ) → can (Flush t) ≡ false
  no_flush drained stand t = no_flush_at t (λ c b hc hb. ((drained t c b hc hb).told, stand t c b hc hb))

  -- a track that has all a turn can give it
  cannot_send : (t : ℕ) (d f : Sender Item) → slice_get D t ≡ Some d → slice_get F t ≡ Some f → put f ≡ put d → IsDone s e.edits old.cycles t (acks_of new.ends.acks.received) d f →
      can_send s e old new t d ≡ false
  cannot_send t d f hd hf same (inl closed) = and_left (not old.hushed) (has_room d && is_some (due_of s e old new t d)) (ap not (sym (alone.sends t d f hd hf).2 ∙ closed))
  cannot_send t d f hd hf same (inr (inl full)) = and_right (not old.hushed) (has_room d && is_some (due_of s e old new t d))
      (and_left (has_room d) (is_some (due_of s e old new t d)) (found_full d f (sends t d f hd hf).depth same full))
  cannot_send t d f hd hf same (inr (inr none)) = and_right (not old.hushed) (has_room d && is_some (due_of s e old new t d))
      (and_right (has_room d) (is_some (due_of s e old new t d)) (ap is_some (ap (λ l. due s e.edits old.cycles t (length e.edits) (acks_of new.ends.acks.received) (reverse l))
      (sym (kinds_stand s e.edits old.cycles t (acks_of new.ends.acks.received) d f (sends t d f hd hf) same ∙ append-nil (kinds d.sent))) ∙ none)))

  no_send_at : (t : ℕ) → ((d f : Sender Item) → slice_get D t ≡ Some d → slice_get F t ≡ Some f → (put f ≡ put d) × IsDone s e.edits old.cycles t (acks_of new.ends.acks.received) d f) → can (Send t) ≡ false
  no_send_at t over = none_at (can_send s e old new t) (slice_get D t) (λ d hd. let f = get_new F D t d (sym alone.many_sends) hd in let all = over d f.0 hd f.1 in cannot_send t d f.0 hd f.1 all.0 all.1)

  -- ---- nothing was moved

  pub idle : Leaves s e (acks_of new.ends.acks.received) 1 0 old new → MakesMove s e old Idle new (first_move s e old new)
  idle leaves = subst (MakesMove s e old Idle new) (sym none) record {
    takes = λ t c b hc hb. omega (arith, stand t c b hc hb);
    sends = λ t d f hd hf. kinds_stand s e.edits old.cycles t (acks_of new.ends.acks.received) d f (sends t d f hd hf) (stand_sends t d f hd hf);
    answer = refl;
  } where
    fewer : total_received C ≤ total_received B
    fewer = never_less taken C B alone.many takes_rise

    fewer_sent : total_sent D ≤ total_sent F
    fewer_sent = never_less put D F alone.many_sends sends_rise

    stand : Stand taken C B
    stand = none_grew taken C B alone.many takes_rise (omega (arith, fewer, fewer_sent, leaves.moved))

    stand_sends : Stand put D F
    stand_sends = none_grew put D F alone.many_sends sends_rise (omega (arith, fewer, fewer_sent, leaves.moved))

    none : first_move s e old new ≡ None
    none = found_none can Flush Send (length C) (length D) (no_flush (leaves.flushed (omega arith)) stand)
        (λ t. no_send_at t (λ d f hd hf. (stand_sends t d f hd hf, leaves.done (omega arith) t d f hd hf)))

  -- ---- one was moved

  module _ (leaves : Leaves s e (acks_of new.ends.acks.received) 1 1 old new) where
    -- a block was flushed
    module _ (stand : Stand put D F) (one : OneGrew taken C B) where
      none_before : (u : ℕ) → u < one.place → can (Flush u) ≡ false
      none_before u below = no_flush_at u (λ a d ha hd. let same = one.others u a d (λ eq. omega (arith, below, eq)) ha hd in
          elim (receives.takes.in_order u one.place a d one.was one.now below ha hd one.was_there one.now_there) [
            | inl untouched ↦ absurd (omega (arith, one.grew, ap taken untouched))
            | inr drained ↦ (drained.told, same)
          ])

      waits_here : can (Flush one.place) ≡ true
      waits_here = ap (λ o. option_map_or waits o false) one.was_there ∙ one_waits one.was one.now (alone.takes one.place one.was one.now one.was_there one.now_there).1 one.grew

      found : first_move s e old new ≡ Some (Flush one.place)
      found = found_front can Flush Send (length C) (length D) one.place (slice_get_within C one.place one.was one.was_there) waits_here none_before

      flushed_at : (t : ℕ) (c b : Receiver TakeBlock) → slice_get C t ≡ Some c → slice_get B t ≡ Some b → taken b ≡ taken c + flushed_by (Some (Flush one.place)) t
      flushed_at t c b hc hb = dite (ℕ_discrete one.place t)
          (λ (here : one.place ≡ t). omega (
            arith,
            one.grew,
            ap counted (eq-eqb one.place t here),
            ap taken (same_Some one.was c (sym one.was_there ∙ ap (slice_get C) here ∙ hc)),
            ap taken (same_Some one.now b (sym one.now_there ∙ ap (slice_get B) here ∙ hb)),
          ))
          (λ (other : one.place ≢ t). omega (arith, ap counted (ne_eqb one.place t other), one.others t c b (λ same. other (sym same)) hc hb))

      flushes_one : MakesMove s e old (Moved 1) new (first_move s e old new)
      flushes_one = subst (MakesMove s e old (Moved 1) new) (sym found) record {
        takes = flushed_at;
        sends = λ t d f hd hf. kinds_stand s e.edits old.cycles t (acks_of new.ends.acks.received) d f (sends t d f hd hf) (stand t d f hd hf);
        answer = refl;
      }

    -- an item was sent
    module _ (reads : old.hushed ≡ false) (stand : Stand taken C B) (flushed : HasFlushed old new) (one : OneGrew put D F) where
      none_earlier : (u : ℕ) → u < one.place → can (Send u) ≡ false
      none_earlier u below = no_send_at u (λ c b hc hb. (
        one.others u c b (λ eq. omega (arith, below, eq)) hc hb,
        leaves.in_order u one.place c b one.was one.now below hc hb one.was_there one.now_there (omega (arith, one.grew)),
      ))

      at : SendsOf s e.edits old.cycles one.place (acks_of new.ends.acks.received) one.was one.now
      at = sends one.place one.was one.now one.was_there one.now_there

      was_due : (x : Kind) × (kinds at.items ≡ x ∷ []) × (due_of s e old new one.place one.was ≡ Some x)
      was_due = one_due s e.edits old.cycles one.place (acks_of new.ends.acks.received) (reverse (kinds one.was.sent)) at.items
          (omega (arith, one.grew, sent_more s e.edits old.cycles one.place (acks_of new.ends.acks.received) one.was one.now at)) at.were_due

      room_here : has_room one.was ≡ true
      room_here = let near = alone.sends one.place one.was one.now one.was_there one.now_there in
          and_from (nat_lt (put one.was) (one.was.got + one.was.depth)) (nat_lt (put one.was) (2 ^ 62))
          (lt-ltb (put one.was) (one.was.got + one.was.depth) (omega (arith, near.0, one.grew))) (lt-ltb (put one.was) (2 ^ 62) (omega (arith, near.1, one.grew)))

      sends_here : can (Send one.place) ≡ true
      sends_here = ap (λ o. option_map_or (can_send s e old new one.place) o false) one.was_there
          ∙ and_from (not old.hushed) (has_room one.was && is_some (due_of s e old new one.place one.was)) (ap not reads)
          (and_from (has_room one.was) (is_some (due_of s e old new one.place one.was)) room_here (ap is_some was_due.2))

      found_send : first_move s e old new ≡ Some (Send one.place)
      found_send = found_back can Flush Send (length C) (length D) (no_flush flushed stand) one.place (slice_get_within D one.place one.was one.was_there) sends_here none_earlier

      sent_here : kinds one.now.sent ≡ kinds one.was.sent ++ sent_by (Some (Send one.place)) one.place (due_of s e old new one.place one.was)
      sent_here = kinds_more s e.edits old.cycles one.place (acks_of new.ends.acks.received) one.was one.now at ∙ ap (λ l. kinds one.was.sent ++ l) (was_due.1
          ∙ sym (ap (λ (x : Bool). if x then one_of (due_of s e old new one.place one.was) else []) (eq-eqb one.place one.place refl) ∙ ap one_of was_due.2))

      sent_at : (t : ℕ) (d f : Sender Item) → slice_get D t ≡ Some d → slice_get F t ≡ Some f → kinds f.sent ≡ kinds d.sent ++ sent_by (Some (Send one.place)) t (due_of s e old new t d)
      sent_at t d f hd hf = dite (ℕ_discrete one.place t)
          (λ (here : one.place ≡ t).
          subst (λ (y : Sender Item). kinds y.sent ≡ kinds d.sent ++ sent_by (Some (Send one.place)) t (due_of s e old new t d)) (same_Some one.now f (sym one.now_there ∙ ap (slice_get F) here ∙ hf))
          (subst (λ (x : Sender Item). kinds one.now.sent ≡ kinds x.sent ++ sent_by (Some (Send one.place)) t (due_of s e old new t x)) (same_Some one.was d (sym one.was_there ∙ ap (slice_get D) here ∙ hd))
          (subst (λ (k : ℕ). kinds one.now.sent ≡ kinds one.was.sent ++ sent_by (Some (Send one.place)) k (due_of s e old new k one.was)) here sent_here)))
          (λ (other : one.place ≢ t). kinds_stand s e.edits old.cycles t (acks_of new.ends.acks.received) d f (sends t d f hd hf) (one.others t d f (λ same. other (sym same)) hd hf)
          ∙ ap (λ l. kinds d.sent ++ l) (sym (ap (λ (x : Bool). if x then one_of (due_of s e old new t d) else []) (ne_eqb one.place t other))))

      sends_one : MakesMove s e old (Moved 1) new (first_move s e old new)
      sends_one = subst (MakesMove s e old (Moved 1) new) (sym found_send) record {
        takes = λ t c b hc hb. omega (arith, stand t c b hc hb);
        sends = sent_at;
        answer = refl;
      }

    pub moved : (old.hushed ≡ true → new.ends.sends ≡ old.ends.sends) → MakesMove s e old (Moved 1) new (first_move s e old new)
    moved quiet_sends = dite (ℕ_discrete (total_received B) (total_received C))
        (λ (none : total_received B ≡ total_received C). let more : total_sent F ≡ total_sent D + 1 = omega (arith, leaves.moved, none) in
        sends_one (false_from_ne_true old.hushed (λ failed. omega (arith, more, ap (λ z. total_sent z.items) (quiet_sends failed))))
        (none_grew taken C B alone.many takes_rise none) (leaves.flushed_first (omega (arith, more))) (one_grew put D F alone.many_sends sends_rise more))
        (λ (some : total_received B ≢ total_received C). let fewer = never_less taken C B alone.many takes_rise in let fewer_sent = never_less put D F alone.many_sends sends_rise in
        let more : total_received B ≡ total_received C + 1 = omega (arith, leaves.moved, fewer, fewer_sent, some) in
        flushes_one (none_grew put D F alone.many_sends sends_rise (omega (arith, leaves.moved, more))) (one_grew taken C B alone.many takes_rise more))

pub a_turn_of_one_is_one_move : {V : Type 0} → ATurnOfOneIsOneMove V
a_turn_of_one_is_one_move s e old Idle new receives sends leaves quiet_sends alone = idle s e old new receives sends alone leaves
a_turn_of_one_is_one_move s e old (Moved n) new receives sends (some, leaves) quiet_sends alone = let one : 1 ≡ n = omega (arith, some, leaves.most) in
    subst (λ (k : ℕ). MakesMove s e old (Moved k) new (first_move s e old new)) one (moved s e old new receives sends alone
    (subst (λ (k : ℕ). Leaves s e (acks_of new.ends.acks.received) 1 k old new) (sym one) leaves) quiet_sends)
