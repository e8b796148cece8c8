-- What a turn of the butler and a meeting after it are, and how much they leave to do.
use Rattle.std.proofs.Common.{◌≡◌, ℕ, ◌+◌, ◌-◌, ◌*◌, ◌^◌, ◌<◌, ◌≤◌, List, length, refl, sym, ap, subst, ◌∙◌, arith}
use Rattle.std.specs.Prelude.{Bool, true, false, if◌then◌else◌, slice_get, sum_by, Some, Result, Ok, Err}
use Rattle.std.proofs.lemmas.Bool.{true≢false}
use Rattle.ses_io.specs.Outside.{MediaOutside}
use Rattle.machine_laws.proofs.Tracks.{also_there}
use Rattle.disk_ring.specs.Sender.{Sender}
use Rattle.disk_ring.specs.Receiver.{Receiver}
use Rattle.disk_ring.proofs.Beginnings.{begins_length}
use Rattle.piece_item.specs.declared.item.Item.{Item}
use Rattle.piece_item.specs.declared.take_block.TakeBlock.{TakeBlock}
use Rattle.piece_item.specs.declared.butler_ends.ButlerEnds.{ButlerEnds}
use Rattle.read_ahead.specs.AllServes.{total_sent}
use Rattle.capture_drain.specs.Drains.{total_received}
use Rattle.butler.specs.declared.turning.Turn.{Turn}
use Rattle.butler.specs.declared.turning.Turn.TheVariants.{Moved, Idle}
use Rattle.butler.specs.declared.faults.ButlerFault.{ButlerFault}
use Rattle.butler.specs.declared.faults.ButlerFault.TheVariants.{ReadFault, WriteFault}
use Rattle.butler.specs.ButlerState.{ButlerState}
use Rattle.butler.specs.Faults.{is_read_fault}
use Rattle.butler.specs.Sends.{acks_of}
use Rattle.butler.specs.Turns.{Answers}
use Rattle.butler.proofs.RingMoveLemmas.{sent_more}
use Rattle.process_ends.specs.declared.ends.ProcessEnds.{ProcessEnds}
use Rattle.process_ends.specs.Ends.{AreOtherEnds, EndsMeet}
use Rattle.worker_pair.specs.declared.ending.Ending.{Ending}
use Rattle.worker_pair.specs.Begun.{At}
use Rattle.worker_pair.specs.Runs.{Serves}
use Rattle.worker_pair.specs.Steps.{IsTurned, Turns, is_idle_answer, left_to_do}
use Rattle.worker_pair.proofs.MetLemmas.{have_met, others_met, send_met, take_met, with_ends}
use Rattle.worker_pair.proofs.TotalLemmas.{small_in_all, no_more_in_all, same_in_all, less_is_left}
use Rattle.worker_pair.proofs.TurnLemmas.{with_butler, many_sends, others_turned, same_received}

-- what is left, by its parts
abbrev faults_left : Bool → ℕ
faults_left failed = if failed then 0 else 1

abbrev left : ℕ → ℕ → ℕ → ℕ → Bool → ℕ
left many sent put received failed = (many * 2 ^ 62 - sent) + ((put - received) + faults_left failed)

module _ {V : Type 0} (media : MediaOutside V) (at : At) (e : Ending V) (answer : Result Turn ButlerFault) (b : ButlerState V) (serves : Serves media at e) (turn : IsTurned media at e answer b)
    (ours : ProcessEnds) (theirs : ButlerEnds) (meet : EndsMeet e.ends b.ends ours theirs) where
  abbrev D : List (Sender Item)
  D = e.butler.ends.sends.items

  abbrev F : List (Sender Item)
  F = b.ends.sends.items

  abbrev C : List (Receiver TakeBlock)
  C = e.butler.ends.takes.items

  abbrev B : List (Receiver TakeBlock)
  B = b.ends.takes.items

  others : AreOtherEnds e.ends b.ends
  others = others_turned media at e answer b serves turn

  -- the meeting leaves what was sent and captured
  same_sent : total_sent theirs.sends.items ≡ total_sent F
  same_sent = same_in_all (λ (d : Sender Item). length d.sent) F theirs.sends.items meet.plays.senders
      (λ t d f hd hf. ap (λ (z : Sender Item). length z.sent) (send_met e.ends ours b.ends theirs others meet t d f hd hf))

  same_put : sum_by (λ (k : Sender TakeBlock). length k.sent) ours.takes.items ≡ sum_by (λ (k : Sender TakeBlock). length k.sent) e.ends.takes.items
  same_put = same_in_all (λ (k : Sender TakeBlock). length k.sent) e.ends.takes.items ours.takes.items meet.takes.senders
      (λ t k l hk hl. ap (λ (z : Sender TakeBlock). length z.sent) (take_met e.ends ours b.ends theirs others meet t k l hk hl))

  -- a turn takes nothing back,
  sent_rises : total_sent D ≤ total_sent F
  sent_rises = no_more_in_all (λ (d : Sender Item). length d.sent) (λ (d : Sender Item). length d.sent) F D (sym (many_sends media at e answer b serves turn))
      (λ t f d hf hd. omega (arith, sent_more at.begun.session e.edition.edits e.butler.cycles t (acks_of b.ends.acks.received) d f (turn.sends t d f hd hf)))

  received_rises : total_received C ≤ total_received B
  received_rises = no_more_in_all (λ (c : Receiver TakeBlock). length c.received) (λ (c : Receiver TakeBlock). length c.received) B C (sym turn.receives.takes.many)
      (λ t q c hq hc. begins_length c.received q.received (turn.receives.takes.each t c q hc hq).goes_on.received)

  -- no ring took more than it can, and no block was received that wasn't captured
  small : total_sent F ≤ length D * 2 ^ 62
  small = subst (λ n. n ≤ length D * 2 ^ 62) same_sent (subst (λ (n : ℕ). total_sent theirs.sends.items ≤ n * 2 ^ 62) (meet.plays.senders ∙ many_sends media at e answer b serves turn)
      (small_in_all (λ (d : Sender Item). length d.sent) (2 ^ 62) theirs.sends.items small_each))
    where
      small_each : (t : ℕ) (f : Sender Item) → slice_get theirs.sends.items t ≡ Some f → length f.sent ≤ 2 ^ 62
      small_each t f hf = let q = also_there theirs.sends.items ours.plays.items t f (sym (others_met e.ends ours b.ends theirs others meet).plays.count) hf in
          ((have_met e.ends ours b.ends theirs others meet).plays t f q.0 hf q.1).passed.small

  few_met : total_received theirs.takes.items ≤ sum_by (λ (k : Sender TakeBlock). length k.sent) ours.takes.items
  few_met = no_more_in_all (λ (k : Sender TakeBlock). length k.sent) (λ (c : Receiver TakeBlock). length c.received) ours.takes.items theirs.takes.items
      (others_met e.ends ours b.ends theirs others meet).takes.count
      (λ t k c hk hc. begins_length c.received k.sent ((have_met e.ends ours b.ends theirs others meet).takes t k c hk hc).passed.begins)

  few : total_received B ≤ sum_by (λ (k : Sender TakeBlock). length k.sent) e.ends.takes.items
  few = subst (λ n. n ≤ sum_by (λ (k : Sender TakeBlock). length k.sent) e.ends.takes.items) (same_received media at e answer b serves turn ours theirs meet)
      (subst (λ n. total_received theirs.takes.items ≤ n) same_put few_met)

  -- a turn that isn't Idle did more, or met a fault
  record DidMore : Type 0 where
    falls : faults_left b.hushed ≤ faults_left e.butler.hushed
    more : total_sent D + total_received C + faults_left b.hushed < total_sent F + total_received B + faults_left e.butler.hushed

  did_more : (given : Result Turn ButlerFault) → Answers at.begun.session e.edition 1 e.butler given b → b.hushed ≡ (if is_read_fault given then true else e.butler.hushed) →
      (e.butler.hushed ≡ true → is_read_fault given ≡ false) → is_idle_answer given ≡ false → DidMore
  did_more (Ok (Moved n)) answers flag once busy = let same = ap faults_left flag in record { falls = omega (arith, same); more = omega (arith, same, answers.0, answers.1.moved) }
  did_more (Ok Idle) answers flag once busy = absurd (true≢false busy)
  did_more (Err ReadFault) answers flag once busy = by e.butler.hushed refl
    where
      by : (before : Bool) → e.butler.hushed ≡ before → DidMore
      by true was = absurd (true≢false (once was))
      by false was = let now = ap faults_left flag in let one = ap faults_left was in record { falls = omega (arith, now, one); more = omega (arith, now, one, sent_rises, received_rises) }
  did_more (Err WriteFault) answers flag once busy = let same = ap faults_left flag in record { falls = omega (arith, same); more = omega (arith, same, answers.some, sent_rises) }

  -- so less is left
  less : is_idle_answer answer ≡ false → left_to_do (with_ends (with_butler media e b) ours theirs) < left_to_do e
  less busy = let done = did_more answer turn.answers turn.fails.hushed (λ failed. (turn.fails.read_once failed).0) busy in
      subst (λ n. n < left_to_do e) (sym (λ i. left (many i) (same_sent i) (same_put i) (received i) b.hushed))
      (less_is_left (length D * 2 ^ 62) (total_sent D) (total_sent F) (sum_by (λ (k : Sender TakeBlock). length k.sent) e.ends.takes.items) (total_received C) (total_received B)
      (faults_left e.butler.hushed) (faults_left b.hushed) sent_rises small received_rises few done.falls done.more)
    where
      many : length theirs.sends.items ≡ length D
      many = meet.plays.senders ∙ many_sends media at e answer b serves turn

      received : total_received theirs.takes.items ≡ total_received B
      received = same_received media at e answer b serves turn ours theirs meet

  -- all this is what a turn does
  pub turns_turned : (c : ButlerState V) → c ≡ record b { ends = theirs } → Turns media at e answer record { edition = e.edition; butler = c; ends = ours }
  turns_turned c same = subst (λ z. Turns media at e answer record { edition = e.edition; butler = z; ends = ours }) (sym same)
      (record { butler = b; turn = turn; met = meet; same = refl; less = less })
