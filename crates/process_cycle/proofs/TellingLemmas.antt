-- What the butler's ends are told in a meeting with the process's.
use Rattle.std.proofs.Common.{◌≡◌, ℕ, List, [], ◌∷◌, zero, suc, length, get_or, refl, ap, sym, subst, ◌∙◌, arith}
use Rattle.std.specs.Prelude.{slice_get, Some}
use Rattle.std.proofs.lemmas.Option.{none-some, slice_get_within, get_or_from_slice_get}
use Rattle.disk_ring.specs.Sender.{Sender}
use Rattle.disk_ring.specs.Receiver.{Receiver}
use Rattle.piece_item.specs.declared.butler_ends.ButlerEnds.{ButlerEnds}
use Rattle.process_ends.specs.declared.ends.ProcessEnds.{ProcessEnds}
use Rattle.process_ends.specs.Ends.{AllMeet, AreOfOneRing, AreOtherEnds, EndsMeet, Meet}
use Rattle.ring_meeting.specs.Told.{AreTold}

-- what is at a place of one list has its like in one that is as long
like_it : {X Y : Type 0} (xs : List X) (ys : List Y) (i : ℕ) (x : X) → length xs ≡ length ys → slice_get xs i ≡ Some x → (y : Y) × (slice_get ys i ≡ Some y)
like_it [] ys i x many e = absurd (none-some x e)
like_it (x' ∷ xs) [] i x many e = absurd (grind (arith, many))
like_it (x' ∷ xs) (y ∷ ys) zero x many e = (y, refl)
like_it (x' ∷ xs) (y ∷ ys) (suc i) x many e = like_it xs ys i x (grind (arith, many)) e

-- an end that puts got to know how many were received
sender_told : {T : Type 0} (x f : Sender T) (y q : Receiver T) → Meet x y f q → f ≡ record x { got = f.got }
sender_told {T} x f y q m = m.sender ∙ ap (λ n. record x { got = n }) (sym (ap (λ (z : Sender T). z.got) m.sender))

-- an end that takes was told what was sent
receiver_told : {T : Type 0} (x f : Sender T) (y q : Receiver T) → Meet x y f q → q ≡ record y { heard = q.heard; over = q.over }
receiver_told {T} x f y q m = m.receiver ∙ ap (λ l. record y { heard = l; over = x.closed }) (sym (ap (λ (z : Receiver T). z.heard) m.receiver))
    ∙ ap (λ o. record y { heard = q.heard; over = o }) (sym (ap (λ (z : Receiver T). z.over) m.receiver))

module _ {T : Type 0} (a : List (Sender T)) (b : List (Receiver T)) (c : List (Sender T)) (d : List (Receiver T)) (one : AreOfOneRing a b) (meet : AllMeet a b c d) where
  meet_at : (t : ℕ) (x f : Sender T) (y q : Receiver T) → slice_get a t ≡ Some x → slice_get b t ≡ Some y → slice_get c t ≡ Some f → slice_get d t ≡ Some q → Meet x y f q
  meet_at t x f y q hx hy hf hq = subst (λ (z : Sender T). Meet z y f q) (get_or_from_slice_get a t x x hx)
      (subst (λ (z : Receiver T). Meet (get_or a t x) z f q) (get_or_from_slice_get b t y y hy)
      (subst (λ (z : Sender T). Meet (get_or a t x) (get_or b t y) z q) (get_or_from_slice_get c t f x hf)
      (subst (λ (z : Receiver T). Meet (get_or a t x) (get_or b t y) (get_or c t x) z) (get_or_from_slice_get d t q y hq)
      (meet.each t x y (slice_get_within a t x hx)))))

  sent_as : (t : ℕ) (x f : Sender T) → slice_get a t ≡ Some x → slice_get c t ≡ Some f → f ≡ record x { got = f.got }
  sent_as t x f hx hf = let y = like_it a b t x (sym one.count) hx in let q = like_it b d t y.0 (sym meet.receivers) y.1 in
      sender_told x f y.0 q.0 (meet_at t x f y.0 q.0 hx y.1 hf q.1)

  taken_as : (t : ℕ) (y q : Receiver T) → slice_get b t ≡ Some y → slice_get d t ≡ Some q → q ≡ record y { heard = q.heard; over = q.over }
  taken_as t y q hy hq = let x = like_it b a t y one.count hy in let f = like_it a c t x.0 (sym meet.senders) x.1 in
      receiver_told x.0 f.0 y q (meet_at t x.0 f.0 y q x.1 hy f.1 hq)

-- they were told, and nothing else
pub ends_told : (ours ours_now : ProcessEnds) (theirs theirs_now : ButlerEnds) → AreOtherEnds ours theirs → EndsMeet ours theirs ours_now theirs_now → AreTold theirs theirs_now
ends_told ours ours_now theirs theirs_now others meet = record {
  many = meet.plays.senders;
  sends = sent_as theirs.sends.items ours.plays.items theirs_now.sends.items ours_now.plays.items others.plays meet.plays;
  captures = meet.takes.receivers;
  takes = taken_as ours.takes.items theirs.takes.items ours_now.takes.items theirs_now.takes.items others.takes meet.takes;
  acks = receiver_told ours.to_butler ours_now.to_butler theirs.acks theirs_now.acks meet.acks;
}
