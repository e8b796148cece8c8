-- The rings of a session are new.
use Rattle.std.proofs.Common.{◌≡◌, ℕ, zero, suc, ◌+◌, ◌*◌, ◌<◌, List, [], ◌∷◌, ◌++◌, Box, length, length-append, get_or, refl, sym, ap, ◌∙◌, subst, inl, inr, arith, false}
use Rattle.std.specs.Prelude.{◌⊎◌, slice_get, Some}
use Rattle.std.specs.Global.{Global}
use Rattle.std.specs.Option.{option_map_or}
use Rattle.std.proofs.lemmas.Option.{slice_get-get_or, same_Some}
use Rattle.disk_ring.specs.Sender.{Sender}
use Rattle.disk_ring.specs.Receiver.{Receiver}
use Rattle.disk_ring.specs.Rings.{IsNewRing, AllOfRoom}
use Rattle.session_model.specs.declared.route.Route.{Route}
use Rattle.session_model.specs.declared.session.Session.{Session}
use Rattle.session_model.specs.Formed.{channels_at}
use Rattle.piece_item.specs.declared.ack.Ack.{Ack}
use Rattle.piece_item.specs.declared.item.Item.{Item}
use Rattle.piece_item.specs.declared.take_block.TakeBlock.{TakeBlock}
use Rattle.butler.specs.Begins.{IsNewSender, IsNewReceiver}
use Rattle.capture_tests.specs.Bench.{AreOfTracks, IsNewAckEnd}

pub new_sender : (depth room : ℕ) (a : Sender Item) (b : Receiver Item) → IsNewRing depth a b → a.room ≡ room → IsNewSender depth room a
new_sender depth room a b new e = record { deep = ap (λ r. r.depth) new.sender; wide = e; nothing_sent = ap (λ r. r.sent) new.sender; not_closed = ap (λ r. r.closed) new.sender }

pub new_receiver : (depth room : ℕ) (a : Sender TakeBlock) (b : Receiver TakeBlock) → IsNewRing depth a b → a.room ≡ room → IsNewReceiver room b
new_receiver depth room a b new e = record { wide = ap (λ r. r.room) new.receiver ∙ e; none_received = ap (λ r. r.received) new.receiver; not_ended = ap (λ r. r.ended) new.receiver }

pub new_ack_end : (depth : ℕ) (a : Sender Ack) (b : Receiver Ack) → IsNewRing depth a b → a.room ≡ 0 → IsNewAckEnd b
new_ack_end depth a b new e = record { room = ap (λ r. r.room) new.receiver ∙ e; none_received = ap (λ r. r.received) new.receiver; not_ended = ap (λ r. r.ended) new.receiver }

-- an acknowledgement has no samples
pub no_samples : (husks : List (Box Ack Global)) → AllOfRoom (λ (a : Ack). 0) 0 husks
no_samples husks i d lt = refl

module _ {A : Type 0} where
  at_end : (xs : List A) (x : A) (u : ℕ) (q : A) → slice_get (xs ++ x ∷ []) u ≡ Some q → (slice_get xs u ≡ Some q) ⊎ ((u ≡ length xs) × (x ≡ q))
  at_end [] x zero q h = inr (refl, same_Some x q h)
  at_end [] x (suc u) q h = absurd (grind (arith, h))
  at_end (y ∷ ys) x zero q h = inl h
  at_end (y ∷ ys) x (suc u) q h = elim (at_end ys x u q h) [ inl here ↦ inl here | inr last ↦ inr (ap suc last.0, last.1) ]

  -- one track more
  pub one_more : (is : ℕ → A → Type 0) (n : ℕ) (xs : List A) (x : A) → AreOfTracks is n xs → is n x → AreOfTracks is (n + 1) (xs ++ x ∷ [])
  one_more is n xs x all new = record {
    many = let many = all.many in omega (arith, length-append xs (x ∷ []));
    each = λ t q hq. elim (at_end xs x t q hq) [
      | inl here ↦ all.each t q here
      | inr last ↦ subst (λ (m : ℕ). is m q) (sym (last.0 ∙ all.many)) (subst (is n) last.1 new)
    ];
  }

-- the samples of a block of a track, by the channels of its route
pub block_is : (s : Session) (t n : ℕ) (q : Route) → t < length s.routes.items → n ≡ (get_or s.routes.items t q).channels → s.block * n ≡ s.block * channels_at s t
block_is s t n q lt is = ap (λ m. s.block * m) is ∙ ap (λ o. s.block * option_map_or (λ (r : Route). r.channels) o 0) (sym (slice_get-get_or s.routes.items t q lt))
