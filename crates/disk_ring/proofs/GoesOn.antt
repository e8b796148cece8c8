-- What no call changes, from what each call leaves.
use Rattle.std.proofs.Common.{◌≡◌, ℕ, ◌*◌, ◌/◌, ◌≤◌, Bool, true, [], ◌∷◌, ◌++◌, length, sym, refl, ap, ◌∙◌, subst, append-nil, false, true≢false, le_refl, le_trans}
use base.Growing.{prefix_refl, prefix_trans}
use mathlib.Core.List.{IsPrefix}
use Rattle.disk_ring.specs.Sender.{Sender, GoesOnIn}
use Rattle.disk_ring.specs.Receiver.{Receiver, GoesOnOut, receiver_of}
use Rattle.disk_ring.specs.Steps.{close_bit, GlancedAt, SawTail}
use Rattle.disk_ring.specs.declared.ring_table.Known.{Known}
use Rattle.atomic_table.specs.declared.shared.Seat.{Seat}
use Rattle.atomic_table.specs.Table.{step}
use mathlib.Core.Logic.{dite}
use mathlib.Core.Option.{none}
use native.Mathlib.Decide.{ℕ_discrete}
use Rattle.disk_ring.proofs.Beginnings.{whole}

module _ {T : Type 0} where
  pub after_put : (a b : Sender T) (item : T) → b ≡ record a { sent = a.sent ++ item ∷ []; got = b.got } → a.got ≤ b.got → GoesOnIn a b
  after_put a b item e up = record {
    ring = ap (λ s. s.ring) e;
    depth = ap (λ s. s.depth) e;
    room = ap (λ s. s.room) e;
    closed = ap (λ s. s.closed) e;
    sent = (item ∷ [], ap (λ s. s.sent) (sym e));
    heads = ([], append-nil a.heads ∙ ap (λ s. s.heads) (sym e));
    got = up;
  }

  pub after_full : (a b : Sender T) (head : ℕ) → b ≡ record a { heads = a.heads ++ head ∷ []; got = head } → a.got ≤ head → GoesOnIn a b
  after_full a b head e up = record {
    ring = ap (λ s. s.ring) e;
    depth = ap (λ s. s.depth) e;
    room = ap (λ s. s.room) e;
    closed = ap (λ s. s.closed) e;
    sent = ([], append-nil a.sent ∙ ap (λ s. s.sent) (sym e));
    heads = (head ∷ [], ap (λ s. s.heads) (sym e));
    got = subst (λ n. a.got ≤ n) (ap (λ s. s.got) (sym e)) up;
  }

  pub after_take : (a b : Receiver T) (item : T) → b ≡ record a { received = a.received ++ item ∷ [] } → a.ended ≡ false → GoesOnOut a b
  after_take a b item e going = record {
    ring = ap (λ s. s.ring) e;
    depth = ap (λ s. s.depth) e;
    room = ap (λ s. s.room) e;
    received = (item ∷ [], ap (λ s. s.received) (sym e));
    tails = ([], append-nil a.tails ∙ ap (λ s. s.tails) (sym e));
    ended = λ ended. absurd (true≢false (sym ended ∙ going));
    heard = ([], append-nil a.heard ∙ ap (λ s. s.heard) (sym e));
    over = λ over. (ap (λ s. s.over) e ∙ over, ap (λ s. s.heard) e);
  }

  pub after_nothing : (a b : Receiver T) (tail : ℕ) (shut : Bool) → b ≡ record a { tails = a.tails ++ tail ∷ []; heard = a.received; over = shut; ended = shut } → IsPrefix a.heard a.received
      → (a.ended ≡ true → shut ≡ true) → (a.over ≡ true → (shut ≡ true) × (length a.received ≡ length a.heard)) → GoesOnOut a b
  after_nothing a b tail shut e begins ended over = record {
    ring = ap (λ s. s.ring) e;
    depth = ap (λ s. s.depth) e;
    room = ap (λ s. s.room) e;
    received = ([], append-nil a.received ∙ ap (λ s. s.received) (sym e));
    tails = (tail ∷ [], ap (λ s. s.tails) (sym e));
    ended = λ was. (ap (λ s. s.ended) e ∙ ended was, ap (λ s. s.received) e);
    heard = subst (IsPrefix a.heard) (ap (λ s. s.heard) (sym e)) begins;
    over = λ was. (ap (λ s. s.over) e ∙ (over was).0, ap (λ s. s.heard) e ∙ sym (whole a.heard a.received begins (sym (over was).1)));
  }

-- the end of the seat p looked, and found that it had received all
pub after_look : {S T : Type 0} (value : S → T) (room_of : T → ℕ) (a : Receiver T) (p p' : Seat S (Known T)) (depth n word : ℕ) → receiver_of p depth ≡ a → p'.table_id ≡ p.table_id
    → SawTail value room_of (step n 1 0 0 none) p.me word p'.me → word / 2 ≡ length p.me.0.received → GoesOnOut a (receiver_of p' depth)
after_look value room_of a p p' depth n word is same saw none_left = let left = saw.nothing none_left in let q = left.1 in
    subst (λ z. GoesOnOut z (receiver_of p' depth)) is (after_nothing (receiver_of p depth) (receiver_of p' depth) (word / 2) (close_bit word)
    (λ i. record { ring = same i; depth = depth; room = (q i).0.room; received = (q i).0.received; tails = (q i).0.tails; ended = (q i).0.ended; heard = (q i).0.heard; over = (q i).0.over })
    left.0 (λ was. (saw.ended was).0) (λ was. let told = saw.over was in (told.0, sym none_left ∙ told.1)))

-- and where it only glanced at the tail
pub after_glance : {S T : Type 0} (a : Receiver T) (p p' : Seat S (Known T)) (depth word : ℕ) → receiver_of p depth ≡ a → p'.table_id ≡ p.table_id → GlancedAt p.me word p'.me → GoesOnOut a (receiver_of p' depth)
after_glance {S} {T} a p p' depth word is same saw =
    let v = p.me.0 in let told : v.over ≡ true → p'.me.0.heard ≡ v.heard = λ was. sym (whole v.heard p'.me.0.heard saw.heard (sym (saw.over was).1 ∙ sym saw.told)) in
    let goes : (w : Known T) → p'.me ≡ (w, p.me.1) → w.room ≡ v.room → w.received ≡ v.received → IsPrefix v.tails w.tails → w.ended ≡ v.ended → (v.over ≡ true → w.over ≡ true) → GoesOnOut (receiver_of p depth) (receiver_of p' depth) =
    λ w q room received tails ended over. record {
      ring = same;
      depth = refl;
      room = ap (λ z. z.0.room) q ∙ room;
      received = ([], append-nil v.received ∙ sym (ap (λ z. z.0.received) q ∙ received));
      tails = subst (IsPrefix v.tails) (ap (λ z. z.0.tails) (sym q)) tails;
      ended = λ was. (ap (λ z. z.0.ended) q ∙ ended ∙ was, ap (λ z. z.0.received) q ∙ received);
      heard = saw.heard;
      over = λ was. (ap (λ z. z.0.over) q ∙ over was, told was);
    } in
    subst (λ z. GoesOnOut z (receiver_of p' depth)) is (dite (ℕ_discrete word (2 * length v.received))
    (λ none_left. goes (record v { tails = v.tails ++ length v.received ∷ []; heard = v.received }) (saw.empty none_left) refl refl (length v.received ∷ [], refl) refl (λ was. was))
    (λ more. goes (record v { heard = p'.me.0.heard; over = close_bit word }) (saw.more more) refl refl (prefix_refl v.tails) refl (λ was. (saw.over was).0)))

module _ {T : Type 0} where
  -- calls one after the other
  pub goes_on_in_refl : (a : Sender T) → GoesOnIn a a
  goes_on_in_refl a = record { ring = refl; depth = refl; room = refl; closed = refl; sent = prefix_refl a.sent; heads = prefix_refl a.heads; got = le_refl a.got }

  pub goes_on_in_trans : (a b c : Sender T) → GoesOnIn a b → GoesOnIn b c → GoesOnIn a c
  goes_on_in_trans a b c h k = record {
    ring = k.ring ∙ h.ring;
    depth = k.depth ∙ h.depth;
    room = k.room ∙ h.room;
    closed = k.closed ∙ h.closed;
    sent = prefix_trans a.sent b.sent c.sent h.sent k.sent;
    heads = prefix_trans a.heads b.heads c.heads h.heads k.heads;
    got = le_trans h.got k.got;
  }

  pub goes_on_out_refl : (a : Receiver T) → GoesOnOut a a
  goes_on_out_refl a = record { ring = refl; depth = refl; room = refl; received = prefix_refl a.received; tails = prefix_refl a.tails; ended = λ was. (was, refl); heard = prefix_refl a.heard; over = λ was. (was, refl) }

  pub goes_on_out_trans : (a b c : Receiver T) → GoesOnOut a b → GoesOnOut b c → GoesOnOut a c
  goes_on_out_trans a b c h k = record {
    ring = k.ring ∙ h.ring;
    depth = k.depth ∙ h.depth;
    room = k.room ∙ h.room;
    received = prefix_trans a.received b.received c.received h.received k.received;
    tails = prefix_trans a.tails b.tails c.tails h.tails k.tails;
    ended = λ was. let e = h.ended was in let f = k.ended e.0 in (f.0, f.1 ∙ e.1);
    heard = prefix_trans a.heard b.heard c.heard h.heard k.heard;
    over = λ was. let e = h.over was in let f = k.over e.0 in (f.0, f.1 ∙ e.1);
  }
