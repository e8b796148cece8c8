-- What an end has in its hand after a look that found a slot.
use Rattle.std.proofs.Common.{◌≡◌, ◌≢◌, ℕ, ◌/◌, ◌%◌, [], ◌∷◌, length, sym, ap, ◌∙◌}
use mathlib.Core.Option.{none}
use Rattle.atomic_table.specs.Table.{Me, step}
use Rattle.disk_ring.specs.declared.ring_table.Known.{Known}
use Rattle.disk_ring.specs.Steps.{NoRoom, SawHead, SawTail}

module _ {S T : Type 0} (value : S → T) (room_of : T → ℕ) where
  pub to_fill : (n : ℕ) (m m' : Me S (Known T)) (head slot : ℕ) → SawHead value room_of (step n 0 0 0 none) m head m' → m.1 ≡ [] → ¬ NoRoom n m.0.sent head → slot ≡ length m.0.sent % n
      → (b : S) × (m'.1 ≡ (slot, b) ∷ []) × (room_of (value b) ≡ m'.0.room)
  to_fill n m m' head slot saw empty free is = let f = saw.free free in
      (f.0, ap (λ z. z.1) f.2 ∙ ap (λ r. (length m.0.sent % n, f.0) ∷ r) empty ∙ ap (λ k. (k, f.0) ∷ []) (sym is), f.1 ∙ sym (ap (λ z. z.0.room) f.2))

  pub to_empty : (n : ℕ) (m m' : Me S (Known T)) (word slot : ℕ) → SawTail value room_of (step n 1 0 0 none) m word m' → m.1 ≡ [] → word / 2 ≢ length m.0.received → slot ≡ length m.0.received % n
      → (b : S) × (m'.1 ≡ (slot, b) ∷ []) × (m'.0.held ≡ value b ∷ []) × (room_of (value b) ≡ m'.0.room)
  to_empty n m m' word slot saw empty more is = let f = saw.item more in
      (f.0, ap (λ z. z.1) f.3 ∙ ap (λ r. (length m.0.received % n, f.0) ∷ r) empty ∙ ap (λ k. (k, f.0) ∷ []) (sym is), ap (λ z. z.0.held) f.3, f.1 ∙ sym (ap (λ z. z.0.room) f.3))
