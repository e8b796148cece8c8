-- One ring, drained block by block.
use Rattle.std.proofs.Common.{◌≡◌, ◌+◌, ◌≤◌, [], ◌∷◌, ◌++◌, length, refl, sym, ap, ◌∙◌, arith, inl, inr, Bool, true, false, true≢false}
use Rattle.disk_ring.specs.Receiver.{FoundMore, GoesOnOut, Receiver}
use Rattle.disk_ring.proofs.GoesOn.{goes_on_out_refl, goes_on_out_trans}
use base.Growing.{prefix_trans}
use Rattle.std.proofs.lemmas.List.{length-append}
use Rattle.piece_item.specs.declared.take_block.TakeBlock.{TakeBlock}
use Rattle.capture_drain.specs.Drains.{IsDrained, Drains}
use Rattle.capture_drain.specs.OneRing.{HasTaken}

module _ {T : Type 0} where
  -- it was taken to its end after some blocks
  pub drained_then : (a b c : Receiver T) → GoesOnOut a b → b.tails ≡ a.tails → IsDrained b c → IsDrained a c
  drained_then a b c goes quiet drained = record {
    goes_on = goes_on_out_trans a b c goes drained.goes_on;
    tails = drained.tails ∙ ap (λ ts. ts ++ length c.received ∷ []) quiet;
    told = prefix_trans a.heard b.heard c.received goes.heard drained.told;
  }

  pub drains_then : (a b c : Receiver T) → GoesOnOut a b → b.tails ≡ a.tails → Drains b c → Drains a c
  drains_then a b c goes quiet drains = record {
    goes_on = goes_on_out_trans a b c goes drains.goes_on;
    looks = elim drains.looks [ inl same ↦ inl (same ∙ quiet) | inr drained ↦ inr (drained_then a b c goes quiet drained) ];
  }

  pub drains_nothing : (a : Receiver T) → Drains a a
  drains_nothing a = record { goes_on = goes_on_out_refl a; looks = inl refl }

  pub no_less : (a b : Receiver T) → GoesOnOut a b → length a.received ≤ length b.received
  no_less a b goes = let more = goes.received in omega (arith, ap length more.1, length-append a.received more.0)

-- the item that was taken, by another name
pub received_more : (a b : Receiver TakeBlock) (item x : TakeBlock) → b ≡ record a { received = a.received ++ item ∷ [] } → x ≡ item → b.received ≡ a.received ++ x ∷ []
received_more a b item x more is = ap (λ (r : Receiver TakeBlock). r.received) more ∙ ap (λ y. a.received ++ y ∷ []) (sym is)

-- and since the end was told that there is more
pub received_since : (a m b : Receiver TakeBlock) → FoundMore a m → (item x : TakeBlock) → b ≡ record m { received = m.received ++ item ∷ [] } → x ≡ item → b.received ≡ a.received ++ x ∷ []
received_since a m b found item x more is = received_more m b item x more is ∙ ap (λ (r : Receiver TakeBlock). r.received ++ x ∷ []) found.tells

-- what was answered
pub has_taken : (a b : Receiver TakeBlock) (one : Bool) → one ≡ true → HasTaken a b one → (length b.received ≡ length a.received + 1) × (b.tails ≡ a.tails)
has_taken a b true is taken = taken
has_taken a b false is taken = absurd (true≢false (sym is))

-- an item was taken since the end was told that there is more
pub drains_taken : (a m b : Receiver TakeBlock) (item : TakeBlock) → GoesOnOut a m → FoundMore a m → GoesOnOut m b → b ≡ record m { received = m.received ++ item ∷ [] } → Drains a b
drains_taken a m b item goes found further more = drains_then a m b goes (ap (λ (r : Receiver TakeBlock). r.tails) found.tells)
    (record { goes_on = further; looks = inl (ap (λ (r : Receiver TakeBlock). r.tails) more) })
