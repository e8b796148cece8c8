-- For callers on one thread: what an answer says after the two ends met.
use Rattle.std.proofs.Common.{◌≡◌, subst, Box}
use Rattle.std.specs.Global.{Global}
use mathlib.Core.List.{IsPrefix}
use base.Growing.{prefix_anti}
use Rattle.disk_ring.specs.declared.nothing.Nothing.{Nothing}
use Rattle.disk_ring.specs.declared.nothing.Nothing.TheVariants.{Empty, Closed}
use Rattle.disk_ring.specs.Sender.{Sender}
use Rattle.disk_ring.specs.Receiver.{Receiver}
use Rattle.disk_ring.specs.Answers.{FoundNothing}
use Rattle.disk_ring.specs.Rings.{Met}

module _ {T : Type 0} where
  -- where `take` gave nothing, all that the end was told of was received
  pub all_heard : (b : Receiver T) (husk : Box T Global) (e : Nothing T) (b' : Receiver T) → FoundNothing b husk e b' → IsPrefix b.heard b.received
  all_heard b husk (Empty h tail) b' f = f.1.heard
  all_heard b husk (Closed h tail) b' f = f.1.heard

  -- and after a meeting, all that was sent
  pub all_received : (a : Sender T) (b c : Receiver T) (husk : Box T Global) (e : Nothing T) (c' : Receiver T) → Met a b → c ≡ record b { heard = a.sent; over = a.closed }
      → FoundNothing c husk e c' → b.received ≡ a.sent
  all_received a b c husk e c' met is f = let told = subst (λ x. IsPrefix x.heard x.received) is (all_heard c husk e c' f) in prefix_anti b.received a.sent met.passed.begins told
