-- What `take` says where it gives no item.
use Rattle.std.specs.Prelude.{◌≡◌, Box}
use Rattle.std.specs.Global.{Global}
use Rattle.disk_ring.specs.declared.nothing.Nothing.{Nothing}
use Rattle.disk_ring.specs.declared.nothing.Nothing.TheVariants.{Empty, Closed}
use Rattle.disk_ring.specs.Receiver.{Receiver, FoundEmpty, FoundClosed}

-- the husk comes back, and the answer is that of the tail and the close bit
abbrev pub FoundNothing : {T : Type 0} → Receiver T → Box T Global → Nothing T → Receiver T → Type 0
FoundNothing a husk (Empty h tail) b = (h ≡ husk) × FoundEmpty a tail b
FoundNothing a husk (Closed h tail) b = (h ≡ husk) × FoundClosed a tail b
