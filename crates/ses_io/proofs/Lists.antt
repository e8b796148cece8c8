-- A list after a write through its slice.
use Rattle.std.proofs.Common.{◌≡◌, List, length, drop, ap}
use Rattle.std.proofs.lemmas.List.{take_at}
use Rattle.ses_io.specs.FixedList.{Listed, with_items}

-- as many items as there were take their place
pub with_items-same : {T : Type 0} (list : Listed T) (items : List T) → length items ≡ length list.items → with_items list items ≡ record list { items = items }
with_items-same list items same = ap (λ xs. record list { items = xs }) (take_at items (drop (length items) list.items) (length list.items) same)
