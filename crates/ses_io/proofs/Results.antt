-- What holds of one answer, carried on to the next.
use Rattle.std.proofs.Common.{◌≡◌, ap, Result, Ok, Err, OnOk, OnErr}

-- what holds whatever was answered holds at a fault
pub OnErr-always : {T E P : Type 0} (r : Result T E) → P → OnErr r P
OnErr-always (Ok _) p = tt
OnErr-always (Err _) p = p

-- an equation at Ok, under a function
pub OnOk-ap : {T E X Y : Type 0} (r : Result T E) (f : X → Y) (x y : X) → OnOk r (x ≡ y) → OnOk r (f x ≡ f y)
OnOk-ap (Ok _) f x y e = ap f e
OnOk-ap (Err _) f x y e = tt
