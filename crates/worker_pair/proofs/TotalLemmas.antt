-- How much was sent and received in all, of many rings, and how much that leaves.
use Rattle.std.proofs.Common.{◌≡◌, ℕ, suc, ◌+◌, ◌-◌, ◌*◌, ◌<◌, ◌≤◌, List, [], ◌∷◌, length, refl, ap, subst, arith}
use Rattle.std.specs.Prelude.{slice_get, sum_by, Some}
use Rattle.std.proofs.lemmas.List.{nil_from_length}
use Rattle.std.proofs.lemmas.List.Sums.{sum_by-cons}
use mathlib.Core.List.{IsPrefix}
use Rattle.machine_laws.proofs.Tracks.{also_there}
use Rattle.disk_ring.specs.Sender.{Sender}
use Rattle.disk_ring.specs.Receiver.{Receiver}
use Rattle.disk_ring.proofs.Beginnings.{begins_length}
use Rattle.piece_item.specs.declared.take_block.TakeBlock.{TakeBlock}
use Rattle.capture_drain.specs.Drains.{total_received}
use Rattle.worker_pair.specs.Met.{AllKnow}
use Rattle.worker_pair.specs.Never.{NothingIsTaken}

begins_nothing : {T : Type 0} (xs : List T) → IsPrefix xs [] → xs ≡ []
begins_nothing xs h = nil_from_length xs (omega (arith, begins_length xs [] h))

-- where nothing was put, nothing was received
pub none_received : (takes : List (Sender TakeBlock)) (flushes : List (Receiver TakeBlock)) → length flushes ≡ length takes → AllKnow takes flushes → NothingIsTaken takes →
    (t : ℕ) (c : Receiver TakeBlock) → slice_get flushes t ≡ Some c → c.received ≡ []
none_received takes flushes many know none t c hc = let k = also_there flushes takes t c many hc in
    begins_nothing c.received (subst (IsPrefix c.received) (none t k.0 k.1).sent (know t k.0 c k.1 hc).passed.begins)

-- and so none in all
pub nothing_in_all : (flushes : List (Receiver TakeBlock)) → ((t : ℕ) (c : Receiver TakeBlock) → slice_get flushes t ≡ Some c → c.received ≡ []) → total_received flushes ≡ 0
nothing_in_all [] none = refl
nothing_in_all (c ∷ cs) none = omega (arith, sum_by-cons (λ (r : Receiver TakeBlock). length r.received) c cs, ap length (none 0 c refl), nothing_in_all cs (λ t. none (suc t)))

-- each has no more than so many
pub small_in_all : {X : Type 0} (f : X → ℕ) (m : ℕ) (xs : List X) → ((t : ℕ) (x : X) → slice_get xs t ≡ Some x → f x ≤ m) → sum_by f xs ≤ length xs * m
small_in_all f m [] each = omega arith
small_in_all f m (x ∷ xs) each = omega (arith, sum_by-cons f x xs, each 0 x refl, small_in_all f m xs (λ t. each (suc t)))

-- each of these has no more than one of those
pub no_more_in_all : {X Y : Type 0} (f : X → ℕ) (g : Y → ℕ) (xs : List X) (ys : List Y) → length ys ≡ length xs →
    ((t : ℕ) (x : X) (y : Y) → slice_get xs t ≡ Some x → slice_get ys t ≡ Some y → g y ≤ f x) → sum_by g ys ≤ sum_by f xs
no_more_in_all f g [] [] many each = omega arith
no_more_in_all f g [] (y ∷ ys) many each = absurd (omega (arith, many))
no_more_in_all f g (x ∷ xs) [] many each = absurd (omega (arith, many))
no_more_in_all f g (x ∷ xs) (y ∷ ys) many each = omega (arith, sum_by-cons f x xs, sum_by-cons g y ys, each 0 x y refl refl, no_more_in_all f g xs ys (omega (arith, many)) (λ t. each (suc t)))

-- each of these has as much as one of those
pub same_in_all : {X : Type 0} (f : X → ℕ) (xs ys : List X) → length ys ≡ length xs → ((t : ℕ) (x y : X) → slice_get xs t ≡ Some x → slice_get ys t ≡ Some y → f y ≡ f x) →
    sum_by f ys ≡ sum_by f xs
same_in_all f [] [] many each = refl
same_in_all f [] (y ∷ ys) many each = absurd (omega (arith, many))
same_in_all f (x ∷ xs) [] many each = absurd (omega (arith, many))
same_in_all f (x ∷ xs) (y ∷ ys) many each = omega (arith, sum_by-cons f x xs, sum_by-cons f y ys, each 0 x y refl refl, same_in_all f xs ys (omega (arith, many)) (λ t. each (suc t)))

-- where more was done less is left
pub less_is_left : (most sent sent_now put received received_now faults faults_now : ℕ) → sent ≤ sent_now → sent_now ≤ most → received ≤ received_now → received_now ≤ put → faults_now ≤ faults →
    sent + received + faults_now < sent_now + received_now + faults → (most - sent_now) + ((put - received_now) + faults_now) < (most - sent) + ((put - received) + faults)
less_is_left most sent sent_now put received received_now faults faults_now grows small takes few falls more = omega arith
