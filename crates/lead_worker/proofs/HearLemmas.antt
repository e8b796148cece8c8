-- The best of acknowledgements, and what is true of them.
use Rattle.std.proofs.Common.{◌≡◌, ℕ, ◌≤◌, ◌<◌, List, [], ◌∷◌, ◌++◌, refl, sym, ap, subst, ◌∙◌, arith, append_assoc}
use Rattle.std.specs.Prelude.{Bool, true, false, ◌||◌, nat_le, All}
use Rattle.std.specs.List.{list_any}
use Rattle.std.proofs.lemmas.Bool.{leb-false, lt-leb}
use Rattle.std.proofs.lemmas.List.Elements.{All-append, All-cons, All-nil, All-weaker}
use Rattle.std.proofs.lemmas.List.Folds.{list_any_none}
use Rattle.piece_item.specs.declared.ack.Ack as ring
use Rattle.lead_worker.specs.Heard.{IsBest, has_settled}

-- ---- the best

-- all have settled no more
all_within : (acks : List ring.Ack) (best : ring.Ack) (n : ℕ) → IsBest acks best → best.settled ≤ n → All (λ (a : ring.Ack). a.settled ≤ n) acks
all_within acks best n is within = subst (All (λ (a : ring.Ack). a.settled ≤ n)) (sym is.stands) (All-append (λ (a : ring.Ack). a.settled ≤ n) is.before (best ∷ is.after)
    (All-weaker (λ (a : ring.Ack). a.settled ≤ best.settled) (λ (a : ring.Ack). a.settled ≤ n) (λ a h. omega (arith, h, within)) is.before is.most)
    (All-cons (λ (a : ring.Ack). a.settled ≤ n) best is.after within
    (All-weaker (λ (a : ring.Ack). a.settled < best.settled) (λ (a : ring.Ack). a.settled ≤ n) (λ a h. omega (arith, h, within)) is.after is.newest)))

-- one that was taken last, and has settled no less
pub best_is_last : (acks : List ring.Ack) (ack : ring.Ack) → All (λ (a : ring.Ack). a.settled ≤ ack.settled) acks → IsBest (acks ++ ack ∷ []) ack
best_is_last acks ack within = record { before = acks; after = []; stands = refl; most = within; newest = All-nil (λ (a : ring.Ack). a.settled < ack.settled) }

pub first_is_best : (acks : List ring.Ack) (ack : ring.Ack) → acks ≡ [] → IsBest (acks ++ ack ∷ []) ack
first_is_best acks ack none = best_is_last acks ack (subst (All (λ (a : ring.Ack). a.settled ≤ ack.settled)) (sym none) (All-nil (λ (a : ring.Ack). a.settled ≤ ack.settled)))

pub later_is_best : (acks : List ring.Ack) (best ack : ring.Ack) → IsBest acks best → best.settled ≤ ack.settled → IsBest (acks ++ ack ∷ []) ack
later_is_best acks best ack is no_less = best_is_last acks ack (all_within acks best ack.settled is no_less)

pub best_stays : (acks : List ring.Ack) (best ack : ring.Ack) → IsBest acks best → ack.settled < best.settled → IsBest (acks ++ ack ∷ []) best
best_stays acks best ack is less = record {
  before = is.before;
  after = is.after ++ ack ∷ [];
  stands = ap (λ l. l ++ ack ∷ []) is.stands ∙ append_assoc is.before (best ∷ is.after) (ack ∷ []);
  most = is.most;
  newest = All-append (λ (a : ring.Ack). a.settled < best.settled) is.after (ack ∷ []) is.newest
      (All-cons (λ (a : ring.Ack). a.settled < best.settled) ack [] less (All-nil (λ (a : ring.Ack). a.settled < best.settled)));
}

-- ---- what they have settled

pub any_there : (p : ring.Ack → Bool) (before after : List ring.Ack) (a : ring.Ack) → p a ≡ true → list_any p (before ++ a ∷ after) ≡ true
any_there p [] after a is = ap (λ b. b || list_any p after) is
any_there p (x ∷ before) after a is = by (p x) (any_there p before after a is)
  where
    by : (b : Bool) → list_any p (before ++ a ∷ after) ≡ true → (b || list_any p (before ++ a ∷ after)) ≡ true
    by true there = refl
    by false there = there

-- one of them has so much settled exactly where the best has
pub settled_by_best : (k : ℕ) (acks : List ring.Ack) (best : ring.Ack) → IsBest acks best → has_settled k acks ≡ nat_le k best.settled
settled_by_best k acks best is = by (nat_le k best.settled) refl
  where
    by : (b : Bool) → nat_le k best.settled ≡ b → has_settled k acks ≡ b
    by true e = ap (has_settled k) is.stands ∙ any_there (λ (a : ring.Ack). nat_le k a.settled) is.before is.after best e
    by false e = list_any_none (λ (a : ring.Ack). nat_le k a.settled) acks
        (All-weaker (λ (a : ring.Ack). a.settled ≤ best.settled) (λ (a : ring.Ack). nat_le k a.settled ≡ false) (λ a h. lt-leb k a.settled (omega (arith, h, leb-false k best.settled e))) acks (all_within acks best best.settled is (omega arith)))

pub settled_by_none : (k : ℕ) (acks : List ring.Ack) → acks ≡ [] → has_settled k acks ≡ false
settled_by_none k acks none = ap (has_settled k) none
