-- What is said of the first k edits never falls, and doesn't change when the list grows.
use Rattle.std.proofs.Common.{◌≡◌, ℕ, zero, suc, ◌+◌, ◌<◌, ◌≤◌, List, [], ◌∷◌, ◌++◌, length, refl, subst, le_trans, arith}
use Rattle.std.specs.Prelude.{Bool, false, ◌-◌}
use Rattle.session_model.specs.declared.edit.Edit.{Edit}
use Rattle.engine_model.specs.Edits.{holds_at, last_where, count_where}

-- ---- the number of the last

pub last_low : (f : Edit → Bool) (edits : List Edit) (k : ℕ) → last_where f edits k ≤ k
last_low f edits zero = grind arith
last_low f edits (suc k) = grind (arith, last_low f edits k)

pub last_again : (f : Edit → Bool) (edits : List Edit) (k : ℕ) → last_where f edits (last_where f edits k) ≡ last_where f edits k
last_again f edits zero = refl
last_again f edits (suc k) = grind (arith, last_again f edits k)

last_once : (f : Edit → Bool) (edits : List Edit) (k : ℕ) → last_where f edits k ≤ last_where f edits (suc k)
last_once f edits k = grind (arith, last_low f edits k)

count_once : (f : Edit → Bool) (edits : List Edit) (k : ℕ) → count_where f edits k ≤ count_where f edits (suc k)
count_once f edits k = grind arith

-- ---- numbers that don't fall from one edit to the next don't fall

rise_by : (n : ℕ → ℕ) → ((k : ℕ) → n k ≤ n (suc k)) → (j d : ℕ) → n j ≤ n (d + j)
rise_by n once j zero = subst (λ k. n j ≤ n k) {x = j} {y = 0 + j} (omega arith) (omega arith)
rise_by n once j (suc d) = subst (λ k. n j ≤ n k) {x = suc (d + j)} {y = suc d + j} (omega arith) (le_trans (rise_by n once j d) (once (d + j)))

rises : (n : ℕ → ℕ) → ((k : ℕ) → n k ≤ n (suc k)) → (j k : ℕ) → j ≤ k → n j ≤ n k
rises n once j k le = subst (λ m. n j ≤ n m) {x = k - j + j} {y = k} (omega arith) (rise_by n once j (k - j))

pub last_rises : (f : Edit → Bool) (edits : List Edit) (j k : ℕ) → j ≤ k → last_where f edits j ≤ last_where f edits k
last_rises f edits j k le = rises (last_where f edits) (last_once f edits) j k le

pub count_rises : (f : Edit → Bool) (edits : List Edit) (j k : ℕ) → j ≤ k → count_where f edits j ≤ count_where f edits k
count_rises f edits j k le = rises (count_where f edits) (count_once f edits) j k le

-- ---- a list that grows

pub same_at : (f : Edit → Bool) (xs ys : List Edit) (k : ℕ) → k < length xs → holds_at f (xs ++ ys) k ≡ holds_at f xs k
same_at f [] ys k lt = absurd (omega arith)
same_at f (x ∷ xs) ys zero lt = refl
same_at f (x ∷ xs) ys (suc k) lt = same_at f xs ys k (omega arith)

pub last_stays : (f : Edit → Bool) (xs ys : List Edit) (k : ℕ) → k ≤ length xs → last_where f (xs ++ ys) k ≡ last_where f xs k
last_stays f xs ys zero le = refl
last_stays f xs ys (suc k) le = grind (arith, last_stays f xs ys k (omega arith), same_at f xs ys k (omega arith))

pub count_stays : (f : Edit → Bool) (xs ys : List Edit) (k : ℕ) → k ≤ length xs → count_where f (xs ++ ys) k ≡ count_where f xs k
count_stays f xs ys zero le = refl
count_stays f xs ys (suc k) le = grind (arith, count_stays f xs ys k (omega arith), same_at f xs ys k (omega arith))

past_end : (f : Edit → Bool) (xs : List Edit) (k : ℕ) → length xs ≤ k → holds_at f xs k ≡ false
past_end f [] k le = refl
past_end f (x ∷ xs) zero le = absurd (omega arith)
past_end f (x ∷ xs) (suc k) le = past_end f xs k (omega arith)

-- the number of the last names an edit that stands
pub last_in : (f : Edit → Bool) (xs : List Edit) (k : ℕ) → last_where f xs k ≤ length xs
last_in f xs zero = grind arith
last_in f xs (suc k) = grind (arith, last_in f xs k, past_end f xs k)
