-- A loop that writes the items of a block, one after another.
use Rattle.std.proofs.Common.{◌≡◌, ℕ, ◌+◌, ◌<◌, ◌≤◌, ◌≢◌, ℤ, pos, List, length, get_or, set, refl, ◌∙◌, arith}
use Rattle.std.proofs.lemmas.List.{get_or-set_other, ext_get_or}
use Rattle.std.proofs.lemmas.List.Edits.{fill_by_more}

-- the first i items are those of f, and the others stand as they did
pub record Written (f : ℕ → ℤ) (old new : List ℤ) (i : ℕ) : Type 0 where
  pub done : (k : ℕ) → k < i → get_or new k (pos 0) ≡ f k
  pub left : (k : ℕ) → i ≤ k → get_or new k (pos 0) ≡ get_or old k (pos 0)

pub written_none : (f : ℕ → ℤ) (old : List ℤ) → Written f old old 0
written_none f old = record { done = λ k h. absurd (omega arith); left = λ k h. refl }

pub written_more : (f : ℕ → ℤ) (old new : List ℤ) (i : ℕ) (v : ℤ) → i < length new → v ≡ f i → Written f old new i → Written f old (set new i v) (i + 1)
written_more f old new i v within e so_far =
    rw e
    (record {
      done = fill_by_more f new i (pos 0) within so_far.done;
      left = λ k h. let other : k ≢ i = omega arith in get_or-set_other new i k (f i) (pos 0) other ∙ so_far.left k (omega arith);
    })

pub written_all : (f : ℕ → ℤ) (old new goal : List ℤ) → length new ≡ length goal → Written f old new (length new)
    → ((k : ℕ) → k < length new → f k ≡ get_or goal k (pos 0)) → new ≡ goal
written_all f old new goal long so_far each = ext_get_or (pos 0) new goal long (λ k h. so_far.done k h ∙ each k h)
