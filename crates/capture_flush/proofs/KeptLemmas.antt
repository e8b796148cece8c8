-- Which blocks are kept, and where they stand in their takes, when more are passed.
use Rattle.std.proofs.Common.{◌≡◌, ◌⊎◌, inl, inr, ℕ, suc, ◌≤◌, ◌<◌, Bool, true, false, ◌&&◌, List, [], ◌∷◌, ◌++◌, length, Option, Some, None, refl, sym, ap, subst, ◌∙◌, append_assoc, append-nil, arith}
use Rattle.std.specs.Prelude.{max, ◌==◌, nat_lt, if◌then◌else◌, All, slice_index_or}
use Rattle.std.proofs.lemmas.Bool.{and_parts, or_cases, eqb-true, eqb-false, ne_eqb, ltb-true}
use Rattle.std.proofs.lemmas.List.Elements.{All-append, All-cons, All-nil}
use Rattle.session_model.specs.declared.session.Session.{Session}
use Rattle.capture_flush.specs.declared.track.Place.{Place}
use Rattle.capture_flush.specs.Blocks.{Block, place_of, block_samples, comes_after, is_kept, last_after, kept_from, kept, last_from, block_at, blocks_in}
use Rattle.capture_flush.specs.Flushed.{next_index}

-- ---- one list behind another

pub last_joined : (s : Session) (t : ℕ) (last : Option Place) (xs ys : List Block) → last_from s t last (xs ++ ys) ≡ last_from s t (last_from s t last xs) ys
last_joined s t last [] ys = refl
last_joined s t last (x ∷ xs) ys = last_joined s t (last_after s t last x) xs ys

pub kept_joined : (s : Session) (t : ℕ) (last : Option Place) (xs ys : List Block) → kept_from s t last (xs ++ ys) ≡ kept_from s t last xs ++ kept_from s t (last_from s t last xs) ys
kept_joined s t last [] ys = refl
kept_joined s t last (x ∷ xs) ys = by (is_kept s t last x) (kept_joined s t (Some (place_of x)) xs ys) (kept_joined s t last xs ys)
  where
    by : (b : Bool) → kept_from s t (Some (place_of x)) (xs ++ ys) ≡ kept_from s t (Some (place_of x)) xs ++ kept_from s t (last_from s t (Some (place_of x)) xs) ys
        → kept_from s t last (xs ++ ys) ≡ kept_from s t last xs ++ kept_from s t (last_from s t last xs) ys
        → (if b then x ∷ kept_from s t (Some (place_of x)) (xs ++ ys) else kept_from s t last (xs ++ ys))
        ≡ (if b then x ∷ kept_from s t (Some (place_of x)) xs else kept_from s t last xs) ++ kept_from s t (last_from s t (if b then Some (place_of x) else last) xs) ys
    by true here there = ap (λ l. x ∷ l) here
    by false here there = there

-- ---- one block more

pub kept_with : (s : Session) (t : ℕ) (xs : List Block) (b : Block) → is_kept s t (last_from s t None xs) b ≡ true → kept s t (xs ++ b ∷ []) ≡ kept s t xs ++ b ∷ []
kept_with s t xs b is = kept_joined s t None xs (b ∷ []) ∙ ap (λ k. kept s t xs ++ (if k then b ∷ [] else [])) is

pub kept_without : (s : Session) (t : ℕ) (xs : List Block) (b : Block) → is_kept s t (last_from s t None xs) b ≡ false → kept s t (xs ++ b ∷ []) ≡ kept s t xs
kept_without s t xs b not = kept_joined s t None xs (b ∷ []) ∙ ap (λ k. kept s t xs ++ (if k then b ∷ [] else [])) not ∙ append-nil (kept s t xs)

pub last_with : (s : Session) (t : ℕ) (last : Option Place) (xs : List Block) (b : Block) → last_from s t last (xs ++ b ∷ []) ≡ last_after s t (last_from s t last xs) b
last_with s t last xs b = last_joined s t last xs (b ∷ [])

-- ---- how many blocks a take has

pub blocks_joined : (n : ℕ) (xs ys : List Block) → blocks_in n (xs ++ ys) ≡ max (blocks_in n xs) (blocks_in n ys)
blocks_joined n [] ys = omega arith
blocks_joined n (x ∷ xs) ys = by (x.take == n) (blocks_joined n xs ys)
  where
    by : (b : Bool) → blocks_in n (xs ++ ys) ≡ max (blocks_in n xs) (blocks_in n ys)
        → (if b then max (suc x.index) (blocks_in n (xs ++ ys)) else blocks_in n (xs ++ ys)) ≡ max (if b then max (suc x.index) (blocks_in n xs) else blocks_in n xs) (blocks_in n ys)
    by true rest = omega (arith, rest)
    by false rest = rest

-- the block comes after the last one: in a later take, or further on in the same
after_is : (p : Place) (b : Block) → comes_after (Some p) b ≡ true → (p.take < b.take) ⊎ ((b.take ≡ p.take) × (p.index < b.index))
after_is p b after = elim (or_cases (nat_lt p.take b.take) (b.take == p.take && nat_lt p.index b.index) after) [
  | inl later ↦ inl (ltb-true p.take b.take later)
  | inr further ↦ let both = and_parts (b.take == p.take) (nat_lt p.index b.index) further in inr (eqb-true b.take p.take both.0, ltb-true p.index b.index both.1)
]

-- no block of a take past n was kept last
abbrev pub IsUpTo : Option Place → ℕ → Type 0
IsUpTo None n = Unit {0}
IsUpTo (Some p) n = p.take ≤ n

-- of takes that may go on, the blocks are those up to the last one
abbrev pub Counts : Option Place → List Block → Type 0
Counts last ks = (n : ℕ) → IsUpTo last n → blocks_in n ks ≡ next_index last n

up_to : (last : Option Place) (b : Block) (n : ℕ) → comes_after last b ≡ true → b.take ≤ n → IsUpTo last n
up_to None b n after le = tt
up_to (Some p) b n after le = elim (after_is p b after) [ inl later ↦ omega arith | inr further ↦ omega (arith, further.0) ]

-- where a block that comes after the last one may stand in its take
pub next_low : (last : Option Place) (b : Block) → comes_after last b ≡ true → next_index last b.take ≤ b.index
next_low None b after = omega arith
next_low (Some p) b after = by (p.take == b.take) refl
  where
    by : (same : Bool) → (p.take == b.take) ≡ same → (if same then suc p.index else 0) ≤ b.index
    by true same = elim (after_is p b after) [ inl later ↦ absurd (omega (arith, later, eqb-true p.take b.take same)) | inr further ↦ omega (arith, further.1) ]
    by false other = omega arith

next_past : (last : Option Place) (b : Block) (n : ℕ) → comes_after last b ≡ true → b.take < n → next_index last n ≡ 0
next_past None b n after lt = refl
next_past (Some p) b n after lt = by (p.take == n) refl
  where
    by : (same : Bool) → (p.take == n) ≡ same → (if same then suc p.index else 0) ≡ 0
    by true same = elim (after_is p b after) [ inl later ↦ absurd (omega (arith, later, eqb-true p.take n same)) | inr further ↦ absurd (omega (arith, further.0, eqb-true p.take n same)) ]
    by false other = refl

counts_more : (last : Option Place) (ks : List Block) (b : Block) → comes_after last b ≡ true → Counts last ks → Counts (Some (place_of b)) (ks ++ b ∷ [])
counts_more last ks b after old n le = blocks_joined n ks (b ∷ []) ∙ ap (λ k. max k (blocks_in n (b ∷ []))) (old n (up_to last b n after le)) ∙ by (b.take == n) refl
  where
    by : (same : Bool) → (b.take == n) ≡ same → max (next_index last n) (if same then max (suc b.index) 0 else 0) ≡ (if same then suc b.index else 0)
    by true same = let low : next_index last n ≤ b.index = subst (λ k. next_index last k ≤ b.index) (eqb-true b.take n same) (next_low last b after) in omega arith
    by false other = let past : next_index last n ≡ 0 = next_past last b n after (omega (arith, le, eqb-false b.take n other)) in omega arith

counts_on : (s : Session) (t : ℕ) (last : Option Place) (xs ks : List Block) → Counts last ks → Counts (last_from s t last xs) (ks ++ kept_from s t last xs)
counts_on s t last [] ks old = subst (Counts last) (sym (append-nil ks)) old
counts_on s t last (x ∷ xs) ks old = by (is_kept s t last x) refl (λ after. counts_on s t (Some (place_of x)) xs (ks ++ x ∷ []) (counts_more last ks x after old)) (counts_on s t last xs ks old)
  where
    by : (b : Bool) → is_kept s t last x ≡ b
        → (comes_after last x ≡ true → Counts (last_from s t (Some (place_of x)) xs) ((ks ++ x ∷ []) ++ kept_from s t (Some (place_of x)) xs))
        → Counts (last_from s t last xs) (ks ++ kept_from s t last xs)
        → Counts (last_from s t (if b then Some (place_of x) else last) xs) (ks ++ (if b then x ∷ kept_from s t (Some (place_of x)) xs else kept_from s t last xs))
    by true is here there = subst (Counts (last_from s t (Some (place_of x)) xs)) (append_assoc ks (x ∷ []) (kept_from s t (Some (place_of x)) xs))
        (here (and_parts (length x.samples == block_samples s t) (comes_after last x) is).1)
    by false is here there = there

-- of the take of the last block, and of later ones, there are as many blocks as the last place tells
pub counts : (s : Session) (t : ℕ) (xs : List Block) → Counts (last_from s t None xs) (kept s t xs)
counts s t xs = counts_on s t None xs [] (λ n le. refl)

-- what a block that is kept finds of its take
pub record Follows (s : Session) (t : ℕ) (xs : List Block) (b : Block) : Type 0 where
  pub long : length b.samples ≡ block_samples s t
  pub count : blocks_in b.take (kept s t xs) ≡ next_index (last_from s t None xs) b.take
  pub next : blocks_in b.take (kept s t xs) ≤ b.index

pub follows : (s : Session) (t : ℕ) (xs : List Block) (b : Block) → is_kept s t (last_from s t None xs) b ≡ true → Follows s t xs b
follows s t xs b is = let last = last_from s t None xs in
    let both = and_parts (length b.samples == block_samples s t) (comes_after last b) is in
    let same : blocks_in b.take (kept s t xs) ≡ next_index last b.take = counts s t xs b.take (up_to last b b.take both.1 (omega arith)) in record {
      long = eqb-true (length b.samples) (block_samples s t) both.0;
      count = same;
      next = omega (arith, same, next_low last b both.1);
    }

-- ---- the last one is the furthest

-- the block lies at the place or before it, by take and index
abbrev pub IsWithin : Option Place → Block → Type 0
IsWithin None b = ⊥
IsWithin (Some p) b = (b.take < p.take) ⊎ ((b.take ≡ p.take) × (b.index ≤ p.index))

within_later : (last : Option Place) (b k : Block) → comes_after last b ≡ true → IsWithin last k → IsWithin (Some (place_of b)) k
within_later None b k after within = absurd within
within_later (Some p) b k after within = by (after_is p b after) within
  where
    by : (p.take < b.take) ⊎ ((b.take ≡ p.take) × (p.index < b.index)) → (k.take < p.take) ⊎ ((k.take ≡ p.take) × (k.index ≤ p.index)) → (k.take < b.take) ⊎ ((k.take ≡ b.take) × (k.index ≤ b.index))
    by (inl later) (inl before) = inl (omega arith)
    by (inl later) (inr same) = inl (omega (arith, same.0))
    by (inr further) (inl before) = inl (omega (arith, further.0))
    by (inr further) (inr same) = inr (same.0 ∙ sym further.0, omega (arith, further.1, same.1))

within_more : (last : Option Place) (ks : List Block) (b : Block) → comes_after last b ≡ true → All (IsWithin last) ks → All (IsWithin (Some (place_of b))) (ks ++ b ∷ [])
within_more last ks b after old = All-append (IsWithin (Some (place_of b))) ks (b ∷ []) (λ k d lt. within_later last b (slice_index_or ks k d) after (old k d lt))
    (All-cons (IsWithin (Some (place_of b))) b [] (inr (refl, omega arith)) (All-nil (IsWithin (Some (place_of b)))))

within_on : (s : Session) (t : ℕ) (last : Option Place) (xs ks : List Block) → All (IsWithin last) ks → All (IsWithin (last_from s t last xs)) (ks ++ kept_from s t last xs)
within_on s t last [] ks old = subst (All (IsWithin last)) (sym (append-nil ks)) old
within_on s t last (x ∷ xs) ks old = by (is_kept s t last x) refl (λ after. within_on s t (Some (place_of x)) xs (ks ++ x ∷ []) (within_more last ks x after old)) (within_on s t last xs ks old)
  where
    by : (b : Bool) → is_kept s t last x ≡ b
        → (comes_after last x ≡ true → All (IsWithin (last_from s t (Some (place_of x)) xs)) ((ks ++ x ∷ []) ++ kept_from s t (Some (place_of x)) xs))
        → All (IsWithin (last_from s t last xs)) (ks ++ kept_from s t last xs)
        → All (IsWithin (last_from s t (if b then Some (place_of x) else last) xs)) (ks ++ (if b then x ∷ kept_from s t (Some (place_of x)) xs else kept_from s t last xs))
    by true is here there = subst (All (IsWithin (last_from s t (Some (place_of x)) xs))) (append_assoc ks (x ∷ []) (kept_from s t (Some (place_of x)) xs))
        (here (and_parts (length x.samples == block_samples s t) (comes_after last x) is).1)
    by false is here there = there

-- every block that was kept lies at the last place or before it
pub kept_within : (s : Session) (t : ℕ) (xs : List Block) → All (IsWithin (last_from s t None xs)) (kept s t xs)
kept_within s t xs = within_on s t None xs [] (All-nil (IsWithin None))

-- ---- the block at an index

-- a block further on, or of another take
abbrev is_at : ℕ → ℕ → Block → Bool
is_at n i b = b.take == n && b.index == i

pub block_before : (n i : ℕ) (xs : List Block) (b : Block) → is_at n i b ≡ false → block_at n i (xs ++ b ∷ []) ≡ block_at n i xs
block_before n i [] b other = ap (λ k. if k then Some b.samples else None) other
block_before n i (x ∷ xs) b other = ap (λ o. if is_at n i x then Some x.samples else o) (block_before n i xs b other)

pub block_behind : (n i : ℕ) (xs ys : List Block) → block_at n i xs ≡ None → block_at n i (xs ++ ys) ≡ block_at n i ys
block_behind n i [] ys none = refl
block_behind n i (x ∷ xs) ys none = by (is_at n i x) none (block_behind n i xs ys)
  where
    by : (b : Bool) → (if b then Some x.samples else block_at n i xs) ≡ None → (block_at n i xs ≡ None → block_at n i (xs ++ ys) ≡ block_at n i ys)
        → (if b then Some x.samples else block_at n i (xs ++ ys)) ≡ block_at n i ys
    by true some rest = absurd (cc)
    by false none rest = rest none

-- no block is past the last one
pub block_past : (n i : ℕ) (xs : List Block) → blocks_in n xs ≤ i → block_at n i xs ≡ None
block_past n i [] past = refl
block_past n i (x ∷ xs) past = by (x.take == n) past (block_past n i xs)
  where
    by : (b : Bool) → (if b then max (suc x.index) (blocks_in n xs) else blocks_in n xs) ≤ i → (blocks_in n xs ≤ i → block_at n i xs ≡ None)
        → (if b && (x.index == i) then Some x.samples else block_at n i xs) ≡ None
    by true past rest = let other : (x.index == i) ≡ false = ne_eqb x.index i (λ same. omega (arith, past, same)) in
        ap (λ k. if k then Some x.samples else block_at n i xs) other ∙ rest (omega (arith, past))
    by false past rest = rest past
