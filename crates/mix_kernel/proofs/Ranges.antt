-- Lists of values along a range.
use Rattle.std.proofs.Common.{◌≡◌, ◌≢◌, ℕ, zero, suc, ◌+◌, ◌-◌, ◌*◌, ◌/◌, ◌%◌, ◌<◌, ◌≤◌, ◌⊎◌, inl, inr, List, ◌++◌, length, get_or, set, map, All, refl, ap, ap₂, ◌∙◌, arith}
use Rattle.std.specs.Prelude.{◌∷◌}
use Rattle.std.specs.List.{range_with_len}
use Rattle.std.proofs.lemmas.Bool.{cases_lt}
use Rattle.std.proofs.lemmas.List.{get_or_past, get_or_append_left, get_or-set_same, get_or-set_other, length-set}
use Rattle.std.proofs.lemmas.List.Elements.{All-get_or}
use Rattle.std.proofs.lemmas.List.FromFn.{get_or-map-range_with_len, fill_by_all}
use Rattle.mix_kernel.specs.Blocks.{spread}

-- two functions agree on a range
pub same_along : {X : Type 0} (f g : ℕ → X) (first n : ℕ) → ((i : ℕ) → first ≤ i → i < first + n → f i ≡ g i) → map f (range_with_len first n) ≡ map g (range_with_len first n)
same_along f g first zero each = refl
same_along f g first (suc n) each = ap₂ (λ z zs. z ∷ zs) (each first (omega arith) (omega arith)) (same_along f g (first + 1) n (λ i h m. each i (omega arith) (omega arith)))

-- the frame of a sample is one of so many
pub frame_within : (k count channels n : ℕ) → (channels ≡ 1) ⊎ (channels ≡ 2) → n ≡ count * channels → k < n → k / channels < count
frame_within k count channels n (inl one) whole h = rw one (omega (arith, ap (λ c. count * c) one))
frame_within k count channels n (inr two) whole h = rw two (omega (arith, ap (λ c. count * c) two))

pub whole_frames : (n channels : ℕ) → (channels ≡ 1) ⊎ (channels ≡ 2) → n % channels ≡ 0 → n ≡ n / channels * channels
whole_frames n channels (inl one) whole = let w = ap (λ c. n % c) one in rw one (omega arith)
whole_frames n channels (inr two) whole = let w : n % channels ≡ n % 2 = ap (λ c. n % c) two in rw two (omega arith)

-- ---- spread gains

pub spread_one : (gains : List ℕ) (channels : ℕ) → channels ≡ 1 → gains ≡ spread (λ i. get_or gains i 0) channels (length gains)
spread_one gains channels one =
    fill_by_all (λ k. get_or gains (k / channels) 0) gains (length gains) 0 refl (λ k h. ap (λ i. get_or gains i 0) (same k))
  where
    same : (k : ℕ) → k ≡ k / channels
    same k = rw one (omega arith)

-- the gains of the frames before i stand as they did, and those from i on are spread over two channels
pub record SpreadFrom (old new : List ℕ) (i : ℕ) : Type 0 where
  pub long : length new ≡ length old
  pub within : 2 * i ≤ length old
  pub before : (k : ℕ) → k < i → get_or new k 0 ≡ get_or old k 0
  pub behind : (k : ℕ) → 2 * i ≤ k → k < length old → get_or new k 0 ≡ get_or old (k / 2) 0

pub spread_none : (gains : List ℕ) → length gains % 2 ≡ 0 → SpreadFrom gains gains (length gains / 2)
spread_none gains whole = record { long = refl; within = omega arith; before = λ k h. refl; behind = λ k low high. absurd (omega arith) }

pub spread_more : (old new : List ℕ) (i gain : ℕ) → 0 < i → gain ≡ get_or new (i - 1) 0 → SpreadFrom old new i → SpreadFrom old (set (set new (2 * (i - 1)) gain) (2 * (i - 1) + 1) gain) (i - 1)
spread_more old new i gain some e so_far = record {
  long = omega (arith, so_far.long, length-set new (2 * (i - 1)) gain, length-set (set new (2 * (i - 1)) gain) (2 * (i - 1) + 1) gain);
  within = omega (arith, so_far.within);
  before = λ k h. elsewhere k (inl (omega arith)) ∙ so_far.before k (omega arith);
  behind = λ k low high. at k high (cases_lt k (2 * i)) low;
}
  where
    now : gain ≡ get_or old (i - 1) 0
    now = e ∙ so_far.before (i - 1) (omega arith)

    elsewhere : (k : ℕ) → (k < 2 * (i - 1)) ⊎ (2 * i ≤ k) → get_or (set (set new (2 * (i - 1)) gain) (2 * (i - 1) + 1) gain) k 0 ≡ get_or new k 0
    elsewhere k (inl low) = let one : k ≢ 2 * (i - 1) + 1 = omega arith in let two : k ≢ 2 * (i - 1) = omega arith in
        get_or-set_other (set new (2 * (i - 1)) gain) (2 * (i - 1) + 1) k gain 0 one ∙ get_or-set_other new (2 * (i - 1)) k gain 0 two
    elsewhere k (inr high) = let one : k ≢ 2 * (i - 1) + 1 = omega arith in let two : k ≢ 2 * (i - 1) = omega arith in
        get_or-set_other (set new (2 * (i - 1)) gain) (2 * (i - 1) + 1) k gain 0 one ∙ get_or-set_other new (2 * (i - 1)) k gain 0 two

    both : (k : ℕ) → k < length old → (k < 2 * (i - 1) + 1) ⊎ (2 * (i - 1) + 1 ≤ k) → 2 * (i - 1) ≤ k → k < 2 * i → get_or (set (set new (2 * (i - 1)) gain) (2 * (i - 1) + 1) gain) k 0 ≡ get_or old (k / 2) 0
    both k inside (inl left) low high = let here : k ≡ 2 * (i - 1) = omega arith in let one : 2 * (i - 1) ≢ 2 * (i - 1) + 1 = omega arith in let half : 2 * (i - 1) / 2 ≡ i - 1 = omega arith in
        rw (here, half) (get_or-set_other (set new (2 * (i - 1)) gain) (2 * (i - 1) + 1) (2 * (i - 1)) gain 0 one ∙ get_or-set_same new (2 * (i - 1)) gain 0 (omega (arith, so_far.long)) ∙ now)
    both k inside (inr right) low high = let here : k ≡ 2 * (i - 1) + 1 = omega arith in let half : (2 * (i - 1) + 1) / 2 ≡ i - 1 = omega arith in
        rw (here, half) (get_or-set_same (set new (2 * (i - 1)) gain) (2 * (i - 1) + 1) gain 0 (omega (arith, so_far.long, length-set new (2 * (i - 1)) gain)) ∙ now)

    at : (k : ℕ) → k < length old → (k < 2 * i) ⊎ (2 * i ≤ k) → 2 * (i - 1) ≤ k → get_or (set (set new (2 * (i - 1)) gain) (2 * (i - 1) + 1) gain) k 0 ≡ get_or old (k / 2) 0
    at k inside (inl here) low = both k inside (cases_lt k (2 * (i - 1) + 1)) low here
    at k inside (inr past) low = elsewhere k (inr past) ∙ so_far.behind k past inside

pub spread_two : (old new : List ℕ) (channels i : ℕ) → channels ≡ 2 → i ≡ 0 → SpreadFrom old new i → new ≡ spread (λ k. get_or old k 0) channels (length old)
spread_two old new channels i two none so_far =
    rw two (fill_by_all (λ k. get_or old (k / 2) 0) new (length old) 0 so_far.long (λ k h. so_far.behind k (omega arith) h))

at_most : (gains : List ℕ) (i m : ℕ) → All (λ g. g ≤ m) gains → get_or gains i 0 ≤ m
at_most gains i m quiet = go (cases_lt i (length gains))
  where
    go : (i < length gains) ⊎ (length gains ≤ i) → get_or gains i 0 ≤ m
    go (inl within) = All-get_or (λ g. g ≤ m) gains i 0 within quiet
    go (inr past) = let none = get_or_past gains i 0 past in omega arith

-- gains whose front stands along a range
module _ (f : ℕ → ℕ) (first count channels n : ℕ) (gains front : List ℕ) (few : (channels ≡ 1) ⊎ (channels ≡ 2)) (whole : n ≡ count * channels) (begins : (i : ℕ) → i < count → get_or gains i 0 ≡ get_or front i 0) (values : front ≡ map f (range_with_len first count)) where
  at_frame : (k : ℕ) → k < n → get_or gains (k / channels) 0 ≡ f (first + k / channels)
  at_frame k h = let inside : k / channels < count = frame_within k count channels n few whole h in
      begins (k / channels) inside ∙ ap (λ gs. get_or gs (k / channels) 0) values ∙ get_or-map-range_with_len f first count (k / channels) (first + k / channels) 0 inside refl

  pub spread_along : spread (λ i. get_or gains i 0) channels n ≡ spread (λ i. f (first + i)) channels n
  spread_along = same_along (λ k. get_or gains (k / channels) 0) (λ k. f (first + k / channels)) 0 n (λ k low h. at_frame k (omega arith))

-- a list whose front was written anew
pub front_put : (front rest : List ℕ) (count : ℕ) → length front ≡ count → (i : ℕ) → i < count → get_or (front ++ rest) i 0 ≡ get_or front i 0
front_put front rest count long i h = get_or_append_left front rest 0 i (omega arith)
