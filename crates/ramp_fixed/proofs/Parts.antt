-- A block written in parts, and from its end.
use Rattle.std.proofs.Common.{◌≡◌, ℕ, zero, suc, ◌+◌, ◌-◌, ◌<◌, ◌≤◌, ◌≢◌, List, ◌∷◌, ◌++◌, map, length, get_or, set, take, drop, replicate, refl, sym, ap, ◌∙◌, inl, inr, ◌⊎◌, arith}
use Rattle.std.specs.List.{range_with_len}
use Rattle.std.proofs.lemmas.Bool.{cases_lt}
use Rattle.std.proofs.lemmas.List.{map-append, take_at, drop_all, append-nil, append_assoc, get_or-set_same, get_or-set_other, length-set, length-append, length-drop, ext_get_or, get_or-replicate, length-replicate}
use Rattle.std.proofs.lemmas.List.FromFn.{length-map-range_with_len, get_or-map-range_with_len}

-- a list of the values at the frames from the first on
pub filled_from : (f : ℕ → ℕ) (first n : ℕ) (out : List ℕ) → length out ≡ n → ((k : ℕ) → k < length out → get_or out k 0 ≡ f (first + k)) → out ≡ map f (range_with_len first n)
filled_from f first n out long each =
    ext_get_or 0 out (map f (range_with_len first n)) (long ∙ sym (length-map-range_with_len f first n))
    (λ k h. each k h ∙ sym (get_or-map-range_with_len f first n k (first + k) 0 (omega arith) refl))

-- a value written before those that stand from i on
pub filled_down : (f : ℕ → ℕ) (out : List ℕ) (i v : ℕ) → v ≡ f (i - 1) → 0 < i → i ≤ length out
    → ((k : ℕ) → i ≤ k → k < length out → get_or out k 0 ≡ f k)
    → (k : ℕ) → i - 1 ≤ k → k < length (set out (i - 1) v) → get_or (set out (i - 1) v) k 0 ≡ f k
filled_down f out i v e some within so_far k h m = go (cases_lt (i - 1) k)
  where
    long : length (set out (i - 1) v) ≡ length out
    long = length-set out (i - 1) v

    go : (i - 1 < k) ⊎ (k ≤ i - 1) → get_or (set out (i - 1) v) k 0 ≡ f k
    go (inl past) = let other : k ≢ i - 1 = omega arith in get_or-set_other out (i - 1) k v 0 other ∙ so_far k (omega arith) (omega (arith, long))
    go (inr there) = let same : k ≡ i - 1 = omega arith in rw same (get_or-set_same out (i - 1) v 0 (omega arith) ∙ e)

pub ranges_joined : (first a b : ℕ) → range_with_len first a ++ range_with_len (first + a) b ≡ range_with_len first (a + b)
ranges_joined first zero b = let here : first + 0 ≡ first = omega arith in let none : 0 + b ≡ b = omega arith in rw (here, none) refl
ranges_joined first (suc a) b =
    let one : suc a + b ≡ suc (a + b) = omega arith in
    let along : first + suc a ≡ first + 1 + a = omega arith in
    rw (one, along) (ap (λ xs. first ∷ xs) (ranges_joined (first + 1) a b))

-- two functions agree on a range
pub same_on_range : (f g : ℕ → ℕ) (first n : ℕ) → ((i : ℕ) → first ≤ i → i < first + n → f i ≡ g i) → map f (range_with_len first n) ≡ map g (range_with_len first n)
same_on_range f g first zero each = refl
same_on_range f g first (suc n) each = rw (each first (omega arith) (omega arith), same_on_range f g (first + 1) n (λ i h m. each i (omega arith) (omega arith))) refl

pub replicate_is_range : (f : ℕ → ℕ) (v first n : ℕ) → ((i : ℕ) → first ≤ i → i < first + n → f i ≡ v) → replicate n v ≡ map f (range_with_len first n)
replicate_is_range f v first n each =
    filled_from f first n (replicate n v) (length-replicate n v)
    (λ k h. let within : k < n = omega (arith, length-replicate n v) in get_or-replicate n k v 0 within ∙ sym (each (first + k) (omega arith) (omega arith)))

-- a block of three parts
pub three_parts : (f : ℕ → ℕ) (first n a b : ℕ) (p q r : List ℕ) → a ≤ b → b ≤ n
    → p ≡ map f (range_with_len first a) → q ≡ map f (range_with_len (first + a) (b - a)) → r ≡ map f (range_with_len (first + b) (n - b))
    → (p ++ q) ++ r ≡ map f (range_with_len first n)
three_parts f first n a b p q r h m ep eq er =
    rw (ep, eq, er)
    (ap (λ xs. xs ++ map f (range_with_len (first + b) (n - b))) (sym (map-append f (range_with_len first a) (range_with_len (first + a) (b - a))) ∙ ap (map f) (ranges_joined first a (b - a)))
    ∙ (let whole : a + (b - a) ≡ b = omega arith in rw whole
    (sym (map-append f (range_with_len first b) (range_with_len (first + b) (n - b))) ∙ ap (map f) (ranges_joined first b (n - b) ∙ (let all : b + (n - b) ≡ n = omega arith in rw all refl)))))

-- what parts of a list hold once they are written
last_put : (b : ℕ) (xs r : List ℕ) → take b xs ++ (r ++ drop (length xs - b) (drop b xs)) ≡ take b xs ++ r
last_put b xs r =
    let none = drop_all (length xs - b) (drop b xs) (omega (arith, length-drop b xs)) in
    ap (λ ys. take b xs ++ ys) (ap (λ ys. r ++ ys) none ∙ append-nil r)

mid_put : (a b : ℕ) (p q behind : List ℕ) → length p ≡ a → a + length q ≡ b → (after : List ℕ) → take b (take a (p ++ behind) ++ (q ++ after)) ≡ p ++ q
mid_put a b p q behind ep eq after =
    rw (take_at p behind a ep) (ap (take b) (sym (append_assoc p q after)) ∙ take_at (p ++ q) after b (length-append p q ∙ omega arith))

pub parts_put : (a b : ℕ) (p q r behind after : List ℕ) → length p ≡ a → a + length q ≡ b
    → take b (take a (p ++ behind) ++ (q ++ after)) ++ (r ++ drop (length (take a (p ++ behind) ++ (q ++ after)) - b) (drop b (take a (p ++ behind) ++ (q ++ after)))) ≡ (p ++ q) ++ r
parts_put a b p q r behind after ep eq =
    last_put b (take a (p ++ behind) ++ (q ++ after)) r ∙ ap (λ xs. xs ++ r) (mid_put a b p q behind ep eq after)

-- a list of values along a range, by its length
pub ranged : (f : ℕ → ℕ) (first n a : ℕ) (xs : List ℕ) → xs ≡ map f (range_with_len first n) → length xs ≡ a → xs ≡ map f (range_with_len first a)
ranged f first n a xs e long =
    let same : n ≡ a = sym (ap length e ∙ length-map-range_with_len f first n) ∙ long in
    e ∙ ap (λ k. map f (range_with_len first k)) same

pub repeated : (v n a : ℕ) (xs : List ℕ) → xs ≡ replicate n v → length xs ≡ a → xs ≡ replicate a v
repeated v n a xs e long =
    let same : n ≡ a = sym (ap length e ∙ length-replicate n v) ∙ long in
    e ∙ ap (λ k. replicate k v) same
