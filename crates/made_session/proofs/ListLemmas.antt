-- Lists of what is made of each number, and lists with one item more.
use Rattle.std.proofs.Common.{◌≡◌, ℕ, zero, suc, ◌+◌, ◌<◌, ◌⊎◌, inl, inr, refl, ap, sym, ◌∙◌, arith, List, [], ◌∷◌, ◌++◌, length, get_or, Option, Some, None, slice_get, IsSomeAnd, All}
use Rattle.std.proofs.lemmas.List.Elements.{All-from_get_or}
use Rattle.std.proofs.lemmas.List.FromFn.{length-map-range_with_len, get_or-map-range_with_len, map-range_with_len_more}
use Rattle.std.proofs.lemmas.Option.{slice_get_within, get_or_from_slice_get}
use Rattle.ses_io.specs.FixedList.{Listed}
use Rattle.made_session.specs.Each.{each_below, listed}

-- ---- what is made of each number

pub each-none : {X : Type 0} (f : ℕ → X) → each_below f 0 ≡ []
unfolding each_below
each-none f = refl

pub each-more : {X : Type 0} (f : ℕ → X) (n : ℕ) → each_below f (n + 1) ≡ each_below f n ++ f n ∷ []
unfolding each_below
each-more f n = map-range_with_len_more f 0 n n (omega arith)

pub each-long : {X : Type 0} (f : ℕ → X) (n : ℕ) → length (each_below f n) ≡ n
unfolding each_below
each-long f n = length-map-range_with_len f 0 n

pub each-get : {X : Type 0} (f : ℕ → X) (n i : ℕ) (d : X) → i < n → get_or (each_below f n) i d ≡ f i
unfolding each_below
each-get f n i d h = get_or-map-range_with_len f 0 n i i d h (omega arith)

pub each-at : {X : Type 0} (f : ℕ → X) (n i : ℕ) (x : X) → slice_get (each_below f n) i ≡ Some x → (i < n) × (x ≡ f i)
each-at f n i x e = let below : i < n = omega (arith, slice_get_within (each_below f n) i x e, each-long f n) in
    (below, sym (get_or_from_slice_get (each_below f n) i x x e) ∙ each-get f n i x below)

pub each-all : {X : Type 0} (P : X → Type 0) (f : ℕ → X) (n : ℕ) → ((i : ℕ) → P (f i)) → All P (each_below f n)
each-all P f n each = All-from_get_or P (each_below f n) (f 0) at
  where
    at : (i : ℕ) → i < length (each_below f n) → P (get_or (each_below f n) i (f 0))
    at i h = let here : get_or (each_below f n) i (f 0) ≡ f i = each-get f n i (f 0) (omega (arith, h, each-long f n)) in rw here (each i)

-- ---- lists with a room

pub listed-push : {X : Type 0} (room : ℕ) (f : ℕ → X) (t : ℕ) (old new : Listed X) (x : X) → old ≡ listed room (each_below f t) → x ≡ f t →
    new ≡ record { items = old.items ++ x ∷ []; room = old.room } → new ≡ listed room (each_below f (t + 1))
listed-push {X = X} room f t old new x before is pushed = pushed ∙ ap (λ (l : Listed X). record { items = l.items ++ x ∷ []; room = l.room }) before
    ∙ ap (λ y. listed room (each_below f t ++ y ∷ [])) is ∙ ap (listed room) (sym (each-more f t))

pub listed-room : {X : Type 0} (room : ℕ) (f : ℕ → X) (t : ℕ) (old : Listed X) → old ≡ listed room (each_below f t) → t < room → length old.items < old.room
listed-room {X = X} room f t old before less = omega (arith, ap (λ (l : Listed X). length l.items) before, ap (λ (l : Listed X). l.room) before, each-long f t, less)

-- ---- one item more

abbrev IsAt : {X : Type 0} → List X → X → ℕ → X → Type 0
IsAt xs y i x = ((i < length xs) × (slice_get xs i ≡ Some x)) ⊎ ((i ≡ length xs) × (x ≡ y))

one-on : {X : Type 0} (z : X) (zs : List X) (y : X) (i : ℕ) (x : X) → IsAt zs y i x → IsAt (z ∷ zs) y (suc i) x
one-on z zs y i x (inl h) = inl (omega (arith, h.0), h.1)
one-on z zs y i x (inr h) = inr (ap suc h.0, h.1)

-- an item of a list with one more is one of the list, or that one
pub push-at : {X : Type 0} (xs : List X) (y : X) (i : ℕ) (x : X) → slice_get (xs ++ y ∷ []) i ≡ Some x →
    ((i < length xs) × (slice_get xs i ≡ Some x)) ⊎ ((i ≡ length xs) × (x ≡ y))
push-at [] y zero x e = inr (refl, cc)
push-at [] y (suc i) x e = absurd (nothing e)
  where
    nothing : {A : Type 0} {a : A} → None ≡ Some a → ⊥
    nothing h = cc
push-at (z ∷ zs) y zero x e = inl (omega arith, e)
push-at (z ∷ zs) y (suc i) x e = one-on z zs y i x (push-at zs y i x e)

pub last-at : {X : Type 0} (xs : List X) (y : X) → slice_get (xs ++ y ∷ []) (length xs) ≡ Some y
last-at [] y = refl
last-at (z ∷ zs) y = last-at zs y

pub some-and : {X : Type 0} (P : X → Type 0) (o : Option X) (x : X) → o ≡ Some x → P x → IsSomeAnd o P
some-and P o x e h = rw e h
