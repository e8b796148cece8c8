-- Items with their places, one more at the end.
use Rattle.std.proofs.Common.{◌≡◌, ℕ, suc, ◌+◌, ◌<◌, refl, ap, ◌∙◌, sym, arith, List, [], ◌∷◌, ◌++◌, length, take, get_or}
use Rattle.std.proofs.lemmas.List.{take_more, length-take-le}
use Rattle.ses_io.specs.FixedList.{Listed}
use Rattle.session_toml.specs.Built.{numbered, listed}

pub numbered-more : {A B : Type 0} (f : ℕ → A → B) (i j : ℕ) (xs : List A) (x : A) → j ≡ i + length xs → numbered f i (xs ++ x ∷ []) ≡ numbered f i xs ++ f j x ∷ []
numbered-more f i j [] x is = let same : j ≡ i = omega arith in rw same refl
numbered-more f i j (y ∷ ys) x is = ap (λ zs. f i y ∷ zs) (numbered-more f (suc i) j ys x (omega arith))

pub numbered-long : {A B : Type 0} (f : ℕ → A → B) (i : ℕ) (xs : List A) → length (numbered f i xs) ≡ length xs
numbered-long f i [] = refl
numbered-long f i (x ∷ xs) = ap suc (numbered-long f (suc i) xs)

pub numbered-taken : {A B : Type 0} (f : ℕ → A → B) (xs : List A) (i : ℕ) (d : A) → i < length xs → numbered f 0 (take (i + 1) xs) ≡ numbered f 0 (take i xs) ++ f i (get_or xs i d) ∷ []
numbered-taken f xs i d h = ap (numbered f 0) (take_more xs i d h) ∙ numbered-more f 0 i (take i xs) (get_or xs i d) (omega (arith, length-take-le i xs (omega arith)))

-- ---- lists with a room

pub listed-more : {A : Type 0} (room : ℕ) (old new : Listed A) (was now : List A) (x : A) → old ≡ listed room was → new ≡ record { items = old.items ++ x ∷ []; room = old.room } →
    now ≡ was ++ x ∷ [] → new ≡ listed room now
listed-more room old new was now x before pushed is = pushed ∙ ap (λ l. record { items = l.items ++ x ∷ []; room = l.room }) before ∙ ap (listed room) (sym is)

pub listed-room : {A : Type 0} (room n : ℕ) (l : Listed A) (xs : List A) → l ≡ listed room xs → length xs ≡ n → n < room → length l.items < l.room
listed-room room n l xs is long less = omega (arith, ap (λ k. length k.items) is, ap (λ k. k.room) is, long, less)
