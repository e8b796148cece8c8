-- Lemmas on the walk over the chunks of a file.
use Rattle.std.proofs.Common.{◌≡◌, ℕ, zero, suc, ◌+◌, ◌<◌, ◌≤◌, Bool, true, false, not, ◌||◌, nat_lt, List, length, drop, Option, Result, Ok, Err, refl, sym, ap, ◌∙◌, arith}
use Rattle.std.specs.Prelude.{if◌then◌else◌, codes}
use Rattle.std.proofs.lemmas.Bool.{lt-ltb, le-ltb}
use Rattle.std.proofs.lemmas.Bool.Decides.{nat_tests}
use Rattle.sound_model.specs.Numbers.{number}
use Rattle.sound_model.specs.Wav.{Form, Refusal, NoData, HeadTooLong, ◌>>=◌, begins_at, last_place, stands, after, form_after, head_at, end_at, walk}

same_bind : {A B : Type 0} (r : Result A Refusal) (f g : A → Result B Refusal) → ((x : A) → f x ≡ g x) → (r >>= f) ≡ (r >>= g)
same_bind (Ok x) f g h = h x
same_bind (Err e) f g h = refl

-- no chunk stands where fewer than eight bytes are left
pub past_end : (b : List ℕ) (p : ℕ) → length b < p + 8 → stands b p ≡ false
past_end b p h = grind (arith, nat_tests)

-- where no chunk stands, or none is looked for, the walk ends
walk-end : (n : ℕ) (told : Bool) (b : List ℕ) (p : ℕ) (form : Option Form)
    → (nat_lt last_place p || not (stands b p)) ≡ true → walk n told b p form ≡ Err (end_at p)
unfolding walk
walk-end zero told b p form h = refl
walk-end (suc n) told b p form h =
    ap (λ t. if t then Err (end_at p) else (if begins_at b p (codes "data") then head_at told b p form
    else (form_after b p form >>= λ found. walk n told b (after b p) found))) h

-- a bound at or past the number of bytes that are left may be any
pub walk-bound : (n m : ℕ) (told : Bool) (b : List ℕ) (p : ℕ) (form : Option Form) → n ≤ m → length b ≤ p + n
    → walk m told b p form ≡ walk n told b p form
unfolding walk
walk-bound zero m told b p form more h = walk-end m told b p form (grind (arith, nat_tests))
walk-bound (suc n) zero told b p form more h = absurd (omega arith)
walk-bound (suc n) (suc m) told b p form more h =
    ap (λ rest. if nat_lt last_place p || not (stands b p) then Err (end_at p)
    else (if begins_at b p (codes "data") then head_at told b p form else rest))
    (same_bind (form_after b p form) (λ found. walk m told b (after b p) found) (λ found. walk n told b (after b p) found)
    (λ found. walk-bound n m told b (after b p) found (omega arith) (omega arith)))

-- a larger bound gives the same
pub walk-extra : (extra n : ℕ) (told : Bool) (b : List ℕ) (p : ℕ) (form : Option Form) → length b ≤ p + n
    → walk (extra + n) told b p form ≡ walk n told b p form
walk-extra extra n told b p form h = walk-bound n (extra + n) told b p form (omega arith) h

-- ---- one place of the walk

-- past the last place
pub walk-past : (told : Bool) (b : List ℕ) (p : ℕ) (form : Option Form) → last_place < p
    → walk (length b) told b p form ≡ Err (HeadTooLong p)
walk-past told b p form h =
    walk-end (length b) told b p form (ap (λ t. t || not (stands b p)) (lt-ltb last_place p h))
    ∙ ap (λ t. Err (if t then HeadTooLong p else NoData)) (lt-ltb last_place p h)

-- where no chunk stands
pub walk-over : (told : Bool) (b : List ℕ) (p : ℕ) (form : Option Form) → p ≤ last_place → stands b p ≡ false
    → walk (length b) told b p form ≡ Err NoData
walk-over told b p form h none =
    walk-end (length b) told b p form (ap (λ t. nat_lt last_place p || not t) none ∙ ap (λ t. t || true) (le-ltb last_place p h))
    ∙ ap (λ t. Err (if t then HeadTooLong p else NoData)) (le-ltb last_place p h)

walk-step : (n : ℕ) (told : Bool) (b : List ℕ) (p : ℕ) (form : Option Form) → p ≤ last_place → stands b p ≡ true → length b ≤ p + 8 + n
    → walk (suc n) told b p form ≡ (if begins_at b p (codes "data") then head_at told b p form
    else (form_after b p form >>= λ found. walk (suc n) told b (after b p) found))
unfolding walk
walk-step n told b p form h one fits =
    ap (λ t. if t || not (stands b p) then Err (end_at p) else (if begins_at b p (codes "data") then head_at told b p form
    else (form_after b p form >>= λ found. walk n told b (after b p) found))) (le-ltb last_place p h)
    ∙ ap (λ t. if not t then Err (end_at p) else (if begins_at b p (codes "data") then head_at told b p form
    else (form_after b p form >>= λ found. walk n told b (after b p) found))) one
    ∙ ap (λ rest. if begins_at b p (codes "data") then head_at told b p form else rest)
    (same_bind (form_after b p form) (λ found. walk n told b (after b p) found) (λ found. walk (suc n) told b (after b p) found)
    (λ found. sym (walk-bound n (suc n) told b (after b p) found (omega arith) (omega arith))))

walk-here : (n : ℕ) (told : Bool) (b : List ℕ) (p : ℕ) (form : Option Form) → length b ≡ n → p ≤ last_place → stands b p ≡ true → p + 8 ≤ n
    → walk n told b p form ≡ (if begins_at b p (codes "data") then head_at told b p form
    else (form_after b p form >>= λ found. walk n told b (after b p) found))
walk-here zero told b p form e h one fits = absurd (omega arith)
walk-here (suc n) told b p form e h one fits = walk-step n told b p form h one (omega arith)

-- where a chunk stands
pub walk-at : (told : Bool) (b : List ℕ) (p : ℕ) (form : Option Form) → p ≤ last_place → p ≤ number 4 (drop 4 b) → p + 8 ≤ length b
    → walk (length b) told b p form ≡ (if begins_at b p (codes "data") then head_at told b p form
    else (form_after b p form >>= λ found. walk (length b) told b (after b p) found))
walk-at told b p form h inside fits =
    let one : stands b p ≡ true = grind (arith, nat_tests) in
    walk-here (length b) told b p form refl h one fits
