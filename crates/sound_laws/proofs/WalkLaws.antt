-- The walk over the chunks of a file: its steps, and that a longer one finds the same.
use Rattle.std.proofs.Common.{◌≡◌, ℕ, zero, suc, ◌+◌, ◌≤◌, Bool, true, false, ◌&&◌, ◌||◌, nat_lt, nat_le, refl, ap, arith, ◌∙◌, sym, List, length, drop, Option, None, Ok, Err, Result}
use Rattle.std.specs.Prelude.{codes, not}
use Rattle.std.proofs.lemmas.Bool.Decides.{nat_tests}
use Rattle.sound_model.specs.Numbers.{number}
use Rattle.sound_model.specs.Wav.{Form, Refusal, ◌>>=◌, begins_at, last_place, stands, after, form_after, head_at, end_at, walk}
use Rattle.sound_laws.specs.Files.{LongerWalkIsTheSame}
use Rattle.sound_laws.proofs.Cases.{by_test}

-- ---- the steps of the walk

pub walk-ends : (chunks : ℕ) (told : Bool) (b : List ℕ) (p : ℕ) (form : Option Form) → (nat_lt last_place p || not (stands b p)) ≡ true →
    walk chunks told b p form ≡ Err (end_at p)
unfolding walk
walk-ends zero told b p form h = refl
walk-ends (suc chunks) told b p form h = rw h refl

pub walk-data : (chunks : ℕ) (told : Bool) (b : List ℕ) (p : ℕ) (form : Option Form) → (nat_lt last_place p || not (stands b p)) ≡ false →
    begins_at b p (codes "data") ≡ true → walk (suc chunks) told b p form ≡ head_at told b p form
unfolding walk
walk-data chunks told b p form h data' = rw (h, data') refl

pub walk-goes_on : (chunks : ℕ) (told : Bool) (b : List ℕ) (p : ℕ) (form : Option Form) → (nat_lt last_place p || not (stands b p)) ≡ false →
    begins_at b p (codes "data") ≡ false →
    walk (suc chunks) told b p form ≡ (form_after b p form >>= λ found. walk chunks told b (after b p) found)
unfolding walk
walk-goes_on chunks told b p form h data' = rw (h, data') refl

-- ---- a longer walk

not_both : (a b c : Bool) → c ≡ false → (a || not (b && c)) ≡ true
not_both true b c h = refl
not_both false true c h = rw h refl
not_both false false c h = refl

-- past the end of the file no chunk stands
none_stands : (b : List ℕ) (p : ℕ) → length b ≤ p → (nat_lt last_place p || not (stands b p)) ≡ true
none_stands b p h = let past : nat_le (p + 8) (length b) ≡ false = grind (arith, nat_tests) in
    not_both (nat_lt last_place p) (nat_le (p + 8) (8 + number 4 (drop 4 b))) (nat_le (p + 8) (length b)) past

bind_same : {A B : Type 0} (r : Result A Refusal) (f g : A → Result B Refusal) → ((x : A) → f x ≡ g x) → (r >>= f) ≡ (r >>= g)
bind_same (Ok x) f g same = same x
bind_same (Err e) f g same = refl

-- what goes on from a chunk that stands at p
longer_from : (chunks further : ℕ) (told : Bool) (b : List ℕ) (p : ℕ) (form : Option Form) → (nat_lt last_place p || not (stands b p)) ≡ false →
    ((found : Option Form) → walk (further + chunks) told b (after b p) found ≡ walk chunks told b (after b p) found) →
    walk (suc (further + chunks)) told b p form ≡ walk (suc chunks) told b p form
longer_from chunks further told b p form there same = by_test (begins_at b p (codes "data"))
    (λ e. walk-data (further + chunks) told b p form there e ∙ sym (walk-data chunks told b p form there e))
    (λ e. walk-goes_on (further + chunks) told b p form there e
    ∙ bind_same (form_after b p form) (λ found. walk (further + chunks) told b (after b p) found) (λ found. walk chunks told b (after b p) found) same
    ∙ sym (walk-goes_on chunks told b p form there e))

pub walk-longer : (chunks further : ℕ) (told : Bool) (b : List ℕ) (p : ℕ) (form : Option Form) → length b ≤ p + chunks →
    walk (further + chunks) told b p form ≡ walk chunks told b p form
walk-longer zero further told b p form h = let past : (nat_lt last_place p || not (stands b p)) ≡ true = none_stands b p (omega arith) in
    walk-ends (further + 0) told b p form past ∙ sym (walk-ends zero told b p form past)
walk-longer (suc chunks) further told b p form h = let next : further + suc chunks ≡ suc (further + chunks) = omega arith in
    ap (λ n. walk n told b p form) next ∙ by_test (nat_lt last_place p || not (stands b p))
    (λ e. walk-ends (suc (further + chunks)) told b p form e ∙ sym (walk-ends (suc chunks) told b p form e))
    (λ e. longer_from chunks further told b p form e (λ found. walk-longer chunks further told b (after b p) found (omega arith)))

pub longer_walk_is_the_same : LongerWalkIsTheSame
longer_walk_is_the_same further told b = walk-longer (length b) further told b 12 None (omega arith)
