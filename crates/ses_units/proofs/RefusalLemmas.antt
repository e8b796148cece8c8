-- What a refusal says of the points, and that points that are refused for nothing make a lane.
use Rattle.std.proofs.Common.{◌≡◌, ◌<◌, ◌≤◌, ◌+◌, ◌-◌, ◌^◌, ℕ, suc, Bool, true, false, not, cond, nat_lt, nat_le, min, get_or, List, [], ◌∷◌, length, take, refl, subst, inl, inr, ◌⊎◌, arith, All, Option, Some, None}
use Rattle.std.specs.List.{AllPairs, prefix_len}
use Rattle.std.specs.Option.{option_map, option_or}
use Rattle.std.proofs.lemmas.Bool.Decides.{nat_tests}
use Rattle.std.proofs.lemmas.List.{length-take, get_or-take}
use Rattle.std.proofs.lemmas.List.Elements.{All-nil, All-cons, All-weaker}
use Rattle.std.proofs.lemmas.List.Quantifiers.{position-Some}
use Rattle.std.proofs.lemmas.List.Sums.{prefix_len_passes}
use Rattle.std.proofs.lemmas.List.Kept.{AllPairs-cons}
use Rattle.sound_model.specs.Lanes.{Point}
use Rattle.ses_units.specs.declared.refusal.LaneRefusal.{LaneRefusal}
use Rattle.ses_units.specs.declared.refusal.LaneRefusal.TheVariants.{TooMany, Far, NotRising}
use Rattle.ses_units.specs.Lane.{IsLane}
use Rattle.ses_units.specs.Refusal.{first_far, first_fall, fall_after, first_refusal, IsFirstFar, IsFirstFall, IsBroken}
use Rattle.ses_units.proofs.LaneLemmas.{all_pairs_head}

-- ---- refused for nothing

both-none : (b : Bool) (t : LaneRefusal) (f g : ℕ → LaneRefusal) (x y : Option ℕ) → cond b (Some t) (option_or (option_map f x) (option_map g y)) ≡ None → (b ≡ false) × (x ≡ None) × (y ≡ None)
both-none true t f g x y e = absurd cc
both-none false t f g None None e = (refl, refl, refl)
both-none false t f g None (Some m) e = absurd cc
both-none false t f g (Some n) y e = absurd cc

none-first : (b : Bool) (n : ℕ) → cond b (Some n) None ≡ None → b ≡ false
none-first true n e = absurd cc
none-first false n e = refl

none-second : (b : Bool) (x : Option ℕ) (n : ℕ) → cond b x (Some n) ≡ None → (b ≡ true) × (x ≡ None)
none-second true x n e = (refl, e)
none-second false x n e = absurd cc

far-none : (points : List Point) → first_far points ≡ None → All (λ p. p.at < 2 ^ 40) points
unfolding first_far
far-none points e =
    let near : Point → Bool = λ p. not (nat_le (2 ^ 40) p.at) in
    let all = none-first (nat_lt (prefix_len near points) (length points)) (prefix_len near points) e in
    let least : length points ≤ prefix_len near points = grind (arith, nat_tests, all) in
    λ k d l. let pass = prefix_len_passes near points k d (omega arith) in grind (arith, nat_tests, pass)

fall-none : (place i : ℕ) (points : List Point) → fall_after place i points ≡ None → All (λ q. place < q.at) points × AllPairs (λ p q. p.at < q.at) points
fall-none place i [] e = (All-nil (λ q. place < q.at), λ i j d l m. absurd (omega arith))
fall-none place i (q ∷ qs) e =
    let parts = none-second (nat_lt place q.at) (fall_after q.at (suc i) qs) (suc i) e in
    let above : place < q.at = grind (arith, nat_tests, parts.0) in
    let rest = fall-none q.at (suc i) qs parts.1 in (
      All-cons (λ r. place < r.at) q qs above (All-weaker (λ r. q.at < r.at) (λ r. place < r.at) (λ r h. omega arith) qs rest.0),
      AllPairs-cons (λ p r. p.at < r.at) q qs rest.0 rest.1,
    )

pub rises-none : (points : List Point) → first_fall points ≡ None → AllPairs (λ p q. p.at < q.at) points
unfolding first_fall
rises-none [] e = λ i j d l m. absurd (omega arith)
rises-none (p ∷ ps) e =
    let parts = fall-none p.at 0 ps e in
    AllPairs-cons (λ r q. r.at < q.at) p ps parts.0 parts.1

pub IsLane-accepted : (points : List Point) → first_refusal points ≡ None → All (λ p. p.gain ≤ 262144) points → IsLane points
IsLane-accepted points e quiet =
    let parts = both-none (nat_lt 1024 (length points)) _ _ _ (first_far points) (first_fall points) e in
    let few : length points ≤ 1024 = grind (arith, nat_tests, parts.0) in
    record { few = few; near = far-none points parts.1; quiet = quiet; rising = rises-none points parts.2 }

-- ---- refused

far-some : (points : List Point) (i : ℕ) → first_far points ≡ Some i → IsFirstFar points i
unfolding first_far
far-some points i e =
    let seen = λ (d : Point). position-Some (λ (p : Point). nat_le (2 ^ 40) p.at) points i d e in
    record {
      within = (seen (record { at = 0; gain = 0 })).0;
      far = λ d. let pass = (seen d).1 in grind (arith, nat_tests, pass);
      near = λ k d l.
          let low : k < i = omega (arith, length-take i points) in
          let pass = (seen d).2 k low in
          rw (get_or-take i points k d low) (grind (arith, nat_tests, pass));
    }

-- the point after index k isn't after the one there, and those up to k rise
record Falls (points : List Point) (k : ℕ) : Type 0 where
  within : suc k < length points
  falls : (d : Point) → (get_or points (suc k) d).at ≤ (get_or points k d).at
  rising : AllPairs (λ p q. p.at < q.at) (take (suc k) points)

Falls-here : (p q : Point) (qs : List Point) → q.at ≤ p.at → Falls (p ∷ q ∷ qs) 0
Falls-here p q qs h = record { within = omega arith; falls = λ d. h; rising = λ i j d l m. absurd (omega arith) }

Falls-later : (p q : Point) (qs : List Point) (k : ℕ) → p.at < q.at → Falls (q ∷ qs) k → Falls (p ∷ q ∷ qs) (suc k)
Falls-later p q qs k less rest =
    let above = All-weaker (λ r. q.at < r.at) (λ r. p.at < r.at) (λ r h. omega arith) (take k qs) (all_pairs_head (λ r t. r.at < t.at) q (take k qs) rest.rising) in
    record {
      within = omega (arith, rest.within);
      falls = rest.falls;
      rising = AllPairs-cons (λ r t. r.at < t.at) p (take (suc k) (q ∷ qs)) (All-cons (λ r. p.at < r.at) q (take k qs) less above) rest.rising;
    }

some-second : (b : Bool) (x : Option ℕ) (m n : ℕ) → cond b x (Some m) ≡ Some n → ((b ≡ true) × (x ≡ Some n)) ⊎ ((b ≡ false) × (m ≡ n))
some-second true x m n e = inl (refl, e)
some-second false x m n e = inr (refl, cc)

fall-some : (p : Point) (i : ℕ) (points : List Point) (n : ℕ) → fall_after p.at i points ≡ Some n → (k : ℕ) × (n ≡ i + suc k) × Falls (p ∷ points) k
fall-some p i [] n e = absurd cc
fall-some p i (q ∷ qs) n e =
    elim (some-second (nat_lt p.at q.at) (fall_after q.at (suc i) qs) (suc i) n e) [
      | inl h ↦ (let less : p.at < q.at = grind (arith, nat_tests, h.0) in
          let rest = fall-some q (suc i) qs n h.1 in
          (suc rest.0, omega (arith, rest.1), Falls-later p q qs rest.0 less rest.2))
      | inr h ↦ (let past : q.at ≤ p.at = grind (arith, nat_tests, h.0) in (0, omega (arith, h.1), Falls-here p q qs past))
    ]

IsFirstFall-after : (points : List Point) (n k : ℕ) → n ≡ suc k → Falls points k → IsFirstFall points n
IsFirstFall-after points n k here rest =
    let before : n - 1 ≡ k = omega arith in
    record {
      follows = omega arith;
      within = omega (arith, rest.within);
      falls = λ d. rw (before, here) (rest.falls d);
      rising = rw here rest.rising;
    }

first-fall-some : (points : List Point) (n : ℕ) → first_fall points ≡ Some n → IsFirstFall points n
unfolding first_fall
first-fall-some [] n e = absurd cc
first-fall-some (p ∷ ps) n e =
    let rest = fall-some p 0 ps n e in
    IsFirstFall-after (p ∷ ps) n rest.0 (omega (arith, rest.1)) rest.2

by-refusal : (P : LaneRefusal → Type 0) (b : Bool) (t e : LaneRefusal) (x y : Option ℕ) → cond b (Some t) (option_or (option_map Far x) (option_map NotRising y)) ≡ Some e → (b ≡ true → P t) → ((i : ℕ) → b ≡ false → x ≡ Some i → P (Far i)) → ((i : ℕ) → b ≡ false → x ≡ None → y ≡ Some i → P (NotRising i)) → P e
by-refusal P true t e x y is f g h = let same : t ≡ e = cc in subst P same (f refl)
by-refusal P false t e (Some i) y is f g h = let same : Far i ≡ e = cc in subst P same (g i refl refl)
by-refusal P false t e None (Some i) is f g h = let same : NotRising i ≡ e = cc in subst P same (h i refl refl refl)
by-refusal P false t e None None is f g h = absurd cc

pub IsBroken-refused : (points : List Point) (refusal : LaneRefusal) → first_refusal points ≡ Some refusal → IsBroken points refusal
IsBroken-refused points refusal e =
    by-refusal (IsBroken points) (nat_lt 1024 (length points)) (TooMany (min (length points) 4294967295)) refusal (first_far points) (first_fall points) e
    (λ many. (grind (arith, nat_tests, many), refl))
    (λ i few far. (grind (arith, nat_tests, few), far-some points i far))
    (λ i few near fall. (grind (arith, nat_tests, few), far-none points near, first-fall-some points i fall))
