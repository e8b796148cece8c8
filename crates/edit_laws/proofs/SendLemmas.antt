-- The sends of a route with one more, or with one less, and the points of its lane.
use Rattle.std.proofs.Common.{◌≡◌, ◌≢◌, inl, inr, ℕ, suc, ◌≤◌, ◌<◌, ◌⊎◌, ◌+◌, List, [], ◌∷◌, length, map, filter, refl, ap, subst, arith}
use Rattle.std.specs.Prelude.{Bool, true, false, not, ◌==◌, if◌then◌else◌, All, AllPairs}
use Rattle.std.proofs.lemmas.Bool.{eqb-true, eqb-false}
use Rattle.std.proofs.lemmas.Bool.Decides.{nat_tests}
use Rattle.std.proofs.lemmas.List.{length-append}
use Rattle.std.proofs.lemmas.List.Elements.{All-cons, All-head, All-tail, All-nil}
use Rattle.std.proofs.lemmas.List.Kept.{AllPairs-cons}
use Rattle.sound_model.specs.Lanes.{Point}
use Rattle.sound_laws.proofs.Cases.{by_test}
use Rattle.ses_units.specs.Lane.{points_before, points_after, without_point}
use Rattle.session_model.specs.declared.route.SendLink.{SendLink}
use Rattle.session_model.specs.Lists.{AreApart}
use Rattle.engine_model.specs.Changes.{with_send, without_send}

abbrev to_of : SendLink → ℕ
to_of l = l.to

abbrev leads_elsewhere : ℕ → SendLink → Bool
leads_elsewhere to l = not (l.to == to)

-- ---- one more

pub All-with_send : (P : SendLink → Type 0) (link : SendLink) (ls : List SendLink) → P link → All P ls → All P (with_send link ls)
All-with_send P link [] one all = All-cons P link [] one all
All-with_send P link (l ∷ ls) one all = by_place (l.to == link.to) (All-with_send P link ls one (All-tail P l ls all))
  where
    by_place : (b : Bool) → All P (with_send link ls) → All P (if b then link ∷ ls else l ∷ with_send link ls)
    by_place true rest = All-cons P link ls one (All-tail P l ls all)
    by_place false rest = All-cons P l (with_send link ls) (All-head P l ls all) rest

-- as many as before, or one more where none led there
with_send_long : (link : SendLink) (ls : List SendLink) → (length (with_send link ls) ≡ length ls)
    ⊎ ((length (with_send link ls) ≡ suc (length ls)) × (length (filter (leads_elsewhere link.to) ls) ≡ length ls))
with_send_long link [] = inr (refl, refl)
with_send_long link (l ∷ ls) = by_place (l.to == link.to) (with_send_long link ls)
  where
    by_place : (b : Bool) → (length (with_send link ls) ≡ length ls) ⊎ ((length (with_send link ls) ≡ suc (length ls)) × (length (filter (leads_elsewhere link.to) ls) ≡ length ls)) →
        (length (if b then link ∷ ls else l ∷ with_send link ls) ≡ suc (length ls))
        ⊎ ((length (if b then link ∷ ls else l ∷ with_send link ls) ≡ suc (suc (length ls))) × (length (if not b then l ∷ filter (leads_elsewhere link.to) ls else filter
        (leads_elsewhere link.to) ls) ≡ suc (length ls)))
    by_place true rest = inl refl
    by_place false (inl same) = inl (ap (λ n. suc n) same)
    by_place false (inr more) = inr (ap (λ n. suc n) more.0, ap (λ n. suc n) more.1)

pub few_with_send : (link : SendLink) (ls : List SendLink) → length ls ≤ 8 → length (filter (leads_elsewhere link.to) ls) < 8 → length (with_send link ls) ≤ 8
few_with_send link ls few room = elim (with_send_long link ls) [
  | inl same ↦ omega (arith, same, few)
  | inr more ↦ omega (arith, more.0, more.1, room)
]

pairs_head : {X : Type 0} (R : X → X → Type 0) (x : X) (xs : List X) → AllPairs R (x ∷ xs) → All (R x) xs
pairs_head R x xs h k d l = h 0 (suc k) d (omega arith) (omega arith)

pairs_tail : {X : Type 0} (R : X → X → Type 0) (x : X) (xs : List X) → AllPairs R (x ∷ xs) → AllPairs R xs
pairs_tail R x xs h i j d l m = h (suc i) (suc j) d (omega arith) (omega arith)

abbrev Differs : ℕ → ℕ → Type 0
Differs x y = x ≢ y

none_with_send : (x : ℕ) (link : SendLink) (ls : List SendLink) → x ≢ link.to → All (Differs x) (map to_of ls) → All (Differs x) (map to_of (with_send link ls))
none_with_send x link [] other all = All-cons (Differs x) link.to [] other all
none_with_send x link (l ∷ ls) other all = by_place (l.to == link.to) (none_with_send x link ls other (All-tail (Differs x) l.to (map to_of ls) all))
  where
    by_place : (b : Bool) → All (Differs x) (map to_of (with_send link ls)) → All (Differs x) (map to_of (if b then link ∷ ls else l ∷ with_send link ls))
    by_place true rest = All-cons (Differs x) link.to (map to_of ls) other (All-tail (Differs x) l.to (map to_of ls) all)
    by_place false rest = All-cons (Differs x) l.to (map to_of (with_send link ls)) (All-head (Differs x) l.to (map to_of ls) all) rest

pub apart_with_send : (link : SendLink) (ls : List SendLink) → AreApart (map to_of ls) → AreApart (map to_of (with_send link ls))
apart_with_send link [] apart = AllPairs-cons Differs link.to [] (All-nil (Differs link.to)) apart
apart_with_send link (l ∷ ls) apart = by_place (l.to == link.to) refl (apart_with_send link ls (pairs_tail Differs l.to (map to_of ls) apart))
  where
    by_place : (b : Bool) → (l.to == link.to) ≡ b → AreApart (map to_of (with_send link ls)) → AreApart (map to_of (if b then link ∷ ls else l ∷ with_send link ls))
    by_place true e rest = subst (λ n. AreApart (n ∷ map to_of ls)) (eqb-true l.to link.to e) apart
    by_place false e rest = AllPairs-cons Differs l.to (map to_of (with_send link ls))
        (none_with_send l.to link ls (eqb-false l.to link.to e) (pairs_head Differs l.to (map to_of ls) apart)) rest

-- ---- one less

pub few_without_send : (to : ℕ) (ls : List SendLink) → length ls ≤ 8 → length (without_send to ls) ≤ 8
few_without_send to ls few = omega (arith, fewer ls)
  where
    fewer : (ks : List SendLink) → length (filter (leads_elsewhere to) ks) ≤ length ks
    fewer [] = omega arith
    fewer (k ∷ ks) = by_test (leads_elsewhere to k)
        (λ e. rw e (omega (arith, fewer ks)))
        (λ e. rw e (omega (arith, fewer ks)))

none_without_send : (x to : ℕ) (ls : List SendLink) → All (Differs x) (map to_of ls) → All (Differs x) (map to_of (without_send to ls))
none_without_send x to [] all = all
none_without_send x to (l ∷ ls) all = by_place (leads_elsewhere to l) (none_without_send x to ls (All-tail (Differs x) l.to (map to_of ls) all))
  where
    by_place : (b : Bool) → All (Differs x) (map to_of (without_send to ls)) → All (Differs x) (map to_of (if b then l ∷ without_send to ls else without_send to ls))
    by_place true rest = All-cons (Differs x) l.to (map to_of (without_send to ls)) (All-head (Differs x) l.to (map to_of ls) all) rest
    by_place false rest = rest

pub apart_without_send : (to : ℕ) (ls : List SendLink) → AreApart (map to_of ls) → AreApart (map to_of (without_send to ls))
apart_without_send to [] apart = apart
apart_without_send to (l ∷ ls) apart = by_place (leads_elsewhere to l) (apart_without_send to ls (pairs_tail Differs l.to (map to_of ls) apart))
  where
    by_place : (b : Bool) → AreApart (map to_of (without_send to ls)) → AreApart (map to_of (if b then l ∷ without_send to ls else without_send to ls))
    by_place true rest = AllPairs-cons Differs l.to (map to_of (without_send to ls)) (none_without_send l.to to ls (pairs_head Differs l.to (map to_of ls) apart)) rest
    by_place false rest = rest

-- ---- the points of a lane that stand elsewhere

pub points_elsewhere : (place : ℕ) (points : List Point) → length (without_point points place) ≤ length (filter (λ p. not (p.at == place)) points)
points_elsewhere place points = omega (arith, length-append (points_before place points) (points_after place points), parts points)
  where
    parts : (ps : List Point) → length (points_before place ps) + length (points_after place ps) ≤ length (filter (λ p. not (p.at == place)) ps)
    parts [] = omega arith
    parts (p ∷ ps) = grind (arith, nat_tests, parts ps)
