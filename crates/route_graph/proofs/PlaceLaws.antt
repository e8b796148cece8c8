-- Places in a list: what a place more changes.
use Rattle.std.proofs.Common.{◌≡◌, ℕ, ◌+◌, ◌<◌, ◌⊎◌, inl, inr, Bool, true, false, ◌||◌, cond, eqb, refl, ap, arith, ◌∙◌, sym, subst, List, [], ◌∷◌, ◌++◌, length, take, get_or, set, replicate, append_assoc, length-append}
use Rattle.std.specs.Cmp.{nat_eq_equiv}
use Rattle.std.specs.List.{IsDistinct}
use Rattle.std.proofs.lemmas.Bool.Decides.{nat_tests}
use Rattle.std.proofs.lemmas.List.{take_more_set, length-set, get_or-set_same, get_or-set_other, get_or-replicate, append-nil, length-take-le}
use Rattle.std.proofs.lemmas.List.Folds.{list_any-append}
use Rattle.std.proofs.lemmas.Map.Keys.{IsDistinct-push}
use Rattle.std.proofs.lemmas.Map.Steps.{length-le_from_distinct_below}
use Rattle.sound_laws.proofs.Cases.{by_test}
use Rattle.route_graph.specs.Places.{stands, AreOnce, StartsWith, with_place, IsKept}

pub false_is_true : {P : Type 0} → false ≡ true → P
false_is_true e = absurd (nothing e)
  where
    nothing : false ≡ true → ⊥
    nothing h = cc

pub stands-push : (xs : List ℕ) (t q : ℕ) → stands (xs ++ t ∷ []) q ≡ (stands xs q || eqb q t)
stands-push xs t q = list_any-append (eqb q) xs (t ∷ []) ∙ ap (λ b. stands xs q || b) (last (eqb q t))
  where
    last : (b : Bool) → (b || false) ≡ b
    last true = refl
    last false = refl

pub once-push : (xs : List ℕ) (t : ℕ) → AreOnce xs → stands xs t ≡ false → AreOnce (xs ++ t ∷ [])
once-push xs t once fresh = IsDistinct-push nat_eq_equiv xs t once fresh

-- what stands after one more place
pub stands_more : (xs : List ℕ) (t q : ℕ) → stands (xs ++ t ∷ []) q ≡ true → (stands xs q ≡ true) ⊎ (q ≡ t)
stands_more xs t q e = by_test (stands xs q) (λ h. inl h) (λ h. inr (other h))
  where
    other : stands xs q ≡ false → q ≡ t
    other h = let same : eqb q t ≡ true = sym (ap (λ b. b || eqb q t) h) ∙ sym (stands-push xs t q) ∙ e in grind (arith, nat_tests)

-- of places below n, one that doesn't stand has room
pub room : (xs : List ℕ) (t n : ℕ) → AreOnce xs → ((q : ℕ) → stands xs q ≡ true → q < n) → stands xs t ≡ false → t < n → length xs < n
room xs t n once low fresh here =
    let few = length-le_from_distinct_below (xs ++ t ∷ []) n (once-push xs t once fresh) (λ q e. below q (stands_more xs t q e)) in
    omega (arith, few, length-append xs (t ∷ []))
  where
    below : (q : ℕ) → (stands xs q ≡ true) ⊎ (q ≡ t) → q < n
    below q (inl h) = low q h
    below q (inr e) = omega arith

-- ---- the list and its marks

pub kept_none : IsKept (replicate 64 0) 0 (replicate 64 false)
unfolding IsDistinct
kept_none = record {
  room = refl;
  marks = refl;
  few = omega arith;
  once = tt;
  low = λ t e. false_is_true e;
  marked = λ t h. get_or-replicate 64 t false false h;
}

kept_room : (list : List ℕ) (long : ℕ) (among : List Bool) (t : ℕ) → IsKept list long among → t < 64 → stands (take long list) t ≡ false → long < 64
kept_room list long among t kept here fresh =
    let inside = room (take long list) t 64 kept.once kept.low fresh here in
    omega (arith, length-take-le long list (omega (arith, kept.room, kept.few)))

pub kept_view : (list : List ℕ) (long t : ℕ) → long < length list → take (long + 1) (set list long t) ≡ take long list ++ t ∷ []
kept_view list long t h = take_more_set list long t h

pub kept_push : (list : List ℕ) (long : ℕ) (among : List Bool) (t : ℕ) → IsKept list long among → t < 64 → stands (take long list) t ≡ false →
    IsKept (set list long t) (long + 1) (set among t true)
kept_push list long among t kept here fresh =
    let inside : long < 64 = kept_room list long among t kept here fresh in
    let view : take (long + 1) (set list long t) ≡ take long list ++ t ∷ [] = kept_view list long t (omega (arith, kept.room)) in
    record {
      room = length-set list long t ∙ kept.room;
      marks = length-set among t true ∙ kept.marks;
      few = omega arith;
      once = let K : List ℕ → Type 0 = λ xs. AreOnce xs in subst K (sym view) (once-push (take long list) t kept.once fresh);
      low = λ q e. below q (stands_more (take long list) t q (ap (λ xs. stands xs q) (sym view) ∙ e));
      marked = λ q h. mark q h (by_test (eqb q t) (λ e. inl e) (λ e. inr e)) ∙ sym (stands-push (take long list) t q) ∙ ap (λ xs. stands xs q) (sym view);
    }
  where
    below : (q : ℕ) → (stands (take long list) q ≡ true) ⊎ (q ≡ t) → q < 64
    below q (inl h) = kept.low q h
    below q (inr e) = omega arith

    or_true : (b : Bool) → (b || true) ≡ true
    or_true true = refl
    or_true false = refl

    or_false : (b : Bool) → (b || false) ≡ b
    or_false true = refl
    or_false false = refl

    mark : (q : ℕ) → q < 64 → (eqb q t ≡ true) ⊎ (eqb q t ≡ false) → get_or (set among t true) q false ≡ (stands (take long list) q || eqb q t)
    mark q h (inl e) = let same : q ≡ t = grind (arith, nat_tests) in
        ap (λ i. get_or (set among t true) i false) same ∙ get_or-set_same among t true false (omega (arith, kept.marks)) ∙ sym (ap (λ b. stands (take long list) q || b) e ∙ or_true (stands (take long list) q))
    mark q h (inr e) = let apart : q ≡ t → ⊥ = λ same. grind (arith, nat_tests) in
        get_or-set_other among t q true false apart ∙ kept.marked q h ∙ sym (ap (λ b. stands (take long list) q || b) e ∙ or_false (stands (take long list) q))

pub room_left : (list : List ℕ) (long : ℕ) (among : List Bool) (t : ℕ) → IsKept list long among → t < 64 → stands (take long list) t ≡ false → long < 64
room_left list long among t kept here fresh = kept_room list long among t kept here fresh

-- ---- a list that begins with another

pub starts_same : (xs : List ℕ) → StartsWith xs xs
starts_same xs = ([], sym (append-nil xs))

pub starts_push : (xs first : List ℕ) (t : ℕ) → StartsWith xs first → StartsWith (xs ++ t ∷ []) first
starts_push xs first t h = (h.0 ++ t ∷ [], ap (λ ys. ys ++ t ∷ []) h.1 ∙ append_assoc first h.0 (t ∷ []))

pub starts_then : (zs ys xs : List ℕ) → StartsWith zs ys → StartsWith ys xs → StartsWith zs xs
starts_then zs ys xs h g = (g.0 ++ h.0, h.1 ∙ ap (λ l. l ++ h.0) g.1 ∙ append_assoc xs g.0 h.0)

pub starts_with_place : (xs : List ℕ) (t : ℕ) → StartsWith (with_place xs t) xs
starts_with_place xs t = go (stands xs t)
  where
    go : (b : Bool) → StartsWith (cond b xs (xs ++ t ∷ [])) xs
    go true = starts_same xs
    go false = (t ∷ [], refl)

pub stands_with_place : (xs : List ℕ) (t q : ℕ) → stands (with_place xs t) q ≡ (stands xs q || eqb q t)
stands_with_place xs t q = by_test (stands xs t) there (λ e. ap (λ b. stands (cond b xs (xs ++ t ∷ [])) q) e ∙ stands-push xs t q)
  where
    or_false : (b : Bool) → b ≡ (b || false)
    or_false true = refl
    or_false false = refl

    known : stands xs t ≡ true → (eqb q t ≡ true) ⊎ (eqb q t ≡ false) → stands xs q ≡ (stands xs q || eqb q t)
    known e (inl h) = let same : q ≡ t = grind (arith, nat_tests) in
        let here : stands xs q ≡ true = ap (stands xs) same ∙ e in here ∙ sym (ap (λ b. b || eqb q t) here)
    known e (inr h) = or_false (stands xs q) ∙ ap (λ b. stands xs q || b) (sym h)

    there : stands xs t ≡ true → stands (with_place xs t) q ≡ (stands xs q || eqb q t)
    there e = ap (λ b. stands (cond b xs (xs ++ t ∷ [])) q) e ∙ known e (by_test (eqb q t) (λ h. inl h) (λ h. inr h))
