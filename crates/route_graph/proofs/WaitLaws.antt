-- The links that wait: those of routes that aren't done.
use Rattle.std.proofs.Common.{◌≡◌, ◌==◌, ℕ, zero, suc, ◌+◌, ◌≤◌, ◌<◌, Bool, true, false, ◌||◌, cond, eqb, refl, ap, arith, ◌∙◌, sym, List, [], ◌∷◌, ◌++◌, length, Some, None}
use Rattle.std.specs.Prelude.{slice_get, if◌then◌else◌}
use Rattle.std.specs.List.{list_any, count_by}
use Rattle.std.proofs.lemmas.Bool.Decides.{nat_tests}
use Rattle.std.proofs.lemmas.List.Sums.{sum_by-cons, count_by-le-length}
use Rattle.sound_laws.proofs.Cases.{by_test}
use Rattle.sound_model.specs.Routes.{Route, leads_to, feeds, links}
use Rattle.route_graph.specs.Places.{stands}
use Rattle.route_graph.specs.Walks.{ways, waiting}
use Rattle.route_graph.proofs.PlaceLaws.{false_is_true, stands-push}

-- ---- the number of ways, and whether there is one

abbrev pub tally : Bool → ℕ
tally b = if b then 1 else 0

pub one_if : (b : Bool) → b ≡ true → tally b ≡ 1
one_if true e = refl
one_if false e = false_is_true e

pub none_if : (b : Bool) → b ≡ false → tally b ≡ 0
none_if true e = absurd (nothing e)
  where
    nothing : true ≡ false → ⊥
    nothing h = cc
none_if false e = refl

counted : {X : Type 0} (p : X → Bool) (x : X) (xs : List X) → count_by p (x ∷ xs) ≡ tally (p x) + count_by p xs
counted p x xs = sum_by-cons (λ y. cond (p y) 1 0) x xs

none_counted : {X : Type 0} (p : X → Bool) (xs : List X) → list_any p xs ≡ false → count_by p xs ≡ 0
none_counted p [] e = refl
none_counted p (x ∷ xs) e = by_test (p x)
    (λ h. false_is_true (sym (sym (ap (λ b. b || list_any p xs) h) ∙ e)))
    (λ h. let rest = none_counted p xs (sym (ap (λ b. b || list_any p xs) h) ∙ e) in omega (arith, none_if (p x) h, counted p x xs))

some_counted : {X : Type 0} (p : X → Bool) (xs : List X) → list_any p xs ≡ true → 0 < count_by p xs
some_counted p [] e = false_is_true e
some_counted p (x ∷ xs) e = by_test (p x)
    (λ h. omega (arith, one_if (p x) h, counted p x xs))
    (λ h. let rest = some_counted p xs (sym (ap (λ b. b || list_any p xs) h) ∙ e) in omega (arith, counted p x xs))

pub no_way : (q : Route) (t : ℕ) → feeds q t ≡ false → ways q t ≡ 0
no_way q t e = by_test (leads_to t q.target)
    (λ h. false_is_true (sym (sym (ap (λ b. b || list_any (λ s. s.to == t) q.sends) h) ∙ e)))
    (λ h. let none = none_counted (λ s. s.to == t) q.sends (sym (ap (λ b. b || list_any (λ s. s.to == t) q.sends) h) ∙ e) in
    omega (arith, none_if (leads_to t q.target) h))

pub some_way : (q : Route) (t : ℕ) → feeds q t ≡ true → 0 < ways q t
some_way q t e = by_test (leads_to t q.target)
    (λ h. omega (arith, one_if (leads_to t q.target) h))
    (λ h. let some = some_counted (λ s. s.to == t) q.sends (sym (ap (λ b. b || list_any (λ s. s.to == t) q.sends) h) ∙ e) in omega arith)

pub few_ways : (q : Route) (t n : ℕ) → length q.sends ≤ n → ways q t ≤ n + 1
few_ways q t n h = by_test (leads_to t q.target)
    (λ e. omega (arith, one_if (leads_to t q.target) e, count_by-le-length (λ s. s.to == t) q.sends))
    (λ e. omega (arith, none_if (leads_to t q.target) e, count_by-le-length (λ s. s.to == t) q.sends))

-- ---- what waits

pub waiting-none : (f : ℕ) (done : List ℕ) (t : ℕ) → waiting f [] done t ≡ 0
unfolding waiting
waiting-none f done t = refl

waiting-step : (f : ℕ) (q : Route) (qs : List Route) (done : List ℕ) (t : ℕ) →
    waiting f (q ∷ qs) done t ≡ cond (stands done f) 0 (ways q t) + waiting (suc f) qs done t
unfolding waiting
waiting-step f q qs done t = refl

-- where nothing waits, all that lead there are done
pub all_done : (f : ℕ) (qs : List Route) (done : List ℕ) (t : ℕ) → waiting f qs done t ≡ 0 → (i g : ℕ) → f + i ≡ g → links qs i t ≡ true → stands done g ≡ true
all_done f [] done t e i g at l = false_is_true l
all_done f (q ∷ qs) done t e zero g at l = by_test (stands done g) (λ h. h) none
  where
    none : stands done g ≡ false → stands done g ≡ true
    none h = let here : f ≡ g = omega arith in let off : cond (stands done f) 0 (ways q t) ≡ ways q t = ap (λ x. cond (stands done x) 0 (ways q t)) here ∙ ap (λ b. cond b 0 (ways q t)) h in
        absurd (omega (arith, some_way q t l, waiting-step f q qs done t))
all_done f (q ∷ qs) done t e (suc i) g at l = all_done (suc f) qs done t (omega (arith, waiting-step f q qs done t)) i g (omega arith) l

-- where something waits, one that leads there isn't done
pub one_undone : (f : ℕ) (qs : List Route) (done : List ℕ) (t : ℕ) → 0 < waiting f qs done t → (i : ℕ) × (stands done (f + i) ≡ false) × (links qs i t ≡ true)
one_undone f [] done t h = absurd (omega (arith, waiting-none f done t))
one_undone f (q ∷ qs) done t h = by_test (stands done f)
    (λ e. let off : cond (stands done f) 0 (ways q t) ≡ 0 = rw e refl in later (one_undone (suc f) qs done t (omega (arith, waiting-step f q qs done t))))
    (λ e. by_test (feeds q t)
    (λ l. (0, ap (stands done) zero_more ∙ e, l))
    (λ l. let off : cond (stands done f) 0 (ways q t) ≡ ways q t = rw e refl in
    later (one_undone (suc f) qs done t (omega (arith, no_way q t l, waiting-step f q qs done t)))))
  where
    zero_more : f + 0 ≡ f
    zero_more = omega arith

    later : ((i : ℕ) × (stands done (suc f + i) ≡ false) × (links qs i t ≡ true)) → (i : ℕ) × (stands done (f + i) ≡ false) × (links (q ∷ qs) i t ≡ true)
    later w = let same : f + suc w.0 ≡ suc f + w.0 = omega arith in (suc w.0, ap (stands done) same ∙ w.1, w.2)

-- what stands before those counted changes nothing
waiting_apart : (f : ℕ) (qs : List Route) (done : List ℕ) (g t : ℕ) → g < f → waiting f qs (done ++ g ∷ []) t ≡ waiting f qs done t
waiting_apart f [] done g t h = waiting-none f (done ++ g ∷ []) t ∙ sym (waiting-none f done t)
waiting_apart f (q ∷ qs) done g t h =
    let off : eqb f g ≡ false = grind (arith, nat_tests) in
    let same : stands (done ++ g ∷ []) f ≡ stands done f = stands-push done g f ∙ ap (λ b. stands done f || b) off ∙ or_false (stands done f) in
    let rest = waiting_apart (suc f) qs done g t (omega arith) in
    waiting-step f q qs (done ++ g ∷ []) t ∙ ap (λ b. cond b 0 (ways q t) + waiting (suc f) qs (done ++ g ∷ []) t) same
    ∙ ap (λ n. cond (stands done f) 0 (ways q t) + n) rest ∙ sym (waiting-step f q qs done t)
  where
    or_false : (b : Bool) → (b || false) ≡ b
    or_false true = refl
    or_false false = refl

-- one more that is done waits no longer
pub one_more_done : (f : ℕ) (qs : List Route) (done : List ℕ) (i g t : ℕ) (q : Route) → f + i ≡ g → slice_get qs i ≡ Some q → stands done g ≡ false →
    waiting f qs (done ++ g ∷ []) t + ways q t ≡ waiting f qs done t
one_more_done f [] done i g t q at e fresh = absurd (nothing e)
  where
    nothing : None ≡ Some q → ⊥
    nothing h = cc
one_more_done f (p ∷ ps) done zero g t q at e fresh =
    let here : f ≡ g = omega arith in let same : p ≡ q = cc in
    let yes : eqb f g ≡ true = grind (arith, nat_tests) in
    let now : stands (done ++ g ∷ []) f ≡ true = stands-push done g f ∙ ap (λ b. stands done f || b) yes ∙ or_true (stands done f) in
    let before : stands done f ≡ false = ap (stands done) here ∙ fresh in
    let rest = waiting_apart (suc f) ps done g t (omega arith) in
    let first : cond (stands (done ++ g ∷ []) f) 0 (ways p t) ≡ 0 = rw now refl in
    let second : cond (stands done f) 0 (ways p t) ≡ ways q t = rw before (ap (λ r. ways r t) same) in
    omega (arith, waiting-step f p ps (done ++ g ∷ []) t, waiting-step f p ps done t)
  where
    or_true : (b : Bool) → (b || true) ≡ true
    or_true true = refl
    or_true false = refl
one_more_done f (p ∷ ps) done (suc i) g t q at e fresh =
    let off : eqb f g ≡ false = grind (arith, nat_tests) in
    let same : stands (done ++ g ∷ []) f ≡ stands done f = stands-push done g f ∙ ap (λ b. stands done f || b) off ∙ or_false (stands done f) in
    let head : cond (stands (done ++ g ∷ []) f) 0 (ways p t) ≡ cond (stands done f) 0 (ways p t) = ap (λ b. cond b 0 (ways p t)) same in
    let rest = one_more_done (suc f) ps done i g t q (omega arith) e fresh in
    omega (arith, waiting-step f p ps (done ++ g ∷ []) t, waiting-step f p ps done t)
  where
    or_false : (b : Bool) → (b || false) ≡ b
    or_false true = refl
    or_false false = refl

-- one more route at the end
pub waiting_more : (f : ℕ) (qs : List Route) (q : Route) (t : ℕ) → waiting f (qs ++ q ∷ []) [] t ≡ waiting f qs [] t + ways q t
waiting_more f [] q t = omega (arith, waiting-step f q [] [] t, waiting-none f [] t, waiting-none (suc f) [] t)
waiting_more f (p ∷ ps) q t = omega (arith, waiting-step f p (ps ++ q ∷ []) [] t, waiting-step f p ps [] t, waiting_more (suc f) ps q t)
