-- Routes taken once each in an order have their inputs whole when they are reached.
use Rattle.std.proofs.Common.{◌≡◌, ℕ, zero, suc, ◌+◌, ◌<◌, Bool, true, false, ◌||◌, refl, sym, ap, subst, ◌∙◌, arith, List, [], ◌∷◌, ◌++◌, length, Option, Some, None}
use Rattle.std.specs.Prelude.{ℤ, pos, ◌+ℤ◌, slice_get, ◌==◌}
use Rattle.std.proofs.Math.IntN.{+ℤ_comm, +ℤ_assoc, +ℤ_idl}
use Rattle.std.proofs.lemmas.Bool.Decides.{nat_tests}
use Rattle.std.proofs.lemmas.Option.{slice_get-get_or}
use Rattle.sound_model.specs.Numbers.{clip}
use Rattle.sound_model.specs.Routes.{Route, feeds, links, any_solo, fed, fed_by, taken_in, input_here, input_within, route_input}
use Rattle.sound_laws.specs.Desks.{DeeperIsTheSame, OnlyLinksFeed}
use Rattle.route_graph.specs.Order.{IsOrder}
use Rattle.mix_laws.specs.Mixing.{InputsAreFed, OrderSumsAll, OrderMixes, OrderIsWhole, TracksTakeTheirOwn, AlongGoesOn, fed_at, fed_along}
use Rattle.mix_laws.proofs.SumLemmas.{by_test, sum_at, is_in, sum_is_chosen, all_give}

input_step : (routes : List Route) (samples : ℕ → ℕ → ℤ) (x deep to c : ℕ) →
    input_within (suc deep) routes samples x to c ≡ input_here routes samples x (input_within deep routes samples x) to (slice_get routes to) c
unfolding input_within
input_step routes samples x deep to c = refl

pub inputs_are_fed : DeeperIsTheSame → InputsAreFed
inputs_are_fed deeper routes samples x to c none =
    let deep : 1 + length routes ≡ suc (length routes) = omega arith in
    sym (deeper routes samples x 1 to c none) ∙ ap (λ n. input_within n routes samples x to c) deep ∙ input_step routes samples x (length routes) to c

-- ---- the sum along an order

along_is_sum : (routes : List Route) (inputs : ℕ → ℕ → ℤ) (x to channels c : ℕ) (fs : List ℕ) →
    fed_along routes inputs x to channels c fs ≡ sum_at (λ f. fed_at (any_solo routes) x to channels c (inputs f) (slice_get routes f)) fs
along_is_sum routes inputs x to channels c [] = refl
along_is_sum routes inputs x to channels c (f ∷ fs) = ap (λ s. fed_at (any_solo routes) x to channels c (inputs f) (slice_get routes f) +ℤ s) (along_is_sum routes inputs x to channels c fs)

equal_tested : (j k : ℕ) → j ≡ k → (j == k) ≡ true
equal_tested j k e = grind (arith, nat_tests)

or_true : (b : Bool) → (b || true) ≡ true
or_true true = refl
or_true false = refl

is_in_at : (order : List ℕ) (i r : ℕ) → slice_get order i ≡ Some r → is_in order r ≡ true
is_in_at [] i r there = cc
is_in_at (k ∷ ks) zero r there = let same : k ≡ r = cc in rw (equal_tested r k (sym same)) refl
is_in_at (k ∷ ks) (suc i) r there = rw (is_in_at ks i r there) (or_true (r == k))

pub order_sums_all : OrderSumsAll
order_sums_all routes order inputs x to channels c is =
    along_is_sum routes inputs x to channels c order
    ∙ sum_is_chosen g order routes is.once is.places
    ∙ all_give solo x to channels c inputs (is_in order) g 0 routes
    (λ i j e l. stands i j e l)
    (λ i j q e there. gives i j q e there)
  where
    solo : Bool
    solo = any_solo routes

    g : ℕ → ℤ
    g f = fed_at (any_solo routes) x to channels c (inputs f) (slice_get routes f)

    stands : (i j : ℕ) → j ≡ 0 + i → i < length routes → is_in order j ≡ true
    stands i j e l = let h = is.every j (omega (arith, e, l)) in is_in_at order h.0 j (slice_get-get_or order h.0 j h.1 ∙ ap Some h.2)

    gives : (i j : ℕ) (q : Route) → j ≡ 0 + i → slice_get routes i ≡ Some q → g j ≡ fed solo x to channels c q (inputs j)
    gives i j q e there = let at : i ≡ j = omega (arith, e) in
        let K : ℕ → Type 0 = λ k. slice_get routes k ≡ Some q in
        ap (fed_at solo x to channels c (inputs j)) (subst K at there)

-- ---- what comes later gives nothing

along_append : (routes : List Route) (inputs : ℕ → ℕ → ℤ) (x to channels c : ℕ) (front back : List ℕ) →
    fed_along routes inputs x to channels c (front ++ back) ≡ fed_along routes inputs x to channels c front +ℤ fed_along routes inputs x to channels c back
along_append routes inputs x to channels c [] back = sym (+ℤ_idl _)
along_append routes inputs x to channels c (f ∷ fs) back =
    ap (λ s. first +ℤ s) (along_append routes inputs x to channels c fs back) ∙ sym (+ℤ_assoc first (fed_along routes inputs x to channels c fs) (fed_along routes inputs x to channels c back))
  where
    first : ℤ
    first = fed_at (any_solo routes) x to channels c (inputs f) (slice_get routes f)

link_is_feed : (routes : List Route) (f to : ℕ) (q : Route) → slice_get routes f ≡ Some q → links routes f to ≡ feeds q to
link_is_feed [] f to q there = cc
link_is_feed (r ∷ rs) zero to q there = cc
link_is_feed (r ∷ rs) (suc f) to q there = link_is_feed rs f to q there

unlinked_gives_nothing : OnlyLinksFeed → (routes : List Route) (solo : Bool) (x to channels c f : ℕ) (input : ℕ → ℤ) (r : Option Route) → slice_get routes f ≡ r →
    links routes f to ≡ false → fed_at solo x to channels c input r ≡ pos 0
unlinked_gives_nothing only routes solo x to channels c f input None there none = refl
unlinked_gives_nothing only routes solo x to channels c f input (Some q) there none = only solo x to channels c q input (sym (link_is_feed routes f to q there) ∙ none)

none_along : OnlyLinksFeed → (routes : List Route) (inputs : ℕ → ℕ → ℤ) (x to channels c : ℕ) (fs : List ℕ) →
    ((k f : ℕ) → slice_get fs k ≡ Some f → links routes f to ≡ false) → fed_along routes inputs x to channels c fs ≡ pos 0
none_along only routes inputs x to channels c [] none = refl
none_along only routes inputs x to channels c (f ∷ fs) none =
    rw (
      unlinked_gives_nothing only routes (any_solo routes) x to channels c f (inputs f) (slice_get routes f) refl (none 0 f refl),
      none_along only routes inputs x to channels c fs (λ k g at. none (suc k) g at),
    ) refl

past_front : (front back : List ℕ) (i k : ℕ) → i ≡ length front + k → slice_get (front ++ back) i ≡ slice_get back k
past_front [] back i k e = let same : i ≡ k = omega (arith, e) in ap (slice_get back) same
past_front (f ∷ fs) back zero k e = absurd (omega (arith, e))
past_front (f ∷ fs) back (suc i) k e = past_front fs back i k (omega (arith, e))

no_more : (a : ℤ) → a +ℤ pos 0 ≡ a
no_more a = +ℤ_comm a (pos 0) ∙ +ℤ_idl a

pub along_goes_on : AlongGoesOn
along_goes_on routes inputs x to channels c f front =
    along_append routes inputs x to channels c front (f ∷ [])
    ∙ ap (λ s. fed_along routes inputs x to channels c front +ℤ s) (no_more (fed_at (any_solo routes) x to channels c (inputs f) (slice_get routes f)))

-- no link leads back from where a route is reached
none_leads_back : (routes : List Route) (front back : List ℕ) (to : ℕ) → IsOrder routes (front ++ to ∷ back) →
    (k f : ℕ) → slice_get (to ∷ back) k ≡ Some f → links routes f to ≡ false
none_leads_back routes front back to is k f at = by_test (links routes f to)
    (λ l. absurd (omega (
      arith,
      is.feeders_first (length front + k) (length front) f to
          (past_front front (to ∷ back) (length front + k) k refl ∙ at) (past_front front (to ∷ back) (length front) 0 (omega arith)) l,
    )))
    (λ l. l)

bus_is_fed : (routes : List Route) (samples : ℕ → ℕ → ℤ) (x to c : ℕ) (r : Route) → slice_get routes to ≡ Some r → r.track ≡ None →
    input_here routes samples x (route_input routes samples x) to (slice_get routes to) c
    ≡ clip (fed_by (any_solo routes) x to r.channels c (route_input routes samples x) 0 routes)
bus_is_fed routes samples x to c r there bus =
    ap (λ o. input_here routes samples x (route_input routes samples x) to o c) there
    ∙ ap (λ t. taken_in routes samples x (route_input routes samples x) to r.channels t c) bus

pub order_mixes : DeeperIsTheSame → OnlyLinksFeed → OrderMixes
order_mixes deeper only routes front back samples x to c r none is there bus =
    inputs_are_fed deeper routes samples x to c none
    ∙ bus_is_fed routes samples x to c r there bus
    ∙ ap clip (sym (order_sums_all routes (front ++ to ∷ back) inputs x to r.channels c is)
    ∙ along_append routes inputs x to r.channels c front (to ∷ back)
    ∙ ap (λ s. fed_along routes inputs x to r.channels c front +ℤ s) (none_along only routes inputs x to r.channels c (to ∷ back) (none_leads_back routes front back to is))
    ∙ no_more (fed_along routes inputs x to r.channels c front))
  where
    inputs : ℕ → ℕ → ℤ
    inputs = route_input routes samples x

pub order_is_whole : DeeperIsTheSame → OrderIsWhole
order_is_whole deeper routes order samples x to c r none is there bus =
    inputs_are_fed deeper routes samples x to c none
    ∙ bus_is_fed routes samples x to c r there bus
    ∙ ap clip (sym (order_sums_all routes order (route_input routes samples x) x to r.channels c is))

pub tracks_take_their_own : DeeperIsTheSame → TracksTakeTheirOwn
tracks_take_their_own deeper routes samples x f c t q none there own =
    inputs_are_fed deeper routes samples x f c none
    ∙ ap (λ o. input_here routes samples x (route_input routes samples x) f o c) there
    ∙ ap (λ o. taken_in routes samples x (route_input routes samples x) f q.channels o c) own
