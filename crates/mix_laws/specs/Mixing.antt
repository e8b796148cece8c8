-- How the inputs of routes are whole when the routes are taken in an order.
use Rattle.std.specs.Prelude.{◌≡◌, ℕ, ℤ, pos, ◌+ℤ◌, Bool, List, [], ◌∷◌, ◌++◌, Option, Some, None, slice_get}
use Rattle.sound_model.specs.Numbers.{clip}
use Rattle.sound_model.specs.Routes.{Route, NoCycle, any_solo, fed, fed_by, input_here, route_input}
use Rattle.route_graph.specs.Order.{IsOrder}

-- The input of a route is what it takes in of the inputs of all routes: where no route leads back to itself.
abbrev pub InputsAreFed : Type 0
InputsAreFed = (routes : List Route) (samples : ℕ → ℕ → ℤ) (x to c : ℕ) → NoCycle routes →
    route_input routes samples x to c ≡ input_here routes samples x (route_input routes samples x) to (slice_get routes to) c

-- what a route gives another, where there is one
abbrev pub fed_at : Bool → ℕ → ℕ → ℕ → ℕ → (ℕ → ℤ) → Option Route → ℤ
fed_at solo x to channels c input None = pos 0
fed_at solo x to channels c input (Some q) = fed solo x to channels c q input

-- what the routes at these places give to channel c of one with so many channels, together
abbrev pub fed_along : List Route → (ℕ → ℕ → ℤ) → ℕ → ℕ → ℕ → ℕ → List ℕ → ℤ
fed_along routes inputs x to channels c [] = pos 0
fed_along routes inputs x to channels c (f ∷ fs) =
    fed_at (any_solo routes) x to channels c (inputs f) (slice_get routes f) +ℤ fed_along routes inputs x to channels c fs

-- Along an order the routes give together what they give in their own order.
abbrev pub OrderSumsAll : Type 0
OrderSumsAll = (routes : List Route) (order : List ℕ) (inputs : ℕ → ℕ → ℤ) (x to channels c : ℕ) → IsOrder routes order →
    fed_along routes inputs x to channels c order ≡ fed_by (any_solo routes) x to channels c inputs 0 routes

-- When a bus or the master is reached along an order, what was given by those before it is whole.
abbrev pub OrderMixes : Type 0
OrderMixes = (routes : List Route) (front back : List ℕ) (samples : ℕ → ℕ → ℤ) (x to c : ℕ) (r : Route) → NoCycle routes →
    IsOrder routes (front ++ to ∷ back) → slice_get routes to ≡ Some r → r.track ≡ None →
    route_input routes samples x to c ≡ clip (fed_along routes (route_input routes samples x) x to r.channels c front)

-- Where all routes of an order are done, the input of a bus or the master is whole.
abbrev pub OrderIsWhole : Type 0
OrderIsWhole = (routes : List Route) (order : List ℕ) (samples : ℕ → ℕ → ℤ) (x to c : ℕ) (r : Route) → NoCycle routes → IsOrder routes order →
    slice_get routes to ≡ Some r → r.track ≡ None →
    route_input routes samples x to c ≡ clip (fed_along routes (route_input routes samples x) x to r.channels c order)

-- The input of a track's route is the track's own sample.
abbrev pub TracksTakeTheirOwn : Type 0
TracksTakeTheirOwn = (routes : List Route) (samples : ℕ → ℕ → ℤ) (x f c t : ℕ) (q : Route) → NoCycle routes →
    slice_get routes f ≡ Some q → q.track ≡ Some t → route_input routes samples x f c ≡ samples t c

-- One more route along an order gives what it gives.
abbrev pub AlongGoesOn : Type 0
AlongGoesOn = (routes : List Route) (inputs : ℕ → ℕ → ℤ) (x to channels c f : ℕ) (front : List ℕ) →
    fed_along routes inputs x to channels c (front ++ f ∷ []) ≡
    fed_along routes inputs x to channels c front +ℤ fed_at (any_solo routes) x to channels c (inputs f) (slice_get routes f)
