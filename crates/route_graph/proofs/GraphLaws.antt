-- The routes of a session and their links.
use Rattle.std.proofs.Common.{◌≡◌, ◌==◌, ℕ, zero, suc, ◌+◌, ◌≤◌, ◌<◌, ◌⊎◌, inl, inr, Bool, true, false, ◌||◌, cond, eqb, refl, ap, arith, ◌∙◌, sym, subst, List, [], ◌∷◌, length, map, get_or, Option, Some, None}
use Rattle.std.specs.Prelude.{slice_get, IsSomeAnd, IfSome, All}
use Rattle.std.specs.List.{list_any, count_by}
use Rattle.std.proofs.lemmas.Bool.Decides.{nat_tests}
use Rattle.std.proofs.lemmas.List.Sums.{sum_by-cons}
use Rattle.std.proofs.lemmas.Option.{slice_get_cases, slice_get_read}
use Rattle.sound_model.specs.Routes.{Reaches, by_link, then_on, leads_to, feeds, links}
use Rattle.session_model.specs.declared.route.SendLink.{SendLink}
use Rattle.session_model.specs.declared.route.RouteKind.{RouteKind}
use Rattle.session_model.specs.declared.route.RouteKind.TheVariants.{Track as OfTrack, Bus, Master}
use Rattle.session_model.specs.declared.route.Route.{Route}
use Rattle.session_model.specs.declared.track.Track.{Track}
use Rattle.session_model.specs.declared.session.Session.{Session}
use Rattle.session_model.specs.Formed.{IsFormed, MayFeed, LeadsOn}
use Rattle.session_model.specs.Views.{send_of, route_of, routes_of}
use Rattle.route_graph.specs.Walks.{plain, LinksBelow}
use Rattle.route_graph.proofs.CycleLaws.{links-below}
use Rattle.route_graph.proofs.PlaceLaws.{false_is_true}

-- ---- one route of a list

none_is_some : {P X : Type 0} {x : X} → None ≡ Some x → P
none_is_some {X} {x} e = absurd (nothing e)
  where
    nothing : None ≡ Some x → ⊥
    nothing h = cc

pub at-map : {X Y : Type 0} (g : X → Y) (xs : List X) (i : ℕ) (x : X) → slice_get xs i ≡ Some x → slice_get (map g xs) i ≡ Some (g x)
at-map g [] i x e = none_is_some e
at-map g (y ∷ ys) zero x e = ap (option g) e
  where
    option : {X Y : Type 0} → (X → Y) → Option X → Option Y
    option h None = None
    option h (Some z) = Some (h z)
at-map g (y ∷ ys) (suc i) x e = at-map g ys i x e

links_at_list : (ks : List Track) (qs : List Route) (f : ℕ) (q : Route) → slice_get qs f ≡ Some q → (t : ℕ) → links (map (route_of ks) qs) f t ≡ feeds (plain q) t
links_at_list ks [] f q e t = none_is_some e
links_at_list ks (p ∷ ps) zero q e t = let same : p ≡ q = cc in ap (λ r. feeds (plain r) t) same
links_at_list ks (p ∷ ps) (suc f) q e t = links_at_list ks ps f q e t

-- a route leads where its output and its sends lead
pub links_at : (s : Session) (f : ℕ) (q : Route) → slice_get s.routes.items f ≡ Some q → (t : ℕ) → links (routes_of s) f t ≡ feeds (plain q) t
links_at s f q e t = links_at_list s.tracks.items s.routes.items f q e t

pub length-map : {X Y : Type 0} (g : X → Y) (xs : List X) → length (map g xs) ≡ length xs
length-map g [] = refl
length-map g (x ∷ xs) = ap suc (length-map g xs)

pub as_many : (s : Session) → length (routes_of s) ≡ length s.routes.items
as_many s = length-map (route_of s.tracks.items) s.routes.items

-- ---- links of a formed session lead to routes

pub some_within : {X : Type 0} (P : X → Type 0) (xs : List X) (i : ℕ) → IsSomeAnd (slice_get xs i) P → i < length xs
some_within P [] i h = absurd h
some_within P (x ∷ xs) zero h = omega arith
some_within P (x ∷ xs) (suc i) h = let below : i < length xs = some_within P xs i h in omega arith

output_low : (s : Session) (q : Route) (target : Option ℕ) → IsSomeAnd target (MayFeed s q) → IfSome target (λ to. to < length s.routes.items)
output_low s q None h = tt
output_low s q (Some to) h = some_within (λ next. q.channels ≤ next.channels) s.routes.items to h.wide

leads_low : (s : Session) (q : Route) (kind : RouteKind) → LeadsOn s q kind → IfSome q.target (λ to. to < length s.routes.items)
leads_low s q (OfTrack t) h = output_low s q q.target h
leads_low s q Bus h = output_low s q q.target h
leads_low s q Master h = let K : Option ℕ → Type 0 = λ o. IfSome o (λ to. to < length s.routes.items) in subst K (sym h.target) tt

pub links_low : (s : Session) → IsFormed s → (f : ℕ) (q : Route) → slice_get s.routes.items f ≡ Some q → LinksBelow (length s.routes.items) q
links_low s formed f q e = let route = formed.routes f q e in record {
  output = leads_low s q q.kind route.output;
  sends = λ k d h. some_within (λ next. q.channels ≤ next.channels) s.routes.items (get_or q.sends.items k d).to (route.sends k d h).wide;
}

pub below_more : (low high : ℕ) (q : Route) → low ≤ high → LinksBelow low q → LinksBelow high q
below_more low high q h l = record { output = go q.target l.output; sends = λ k d g. omega (arith, l.sends k d g) }
  where
    go : (target : Option ℕ) → IfSome target (λ to. to < low) → IfSome target (λ to. to < high)
    go None b = tt
    go (Some to) b = omega (arith, b)

either : (a b : Bool) → (a || b) ≡ true → (a ≡ true) ⊎ (b ≡ true)
either true b e = inl refl
either false b e = inr e

sends_low : (high t : ℕ) (sends : List SendLink) → All (λ l. l.to < high) sends → list_any (λ x. x.to == t) (map send_of sends) ≡ true → t < high
sends_low high t [] all e = false_is_true e
sends_low high t (l ∷ ls) all e = go (sends_low high t ls (λ k d h. all (suc k) d (omega (arith, h)))) (either (eqb l.to t) (list_any (λ x. x.to == t) (map send_of ls)) e)
  where
    go : (list_any (λ x. x.to == t) (map send_of ls) ≡ true → t < high) → (eqb l.to t ≡ true) ⊎ (list_any (λ x. x.to == t) (map send_of ls) ≡ true) → t < high
    go again (inl same) = let first : l.to < high = all 0 l (omega arith) in grind (arith, nat_tests)
    go again (inr later) = again later

target_low : (high t : ℕ) (target : Option ℕ) → IfSome target (λ to. to < high) → leads_to t target ≡ true → t < high
target_low high t None h e = false_is_true e
target_low high t (Some r) h e = let low : r < high = h in grind (arith, nat_tests)

pub feeds_low : (high : ℕ) (q : Route) (t : ℕ) → LinksBelow high q → feeds (plain q) t ≡ true → t < high
feeds_low high q t low e = go (either (leads_to t q.target) (list_any (λ x. x.to == t) (map send_of q.sends.items)) e)
  where
    go : (leads_to t q.target ≡ true) ⊎ (list_any (λ x. x.to == t) (map send_of q.sends.items) ≡ true) → t < high
    go (inl h) = target_low high t q.target low.output h
    go (inr h) = sends_low high t q.sends.items low.sends h

pub to_low : (s : Session) → IsFormed s → (f t : ℕ) → links (routes_of s) f t ≡ true → t < length s.routes.items
to_low s formed f t e = go (slice_get_cases s.routes.items f).1
  where
    here : f < length s.routes.items
    here = let below = links-below (routes_of s) f t e in omega (arith, as_many s)

    go : ((q : Route) × (f < length s.routes.items) × (slice_get s.routes.items f ≡ Some q) × (get_or s.routes.items f q ≡ q)) ⊎ ((length s.routes.items ≤ f) × (slice_get s.routes.items f ≡ None)) → t < length s.routes.items
    go (inl w) = feeds_low (length s.routes.items) w.0 t (links_low s formed f w.0 w.2) (sym (links_at s f w.0 w.2 t) ∙ e)
    go (inr w) = absurd (omega (arith, w.0, here))

pub reached_low : (s : Session) → IsFormed s → (f t : ℕ) → Reaches (routes_of s) f t → t < length s.routes.items
reached_low s formed f t (by_link l) = to_low s formed f t l
reached_low s formed f t (then_on {next = g} l rest) = reached_low s formed g t rest

-- ---- a route's sends

abbrev tally : Bool → ℕ
tally b = cond b 1 0

pub any-send : (t : ℕ) (sends : List SendLink) → list_any (λ x. x.to == t) (map send_of sends) ≡ list_any (λ x. x.to == t) sends
any-send t [] = refl
any-send t (l ∷ ls) = ap (λ b. eqb l.to t || b) (any-send t ls)

counted : {X : Type 0} (p : X → Bool) (x : X) (xs : List X) → count_by p (x ∷ xs) ≡ tally (p x) + count_by p xs
counted p x xs = sum_by-cons (λ y. cond (p y) 1 0) x xs

pub count-send : (t : ℕ) (sends : List SendLink) → count_by (λ x. x.to == t) (map send_of sends) ≡ count_by (λ x. x.to == t) sends
count-send t [] = refl
count-send t (l ∷ ls) = counted (λ x. x.to == t) (send_of l) (map send_of ls) ∙ ap (λ n. tally (eqb l.to t) + n) (count-send t ls) ∙ sym (counted (λ x. x.to == t) l ls)

-- the route that was read
pub item_at : (s : Session) (rs : List Route) (i : ℕ) (q : Route) → rs ≡ s.routes.items → i < length rs → q ≡ get_or rs i q → slice_get s.routes.items i ≡ Some q
item_at s rs i q same h it = ap (λ l. slice_get l i) (sym same) ∙ slice_get_read rs (length rs) i q refl h it
