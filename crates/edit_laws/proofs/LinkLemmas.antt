-- Which routes lead to which after a change: no cycle comes.
use Rattle.std.proofs.Common.{◌≡◌, inl, inr, ℕ, zero, suc, ◌<◌, ◌⊎◌, List, [], ◌∷◌, length, map, refl, sym, ap, ◌∙◌, arith}
use Rattle.std.specs.Prelude.{Bool, true, false, not, ◌||◌, ◌==◌, if◌then◌else◌, Some, slice_get}
use Rattle.std.specs.Option.{option_map_or}
use Rattle.std.specs.List.{list_any}
use Rattle.std.proofs.lemmas.Bool.{eqb-true, eq-eqb, or_parts, or_cases, or_left, or_right, both_ways}
use Rattle.std.proofs.lemmas.List.{length-map}
use Rattle.sound_model.specs.Routes as sound
use Rattle.sound_model.specs.Routes.{Reaches, by_link, then_on, NoCycle, links, feeds, leads_to}
use Rattle.sound_model.specs.Reach.{reaches}
use Rattle.sound_laws.proofs.ReachLaws.{fewer_links_no_cycle}
use Rattle.route_graph.specs.Cycles as cycles
use Rattle.route_graph.specs.Cycles.{Closes, with_link}
use Rattle.route_graph.proofs.CycleLaws.{reaching_is_tested}
use Rattle.route_graph.proofs.ClosingLaws.{open_links_make_no_cycle}
use Rattle.session_model.specs.declared.route.SendLink.{SendLink}
use Rattle.session_model.specs.declared.route.Route.{Route}
use Rattle.session_model.specs.declared.track.Track.{Track}
use Rattle.session_model.specs.declared.session.Session.{Session}
use Rattle.session_model.specs.Views.{route_of, routes_of, send_of}
use Rattle.engine_model.specs.Changes.{changed_at, with_send, without_send, sending}
use Rattle.engine_model.specs.Commands.{closes}

-- a route leads to another, whatever tracks there are
abbrev pub feeds_on : ℕ → Route → Bool
feeds_on to q = feeds (route_of [] q) to

links_are : (tracks : List Track) (qs : List Route) (from to : ℕ) → links (map (route_of tracks) qs) from to ≡ option_map_or (feeds_on to) (slice_get qs from) false
links_are tracks [] from to = refl
links_are tracks (q ∷ qs) zero to = refl
links_are tracks (q ∷ qs) (suc from) to = links_are tracks qs from to

-- ---- where no link is new

-- each link of the changed list is one of the old
old_links : (f : Route → Route) (r : ℕ) (qs : List Route) (from to : ℕ) → ((q : Route) → feeds_on to (f q) ≡ true → feeds_on to q ≡ true) →
    option_map_or (feeds_on to) (slice_get (changed_at f r qs) from) false ≡ true → option_map_or (feeds_on to) (slice_get qs from) false ≡ true
old_links f r [] from to old here = here
old_links f zero (q ∷ qs) zero to old here = old q here
old_links f zero (q ∷ qs) (suc from) to old here = here
old_links f (suc r) (q ∷ qs) zero to old here = here
old_links f (suc r) (q ∷ qs) (suc from) to old here = old_links f r qs from to old here

pub no_new_cycle : (s z : Session) → ((from to : ℕ) → option_map_or (feeds_on to) (slice_get z.routes.items from) false ≡ true →
    option_map_or (feeds_on to) (slice_get s.routes.items from) false ≡ true) →
    NoCycle (routes_of s) → NoCycle (routes_of z)
no_new_cycle s z old none = fewer_links_no_cycle (routes_of z) (routes_of s)
    (λ from to here. links_are s.tracks.items s.routes.items from to ∙ old from to (sym (links_are z.tracks.items z.routes.items from to) ∙ here)) none

pub no_cycle_left : (s z : Session) (f : Route → Route) (r : ℕ) → z.routes.items ≡ changed_at f r s.routes.items → ((q : Route) (to : ℕ) → feeds_on to (f q) ≡ true → feeds_on to q ≡ true) →
    NoCycle (routes_of s) → NoCycle (routes_of z)
no_cycle_left s z f r are old none = no_new_cycle s z
    (λ from to here. old_links f r s.routes.items from to (λ q. old q to) (ap (λ qs. option_map_or (feeds_on to) (slice_get qs from) false) (sym are) ∙ here)) none

-- ---- where one link is new

-- a link of the routes with one more
more_links : (rs : List sound.Route) (r to from next : ℕ) → (links rs from next ≡ true) ⊎ ((from ≡ r) × (next ≡ to) × (r < length rs)) → links (with_link rs r to) from next ≡ true
more_links [] r to from next (inl old) = old
more_links [] r to from next (inr new) = absurd (omega (arith, new.2))
more_links (q ∷ rs) zero to zero next (inl old) = elim (or_cases (leads_to next q.target) (list_any (λ x. x.to == next) q.sends) old) [
  | inl target ↦ or_left (leads_to next q.target) (list_any (λ (x : sound.Send). x.to == next) (cycles.with_send q to).sends) target
  | inr send ↦ or_right (leads_to next q.target) (list_any (λ (x : sound.Send). x.to == next) (cycles.with_send q to).sends)
      (or_right (to == next) (list_any (λ (x : sound.Send). x.to == next) q.sends) send)
]
more_links (q ∷ rs) zero to zero next (inr new) = or_right (leads_to next q.target) (list_any (λ (x : sound.Send). x.to == next) (cycles.with_send q to).sends)
    (or_left (to == next) (list_any (λ (x : sound.Send). x.to == next) q.sends) (eq-eqb to next (sym new.1)))
more_links (q ∷ rs) zero to (suc from) next (inl old) = old
more_links (q ∷ rs) zero to (suc from) next (inr new) = absurd (omega (arith, new.0))
more_links (q ∷ rs) (suc r) to zero next (inl old) = old
more_links (q ∷ rs) (suc r) to zero next (inr new) = absurd (omega (arith, new.0))
more_links (q ∷ rs) (suc r) to (suc from) next (inl old) = more_links rs r to from next (inl old)
more_links (q ∷ rs) (suc r) to (suc from) next (inr new) = more_links rs r to from next (inr (omega (arith, new.0), new.1, omega (arith, new.2)))

-- a link of the changed list is old, or the new one
new_links : (f : Route → Route) (r to : ℕ) (qs : List Route) (from next : ℕ) → ((q : Route) → feeds_on next (f q) ≡ true → (feeds_on next q ≡ true) ⊎ (next ≡ to)) →
    option_map_or (feeds_on next) (slice_get (changed_at f r qs) from) false ≡ true →
    (option_map_or (feeds_on next) (slice_get qs from) false ≡ true) ⊎ ((from ≡ r) × (next ≡ to) × (r < length qs))
new_links f r to [] from next new here = inl here
new_links f zero to (q ∷ qs) zero next new here = elim (new q here) [
  | inl old ↦ inl old
  | inr is ↦ inr (refl, is, omega arith)
]
new_links f zero to (q ∷ qs) (suc from) next new here = inl here
new_links f (suc r) to (q ∷ qs) zero next new here = inl here
new_links f (suc r) to (q ∷ qs) (suc from) next new here = elim (new_links f r to qs from next new here) [
  | inl old ↦ inl old
  | inr is ↦ inr (ap (λ n. suc n) is.0, is.1, omega (arith, is.2))
]

closes_none : (s : Session) (r to : ℕ) → closes s r to ≡ false → Closes (routes_of s) r to → ⊥
closes_none s r to none (inl same) = both_ways (r == to) (or_parts (r == to) (reaches (routes_of s) to r) none).0 (eq-eqb r to same)
closes_none s r to none (inr back) = both_ways (reaches (routes_of s) to r) (or_parts (r == to) (reaches (routes_of s) to r) none).1 ((reaching_is_tested (routes_of s) to r).1 back)

pub no_cycle_more : (s z : Session) (f : Route → Route) (r to : ℕ) → z.routes.items ≡ changed_at f r s.routes.items →
    ((q : Route) (next : ℕ) → feeds_on next (f q) ≡ true → (feeds_on next q ≡ true) ⊎ (next ≡ to)) → closes s r to ≡ false → NoCycle (routes_of s) → NoCycle (routes_of z)
no_cycle_more s z f r to are new open_still none = fewer_links_no_cycle (routes_of z) (with_link (routes_of s) r to) (λ from next here.
    more_links (routes_of s) r to from next (by_old from next (new_links f r to s.routes.items from next (λ q. new q next)
    (ap (λ qs. option_map_or (feeds_on next) (slice_get qs from) false) (sym are) ∙ sym (links_are z.tracks.items z.routes.items from next) ∙ here))))
    (open_links_make_no_cycle (routes_of s) r to none (closes_none s r to open_still))
  where
    by_old : (from next : ℕ) → (option_map_or (feeds_on next) (slice_get s.routes.items from) false ≡ true) ⊎ ((from ≡ r) × (next ≡ to) × (r < length s.routes.items)) →
        (links (routes_of s) from next ≡ true) ⊎ ((from ≡ r) × (next ≡ to) × (r < length (routes_of s)))
    by_old from next (inl old) = inl (links_are s.tracks.items s.routes.items from next ∙ old)
    by_old from next (inr is) = inr (is.0, is.1, omega (arith, is.2, length-map s.routes.items (route_of s.tracks.items)))

-- ---- the links of a route with other sends

sends_with : (next : ℕ) (link : SendLink) (ls : List SendLink) → list_any (λ x. x.to == next) (map send_of (with_send link ls)) ≡ true →
    (list_any (λ x. x.to == next) (map send_of ls) ≡ true) ⊎ (next ≡ link.to)
sends_with next link [] here = inr (sym (eqb-true link.to next (first_only here)))
  where
    first_only : (link.to == next) || false ≡ true → (link.to == next) ≡ true
    first_only e = by_or (link.to == next) e where
      by_or : (b : Bool) → b || false ≡ true → b ≡ true
      by_or true e = refl
      by_or false e = e
sends_with next link (l ∷ ls) here = by_place (λ e. sends_with next link ls e) (l.to == link.to) here
  where
    by_place : (list_any (λ x. x.to == next) (map send_of (with_send link ls)) ≡ true → (list_any (λ x. x.to == next) (map send_of ls) ≡ true) ⊎ (next ≡ link.to)) → (b : Bool) → list_any
        (λ x. x.to == next) (map send_of (if b then link ∷ ls else l ∷ with_send link ls)) ≡ true →
        ((l.to == next) || list_any (λ (x : sound.Send). x.to == next) (map send_of ls) ≡ true) ⊎ (next ≡ link.to)
    by_place deeper true e = elim (or_cases (link.to == next) (list_any (λ (x : sound.Send). x.to == next) (map send_of ls)) e) [
      | inl this ↦ inr (sym (eqb-true link.to next this))
      | inr other ↦ inl (or_right (l.to == next) (list_any (λ (x : sound.Send). x.to == next) (map send_of ls)) other)
    ]
    by_place deeper false e = elim (or_cases (l.to == next) (list_any (λ (x : sound.Send). x.to == next) (map send_of (with_send link ls))) e) [
      | inl first ↦ inl (or_left (l.to == next) (list_any (λ (x : sound.Send). x.to == next) (map send_of ls)) first)
      | inr rest ↦ elim (deeper rest) [
        | inl old ↦ inl (or_right (l.to == next) (list_any (λ (x : sound.Send). x.to == next) (map send_of ls)) old)
        | inr new ↦ inr new
      ]
    ]

sends_without : (next to : ℕ) (ls : List SendLink) → list_any (λ x. x.to == next) (map send_of (without_send to ls)) ≡ true → list_any (λ x. x.to == next) (map send_of ls) ≡ true
sends_without next to [] here = here
sends_without next to (l ∷ ls) here = by_place (λ e. sends_without next to ls e) (not (l.to == to)) here
  where
    by_place : (list_any (λ x. x.to == next) (map send_of (without_send to ls)) ≡ true → list_any (λ x. x.to == next) (map send_of ls) ≡ true) → (b : Bool) → list_any
        (λ x. x.to == next) (map send_of (if b then l ∷ without_send to ls else without_send to ls)) ≡ true →
        (l.to == next) || list_any (λ (x : sound.Send). x.to == next) (map send_of ls) ≡ true
    by_place deeper true e = elim (or_cases (l.to == next) (list_any (λ (x : sound.Send). x.to == next) (map send_of (without_send to ls))) e) [
      | inl first ↦ or_left (l.to == next) (list_any (λ (x : sound.Send). x.to == next) (map send_of ls)) first
      | inr rest ↦ or_right (l.to == next) (list_any (λ (x : sound.Send). x.to == next) (map send_of ls)) (deeper rest)
    ]
    by_place deeper false e = or_right (l.to == next) (list_any (λ (x : sound.Send). x.to == next) (map send_of ls)) (deeper e)

pub feeds_with : (link : SendLink) (q : Route) (next : ℕ) → feeds_on next (sending (with_send link) q) ≡ true → (feeds_on next q ≡ true) ⊎ (next ≡ link.to)
feeds_with link q next here = elim (or_cases (leads_to next q.target) (list_any (λ (x : sound.Send). x.to == next) (map send_of (with_send link q.sends.items))) here) [
  | inl target ↦ inl (or_left (leads_to next q.target) (list_any (λ (x : sound.Send). x.to == next) (map send_of q.sends.items)) target)
  | inr send ↦ elim (sends_with next link q.sends.items send) [
    | inl old ↦ inl (or_right (leads_to next q.target) (list_any (λ (x : sound.Send). x.to == next) (map send_of q.sends.items)) old)
    | inr new ↦ inr new
  ]
]

pub feeds_without : (to : ℕ) (q : Route) (next : ℕ) → feeds_on next (sending (without_send to) q) ≡ true → feeds_on next q ≡ true
feeds_without to q next here = elim (or_cases (leads_to next q.target) (list_any (λ (x : sound.Send). x.to == next) (map send_of (without_send to q.sends.items))) here) [
  | inl target ↦ or_left (leads_to next q.target) (list_any (λ (x : sound.Send). x.to == next) (map send_of q.sends.items)) target
  | inr send ↦ or_right (leads_to next q.target) (list_any (λ (x : sound.Send). x.to == next) (map send_of q.sends.items)) (sends_without next to q.sends.items send)
]

pub feeds_target : (to : ℕ) (q : Route) (next : ℕ) → feeds_on next (record q { target = Some to }) ≡ true → (feeds_on next q ≡ true) ⊎ (next ≡ to)
feeds_target to q next here = elim (or_cases (to == next) (list_any (λ (x : sound.Send). x.to == next) (map send_of q.sends.items)) here) [
  | inl target ↦ inr (sym (eqb-true to next target))
  | inr send ↦ inl (or_right (leads_to next q.target) (list_any (λ (x : sound.Send). x.to == next) (map send_of q.sends.items)) send)
]
