-- What scans and walks find in a session is what stands there.
use Rattle.std.proofs.Common.{◌≡◌, ◌↔◌, ℕ, suc, Bool, true, false, not, ◌||◌, ◌==◌, List, [], ◌∷◌, length, refl, sym, ap, ◌∙◌, inl, inr, eq-eqb}
use Rattle.std.specs.Prelude.{Option, Some, IsTrue, filter, find, count_by, slice_get}
use Rattle.std.specs.Option.{option_map, option_map_or}
use Rattle.std.specs.List.{list_any}
use Rattle.std.proofs.lemmas.Bool.{eqb-true, or_cases, or_left, or_right, cases_Bool}
use Rattle.std.proofs.lemmas.List.Sums.{length-filter}
use Rattle.sound_model.specs.Reach.{reaches}
use Rattle.ses_units.specs.declared.point.Point.{Point}
use Rattle.ses_units.specs.Point.{points_of}
use Rattle.session_model.specs.declared.region.Region.{Region}
use Rattle.session_model.specs.declared.route.SendLink.{SendLink}
use Rattle.session_model.specs.declared.route.Route.{Route}
use Rattle.session_model.specs.declared.session.Session.{Session}
use Rattle.session_model.specs.Region.{region_of, regions_of}
use Rattle.session_model.specs.Playlist.{has_id}
use Rattle.session_model.specs.Views.{routes_of, track_regions}
use Rattle.engine_model.specs.Refusals.{NoRegion, found}
use Rattle.engine_model.specs.Commands.{region_at, closes, other_points, has_point, other_sends}
use Rattle.route_graph.specs.Cycles.{Closes}
use Rattle.route_graph.proofs.CycleLaws.{reaching_is_tested}

-- ---- points and sends

points_left : (place : ℕ) (points : List Point) → length (filter (λ p. not (p.at == place)) points) ≡ length (filter (λ p. not (p.at == place)) (points_of points))
points_left place [] = refl
points_left place (p ∷ points) = elim (cases_Bool (p.at == place)) [
  | inl there ↦ rw there (points_left place points)
  | inr elsewhere ↦ rw elsewhere (ap suc (points_left place points))
]

point_there : (place : ℕ) (points : List Point) → list_any (λ p. p.at == place) points ≡ list_any (λ p. p.at == place) (points_of points)
point_there place [] = refl
point_there place (p ∷ points) = ap (λ b. p.at == place || b) (point_there place points)

pub other_points_is : (s : Session) (r place n : ℕ) (q : Route) (points : List Point) → slice_get s.routes.items r ≡ Some q → points_of points ≡ q.lane →
    n ≡ count_by (λ p. not (p.at == place)) points → n ≡ other_points s r place
other_points_is s r place n q points here seen is = is ∙ sym (length-filter (λ p. not (p.at == place)) points) ∙ points_left place points
    ∙ ap (λ ps. length (filter (λ p. not (p.at == place)) ps)) seen
    ∙ sym (ap (λ o. option_map_or (λ x. length (filter (λ p. not (p.at == place)) x.lane)) o 0) here)

pub has_point_is : (s : Session) (r place : ℕ) (b : Bool) (q : Route) (points : List Point) → slice_get s.routes.items r ≡ Some q → points_of points ≡ q.lane →
    b ≡ list_any (λ p. p.at == place) points → b ≡ has_point s r place
has_point_is s r place b q points here seen is = is ∙ point_there place points ∙ ap (list_any (λ p. p.at == place)) seen
    ∙ sym (ap (λ o. option_map_or (λ x. list_any (λ p. p.at == place) x.lane) o false) here)

pub other_sends_is : (s : Session) (r to n : ℕ) (q : Route) (sends : List SendLink) → slice_get s.routes.items r ≡ Some q → sends ≡ q.sends.items →
    n ≡ count_by (λ l. not (l.to == to)) sends → n ≡ other_sends s r to
other_sends_is s r to n q sends here seen is = is ∙ sym (length-filter (λ l. not (l.to == to)) sends) ∙ ap (λ ls. length (filter (λ l. not (l.to == to)) ls)) seen
    ∙ sym (ap (λ o. option_map_or (λ x. length (filter (λ l. not (l.to == to)) x.sends.items)) o 0) here)

-- ---- regions

find_seen : (id : ℕ) (regions : List Region) → option_map region_of (find (λ r. r.id == id) regions) ≡ find (has_id id) (regions_of regions)
find_seen id [] = refl
find_seen id (r ∷ regions) = elim (cases_Bool (r.id == id)) [
  | inl here ↦ rw here refl
  | inr other ↦ rw other (find_seen id regions)
]

pub region_at_is : (s : Session) (t id : ℕ) (o : Option Region) (regions : List Region) → o ≡ find (λ r. r.id == id) regions → regions_of regions ≡ track_regions s t →
    found (NoRegion id) (option_map region_of o) ≡ region_at s t id
region_at_is s t id o regions is seen = ap (λ x. found (NoRegion id) (option_map region_of x)) is ∙ ap (found (NoRegion id)) (find_seen id regions)
    ∙ ap (λ rs. found (NoRegion id) (find (has_id id) rs)) seen

-- ---- links

same_tests : (b c : Bool) (P : Type 0) → IsTrue b ↔ P → IsTrue c ↔ P → b ≡ c
same_tests true true P is also = refl
same_tests true false P is also = sym (also.1 (is.0 refl))
same_tests false true P is also = is.1 (also.0 refl)
same_tests false false P is also = refl

closing : (s : Session) (from to : ℕ) → IsTrue (closes s from to) → Closes (routes_of s) from to
closing s from to is = elim (or_cases (from == to) (reaches (routes_of s) to from) is) [
  | inl same ↦ inl (eqb-true from to same)
  | inr back ↦ inr ((reaching_is_tested (routes_of s) to from).0 back)
]

closed : (s : Session) (from to : ℕ) → Closes (routes_of s) from to → IsTrue (closes s from to)
closed s from to (inl same) = or_left (from == to) (reaches (routes_of s) to from) (eq-eqb from to same)
closed s from to (inr back) = or_right (from == to) (reaches (routes_of s) to from) ((reaching_is_tested (routes_of s) to from).1 back)

-- the walk finds what the test says
pub closes_is : (s : Session) (from to : ℕ) (b : Bool) → IsTrue b ↔ Closes (routes_of s) from to → b ≡ closes s from to
closes_is s from to b is = same_tests b (closes s from to) (Closes (routes_of s) from to) is (closing s from to, closed s from to)
