-- What the tests of a formed session rest on.
use Rattle.std.proofs.Common.{◌≡◌, ℕ, ◌≤◌, Bool, true, not, ◌&&◌, refl, ap, arith, ◌∙◌, sym, List, [], ◌∷◌, length, map, take, drop, ◌-◌, get_or}
use Rattle.std.specs.Prelude.{IsTrue}
use Rattle.std.specs.List.{list_all}
use Rattle.std.specs.Str.{bytes_eq}
use Rattle.std.proofs.lemmas.List.{take_all}
use Rattle.std.proofs.lemmas.List.Folds.{list_all-map}
use Rattle.session_model.specs.declared.route.Route.{Route}
use Rattle.session_model.specs.declared.session.Session.{Session}
use Rattle.session_model.specs.Lists.{are_apart, each_from}
use Rattle.session_model.specs.Tests.{has_limits, has_names, is_formed_source, is_formed_route, is_formed_track, is_formed}

-- the first name is none of the rest, and those are apart
pub apart_step : (routes : List Route) (first : Route) (n : ℕ) → 1 ≤ length routes → first ≡ get_or routes 0 first → length routes - 1 ≤ n →
    IsTrue (list_all (λ q. not (bytes_eq first.name q.name)) (take n (drop 1 routes))) → IsTrue (are_apart bytes_eq (map (λ q. q.name) (take n (drop 1 routes)))) →
    IsTrue (are_apart bytes_eq (map (λ q. q.name) routes))
apart_step [] first n h it more none rest = absurd (omega arith)
apart_step (q ∷ qs) first n h it more none rest =
    let whole : take n qs ≡ qs = take_all n qs (omega arith) in
    let none_here : list_all (λ y. not (bytes_eq q.name y)) (map (λ r. r.name) qs) ≡ true =
    list_all-map (λ y. not (bytes_eq q.name y)) (λ r. r.name) qs ∙ ap (λ f. list_all (λ r. not (bytes_eq f.name r.name)) qs) (sym it) ∙ ap (list_all (λ r. not (bytes_eq first.name r.name))) (sym whole) ∙ none in
    let rest_here : are_apart bytes_eq (map (λ r. r.name) qs) ≡ true = ap (λ xs. are_apart bytes_eq (map (λ r. r.name) xs)) (sym whole) ∙ rest in
    rw (none_here, rest_here) refl

empty : {X : Type 0} (xs : List X) → length xs ≡ 0 → xs ≡ []
empty [] e = refl
empty (x ∷ xs) e = absurd (omega arith)

-- a session with neither sources nor tracks
pub form_of : (s : Session) → IsTrue (has_limits s) → length s.tracks.items ≡ 0 → length s.sources.items ≡ 0 →
    IsTrue (are_apart bytes_eq (map (λ q. q.name) s.routes.items)) → IsTrue (each_from (is_formed_route s) 0 s.routes.items) → IsTrue (is_formed s)
unfolding is_formed
form_of s limits tracks sources names routes = joined (has_limits s) (has_names s) (list_all is_formed_source s.sources.items)
    (each_from (is_formed_route s) 0 s.routes.items) (each_from (is_formed_track s) 0 s.tracks.items) limits
    (rw names (ap (λ xs. are_apart bytes_eq (map (λ d. d.name) xs) && true) no_sources)) (ap (list_all is_formed_source) no_sources) routes
    (ap (each_from (is_formed_track s) 0) no_tracks)
  where
    no_sources : s.sources.items ≡ []
    no_sources = empty s.sources.items sources

    no_tracks : s.tracks.items ≡ []
    no_tracks = empty s.tracks.items tracks

    joined : (a b c d e : Bool) → a ≡ true → b ≡ true → c ≡ true → d ≡ true → e ≡ true → (a && b && c && d && e) ≡ true
    joined a b c d e h1 h2 h3 h4 h5 = rw (h1, h2, h3, h4, h5) refl
