-- A made session has the rooms that reading gives its lists.
use Rattle.std.proofs.Common.{◌≡◌, ℕ, refl, ap, ◌∙◌, List, [], ◌∷◌, ◌++◌, map}
use Rattle.std.proofs.lemmas.List.{map-append}
use Rattle.std.specs.List.{range_with_len}
use Rattle.session_model.specs.declared.route.Route.{Route}
use Rattle.made_session.specs.Each.{each_below, listed}
use Rattle.made_session.specs.Made.{made_session, master, route, route_items, track_route, track_routes, tracks}
use Rattle.session_text.specs.Session.{as_read, route_as_read}
use Rattle.session_gen.specs.Laws.{MadeSessionsStay}

track_stays : (n t : ℕ) → route_as_read (track_route n t) ≡ track_route n t
unfolding route
track_stays n t = refl

master_stays : route_as_read master ≡ master
unfolding route
master_stays = refl

all_stay : (n : ℕ) (ts : List ℕ) → map route_as_read (map (track_route n) ts) ≡ map (track_route n) ts
all_stay n [] = refl
all_stay n (t ∷ ts) = ap (λ q. q ∷ map route_as_read (map (track_route n) ts)) (track_stays n t) ∙ ap (λ qs. track_route n t ∷ qs) (all_stay n ts)

routes_stay : (n : ℕ) → map route_as_read (route_items n) ≡ route_items n
unfolding each_below
routes_stay n = map-append route_as_read (track_routes n) (master ∷ [])
    ∙ ap (λ qs. qs ++ route_as_read master ∷ []) (all_stay n (range_with_len 0 (tracks n)))
    ∙ ap (λ q. track_routes n ++ q ∷ []) master_stays

pub made_sessions_stay : MadeSessionsStay
unfolding as_read made_session
made_sessions_stay n = ap (λ (qs : List Route). record (made_session n) { routes = listed 64 qs }) (routes_stay n)
