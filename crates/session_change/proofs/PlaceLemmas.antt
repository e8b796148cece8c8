-- What is written at a place of a list is the list with a change there.
use Rattle.std.proofs.Common.{◌≡◌, ℕ, zero, suc, ◌<◌, List, [], ◌∷◌, length, set, get_or, refl, sym, ap, ◌∙◌, arith}
use Rattle.std.specs.Prelude.{Some, slice_get}
use Rattle.std.proofs.lemmas.List.{length-set}
use Rattle.std.proofs.lemmas.Option.{slice_get-get_or}
use Rattle.ses_io.specs.FixedList.{Listed, with_items}
use Rattle.ses_io.proofs.Lists.{with_items-same}
use Rattle.session_model.specs.declared.route.Route.{Route}
use Rattle.session_model.specs.declared.track.Track.{Track}
use Rattle.session_model.specs.declared.session.Session.{Session}
use Rattle.engine_model.specs.Changes.{changed_at, with_route, with_track}

set-changed : {X : Type 0} (f : X → X) (xs : List X) (i : ℕ) (d : X) → i < length xs → set xs i (f (get_or xs i d)) ≡ changed_at f i xs
set-changed f [] i d within = refl
set-changed f (x ∷ xs) zero d within = refl
set-changed f (x ∷ xs) (suc i) d within = ap (λ ys. x ∷ ys) (set-changed f xs i d (omega arith))

written : {X : Type 0} (f : X → X) (list : Listed X) (lent : List X) (i : ℕ) (d y : X) → lent ≡ list.items → i < length list.items → y ≡ f (get_or lent i d) →
    with_items list (set lent i y) ≡ record list { items = changed_at f i list.items }
written f list lent i d y same within is =
    with_items-same list (set lent i y) (length-set lent i y ∙ ap length same)
    ∙ ap (λ xs. record list { items = xs }) (ap (set lent i) is ∙ ap (λ xs. set xs i (f (get_or xs i d))) same ∙ set-changed f list.items i d within)

-- the route, or the track, that is written back is the one that stood there with a change
pub route_written : (f : Route → Route) (s : Session) (lent : List Route) (i : ℕ) (d y : Route) → lent ≡ s.routes.items → i < length s.routes.items → y ≡ f (get_or lent i d) →
    record s { routes = with_items s.routes (set lent i y) } ≡ with_route f i s
route_written f s lent i d y same within is = ap (λ l. record s { routes = l }) (written f s.routes lent i d y same within is)

pub track_written : (f : Track → Track) (s : Session) (lent : List Track) (i : ℕ) (d y : Track) → lent ≡ s.tracks.items → i < length s.tracks.items → y ≡ f (get_or lent i d) →
    record s { tracks = with_items s.tracks (set lent i y) } ≡ with_track f i s
track_written f s lent i d y same within is = ap (λ l. record s { tracks = l }) (written f s.tracks lent i d y same within is)

-- what stands at a place
pub stands_at : {X : Type 0} (xs lent : List X) (i : ℕ) (d : X) → lent ≡ xs → i < length xs → slice_get xs i ≡ Some (get_or lent i d)
stands_at xs lent i d same within = slice_get-get_or xs i d within ∙ ap (λ ys. Some (get_or ys i d)) (sym same)
