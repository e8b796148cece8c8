-- What a change leaves of a session: all that is fixed, and the playlists of other tracks.
use Rattle.std.proofs.Common.{◌≡◌, ℕ, zero, suc, List, [], ◌∷◌, map, refl, sym, ap, ◌∙◌}
use Rattle.std.specs.Prelude.{false, Option, Some, None, slice_get}
use Rattle.std.specs.Option.{option_map_or}
use Rattle.std.specs.Str.{bytes_eq}
use Rattle.session_model.specs.declared.route.Route.{Route}
use Rattle.session_model.specs.declared.track.Track.{Track}
use Rattle.session_model.specs.declared.session.Session.{Session}
use Rattle.session_model.specs.Views.{track_regions}
use Rattle.engine_model.specs.Changes.{Change, TransportOnly, Armed, Soloed, Muted, Faded, Panned, InMode, PointSet, PointUnset, Leads, SendSet, SendUnset, RegionPut, RegionTaken, changed_at, with_route, with_track, made}
use Rattle.engine_model.specs.Fixed.{fixed_of}
use Rattle.engine_model.specs.Edits.{is_named}
use Rattle.engine_laws.proofs.FixedLemmas.{fixed_route, fixed_track}

-- ---- a list with a change at one place

-- what the change leaves of the item, it leaves of the list
pub same_of_each : {X Y : Type 0} (g : X → Y) (f : X → X) → ((x : X) → g (f x) ≡ g x) → (place : ℕ) (xs : List X) → map g (changed_at f place xs) ≡ map g xs
same_of_each g f same place [] = refl
same_of_each g f same zero (x ∷ xs) = ap (λ y. y ∷ map g xs) (same x)
same_of_each g f same (suc place) (x ∷ xs) = ap (λ ys. g x ∷ ys) (same_of_each g f same place xs)

pub same_at_each : {X Y : Type 0} (g : X → Y) (d : Y) (f : X → X) → ((x : X) → g (f x) ≡ g x) → (place t : ℕ) (xs : List X) →
    option_map_or g (slice_get (changed_at f place xs) t) d ≡ option_map_or g (slice_get xs t) d
same_at_each g d f same place t [] = refl
same_at_each g d f same zero zero (x ∷ xs) = same x
same_at_each g d f same zero (suc t) (x ∷ xs) = refl
same_at_each g d f same (suc place) zero (x ∷ xs) = refl
same_at_each g d f same (suc place) (suc t) (x ∷ xs) = same_at_each g d f same place t xs

-- other places keep their items
pub same_elsewhere : {X : Type 0} (f : X → X) (place t : ℕ) (xs : List X) → ¬ (place ≡ t) → slice_get (changed_at f place xs) t ≡ slice_get xs t
same_elsewhere f place t [] other = refl
same_elsewhere f zero zero (x ∷ xs) other = absurd (other refl)
same_elsewhere f zero (suc t) (x ∷ xs) other = refl
same_elsewhere f (suc place) zero (x ∷ xs) other = refl
same_elsewhere f (suc place) (suc t) (x ∷ xs) other = same_elsewhere f place t xs (λ e. other (ap (λ n. suc n) e))

-- ---- what is fixed

by_route : (s : Session) (f : Route → Route) (r : ℕ) → ((q : Route) → fixed_route (f q) ≡ fixed_route q) → fixed_of (with_route f r s) ≡ fixed_of s
by_route s f r same = ap (λ qs. record (fixed_of s) { routes = qs }) (same_of_each fixed_route f same r s.routes.items)

by_track : (s : Session) (f : Track → Track) (t : ℕ) → ((k : Track) → fixed_track (f k) ≡ fixed_track k) → fixed_of (with_track f t s) ≡ fixed_of s
by_track s f t same = ap (λ ks. record (fixed_of s) { tracks = ks }) (same_of_each fixed_track f same t s.tracks.items)

pub fixed_stays : (s : Session) (c : Change) → fixed_of (made s c) ≡ fixed_of s
fixed_stays s TransportOnly = refl
fixed_stays s (Armed t on) = by_track s _ t (λ k. refl)
fixed_stays s (Soloed t on) = by_track s _ t (λ k. refl)
fixed_stays s (Muted r on) = by_route s _ r (λ q. refl)
fixed_stays s (Faded r gain) = by_route s _ r (λ q. refl)
fixed_stays s (Panned r left right) = by_route s _ r (λ q. refl)
fixed_stays s (InMode r mode) = by_route s _ r (λ q. refl)
fixed_stays s (PointSet r p) = by_route s _ r (λ q. refl)
fixed_stays s (PointUnset r place) = by_route s _ r (λ q. refl)
fixed_stays s (Leads r to) = by_route s _ r (λ q. refl)
fixed_stays s (SendSet r link) = by_route s _ r (λ q. refl)
fixed_stays s (SendUnset r to) = by_route s _ r (λ q. refl)
fixed_stays s (RegionPut t r) = by_track s _ t (λ k. refl)
fixed_stays s (RegionTaken t id) = by_track s _ t (λ k. refl)

-- the names of tracks are fixed
named_by_fixed : (qs : List Route) (t : ℕ) (name : List ℕ) →
    option_map_or (λ q. bytes_eq q.name name) (slice_get qs t) false ≡ option_map_or (λ q. bytes_eq q.name name) (slice_get (map fixed_route qs) t) false
named_by_fixed [] t name = refl
named_by_fixed (q ∷ qs) zero name = refl
named_by_fixed (q ∷ qs) (suc t) name = named_by_fixed qs t name

pub names_stay : (s z : Session) (t : ℕ) (name : List ℕ) → fixed_of z ≡ fixed_of s → is_named z t name ≡ is_named s t name
names_stay s z t name same = named_by_fixed z.routes.items t name
    ∙ ap (λ x. option_map_or (λ q. bytes_eq q.name name) (slice_get x.routes t) false) same
    ∙ sym (named_by_fixed s.routes.items t name)

-- ---- playlists

-- the track whose playlist a change is of
abbrev pub list_changed : Change → Option ℕ
list_changed TransportOnly = None
list_changed (Armed t on) = None
list_changed (Soloed t on) = None
list_changed (Muted r on) = None
list_changed (Faded r gain) = None
list_changed (Panned r left right) = None
list_changed (InMode r mode) = None
list_changed (PointSet r p) = None
list_changed (PointUnset r place) = None
list_changed (Leads r to) = None
list_changed (SendSet r link) = None
list_changed (SendUnset r to) = None
list_changed (RegionPut t r) = Some t
list_changed (RegionTaken t id) = Some t

other_list : (s : Session) (f : Track → Track) (u t : ℕ) → ¬ (Some u ≡ Some t) → track_regions (with_track f u s) t ≡ track_regions s t
other_list s f u t other = ap (λ o. option_map_or (λ k. k.list) o []) (same_elsewhere f u t s.tracks.items (λ e. other (ap (λ n. Some n) e)))

same_list : (s : Session) (f : Track → Track) (u t : ℕ) → ((k : Track) → (f k).list ≡ k.list) → track_regions (with_track f u s) t ≡ track_regions s t
same_list s f u t same = same_at_each (λ k. k.list) [] f same u t s.tracks.items

pub lists_stay : (s : Session) (c : Change) (t : ℕ) → ¬ (list_changed c ≡ Some t) → track_regions (made s c) t ≡ track_regions s t
lists_stay s TransportOnly t other = refl
lists_stay s (Armed u on) t other = same_list s _ u t (λ k. refl)
lists_stay s (Soloed u on) t other = same_list s _ u t (λ k. refl)
lists_stay s (Muted r on) t other = refl
lists_stay s (Faded r gain) t other = refl
lists_stay s (Panned r left right) t other = refl
lists_stay s (InMode r mode) t other = refl
lists_stay s (PointSet r p) t other = refl
lists_stay s (PointUnset r place) t other = refl
lists_stay s (Leads r to) t other = refl
lists_stay s (SendSet r link) t other = refl
lists_stay s (SendUnset r to) t other = refl
lists_stay s (RegionPut u r) t other = other_list s _ u t other
lists_stay s (RegionTaken u id) t other = other_list s _ u t other
