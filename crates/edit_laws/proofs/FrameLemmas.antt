-- A session whose fixed parts are another's: what its routes and tracks keep by the other, they keep by it.
use Rattle.std.proofs.Common.{◌≡◌, inl, inr, ℕ, zero, suc, ◌≤◌, ◌<◌, ◌*◌, ◌+◌, ◌⊎◌, List, [], ◌∷◌, length, map, refl, sym, ap, subst, ◌∙◌, arith}
use Rattle.std.specs.Prelude.{Bool, true, false, nat_lt, ◌==◌, if◌then◌else◌, Option, Some, None, slice_get, All, IsSomeAnd, IfSome}
use Rattle.std.proofs.lemmas.Bool.{eqb-true}
use Rattle.std.proofs.lemmas.List.Elements.{All-cons, All-head, All-tail, All-weaker}
use Rattle.sound_model.specs.Regions.{Region}
use Rattle.session_model.specs.declared.route.RouteKind.{RouteKind}
use Rattle.session_model.specs.declared.route.RouteKind.TheVariants.{Track as OfTrack, Bus, Master}
use Rattle.session_model.specs.declared.route.SendLink.{SendLink}
use Rattle.session_model.specs.declared.route.Route.{Route}
use Rattle.session_model.specs.declared.track.Track.{Track}
use Rattle.session_model.specs.declared.session.Session.{Session}
use Rattle.session_model.specs.Lists.{EachAt, AreApart}
use Rattle.session_model.specs.Formed.{IsBetween, HasLimits, HasNames, IsFormedSource, MayFeed, LeadsOn, IsFormedRoute, kind_at, channels_at, HasSource, IsFormedTrack, IsFormed}
use Rattle.engine_model.specs.Changes.{changed_at}
use Rattle.engine_laws.proofs.FixedLemmas.{fixed_route, many_tracks, many_routes, channels_stay}
use Rattle.engine_model.specs.Fixed.{Fixed, FixedRoute, fixed_of}

-- ---- lists with a change at one place

-- an item of the changed list is an old one, or the changed one
pub item_of_changed : {X : Type 0} (f : X → X) (place i : ℕ) (xs : List X) (x : X) → slice_get (changed_at f place xs) i ≡ Some x →
    (slice_get xs i ≡ Some x) ⊎ ((i ≡ place) × (y : X) × (slice_get xs i ≡ Some y) × (f y ≡ x))
item_of_changed f place i [] x here = inl here
item_of_changed f zero zero (y ∷ ys) x here = let same : f y ≡ x = cc in inr (refl, y, refl, same)
item_of_changed f zero (suc i) (y ∷ ys) x here = inl here
item_of_changed f (suc place) zero (y ∷ ys) x here = inl here
item_of_changed f (suc place) (suc i) (y ∷ ys) x here = elim (item_of_changed f place i ys x here) [
  | inl old ↦ inl old
  | inr new ↦ inr (ap (λ n. suc n) new.0, new.1, new.2, new.3)
]

pub length-changed_at : {X : Type 0} (f : X → X) (place : ℕ) (xs : List X) → length (changed_at f place xs) ≡ length xs
length-changed_at f place [] = refl
length-changed_at f zero (x ∷ xs) = refl
length-changed_at f (suc place) (x ∷ xs) = ap (λ n. suc n) (length-changed_at f place xs)

map_twice : {X Y Z : Type 0} (f : Y → Z) (g : X → Y) (xs : List X) → map f (map g xs) ≡ map (λ x. f (g x)) xs
map_twice f g [] = refl
map_twice f g (x ∷ xs) = ap (λ ys. f (g x) ∷ ys) (map_twice f g xs)

pub some_and : {X : Type 0} {P Q : X → Type 0} (o : Option X) → ((x : X) → P x → Q x) → IsSomeAnd o P → IsSomeAnd o Q
some_and None weaker h = h
some_and (Some x) weaker h = weaker x h

-- a route of other settings
pub record IsLike (q p : Route) : Type 0 where
  pub name : p.name ≡ q.name
  pub kind : p.kind ≡ q.kind
  pub channels : p.channels ≡ q.channels

pub same_route : (q : Route) → IsLike q q
same_route q = record { name = refl; kind = refl; channels = refl }

not_master : (tracks routes place : ℕ) → place + 1 < routes → kind_at tracks routes place ≡ Master → ⊥
not_master tracks routes place sender e = by_place (nat_lt place tracks) (suc place == routes) refl e
  where
    by_place : (b last : Bool) → (suc place == routes) ≡ last → (if b then OfTrack place else (if last then Master else Bus)) ≡ Master → ⊥
    by_place true last is e = cc
    by_place false true is e = absurd (omega (arith, eqb-true (suc place) routes is))
    by_place false false is e = cc

-- a route that isn't the master has an output
pub output_of : (s : Session) (place : ℕ) (q : Route) → place + 1 < length s.routes.items → q.kind ≡ kind_at (length s.tracks.items) (length s.routes.items) place → LeadsOn s q q.kind →
    IsSomeAnd q.target (MayFeed s q)
output_of s place q sender kind leads = by_kind q.kind (λ e. not_master (length s.tracks.items) (length s.routes.items) place sender (sym kind ∙ e)) leads
  where
    by_kind : (kind : RouteKind) → (kind ≡ Master → ⊥) → LeadsOn s q kind → IsSomeAnd q.target (MayFeed s q)
    by_kind (OfTrack t) other leads = leads
    by_kind Bus other leads = leads
    by_kind Master other leads = absurd (other refl)

-- ---- what the fixed parts say

module _ (s z : Session) (same : fixed_of z ≡ fixed_of s) where
  same_names : map (λ (q : Route). q.name) z.routes.items ≡ map (λ (q : Route). q.name) s.routes.items
  same_names = sym (map_twice (λ (x : FixedRoute). x.name) fixed_route z.routes.items) ∙ ap (λ x. map (λ (y : FixedRoute). y.name) x.routes) same
      ∙ map_twice (λ (x : FixedRoute). x.name) fixed_route s.routes.items

  pub limits_stay : HasLimits s → HasLimits z
  limits_stay h = record {
    rate = subst (λ n. IsBetween 8000 n 192000) (sym (ap (λ x. x.rate) same)) h.rate;
    block = subst (λ n. IsBetween 1 n 4096) (sym (ap (λ x. x.block) same)) h.block;
    depth = subst (λ n. IsBetween 2 n 256) (sym (ap (λ x. x.depth) same)) h.depth;
    ring = subst (λ (x : Fixed). x.depth * x.block ≤ 65536) (sym same) h.ring;
    sources = subst (λ (x : Fixed). length x.sources ≤ 64) (sym same) h.sources;
    tracks = subst (λ n. n ≤ 32) (sym (many_tracks s z same)) h.tracks;
    routes = subst (λ n. n ≤ 64) (sym (many_routes s z same)) h.routes;
    master = subst (λ n. n < length z.routes.items) (sym (many_tracks s z same)) (subst (λ n. length s.tracks.items < n) (sym (many_routes s z same)) h.master);
  }

  pub names_stay : HasNames s → HasNames z
  names_stay h = record {
    sources = subst (λ (x : Fixed). AreApart (map (λ d. d.name) x.sources)) (sym same) h.sources;
    routes = subst AreApart (sym same_names) h.routes;
  }

  pub sources_stay : All IsFormedSource s.sources.items → All IsFormedSource z.sources.items
  sources_stay h = subst (λ (x : Fixed). All IsFormedSource x.sources) (sym same) h

  pub source_stays : (channels : ℕ) (r : Region) → HasSource s channels r → HasSource z channels r
  source_stays channels r h = subst (λ (x : Fixed). IsSomeAnd (slice_get x.sources r.source) (λ d. d.channels ≡ channels)) (sym same) h

  wide_stays : (channels to : ℕ) → IsSomeAnd (slice_get s.routes.items to) (λ next. channels ≤ next.channels) → IsSomeAnd (slice_get z.routes.items to) (λ next. channels ≤ next.channels)
  wide_stays channels to h = back z.routes.items to (subst (λ (x : Fixed). IsSomeAnd (slice_get x.routes to)
      (λ (next : FixedRoute). channels ≤ next.channels)) (sym same) (forth s.routes.items to h))
    where
      forth : (qs : List Route) (i : ℕ) → IsSomeAnd (slice_get qs i) (λ next. channels ≤ next.channels) → IsSomeAnd (slice_get (map fixed_route qs) i)
          (λ (next : FixedRoute). channels ≤ next.channels)
      forth [] i w = w
      forth (q ∷ qs) zero w = w
      forth (q ∷ qs) (suc i) w = forth qs i w

      back : (qs : List Route) (i : ℕ) → IsSomeAnd (slice_get (map fixed_route qs) i) (λ (next : FixedRoute). channels ≤ next.channels) → IsSomeAnd (slice_get qs i)
          (λ next. channels ≤ next.channels)
      back [] i w = w
      back (q ∷ qs) zero w = w
      back (q ∷ qs) (suc i) w = back qs i w

  pub feed_stays : (q p : Route) (to : ℕ) → p.channels ≡ q.channels → MayFeed s q to → MayFeed z p to
  feed_stays q p to channels h = record {
    no_track = subst (λ n. n ≤ to) (sym (many_tracks s z same)) h.no_track;
    wide = subst (λ c. IsSomeAnd (slice_get z.routes.items to) (λ next. c ≤ next.channels)) (sym channels) (wide_stays q.channels to h.wide);
  }

  -- ---- a route of other settings

  kind_stays : (place : ℕ) (q p : Route) → IsLike q p → q.kind ≡ kind_at (length s.tracks.items) (length s.routes.items) place →
      p.kind ≡ kind_at (length z.tracks.items) (length z.routes.items) place
  kind_stays place q p like h = like.kind ∙ h ∙ ap (λ n. kind_at n (length s.routes.items) place) (sym (many_tracks s z same)) ∙ ap
      (λ n. kind_at (length z.tracks.items) n place) (sym (many_routes s z same))

  leads_stay : (q p : Route) (kind : RouteKind) → IsLike q p → p.left ≡ q.left → p.right ≡ q.right → p.target ≡ q.target → p.sends ≡ q.sends → LeadsOn s q kind → LeadsOn z p kind
  leads_stay q p (OfTrack t) like left right target sends h = subst (λ o. IsSomeAnd o (MayFeed z p)) (sym target) (some_and q.target (λ to m. feed_stays q p to like.channels m) h)
  leads_stay q p Bus like left right target sends h = subst (λ o. IsSomeAnd o (MayFeed z p)) (sym target) (some_and q.target (λ to m. feed_stays q p to like.channels m) h)
  leads_stay q p Master like left right target sends h = record {
    name = like.name ∙ h.name;
    left = left ∙ h.left;
    right = right ∙ h.right;
    target = target ∙ h.target;
    sends = ap (λ l. l.items) sends ∙ h.sends;
  }

  pub route_stays : (place : ℕ) (q p : Route) → IsLike q p → p.left ≡ q.left → p.right ≡ q.right → p.target ≡ q.target → p.sends ≡ q.sends → IsFormedRoute s place q → IsFormedRoute z place p
  route_stays place q p like left right target sends h = record {
    kind = kind_stays place q p like h.kind;
    channels = subst (λ n. IsBetween 1 n 2) (sym like.channels) h.channels;
    output = subst (LeadsOn z p) (sym like.kind) (leads_stay q p q.kind like left right target sends h.output);
    few = subst (λ l. length l.items ≤ 8) (sym sends) h.few;
    room = subst (λ l. 8 ≤ l.room) (sym sends) h.room;
    sends = subst (λ l. All (λ (x : SendLink). MayFeed z p x.to) l.items) (sym sends) (All-weaker (λ l. MayFeed s q l.to) (λ l. MayFeed z p l.to)
        (λ l m. feed_stays q p l.to like.channels m) q.sends.items h.sends);
    apart = subst (λ l. AreApart (map (λ (x : SendLink). x.to) l.items)) (sym sends) h.apart;
  }

  -- a route that isn't the master, with other links
  pub route_leads : (place : ℕ) (q p : Route) → IsLike q p → place + 1 < length s.routes.items → IsSomeAnd p.target (MayFeed z p) → length p.sends.items ≤ 8 → 8 ≤ p.sends.room →
      All (λ l. MayFeed z p l.to) p.sends.items → AreApart (map (λ l. l.to) p.sends.items) → IsFormedRoute s place q → IsFormedRoute z place p
  route_leads place q p like sender output few room sends apart h = record {
    kind = kind_stays place q p like h.kind;
    channels = subst (λ n. IsBetween 1 n 2) (sym like.channels) h.channels;
    output = leads_on p.kind (λ e. not_master (length s.tracks.items) (length s.routes.items) place sender (sym (like.kind ∙ h.kind) ∙ e)) output;
    few = few;
    room = room;
    sends = sends;
    apart = apart;
  }
    where
      leads_on : (kind : RouteKind) → (kind ≡ Master → ⊥) → IsSomeAnd p.target (MayFeed z p) → LeadsOn z p kind
      leads_on (OfTrack t) other leads = leads
      leads_on Bus other leads = leads
      leads_on Master other leads = absurd (other refl)

  -- ---- the sources, names and numbers of a formed session, with other routes and tracks

  pub formed_by : IsFormed s → EachAt (IsFormedRoute z) z.routes.items → EachAt (IsFormedTrack z) z.tracks.items → IsFormed z
  formed_by h routes tracks = record {
    limits = limits_stay h.limits;
    names = names_stay h.names;
    sources = sources_stay h.sources;
    routes = routes;
    tracks = tracks;
  }

  pub track_stays : (place : ℕ) (k : Track) → IsFormedTrack s place k → IsFormedTrack z place k
  track_stays place k h = record {
    route = h.route;
    input = subst (λ n. IfSome k.input (λ first. first + n ≤ 8)) (sym (channels_stay s z same place)) h.input;
    armed = h.armed;
    regions = subst (λ n. All (HasSource z n) k.list) (sym (channels_stay s z same place))
        (All-weaker (HasSource s (channels_at s place)) (HasSource z (channels_at s place)) (source_stays (channels_at s place)) k.list h.regions);
  }

  -- ---- all routes and all tracks

  pub routes_stay : EachAt (IsFormedRoute s) s.routes.items → EachAt (IsFormedRoute z) s.routes.items
  routes_stay each i q here = route_stays i q q (same_route q) refl refl refl refl (each i q here)

  pub tracks_stay : EachAt (IsFormedTrack s) s.tracks.items → EachAt (IsFormedTrack z) s.tracks.items
  tracks_stay each i k here = track_stays i k (each i k here)

-- each item keeps P by its place, and so does the changed one
pub each_changed : {X : Type 0} (P Q : ℕ → X → Type 0) (f : X → X) (place : ℕ) (xs : List X) → ((i : ℕ) (x : X) → P i x → Q i x) →
    ((x : X) → slice_get xs place ≡ Some x → P place x → Q place (f x)) → EachAt P xs → EachAt Q (changed_at f place xs)
each_changed P Q f place xs other this each i x here = elim (item_of_changed f place i xs x here) [
  | inl old ↦ other i x (each i x old)
  | inr new ↦ let mine : slice_get xs place ≡ Some new.1 = ap (slice_get xs) (sym new.0) ∙ new.2 in
      subst (λ y. Q i y) new.3 (subst (λ n. Q n (f new.1)) (sym new.0) (this new.1 mine (each place new.1 mine)))
]

pub all_changed : {X : Type 0} (P : X → Type 0) (f : X → X) (place : ℕ) (xs : List X) → ((x : X) → slice_get xs place ≡ Some x → P x → P (f x)) → All P xs → All P (changed_at f place xs)
all_changed P f place [] this all = all
all_changed P f zero (x ∷ xs) this all = All-cons P (f x) xs (this x refl (All-head P x xs all)) (All-tail P x xs all)
all_changed P f (suc place) (x ∷ xs) this all = All-cons P x (changed_at f place xs) (All-head P x xs all) (all_changed P f place xs this (All-tail P x xs all))
