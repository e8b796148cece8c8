-- Routes of a formed session at their places.
use Rattle.std.proofs.Common.{◌≡◌, ℕ, ◌*◌, ◌<◌, ◌≤◌, ◌⊎◌, inl, inr, List, [], ◌∷◌, length, get_or, map, refl, ap, ap₂, sym, subst, arith}
use Rattle.std.specs.Prelude.{Option, Some, None, slice_get, IsSomeAnd, is_some, ◌&&◌, ◌||◌}
use Rattle.std.specs.List.{list_any}
use Rattle.sound_model.specs.Routes.{any_solo}
use Rattle.std.specs.Option.{option_map_or}
use Rattle.std.proofs.lemmas.Bool.{cases_lt}
use Rattle.std.proofs.lemmas.Option.{slice_get-get_or, slice_get_within, get_or_from_slice_get}
use Rattle.session_model.specs.declared.route.RouteKind.{RouteKind}
use Rattle.session_model.specs.declared.route.RouteKind.TheVariants.{Track as OfTrack, Bus, Master}
use Rattle.session_model.specs.declared.route.Route.{Route}
use Rattle.session_model.specs.declared.session.Session.{Session}
use Rattle.session_model.specs.declared.track.Track.{Track}
use Rattle.session_model.specs.Views.{is_soloed, route_of, track_number}
use Rattle.session_model.specs.Formed.{IsFormed, IsFormedRoute, LeadsOn, MayFeed, channels_at}
use Rattle.route_mix.specs.Blocks.{AreFew}

pub few_of : (n : ℕ) → 1 ≤ n → n ≤ 2 → AreFew n
few_of n least most = go (cases_lt n 2)
  where
    go : (n < 2) ⊎ (2 ≤ n) → AreFew n
    go (inl low) = inl (omega arith)
    go (inr high) = inr (omega arith)

few_most : (n : ℕ) → AreFew n → n ≤ 2
few_most n (inl one) = omega arith
few_most n (inr two) = omega arith

pub channels_there : (s : Session) (r : ℕ) (d : Route) → r < length s.routes.items → channels_at s r ≡ (get_or s.routes.items r d).channels
channels_there s r d h = ap (λ o. option_map_or (λ (q : Route). q.channels) o 0) (slice_get-get_or s.routes.items r d h)

module _ (s : Session) (formed : IsFormed s) where
  pub few_there : (r : ℕ) → r < length s.routes.items → (d : Route) → AreFew (get_or s.routes.items r d).channels
  few_there r h d = let c = (formed.routes r (get_or s.routes.items r d) (slice_get-get_or s.routes.items r d h)).channels in few_of _ c.least c.most

  pub few_at : (r : ℕ) → r < length s.routes.items → (d : Route) → AreFew (channels_at s r)
  few_at r h d = subst AreFew (sym (channels_there s r d h)) (few_there r h d)

  pub most_at : (r : ℕ) → r < length s.routes.items → (d : Route) → channels_at s r ≤ 2
  most_at r h d = few_most (channels_at s r) (few_at r h d)

some_there : (o : Option Route) (P : Route → Type 0) → IsSomeAnd o P → (q : Route) × (o ≡ Some q) × P q
some_there None P h = absurd h
some_there (Some q) P h = (q, refl, h)

module _ (s : Session) (q : Route) (to : ℕ) (may : MayFeed s q to) where
  next : (n : Route) × (slice_get s.routes.items to ≡ Some n) × (q.channels ≤ n.channels)
  next = some_there (slice_get s.routes.items to) (λ n. q.channels ≤ n.channels) may.wide

  pub to_within : to < length s.routes.items
  to_within = slice_get_within s.routes.items to next.0 next.1

  pub wide_there : (d : Route) → q.channels ≤ (get_or s.routes.items to d).channels
  wide_there d = subst (λ (n : Route). q.channels ≤ n.channels) (sym (get_or_from_slice_get s.routes.items to next.0 d next.1)) next.2

pub long_there : (frames own channels samples sums : ℕ) → samples ≡ frames * own → sums ≡ frames * channels → samples * channels ≡ sums * own
long_there frames own channels samples sums s t = rw (s, t) (grind (arith))

-- where the output of a route leads
pub may_out : (s : Session) (place : ℕ) (q : Route) (to : ℕ) → IsFormedRoute s place q → q.target ≡ Some to → MayFeed s q to
may_out s place q to is some = by_kind q.kind is.output
  where
    may : IsSomeAnd q.target (MayFeed s q) → MayFeed s q to
    may h = subst (λ o. IsSomeAnd o (MayFeed s q)) some h

    by_kind : (kind : RouteKind) → LeadsOn s q kind → MayFeed s q to
    by_kind (OfTrack t) leads = may leads
    by_kind Bus leads = may leads
    by_kind Master leads = let none : q.target ≡ None = leads.target in cc

-- ---- solo

-- only a track is soloed
solo_of_track : (tracks : List Track) (kind : RouteKind) → is_soloed tracks kind ≡ (is_some (track_number kind) && is_soloed tracks kind)
solo_of_track tracks (OfTrack t) = refl
solo_of_track tracks Bus = refl
solo_of_track tracks Master = refl

pub solo_is_any : (tracks : List Track) (qs : List Route) → list_any (λ q. is_soloed tracks q.kind) qs ≡ any_solo (map (route_of tracks) qs)
solo_is_any tracks [] = refl
solo_is_any tracks (q ∷ qs) = ap₂ (λ a b. a || b) (solo_of_track tracks q.kind) (solo_is_any tracks qs)
