-- The places that the parts of a formed session name are places of its lists.
use Rattle.std.proofs.Common.{◌≡◌, ℕ, ◌<◌, ◌≤◌, refl, sym, subst, List, length, get_or, slice_get, All, Option, Some, None, IsSomeAnd, IfSome}
use Rattle.session_model.specs.declared.route.RouteKind.{RouteKind}
use Rattle.session_model.specs.declared.route.RouteKind.TheVariants.{Track as OfTrack, Bus, Master}
use Rattle.session_model.specs.declared.route.Route.{Route}
use Rattle.session_model.specs.declared.session.SourceDecl.{SourceDecl}
use Rattle.session_model.specs.declared.session.Session.{Session}
use Rattle.session_model.specs.Formed.{MayFeed, LeadsOn, channels_at, IsFormed}
use Rattle.session_toml.proofs.LookLaws.{got-within}
use Rattle.session_text.specs.Within.{LeadsWithin, ShowsWithin}
use Rattle.session_text.proofs.ListLaws.{all-at}

place-within : {A : Type 0} (P : A → Type 0) (xs : List A) (i : ℕ) (o : Option A) → slice_get xs i ≡ o → IsSomeAnd o P → i < length xs
place-within P xs i (Some x) e h = got-within xs i x e
place-within P xs i None e h = absurd h

fed-within : (s : Session) (q : Route) (to : ℕ) → MayFeed s q to → to < length s.routes.items
fed-within s q to may = place-within (λ next. q.channels ≤ next.channels) s.routes.items to (slice_get s.routes.items to) refl may.wide

out-within : (s : Session) (q : Route) (o : Option ℕ) → IsSomeAnd o (MayFeed s q) → IfSome o (λ to. to < length s.routes.items)
out-within s q (Some to) h = fed-within s q to h
out-within s q None h = absurd h

leads-within : (s : Session) (q : Route) (k : RouteKind) → LeadsOn s q k → IfSome q.target (λ to. to < length s.routes.items)
leads-within s q (OfTrack t) h = out-within s q q.target h
leads-within s q Bus h = out-within s q q.target h
leads-within s q Master h = let P : Option ℕ → Type 0 = λ o. IfSome o (λ to. to < length s.routes.items) in subst P (sym h.target) tt

pub routes-within : (s : Session) → IsFormed s → All (LeadsWithin (length s.routes.items)) s.routes.items
routes-within s f = all-at (LeadsWithin (length s.routes.items)) s.routes.items (λ i q e. let h = f.routes i q e in record { out = leads-within s q q.kind h.output; sends = λ j d l. fed-within s q _ (h.sends j d l) })

pub tracks-within : (s : Session) → IsFormed s → All (ShowsWithin (length s.sources.items)) s.tracks.items
tracks-within s f = all-at (ShowsWithin (length s.sources.items)) s.tracks.items (λ i k e. λ j d l.
    place-within (λ (x : SourceDecl). x.channels ≡ channels_at s i) s.sources.items (get_or k.list j d).source (slice_get s.sources.items (get_or k.list j d).source) refl ((f.tracks i k e).regions j d l))
