-- What the checks of a command say, where they are passed.
use Rattle.std.proofs.Common.{◌≡◌, inl, ℕ, zero, suc, ◌+◌, ◌^◌, ◌≤◌, ◌<◌, List, [], ◌∷◌, length, refl, sym, ap, subst, ◌∙◌, arith}
use Rattle.std.specs.Prelude.{Bool, true, false, not, ◌||◌, ◌==◌, if◌then◌else◌, Some, Ok, IsSomeAnd, All, find, position, slice_get}
use Rattle.std.specs.Option.{option_map_or}
use Rattle.std.specs.Str.{bytes_eq}
use Rattle.std.proofs.lemmas.Bool.{not-false, ltb-true, ltb-false, leb-false, eqb-true}
use Rattle.std.proofs.lemmas.List.Elements.{All-head, All-tail}
use Rattle.sound_model.specs.Regions.{Region}
use Rattle.session_model.specs.declared.session.Session.{Session}
use Rattle.session_model.specs.Formed.{channels_at, HasSource}
use Rattle.session_model.specs.Region.{IsRegion}
use Rattle.session_model.specs.Playlist.{IsPlaylist, has_id, has_region}
use Rattle.session_model.specs.Views.{track_regions}
use Rattle.engine_model.specs.Refusals.{Refusal, NoRoute, NotBus, NoSource, NoRegion, OnMaster, refused_if}
use Rattle.engine_model.specs.Commands.{is_far, ends_far, is_loud, route_at, is_track, is_master, track_at, bus_at, sender_at, source_at, region_at, source_channels, narrows, closes}
use Rattle.engine_model.specs.MayMake.{MayPut, MayLink}
use Rattle.engine_laws.proofs.CheckedLemmas.{after_check, where_ok, was_found, was_kept, found_there}
use Rattle.engine_laws.proofs.CommandLemmas.{track_is}
use Rattle.edit_laws.specs.CommandLaws.{IsWhole}

-- ---- what the checks say

pub kept : (b : Bool) (why : Refusal) (x : Unit {0}) → refused_if b why ≡ Ok x → b ≡ false
kept b why x e = was_kept b why x e

pub not_loud : (gain : ℕ) → is_loud gain ≡ false → gain ≤ 262144
not_loud gain e = ltb-false 262144 gain e

pub not_far : (place : ℕ) → is_far place ≡ false → place < 2 ^ 40
not_far place e = leb-false (2 ^ 40) place e

pub ends_near : (place long : ℕ) → ends_far place long ≡ false → place + long ≤ 2 ^ 40
ends_near place long e = ltb-false (2 ^ 40) (place + long) e

pub within_routes : (s : Session) (name : List ℕ) (r : ℕ) → route_at s name ≡ Ok r → r < length s.routes.items
within_routes s name r e = (found_there (λ q. bytes_eq q.name name) s.routes.items r (was_found (NoRoute name) (position (λ q. bytes_eq q.name name) s.routes.items) r e)).within

pub within_tracks : (s : Session) (name : List ℕ) (t : ℕ) → track_at s name ≡ Ok t → t < length s.tracks.items
within_tracks s name t e = ltb-true t (length s.tracks.items) (track_is s name t e).track

-- a bus or the master
pub record IsBusAt (s : Session) (r : ℕ) : Type 0 where
  pub within : r < length s.routes.items
  pub no_track : length s.tracks.items ≤ r

pub bus_is : (s : Session) (name : List ℕ) (r : ℕ) → bus_at s name ≡ Ok r → IsBusAt s r
bus_is s name r e = where_ok (IsBusAt s) (bus_at s name) r (after_check _ (route_at s name) _ (λ x at. after_check _ (refused_if (is_track s x) (NotBus name)) _
    (λ y is. record { within = within_routes s name x at; no_track = ltb-false x (length s.tracks.items) (kept (is_track s x) (NotBus name) y is) }))) e

pub sender_is : (s : Session) (name : List ℕ) (r : ℕ) → sender_at s name ≡ Ok r → r + 1 < length s.routes.items
sender_is s name r e = where_ok (λ x. x + 1 < length s.routes.items) (sender_at s name) r (after_check _ (route_at s name) _ (λ x at. after_check _ (refused_if (is_master s x) OnMaster) _
    (λ y is. leb-false (length s.routes.items) (x + 1) (kept (is_master s x) OnMaster y is)))) e

pub may_link : (s : Session) (r to : ℕ) → r + 1 < length s.routes.items → IsBusAt s to → narrows s r to ≡ false → closes s r to ≡ false → MayLink s r to
may_link s r to sender bus wide no_cycle = record {
  sender = sender;
  no_track = bus.no_track;
  there = bus.within;
  wide = ltb-false (channels_at s to) (channels_at s r) wide;
  no_cycle = no_cycle;
}

-- ---- a region of a track

pub find_keeps : (P : Region → Type 0) (id : ℕ) (qs : List Region) (r : Region) → All P qs → find (has_id id) qs ≡ Some r → P r × (has_id id r ≡ true) × (has_region qs id ≡ true)
find_keeps P id [] r all e = cc
find_keeps P id (q ∷ qs) r all e = by_id (has_id id q) refl e (λ h. find_keeps P id qs r (All-tail P q qs all) h)
  where
    by_id : (b : Bool) → has_id id q ≡ b → (if b then Some q else find (has_id id) qs) ≡ Some r →
        (find (has_id id) qs ≡ Some r → P r × (has_id id r ≡ true) × (has_region qs id ≡ true)) → P r × (has_id id r ≡ true) × (b || has_region qs id ≡ true)
    by_id true is e rest = let same : q ≡ r = cc in (subst P same (All-head P q qs all), subst (λ x. has_id id x ≡ true) same is, refl)
    by_id false is e rest = rest e

-- what stands of a region that is found
pub record IsTheirs (s : Session) (t id : ℕ) (r : Region) : Type 0 where
  pub track : t < length s.tracks.items
  pub limits : IsRegion r
  pub source : HasSource s (channels_at s t) r
  pub there : has_region (track_regions s t) r.id ≡ true

all_at : {X : Type 0} (P : X → Type 0) (xs : List X) (i : ℕ) (x : X) → All P xs → slice_get xs i ≡ Some x → P x
all_at P [] i x all e = cc
all_at P (y ∷ ys) zero x all e = let same : y ≡ x = cc in subst P same (All-head P y ys all)
all_at P (y ∷ ys) (suc i) x all e = all_at P ys i x (All-tail P y ys all) e

item_there : {X : Type 0} (xs : List X) (i : ℕ) → i < length xs → (x : X) × (slice_get xs i ≡ Some x)
item_there [] i lt = absurd (omega arith)
item_there (x ∷ xs) zero lt = (x, refl)
item_there (x ∷ xs) (suc i) lt = item_there xs i (omega arith)

pub region_is : (s : Session) (t id : ℕ) (r : Region) → IsWhole s → t < length s.tracks.items → region_at s t id ≡ Ok r → IsTheirs s t id r
region_is s t id r whole near e = let k = item_there s.tracks.items t near in let list : track_regions s t ≡ k.0.list = ap (λ o. option_map_or (λ x. x.list) o []) k.1 in
    let at : find (has_id id) k.0.list ≡ Some r = ap (find (has_id id)) (sym list) ∙ was_found (NoRegion id) (find (has_id id) (track_regions s t)) r e in
    let limits = find_keeps IsRegion id k.0.list r (all_at (λ x. IsPlaylist x.list) s.tracks.items t k.0 whole.types.tracks k.1).limits at in
    let source = find_keeps (HasSource s (channels_at s t)) id k.0.list r (whole.valid.formed.tracks t k.0 k.1).regions at in record {
      track = near;
      limits = limits.0;
      source = source.0;
      there = ap (λ l. has_region l r.id) list ∙ ap (has_region k.0.list) (eqb-true r.id id limits.1) ∙ limits.2;
    }

-- it may be put again with the same id and source, within its limits
pub put_again : (s : Session) (t id : ℕ) (r q : Region) → IsTheirs s t id r → q.id ≡ r.id → q.source ≡ r.source → IsRegion q → MayPut s t q
put_again s t id r q is same_id same_source limits = record {
  track = is.track;
  limits = limits;
  source = subst (λ n. IsSomeAnd (slice_get s.sources.items n) (λ d. d.channels ≡ channels_at s t)) (sym same_source) is.source;
  room = inl (ap (has_region (track_regions s t)) same_id ∙ is.there);
}

-- ---- a source by its name

pub source_is : (s : Session) (name : List ℕ) (from channels : ℕ) → source_at s name ≡ Ok from → not (source_channels s from == channels) ≡ false →
    IsSomeAnd (slice_get s.sources.items from) (λ d. d.channels ≡ channels)
source_is s name from channels e fits = let at = found_there (λ d. bytes_eq d.name name) s.sources.items from (was_found (NoSource name) (position
    (λ d. bytes_eq d.name name) s.sources.items) from e) in
    subst (λ o. IsSomeAnd o (λ d. d.channels ≡ channels)) (sym at.there)
    (eqb-true at.item.channels channels (ap (λ o. option_map_or (λ d. d.channels) o 0 == channels) (sym at.there) ∙ not-false (source_channels s from == channels) fits))
