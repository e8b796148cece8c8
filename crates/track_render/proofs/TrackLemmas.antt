-- The track that is rendered: its channels, its regions, and the sources that they show.
use Rattle.std.proofs.Common.{◌≡◌, ℕ, ◌<◌, ◌≤◌, ◌⊎◌, inl, inr, ⊎_elim, List, [], length, get_or, Some, None, refl, ap, sym, subst, ◌∙◌, arith}
use Rattle.std.specs.Prelude.{slice_get, slice_index, All, IsSomeAnd}
use Rattle.std.specs.Option.{option_map_or}
use Rattle.std.proofs.lemmas.Bool.{cases_lt}
use Rattle.std.proofs.lemmas.List.{get_or-map, length-map}
use Rattle.std.proofs.lemmas.List.Elements.{All-weaker}
use Rattle.std.proofs.lemmas.Option.{slice_get_cases, slice_get_read}
use Rattle.sound_model.specs.Regions.{Region}
use Rattle.session_model.specs.declared.track.Track.{Track}
use Rattle.session_model.specs.declared.route.Route.{Route}
use Rattle.session_model.specs.declared.session.SourceDecl.{SourceDecl}
use Rattle.session_model.specs.declared.session.Session.{Session}
use Rattle.session_model.specs.Formed as formed
use Rattle.session_model.specs.Formed.{IsFormed, channels_at}
use Rattle.session_model.specs.Views.{track_regions}
use Rattle.playlist_layers.specs.Reads.{HasSource}
use Rattle.audio_source.specs.Opened.{OpenedSource, channels_of, IsListed}

-- the item that was read is the list's
pub item_at : {X : Type 0} (items list : List X) (i : ℕ) (x : X) → list ≡ items → i < length list → x ≡ get_or list i x → slice_get items i ≡ Some x
item_at items list i x same h it = ap (λ l. slice_get l i) (sym same) ∙ slice_get_read list (length list) i x refl h it

-- ---- channels

one_or_two : (n : ℕ) → 1 ≤ n → n ≤ 2 → (n ≡ 1) ⊎ (n ≡ 2)
one_or_two n least most = ⊎_elim (λ low. inl (omega arith)) (λ high. inr (omega arith)) (cases_lt n 2)

pub few_channels : (s : Session) (i : ℕ) (q : Route) → IsFormed s → slice_get s.routes.items i ≡ Some q → (q.channels ≡ 1) ⊎ (q.channels ≡ 2)
few_channels s i q is there = let between = (is.routes i q there).channels in one_or_two q.channels between.least between.most

-- ---- sources

source_told : (rate : ℕ) (list : List SourceDecl) (opened : List OpenedSource) (i channels : ℕ) → IsListed rate list opened → IsSomeAnd (slice_get list i) (λ d. d.channels ≡ channels) →
    (i < length (channels_of opened)) × (slice_index (channels_of opened) i ≡ channels)
source_told rate list opened i channels listed h = ⊎_elim
    (λ w. declared w.0 w.2 w.1 (slice_get_cases opened i).1)
    (λ w. absurd (subst (λ o. IsSomeAnd o (λ d. d.channels ≡ channels)) w.1 h)) (slice_get_cases list i).1
  where
    declared : (d : SourceDecl) → slice_get list i ≡ Some d → i < length list →
        ((o : OpenedSource) × (i < length opened) × (slice_get opened i ≡ Some o) × (get_or opened i o ≡ o)) ⊎ ((length opened ≤ i) × (slice_get opened i ≡ None)) →
        (i < length (channels_of opened)) × (slice_index (channels_of opened) i ≡ channels)
    declared d at inside (inl w) = (
      omega (arith, length-map opened (λ o. o.head.form.channels), w.1),
      get_or-map (λ o. o.head.form.channels) opened i w.0 0 w.1 ∙ ap (λ o. o.head.form.channels) w.3 ∙ (listed.each i d w.0 at w.2).channels
          ∙ subst (λ o. IsSomeAnd o (λ q. q.channels ≡ channels)) at h,
    )
    declared d at inside (inr w) = absurd (omega (arith, w.0, inside, listed.many))

-- the regions of a session's track show opened sources of its channels
pub sources_shown : (s : Session) (opened : List OpenedSource) (channels : ℕ) (regions : List Region) → IsListed s.rate s.sources.items opened → All (formed.HasSource s channels) regions →
    All (HasSource (channels_of opened) channels) regions
sources_shown s opened channels regions listed all = All-weaker (formed.HasSource s channels) (HasSource (channels_of opened) channels) one regions all
  where
    one : (r : Region) → formed.HasSource s channels r → HasSource (channels_of opened) channels r
    one r h = let is = source_told s.rate s.sources.items opened r.source channels listed h in record { there = is.0; same = is.1 }

pub regions_read : (s : Session) (t : ℕ) (k : Track) → slice_get s.tracks.items t ≡ Some k → k.list ≡ track_regions s t
regions_read s t k there = sym (ap (λ o. option_map_or (λ (q : Track). q.list) o []) there)
