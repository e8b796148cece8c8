-- Playlists that are made of regions from the last one on.
use Rattle.std.proofs.Common.{◌≡◌, ◌≢◌, ℕ, zero, suc, ◌+◌, ◌<◌, Bool, true, false, ◌||◌, refl, ap, ◌∙◌, sym, arith, List, [], ◌∷◌, length, map, drop, get_or, ◌==◌}
use Rattle.std.specs.List.{list_any}
use Rattle.std.proofs.lemmas.Bool.Decides.{nat_tests}
use Rattle.std.proofs.lemmas.List.{drop_more, length-drop, length-map, get_or-drop}
use Rattle.sound_model.specs.Regions.{Region}
use Rattle.sound_model.specs.Layers.{is_below, with_region, by_layer}
use Rattle.sound_laws.proofs.Cases.{by_test}
use Rattle.session_model.specs.Playlist.{has_id, has_region}
use Rattle.session_model.specs.Region.{IsRegion}
use Rattle.session_walk.specs.declared.said as text
use Rattle.session_walk.specs.InRange.{IsRegionText}
use Rattle.session_toml.specs.Apart.{ArePlayable}
use Rattle.session_toml.specs.Built.{region_in, playlist_in}

-- ---- regions by layer are those regions

with-long : (r : Region) (qs : List Region) → length (with_region r qs) ≡ suc (length qs)
with-long r [] = refl
with-long r (q ∷ qs) = by_test (is_below r q)
    (λ e. rw e refl)
    (λ e. rw e (ap suc (with-long r qs)))

pub by_layer-long : (rs : List Region) → length (by_layer rs) ≡ length rs
by_layer-long [] = refl
by_layer-long (r ∷ rs) = with-long r (by_layer rs) ∙ ap suc (by_layer-long rs)

between : (a b c : Bool) → (a || (b || c)) ≡ (b || (a || c))
between true true c = refl
between true false c = refl
between false true c = refl
between false false c = refl

with-any : (p : Region → Bool) (r : Region) (qs : List Region) → list_any p (with_region r qs) ≡ (p r || list_any p qs)
with-any p r [] = refl
with-any p r (q ∷ qs) = by_test (is_below r q)
    (λ e. rw e refl)
    (λ e. rw e (ap (λ b. p q || b) (with-any p r qs) ∙ between (p q) (p r) (list_any p qs)))

by_layer-any : (p : Region → Bool) (rs : List Region) → list_any p (by_layer rs) ≡ list_any p rs
by_layer-any p [] = refl
by_layer-any p (r ∷ rs) = with-any p r (by_layer rs) ∙ ap (λ b. p r || b) (by_layer-any p rs)

-- ---- one more region

pub playlist-more : (names : List (List ℕ)) (regions : List text.RegionText.RegionText) (i j : ℕ) (d : text.RegionText.RegionText) → i + 1 ≡ j → i < length regions →
    playlist_in names (drop i regions) ≡ with_region (region_in names (get_or regions i d)) (playlist_in names (drop j regions))
playlist-more names regions i j d next h = ap (playlist_in names) (drop_more regions i d h)
    ∙ ap (λ k. with_region (region_in names (get_or regions i d)) (playlist_in names (drop k regions))) next

pub playlist-long : (names : List (List ℕ)) (regions : List text.RegionText.RegionText) → length (playlist_in names regions) ≡ length regions
playlist-long names regions = by_layer-long (map (region_in names) regions) ∙ length-map regions (region_in names)

none-has : (names : List (List ℕ)) (regions : List text.RegionText.RegionText) (id : ℕ) → ((k : ℕ) (d : text.RegionText.RegionText) → k < length regions → id ≢ (get_or regions k d).id) →
    list_any (has_id id) (map (region_in names) regions) ≡ false
unfolding region_in
none-has names [] id apart = refl
none-has names (r ∷ rs) id apart =
    let other : id ≢ r.id = apart 0 r (omega arith) in
    let first : (r.id == id) ≡ false = grind (arith, nat_tests) in
    rw (first, none-has names rs id (λ k d h. apart (suc k) d (omega arith))) refl

get_or-same : {X : Type 0} (xs : List X) (i : ℕ) (d e : X) → i < length xs → get_or xs i d ≡ get_or xs i e
get_or-same [] i d e h = absurd (omega arith)
get_or-same (x ∷ xs) zero d e h = refl
get_or-same (x ∷ xs) (suc i) d e h = get_or-same xs i d e (omega arith)

pub playlist-fresh : (names : List (List ℕ)) (regions : List text.RegionText.RegionText) (i j : ℕ) (r : text.RegionText.RegionText) → i + 1 ≡ j → i < length regions → r ≡ get_or regions i r →
    ArePlayable regions → has_region (playlist_in names (drop j regions)) r.id ≡ false
playlist-fresh names regions i j r next h is playable = by_layer-any (has_id r.id) (map (region_in names) (drop j regions))
    ∙ none-has names (drop j regions) r.id apart
  where
    apart : (k : ℕ) (d : text.RegionText.RegionText) → k < length (drop j regions) → r.id ≢ (get_or (drop j regions) k d).id
    apart k d l = let at : get_or (drop j regions) k d ≡ get_or regions (j + k) d = get_or-drop j regions k d in
        λ same. playable.apart i (j + k) d (omega arith) (omega (arith, length-drop j regions)) (ap (λ t. t.id) (get_or-same regions i d r h ∙ sym is) ∙ same ∙ ap (λ t. t.id) at)

pub region-limits : (names : List (List ℕ)) (r : text.RegionText.RegionText) → IsRegionText r → IsRegion (region_in names r)
unfolding region_in
region-limits names r h = record {
  id_least = h.id_least;
  id_most = h.id_most;
  start = h.start;
  some = h.some;
  long = h.long;
  source_end = h.source_end;
  end = h.end;
  layer = h.layer;
  gain = h.gain;
  fades = h.fades;
}

pub region-id : (names : List (List ℕ)) (r : text.RegionText.RegionText) → (region_in names r).id ≡ r.id
unfolding region_in
region-id names r = refl
