-- The regions at places of a playlist.
use Rattle.std.proofs.Common.{◌≡◌, ℕ, suc, ◌+◌, ◌-◌, ◌<◌, ◌≤◌, List, [], ◌∷◌, length, get_or, take, drop, All, refl, ap, sym, ◌∙◌, subst, arith, drop-cons}
use Rattle.std.proofs.lemmas.List.{get_or-map, length-map, map_more, take_all}
use Rattle.std.proofs.lemmas.List.Elements.{All-get_or, All-same, All-push, All-weaker}
use Rattle.sound_model.specs.Regions as sound
use Rattle.session_model.specs.Region.{region_of, regions_of}
use Rattle.session_model.specs.declared.region.Region.{Region}
use Rattle.playlist_layers.specs.Spans.{IsWhole, no_region, picked}

pub region_at : (regions : List Region) (p : ℕ) (r : Region) → p < length regions → r ≡ get_or regions p r → get_or (regions_of regions) p no_region ≡ region_of r
region_at regions p r h e = get_or-map region_of regions p r no_region h ∙ ap region_of (sym e)

-- what holds of all regions holds of one
pub holds_at : (P : sound.Region → Type 0) (regions : List Region) (p : ℕ) (r : Region) → p < length regions → r ≡ get_or regions p r → All P (regions_of regions) → P (region_of r)
holds_at P regions p r h e all = subst P (region_at regions p r h e) (All-get_or P (regions_of regions) p no_region (omega (arith, length-map regions region_of)) all)

-- what holds of all that were picked holds of one
pub holds_picked : (P : sound.Region → Type 0) (regions : List Region) (places : List ℕ) (i : ℕ) (r : Region) → i < length places → get_or places i 0 < length regions → r ≡ get_or regions (get_or places i 0) r
    → All P (picked (regions_of regions) places) → P (region_of r)
holds_picked P regions places i r within h e all =
    let K = λ (q : sound.Region). P q in
    subst K (get_or-map (λ p. get_or (regions_of regions) p no_region) places i 0 no_region within ∙ region_at regions (get_or places i 0) r h e)
    (All-get_or P (picked (regions_of regions) places) i no_region (omega (arith, length-map places (λ p. get_or (regions_of regions) p no_region))) all)

-- a place before others
pub dropped : (places : List ℕ) (i : ℕ) → 0 < i → i ≤ length places → drop (i - 1) places ≡ get_or places (i - 1) 0 ∷ drop i places
dropped places i some within = drop-cons places (i - 1) 0 (omega arith) ∙ ap (λ k. get_or places (i - 1) 0 ∷ drop k places) up
  where
    up : suc (i - 1) ≡ i
    up = omega arith

pub no_places : (places : List ℕ) → length places ≡ 0 → places ≡ []
no_places [] h = refl
no_places (p ∷ ps) h = absurd (omega arith)

pub one_place : (places : List ℕ) → length places ≡ 1 → places ≡ get_or places 0 0 ∷ []
one_place [] h = absurd (omega arith)
one_place (p ∷ ps) h = ap (λ l. p ∷ l) (no_places ps (omega arith))

-- the one region that was picked
pub one_picked : (regions : List Region) (places : List ℕ) (r : Region) → length places ≡ 1 → get_or places 0 0 < length regions → r ≡ get_or regions (get_or places 0 0) r → region_of r ∷ [] ≡ picked (regions_of regions) places
one_picked regions places r one h e =
    ap (λ q. q ∷ []) (sym (region_at regions (get_or places 0 0) r h e)) ∙ ap (picked (regions_of regions)) (sym (one_place places one))

-- ---- cut spans

shorter : (here end sooner : ℕ) (r : sound.Region) → sooner ≤ end → IsWhole here end r → IsWhole here sooner r
shorter here end sooner r h whole = record { begins = λ b. let past = whole.begins b in omega arith; ends = λ b. let past = whole.ends b in omega arith }

pub whole_more : (here end sooner : ℕ) (regions : List Region) (places : List ℕ) (i : ℕ) (r : Region) → i < length places → get_or places i 0 < length regions → r ≡ get_or regions (get_or places i 0) r → sooner ≤ end
    → IsWhole here sooner (region_of r) → All (IsWhole here end) (picked (regions_of regions) (take i places)) → All (IsWhole here sooner) (picked (regions_of regions) (take (i + 1) places))
whole_more here end sooner regions places i r within h e less now before =
    All-same (IsWhole here sooner) _ _ (map_more (λ p. get_or (regions_of regions) p no_region) places i 0 within)
    (All-push (IsWhole here sooner) (picked (regions_of regions) (take i places)) (get_or (regions_of regions) (get_or places i 0) no_region)
    (All-weaker (IsWhole here end) (IsWhole here sooner) (λ q. shorter here end sooner q less) (picked (regions_of regions) (take i places)) before)
    (subst (IsWhole here sooner) (sym (region_at regions (get_or places i 0) r h e)) now))

pub whole_all : (here end : ℕ) (regions : List sound.Region) (places : List ℕ) (i : ℕ) → length places ≤ i → All (IsWhole here end) (picked regions (take i places)) → All (IsWhole here end) (picked regions places)
whole_all here end regions places i long before =
    All-same (IsWhole here end) (picked regions places) (picked regions (take i places)) (ap (picked regions) (sym (take_all i places long))) before

-- what holds of a region holds of the one at its place
pub at_place : (P : sound.Region → Type 0) (regions : List Region) (p : ℕ) (r : Region) → p < length regions → r ≡ get_or regions p r → P (region_of r) → P (get_or (regions_of regions) p no_region)
at_place P regions p r h e here = subst P (sym (region_at regions p r h e)) here
