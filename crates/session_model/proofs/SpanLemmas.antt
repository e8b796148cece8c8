-- The places of the regions that meet a span: one region on, and at the end; and what the index tells of a place.
use Rattle.std.proofs.Common.{◌≡◌, ◌≢◌, ℕ, zero, suc, ◌+◌, ◌≤◌, ◌<◌, Bool, true, false, ◌||◌, cond, refl, ap, sym, ◌∙◌, arith, subst, List, [], ◌∷◌, ◌++◌, length, map, drop, get_or, append_assoc, All}
use Rattle.std.specs.List.{list_any}
use Rattle.std.proofs.lemmas.Bool.Decides.{nat_tests}
use Rattle.std.proofs.lemmas.List.{at_drop_more, at_drop_all, get_or-map, length-map, length_push, append-nil}
use Rattle.sound_model.specs.Regions as sound
use Rattle.session_model.specs.declared.region.Region.{Region}
use Rattle.session_model.specs.declared.starts.Stretch.{Stretch}
use Rattle.session_model.specs.Region.{region_of, regions_of, IsRegion}
use Rattle.session_model.specs.Playlist.{meets, places_meeting_from}
use Rattle.session_model.proofs.Cases.{or_false}
use Rattle.session_model.specs.Starts.{bare, stretch, stretches_from, IsIndexOf, meets_at}

-- a region at a place of a playlist keeps its limits
pub region_at : (xs : List Region) (i : ℕ) (r : Region) → All IsRegion (regions_of xs) → i < length xs → r ≡ get_or xs i r → IsRegion (region_of r)
region_at xs i r limits h is = subst IsRegion (get_or-map region_of xs i r (region_of r) h ∙ ap region_of (sym is))
    (limits i (region_of r) (omega (arith, length-map xs region_of)))

-- ---- places found

-- the places found before one, and those from it on, are all of them
abbrev pub Found : List sound.Region → ℕ → ℕ → List ℕ → ℕ → List ℕ → Type 0
Found rs from frames all i found = (length found ≤ i) × (found ++ places_meeting_from i (drop i rs) from frames ≡ all)

-- whether the region at a place meets the span
abbrev pub MeetsThere : List sound.Region → ℕ → ℕ → ℕ → Bool → Type 0
MeetsThere rs from frames i b = (d : sound.Region) → meets from frames (get_or rs i d) ≡ b

-- the places from one on, by the region there
places_more : (rs : List sound.Region) (from frames i : ℕ) (b : Bool) → i < length rs → MeetsThere rs from frames i b →
    places_meeting_from i (drop i rs) from frames ≡ cond b (i ∷ places_meeting_from (i + 1) (drop (i + 1) rs) from frames) (places_meeting_from (i + 1) (drop (i + 1) rs) from frames)
places_more [] from frames i b h is = absurd (omega arith)
places_more (r ∷ rs) from frames i b h is =
    let next : suc i ≡ i + 1 = omega arith in
    at_drop_more (λ qs. places_meeting_from i qs from frames) (r ∷ rs) i r h
    ∙ ap (λ t. cond t (i ∷ places_meeting_from (suc i) (drop (i + 1) (r ∷ rs)) from frames) (places_meeting_from (suc i) (drop (i + 1) (r ∷ rs)) from frames)) (is r)
    ∙ ap (λ k. cond b (i ∷ places_meeting_from k (drop (i + 1) (r ∷ rs)) from frames) (places_meeting_from k (drop (i + 1) (r ∷ rs)) from frames)) next

-- a region that meets the span comes behind those found
pub found_here : (rs : List sound.Region) (from frames : ℕ) (all : List ℕ) (i : ℕ) (found new : List ℕ) → i < length rs → MeetsThere rs from frames i true →
    new ≡ found ++ i ∷ [] → Found rs from frames all i found → Found rs from frames all (i + 1) new
found_here rs from frames all i found new h is same so_far = (
  omega (arith, ap length same, length_push found i, so_far.0),
  ap (λ ps. ps ++ places_meeting_from (i + 1) (drop (i + 1) rs) from frames) same
      ∙ append_assoc found (i ∷ []) (places_meeting_from (i + 1) (drop (i + 1) rs) from frames)
      ∙ sym (ap (λ ps. found ++ ps) (places_more rs from frames i true h is)) ∙ so_far.1,
)

pub found_elsewhere : (rs : List sound.Region) (from frames : ℕ) (all : List ℕ) (i : ℕ) (found new : List ℕ) → i < length rs → MeetsThere rs from frames i false →
    new ≡ found → Found rs from frames all i found → Found rs from frames all (i + 1) new
found_elsewhere rs from frames all i found new h is same so_far = (
  omega (arith, ap length same, so_far.0),
  ap (λ ps. ps ++ places_meeting_from (i + 1) (drop (i + 1) rs) from frames) same ∙ sym (ap (λ ps. found ++ ps) (places_more rs from frames i false h is)) ∙ so_far.1,
)

-- past the last region nothing is found
pub found_all : (rs : List sound.Region) (from frames : ℕ) (all : List ℕ) (i : ℕ) (found : List ℕ) → length rs ≤ i → Found rs from frames all i found → found ≡ all
found_all rs from frames all i found h so_far =
    sym (ap (λ ps. found ++ ps) (at_drop_all (λ qs. places_meeting_from i qs from frames) rs i h) ∙ append-nil found) ∙ so_far.1

-- ---- what the index tells of a place

here : (from frames k i : ℕ) (r : sound.Region) → i ≡ k → meets_at from frames k (stretch i r) ≡ meets from frames r
here from frames k i r e = grind (arith, nat_tests)

elsewhere : (from frames k i : ℕ) (r : sound.Region) → i ≢ k → meets_at from frames k (stretch i r) ≡ false
elsewhere from frames k i r h = grind (arith, nat_tests)

-- those behind a place aren't at it
not_there : (from frames k i : ℕ) (rs : List sound.Region) → k < i → list_any (meets_at from frames k) (stretches_from i rs) ≡ false
not_there from frames k i [] h = refl
not_there from frames k i (r ∷ rs) h =
    ap (λ b. b || list_any (meets_at from frames k) (stretches_from (suc i) rs)) (elsewhere from frames k i r (omega arith)) ∙ not_there from frames k (suc i) rs (omega arith)

at_place : (from frames k i j : ℕ) (rs : List sound.Region) (d : sound.Region) → i + j ≡ k → j < length rs →
    list_any (meets_at from frames k) (stretches_from i rs) ≡ meets from frames (get_or rs j d)
at_place from frames k i j [] d e h = absurd (omega arith)
at_place from frames k i zero (r ∷ rs) d e h =
    ap (λ b. meets_at from frames k (stretch i r) || b) (not_there from frames k (suc i) rs (omega arith)) ∙ or_false (meets_at from frames k (stretch i r))
    ∙ here from frames k i r (omega arith)
at_place from frames k i (suc j) (r ∷ rs) d e h =
    ap (λ b. b || list_any (meets_at from frames k) (stretches_from (suc i) rs)) (elsewhere from frames k i r (omega arith))
    ∙ at_place from frames k (suc i) j rs d (omega arith) (omega arith)

-- a test of a place says nothing of reaches
without_reaches : (from frames k : ℕ) (index : List Stretch) → list_any (meets_at from frames k) (map bare index) ≡ list_any (meets_at from frames k) index
without_reaches from frames k [] = refl
without_reaches from frames k (s ∷ index) = ap (λ b. meets_at from frames k s || b) (without_reaches from frames k index)

pub index_tells : (from frames k : ℕ) (rs : List sound.Region) (index : List Stretch) (b : Bool) → IsIndexOf rs index → k < length rs →
    list_any (meets_at from frames k) index ≡ b → MeetsThere rs from frames k b
index_tells from frames k rs index b of h e = λ d.
    sym (at_place from frames k 0 k rs d (omega arith) h) ∙ sym (of (meets_at from frames k)) ∙ without_reaches from frames k index ∙ e
