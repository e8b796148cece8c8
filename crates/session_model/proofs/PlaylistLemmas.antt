-- A playlist stays one with a further region, and without one.
use Rattle.std.proofs.Common.{◌≡◌, ◌≢◌, ℕ, suc, ◌≤◌, ◌<◌, Bool, true, false, not, ◌==◌, refl, ap, sym, ◌∙◌, arith, List, [], ◌∷◌, length, filter, AllPairs, All, IsTrue}
use Rattle.std.proofs.lemmas.Bool.Decides.{nat_tests}
use Rattle.std.proofs.lemmas.List.Elements.{All-cons, All-head, All-tail, All-weaker, All-filter}
use Rattle.std.proofs.lemmas.List.Kept.{AllPairs-cons, AllPairs-filter}
use Rattle.sound_model.specs.Regions.{Region}
use Rattle.sound_model.specs.Layers.{is_below, with_region, by_layer}
use Rattle.session_model.specs.Region.{IsRegion}
use Rattle.session_model.specs.Playlist.{IsPlaylist, has_id, has_region, without_region}
use Rattle.session_model.specs.Laws.{PlaylistsAreInOrder}
use Rattle.session_model.proofs.Cases.{by_test, false_is_true}

abbrev LiesBelow : Region → Region → Type 0
LiesBelow r q = IsTrue (is_below r q)

abbrev Differs : Region → Region → Type 0
Differs r q = r.id ≢ q.id

abbrev Rises : List Region → Type 0
Rises qs = AllPairs LiesBelow qs

abbrev AreApart : List Region → Type 0
AreApart qs = AllPairs Differs qs

one_is_below : (r q : Region) → Differs r q → is_below r q ≡ false → LiesBelow q r
one_is_below r q h e = grind (arith, nat_tests)

below_the_higher : (r q p : Region) → LiesBelow r q → LiesBelow q p → LiesBelow r p
below_the_higher r q p h l = grind (arith, nat_tests)

-- ---- one more

length-with_region : (r : Region) (qs : List Region) → length (with_region r qs) ≡ suc (length qs)
length-with_region r [] = refl
length-with_region r (q ∷ qs) = by_test (is_below r q)
    (λ e. rw e refl)
    (λ e. rw e (ap suc (length-with_region r qs)))

pub All-with_region : (P : Region → Type 0) (r : Region) (qs : List Region) → P r → All P qs → All P (with_region r qs)
All-with_region P r [] here h = All-cons P r [] here h
All-with_region P r (q ∷ qs) here h = by_test (is_below r q)
    (λ e. rw e (All-cons P r (q ∷ qs) here h))
    (λ e. rw e (All-cons P q (with_region r qs) (All-head P q qs h) (All-with_region P r qs here (All-tail P q qs h))))

pair-head : (R : Region → Region → Type 0) (q : Region) (qs : List Region) → AllPairs R (q ∷ qs) → All (R q) qs
pair-head R q qs h k d l = h 0 (suc k) d (omega arith) (omega arith)

pair-tail : (R : Region → Region → Type 0) (q : Region) (qs : List Region) → AllPairs R (q ∷ qs) → AllPairs R qs
pair-tail R q qs h i j d l m = h (suc i) (suc j) d (omega arith) (omega arith)

apart-with_region : (r : Region) (qs : List Region) → All (Differs r) qs → AreApart qs → AreApart (with_region r qs)
apart-with_region r [] new h = AllPairs-cons Differs r [] new h
apart-with_region r (q ∷ qs) new h = by_test (is_below r q)
    (λ e. rw e (AllPairs-cons Differs r (q ∷ qs) new h))
    (λ e. rw e (AllPairs-cons Differs q (with_region r qs)
    (All-with_region (Differs q) r qs (λ same. All-head (Differs r) q qs new (sym same)) (pair-head Differs q qs h))
    (apart-with_region r qs (All-tail (Differs r) q qs new) (pair-tail Differs q qs h))))

rises-with_region : (r : Region) (qs : List Region) → All (Differs r) qs → Rises qs → Rises (with_region r qs)
rises-with_region r [] new h = AllPairs-cons LiesBelow r [] (λ k d l. absurd (omega arith)) h
rises-with_region r (q ∷ qs) new h = by_test (is_below r q)
    (λ e. rw e (AllPairs-cons LiesBelow r (q ∷ qs)
    (All-cons (LiesBelow r) q qs e (All-weaker (LiesBelow q) (LiesBelow r) (λ p l. below_the_higher r q p e l) qs (pair-head LiesBelow q qs h))) h))
    (λ e. rw e (AllPairs-cons LiesBelow q (with_region r qs)
    (All-with_region (LiesBelow q) r qs (one_is_below r q (All-head (Differs r) q qs new) e) (pair-head LiesBelow q qs h))
    (rises-with_region r qs (All-tail (Differs r) q qs new) (pair-tail LiesBelow q qs h))))

all_differ : (r : Region) (qs : List Region) → has_region qs r.id ≡ false → All (Differs r) qs
all_differ r [] e = λ k d l. absurd (omega arith)
all_differ r (q ∷ qs) e = by_test (q.id == r.id)
    (λ t. false_is_true (sym (rw t at e)))
    (λ t. All-cons (Differs r) q qs (first t) (all_differ r qs (rw t at e)))
  where
    first : (q.id == r.id) ≡ false → Differs r q
    first t = grind (arith, nat_tests)

pub IsPlaylist-with_region : (r : Region) (qs : List Region) → IsPlaylist qs → length qs < 256 → has_region qs r.id ≡ false → IsRegion r → IsPlaylist (with_region r qs)
IsPlaylist-with_region r qs h room fresh limits = record {
  few = omega (arith, length-with_region r qs);
  limits = All-with_region IsRegion r qs limits h.limits;
  rising = rises-with_region r qs (all_differ r qs fresh) h.rising;
  apart = apart-with_region r qs (all_differ r qs fresh) h.apart;
}

-- ---- one less

length-filter : (p : Region → Bool) (qs : List Region) → length (filter p qs) ≤ length qs
length-filter p [] = omega arith
length-filter p (q ∷ qs) = by_test (p q)
    (λ e. rw e (omega (arith, length-filter p qs)))
    (λ e. rw e (omega (arith, length-filter p qs)))

pub IsPlaylist-without_region : (id : ℕ) (qs : List Region) → IsPlaylist qs → IsPlaylist (without_region qs id)
IsPlaylist-without_region id qs h = let p : Region → Bool = λ r. not (has_id id r) in record {
  few = omega (arith, length-filter p qs, h.few);
  limits = All-filter p IsRegion qs h.limits;
  rising = AllPairs-filter LiesBelow p qs h.rising;
  apart = AllPairs-filter Differs p qs h.apart;
}

-- ---- in order

pub in_order : (qs : List Region) → Rises qs → by_layer qs ≡ qs
in_order [] h = refl
in_order (q ∷ qs) h = ap (with_region q) (in_order qs (pair-tail LiesBelow q qs h)) ∙ first qs (pair-head LiesBelow q qs h)
  where
    first : (rs : List Region) → All (LiesBelow q) rs → with_region q rs ≡ q ∷ rs
    first [] l = refl
    first (r ∷ rs) l = let below : is_below q r ≡ true = All-head (LiesBelow q) r rs l in rw below refl

pub playlists_are_in_order : PlaylistsAreInOrder
playlists_are_in_order qs h = in_order qs h.rising
