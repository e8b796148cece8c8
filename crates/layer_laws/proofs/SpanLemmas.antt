-- The regions that meet a span, in their order, and what they leave of the sound.
use Rattle.std.proofs.Common.{◌≡◌, ℕ, suc, ◌+◌, ◌≤◌, ◌<◌, Bool, true, false, cond, refl, ap, arith, sym, ◌∙◌, subst, List, [], ◌∷◌, ◌++◌, length, map, filter, reverse, get_or, append_assoc, All}
use Rattle.std.specs.List.{AllByRecursion}
use Rattle.std.proofs.lemmas.Bool.Decides.{nat_tests}
use Rattle.std.proofs.lemmas.List.{reverse-append, append-nil, get_or_at, length_push}
use Rattle.std.proofs.lemmas.List.Elements.{filter-append, All-cons}
use Rattle.sound_model.specs.Numbers.{clip}
use Rattle.sound_model.specs.Regions.{Region, Sounds, covers}
use Rattle.sound_model.specs.Layers.{is_below, over, lay, with_region, by_layer, track_sample}
use Rattle.sound_laws.proofs.Cases.{by_test}
use Rattle.sound_laws.proofs.LayerLaws.{InOrder, in_order_by_layer, with-before, with-behind, lay-elsewhere}
use Rattle.session_model.specs.Playlist.{meets, places_meeting_from}
use Rattle.layer_laws.specs.Laws.{OnlyCoveringMatter, OnlyCoveringIsHeard, PlacesAreOfThoseMeeting, PlacesAreThere}

-- ---- a filter, step by step

kept : (p : Region → Bool) (r : Region) (rs : List Region) → p r ≡ true → filter p (r ∷ rs) ≡ r ∷ filter p rs
kept p r rs e = ap (λ b. cond b (r ∷ filter p rs) (filter p rs)) e

left : (p : Region → Bool) (r : Region) (rs : List Region) → p r ≡ false → filter p (r ∷ rs) ≡ filter p rs
left p r rs e = ap (λ b. cond b (r ∷ filter p rs) (filter p rs)) e

filter-reverse : (p : Region → Bool) (rs : List Region) → filter p (reverse rs) ≡ reverse (filter p rs)
filter-reverse p [] = refl
filter-reverse p (r ∷ rs) =
    ap (filter p) (reverse-append (r ∷ []) rs) ∙ filter-append p (reverse rs) (r ∷ []) ∙ ap (λ qs. qs ++ filter p (r ∷ [])) (filter-reverse p rs)
    ∙ by_test (p r)
    (λ e. ap (λ qs. reverse (filter p rs) ++ qs) (kept p r [] e) ∙ sym (ap reverse (kept p r rs e) ∙ reverse-append (r ∷ []) (filter p rs)))
    (λ e. ap (λ qs. reverse (filter p rs) ++ qs) (left p r [] e) ∙ append-nil (reverse (filter p rs)) ∙ sym (ap reverse (left p r rs e)))

-- ---- what doesn't meet a span isn't heard in it

not_covered : (r : Region) (from frames x : ℕ) → from ≤ x → x < from + frames → meets from frames r ≡ false → covers r x ≡ false
not_covered r from frames x low high e = grind (arith, nat_tests)

pub lay_meeting : (sounds : Sounds) (rs : List Region) (from frames c x : ℕ) → from ≤ x → x < from + frames →
    lay sounds c x (filter (meets from frames) rs) ≡ lay sounds c x rs
lay_meeting sounds [] from frames c x low high = refl
lay_meeting sounds (r ∷ rs) from frames c x low high = by_test (meets from frames r)
    (λ e. ap (lay sounds c x) (kept (meets from frames) r rs e) ∙ ap (λ s. cond (covers r x) (over sounds c x r s) s) (lay_meeting sounds rs from frames c x low high))
    (λ e. ap (lay sounds c x) (left (meets from frames) r rs e) ∙ lay_meeting sounds rs from frames c x low high
    ∙ sym (lay-elsewhere sounds c x r rs (not_covered r from frames x low high e)))

pub only_covering_matter : OnlyCoveringMatter
only_covering_matter sounds regions from frames c x low high =
    ap (lay sounds c x) (sym (filter-reverse (meets from frames) regions)) ∙ lay_meeting sounds (reverse regions) from frames c x low high

-- ---- some regions of a list stand in the order in which they stand among all

above_higher : (r q s : Region) → is_below r q ≡ true → is_below s q ≡ false → is_below r s ≡ true
above_higher r q s h g = grind (arith, nat_tests)

abbrev LieAbove : Region → List Region → Type 0
LieAbove r qs = AllByRecursion (λ q. is_below r q ≡ true) qs

all_above : (r q : Region) (qs : List Region) → is_below r q ≡ true → AllByRecursion (λ s. is_below s q ≡ false) qs → LieAbove r qs
all_above r q [] h all = tt
all_above r q (s ∷ qs) h all = (above_higher r q s h all.0, all_above r q qs h all.1)

some_above : (p : Region → Bool) (r : Region) (qs : List Region) → LieAbove r qs → LieAbove r (filter p qs)
some_above p r [] all = tt
some_above p r (q ∷ qs) all = by_test (p q)
    (λ e. subst (LieAbove r) (sym (kept p q qs e)) (all.0, some_above p r qs all.1))
    (λ e. subst (LieAbove r) (sym (left p q qs e)) (some_above p r qs all.1))

with_lowest : (r : Region) (qs : List Region) → LieAbove r qs → with_region r qs ≡ r ∷ qs
with_lowest r [] all = refl
with_lowest r (q ∷ qs) all = with-before r q qs all.0

filter-with_kept : (p : Region → Bool) (r : Region) (qs : List Region) → p r ≡ true → InOrder qs → filter p (with_region r qs) ≡ with_region r (filter p qs)
filter-with_kept p r [] here h = kept p r [] here
filter-with_kept p r (q ∷ qs) here h = by_test (is_below r q)
    (λ e. ap (filter p) (with-before r q qs e) ∙ kept p r (q ∷ qs) here
    ∙ sym (with_lowest r (filter p (q ∷ qs)) (some_above p r (q ∷ qs) (e, all_above r q qs e h.0))))
    (λ e. ap (filter p) (with-behind r q qs e) ∙ by_test (p q)
    (λ g. kept p q (with_region r qs) g ∙ ap (λ rs. q ∷ rs) (filter-with_kept p r qs here h.1)
    ∙ sym (ap (with_region r) (kept p q qs g) ∙ with-behind r q (filter p qs) e))
    (λ g. left p q (with_region r qs) g ∙ filter-with_kept p r qs here h.1 ∙ sym (ap (with_region r) (left p q qs g))))

filter-with_left : (p : Region → Bool) (r : Region) (qs : List Region) → p r ≡ false → filter p (with_region r qs) ≡ filter p qs
filter-with_left p r [] away = left p r [] away
filter-with_left p r (q ∷ qs) away = by_test (is_below r q)
    (λ e. ap (filter p) (with-before r q qs e) ∙ left p r (q ∷ qs) away)
    (λ e. ap (filter p) (with-behind r q qs e) ∙ ap (λ rs. cond (p q) (q ∷ rs) rs) (filter-with_left p r qs away))

by_layer-filter : (p : Region → Bool) (rs : List Region) → by_layer (filter p rs) ≡ filter p (by_layer rs)
by_layer-filter p [] = refl
by_layer-filter p (r ∷ rs) = by_test (p r)
    (λ e. ap by_layer (kept p r rs e) ∙ ap (with_region r) (by_layer-filter p rs) ∙ sym (filter-with_kept p r (by_layer rs) e (in_order_by_layer rs)))
    (λ e. ap by_layer (left p r rs e) ∙ by_layer-filter p rs ∙ sym (filter-with_left p r (by_layer rs) e))

pub only_covering_is_heard : OnlyCoveringIsHeard
unfolding track_sample
only_covering_is_heard sounds regions from frames c x low high =
    ap clip (ap (λ rs. lay sounds c x (reverse rs)) (by_layer-filter (meets from frames) regions)
    ∙ only_covering_matter sounds (by_layer regions) from frames c x low high)

-- ---- places

places_from : (from frames : ℕ) (d : Region) (front rs all : List Region) (i : ℕ) → all ≡ front ++ rs → length front ≡ i →
    map (λ place. get_or all place d) (places_meeting_from i rs from frames) ≡ filter (meets from frames) rs
places_from from frames d front [] all i whole here = refl
places_from from frames d front (r ∷ rs) all i whole here =
    let first : get_or all i d ≡ r = ap (λ qs. get_or qs i d) whole ∙ get_or_at front r rs d i here in
    let rest = places_from from frames d (front ++ r ∷ []) rs all (suc i) (whole ∙ sym (append_assoc front (r ∷ []) rs)) (omega (arith, length_push front r)) in
    by_test (meets from frames r)
    (λ e. rw e (ap (λ q. q ∷ map (λ place. get_or all place d) (places_meeting_from (suc i) rs from frames)) first ∙ ap (λ qs. r ∷ qs) rest))
    (λ e. rw e rest)

pub places_are_of_those_meeting : PlacesAreOfThoseMeeting
places_are_of_those_meeting regions from frames d = places_from from frames d [] regions regions 0 refl refl

there_from : (from frames n i : ℕ) (rs : List Region) → i + length rs ≡ n → All (λ place. place < n) (places_meeting_from i rs from frames)
there_from from frames n i [] long = λ k d h. absurd (omega arith)
there_from from frames n i (r ∷ rs) long = by_test (meets from frames r)
    (λ e. rw e (All-cons (λ place. place < n) i (places_meeting_from (suc i) rs from frames) (omega arith) (there_from from frames n (suc i) rs (omega arith))))
    (λ e. rw e (there_from from frames n (suc i) rs (omega arith)))

pub places_are_there : PlacesAreThere
places_are_there regions from frames = there_from from frames (length regions) 0 regions (omega arith)
