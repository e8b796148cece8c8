-- The index of a playlist: how it is filled, ordered and read.
use Rattle.std.proofs.Common.{◌≡◌, ◌≢◌, ℕ, suc, ◌+◌, ◌-◌, ◌≤◌, ◌<◌, ◌^◌, Bool, true, false, ◌==◌, ◌||◌, refl, ap, sym, ◌∙◌, arith, subst, max, List, [], ◌∷◌, ◌++◌, length, map, set, take, drop, get_or, append_assoc, All}
use Rattle.std.specs.List.{list_any}
use Rattle.std.specs.List.Sorted.{IsNonDecreasingBy}
use Rattle.std.proofs.lemmas.Bool.Decides.{nat_tests}
use Rattle.std.proofs.lemmas.List.{at_drop_more, at_drop_all, append-nil, length_push, length-set, length-take, length-drop, get_or-map, get_or-set_same, get_or-set_other, get_or-take, get_or-drop, set-get_or, map-set, take_more_set, take-append-drop, length-map}
use Rattle.std.proofs.lemmas.List.Elements.{All-cons, All-push}
use Rattle.std.proofs.lemmas.List.Folds.{list_any-append, list_any_none, list_any_more}
use Rattle.std.proofs.lemmas.List.Sorted.{IsNonDecreasingBy-push}
use Rattle.sound_model.specs.Regions as sound
use Rattle.session_model.specs.declared.region.Region.{Region}
use Rattle.session_model.specs.declared.starts.Stretch.{Stretch}
use Rattle.session_model.specs.Region.{region_of, regions_of, IsRegion}
use Rattle.session_model.specs.Starts.{stretch, stretches_from, bare, IsStretch, IsRising, meets_at, goes_on}
use Rattle.session_model.proofs.Cases.{by_test, or_true, or_false}

-- two tests that agree at each item of a list
list_any-same : {X : Type 0} (p q : X → Bool) (xs : List X) → All (λ x. p x ≡ q x) xs → list_any p xs ≡ list_any q xs
list_any-same p q [] same = refl
list_any-same p q (x ∷ xs) same =
    ap (λ b. b || list_any p xs) (same 0 x (omega arith)) ∙ ap (λ b. q x || b) (list_any-same p q xs (λ k d h. same (suc k) d (omega arith)))

-- ---- filled from the regions

-- the stretches up to a place, and those from it on, are all of them
abbrev pub Filled : List Region → ℕ → List Stretch → Type 0
Filled xs i items = (length items ≡ i) × (items ++ stretches_from i (regions_of (drop i xs)) ≡ stretches_from 0 (regions_of xs))

pub filled_more : (xs : List Region) (i : ℕ) (r : Region) (items new : List Stretch) → i < length xs → r ≡ get_or xs i r →
    new ≡ items ++ stretch i (region_of r) ∷ [] → Filled xs i items → Filled xs (i + 1) new
filled_more xs i r items new h is same so_far = (
  omega (arith, ap length same, length_push items (stretch i (region_of r)), so_far.0),
  ap (λ ss. ss ++ stretches_from (i + 1) (regions_of (drop (i + 1) xs))) same
      ∙ append_assoc items (stretch i (region_of r) ∷ []) (stretches_from (i + 1) (regions_of (drop (i + 1) xs)))
      ∙ sym (ap (λ ss. items ++ ss) (at_drop_more (λ qs. stretches_from i (regions_of qs)) xs i r h
      ∙ ap (λ q. stretches_from i (regions_of (q ∷ drop (i + 1) xs))) (sym is)
      ∙ ap (λ k. stretch i (region_of r) ∷ stretches_from k (regions_of (drop (i + 1) xs))) next))
      ∙ so_far.1,
)
  where
    next : suc i ≡ i + 1
    next = omega arith

pub filled_all : (xs : List Region) (i : ℕ) (items : List Stretch) → length xs ≤ i → Filled xs i items → items ≡ stretches_from 0 (regions_of xs)
filled_all xs i items h so_far =
    sym (ap (λ ss. items ++ ss) (at_drop_all (λ qs. stretches_from i (regions_of qs)) xs i h) ∙ append-nil items) ∙ so_far.1

pub bare-stretches_from : (i : ℕ) (rs : List sound.Region) → map bare (stretches_from i rs) ≡ stretches_from i rs
bare-stretches_from i [] = refl
bare-stretches_from i (r ∷ rs) = ap (λ ss. stretch i r ∷ ss) (bare-stretches_from (suc i) rs)

each_stretch : (i : ℕ) (rs : List sound.Region) → i + length rs ≤ 256 → All IsRegion rs → All IsStretch (stretches_from i rs)
each_stretch i [] few limits = λ k d h. absurd (omega arith)
each_stretch i (r ∷ rs) few limits = All-cons IsStretch (stretch i r) (stretches_from (suc i) rs)
    (let early : r.at ≤ 2 ^ 40 = omega (arith, (limits 0 r (omega arith)).end) in record { place = omega arith; at = early })
    (each_stretch (suc i) rs (omega arith) (λ k d h. limits (suc k) d (omega arith)))

pub all_stretches : (xs : List Region) → length xs ≤ 256 → All IsRegion (regions_of xs) → All IsStretch (stretches_from 0 (regions_of xs))
all_stretches xs few limits = each_stretch 0 (regions_of xs) (omega (arith, length-map xs region_of)) limits

-- ---- the reaches

-- up to a place each stretch ends within its reach, which rises and is at most a number
pub record Reaching (reach : ℕ) (done : List Stretch) : Type 0 where
  pub ends : All (λ s. s.end ≤ s.reach) done
  pub rising : IsNonDecreasingBy (λ s. s.reach) done
  pub most : All (λ s. s.reach ≤ reach) done

pub reaching_more : (reach next : ℕ) (xs : List Stretch) (i : ℕ) (s : Stretch) → i < length xs → next ≡ max reach s.end →
    Reaching reach (take i xs) → Reaching next (take (i + 1) (set xs i (record s { reach = next })))
reaching_more reach next xs i s h is so_far = subst (Reaching next) (sym (take_more_set xs i (record s { reach = next }) h)) (record {
  ends = All-push (λ q. q.end ≤ q.reach) (take i xs) (record s { reach = next }) so_far.ends (omega arith);
  rising = IsNonDecreasingBy-push (λ q. q.reach) (take i xs) (record s { reach = next }) so_far.rising last;
  most = All-push (λ q. q.reach ≤ next) (take i xs) (record s { reach = next }) (λ k d l. omega (arith, so_far.most k d l)) (omega arith);
})
  where
    last : (d : Stretch) → 0 < length (take i xs) → (get_or (take i xs) (length (take i xs) - 1) d).reach ≤ next
    last d l = omega (arith, so_far.most (length (take i xs) - 1) d (omega arith))

-- a reach says nothing of the rest
pub bare-set : (xs : List Stretch) (i : ℕ) (s : Stretch) (reach : ℕ) → i < length xs → s ≡ get_or xs i s → map bare (set xs i (record s { reach = reach })) ≡ map bare xs
bare-set xs i s reach h is =
    map-set bare xs i (record s { reach = reach })
    ∙ ap (set (map bare xs) i) (ap bare is ∙ sym (get_or-map bare xs i s (bare s) h))
    ∙ set-get_or (map bare xs) i (bare s)

-- two lists that differ in reaches alone
same_bare : (xs ys : List Stretch) → map bare xs ≡ map bare ys → (k : ℕ) (d : Stretch) → k < length xs → bare (get_or xs k d) ≡ bare (get_or ys k d)
same_bare xs ys e k d h =
    sym (get_or-map bare xs k d (bare d) h) ∙ ap (λ bs. get_or bs k (bare d)) e
    ∙ get_or-map bare ys k d (bare d) (omega (arith, length-map xs bare, length-map ys bare, ap length e))

pub rising_from : (sorted new : List Stretch) → map bare new ≡ map bare sorted → All IsStretch sorted → IsNonDecreasingBy (λ s. s.at) sorted →
    All (λ s. s.end ≤ s.reach) new → IsNonDecreasingBy (λ s. s.reach) new → IsRising new
rising_from sorted new e each starts ends reaches = record {
  each = λ k d h. let old = each k d (omega (arith, long)) in record {
    place = omega (arith, ap (λ b. b.place) (same_bare new sorted e k d h), old.place);
    at = omega (arith, ap (λ b. b.at) (same_bare new sorted e k d h), old.at);
  };
  starts = λ i j d l h. omega (arith, ap (λ b. b.at) (same_bare new sorted e i d (omega arith)), ap (λ b. b.at) (same_bare new sorted e j d h), starts i j d l (omega (arith, long)));
  ends = ends;
  reaches = reaches;
}
  where
    long : length new ≡ length sorted
    long = omega (arith, length-map new bare, length-map sorted bare, ap length e)

-- ---- marks

abbrev pub Marks : ℕ → List Stretch → List Bool → Type 0
Marks from part marks = (length marks ≡ 256) × ((k : ℕ) → k < 256 → get_or marks k false ≡ list_any (goes_on from k) part)

pub marked : (from : ℕ) (part : List Stretch) (i : ℕ) (s : Stretch) (marks new : List Bool) → i < length part → s ≡ get_or part i s → s.place < 256 →
    from < s.end → new ≡ set marks s.place true → Marks from (take i part) marks → Marks from (take (i + 1) part) new
marked from part i s marks new h is few on same so_far = (
  omega (arith, ap length same, length-set marks s.place true, so_far.0),
  λ k l. ap (λ ms. get_or ms k false) same ∙ by_test (s.place == k) (here k l) (other k l)
      ∙ sym (list_any_more (goes_on from k) part i s h ∙ ap (λ q. list_any (goes_on from k) (take i part) || goes_on from k q) (sym is)),
)
  where
    here : (k : ℕ) → k < 256 → (s.place == k) ≡ true → get_or (set marks s.place true) k false ≡ (list_any (goes_on from k) (take i part) || goes_on from k s)
    here k l e =
        let place : s.place ≡ k = grind (arith, nat_tests) in
        let going : goes_on from k s ≡ true = grind (arith, nat_tests) in
        ap (λ j. get_or (set marks s.place true) j false) (sym place) ∙ get_or-set_same marks s.place true false (omega (arith, so_far.0))
        ∙ sym (ap (λ b. list_any (goes_on from k) (take i part) || b) going ∙ or_true (list_any (goes_on from k) (take i part)))

    other : (k : ℕ) → k < 256 → (s.place == k) ≡ false → get_or (set marks s.place true) k false ≡ (list_any (goes_on from k) (take i part) || goes_on from k s)
    other k l e =
        let elsewhere : k ≢ s.place = grind (arith, nat_tests) in
        let silent : goes_on from k s ≡ false = grind (arith, nat_tests) in
        get_or-set_other marks s.place k true false elsewhere ∙ so_far.1 k l
        ∙ sym (ap (λ b. list_any (goes_on from k) (take i part) || b) silent ∙ or_false (list_any (goes_on from k) (take i part)))

pub unmarked : (from : ℕ) (part : List Stretch) (i : ℕ) (s : Stretch) (marks new : List Bool) → i < length part → s ≡ get_or part i s →
    s.end ≤ from → new ≡ marks → Marks from (take i part) marks → Marks from (take (i + 1) part) new
unmarked from part i s marks new h is over same so_far = (
  omega (arith, ap length same, so_far.0),
  λ k l. ap (λ ms. get_or ms k false) same ∙ so_far.1 k l ∙ sym (or_false (list_any (goes_on from k) (take i part)))
      ∙ ap (λ b. list_any (goes_on from k) (take i part) || b) (sym (silent k))
      ∙ sym (list_any_more (goes_on from k) part i s h ∙ ap (λ q. list_any (goes_on from k) (take i part) || goes_on from k q) (sym is)),
)
  where
    silent : (k : ℕ) → goes_on from k s ≡ false
    silent k = grind (arith, nat_tests)

-- ---- the part of the index that a span needs

agrees : (from frames k : ℕ) (s : Stretch) → s.at < from + frames → goes_on from k s ≡ meets_at from frames k s
agrees from frames k s h = grind (arith, nat_tests)

over_before : (from frames k : ℕ) (s : Stretch) → s.end ≤ from → meets_at from frames k s ≡ false
over_before from frames k s h = grind (arith, nat_tests)

begins_later : (from frames k : ℕ) (s : Stretch) → from + frames ≤ s.at → meets_at from frames k s ≡ false
begins_later from frames k s h = grind (arith, nat_tests)

pub part_heard : (index : List Stretch) (from frames a b k : ℕ) → a ≤ b → b ≤ length index →
    ((j : ℕ) (d : Stretch) → j < a → (get_or index j d).end ≤ from) →
    ((j : ℕ) (d : Stretch) → j < b → (get_or index j d).at < from + frames) →
    ((j : ℕ) (d : Stretch) → b ≤ j → j < length index → from + frames ≤ (get_or index j d).at) →
    list_any (goes_on from k) (take (b - a) (drop a index)) ≡ list_any (meets_at from frames k) index
part_heard index from frames a b k order within ended begun later =
    list_any-same (goes_on from k) m mid agree
    ∙ sym (or_false (list_any m mid))
    ∙ ap (λ t. list_any m mid || t) (sym (list_any_none m (drop (b - a) (drop a index)) none_later))
    ∙ sym (list_any-append m mid (drop (b - a) (drop a index)))
    ∙ ap (list_any m) (take-append-drop (b - a) (drop a index))
    ∙ ap (λ t. t || list_any m (drop a index)) (sym (list_any_none m (take a index) none_before))
    ∙ sym (list_any-append m (take a index) (drop a index))
    ∙ ap (list_any m) (take-append-drop a index)
  where
    m : Stretch → Bool
    m = meets_at from frames k

    mid : List Stretch
    mid = take (b - a) (drop a index)

    agree : All (λ s. goes_on from k s ≡ m s) mid
    agree j d h =
        let near : j < b - a = omega (arith, length-take (b - a) (drop a index)) in
        subst (λ (s : Stretch). goes_on from k s ≡ meets_at from frames k s) (sym (get_or-take (b - a) (drop a index) j d near ∙ get_or-drop a index j d))
        (agrees from frames k (get_or index (a + j) d) (begun (a + j) d (omega arith)))

    none_later : All (λ s. m s ≡ false) (drop (b - a) (drop a index))
    none_later j d h =
        subst (λ (s : Stretch). meets_at from frames k s ≡ false) (sym (get_or-drop (b - a) (drop a index) j d ∙ get_or-drop a index (b - a + j) d))
        (begins_later from frames k (get_or index (a + (b - a + j)) d)
        (later (a + (b - a + j)) d (omega arith) (omega (arith, length-drop (b - a) (drop a index), length-drop a index))))

    none_before : All (λ s. m s ≡ false) (take a index)
    none_before j d h =
        let near : j < a = omega (arith, length-take a index) in
        subst (λ (s : Stretch). meets_at from frames k s ≡ false) (sym (get_or-take a index j d near))
        (over_before from frames k (get_or index j d) (ended j d near))
