-- Names in the place of places: each leads back to the one place where it stands.
use Rattle.std.proofs.Common.{◌≡◌, ◌≢◌, ℕ, zero, suc, ◌<◌, Bool, true, false, ◌||◌, refl, ap, ◌∙◌, arith, List, [], ◌∷◌, ◌++◌, length, map, slice_get, All, Some, bytes_eq, codes}
use Rattle.std.specs.List.{zip}
use Rattle.std.proofs.lemmas.Slice.Eq.{bytes_eq-Decides}
use Rattle.std.proofs.lemmas.List.Elements.{All-head, All-tail}
use Rattle.sound_laws.proofs.Cases.{by_test}
use Rattle.session_model.specs.Lists.{AreApart}
use Rattle.session_model.specs.declared.route.Route.{Route}
use Rattle.session_model.specs.declared.track.Track.{Track}
use Rattle.session_model.specs.declared.session.SourceDecl.{SourceDecl}
use Rattle.session_toml.specs.Rules.{has_source, has_route, is_track, source_channels, route_channels}
use Rattle.session_toml.specs.Built.{place_of}
use Rattle.session_toml.proofs.PlaceLaws.{place-here, place-later}
use Rattle.session_text.specs.Said.{name_at, names_of, said_route, said_track}

pub itself : (n : List ℕ) → bytes_eq n n ≡ true
itself n = (bytes_eq-Decides n n).1 refl

pub others : (m n : List ℕ) → m ≢ n → bytes_eq m n ≡ false
others m n h = by_test (bytes_eq m n) (λ e. absurd (h ((bytes_eq-Decides m n).0 e))) (λ e. e)

pub apart-tail : {A : Type 0} (x : A) (xs : List A) → AreApart (x ∷ xs) → AreApart xs
apart-tail x xs apart = λ i j d h l. apart (suc i) (suc j) d (omega arith) (omega arith)

-- the first name is none of those after it
first-other : (n : List ℕ) (ns : List (List ℕ)) (i : ℕ) → AreApart (n ∷ ns) → i < length ns → bytes_eq n (name_at ns i) ≡ false
first-other n ns i apart h = others n (name_at ns i) (apart 0 (suc i) [] (omega arith) (omega arith))

-- ---- places

pub place-back : (ns : List (List ℕ)) (i : ℕ) → AreApart ns → i < length ns → place_of ns (name_at ns i) ≡ i
place-back [] i apart h = absurd (omega arith)
place-back (n ∷ ns) zero apart h = place-here (λ m. bytes_eq m n) n ns (itself n)
place-back (n ∷ ns) (suc i) apart h =
    place-later (λ m. bytes_eq m (name_at ns i)) n ns (first-other n ns i apart (omega arith)) ∙ ap suc (place-back ns i (apart-tail n ns apart) (omega arith))

-- the last name has the place of a name that isn't among the others
pub place-back-last : (ns : List (List ℕ)) (last : List ℕ) (i : ℕ) → AreApart (ns ++ last ∷ []) → i < length (ns ++ last ∷ []) → place_of ns (name_at (ns ++ last ∷ []) i) ≡ i
place-back-last [] last i apart h = omega arith
place-back-last (n ∷ ns) last zero apart h = place-here (λ m. bytes_eq m n) n ns (itself n)
place-back-last (n ∷ ns) last (suc i) apart h =
    place-later (λ m. bytes_eq m (name_at (ns ++ last ∷ []) i)) n ns (first-other n (ns ++ last ∷ []) i apart (omega arith))
    ∙ ap suc (place-back-last ns last i (apart-tail n (ns ++ last ∷ []) apart) (omega arith))

-- ---- sources

-- a source is found by its name
pub record Shown (ds : List SourceDecl) (name : List ℕ) (d : SourceDecl) : Type 0 where
  pub has : has_source ds name ≡ true
  pub channels : source_channels ds name ≡ d.channels

pub shown : (ds : List SourceDecl) (i : ℕ) (d : SourceDecl) → AreApart (map (λ e. e.name) ds) → slice_get ds i ≡ Some d → Shown ds (name_at (map (λ e. e.name) ds) i) d
shown [] i d apart e = cc
shown (y ∷ ys) zero d apart e = let same : y ≡ d = cc in record { has = rw (itself y.name) refl; channels = rw (itself y.name) (ap (λ (x : SourceDecl). x.channels) same) }
shown (y ∷ ys) (suc i) d apart e =
    let names : List (List ℕ) = map (λ (x : SourceDecl). x.name) ys in
    let rest = shown ys i d (apart-tail y.name names apart) e in
    let other : bytes_eq y.name (name_at names i) ≡ false = first-other y.name names i apart (within ys i d e) in
    record { has = rw (other, rest.has) refl; channels = rw other rest.channels }
  where
    within : (ys : List SourceDecl) (i : ℕ) (d : SourceDecl) → slice_get ys i ≡ Some d → i < length (map (λ (x : SourceDecl). x.name) ys)
    within [] i d e = cc
    within (y ∷ ys) zero d e = omega arith
    within (y ∷ ys) (suc i) d e = omega (arith, within ys i d e)

-- ---- routes

later-or : (a b c : Bool) → (a || c) ≡ true → (a || (b || c)) ≡ true
later-or true b c e = refl
later-or false true c e = refl
later-or false false c e = e

or-true : (a : Bool) → (a || true) ≡ true
or-true true = refl
or-true false = refl

-- a route is found by its name, the master where no other has it
pub record Led (names : List (List ℕ)) (qs : List Route) (last : Route) (name : List ℕ) (next : Route) : Type 0 where
  pub has : has_route (map (said_route names) qs) name ≡ true
  pub channels : route_channels (map (said_route names) qs) last.channels name ≡ next.channels

within-names : (qs : List Route) (i : ℕ) (q : Route) → slice_get qs i ≡ Some q → i < length (names_of qs)
within-names [] i q e = cc
within-names (p ∷ qs) zero q e = omega arith
within-names (p ∷ qs) (suc i) q e = omega (arith, within-names qs i q e)

pub led : (names : List (List ℕ)) (qs : List Route) (last next : Route) (i : ℕ) → last.name ≡ codes "master" → AreApart (names_of (qs ++ last ∷ [])) → slice_get (qs ++ last ∷ []) i ≡ Some next →
    Led names qs last (name_at (names_of (qs ++ last ∷ [])) i) next
unfolding said_route
led names [] last next zero is apart e = let same : last ≡ next = cc in
    record { has = rw (ap (λ n. bytes_eq n (codes "master")) is) refl; channels = ap (λ (q : Route). q.channels) same }
led names [] last next (suc i) is apart e = cc
led names (q ∷ qs) last next zero is apart e = let same : q ≡ next = cc in
    record { has = rw (itself q.name) (or-true (bytes_eq q.name (codes "master"))); channels = rw (itself q.name) (ap (λ (q : Route). q.channels) same) }
led names (q ∷ qs) last next (suc i) is apart e =
    let rest = led names qs last next i is (apart-tail q.name (names_of (qs ++ last ∷ [])) apart) e in
    let name : List ℕ = name_at (names_of (qs ++ last ∷ [])) i in
    let other : bytes_eq q.name name ≡ false = first-other q.name (names_of (qs ++ last ∷ [])) i apart (within-names (qs ++ last ∷ []) i next e) in
    record { has = later-or (bytes_eq name (codes "master")) (bytes_eq q.name name) _ rest.has; channels = rw other rest.channels }

-- ---- a name of a route behind the tracks is no track's

pub no-track : (sources names : List (List ℕ)) (qs : List Route) (ks : List Track) (name : List ℕ) → All (λ q. bytes_eq q.name name ≡ false) qs →
    is_track (map (λ k. k.own) (map (said_track sources names) (zip qs ks))) name ≡ false
unfolding said_track
no-track sources names [] ks name all = refl
no-track sources names (q ∷ qs) [] name all = refl
no-track sources names (q ∷ qs) (k ∷ ks) name all =
    rw (All-head (λ p. bytes_eq p.name name ≡ false) q qs all) (no-track sources names qs ks name (All-tail (λ p. bytes_eq p.name name ≡ false) q qs all))
