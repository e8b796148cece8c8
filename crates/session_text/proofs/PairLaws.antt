-- Tracks beside their routes, as the code goes over them.
use Rattle.std.proofs.Common.{◌≡◌, ℕ, zero, suc, ◌<◌, ◌≤◌, refl, ap, sym, ◌∙◌, subst, arith, List, [], ◌∷◌, length, take, get_or, All}
use Rattle.std.specs.List.{zip}
use Rattle.std.proofs.lemmas.List.{length-map, length-take-le, get_or-take}
use Rattle.std.proofs.lemmas.List.Elements.{All-map}
use Rattle.session_model.specs.declared.route.Route.{Route}
use Rattle.session_model.specs.declared.track.Track.{Track}
use Rattle.session_model.specs.Playlist.{IsPlaylist}
use Rattle.session_text.specs.Kept.{IsKeptRoute}
use Rattle.session_text.proofs.ListLaws.{zip-first, zip-second}

-- what a track and its route keep by their types
pub record IsKeptPair (p : Route × Track) : Type 0 where
  pub route : IsKeptRoute p.0
  pub list : IsPlaylist p.1.list

-- as many first routes as there are tracks, beside the tracks
abbrev pub beside : List Route → List Track → List (Route × Track)
beside routes tracks = zip (take (length tracks) routes) tracks

zip-item : {A B : Type 0} (xs : List A) (ys : List B) (i : ℕ) (x : A) (y : B) → i < length xs → i < length ys → x ≡ get_or xs i x → y ≡ get_or ys i y → (x, y) ≡ get_or (zip xs ys) i (x, y)
zip-item [] ys i x y h l e f = absurd (omega arith)
zip-item (a ∷ xs) [] i x y h l e f = absurd (omega arith)
zip-item (a ∷ xs) (b ∷ ys) zero x y h l e f = rw (sym e, sym f) refl
zip-item (a ∷ xs) (b ∷ ys) (suc i) x y h l e f = zip-item xs ys i x y (omega arith) (omega arith) e f

zip-long : {A B : Type 0} (xs : List A) (ys : List B) → length xs ≡ length ys → length (zip xs ys) ≡ length ys
zip-long xs ys long = sym (length-map (zip xs ys) (λ p. p.1)) ∙ ap length (zip-second xs ys long)

pub beside-long : (routes : List Route) (tracks : List Track) → length tracks ≤ length routes → length (beside routes tracks) ≡ length tracks
beside-long routes tracks few = zip-long (take (length tracks) routes) tracks (length-take-le (length tracks) routes few)

pub beside-item : (routes : List Route) (tracks : List Track) (i : ℕ) (q : Route) (k : Track) → length tracks ≤ length routes → i < length tracks → q ≡ get_or routes i q → k ≡ get_or tracks i k →
    (q, k) ≡ get_or (beside routes tracks) i (q, k)
beside-item routes tracks i q k few h e f =
    let long : length (take (length tracks) routes) ≡ length tracks = length-take-le (length tracks) routes few in
    zip-item (take (length tracks) routes) tracks i q k (omega (arith, long)) h (e ∙ sym (get_or-take (length tracks) routes i q h)) f

pub kept-routes : (routes : List Route) (tracks : List Track) → length tracks ≤ length routes → All IsKeptPair (beside routes tracks) → All IsKeptRoute (take (length tracks) routes)
kept-routes routes tracks few all = let P : List Route → Type 0 = All IsKeptRoute in
    subst P (zip-first (take (length tracks) routes) tracks (length-take-le (length tracks) routes few))
    (All-map IsKeptRoute (λ (p : Route × Track). p.0) (beside routes tracks) (λ i d h. (all i d h).route))

pub kept-lists : (routes : List Route) (tracks : List Track) → length tracks ≤ length routes → All IsKeptPair (beside routes tracks) → All (λ k. IsPlaylist k.list) tracks
kept-lists routes tracks few all = let P : List Track → Type 0 = All (λ k. IsPlaylist k.list) in
    subst P (zip-second (take (length tracks) routes) tracks (length-take-le (length tracks) routes few))
    (All-map (λ (k : Track). IsPlaylist k.list) (λ (p : Route × Track). p.1) (beside routes tracks) (λ i d h. (all i d h).list))
