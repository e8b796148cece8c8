-- What the rules say of a text that keeps them.
use Rattle.std.proofs.Common.{◌≡◌, ℕ, Bool, true, false, not, ◌||◌, refl, sym, ◌∙◌, arith, List, [], ◌∷◌, ◌++◌, find, get_or, All, Option, Some, None, is_some}
use Rattle.std.specs.Prelude.{AllPairs, Ok}
use Rattle.std.specs.List.{list_any}
use Rattle.std.specs.Option.{option_map}
use Rattle.std.proofs.lemmas.List.Elements.{All-nil, All-cons}
use Rattle.std.proofs.lemmas.List.Folds.{list_any-append}
use Rattle.std.proofs.lemmas.List.Kept.{AllPairs-cons}
use Rattle.sound_laws.proofs.Cases.{by_test, or_parts}
use Rattle.session_model.specs.declared.session.SourceDecl.{SourceDecl}
use Rattle.session_model.specs.declared.refusal.SessionRefusal.{SessionRefusal}
use Rattle.session_walk.specs.declared.said.RouteText.{RouteText}
use Rattle.session_walk.specs.declared.said.TrackOwn.{TrackOwn}
use Rattle.session_walk.proofs.PartRangeLaws.{after}
use Rattle.session_toml.specs.Rules.{twice_after, first_twice, first_of, same_source, same_route, same_send, region_twice, lost_source, has_route, is_track, first_target, shows_other, narrows, none_of, routes_once, sources_once, sends_once, regions_once, sources_there, routes_there, busses_fed, sources_fit, rules}

-- ---- words on lists

pub found-none : {A : Type 0} (p : A → Bool) (x : A) (xs : List A) → find p (x ∷ xs) ≡ None → (p x ≡ false) × (find p xs ≡ None)
found-none p x xs e = by_test (p x) (λ t. absurd (found t)) (λ t. (t, rw t at e))
  where
    found : p x ≡ true → ⊥
    found t = cc (rw t at e)

pub find-none : {A : Type 0} (p : A → Bool) (xs : List A) → find p xs ≡ None → All (λ x. p x ≡ false) xs
find-none p [] e = All-nil (λ x. p x ≡ false)
find-none p (x ∷ xs) e = let (here, rest) = found-none p x xs e in All-cons (λ y. p y ≡ false) x xs here (find-none p xs rest)

nothing-given : {A B : Type 0} (gives : A → Option B) (x : A) (xs : List A) → first_of gives (x ∷ xs) ≡ None → (gives x ≡ None) × (first_of gives xs ≡ None)
nothing-given {A} {B} gives x xs e = by_test (is_some (gives x)) (λ t. absurd (given (gives x) t (rw t at e))) (λ t. (none (gives x) t, rw t at e))
  where
    given : (o : Option B) → is_some o ≡ true → o ≡ None → ⊥
    given (Some b) t f = cc
    given None t f = cc

    none : (o : Option B) → is_some o ≡ false → o ≡ None
    none (Some b) t = cc
    none None t = refl

pub first_of-none : {A B : Type 0} (gives : A → Option B) (xs : List A) → first_of gives xs ≡ None → All (λ x. gives x ≡ None) xs
first_of-none gives [] e = All-nil (λ x. gives x ≡ None)
first_of-none gives (x ∷ xs) e = let (here, rest) = nothing-given gives x xs e in All-cons (λ y. gives y ≡ None) x xs here (first_of-none gives xs rest)

-- no item is the same as one before it, nor as one of those in front
record AreNew {A : Type 0} (same : A → A → Bool) (before xs : List A) : Type 0 where
  front : All (λ z. list_any (λ y. same y z) before ≡ false) xs
  apart : AllPairs (λ x z. same x z ≡ false) xs

not-twice : {A : Type 0} (same : A → A → Bool) (before : List A) (x : A) (xs : List A) → twice_after same before (x ∷ xs) ≡ None →
    (list_any (λ y. same y x) before ≡ false) × (twice_after same (before ++ x ∷ []) xs ≡ None)
not-twice same before x xs e = by_test (list_any (λ y. same y x) before) (λ t. absurd (found t)) (λ t. (t, rw t at e))
  where
    found : list_any (λ y. same y x) before ≡ true → ⊥
    found t = cc (rw t at e)

twice-new : {A : Type 0} (same : A → A → Bool) (before xs : List A) → twice_after same before xs ≡ None → AreNew same before xs
twice-new {A} same before [] e = record { front = All-nil (λ z. list_any (λ y. same y z) before ≡ false); apart = λ i j d l m. absurd (omega arith) }
twice-new {A} same before (x ∷ xs) e =
    let (here, rest) = not-twice same before x xs e in
    let new = twice-new same (before ++ x ∷ []) xs rest in
    record {
      front = All-cons (λ z. list_any (λ y. same y z) before ≡ false) x xs here (λ i d h. (parts (get_or xs i d) (new.front i d h)).0);
      apart = AllPairs-cons (λ y z. same y z ≡ false) x xs (λ i d h. (or_parts (same x (get_or xs i d)) false (parts (get_or xs i d) (new.front i d h)).1).0) new.apart;
    }
  where
    parts : (z : A) → list_any (λ y. same y z) (before ++ x ∷ []) ≡ false → (list_any (λ y. same y z) before ≡ false) × ((same x z || false) ≡ false)
    parts z f = or_parts (list_any (λ y. same y z) before) (same x z || false) (sym (list_any-append (λ y. same y z) before (x ∷ [])) ∙ f)

pub all-apart : {A : Type 0} (same : A → A → Bool) (xs : List A) → first_twice same xs ≡ None → AllPairs (λ x z. same x z ≡ false) xs
all-apart same xs e = (twice-new same [] xs e).apart

-- ---- the rules

none-in : (o : Option SessionRefusal) (u : Unit {0}) → none_of o ≡ Ok u → o ≡ None
none-in None u e = refl
none-in (Some r) u e = cc

unmapped : {A B : Type 0} (f : A → B) (o : Option A) → option_map f o ≡ None → o ≡ None
unmapped f None e = refl
unmapped f (Some a) e = cc

-- a text keeps the rules
pub record Keeps (routes : List RouteText) (tracks : List TrackOwn) (sources : List SourceDecl) (master : ℕ) : Type 0 where
  pub routes_apart : AllPairs (λ q p. same_route q p ≡ false) routes
  pub sources_apart : AllPairs (λ d e. same_source d e ≡ false) sources
  pub sends_apart : All (λ q. is_some (first_twice same_send q.sends.items) ≡ false) routes
  pub regions_apart : All (λ k. region_twice k ≡ None) tracks
  pub shown : All (λ k. lost_source sources k ≡ None) tracks
  pub there : All (λ q. first_target (λ name. not (has_route routes name)) q ≡ None) routes
  pub busses : All (λ q. first_target (is_track tracks) q ≡ None) routes
  pub alike : All (λ k. shows_other sources k ≡ false) tracks
  pub wide : All (λ q. narrows routes master q ≡ false) routes

pub rules-kept : (routes : List RouteText) (tracks : List TrackOwn) (sources : List SourceDecl) (master : ℕ) (u : Unit {0}) → rules routes tracks sources master ≡ Ok u → Keeps routes tracks sources master
unfolding rules
rules-kept routes tracks sources master u e =
    after (routes_once routes) _ u e (λ v1 route e. after (sources_once sources) _ u e (λ v2 source e. after (sends_once routes) _ u e (λ v3 send e.
    after (regions_once tracks) _ u e (λ v4 region e. after (sources_there sources tracks) _ u e (λ v5 lost e. after (routes_there routes) _ u e (λ v6 noroute e.
    after (busses_fed routes tracks) _ u e (λ v7 notbus e. after (sources_fit sources tracks) _ u e (λ v8 other narrow.
    record {
      routes_apart = all-apart same_route routes (unmapped _ _ (none-in _ v1 route));
      sources_apart = all-apart same_source sources (unmapped _ _ (none-in _ v2 source));
      sends_apart = find-none _ routes (unmapped _ _ (none-in _ v3 send));
      regions_apart = first_of-none region_twice tracks (none-in _ v4 region);
      shown = first_of-none (lost_source sources) tracks (unmapped _ _ (none-in _ v5 lost));
      there = first_of-none (first_target (λ name. not (has_route routes name))) routes (unmapped _ _ (none-in _ v6 noroute));
      busses = first_of-none (first_target (is_track tracks)) routes (unmapped _ _ (none-in _ v7 notbus));
      alike = find-none (shows_other sources) tracks (unmapped _ _ (none-in _ v8 other));
      wide = find-none (narrows routes master) routes (unmapped _ _ (none-in _ u narrow));
    }))))))))
