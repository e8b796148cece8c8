-- A command touches the track whose playlist its change is of, and no other.
use Rattle.std.proofs.Common.{◌≡◌, ℕ, ◌<◌, ◌≤◌, List, length, map, refl, sym, ap, subst, ◌∙◌, arith, inl, inr, cond, get_or}
use Rattle.std.specs.Prelude.{Bool, true, false, nat_lt, ◌==◌, if◌then◌else◌, Option, Some, None, Ok, slice_get, slice_index_or, position, set}
use Rattle.std.specs.Option.{option_map_or}
use Rattle.std.specs.List.{position_or_len}
use Rattle.std.specs.Str.{bytes_eq}
use Rattle.std.proofs.lemmas.Bool.{true≢false, cases_eq}
use Rattle.std.proofs.lemmas.Bool.Decides.{nat_tests}
use Rattle.std.proofs.lemmas.List.{get_or-map, length-map, get_or-set_same, get_or-set_other}
use Rattle.std.proofs.lemmas.List.Quantifiers.{position-Some}
use Rattle.std.proofs.lemmas.List.Sums.{position_or_len_is}
use Rattle.std.proofs.lemmas.Option.{slice_get_cases}
use Rattle.std.proofs.lemmas.Slice.Eq.{bytes_eq-Decides}
use Rattle.session_model.specs.declared.route.Route.{Route}
use Rattle.session_model.specs.declared.session.Session.{Session}
use Rattle.session_model.specs.declared.edit.Edit.{Edit}
use Rattle.session_model.specs.Lists.{AreApart}
use Rattle.session_model.specs.Valid.{IsValid}
use Rattle.engine_model.specs.Transport.{Wrap}
use Rattle.engine_model.specs.Edits.{region_track, is_named, touches}
use Rattle.engine_model.specs.Changes.{Change, TransportOnly, Armed, Soloed, Muted, Faded, Panned, InMode, PointSet, PointUnset, Leads, SendSet, SendUnset, RegionPut, RegionTaken}
use Rattle.engine_model.specs.Commands.{change_of}
use Rattle.engine_model.specs.Fixed.{fixed_of}
use Rattle.engine_laws.proofs.CheckedLemmas.{found_there}
use Rattle.engine_laws.proofs.ChangeLemmas.{list_changed, names_stay}
use Rattle.engine_laws.proofs.CommandLemmas.{changes_its}
use Rattle.session_change.specs.Change.{list_of}
use Rattle.edition_log.specs.Steps.{noted}

-- whether it is this place
abbrev pub is_at : Option ℕ → ℕ → Bool
is_at o t = option_map_or (λ u. u == t) o false

-- ---- a route by its name

other_place : (u t : ℕ) → (u ≡ t → ⊥) → (u == t) ≡ false
other_place u t not = grind (arith, nat_tests, not)

module _ (name : List ℕ) where
  abbrev named : Route → Bool
  named q = bytes_eq q.name name

  same_name : (q : Route) → named q ≡ true → q.name ≡ name
  same_name q is = (bytes_eq-Decides q.name name).0 is

  module _ (qs : List Route) (apart : AreApart (map (λ q. q.name) qs)) where
    name_at : (k : ℕ) (q : Route) → k < length qs → slice_index_or (map (λ x. x.name) qs) k q.name ≡ (get_or qs k q).name
    name_at k q lt = get_or-map (λ x. x.name) qs k q q.name lt

    -- no route before it has its name
    none_before : (t : ℕ) (q : Route) → t < length qs → get_or qs t q ≡ q → named q ≡ true → (k : ℕ) → k < t → named (get_or qs k q) ≡ false
    none_before t q lt here is k less = by (named (get_or qs k q)) refl
      where
        by : (b : Bool) → named (get_or qs k q) ≡ b → named (get_or qs k q) ≡ false
        by false fails = fails
        by true passes = absurd (apart k t q.name less (subst (λ n. t < n) (sym (length-map qs (λ x. x.name))) lt)
            (name_at k q (omega (arith, less, lt)) ∙ same_name (get_or qs k q) passes ∙ sym (same_name q is) ∙ ap (λ x. x.name) (sym here) ∙ sym (name_at t q lt)))

    found_at : (t : ℕ) (q : Route) → t < length qs → get_or qs t q ≡ q → named q ≡ true → position named qs ≡ Some t
    found_at t q lt here is = let at : position_or_len named qs ≡ t = position_or_len_is named qs t q (omega (arith, lt)) (none_before t q lt here is) (λ _. ap named here ∙ is) in
        let within : nat_lt t (length qs) ≡ true = grind (arith, nat_tests, lt) in
        ap (λ n. cond (nat_lt n (length qs)) (Some n) None) at ∙ ap (λ b. cond b (Some t) None) within

    -- the route of a place has the name exactly where it is the one that is found
    by_name : (t : ℕ) → option_map_or named (slice_get qs t) false ≡ is_at (position named qs) t
    by_name t = elim (slice_get_cases qs t).1 [
      | inl w ↦ ap (λ o. option_map_or named o false) w.2 ∙ there w.0 w.1 w.3 (named w.0) refl
      | inr w ↦ ap (λ o. option_map_or named o false) w.1 ∙ past w.0 (position named qs) refl
    ]
      where
        past : length qs ≤ t → (o : Option ℕ) → position named qs ≡ o → false ≡ is_at (position named qs) t
        past le None is = sym (ap (λ o. is_at o t) is)
        past le (Some u) is = sym (ap (λ o. is_at o t) is ∙ other_place u t (λ e. let here : u < length qs = (found_there named qs u is).within in absurd (omega (arith, le, here, e))))

        there : (q : Route) → t < length qs → get_or qs t q ≡ q → (b : Bool) → named q ≡ b → named q ≡ is_at (position named qs) t
        there q lt here true is = is ∙ sym (ap (λ o. is_at o t) (found_at t q lt here is) ∙ (grind (arith, nat_tests)))
        there q lt here false is = is ∙ sym (by_found (position named qs) refl)
          where
            by_found : (o : Option ℕ) → position named qs ≡ o → is_at (position named qs) t ≡ false
            by_found None none = ap (λ o. is_at o t) none
            by_found (Some u) found = ap (λ o. is_at o t) found ∙ other_place u t
                (λ e. true≢false (sym (position-Some named qs u q found).1 ∙ ap (λ k. named (get_or qs k q)) e ∙ ap named here ∙ is))

-- ---- a command

same_list : (c : Change) → list_of c ≡ list_changed c
same_list TransportOnly = refl
same_list (Armed t on) = refl
same_list (Soloed t on) = refl
same_list (Muted r on) = refl
same_list (Faded r gain) = refl
same_list (Panned r left right) = refl
same_list (InMode r mode) = refl
same_list (PointSet r p) = refl
same_list (PointUnset r place) = refl
same_list (Leads r to) = refl
same_list (SendSet r link) = refl
same_list (SendUnset r to) = refl
same_list (RegionPut t r) = refl
same_list (RegionTaken t id) = refl

-- the tracks that are touched go by the names of routes, which no edit changes
touches_by : (s z : Session) (t : ℕ) (o : Option (List ℕ)) → fixed_of z ≡ fixed_of s → option_map_or (is_named z t) o false ≡ option_map_or (is_named s t) o false
touches_by s z t None fixed = refl
touches_by s z t (Some name) fixed = names_stay s z t name fixed

is_of_list : (z : Session) (t : ℕ) (o : Option (List ℕ)) (x : Option ℕ) → IsValid z → x ≡ option_map_or (λ name. position (λ q. bytes_eq q.name name) z.routes.items) o None →
    option_map_or (is_named z t) o false ≡ is_at x t
is_of_list z t None x valid is = sym (ap (λ y. is_at y t) is)
is_of_list z t (Some name) x valid is = by_name name z.routes.items valid.formed.names.routes t ∙ sym (ap (λ y. is_at y t) is)

-- an edit is a command on a track exactly where its change is of the track's playlist
pub touches_its : (s z : Session) (wrap : Option Wrap) (edit : Edit) (c : Change) (t : ℕ) → IsValid z → fixed_of z ≡ fixed_of s → change_of z wrap edit ≡ Ok c →
    touches s t edit ≡ is_at (list_of c) t
touches_its s z wrap edit c t valid fixed e = sym (touches_by s z t (region_track edit) fixed)
    ∙ is_of_list z t (region_track edit) (list_of c) valid (same_list c ∙ changes_its z wrap edit c e)

-- ---- the numbers that are noted

pub noted_at : (o : Option ℕ) (number : ℕ) (touched : List ℕ) (t : ℕ) → t < length touched →
    slice_index_or (noted o number touched) t 0 ≡ (if is_at o t then number else slice_index_or touched t 0)
noted_at None number touched t lt = refl
noted_at (Some u) number touched t lt = elim (cases_eq t u) [
  | inl same ↦ ap (λ k. slice_index_or (set touched k number) t 0) (sym same) ∙ get_or-set_same touched t number 0 lt
      ∙ sym (ap (λ b. if b then number else slice_index_or touched t 0) (is_here same))
  | inr other ↦ get_or-set_other touched u t number 0 other ∙ sym (ap (λ b. if b then number else slice_index_or touched t 0) (other_place u t (λ e. other (sym e))))
]
  where
    is_here : t ≡ u → (u == t) ≡ true
    is_here same = grind (arith, nat_tests, same)
