-- What the changes of a history say of its editions.
use Rattle.std.proofs.Common.{◌≡◌, ℕ, suc, ◌<◌, ◌≤◌, inl, inr, List, [], ◌∷◌, length, map, get_or, refl, sym, ap, subst, arith, ◌∙◌, cond}
use Rattle.std.specs.Prelude.{Bool, true, false, nat_lt, ◌==◌, if◌then◌else◌, Option, Some, None, Ok, slice_get, slice_index_or, position}
use Rattle.std.specs.Option.{option_map_or}
use Rattle.std.specs.Str.{bytes_eq}
use Rattle.std.specs.List.{position_or_len}
use Rattle.std.proofs.lemmas.Bool.{true≢false, eqb-true, eq-eqb}
use Rattle.std.proofs.lemmas.Bool.Decides.{nat_tests}
use Rattle.std.proofs.lemmas.List.{get_or-map, length-map}
use Rattle.std.proofs.lemmas.List.Quantifiers.{position-Some}
use Rattle.std.proofs.lemmas.List.Sums.{position_or_len_is}
use Rattle.std.proofs.lemmas.Option.{slice_get_cases}
use Rattle.std.proofs.lemmas.Slice.Eq.{bytes_eq-Decides}
use Rattle.session_model.specs.declared.route.Route.{Route}
use Rattle.session_model.specs.declared.session.Session.{Session}
use Rattle.session_model.specs.declared.edit.Edit.{Edit}
use Rattle.session_model.specs.Lists.{AreApart}
use Rattle.session_model.specs.Valid.{IsValid}
use Rattle.engine_model.specs.Changes.{Change}
use Rattle.engine_model.specs.Changes as of_session
use Rattle.engine_model.specs.Commands.{change_of}
use Rattle.engine_model.specs.Refusals.{Checked}
use Rattle.engine_model.specs.Edits.{is_named, playlist_edition, region_track, touches}
use Rattle.engine_model.specs.Editions.{after_one, changed, edition, taken_up}
use Rattle.engine_model.specs.Fixed.{fixed_of}
use Rattle.engine_laws.proofs.ChangeLemmas.{list_changed, names_stay}
use Rattle.engine_laws.proofs.CheckedLemmas.{found_there}
use Rattle.engine_laws.proofs.CommandLemmas.{changes_its}
use Rattle.engine_laws.proofs.EditionLemmas.{holds_at_is}
use Rattle.engine_laws.proofs.FixedLemmas.{fixed_route}
use Rattle.engine_laws.proofs.PlayedLemmas.{fixed_stands}
use Rattle.engine_laws.proofs.SessionLemmas.{accepted_makes}
use Rattle.session_change.specs.Change.{list_of}
use Rattle.edit_history.specs.History.{HistoryState, IsHistoryOf}
use Rattle.edit_history.specs.Laws.{StandsAt, EachChangeMakesTheNextEdition, IsOfPlaylist, EachChangeIsOfTheTouchedPlaylist}

-- ---- the next edition

same_ok : (r : Checked Change) (c d : Change) → r ≡ Ok c → r ≡ Ok d → c ≡ d
same_ok r c d one other = cc

pub each_change_makes_the_next_edition : EachChangeMakesTheNextEdition
each_change_makes_the_next_edition s h k edit change is at = let makes = accepted_makes (edition s h.edits k) edit (is.accepted.each k edit at.here) in
    let same : makes.0 ≡ change = same_ok (change_of (edition s h.edits k).session (edition s h.edits k).transport.wrap edit) makes.0 change makes.1 (is.each k edit change at.here at.its) in
    ap (after_one (edition s h.edits k)) at.here ∙ ap (taken_up (edition s h.edits k)) makes.2 ∙ ap (changed (edition s h.edits k) edit) same

-- ---- a route by its name

-- whether it is this place
abbrev is_at : Option ℕ → ℕ → Bool
is_at o t = option_map_or (λ u. u == t) o false

other_place : (u t : ℕ) → (u ≡ t → ⊥) → (u == t) ≡ false
other_place u t not = grind (arith, nat_tests, not)

names_fixed : (qs : List Route) → map (λ q. q.name) qs ≡ map (λ f. f.name) (map fixed_route qs)
names_fixed [] = refl
names_fixed (q ∷ qs) = ap (λ names. q.name ∷ names) (names_fixed qs)

-- names that no edit changes stay apart
stay_apart : (s z : Session) → fixed_of z ≡ fixed_of s → AreApart (map (λ q. q.name) s.routes.items) → AreApart (map (λ q. q.name) z.routes.items)
stay_apart s z fixed apart = subst AreApart (names_fixed s.routes.items ∙ ap (λ f. map (λ r. r.name) f.routes) (sym fixed) ∙ sym (names_fixed z.routes.items)) apart

module _ (name : List ℕ) where
  abbrev named : Route → Bool
  named q = bytes_eq q.name name

  same_name : (q : Route) → named q ≡ true → q.name ≡ name
  same_name q is = (bytes_eq-Decides q.name name).0 is

  module _ (qs : List Route) (apart : AreApart (map (λ q. q.name) qs)) where
    name_at : (k : ℕ) (q : Route) → k < length qs → slice_index_or (map (λ x. x.name) qs) k q.name ≡ (get_or qs k q).name
    name_at k q lt = get_or-map (λ x. x.name) qs k q q.name lt

    -- no route before it has its name
    none_before : (t : ℕ) (q : Route) → t < length qs → get_or qs t q ≡ q → named q ≡ true → (k : ℕ) → k < t → named (get_or qs k q) ≡ false
    none_before t q lt here is k less = by (named (get_or qs k q)) refl
      where
        by : (b : Bool) → named (get_or qs k q) ≡ b → named (get_or qs k q) ≡ false
        by false fails = fails
        by true passes = absurd (apart k t q.name less (subst (λ n. t < n) (sym (length-map qs (λ x. x.name))) lt)
            (name_at k q (omega (arith, less, lt)) ∙ same_name (get_or qs k q) passes ∙ sym (same_name q is) ∙ ap (λ x. x.name) (sym here) ∙ sym (name_at t q lt)))

    found_at : (t : ℕ) (q : Route) → t < length qs → get_or qs t q ≡ q → named q ≡ true → position named qs ≡ Some t
    found_at t q lt here is = let at : position_or_len named qs ≡ t = position_or_len_is named qs t q (omega (arith, lt)) (none_before t q lt here is) (λ _. ap named here ∙ is) in
        let within : nat_lt t (length qs) ≡ true = grind (arith, nat_tests, lt) in
        ap (λ n. cond (nat_lt n (length qs)) (Some n) None) at ∙ ap (λ b. cond b (Some t) None) within

    -- the route of a place has the name exactly where it is the one that is found
    by_name : (t : ℕ) → option_map_or named (slice_get qs t) false ≡ is_at (position named qs) t
    by_name t = elim (slice_get_cases qs t).1 [
      | inl w ↦ ap (λ o. option_map_or named o false) w.2 ∙ there w.0 w.1 w.3 (named w.0) refl
      | inr w ↦ ap (λ o. option_map_or named o false) w.1 ∙ past w.0 (position named qs) refl
    ]
      where
        past : length qs ≤ t → (o : Option ℕ) → position named qs ≡ o → false ≡ is_at (position named qs) t
        past le None is = sym (ap (λ o. is_at o t) is)
        past le (Some u) is = sym (ap (λ o. is_at o t) is ∙ other_place u t (λ e. let here : u < length qs = (found_there named qs u is).within in absurd (omega (arith, le, here, e))))

        there : (q : Route) → t < length qs → get_or qs t q ≡ q → (b : Bool) → named q ≡ b → named q ≡ is_at (position named qs) t
        there q lt here true is = is ∙ sym (ap (λ o. is_at o t) (found_at t q lt here is) ∙ (grind (arith, nat_tests)))
        there q lt here false is = is ∙ sym (by_found (position named qs) refl)
          where
            by_found : (o : Option ℕ) → position named qs ≡ o → is_at (position named qs) t ≡ false
            by_found None none = ap (λ o. is_at o t) none
            by_found (Some u) found = ap (λ o. is_at o t) found ∙ other_place u t
                (λ e. true≢false (sym (position-Some named qs u q found).1 ∙ ap (λ k. named (get_or qs k q)) e ∙ ap named here ∙ is))

-- ---- the playlist that a change is of

same_list : (c : Change) → list_of c ≡ list_changed c
same_list of_session.TransportOnly = refl
same_list (of_session.Armed t on) = refl
same_list (of_session.Soloed t on) = refl
same_list (of_session.Muted r on) = refl
same_list (of_session.Faded r gain) = refl
same_list (of_session.Panned r left right) = refl
same_list (of_session.InMode r mode) = refl
same_list (of_session.PointSet r p) = refl
same_list (of_session.PointUnset r place) = refl
same_list (of_session.Leads r to) = refl
same_list (of_session.SendSet r link) = refl
same_list (of_session.SendUnset r to) = refl
same_list (of_session.RegionPut t r) = refl
same_list (of_session.RegionTaken t id) = refl

module _ (s z : Session) (t : ℕ) (fixed : fixed_of z ≡ fixed_of s) (valid : IsValid s) where
  by_track : (o : Option (List ℕ)) (x : Option ℕ) → x ≡ option_map_or (λ name. position (λ q. bytes_eq q.name name) z.routes.items) o None →
      option_map_or (is_named s t) o false ≡ is_at x t
  by_track None x is = sym (ap (λ y. is_at y t) is)
  by_track (Some name) x is = sym (names_stay s z t name fixed) ∙ by_name name z.routes.items (stay_apart s z fixed valid.formed.names.routes) t ∙ sym (ap (λ y. is_at y t) is)

at_it : (o : Option ℕ) (t : ℕ) → o ≡ Some t → is_at o t ≡ true
at_it o t is = ap (λ x. is_at x t) is ∙ eq-eqb t t refl

it_is : (o : Option ℕ) (t : ℕ) → is_at o t ≡ true → o ≡ Some t
it_is None t h = absurd (true≢false (sym h))
it_is (Some u) t h = ap (λ n. Some n) (eqb-true u t h)

not_it : (o : Option ℕ) (t : ℕ) → (o ≡ Some t → ⊥) → is_at o t ≡ false
not_it o t other = by (is_at o t) refl
  where
    by : (b : Bool) → is_at o t ≡ b → is_at o t ≡ false
    by false e = e
    by true e = absurd (other (it_is o t e))

module _ (s : Session) (h : HistoryState) (k : ℕ) (edit : Edit) (change : Change) (valid : IsValid s) (t : ℕ) (is : IsHistoryOf s h) (at : StandsAt h k edit change) where
  touches_its : touches s t edit ≡ is_at (list_of change) t
  touches_its = let now = edition s h.edits k in
      by_track s now.session t (fixed_stands s h.edits k) valid (region_track edit) (list_of change)
      (same_list change ∙ changes_its now.session now.transport.wrap edit change (is.each k edit change at.here at.its))

  next_is : (b : Bool) → is_at (list_of change) t ≡ b → playlist_edition s h.edits t (suc k) ≡ (if b then suc k else playlist_edition s h.edits t k)
  next_is b e = ap (λ c. if c then suc k else playlist_edition s h.edits t k) (holds_at_is (touches s t) h.edits k ∙ ap (λ o. option_map_or (touches s t) o false) at.here ∙ touches_its ∙ e)

  is_of_playlist : IsOfPlaylist s h k edit change t
  is_of_playlist = record {
    touched = (λ e. touches_its ∙ at_it (list_of change) t e, λ e. it_is (list_of change) t (sym touches_its ∙ e));
    its = λ e. next_is true (at_it (list_of change) t e);
    others = λ other. next_is false (not_it (list_of change) t other);
  }

pub each_change_is_of_the_touched_playlist : EachChangeIsOfTheTouchedPlaylist
each_change_is_of_the_touched_playlist s h k edit change valid t is at = is_of_playlist s h k edit change valid t is at
