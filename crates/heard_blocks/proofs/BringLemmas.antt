-- A track's list is brought from edition to edition by the changes of its playlist, and no other list changes.
use Rattle.std.proofs.Common.{◌≡◌, eqb, ℕ, zero, suc, ◌+◌, ◌<◌, ◌≤◌, inl, inr, List, [], ◌∷◌, All, length, map, set, get_or, replicate, refl, sym, ap, subst, ◌∙◌, arith, length-set}
use Rattle.std.specs.Prelude.{true, false, IsTrue, Option, Some, None, Ok, Err, slice_get, slice_index_or}
use Rattle.std.specs.Option.{option_eq, option_map, option_map_or}
use Rattle.std.proofs.lemmas.Bool.{cases_eq, true≢false, eqb-true, eq-eqb}
use Rattle.std.proofs.lemmas.Option.{slice_get-get_or, slice_get-map}
use Rattle.std.proofs.lemmas.List.{get_or-set_same, get_or-set_other}
use Rattle.std.proofs.lemmas.List.Elements.{All-head, All-tail}
use Rattle.sound_model.specs.Regions.{Region}
use Rattle.sound_model.specs.Layers.{with_region}
use Rattle.session_model.specs.declared.track.Track.{Track}
use Rattle.session_model.specs.declared.session.Session.{Session}
use Rattle.session_model.specs.declared.edit.Edit.{Edit}
use Rattle.session_model.specs.Playlist.{without_region}
use Rattle.session_model.specs.Views.{track_regions}
use Rattle.engine_model.specs.Edits.{keeps_forms}
use Rattle.engine_model.specs.Fixed.{fixed_of}
use Rattle.engine_model.specs.Changes.{Change, TransportOnly, Armed, Soloed, Muted, Faded, Panned, InMode, PointSet, PointUnset, Leads, SendSet, SendUnset, RegionPut, RegionTaken, changed_at, with_track, made}
use Rattle.engine_model.specs.Refusals.{Checked}
use Rattle.engine_model.specs.Editions.{after_one, edition, taken_up}
use Rattle.session_model.specs.Valid.{IsValid}
use Rattle.engine_model.specs.MayMake.{KeepsItsTypes, MayMake}
use Rattle.engine_laws.proofs.ChangeLemmas.{fixed_stays, list_changed, lists_stay}
use Rattle.engine_laws.proofs.FixedLemmas.{many_tracks}
use Rattle.engine_laws.proofs.ListLemmas.{item_at}
use Rattle.engine_laws.proofs.PlayedLemmas.{fixed_stands}
use Rattle.engine_laws.proofs.SessionLemmas.{accepted_makes}
use Rattle.edit_laws.specs.CommandLaws.{IsWhole}
use Rattle.edit_laws.proofs.MadeLemmas.{made_keeps_valid}
use Rattle.session_change.specs.declared.change.Change as code
use Rattle.session_change.specs.Change.{change_seen, list_of}
use Rattle.edit_history.specs.History.{HistoryState, IsHistoryOf}
use Rattle.heard_blocks.specs.Lists.{ListsState, IsAsOf, HasLists, IsBrought}
use Rattle.heard_blocks.proofs.SameChange.{may_be_made}

-- ---- the list of a change

same_list : (c : Change) → list_of c ≡ list_changed c
same_list TransportOnly = refl
same_list (Armed t on) = refl
same_list (Soloed t on) = refl
same_list (Muted r on) = refl
same_list (Faded r gain) = refl
same_list (Panned r left right) = refl
same_list (InMode r mode) = refl
same_list (PointSet r p) = refl
same_list (PointUnset r place) = refl
same_list (Leads r to) = refl
same_list (SendSet r link) = refl
same_list (SendUnset r to) = refl
same_list (RegionPut t r) = refl
same_list (RegionTaken t id) = refl

some_is : {X : Type 0} (x y : X) → Some x ≡ Some y → x ≡ y
some_is x y h = ap (λ o. option_map_or (λ z. z) o x) h

none_is_some : {X C : Type 0} (x : X) → None ≡ Some x → C
none_is_some x e = cc

all_at : {X : Type 0} (P : X → Type 0) (xs : List X) (i : ℕ) (x : X) → All P xs → slice_get xs i ≡ Some x → P x
all_at P [] i x all here = none_is_some x here
all_at P (y ∷ ys) zero x all here = subst P (some_is y x here) (All-head P y ys all)
all_at P (y ∷ ys) (suc i) x all here = all_at P ys i x (All-tail P y ys all) here

changed_here : (f : Track → Track) (g : List Region → List Region) → ((k : Track) → (f k).list ≡ g k.list) → (t : ℕ) (xs : List Track) → t < length xs →
    option_map_or (λ (k : Track). k.list) (slice_get (changed_at f t xs) t) [] ≡ g (option_map_or (λ (k : Track). k.list) (slice_get xs t) [])
changed_here f g same t [] lt = absurd (omega arith)
changed_here f g same zero (x ∷ xs) lt = same x
changed_here f g same (suc t) (x ∷ xs) lt = changed_here f g same t xs (omega arith)

-- it is the same change of the same list
module _ (z x : Session) (t : ℕ) (lt : t < length z.tracks.items) (at : t < length x.tracks.items) (same : track_regions z t ≡ track_regions x t) where
  by_list : (f : Track → Track) (g : List Region → List Region) → ((k : Track) → (f k).list ≡ g k.list) → (u : ℕ) → u ≡ t → track_regions (with_track f u z) t ≡ track_regions (with_track f u x) t
  by_list f g is u e = ap (λ n. track_regions (with_track f n z) t) e ∙ changed_here f g is t z.tracks.items lt ∙ ap g same
      ∙ sym (changed_here f g is t x.tracks.items at) ∙ ap (λ n. track_regions (with_track f n x) t) (sym e)

  made_same : (c : Change) → list_changed c ≡ Some t → track_regions (made z c) t ≡ track_regions (made x c) t
  made_same (RegionPut u r) of = by_list (λ k. record k { list = with_region r (without_region k.list r.id) }) (λ l. with_region r (without_region l r.id)) (λ k. refl) u (some_is u t of)
  made_same (RegionTaken u id) of = by_list (λ k. record k { list = without_region k.list id }) (λ l. without_region l id) (λ k. refl) u (some_is u t of)
  made_same _ of = none_is_some t of

-- ---- one edit

ok_is : (m : Checked Change) (a b : Change) → m ≡ Ok a → m ≡ Ok b → a ≡ b
ok_is (Ok x) a b e f = cc
ok_is (Err why) a b e f = cc

module _ (s : Session) (h : HistoryState) (t k : ℕ) (c : Change) (is : IsHistoryOf s h) (lt : t < length s.tracks.items) (there : slice_get h.changes k ≡ Some c) (within : k < length h.edits) where
  edit_there : (e : Edit) × (slice_get h.edits k ≡ Some e)
  edit_there = item_at h.edits k within

  next_session : (edition s h.edits (k + 1)).session ≡ made (edition s h.edits k).session c
  next_session = let e = edit_there in let makes = accepted_makes (edition s h.edits k) e.0 (is.accepted.each k e.0 e.1) in
      let same : makes.0 ≡ c = ok_is _ makes.0 c makes.1 (is.each k e.0 c e.1 there) in
      ap (λ n. (edition s h.edits n).session) {x = k + 1} {y = suc k} (omega arith)
      ∙ ap (λ o. (after_one (edition s h.edits k) o).session) e.1 ∙ ap (λ m. (taken_up (edition s h.edits k) m).session) makes.2 ∙ ap (made (edition s h.edits k).session) same

  module _ (old z : Session) (forms : All (λ e. IsTrue (keeps_forms e)) h.edits) (now : IsBrought s h.edits t k old z) where
    same_fixed : fixed_of z ≡ fixed_of (edition s h.edits k).session
    same_fixed = now.fixed ∙ sym (fixed_stands s h.edits k)

    pub may_make : list_of c ≡ Some t → MayMake z c
    may_make of = let e = edit_there in may_be_made (edition s h.edits k).session z same_fixed t now.here (edition s h.edits k).transport.wrap e.0 c now.whole
        (all_at (λ x. IsTrue (keeps_forms x)) h.edits k e.0 forms e.1) (is.each k e.0 c e.1 there) (sym (same_list c) ∙ of)

    pub brought_by : list_of c ≡ Some t → IsBrought s h.edits t (k + 1) old (made z c)
    brought_by of = let changes : list_changed c ≡ Some t = sym (same_list c) ∙ of in record {
      whole = made_keeps_valid z c now.whole (may_make of);
      fixed = fixed_stays z c ∙ now.fixed;
      here = made_same z (edition s h.edits k).session t (subst (λ n. t < n) (sym (many_tracks s z now.fixed)) lt)
          (subst (λ n. t < n) (sym (many_tracks s (edition s h.edits k).session (fixed_stands s h.edits k))) lt) now.here c changes
          ∙ ap (λ x. track_regions x t) (sym next_session);
      others = λ u other. lists_stay z c u (λ e. other (some_is u t (sym e ∙ changes))) ∙ now.others u other;
    }

    pub brought_without : ¬ (list_of c ≡ Some t) → IsBrought s h.edits t (k + 1) old z
    brought_without other = record {
      whole = now.whole;
      fixed = now.fixed;
      here = now.here ∙ sym (lists_stay (edition s h.edits k).session c t (λ e. other (same_list c ∙ e))) ∙ ap (λ x. track_regions x t) (sym next_session);
      others = now.others;
    }

-- ---- all edits of a track's list

module _ (s : Session) (edits : List Edit) (l : ListsState) (t : ℕ) (lists : HasLists s edits l) (lt : t < length s.tracks.items) where
  pub place_within : t < length l.at
  place_within = let few = lists.whole.valid.formed.limits.tracks in let many = many_tracks s l.session lists.fixed in omega (arith, few, many, lt, lists.many)

  pub brought_first : IsBrought s edits t (slice_index_or l.at t 0) l.session l.session
  brought_first = record { whole = lists.whole; fixed = lists.fixed; here = (lists.each t lt).list; others = λ u other. refl }

  pub brought_lists : (to : ℕ) (now : ListsState) → to ≤ length edits → IsBrought s edits t to l.session now.session → now.at ≡ set l.at t to → HasLists s edits now
  brought_lists to now le brought at = record {
    whole = brought.whole;
    fixed = brought.fixed;
    many = ap length at ∙ length-set l.at t to ∙ lists.many;
    each = λ u within. elim (cases_eq u t) [
      | inl same ↦ subst (IsAsOf s edits now) (sym same) (as_of t to (ap (λ xs. slice_index_or xs t 0) at ∙ get_or-set_same l.at t to 0 place_within) le brought.here)
      | inr other ↦ let was = lists.each u within in as_of u (slice_index_or l.at u 0) (ap (λ xs. slice_index_or xs u 0) at ∙ get_or-set_other l.at t u to 0 other) was.stands
          (brought.others u other ∙ was.list)
    ];
  }
    where
      as_of : (u p : ℕ) → slice_index_or now.at u 0 ≡ p → p ≤ length edits → track_regions now.session u ≡ track_regions (edition s edits p).session u → IsAsOf s edits now u
      as_of u p is few here = record {
        stands = subst (λ n. n ≤ length edits) (sym is) few;
        list = here ∙ ap (λ n. track_regions (edition s edits n).session u) (sym is);
      }

-- ---- the lists of a session as it was opened

pub zero_at : (n t : ℕ) → ◌≡◌ {A = ℕ} (slice_index_or (replicate n 0) t 0) 0
zero_at zero t = refl
zero_at (suc n) zero = refl
zero_at (suc n) (suc t) = zero_at n t

pub first_lists : (s : Session) (edits : List Edit) (l : ListsState) → IsValid s → KeepsItsTypes s → l.session ≡ s → l.at ≡ replicate 32 0 → HasLists s edits l
first_lists s edits l valid types same at = record {
  whole = subst IsWhole (sym same) (record { valid = valid; types = types });
  fixed = ap fixed_of same;
  many = ap length at;
  each = λ t within. let none = ap (λ xs. slice_index_or xs t 0) at ∙ zero_at 32 t in record {
    stands = subst (λ n. n ≤ length edits) (sym none) (omega arith);
    list = ap (λ x. track_regions x t) same ∙ ap (λ n. track_regions (edition s edits n).session t) (sym none);
  };
}

-- ---- a change as the definitions of the engine have it

pub change_there : (xs : List code.Change) (changes : List Change) (k : ℕ) (c : code.Change) → map change_seen xs ≡ changes → k < length xs → c ≡ get_or xs k c →
    slice_get changes k ≡ Some (change_seen c)
change_there xs changes k c seen lt is = ap (λ l. slice_get l k) (sym seen) ∙ slice_get-map change_seen xs k ∙ ap (option_map change_seen) (slice_get-get_or xs k c lt ∙ ap (λ x. Some x) (sym is))

-- a change is asked for its track
pub is_asked : (o : Option ℕ) (t : ℕ) → option_eq eqb o (Some t) ≡ true → o ≡ Some t
is_asked None t h = absurd (true≢false (sym h))
is_asked (Some u) t h = ap (λ n. Some n) (eqb-true u t h)

pub not_asked : (o : Option ℕ) (t : ℕ) → option_eq eqb o (Some t) ≡ false → ¬ (o ≡ Some t)
not_asked o t h e = true≢false (sym (eq-eqb t t refl) ∙ sym (ap (λ x. option_eq eqb x (Some t)) e) ∙ h)
