-- An edition stays the state of its opening session after its edits.
use Rattle.std.proofs.Common.{◌≡◌, ℕ, zero, suc, ◌<◌, ◌≤◌, List, [], ◌∷◌, ◌++◌, length, refl, sym, ap, subst, arith, ◌∙◌}
use Rattle.std.specs.Prelude.{true, false, ◌==◌, nat_le, if◌then◌else◌, Some, Result, Ok, Err, IsOk, slice_index_or}
use Rattle.std.specs.List.{list_all}
use Rattle.std.proofs.lemmas.Bool.{and_parts, eqb-true}
use Rattle.std.proofs.lemmas.Bool.Decides.{nat_tests}
use Rattle.std.proofs.lemmas.List.{length-map}
use Rattle.session_model.specs.declared.session.Session.{Session}
use Rattle.session_model.specs.declared.edit.Edit.{Edit}
use Rattle.session_model.specs.Valid.{IsValid}
use Rattle.engine_model.specs.Edits.{touches, last_where, playlist_edition}
use Rattle.engine_model.specs.Transport as engine_transport
use Rattle.engine_model.specs.Transport.{moved, at_rest}
use Rattle.locate_loop.specs.Transport.{transport_of}
use Rattle.engine_model.specs.Refusals.{Edits, Limit, Refusal}
use Rattle.engine_model.specs.Changes.{Change, TransportOnly, Armed, Soloed, Muted, Faded, Panned, InMode, PointSet, PointUnset, Leads, SendSet, SendUnset, RegionPut, RegionTaken, made}
use Rattle.engine_model.specs.MayMake.{MayMake}
use Rattle.engine_model.specs.Commands.{change_of}
use Rattle.engine_model.specs.Editions.{Edition, apply, changed, taken_up, after_one, edition, IsAccepted}
use Rattle.engine_model.specs.Fixed.{fixed_of}
use Rattle.engine_laws.proofs.ChangeLemmas.{fixed_stays}
use Rattle.engine_laws.proofs.FixedLemmas.{fixed_route}
use Rattle.engine_laws.proofs.EditionLemmas.{at_the_end, one_longer, accepted_more, edition_stays}
use Rattle.engine_laws.proofs.NumberLemmas.{last_stays}
use Rattle.engine_laws.proofs.PlainLemmas.{held_at_the_end}
use Rattle.engine_laws.proofs.PlayedLemmas.{fixed_stands}
use Rattle.session_change.specs.Change.{list_of}
use Rattle.edition_log.specs.EditionState.{EditionState, IsOpen, IsEditionOf, state_of}
use Rattle.edition_log.specs.Steps.{noted}
use Rattle.edition_log.proofs.TouchLemmas.{noted_at, touches_its}

abbrev state : Session → engine_transport.Transport → ℕ → Edition
state s t n = record { session = s; transport = t; number = n }

same_edition : (r s : Session) (t u : engine_transport.Transport) (n m : ℕ) → r ≡ s → t ≡ u → n ≡ m → state r t n ≡ state s u m
same_edition r s t u n m d e f = ap (λ x. state x t n) d ∙ ap (λ c. state s c n) e ∙ ap (λ k. state s u k) f

all_zero : (xs : List ℕ) (t : ℕ) → list_all (λ x. x == 0) xs ≡ true → slice_index_or xs t 0 ≡ 0
all_zero [] t h = refl
all_zero (x ∷ xs) zero h = eqb-true x 0 (and_parts (x == 0) (list_all (λ y. y == 0) xs) h).0
all_zero (x ∷ xs) (suc t) h = all_zero xs t (and_parts (x == 0) (list_all (λ y. y == 0) xs) h).1

pub is_first : (s : Session) (e : EditionState) → e.session ≡ s → transport_of e.transport ≡ at_rest → e.edits ≡ [] → list_all (λ x. x == 0) e.touched ≡ true → IsEditionOf s e
is_first s e same rests none zeros = record {
  state = same_edition e.session s (transport_of e.transport) at_rest (length e.edits) 0 same rests (ap (λ es. length es) none) ∙ sym (ap (λ es. edition s es (length es)) none);
  accepted = subst (IsAccepted s) (sym none) (record { each = λ k x here. absurd (grind (arith, here)); unended = λ k x here. absurd (grind (arith, here)) });
  touched = λ t lt. all_zero e.touched t zeros ∙ sym (ap (λ es. playlist_edition s es t (length es)) none);
}

-- the playlist edition after one more edit
next_playlist : (s : Session) (t : ℕ) (edits : List Edit) (edit : Edit) →
    playlist_edition s (edits ++ edit ∷ []) t (length (edits ++ edit ∷ [])) ≡ (if touches s t edit then suc (length edits) else playlist_edition s edits t (length edits))
next_playlist s t edits edit = ap (playlist_edition s (edits ++ edit ∷ []) t) (one_longer edits edit)
    ∙ ap (λ b. if b then suc (length edits) else last_where (touches s t) (edits ++ edit ∷ []) (length edits)) (held_at_the_end (touches s t) edits edit)
    ∙ ap (λ n. if touches s t edit then suc (length edits) else n) (last_stays (touches s t) edits (edit ∷ []) (length edits) (omega arith))

next_edition : (s : Session) (edits : List Edit) (edit : Edit) (next : Edition) → apply (edition s edits (length edits)) edit ≡ Ok next →
    edition s (edits ++ edit ∷ []) (length (edits ++ edit ∷ [])) ≡ next
next_edition s edits edit next ok = ap (edition s (edits ++ edit ∷ [])) (one_longer edits edit)
    ∙ ap (after_one (edition s (edits ++ edit ∷ []) (length edits))) (at_the_end edits edit)
    ∙ ap (λ e. after_one e (Some edit)) (edition_stays s edits (edit ∷ []) (length edits) (omega arith))
    ∙ ap (taken_up (edition s edits (length edits))) ok

ok_is_ok : (r : Result Edition Refusal) (next : Edition) → r ≡ Ok next → IsOk r
ok_is_ok r next e = subst IsOk (sym e) refl

pub stays_at_end : (s : Session) (old new : EditionState) → state_of new ≡ state_of old → new.edits ≡ old.edits → new.touched ≡ old.touched → IsEditionOf s old → IsEditionOf s new
stays_at_end s old new state same touched is = record {
  state = state ∙ is.state ∙ sym (ap (λ es. edition s es (length es)) same);
  accepted = subst (IsAccepted s) (sym same) is.accepted;
  touched = λ t lt. ap (λ ts. slice_index_or ts t 0) touched ∙ is.touched t lt ∙ sym (ap (λ es. playlist_edition s es t (length es)) same);
}

-- ---- an edit that is accepted

-- what is resolved of an edit is what `apply` makes
pub applies_by : (e : Edition) (edit : Edit) (c : Change) → e.number < 10000 → change_of e.session e.transport.wrap edit ≡ Ok c → apply e edit ≡ Ok (changed e edit c)
applies_by e edit c few is = let small : nat_le 10000 e.number ≡ false = grind (arith, nat_tests, few) in rw (small, is) refl

-- or its first refusal
pub refused_by : (e : Edition) (edit : Edit) (why : Refusal) → e.number < 10000 → change_of e.session e.transport.wrap edit ≡ Err why → apply e edit ≡ Err why
refused_by e edit why few is = let small : nat_le 10000 e.number ≡ false = grind (arith, nat_tests, few) in rw (small, is) refl

pub refused_full : (e : Edition) (edit : Edit) → 10000 ≤ e.number → apply e edit ≡ Err (Limit Edits)
refused_full e edit full = let large : nat_le 10000 e.number ≡ true = grind (arith, nat_tests, full) in rw large refl

-- An edition after an edit that changes this of its session.
pub record IsNext (old new : EditionState) (edit : Edit) (c : Change) : Type 0 where
  pub few : length old.edits < 10000
  pub is_change : change_of old.session (transport_of old.transport).wrap edit ≡ Ok c
  pub session : new.session ≡ made old.session c
  pub transport : transport_of new.transport ≡ moved (transport_of old.transport) edit
  pub edits : new.edits ≡ old.edits ++ edit ∷ []
  pub ended : new.ended ≡ old.ended
  pub touched : new.touched ≡ noted (list_of c) (suc (length old.edits)) old.touched

pub applied_is : (old new : EditionState) (edit : Edit) (c : Change) → IsNext old new edit c → apply (state_of old) edit ≡ Ok (state_of new)
applied_is old new edit c n = applies_by (state_of old) edit c n.few n.is_change ∙ ap (λ e. Ok e) (sym
    (same_edition new.session (made old.session c) (transport_of new.transport) (moved (transport_of old.transport) edit) (length new.edits) (suc (length old.edits)) n.session n.transport
    (ap (λ es. length es) n.edits ∙ one_longer old.edits edit)))

pub stays_with_edit : (s : Session) (old new : EditionState) (edit : Edit) (c : Change) → IsOpen old → IsValid old.session → length old.touched ≡ 32 → IsNext old new edit c →
    IsEditionOf s old → IsEditionOf s new
stays_with_edit s old new edit c open_still valid long n is = let here = subst (λ e. apply e edit ≡ Ok (state_of new)) is.state (applied_is old new edit c n) in record {
  state = sym (next_edition s old.edits edit (state_of new) here) ∙ sym (ap (λ es. edition s es (length es)) n.edits);
  accepted = subst (IsAccepted s) (sym n.edits) (accepted_more s old.edits edit is.accepted (ap (λ e. e.transport.quit) (sym is.state) ∙ open_still.quit)
      (ok_is_ok (apply (edition s old.edits (length old.edits)) edit) (state_of new) here));
  touched = λ t lt. by_track t lt;
} where
  fixed : fixed_of old.session ≡ fixed_of s
  fixed = ap (λ e. fixed_of e.session) is.state ∙ fixed_stands s old.edits (length old.edits)

  by_track : (t : ℕ) → t < 32 → slice_index_or new.touched t 0 ≡ playlist_edition s new.edits t (length new.edits)
  by_track t lt = ap (λ ts. slice_index_or ts t 0) n.touched ∙ noted_at (list_of c) (suc (length old.edits)) old.touched t (subst (λ k. t < k) (sym long) lt)
      ∙ ap (λ b. if b then suc (length old.edits) else slice_index_or old.touched t 0) (sym (touches_its s old.session (transport_of old.transport).wrap edit c t valid fixed n.is_change))
      ∙ ap (λ k. if touches s t edit then suc (length old.edits) else k) (is.touched t lt)
      ∙ sym (next_playlist s t old.edits edit) ∙ sym (ap (λ es. playlist_edition s es t (length es)) n.edits)

-- ---- what a change leaves

-- as many routes
pub as_many_routes : (s : Session) (c : Change) → length (made s c).routes.items ≡ length s.routes.items
as_many_routes s c = sym (length-map (made s c).routes.items fixed_route) ∙ ap (λ f. length f.routes) (fixed_stays s c) ∙ length-map s.routes.items fixed_route

-- it is of the playlist of a track
pub list_is_track : (s : Session) (c : Change) (t : ℕ) → IsValid s → MayMake s c → list_of c ≡ Some t → t < 32
list_is_track s (RegionPut u r) t valid may is = let same : u ≡ t = cc in omega (arith, may.track, valid.formed.limits.tracks, same)
list_is_track s (RegionTaken u id) t valid may is = let same : u ≡ t = cc in omega (arith, may.0, valid.formed.limits.tracks, same)
list_is_track s TransportOnly t valid may is = cc
list_is_track s (Armed u on) t valid may is = cc
list_is_track s (Soloed u on) t valid may is = cc
list_is_track s (Muted r on) t valid may is = cc
list_is_track s (Faded r gain) t valid may is = cc
list_is_track s (Panned r left right) t valid may is = cc
list_is_track s (InMode r mode) t valid may is = cc
list_is_track s (PointSet r p) t valid may is = cc
list_is_track s (PointUnset r place) t valid may is = cc
list_is_track s (Leads r to) t valid may is = cc
list_is_track s (SendSet r link) t valid may is = cc
list_is_track s (SendUnset r to) t valid may is = cc
