-- A playlist without an id has no region of it, and room for one.
use Rattle.std.proofs.Common.{◌≡◌, inl, inr, ℕ, ◌≤◌, ◌<◌, ◌⊎◌, List, [], ◌∷◌, length, filter, refl, arith}
use Rattle.std.specs.Prelude.{Bool, true, false, not, IsTrue}
use Rattle.std.specs.List.{list_any}
use Rattle.std.proofs.lemmas.Bool.{not-true}
use Rattle.std.proofs.lemmas.List.Elements.{All-weaker, filter_passes}
use Rattle.std.proofs.lemmas.List.Filters.{length-filter_both}
use Rattle.std.proofs.lemmas.List.Folds.{list_any_none}
use Rattle.sound_laws.proofs.Cases.{by_test}
use Rattle.sound_model.specs.Regions.{Region}
use Rattle.session_model.specs.Playlist.{has_id, has_region, without_region}

pub none_has : (id : ℕ) (rs : List Region) → has_region (without_region rs id) id ≡ false
none_has id rs = list_any_none (has_id id) (without_region rs id)
    (All-weaker (λ r. not (has_id id r) ≡ true) (λ r. has_id id r ≡ false) (λ r h. not-true (has_id id r) h) (without_region rs id) (filter_passes (λ r. not (has_id id r)) rs))

some_pass : (p : Region → Bool) (rs : List Region) → list_any p rs ≡ true → 0 < length (filter p rs)
some_pass p [] e = cc
some_pass p (r ∷ rs) e = by_test (p r)
    (λ t. rw t (omega arith))
    (λ t. rw t (some_pass p rs (rw t at e)))

pub room_for : (id : ℕ) (rs : List Region) → length rs ≤ 256 → IsTrue (has_region rs id) ⊎ (length rs < 256) → length (without_region rs id) < 256
room_for id rs few (inl has) = omega (arith, length-filter_both (has_id id) (λ r. not (has_id id r)) (λ r. refl) rs, some_pass (has_id id) rs has)
room_for id rs few (inr room) = omega (arith, length-filter_both (has_id id) (λ r. not (has_id id r)) (λ r. refl) rs)
