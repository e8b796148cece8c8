-- When the ring of grants is full.
use Rattle.std.proofs.Common.{◌≡◌, inl, inr, ℕ, ◌+◌, ◌^◌, List, [], ◌∷◌, ◌++◌, length, refl, sym, ap, ◌∙◌}
use Rattle.std.specs.Prelude.{true, false, ◌==◌, Some}
use Rattle.std.specs.Option.{option_map_or}
use Rattle.std.proofs.lemmas.Bool.{or_left, or_right, eq-eqb}
use Rattle.std.proofs.lemmas.List.{length-map}
use Rattle.engine_model.specs.Waited.{last_of, was_full}
use Rattle.disk_ring.specs.Sender.{Sender, FoundFull, Refuses}
use Rattle.run_world.specs.declared.finished.Grant as ring
use Rattle.cycle_grants.specs.Grants.{grant_of, grants_put, shown_of}
use Rattle.cycle_grants.specs.Granting.{TheLastGrantIsFull}

pub the_last_grant_is_full : TheLastGrantIsFull
the_last_grant_is_full depth grants all = or_right (option_map_or (λ h. h + depth == length grants.sent) (last_of grants.heads) false) (length grants.sent == 2 ^ 62) (eq-eqb (length grants.sent) (2 ^ 62) all)

-- the number that was noted last
pub last_noted : (ns : List ℕ) (n : ℕ) → last_of (ns ++ n ∷ []) ≡ Some n
last_noted [] n = refl
last_noted (m ∷ []) n = refl
last_noted (m ∷ k ∷ ns) n = last_noted (k ∷ ns) n

-- a ring that refused a grant was full
pub refused_full : (a b : Sender ring.Grant) (head : ℕ) → Refuses a head b → was_full b.depth (shown_of b) ≡ true
refused_full a b head refuses = by refuses.full
  where
    long : length (grants_put b) ≡ length a.sent
    long = length-map b.sent grant_of ∙ ap (λ (s : Sender ring.Grant). length s.sent) refuses.heads

    by : FoundFull a head → was_full b.depth (shown_of b) ≡ true
    by (inl full) = or_left (option_map_or (λ h. h + b.depth == length (grants_put b)) (last_of b.heads) false) (length (grants_put b) == 2 ^ 62)
        (ap (λ o. option_map_or (λ h. h + b.depth == length (grants_put b)) o false) (ap (λ (s : Sender ring.Grant). last_of s.heads) refuses.heads ∙ last_noted a.heads head)
        ∙ eq-eqb (head + b.depth) (length (grants_put b)) (ap (λ (s : Sender ring.Grant). head + s.depth) refuses.heads ∙ sym full ∙ sym long))
    by (inr all) = the_last_grant_is_full b.depth (shown_of b) (long ∙ all)
