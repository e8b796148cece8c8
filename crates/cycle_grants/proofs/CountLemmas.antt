-- What is kept of grants, with one more.
use Rattle.std.proofs.Common.{◌≡◌, ℕ, ◌+◌, ◌<◌, ◌≤◌, [], ◌∷◌, ◌++◌, min, max, sym, ap, ◌∙◌, arith}
use Rattle.std.proofs.lemmas.List.{map-append}
use Rattle.engine_model.specs.Waited.{allowed}
use Rattle.disk_ring.specs.Receiver.{Receiver}
use Rattle.run_world.specs.declared.finished.Grant.{Grant}
use Rattle.cycle_grants.specs.Grants.{grant_of, grants_in, newest}
use Rattle.cycle_grants.specs.Allowance.{Counts}
use Rattle.cycle_grants.proofs.GrantLemmas.{allowed_append}
use Rattle.cycle_grants.proofs.AllowedLemmas.{newest_append}

pub counted_more : (r q : Receiver Grant) (item g : Grant) (cycles floor more newer : ℕ) → Counts r cycles floor → q ≡ record r { received = r.received ++ item ∷ [] } → g ≡ item →
    more ≡ min (cycles + min g.cycles 200000) 200000 → newer ≡ max floor g.edition → Counts q more newer
counted_more r q item g cycles floor more newer was is same sum new =
    let grants : grants_in q ≡ grants_in r ++ grant_of g ∷ [] = ap (λ (s : Receiver Grant). grants_in s) is ∙ map-append grant_of r.received (item ∷ []) ∙ ap (λ h. grants_in r ++ grant_of h ∷ []) (sym same) in
    let all = ap allowed grants ∙ allowed_append (grants_in r) (grant_of g ∷ []) in
    let old = was.sum in record {
      room = ap (λ (s : Receiver Grant). s.room) is ∙ was.room;
      sum = grind (arith, all, old, sum);
      floor_is = new ∙ ap (λ n. max n g.edition) was.floor_is ∙ sym (ap newest grants ∙ newest_append (grants_in r) (grant_of g));
    }

-- the count says whether more than so many cycles are allowed
pub is_within : (r : Receiver Grant) (cycles floor made : ℕ) → Counts r cycles floor → made ≤ 100000 → cycles ≤ made → allowed (grants_in r) ≤ made
is_within r cycles floor made counts few low = let sum = counts.sum in grind (arith, sum, few, low)

pub is_past : (r : Receiver Grant) (cycles floor made : ℕ) → Counts r cycles floor → made < cycles → made < allowed (grants_in r)
is_past r cycles floor made counts high = let sum = counts.sum in grind (arith, sum, high)
