-- The regions of a made track, one by one: each lies over those before it.
use Rattle.std.proofs.Common.{◌≡◌, ℕ, zero, suc, ◌+◌, ◌<◌, ◌≤◌, false, ◌==◌, nat_lt, refl, ap, sym, ◌∙◌, arith, [], ◌∷◌, ◌++◌, map}
use Rattle.std.specs.List.{list_any, range_with_len}
use Rattle.std.proofs.lemmas.Bool.Decides.{nat_tests}
use Rattle.sound_model.specs.Layers.{is_below, with_region}
use Rattle.session_model.specs.Playlist.{has_id, has_region}
use Rattle.session_model.specs.Region.{IsRegion}
use Rattle.made_session.specs.Each.{each_below}
use Rattle.made_session.specs.Made.{region}
use Rattle.made_session.proofs.ListLemmas.{each-more}

pub region-limits : (j : ℕ) → j < 256 → IsRegion (region j)
unfolding region
region-limits j h = record {
  id_least = omega arith;
  id_most = omega arith;
  start = omega arith;
  some = omega arith;
  long = omega arith;
  source_end = omega arith;
  end = omega arith;
  layer = omega arith;
  gain = omega arith;
  fades = omega arith;
}

none-in : (a n id : ℕ) → a + n < id → list_any (has_id id) (map region (range_with_len a n)) ≡ false
unfolding region
none-in a zero id h = refl
none-in a (suc n) id h = let first : (suc a == id) ≡ false = grind (arith, nat_tests) in rw (first, none-in (a + 1) n id (omega arith)) refl

-- its id is new
pub region-fresh : (j : ℕ) → has_region (each_below region j) (region j).id ≡ false
unfolding region each_below
region-fresh j = none-in 0 j (suc j) (omega arith)

over : (a k : ℕ) → a < k → is_below (region k) (region a) ≡ false
unfolding region
over a k h = let higher : nat_lt k a ≡ false = grind (arith, nat_tests) in let other : (k == a) ≡ false = grind (arith, nat_tests) in rw (higher, other) refl

with-last : (a n k : ℕ) → a + n ≤ k → with_region (region k) (map region (range_with_len a n)) ≡ map region (range_with_len a n) ++ region k ∷ []
with-last a zero k h = refl
with-last a (suc n) k h = rw (over a k (omega arith)) (ap (λ l. region a ∷ l) (with-last (a + 1) n k (omega arith)))

-- it stands last
behind : (j : ℕ) → with_region (region j) (each_below region j) ≡ each_below region j ++ region j ∷ []
unfolding each_below
behind j = with-last 0 j j (omega arith)

pub region-next : (j : ℕ) → with_region (region j) (each_below region j) ≡ each_below region (j + 1)
region-next j = behind j ∙ sym (each-more region j)
