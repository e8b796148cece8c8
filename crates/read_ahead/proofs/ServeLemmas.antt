-- The tracks are served one after the other.
use Rattle.std.proofs.Common.{◌≡◌, ◌≢◌, ℕ, ◌+◌, ◌-◌, ◌<◌, ◌≤◌, suc, List, [], ◌∷◌, length, set, get_or, refl, sym, ap, ◌∙◌, subst, arith, inl, inr, length-set, length-append}
use Rattle.std.specs.Prelude.{false, Option, Some, Result, Ok, Err, IfErr, slice_get, sum_by}
use Rattle.std.proofs.lemmas.Bool.{cases_lt}
use Rattle.std.proofs.lemmas.List.Sums.{sum_by-set, sum_by-cons}
use Rattle.std.proofs.lemmas.Option.{slice_get-get_or, same_Some, slice_get_within, get_or_from_slice_get}
use mathlib.Core.Logic.{dite}
use native.Mathlib.Decide.{ℕ_discrete}
use Rattle.sound_model.specs.Regions.{Sounds}
use Rattle.disk_ring.specs.Sender.{Sender}
use Rattle.piece_item.specs.declared.item.Item.{Item}
use Rattle.read_ahead.specs.declared.supply.TrackSupply.{TrackSupply}
use Rattle.read_ahead.specs.Pass.{PassState}
use Rattle.read_ahead.specs.SendProgress.{needs_of, target_of}
use Rattle.read_ahead.specs.Items.{block_room}
use Rattle.read_ahead.specs.Serves.{Serves, HasSpare, IsServed, HasServed, IsStocked, IsAtHand}
use Rattle.read_ahead.specs.AllServes.{AllStocked, AllServe, HaveServed, HasStopped, AllAtHand, AreShut, total_sent}
use Rattle.read_ahead.proofs.ListLemmas.{Changed, changed_none, changed_more, set_here, set_else}
use Rattle.read_ahead.proofs.RunLemmas.{serves_nothing}

-- a track's supply and its ring
abbrev pub Stall : Type 0
Stall = Option TrackSupply × Option (Sender Item)

abbrev pub at : List TrackSupply → List (Sender Item) → ℕ → Stall
at ps ds k = (slice_get ps k, slice_get ds k)

module _ (told : Type 0) (sounds : Sounds) (pass : PassState) where
  -- the track was served
  abbrev pub R : ℕ → Stall → Stall → Type 0
  R k old new = (p q : TrackSupply) (d f : Sender Item) → old.0 ≡ Some p → new.0 ≡ Some q → old.1 ≡ Some d → new.1 ≡ Some f →
      Serves told sounds pass.edition (needs_of (target_of pass k)) p d q f × HasSpare q f

  -- and was given all
  abbrev pub D : ℕ → Stall → Stall → Type 0
  D k old new = (q : TrackSupply) (d f : Sender Item) → new.0 ≡ Some q → old.1 ≡ Some d → new.1 ≡ Some f →
      IsServed (needs_of (target_of pass k)) d q f

  -- something was sent of the track
  abbrev pub G : ℕ → Stall → Stall → Type 0
  G k old new = (d : Sender Item) × (f : Sender Item) × ((old.1 ≡ Some d) × (new.1 ≡ Some f) × (length d.sent < length f.sent))

  pub record SoFar (i most sent : ℕ) (ps : List TrackSupply) (ds : List (Sender Item)) (qs : List TrackSupply) (fs : List (Sender Item)) : Type 0 where
    pub supplies : length qs ≡ length ps
    pub sends : length fs ≡ length ds
    pub each : Changed R i (at ps ds) (at qs fs)
    pub counted : sum_by (λ f. length f.sent) fs ≡ sum_by (λ d. length d.sent) ds + sent
    pub few : sent ≤ most
    pub served : sent < most → (k : ℕ) → k < i → D k (at ps ds k) (at qs fs k)
    pub in_order : (u t : ℕ) → u < t → t < i → G t (at ps ds t) (at qs fs t) → D u (at ps ds u) (at qs fs u)

  pub so_far_none : (most : ℕ) (ps : List TrackSupply) (ds : List (Sender Item)) → SoFar 0 most 0 ps ds ps ds
  so_far_none most ps ds = record {
    supplies = refl;
    sends = refl;
    each = changed_none R (at ps ds);
    counted = omega arith;
    few = omega arith;
    served = λ e k near. absurd (omega arith);
    in_order = λ u t below near. absurd (omega arith);
  }

  same_stall : (i k : ℕ) (qs : List TrackSupply) (fs : List (Sender Item)) (q : TrackSupply) (f : Sender Item) → k ≢ i → at (set qs i q) (set fs i f) k ≡ at qs fs k
  same_stall i k qs fs q f other j = (set_else qs i k q other j, set_else fs i k f other j)

  -- what stands at a track that was just served
  here_is : {X : Type 0} (xs : List X) (i : ℕ) (x y : X) → i < length xs → slice_get (set xs i x) i ≡ Some y → x ≡ y
  here_is xs i x y near h = same_Some x y (sym (set_here xs i x near) ∙ h)

  serves_here : (i : ℕ) (ps : List TrackSupply) (ds : List (Sender Item)) (qs : List TrackSupply) (fs : List (Sender Item)) (p q : TrackSupply) (d f : Sender Item) →
      i < length qs → i < length fs → at ps ds i ≡ (Some p, Some d) → Serves told sounds pass.edition (needs_of (target_of pass i)) p d q f → HasSpare q f →
      R i (at ps ds i) (at (set qs i q) (set fs i f) i)
  serves_here i ps ds qs fs p q d f near within was serves spare p' q' d' f' hp hq hd hf =
      let ep : p ≡ p' = same_Some p p' (sym (ap (λ (s : Stall). s.0) was) ∙ hp) in let ed : d ≡ d' = same_Some d d' (sym (ap (λ (s : Stall). s.1) was) ∙ hd) in
      let eq : q ≡ q' = here_is qs i q q' near hq in let ef : f ≡ f' = here_is fs i f f' within hf in
      let P : (TrackSupply × TrackSupply × Sender Item × Sender Item) → Type 0 = λ z. Serves told sounds pass.edition (needs_of (target_of pass i)) z.0 z.2 z.1 z.3 × HasSpare z.1 z.3 in
      subst P (λ j. (ep j, eq j, ed j, ef j)) (serves, spare)

  served_here : (i : ℕ) (ps : List TrackSupply) (ds : List (Sender Item)) (qs : List TrackSupply) (fs : List (Sender Item)) (q : TrackSupply) (d f : Sender Item) →
      i < length qs → i < length fs → slice_get ds i ≡ Some d → IsServed (needs_of (target_of pass i)) d q f →
      D i (at ps ds i) (at (set qs i q) (set fs i f) i)
  served_here i ps ds qs fs q d f near within was served q' d' f' hq hd hf =
      let ed : d ≡ d' = same_Some d d' (sym was ∙ hd) in
      let eq : q ≡ q' = here_is qs i q q' near hq in let ef : f ≡ f' = here_is fs i f f' within hf in
      let P : (TrackSupply × Sender Item × Sender Item) → Type 0 = λ z. IsServed (needs_of (target_of pass i)) z.1 z.0 z.2 in
      subst P (λ j. (eq j, ed j, ef j)) served

  -- what a served track got
  grown_here : (i : ℕ) (ps : List TrackSupply) (ds : List (Sender Item)) (qs : List TrackSupply) (fs : List (Sender Item)) (q : TrackSupply) (d f : Sender Item) →
      i < length fs → slice_get ds i ≡ Some d → G i (at ps ds i) (at (set qs i q) (set fs i f) i) → length d.sent < length f.sent
  grown_here i ps ds qs fs q d f within was grew =
      let ed : d ≡ grew.0 = same_Some d grew.0 (sym was ∙ grew.2.0) in let ef : f ≡ grew.1 = here_is fs i f grew.1 within grew.2.1 in
      let more = grew.2.2 in omega (arith, more, ap (λ (z : Sender Item). length z.sent) ed, ap (λ (z : Sender Item). length z.sent) ef)

  pub changed_here : (i : ℕ) (ps : List TrackSupply) (ds : List (Sender Item)) (qs : List TrackSupply) (fs : List (Sender Item)) (p q : TrackSupply) (d f : Sender Item) →
      Changed R i (at ps ds) (at qs fs) → i < length qs → i < length fs → slice_get qs i ≡ Some p → slice_get fs i ≡ Some d →
      Serves told sounds pass.edition (needs_of (target_of pass i)) p d q f → HasSpare q f → Changed R (i + 1) (at ps ds) (at (set qs i q) (set fs i f))
  changed_here i ps ds qs fs p q d f so near within hp hd serves spare = changed_more R i (at ps ds) (at qs fs) (at (set qs i q) (set fs i f)) so
      (λ k other. same_stall i k qs fs q f other)
      (serves_here i ps ds qs fs p q d f near within (sym (so.rest i (omega arith)) ∙ (λ j. (hp j, hd j))) serves spare)

  -- a track that wasn't served yet can be served
  pub stocked_here : (i : ℕ) (ps : List TrackSupply) (ds : List (Sender Item)) (qs : List TrackSupply) (fs : List (Sender Item)) (p : TrackSupply) (d : Sender Item) →
      AllStocked pass.edition ps ds → Changed R i (at ps ds) (at qs fs) → i < length qs → i < length fs →
      IsStocked (block_room pass.edition i) (get_or qs i p) (get_or fs i d) × ((get_or fs i d).closed ≡ false)
  stocked_here i ps ds qs fs p d stocked so near within = let rest : at qs fs i ≡ at ps ds i = so.rest i (omega arith) in
      stocked.each i (get_or qs i p) (get_or fs i d)
      (sym (ap (λ (s : Stall). s.0) rest) ∙ slice_get-get_or qs i p near) (sym (ap (λ (s : Stall). s.1) rest) ∙ slice_get-get_or fs i d within)

  pub so_far_more : (i most sent : ℕ) (ps : List TrackSupply) (ds : List (Sender Item)) (qs : List TrackSupply) (fs : List (Sender Item))
      (p q : TrackSupply) (d f : Sender Item) (given : ℕ) → SoFar i most sent ps ds qs fs → i < length ps → i < length ds →
      slice_get qs i ≡ Some p → slice_get fs i ≡ Some d →
      Serves told sounds pass.edition (needs_of (target_of pass i)) p d q f → HasSpare q f → HasServed (needs_of (target_of pass i)) (most - sent) d q f given →
      SoFar (i + 1) most (sent + given) ps ds (set qs i q) (set fs i f)
  so_far_more i most sent ps ds qs fs p q d f given so near within hp hd serves spare gave =
      let rest : at qs fs i ≡ at ps ds i = so.each.rest i (omega arith) in
      let near' : i < length qs = (let s = so.supplies in omega arith) in let within' : i < length fs = (let s = so.sends in omega arith) in
      let was : at ps ds i ≡ (Some p, Some d) = sym rest ∙ (λ j. (hp j, hd j)) in
      let was_d : slice_get ds i ≡ Some d = ap (λ (s : Stall). s.1) was in
      let others = λ (k : ℕ) (other : k ≢ i). same_stall i k qs fs q f other in
      let few = so.few in let gave_few = gave.few in record {
        supplies = length-set qs i q ∙ so.supplies;
        sends = length-set fs i f ∙ so.sends;
        each = changed_here i ps ds qs fs p q d f so.each near' within' hp hd serves spare;
        counted = let sum = sum_by-set (λ (z : Sender Item). length z.sent) fs i f d within' in let here = ap (λ (z : Sender Item). length z.sent) (get_or_from_slice_get fs i d d hd) in
            let counted = so.counted in let grown = gave.counted in omega (arith, sum, here, counted, grown);
        few = omega arith;
        served = λ h k below. dite (ℕ_discrete k i)
            (λ same. subst (λ (j : ℕ). D j (at ps ds j) (at (set qs i q) (set fs i f) j)) (sym same) (served_here i ps ds qs fs q d f near' within' was_d (gave.done (omega arith))))
            (λ other. subst (D k (at ps ds k)) (sym (others k other)) (so.served (omega arith) k (omega arith)));
        in_order = λ u t below under grew. let other_u : u ≢ i = λ same. omega arith in subst (D u (at ps ds u)) (sym (others u other_u)) (dite (ℕ_discrete t i)
            (λ same. let more : length d.sent < length f.sent = grown_here i ps ds qs fs q d f within' was_d (subst (λ (j : ℕ). G j (at ps ds j) (at (set qs i q) (set fs i f) j)) same grew) in
            let grown = gave.counted in so.served (omega arith) u (omega arith))
            (λ other. so.in_order u t below (omega arith) (subst (G t (at ps ds t)) (others t other) grew)));
      }

  -- whatever was answered, each track was served
  pub all_serve : (i : ℕ) (ps : List TrackSupply) (ds : List (Sender Item)) (qs : List TrackSupply) (fs : List (Sender Item)) → AllStocked pass.edition ps ds → length qs ≡ length ps → length fs ≡ length ds →
      Changed R i (at ps ds) (at qs fs) → AllServe told sounds pass ps ds qs fs
  all_serve i ps ds qs fs stocked supplies sends changed = record {
    supplies = supplies;
    sends = sends;
    each = λ k p q d f hp hq hd hf. elim (cases_lt k i) [
      | inl near ↦ changed.done k near p q d f hp hq hd hf
      | inr far ↦ let same = changed.rest k far in
          let ep : p ≡ q = same_Some p q (sym hp ∙ sym (ap (λ (s : Stall). s.0) same) ∙ hq) in let ed : d ≡ f = same_Some d f (sym hd ∙ sym (ap (λ (s : Stall). s.1) same) ∙ hf) in
          let P : (TrackSupply × Sender Item) → Type 0 = λ z. Serves told sounds pass.edition (needs_of (target_of pass k)) p d z.0 z.1 × HasSpare z.0 z.1 in
          subst P (λ j. (ep j, ed j)) (serves_nothing told sounds pass.edition (needs_of (target_of pass k)) p d, (stocked.each k p d hp hd).0.spare)
    ];
  }

  pub have_served : (i most sent : ℕ) (ps : List TrackSupply) (ds : List (Sender Item)) (qs : List TrackSupply) (fs : List (Sender Item)) →
      (sent < most → length ds ≤ i) → SoFar i most sent ps ds qs fs → HaveServed pass most ds qs fs sent
  have_served i most sent ps ds qs fs end so = record {
    counted = so.counted;
    few = so.few;
    done = λ h t q d f hq hd hf. so.served h t (let near = slice_get_within ds t d hd in let all = end h in omega arith) q d f hq hd hf;
    in_order = λ u t q c b d f below hq hc hb hd hf more. elim (cases_lt t i) [
      | inl near ↦ so.in_order u t below near (d, f, (hd, hf, more)) q c b hq hc hb
      | inr far ↦ let ed : d ≡ f = same_Some d f (sym hd ∙ sym (ap (λ (s : Stall). s.1) (so.each.rest t far)) ∙ hf) in absurd (omega (arith, more, ap (λ (z : Sender Item). length z.sent) ed))
    ];
  }

  -- a read of this track failed, and all tracks before it were given all
  pub have_stopped : (i most sent : ℕ) (ps : List TrackSupply) (ds : List (Sender Item)) (qs : List TrackSupply) (fs : List (Sender Item)) (q : TrackSupply) (d f : Sender Item) →
      SoFar i most sent ps ds qs fs → sent < most → i < length fs → slice_get fs i ≡ Some d → length f.sent < length d.sent + (most - sent) → HasStopped pass most ds (set qs i q) (set fs i f)
  have_stopped i most sent ps ds qs fs q d f so less within hd fewer = record {
    fewer = let sum = sum_by-set (λ (z : Sender Item). length z.sent) fs i f d within in let here = ap (λ (z : Sender Item). length z.sent) (get_or_from_slice_get fs i d d hd) in
        let counted = so.counted in omega (arith, sum, here, counted, less, fewer);
    in_order = λ u t q' c b d' f' below hq hc hb hd' hf more. elim (cases_lt i t) [
      | inl far ↦ let other : t ≢ i = λ same. omega arith in
          let ed : d' ≡ f' = same_Some d' f' (sym hd' ∙ sym (ap (λ (s : Stall). s.1) (so.each.rest t (omega arith))) ∙ sym (ap (λ (s : Stall). s.1) (same_stall i t qs fs q f other)) ∙ hf) in
          absurd (omega (arith, more, ap (λ (z : Sender Item). length z.sent) ed))
      | inr near ↦ let other : u ≢ i = λ same. omega arith in
          subst (D u (at ps ds u)) (sym (same_stall i u qs fs q f other)) (so.served less u (omega arith)) q' c b hq hc hb
    ];
  }

  -- what is due of a track that wasn't served yet is at hand as it was at first
  pub at_hand_here : (i : ℕ) (ps : List TrackSupply) (ds : List (Sender Item)) (qs : List TrackSupply) (fs : List (Sender Item)) (p : TrackSupply) →
      AllAtHand pass ps → Changed R i (at ps ds) (at qs fs) → i < length qs → IsAtHand (needs_of (target_of pass i)) (get_or qs i p)
  at_hand_here i ps ds qs fs p all so near = let rest : at qs fs i ≡ at ps ds i = so.rest i (omega arith) in
      all i (get_or qs i p) (sym (ap (λ (s : Stall). s.0) rest) ∙ slice_get-get_or qs i p near)

  -- nothing was sent of any track, this one too
  pub none_here : (i sent : ℕ) (ds fs : List (Sender Item)) (p q : TrackSupply) (d f : Sender Item) → total_sent fs ≡ total_sent ds + sent → total_sent (set fs i f) ≡ total_sent ds →
      i < length fs → slice_get fs i ≡ Some d → Serves told sounds pass.edition (needs_of (target_of pass i)) p d q f → (sent ≡ 0) × (length f.sent ≡ length d.sent)
  none_here i sent ds fs p q d f counted same within hd serves =
      let sum = sum_by-set (λ (z : Sender Item). length z.sent) fs i f d within in let here = ap (λ (z : Sender Item). length z.sent) (get_or_from_slice_get fs i d d hd) in
      let long = ap (λ (z : Sender Item). length z.sent) serves.ring ∙ length-append d.sent serves.items in
      (omega (arith, sum, here, long, counted, same), omega (arith, sum, here, long, counted, same))

-- what holds anyway holds of a fault
pub if_failed : {T E : Type 0} (r : Result T E) (P : Type 0) → P → IfErr r (λ e. P)
if_failed (Ok v) P holds = tt
if_failed (Err e) P holds = holds

-- closing the rings sends nothing
pub shut_total : (ds fs : List (Sender Item)) → AreShut ds fs → total_sent fs ≡ total_sent ds
shut_total ds fs shut = same_total ds fs shut.sends (λ t d f hd hf. ap (λ (z : Sender Item). length z.sent) (shut.each t d f hd hf)) where
  same_total : (xs ys : List (Sender Item)) → length ys ≡ length xs → ((t : ℕ) (d f : Sender Item) → slice_get xs t ≡ Some d → slice_get ys t ≡ Some f → length f.sent ≡ length d.sent) → total_sent ys ≡ total_sent xs
  same_total [] [] many each = refl
  same_total [] (y ∷ ys) many each = absurd (omega arith)
  same_total (x ∷ xs) [] many each = absurd (omega arith)
  same_total (x ∷ xs) (y ∷ ys) many each = let here = each 0 x y refl refl in let rest = same_total xs ys (omega arith) (λ t d f hd hf. each (suc t) d f hd hf) in
      let old : total_sent (x ∷ xs) ≡ length x.sent + total_sent xs = sum_by-cons (λ (z : Sender Item). length z.sent) x xs in
      let new : total_sent (y ∷ ys) ≡ length y.sent + total_sent ys = sum_by-cons (λ (z : Sender Item). length z.sent) y ys in omega (arith, here, rest, old, new)
