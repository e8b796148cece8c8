-- The tracks whose takes are written.
use Rattle.std.proofs.Common.{◌≡◌, ℕ, zero, suc, ◌+◌, ◌<◌, List, [], ◌∷◌, ◌++◌, length, map, refl, sym, ap, ap₂, ◌∙◌, ℤ, arith, get_or, subst, inl, inr, ◌≤◌, ◌*◌, zero-add}
use Rattle.std.specs.Prelude.{Some, None, IsTrue, codes, decimal}
use Rattle.std.specs.List.{range_with_len}
use Rattle.std.specs.Option.{option_map_or}
use Rattle.std.proofs.lemmas.List.{map-append}
use Rattle.std.proofs.lemmas.Option.{slice_get-get_or, slice_get_within, slice_get_cases, get_or_from_slice_get}
use Rattle.std.proofs.lemmas.Bool.{cases_lt}
use Rattle.std.proofs.lemmas.List.FromFn.{get_or-map-range_with_len, length-map-range_with_len}
use Rattle.ses_units.specs.Name.{is_name}
use Rattle.session_model.specs.Formed.{channels_at}
use Rattle.session_model.specs.Valid.{IsValid}
use Rattle.engine_model.specs.Takes.{route_name, take_name}
use Rattle.capture_flush.specs.Blocks.{block_samples}
use Rattle.capture_flush.specs.Laws.{HasNamedTracks}
use Rattle.session_model.specs.declared.route.Route.{Route}
use Rattle.session_model.specs.declared.session.Session.{Session}
use Rattle.capture_flush.specs.declared.track.TrackTakes.{TrackTakes}
use Rattle.capture_flush.specs.Taking.{Taking, IsTrackOf, IsTakingOf, at_first, new_takes, last_of}

pub range_more : (a n : ℕ) → range_with_len a (suc n) ≡ range_with_len a n ++ (a + n) ∷ []
range_more a zero = ap (λ n. n ∷ []) {x = a} {y = a + 0} (omega arith)
range_more a (suc n) = ap (λ l. a ∷ l) (range_more (a + 1) n) ∙ ap (λ k. a ∷ range_with_len (a + 1) n ++ k ∷ []) {x = a + 1 + n} {y = a + suc n} (omega arith)

-- a track as its route is
at_first-is : (s : Session) (t : ℕ) (q : Route) → t < length s.routes.items → q ≡ get_or s.routes.items t q → record { name = q.name; channels = q.channels; last = None } ≡ at_first s t
at_first-is s t q lt is = ap (λ o. record { name = option_map_or (λ r. r.name) o []; channels = option_map_or (λ r. r.channels) o 0; last = None }) (sym (slice_get-get_or s.routes.items t q lt ∙ ap Some (sym is)))

-- one track more is listed
pub one_track_more : (s : Session) (t : ℕ) (tracks : List TrackTakes) (q : Route) → t < length s.routes.items → q ≡ get_or s.routes.items t q → tracks ≡ map (at_first s) (range_with_len 0 t) →
    tracks ++ record { name = q.name; channels = q.channels; last = None } ∷ [] ≡ map (at_first s) (range_with_len 0 (t + 1))
one_track_more s t tracks q lt is listed = ap (λ l. l ++ record { name = q.name; channels = q.channels; last = None } ∷ []) listed
    ∙ ap (λ k. map (at_first s) (range_with_len 0 t) ++ k ∷ []) (at_first-is s t q lt is)
    ∙ ap (λ u. map (at_first s) (range_with_len 0 t) ++ at_first s u ∷ []) {x = t} {y = 0 + t} (omega arith)
    ∙ sym (ap (λ n. map (at_first s) (range_with_len 0 n)) {x = t + 1} {y = suc t} (omega arith) ∙ ap (map (at_first s)) (range_more 0 t) ∙ map-append (at_first s) (range_with_len 0 t) ((0 + t) ∷ []))

-- one name more is a name
pub name_more : (s : Session) (t : ℕ) (q : Route) → t < length s.routes.items → q ≡ get_or s.routes.items t q → ((u : ℕ) → u < t → IsTrue (is_name (route_name s u))) → IsTrue (is_name q.name) →
    (u : ℕ) → u < t + 1 → IsTrue (is_name (route_name s u))
name_more s t q lt is before named u below = elim (cases_lt u t) [
  | inl less ↦ before u less
  | inr more ↦ let here : u ≡ t = omega (arith, below, more) in
      let name : route_name s t ≡ q.name = ap (λ o. option_map_or (λ r. r.name) o []) (slice_get-get_or s.routes.items t q lt ∙ ap Some (sym is)) in
      subst (λ v. IsTrue (is_name (route_name s v))) (sym here) (subst (λ n. IsTrue (is_name n)) (sym name) named)
]

-- ---- the tracks of take files

-- those of new files are the session's
pub new_taking : (s : Session) → IsValid s → HasNamedTracks s → IsTakingOf s (new_takes s)
new_taking s valid named = record {
  valid = valid;
  takes = refl;
  rate = refl;
  bits = refl;
  block = refl;
  many = length-map-range_with_len (at_first s) 0 (length s.tracks.items);
  tracks = λ t k at. let within = slice_get_within (map (at_first s) (range_with_len 0 (length s.tracks.items))) t k at in
      let lt : t < length s.tracks.items = omega (arith, within, length-map-range_with_len (at_first s) 0 (length s.tracks.items)) in
      of t k lt (sym (get_or_from_slice_get (map (at_first s) (range_with_len 0 (length s.tracks.items))) t k (at_first s t) at)
      ∙ get_or-map-range_with_len (at_first s) 0 (length s.tracks.items) t t (at_first s t) lt (zero-add t));
}
  where
    of : (t : ℕ) (k : TrackTakes) → t < length s.tracks.items → k ≡ at_first s t → IsTrackOf s t k
    of t k lt is = record { name = ap (λ j. j.name) is; named = subst (λ j. IsTrue (is_name j.name)) (sym is) (named t lt); channels = ap (λ j. j.channels) is }

pub track_at : (s : Session) (f : Taking) (t : ℕ) (k : TrackTakes) → IsTakingOf s f → t < length s.tracks.items → k ≡ get_or f.tracks t k → IsTrackOf s t k
track_at s f t k taking lt is = taking.tracks t k (slice_get-get_or f.tracks t k (omega (arith, lt, taking.many)) ∙ ap Some (sym is))

pub last_at : (s : Session) (f : Taking) (t : ℕ) (k : TrackTakes) → IsTakingOf s f → t < length s.tracks.items → k ≡ get_or f.tracks t k → last_of f t ≡ k.last
last_at s f t k taking lt is = ap (λ o. option_map_or (λ j. j.last) o None) (slice_get-get_or f.tracks t k (omega (arith, lt, taking.many)) ∙ ap Some (sym is))

-- one channel or two
pub track_channels : (s : Session) (t : ℕ) → IsValid s → t < length s.tracks.items → (1 ≤ channels_at s t) × (channels_at s t ≤ 2)
track_channels s t valid lt = elim (slice_get_cases s.routes.items t).1 [
  | inl found ↦ let q = found.0 in let formed = (valid.formed.routes t q found.2).channels in
      let is : channels_at s t ≡ q.channels = ap (λ o. option_map_or (λ r. r.channels) o 0) found.2 in
      (subst (λ n. 1 ≤ n) (sym is) formed.least, subst (λ n. n ≤ 2) (sym is) formed.most)
  | inr past ↦ absurd (omega (arith, lt, valid.formed.limits.master, past.0))
]

-- the samples of a block
pub samples_are : (s : Session) (f : Taking) (t : ℕ) (k : TrackTakes) → IsTakingOf s f → t < length s.tracks.items → k ≡ get_or f.tracks t k → f.block * k.channels ≡ block_samples s t
samples_are s f t k taking lt is = ap₂ (λ m n. m * n) taking.block (track_at s f t k taking lt is).channels

pub few_samples : (s : Session) (f : Taking) (t : ℕ) → IsTakingOf s f → t < length s.tracks.items → (block_samples s t ≤ f.block * 2) × (0 < block_samples s t) × (f.block ≤ 4096)
few_samples s f t taking lt = let channels = track_channels s t taking.valid lt in let block = taking.valid.formed.limits.block in
    let is : f.block ≡ s.block = taking.block in
    (subst (λ b. s.block * channels_at s t ≤ b * 2) (sym is) (at_most s.block (channels_at s t) channels.1), some s.block (channels_at s t) block.least channels.0, omega (arith, is, block.most))
  where
    at_most : (a b : ℕ) → b ≤ 2 → a * b ≤ a * 2
    at_most a b few = grind (arith, few)

    some : (a b : ℕ) → 1 ≤ a → 1 ≤ b → 0 < a * b
    some a b one two = grind (arith, one, two)

-- the name of a take's file
pub name_is : (s : Session) (f : Taking) (t n : ℕ) (k : TrackTakes) → IsTakingOf s f → t < length s.tracks.items → k ≡ get_or f.tracks t k →
    f.takes ++ codes "-" ++ k.name ++ codes "-" ++ decimal n ++ codes ".wav" ≡ take_name s t n
name_is s f t n k taking lt is = ap₂ (λ takes name. takes ++ codes "-" ++ name ++ codes "-" ++ decimal n ++ codes ".wav") taking.takes (track_at s f t k taking lt is).name

-- the buffer has room for the bytes of a block
pub room_for : (samples given : List ℤ) (bytes : List ℕ) (block few : ℕ) → given ≡ samples → length samples ≡ few → few ≤ block * 2 → length bytes ≡ block * 6 → length given * 3 ≤ length bytes
room_for samples given bytes block few same many at_most long = let is : length given ≡ few = ap length same ∙ many in subst (λ n. length given * 3 ≤ n) (sym long) (subst (λ n. n * 3 ≤ block * 6) (sym is) (by block few at_most))
  where
    by : (block few : ℕ) → few ≤ block * 2 → few * 3 ≤ block * 6
    by block few at_most = omega (arith, at_most)

-- a few blocks have a few bytes
pub few_bytes : (blocks block size : ℕ) → blocks ≤ 100000 → block ≤ 4096 → size ≤ block * 6 → blocks * size ≤ 2457600000
few_bytes blocks block size few low most = by blocks size few (omega (arith, low, most))
  where
    by : (blocks size : ℕ) → blocks ≤ 100000 → size ≤ 24576 → blocks * size ≤ 2457600000
    by blocks size few most = grind (arith, few, most)
