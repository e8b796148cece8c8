-- The last block of a track is noted, or stays.
use Rattle.std.proofs.Common.{◌≡◌, ℕ, zero, suc, ◌<◌, ◌^◌, Bool, true, false, cond, List, [], ◌∷◌, length, set, get_or, refl, sym, ap, ◌∙◌, arith, Option, Some, inl, inr}
use Rattle.std.proofs.lemmas.List.{length-set}
use Rattle.std.proofs.lemmas.Option.{slice_get_cases}
use Rattle.ses_io.specs.FixedList.{Listed, with_items}
use Rattle.ses_io.proofs.Lists.{with_items-same}
use Rattle.session_model.specs.declared.session.Session.{Session}
use Rattle.engine_model.specs.Changes.{changed_at}
use Rattle.engine_model.specs.Takes.{route_name}
use Rattle.session_model.specs.Formed.{channels_at}
use Rattle.capture_flush.specs.declared.track.Place.{Place}
use Rattle.capture_flush.specs.declared.track.TrackTakes.{TrackTakes}
use Rattle.capture_flush.specs.Blocks.{Block, place_of, is_kept}
use Rattle.capture_flush.specs.Taking.{Taking, IsTakingOf, IsTrackOf, failed_after, last_of, after_block}
use Rattle.capture_flush.proofs.TakingLemmas.{last_at}
use lib.Seq.{set-get_or}

set-changed : {X : Type 0} (f : X → X) (xs : List X) (i : ℕ) (d : X) → i < length xs → set xs i (f (get_or xs i d)) ≡ changed_at f i xs
set-changed f [] i d within = refl
set-changed f (x ∷ xs) zero d within = refl
set-changed f (x ∷ xs) (suc i) d within = ap (λ ys. x ∷ ys) (set-changed f xs i d (omega arith))

pub written : {X : Type 0} (f : X → X) (list : Listed X) (lent : List X) (i : ℕ) (d y : X) → lent ≡ list.items → i < length list.items → y ≡ f (get_or lent i d) →
    with_items list (set lent i y) ≡ record list { items = changed_at f i list.items }
written f list lent i d y same within is =
    with_items-same list (set lent i y) (length-set lent i y ∙ ap length same)
    ∙ ap (λ xs. record list { items = xs }) (ap (set lent i) is ∙ ap (λ xs. set xs i (f (get_or xs i d))) same ∙ set-changed f list.items i d within)

-- a track of these files
track_is : (k : TrackTakes) (s : Session) (t : ℕ) (last : Option Place) → IsTrackOf s t k → ◌≡◌ {A = TrackTakes} (record k { last = last }) (record { name = route_name s t; channels = channels_at s t; last = last })
track_is k s t last of = ap (λ n. record { name = n; channels = k.channels; last = last }) of.name ∙ ap (λ c. record { name = route_name s t; channels = c; last = last }) of.channels

set_at : (s : Session) (f : Taking) (t : ℕ) (k : TrackTakes) (last : Option Place) → IsTakingOf s f → t < length s.tracks.items → k ≡ get_or f.tracks t k → IsTrackOf s t k →
    changed_at (λ j. record j { last = last }) t f.tracks ≡ set f.tracks t (record { name = route_name s t; channels = channels_at s t; last = last })
set_at s f t k last taking lt is of = sym (set-changed (λ j. record j { last = last }) f.tracks t k (omega (arith, lt, taking.many)))
    ∙ ap (λ j. set f.tracks t (record j { last = last })) (sym is) ∙ ap (set f.tracks t) (track_is k s t last of)

-- a block that is kept is the last one
kept_last : (s : Session) (f : Taking) (t : ℕ) (b : Block) (fails : Bool) → IsTakingOf s f → t < length s.tracks.items → is_kept s t (last_of f t) b ≡ true →
    record f { tracks = changed_at (λ j. record j { last = Some (place_of b) }) t f.tracks; failed = failed_after f.failed t b.take fails } ≡ after_block s f t b fails
kept_last s f t b fails taking lt kept = elim (slice_get_cases f.tracks t).1 [
  | inl found ↦ ap (λ ts. record f { tracks = ts; failed = failed_after f.failed t b.take fails }) (set_at s f t found.0 (Some (place_of b)) taking lt (sym found.3) (taking.tracks t found.0 found.2)
      ∙ ap (λ l. set f.tracks t (record { name = route_name s t; channels = channels_at s t; last = l })) (sym (ap (λ c. cond c (Some (place_of b)) (last_of f t)) kept)))
  | inr past ↦ absurd (omega (arith, lt, taking.many, past.0))
]

-- a block that is left out leaves all as it was
pub left_last : (s : Session) (f : Taking) (t : ℕ) (b : Block) → IsTakingOf s f → t < length s.tracks.items → is_kept s t (last_of f t) b ≡ false → f ≡ after_block s f t b false
left_last s f t b taking lt left = elim (slice_get_cases f.tracks t).1 [
  | inl found ↦ let k = found.0 in let of = taking.tracks t k found.2 in
      let last : last_of f t ≡ k.last = last_at s f t k taking lt (sym found.3) in
      ap (λ ts. record f { tracks = ts }) (sym (set-get_or f.tracks t k) ∙ ap (set f.tracks t) (found.3 ∙ track_is k s t k.last of)
      ∙ ap (λ l. set f.tracks t (record { name = route_name s t; channels = channels_at s t; last = l })) (sym last ∙ sym (ap (λ c. cond c (Some (place_of b)) (last_of f t)) left)))
  | inr past ↦ absurd (omega (arith, lt, taking.many, past.0))
]

-- the same by the place of the block
pub kept_at : (s : Session) (f : Taking) (t : ℕ) (b : Block) (fails : Bool) (p : Place) → p ≡ place_of b → IsTakingOf s f → t < length s.tracks.items → is_kept s t (last_of f t) b ≡ true →
    record f { tracks = changed_at (λ j. record j { last = Some p }) t f.tracks; failed = failed_after f.failed t b.take fails } ≡ after_block s f t b fails
kept_at s f t b fails p is taking lt kept = ap (λ q. record f { tracks = changed_at (λ j. record j { last = Some q }) t f.tracks; failed = failed_after f.failed t b.take fails }) is
    ∙ kept_last s f t b fails taking lt kept

pub small_take : (n : ℕ) → n < 2 ^ 32 → n < 2 ^ 64
small_take n small = omega (arith, small)
