-- Tracks are captured one after the other.
use Rattle.std.proofs.Common.{◌≡◌, ℕ, ◌+◌, ◌<◌, ◌≤◌, List, length, set, refl, ◌∙◌, sym, subst, slice_index_or, arith}
use Rattle.std.specs.Prelude.{Bool, ℤ, slice_get, Some}
use mathlib.Core.Logic.{dite}
use native.Mathlib.Decide.{ℕ_discrete}
use Rattle.std.proofs.lemmas.List.{get_or-set_same, get_or-set_other, get_or_default, length-set}
use Rattle.std.proofs.lemmas.Option.{slice_get_within, slice_get-get_or, get_or_from_slice_get}
use Rattle.engine_model.specs.Journal as engine
use Rattle.edition_log.specs.EditionState.{EditionState as Edition}
use Rattle.disk_ring.specs.Sender.{Sender}
use Rattle.piece_item.specs.declared.take_block.TakeBlock.{TakeBlock}
use Rattle.cycle_journal.specs.declared.note.Note.{Note}
use Rattle.track_capture.specs.declared.capture.TrackCapture.{TrackCapture}
use Rattle.track_capture.specs.Counted.{Counts, FitsRing}
use Rattle.process_ends.specs.Ends.{block_of}
use Rattle.process_cycle.specs.Cycles.{Captures}

-- what is told of each track: its count, its ring and its note
pub record Lists : Type 0 where
  pub captures : List TrackCapture
  pub rings : List (Sender TakeBlock)
  pub notes : List Note

-- the same of one track
pub record Place : Type 0 where
  pub capture : TrackCapture
  pub ring : Sender TakeBlock
  pub note : Note

abbrev pub at_place : Lists → ℕ → Place → Place
at_place l t x = record { capture = slice_index_or l.captures t x.capture; ring = slice_index_or l.rings t x.ring; note = slice_index_or l.notes t x.note }

abbrev pub with_place : Lists → ℕ → Place → Lists
with_place l t x = record { captures = set l.captures t x.capture; rings = set l.rings t x.ring; notes = set l.notes t x.note }

abbrev pub are_long : Lists → ℕ → Type 0
are_long l n = (length l.captures ≡ n) × (length l.rings ≡ n) × (length l.notes ≡ n)

same_place : (x y : Place) → x.capture ≡ y.capture → x.ring ≡ y.ring → x.note ≡ y.note → x ≡ y
same_place x y capture ring note = λ j. record { capture = capture j; ring = ring j; note = note j }

place_set : (many : ℕ) (l : Lists) (n : ℕ) (y z : Place) → are_long l many → n < many → at_place (with_place l n y) n z ≡ y
place_set many l n y z long within = same_place (at_place (with_place l n y) n z) y (get_or-set_same l.captures n y.capture z.capture (omega (arith, within, long.0)))
    (get_or-set_same l.rings n y.ring z.ring (omega (arith, within, long.1))) (get_or-set_same l.notes n y.note z.note (omega (arith, within, long.2)))

place_kept : (l : Lists) (n t : ℕ) (y z : Place) → (t ≡ n → ⊥) → at_place (with_place l n y) t z ≡ at_place l t z
place_kept l n t y z other = same_place (at_place (with_place l n y) t z) (at_place l t z) (get_or-set_other l.captures n t y.capture z.capture other)
    (get_or-set_other l.rings n t y.ring z.ring other) (get_or-set_other l.notes n t y.note z.note other)

-- within the lists what is asked for past their end doesn't matter
place_is : (many : ℕ) (l : Lists) (n : ℕ) (x z : Place) → are_long l many → n < many → at_place l n x ≡ at_place l n z
place_is many l n x z long within = same_place (at_place l n x) (at_place l n z) (get_or_default l.captures n x.capture z.capture (omega (arith, within, long.0)))
    (get_or_default l.rings n x.ring z.ring (omega (arith, within, long.1))) (get_or_default l.notes n x.note z.note (omega (arith, within, long.2)))

module _ (e : Edition) (rolls : Bool) (before : List engine.Entry) (channels : ℕ) (input : List ℤ) where
  abbrev pub CapturesOne : ℕ → Place → Place → Type 0
  CapturesOne t old new = Captures e rolls before t channels input old.note new.note old.ring new.ring new.capture

  -- the tracks below a number were captured, and the others are as they were
  pub record CapturedBelow (many : ℕ) (olds news : Lists) (n : ℕ) : Type 0 where
    pub long : are_long news many
    pub captured : (t : ℕ) (x y : Place) → t < n → CapturesOne t (at_place olds t x) (at_place news t y)
    pub left : (t : ℕ) (x : Place) → n ≤ t → at_place news t x ≡ at_place olds t x

  pub captures_none : (many : ℕ) (olds : Lists) → are_long olds many → CapturedBelow many olds olds 0
  captures_none many olds long = record { long = long; captured = λ t x y below. absurd (omega (arith, below)); left = λ t x after. refl }

  pub captures_next : (many : ℕ) (olds news : Lists) (n : ℕ) → are_long olds many → CapturedBelow many olds news n → n < many → (x y : Place) → CapturesOne n (at_place news n x) y
      → CapturedBelow many olds (with_place news n y) (n + 1)
  captures_next many olds news n whole below within x y one = let was = below.long in record {
    long = (length-set news.captures n y.capture ∙ was.0, length-set news.rings n y.ring ∙ was.1, length-set news.notes n y.note ∙ was.2);
    captured = λ t u v under. dite (ℕ_discrete t n)
        (λ same. subst (λ k. CapturesOne k (at_place olds k u) (at_place (with_place news n y) k v)) (sym same)
        (subst (CapturesOne n (at_place olds n u)) (sym (place_set many news n y v was within)) (subst (λ z. CapturesOne n z y) (place_is many news n x u was within ∙ below.left n u (omega arith)) one)))
        (λ other. subst (CapturesOne t (at_place olds t u)) (sym (place_kept news n t y v other)) (below.captured t u v (omega (arith, under, other))));
    left = λ t u after. place_kept news n t y u (λ same. omega (arith, same, after)) ∙ below.left t u (omega (arith, after));
  }

  pub captures_all : (many : ℕ) (olds news : Lists) (n : ℕ) → are_long olds many → many ≤ n → CapturedBelow many olds news n → (t : ℕ) (k : TrackCapture) (was noted : Note) (d f : Sender TakeBlock) →
      slice_get news.captures t ≡ Some k → slice_get olds.notes t ≡ Some was → slice_get news.notes t ≡ Some noted → slice_get olds.rings t ≡ Some d → slice_get news.rings t ≡ Some f →
      Captures e rolls before t channels input was noted d f k
  captures_all many olds news n whole all below t k was noted d f hk hw hn hd hf = subst (CapturesOne t old) (same_place (at_place news t y) y
      (get_or_from_slice_get news.captures t k k hk) (get_or_from_slice_get news.rings t f f hf) (get_or_from_slice_get news.notes t noted noted hn))
      (subst (λ z. CapturesOne t z (at_place news t y)) (same_place (at_place olds t x) old refl (get_or_from_slice_get olds.rings t d d hd) (get_or_from_slice_get olds.notes t was was hw))
      (below.captured t x y (let long = below.long in omega (arith, slice_get_within news.captures t k hk, long.0, all)))) where
        x : Place
        x = record { capture = k; ring = d; note = was }

        y : Place
        y = record { capture = k; ring = f; note = noted }

        old : Place
        old = record { capture = slice_index_or olds.captures t k; ring = d; note = was }

  -- the next track is still as it was
  module _ (many : ℕ) (olds news : Lists) (n : ℕ) (whole : are_long olds many) (below : CapturedBelow many olds news n) (within : n < many) where
    pub counts_here : ((t : ℕ) (k : TrackCapture) → slice_get olds.captures t ≡ Some k → Counts before t k) → (x : Place) → Counts before n (at_place news n x).capture
    counts_here counts x = subst (λ z. Counts before n z.capture) (sym (below.left n x (omega arith)))
        (counts n (slice_index_or olds.captures n x.capture) (slice_get-get_or olds.captures n x.capture (omega (arith, within, whole.0))))

    pub fits_here : ((t : ℕ) (k : TrackCapture) (d : Sender TakeBlock) → slice_get olds.captures t ≡ Some k → slice_get olds.rings t ≡ Some d → FitsRing (block_of e.session t) k d) → (x : Place) →
        FitsRing (block_of e.session n) (at_place news n x).capture (at_place news n x).ring
    fits_here fits x = subst (λ z. FitsRing (block_of e.session n) z.capture z.ring) (sym (below.left n x (omega arith)))
        (fits n (slice_index_or olds.captures n x.capture) (slice_index_or olds.rings n x.ring) (slice_get-get_or olds.captures n x.capture (omega (arith, within, whole.0)))
        (slice_get-get_or olds.rings n x.ring (omega (arith, within, whole.1))))
