-- What a block adds, part by part.
use Rattle.std.proofs.Common.{◌≡◌, ℕ, ◌-◌, ◌*◌, List, ◌++◌, Option, refl, ap₂, ◌∙◌, subst, Result, Ok, Err, IsErr, [], append_assoc}
use Rattle.std.specs.Prelude.{replicate, if◌then◌else◌}
use Rattle.ses_units.specs.Bits.{bits_of}
use Rattle.ses_io.specs.Outside.{MediaOutside}
use Rattle.sound_model.specs.Wav.{sound_bytes}
use Rattle.session_model.specs.declared.session.Session.{Session}
use Rattle.capture_flush.specs.declared.track.Place.{Place}
use Rattle.capture_flush.specs.Blocks.{Block}
use Rattle.capture_flush.specs.Flushed.{added, is_new, no_blocks, next_index, block_bytes}
use Rattle.capture_flush.specs.Writes.{Adds}
use Rattle.capture_flush.proofs.WriteLemmas.{Adds-none, Adds-then, Adds-stopped}

-- the three parts of what a block adds
pub record Parts (s : Session) (t : ℕ) (last : Option Place) (b : Block) (head zeros sound : List ℕ) : Type 0 where
  pub heads : head ≡ (if is_new last b.take then no_blocks s t else [])
  pub skips : zeros ≡ replicate ((b.index - next_index last b.take) * block_bytes s t) 0
  pub sounds : sound ≡ sound_bytes (bits_of s.bits) b.samples

whole_is : (s : Session) (t : ℕ) (last : Option Place) (b : Block) (head zeros sound : List ℕ) → Parts s t last b head zeros sound → head ++ (zeros ++ sound) ≡ added s t last b
whole_is s t last b head zeros sound parts = ap₂ (λ h r. h ++ r) parts.heads (ap₂ (λ z w. z ++ w) parts.skips parts.sounds)

-- another name of the file
named : {V E : Type 0} (outside : MediaOutside V) (q name bytes : List ℕ) (old new : V) (r : Result (Unit {0}) E) → q ≡ name → Adds outside q bytes old new r → Adds outside name bytes old new r
named outside q name bytes old new r is adds = subst (λ n. Adds outside n bytes old new r) is adds

-- all of it
pub added-whole : {V E : Type 0} (outside : MediaOutside V) (s : Session) (t : ℕ) (last : Option Place) (b : Block) (q name head zeros sound : List ℕ) (old one two new : V) (r : Result (Unit {0}) E) →
    q ≡ name → Parts s t last b head zeros sound → Adds {E = E} outside q head old one (Ok tt) → Adds {E = E} outside q zeros one two (Ok tt) → Adds outside q sound two new r →
    Adds outside name (added s t last b) old new r
added-whole outside s t last b q name head zeros sound old one two new r is parts first second third = named outside q name (added s t last b) old new r is
    (subst (λ bytes. Adds outside q bytes old new r) (append_assoc head zeros sound ∙ whole_is s t last b head zeros sound parts)
    (Adds-then outside q (head ++ zeros) sound old two new r (Adds-then outside q head zeros old one two (Ok tt) first second) third))

-- it stopped in the zeros
pub added-in_zeros : {V E F : Type 0} (outside : MediaOutside V) (s : Session) (t : ℕ) (last : Option Place) (b : Block) (q name head zeros sound : List ℕ) (old one two : V) (e : E) (r : Result (Unit {0}) F) → IsErr r →
    q ≡ name → Parts s t last b head zeros sound → Adds {E = E} outside q head old one (Ok tt) → Adds outside q zeros one two (Err e) → Adds outside name (added s t last b) old two r
added-in_zeros outside s t last b q name head zeros sound old one two e r err is parts first second = named outside q name (added s t last b) old two r is
    (Adds-stopped outside q head zeros sound (added s t last b) old one two e r err (whole_is s t last b head zeros sound parts) first second)

-- and in the header
pub added-in_head : {V E F : Type 0} (outside : MediaOutside V) (s : Session) (t : ℕ) (last : Option Place) (b : Block) (q name head : List ℕ) (old one : V) (e : E) (r : Result (Unit {0}) F) → IsErr r →
    q ≡ name → head ≡ (if is_new last b.take then no_blocks s t else []) → Adds outside q head old one (Err e) → Adds outside name (added s t last b) old one r
added-in_head outside s t last b q name head old one e r err is heads first = named outside q name (added s t last b) old one r is
    (Adds-stopped outside q [] head (replicate ((b.index - next_index last b.take) * block_bytes s t) 0 ++ sound_bytes (bits_of s.bits) b.samples) (added s t last b) old old one e r err
    (whole_is s t last b head _ _ (record { heads = heads; skips = refl; sounds = refl })) (Adds-none outside q old) first)
