-- A box that was filled is the block of its take, and fits the ring as before.
use Rattle.std.proofs.Common.{◌≡◌, ℕ, ◌+◌, ◌*◌, ◌++◌, List, length, take, drop, sym, ap, ◌∙◌}
use Rattle.std.specs.Prelude.{ℤ}
use Rattle.std.proofs.Math.Seq.{take-append_seam}
use Rattle.session_model.specs.declared.session.Session.{Session}
use Rattle.session_model.specs.Formed.{channels_at}
use Rattle.disk_ring.specs.Sender.{Sender, Puts}
use Rattle.piece_item.specs.declared.take_block.TakeBlock.{TakeBlock}
use Rattle.engine_model.specs.Takes.{first_channel}
use Rattle.track_capture.specs.declared.capture.Place.{Place}
use Rattle.track_capture.specs.declared.capture.TrackCapture.{TrackCapture}
use Rattle.track_capture.specs.Picked.{picked, sample_of}
use Rattle.track_capture.specs.Counted.{HasBox, FitsRing, IsTaken, block_at}
use Rattle.track_capture.proofs.PickLemmas.{interleaved_long}

-- as many items in the place of those that a list had
all_new : (xs ys : List ℤ) → length xs ≡ length ys → take (length ys) (xs ++ drop (length xs) ys) ≡ xs
all_new xs ys long = ap (λ n. take n (xs ++ drop (length xs) ys)) (sym long) ∙ take-append_seam xs (drop (length xs) ys)

pub picked_long : (s : Session) (t channels : ℕ) (input : List ℤ) → length (picked s t channels input) ≡ s.block * channels_at s t
picked_long s t channels input = interleaved_long (λ i k. sample_of channels input i (first_channel s t + k)) (channels_at s t) 0 (s.block * channels_at s t)

samples_are : (s : Session) (t channels : ℕ) (input : List ℤ) (box block : TakeBlock) (p : Place) → length box.samples.items ≡ s.block * channels_at s t →
    block ≡ block_at box p (picked s t channels input) → block.samples.items ≡ picked s t channels input
samples_are s t channels input box block p room is = ap (λ b. b.samples.items) is ∙ all_new (picked s t channels input) box.samples.items (picked_long s t channels input ∙ sym room)

pub block_long : (s : Session) (t channels : ℕ) (input : List ℤ) (box block : TakeBlock) (p : Place) → length box.samples.items ≡ s.block * channels_at s t →
    block ≡ block_at box p (picked s t channels input) → length block.samples.items ≡ s.block * channels_at s t
block_long s t channels input box block p room is = ap length (samples_are s t channels input box block p room is) ∙ picked_long s t channels input

pub is_taken : (s : Session) (t channels : ℕ) (input : List ℤ) (old new : Sender TakeBlock) (box block husk : TakeBlock) (p : Place) → length box.samples.items ≡ s.block * channels_at s t →
    block ≡ block_at box p (picked s t channels input) → Puts (λ b. length b.samples.items) old block husk new → IsTaken s t channels input old p.take p.index new
is_taken s t channels input old new box block husk p room is puts = record {
  block = block;
  take = ap (λ b. b.take) is;
  index = ap (λ b. b.index) is;
  samples = samples_are s t channels input box block p room is;
  sent = puts.sent;
  head = puts.head;
  free = puts.free;
}

pub still_fits : (n : ℕ) (k m : TrackCapture) (old new : Sender TakeBlock) → FitsRing n k old → HasBox n m → new.room ≡ old.room → new.closed ≡ old.closed → FitsRing n m new
still_fits n k m old new fits box room closed = record { room = room ∙ fits.room; box = box; still_open = closed ∙ fits.still_open }
