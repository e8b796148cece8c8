-- Frames of the master, side by side.
use Rattle.std.proofs.Common.{◌≡◌, ℕ, ◌+◌, ◌-◌, ◌*◌, ◌<◌, ◌≤◌, ◌⊎◌, List, length, take, ap, ap₂, subst, sym, ◌∙◌, arith}
use Rattle.std.specs.Prelude.{ℤ}
use Rattle.std.proofs.Math.Nat.{mul-le-mul}
use borrow.Rule.Slice.PartMut.{put_mid}
use Rattle.session_model.specs.Frames.{interleaved}
use Rattle.offline_render.specs.Frame.{frame}
use Rattle.offline_render.proofs.FrameLemmas.{one_frame}
use Rattle.playlist_layers.proofs.SpanLemmas.{span_more}

pub one_up : (i n : ℕ) → (i + 1) * n ≡ i * n + n
one_up i n = omega arith

-- so many frames have room for frame i
pub room_for : (i count n long : ℕ) → i < count → count * n ≤ long → i * n + n ≤ long
room_for i count n long below room = let next : i + 1 ≤ count = omega (arith, below) in let up : (i + 1) * n ≤ count * n = mul-le-mul next (omega arith) in omega (arith, up, one_up i n, room)

-- one frame more
frame_more : (f : ℕ → ℕ → ℤ) (n from i count : ℕ) (out piece : List ℤ) → (n ≡ 1) ⊎ (n ≡ 2) → i < count → count * n ≤ length out
    → take (i * n) out ≡ interleaved f n from (i * n) → piece ≡ frame (f (from + i)) n
    → take ((i + 1) * n) (put_mid (i * n) (i * n + n - i * n) out piece) ≡ interleaved f n from ((i + 1) * n)
frame_more f n from i count out piece few below room so_far is =
    ap (λ k. take ((i + 1) * n) (put_mid (i * n) k out piece)) step
    ∙ span_more f n from i (i + 1) out piece few (omega arith) (omega (arith, one_up i n, room_for i count n (length out) below room)) so_far
    (is ∙ sym (one_frame f n (from + i) few) ∙ ap (interleaved f n (from + i)) (omega (arith, one_up i n)))
  where
    step : i * n + n - i * n ≡ (i + 1) * n - i * n
    step = omega (arith, one_up i n)

-- the same, where the width was counted, and so was the frame
pub frame_more_of : (f : ℕ → ℕ → ℤ) (n m from i j count : ℕ) (out piece : List ℤ) → n ≡ m → j ≡ i → (n ≡ 1) ⊎ (n ≡ 2) → i < count → count * m ≤ length out
    → take (i * n) out ≡ interleaved f m from (i * m) → piece ≡ frame (f (from + j)) m
    → take ((i + 1) * n) (put_mid (i * n) (i * n + n - i * n) out piece) ≡ interleaved f m from ((i + 1) * m)
frame_more_of f n m from i j count out piece same there few below room so_far is =
    subst (λ k. count * k ≤ length out → take (i * n) out ≡ interleaved f k from (i * k) → piece ≡ frame (f (from + i)) k
    → take ((i + 1) * n) (put_mid (i * n) (i * n + n - i * n) out piece) ≡ interleaved f k from ((i + 1) * k)) same
    (frame_more f n from i count out piece few below) room so_far (subst (λ k. piece ≡ frame (f (from + k)) m) there is)

-- all frames
pub frames_all : (f : ℕ → ℕ → ℤ) (n m from i count : ℕ) (out : List ℤ) → n ≡ m → i ≡ count → take (i * n) out ≡ interleaved f m from (i * m) → take (count * m) out ≡ interleaved f m from (count * m)
frames_all f n m from i count out same done so_far =
    sym (ap₂ (λ a b. take (a * b) out) done same) ∙ so_far ∙ ap (λ k. interleaved f m from (k * m)) done

-- a block has room for its frames
pub block_fits : (count n : ℕ) → count ≤ 1024 → n ≤ 2 → count * n ≤ 2048
block_fits count n few wide = let most : count * n ≤ 1024 * 2 = mul-le-mul few wide in omega (arith, most)
