-- A block that is read run by run.
use Rattle.std.proofs.Common.{◌≡◌, ℕ, ◌+◌, ◌-◌, ◌*◌, ◌/◌, ◌%◌, ◌<◌, ◌≤◌, ◌⊎◌, inl, inr, ap, arith, ◌∙◌, sym, List, length, take, drop}
use Rattle.std.specs.Prelude.{ℤ}
use Rattle.std.proofs.Math.Nat.{mul-le-mul}
use Rattle.std.proofs.lemmas.List.{length-take-le, length-drop}
use borrow.Rule.Slice.PartMut.{put_mid}
use Rattle.sound_model.specs.Regions.{Region, Sounds}
use Rattle.sound_model.specs.Layers.{track_sample}
use Rattle.engine_model.specs.Transport.{place_of}
use Rattle.locate_loop.specs.declared.transport.Transport.{Transport}
use Rattle.locate_loop.specs.Transport.{transport_of, IsTransport}
use Rattle.mix_kernel.proofs.Ranges.{same_along, frame_within, whole_frames}
use Rattle.playlist_layers.specs.Blocks.{track_block}
use Rattle.playlist_layers.proofs.SpanLemmas.{span_more}
use Rattle.track_render.specs.Blocks.{placed_block}
use Rattle.track_render.proofs.PlaceLemmas.{Follow, place_on}

-- samples by place are samples by frame
by_frame : (sounds : Sounds) (regions : List Region) (channels : ℕ) (t : Transport) (first place count n : ℕ) → (channels ≡ 1) ⊎ (channels ≡ 2) → n ≡ count * channels →
    IsTransport t → place ≡ place_of (transport_of t) first → Follow t place count → track_block sounds regions channels place n ≡ placed_block sounds regions channels (transport_of t) first n
by_frame sounds regions channels t first place count n few whole bounds at follow =
    same_along (λ k. track_sample sounds regions (k % channels) (place + k / channels)) (λ k. track_sample sounds regions (k % channels) (place_of (transport_of t) (first + k / channels))) 0 n
    (λ k low h. let inside : k / channels < count = frame_within k count channels n few whole (omega arith) in
    ap (track_sample sounds regions (k % channels)) (sym (place_on t first place count bounds at follow (k / channels) inside)))

-- A run from a frame of a block to another.
pub record IsRun (channels done end : ℕ) (out : List ℤ) : Type 0 where
  pub few : (channels ≡ 1) ⊎ (channels ≡ 2)
  pub whole : length out % channels ≡ 0
  pub rises : done ≤ end
  pub most : end ≤ length out / channels

run_inside : (channels done end : ℕ) (out : List ℤ) → IsRun channels done end out → end * channels ≤ length out
run_inside channels done end out r = let product : end * channels ≤ length out / channels * channels = mul-le-mul r.most (omega arith) in
    omega (arith, product, whole_frames (length out) channels r.few r.whole)

run_long : (channels done end : ℕ) (out : List ℤ) → IsRun channels done end out → length (take (end * channels - done * channels) (drop (done * channels) out)) ≡ end * channels - done * channels
run_long channels done end out r = length-take-le (end * channels - done * channels) (drop (done * channels) out)
    (omega (arith, length-drop (done * channels) out, run_inside channels done end out r))

run_whole : (channels done end : ℕ) → (channels ≡ 1) ⊎ (channels ≡ 2) → end * channels - done * channels ≡ (end - done) * channels
run_whole channels done end (inl one) = rw one (omega arith)
run_whole channels done end (inr two) = rw two (omega arith)

-- what is told so far, and one run more
pub run_more : (sounds : Sounds) (regions : List Region) (channels : ℕ) (t : Transport) (first place done end : ℕ) (out piece : List ℤ) → IsTransport t → IsRun channels done end out →
    place ≡ place_of (transport_of t) (first + done) → Follow t place (end - done) →
    take (done * channels) out ≡ placed_block sounds regions channels (transport_of t) first (done * channels) →
    piece ≡ track_block sounds regions channels place (length (take (end * channels - done * channels) (drop (done * channels) out))) →
    take (end * channels) (put_mid (done * channels) (end * channels - done * channels) out piece) ≡ placed_block sounds regions channels (transport_of t) first (end * channels)
run_more sounds regions channels t first place done end out piece bounds r at follow so_far told =
    span_more (λ i c. track_sample sounds regions c (place_of (transport_of t) i)) channels first done end out piece r.few r.rises (run_inside channels done end out r) so_far
    (told ∙ ap (track_block sounds regions channels place) (run_long channels done end out r)
    ∙ by_frame sounds regions channels t (first + done) place (end - done) (end * channels - done * channels) r.few (run_whole channels done end r.few) bounds at follow)
