-- What sending says of slices, said of the lists that they were taken of.
use Rattle.std.proofs.Common.{◌≡◌, ℕ, suc, List, [], ◌∷◌, refl, ap₂, subst, arith}
use Rattle.std.specs.Prelude.{Bool, Result, ◌&&◌, length, slice_get, Some}
use Rattle.std.specs.List.{list_all}
use Rattle.ses_io.specs.Outside.{MediaOutside}
use Rattle.edition_log.specs.EditionState.{EditionState as Edition}
use Rattle.audio_source.specs.Told.{source_sound}
use Rattle.audio_source.specs.declared.refusal.ReadFault.{ReadFault}
use Rattle.disk_ring.specs.Sender.{Sender}
use Rattle.disk_ring.specs.Receiver.{Receiver}
use Rattle.piece_item.specs.declared.item.Item.{Item}
use Rattle.piece_item.specs.declared.take_block.TakeBlock.{TakeBlock}
use Rattle.read_ahead.specs.declared.supply.TrackSupply.{TrackSupply}
use Rattle.read_ahead.specs.Reader.{ReaderState, IsTold}
use Rattle.read_ahead.specs.AllServes.{Goes, AllAtHand, total_sent}
use Rattle.capture_drain.specs.declared.track.TrackDrain.{TrackDrain}

module _ {V : Type 0} (outside : MediaOutside V) (e : Edition) (cycles : ℕ) (next next' : ℕ) (ps ps' : List TrackSupply) (ds ds' : List (Sender Item)) (fs fs' : List (Sender Item))
    (same_next : next ≡ next') (same_ps : ps ≡ ps') (same_ds : ds ≡ ds') (same_fs : fs ≡ fs') where
  pub goes_as : (most : ℕ) (result : Result ℕ ReadFault) (r : ReaderState V) (qs qs' : List TrackSupply) → qs ≡ qs' →
      Goes (IsTold outside r) (source_sound (outside.files r.media) r.sources.opened) (record { edition = e; next = next; cycles = cycles }) most ps ds result qs fs →
      Goes (IsTold outside r) (source_sound (outside.files r.media) r.sources.opened) (record { edition = e; next = next'; cycles = cycles }) most ps' ds' result qs' fs'
  goes_as most result r qs qs' same goes =
      let P : (ℕ × List TrackSupply × List (Sender Item) × List TrackSupply × List (Sender Item)) → Type 0 =
      λ z. Goes (IsTold outside r) (source_sound (outside.files r.media) r.sources.opened) (record { edition = e; next = z.0; cycles = cycles }) most z.1 z.2 result z.3 z.4 in
      subst P (λ i. (same_next i, same_ps i, same_ds i, same i, same_fs i)) goes

  pub hand_as : (old new : ReaderState V) → (AllAtHand (record { edition = e; next = next; cycles = cycles }) ps → total_sent fs ≡ total_sent ds → new ≡ old) →
      AllAtHand (record { edition = e; next = next'; cycles = cycles }) ps' → total_sent fs' ≡ total_sent ds' → new ≡ old
  hand_as old new hand = let P : (ℕ × List TrackSupply × List (Sender Item) × List (Sender Item)) → Type 0 =
      λ z. AllAtHand (record { edition = e; next = z.0; cycles = cycles }) z.1 → total_sent z.3 ≡ total_sent z.2 → new ≡ old in
      subst P (λ i. (same_next i, same_ps i, same_ds i, same_fs i)) hand

-- the rings have ended where it is noted so
pub ended_alike : (ks : List TrackDrain) (rs : List (Receiver TakeBlock)) → length ks ≡ length rs →
    ((t : ℕ) (k : TrackDrain) (r : Receiver TakeBlock) → slice_get ks t ≡ Some k → slice_get rs t ≡ Some r → k.ended ≡ r.ended) → list_all (λ k. k.ended) ks ≡ list_all (λ r. r.ended) rs
ended_alike [] [] many same = refl
ended_alike [] (r ∷ rs) many same = absurd (omega arith)
ended_alike (k ∷ ks) [] many same = absurd (omega arith)
ended_alike (k ∷ ks) (r ∷ rs) many same = ap₂ (λ (a b : Bool). a && b) (same 0 k r refl refl) (ended_alike ks rs (omega arith) (λ t x y hx hy. same (suc t) x y hx hy))
