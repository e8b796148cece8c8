-- One block behind those that are written.
use Rattle.std.proofs.Common.{◌≡◌, ℕ, ◌+◌, ◌-◌, ◌≤◌, ◌⊎◌, ◌++◌, List, length, take, drop, ap, sym, subst, ◌∙◌, append_assoc, arith}
use Rattle.std.specs.Prelude.{Result, Ok, Err, OnOk, true}
use Rattle.std.specs.Result.{IsErr, is_ok}
use Rattle.std.proofs.Math.Seq.{take-append_seam}
use Rattle.ses_io.specs.Outside.{SinkOutside}
use Rattle.sound_model.specs.Regions.{Sounds}
use Rattle.session_model.specs.Frames.{Told, sounds_of}
use Rattle.session_model.specs.declared.session.Session.{Session}
use Rattle.engine_model.specs.Played.{master_channels}
use Rattle.master_render.specs.declared.fault.RenderFault.{RenderFault}
use Rattle.master_render.specs.Offline.{offline_bytes}
use Rattle.master_render.specs.Written.{IsWritten}
use Rattle.master_render.proofs.BytesLemmas.{bytes_joined}
use Rattle.master_render.proofs.WrittenLemmas.{written_on, fails_first}

module _ (sounds : Sounds) (s : Session) (from done at count : ℕ) (few : (master_channels s ≡ 1) ⊎ (master_channels s ≡ 2)) (there : at ≡ done) where
  here : offline_bytes sounds s (from + at) count ≡ offline_bytes sounds s (from + done) count
  here = ap (λ k. offline_bytes sounds s (from + k) count) there

  pub block_more : (before mid now : List ℕ) → mid ≡ before ++ offline_bytes sounds s from done → now ≡ mid ++ offline_bytes sounds s (from + at) count → now ≡ before ++ offline_bytes sounds s from (done + count)
  block_more before mid now so_far next =
      next ∙ ap (λ xs. xs ++ offline_bytes sounds s (from + at) count) so_far
      ∙ append_assoc before (offline_bytes sounds s from done) (offline_bytes sounds s (from + at) count)
      ∙ ap (λ xs. before ++ (offline_bytes sounds s from done ++ xs)) here
      ∙ ap (λ xs. before ++ xs) (sym (bytes_joined sounds s from done count few))

  -- all frames are those that are done, those of the block, and others
  parts : (frames : ℕ) → done + count ≤ frames
      → offline_bytes sounds s from frames ≡ offline_bytes sounds s from done ++ (offline_bytes sounds s (from + at) count ++ offline_bytes sounds s (from + (done + count)) (frames - (done + count)))
  parts frames within = let rest : ℕ = frames - (done + count) in
      ap (offline_bytes sounds s from) (omega (arith, within))
      ∙ bytes_joined sounds s from (done + count) rest few
      ∙ ap (λ xs. xs ++ offline_bytes sounds s (from + (done + count)) rest) (bytes_joined sounds s from done count few)
      ∙ append_assoc (offline_bytes sounds s from done) (offline_bytes sounds s (from + done) count) (offline_bytes sounds s (from + (done + count)) rest)
      ∙ ap (λ xs. offline_bytes sounds s from done ++ (xs ++ offline_bytes sounds s (from + (done + count)) rest)) (sym here)

  pub block_fails : {W : Type 0} (sink : SinkOutside W) (old mid new : W) (r : Result (Unit {0}) RenderFault) (frames : ℕ) → done + count ≤ frames → IsErr r → sink.held mid ≡ sink.held old ++ offline_bytes sounds s from done
      → IsWritten sink (offline_bytes sounds s (from + at) count) mid new r → IsWritten sink (offline_bytes sounds s from frames) old new r
  block_fails sink old mid new r frames within is so_far w =
      subst (λ xs. IsWritten sink xs old new r) (sym (parts frames within))
      (written_on sink (offline_bytes sounds s from done) _ old mid new r so_far (fails_first sink (offline_bytes sounds s (from + at) count) _ mid new r is w))

-- the same of the frames that a reader told later
pub written_as : {W : Type 0} (sink : SinkOutside W) (s : Session) (from count : ℕ) (fs gs : List Told) (old new : W) (r : Result (Unit {0}) RenderFault) → fs ≡ gs
    → IsWritten sink (offline_bytes (sounds_of fs) s from count) old new r → IsWritten sink (offline_bytes (sounds_of gs) s from count) old new r
written_as sink s from count fs gs old new r same w = subst (λ (xs : List Told). IsWritten sink (offline_bytes (sounds_of xs) s from count) old new r) same w

-- what is in a list after its front was written
pub rewritten : {X : Type 0} (n : ℕ) (new old : List X) → length new ≡ n → take n (new ++ drop (length new) old) ≡ new
rewritten n new old long = ap (λ k. take k (new ++ drop (length new) old)) (sym long) ∙ take-append_seam new (drop (length new) old)

-- what holds at Ok
pub ok_then : {T E P : Type 0} (r : Result T E) → is_ok r ≡ true → OnOk r P → P
ok_then (Ok v) is p = p
ok_then (Err e) is p = cc
