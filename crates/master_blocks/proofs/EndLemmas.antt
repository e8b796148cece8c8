-- The end of the master's file: silence, and a pad byte.
use Rattle.std.proofs.Common.{◌≡◌, ℕ, ◌-◌, ◌*◌, ◌/◌, ◌%◌, ◌≤◌, [], ◌∷◌, ◌++◌, refl, ap, sym, subst, ◌∙◌, replicate, arith}
use Rattle.std.specs.Prelude.{Result, Ok, Err}
use Rattle.std.specs.Result.{IsErr}
use Rattle.std.proofs.lemmas.List.{append-nil}
use Rattle.ses_units.specs.Bits.{bits_of}
use Rattle.ses_io.specs.Outside.{SinkOutside, Writes}
use Rattle.session_model.specs.declared.session.Session.{Session}
use Rattle.session_model.specs.Valid.{IsValid}
use Rattle.engine_model.specs.Played.{master_channels}
use Rattle.master_blocks.specs.Bytes.{block_samples, data_bytes, silent_bytes, pad_bytes, end_bytes}
use Rattle.master_blocks.proofs.SinkLemmas.{both, fails_first, fails_then, only}
use Rattle.master_blocks.proofs.FileLemmas.{all_bytes, few_bytes}
use Rattle.master_blocks.proofs.DeskLemmas.{master_most}
use Rattle.master_blocks.proofs.StateLemmas.{silent_is}

module _ (s : Session) (blocks made n : ℕ) (long : n ≡ block_samples s * (bits_of s.bits / 8)) where
  all_are : blocks * n ≡ data_bytes s blocks
  all_are = ap (λ k. blocks * k) long ∙ turned blocks (block_samples s) (bits_of s.bits / 8)
    where
      turned : (a b c : ℕ) → a * (b * c) ≡ a * b * c
      turned a b c = grind arith

  -- the bytes of all samples are few
  pub few : IsValid s → blocks ≤ 100000 → blocks * n ≤ 2457600000
  few valid most = subst (λ k. k ≤ 2457600000) (sym all_are)
      (all_bytes blocks s.block (master_channels s) (bits_of s.bits / 8) most valid.formed.limits.block.most (master_most s valid) (few_bytes s.bits))

  zeros_are : replicate ((blocks - made) * n) 0 ≡ silent_bytes s (blocks - made)
  zeros_are = silent_is s (replicate ((blocks - made) * n) 0) (blocks - made) n refl long

  padded : blocks * n % 2 ≡ 1 → 0 ∷ [] ≡ pad_bytes s blocks
  padded odd = ap (λ k. replicate k 0) (sym odd ∙ ap (λ k. k % 2) all_are)

  unpadded : blocks * n % 2 ≡ 0 → [] ≡ pad_bytes s blocks
  unpadded even = ap (λ k. replicate k 0) (sym even ∙ ap (λ k. k % 2) all_are)

  module _ {S : Type 0} (outside : SinkOutside S) where
    -- a fault in the silence
    pub fails_in_silence : {E F : Type 0} (was old mid : S) (e : E) (r : Result (Unit {0}) F) → was ≡ old → IsErr r → Writes outside (replicate ((blocks - made) * n) 0) was mid (Err e)
        → Writes outside (end_bytes s blocks made) old mid r
    fails_in_silence was old mid e r same is wrote = subst (λ w. Writes outside (end_bytes s blocks made) w mid r) same
        (subst (λ xs. Writes outside (xs ++ pad_bytes s blocks) was mid r) zeros_are (fails_first outside _ (pad_bytes s blocks) was mid e r is wrote))

    -- a fault at the pad byte
    pub fails_at_pad : {E F G : Type 0} (was old mid new : S) (e : E) (r : Result (Unit {0}) F) → was ≡ old → blocks * n % 2 ≡ 1 → IsErr r
        → Writes {E = G} outside (replicate ((blocks - made) * n) 0) was mid (Ok tt) → Writes outside (0 ∷ []) mid new (Err e) → Writes outside (end_bytes s blocks made) old new r
    fails_at_pad {G = G} was old mid new e r same odd is first then = subst (λ w. Writes outside (end_bytes s blocks made) w new r) same
        (subst (λ xs. Writes outside (xs ++ pad_bytes s blocks) was new r) zeros_are
        (subst (λ xs. Writes outside (replicate ((blocks - made) * n) 0 ++ xs) was new r) (padded odd) (fails_then outside {G = G} _ (0 ∷ []) was mid new e r is first then)))

    -- silence and a pad byte
    pub with_pad : {E F G : Type 0} (was old mid new : S) → was ≡ old → blocks * n % 2 ≡ 1
        → Writes {E = G} outside (replicate ((blocks - made) * n) 0) was mid (Ok tt) → Writes {E = E} outside (0 ∷ []) mid new (Ok tt) → Writes {E = F} outside (end_bytes s blocks made) old new (Ok tt)
    with_pad {E = E} {F = F} {G = G} was old mid new same odd first then = subst (λ w. Writes {E = F} outside (end_bytes s blocks made) w new (Ok tt)) same
        (subst (λ xs. Writes {E = F} outside (xs ++ pad_bytes s blocks) was new (Ok tt)) zeros_are
        (subst (λ xs. Writes {E = F} outside (replicate ((blocks - made) * n) 0 ++ xs) was new (Ok tt)) (padded odd) (both outside {E = E} {F = F} {G = G} _ (0 ∷ []) was mid new first then)))

    -- silence alone
    pub without_pad : {E F : Type 0} (was old mid : S) → was ≡ old → blocks * n % 2 ≡ 0
        → Writes {E = E} outside (replicate ((blocks - made) * n) 0) was mid (Ok tt) → Writes {E = F} outside (end_bytes s blocks made) old mid (Ok tt)
    without_pad {E = E} {F = F} was old mid same even wrote = subst (λ w. Writes {E = F} outside (end_bytes s blocks made) w mid (Ok tt)) same
        (only outside {E = E} {F = F} _ (end_bytes s blocks made) was mid
        (sym (append-nil (replicate ((blocks - made) * n) 0)) ∙ ap (λ xs. xs ++ []) zeros_are ∙ ap (λ xs. silent_bytes s (blocks - made) ++ xs) (unpadded even)) wrote)
