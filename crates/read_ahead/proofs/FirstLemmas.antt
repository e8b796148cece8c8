-- Of each track there is a box before anything is sent.
use Rattle.std.proofs.Common.{◌≡◌, ℕ, zero, suc, List, [], ◌∷◌, ◌++◌, length, refl, sym, ap, ◌∙◌, subst, arith, inl, inr, false}
use Rattle.std.specs.Prelude.{◌⊎◌, slice_get, slice_index_or, Some, IsSomeAnd}
use Rattle.std.proofs.lemmas.Option.{same_Some}
use Rattle.edition_log.specs.EditionState.{EditionState as Edition}
use Rattle.read_ahead.specs.declared.progress.SendProgress.{SendProgress}
use Rattle.read_ahead.specs.declared.supply.TrackSupply.{TrackSupply}
use Rattle.read_ahead.specs.Items.{block_room}

abbrev pub first : Edition → ℕ → SendProgress
first e t = record { generation = e.transport.generation; touched = slice_index_or e.touched t 0; fresh = 0; far = 0; mark = 0 }

abbrev pub IsFirst : Edition → ℕ → TrackSupply → Type 0
IsFirst e t p = (p.progress ≡ first e t) × IsSomeAnd p.spare (λ b. length b.value.samples.items ≡ block_room e t) × (p.made ≡ false)

pub one_more : (e : Edition) (ps : List TrackSupply) (n : ℕ) (x : TrackSupply) → length ps ≡ n → IsFirst e n x → ((t : ℕ) (p : TrackSupply) → slice_get ps t ≡ Some p → IsFirst e t p) →
    (t : ℕ) (p : TrackSupply) → slice_get (ps ++ x ∷ []) t ≡ Some p → IsFirst e t p
one_more e ps n x many is all t p hp = by_place ps t p (λ u q hq. all u q hq) hp where
  at_end : (xs : List TrackSupply) (u : ℕ) (q : TrackSupply) → slice_get (xs ++ x ∷ []) u ≡ Some q → (slice_get xs u ≡ Some q) ⊎ ((u ≡ length xs) × (x ≡ q))
  at_end [] zero q h = inr (refl, same_Some x q h)
  at_end [] (suc u) q h = absurd (grind (arith, h))
  at_end (y ∷ ys) zero q h = inl h
  at_end (y ∷ ys) (suc u) q h = elim (at_end ys u q h) [ inl here ↦ inl here | inr last ↦ inr (ap suc last.0, last.1) ]

  by_place : (xs : List TrackSupply) (u : ℕ) (q : TrackSupply) → ((v : ℕ) (r : TrackSupply) → slice_get ps v ≡ Some r → IsFirst e v r) → slice_get (ps ++ x ∷ []) t ≡ Some p → IsFirst e t p
  by_place xs u q f h = elim (at_end ps t p h) [
    | inl here ↦ all t p here
    | inr last ↦ subst (λ (m : ℕ). IsFirst e m p) (sym (last.0 ∙ many)) (subst (IsFirst e n) last.1 is)
  ]
