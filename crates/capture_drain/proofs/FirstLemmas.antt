-- The boxes of a new drain.
use Rattle.std.proofs.Common.{◌≡◌, ℕ, ◌*◌, ◌<◌, List, [], ◌∷◌, ◌++◌, length, get_or, replicate, ℤ, pos, refl, sym, ap, ◌∙◌, subst, arith, inl, inr, ◌⊎◌, IsSomeAnd, false, zero, suc}
use Rattle.std.specs.Prelude.{Some, slice_get}
use Rattle.std.specs.Option.{option_map_or}
use Rattle.std.proofs.lemmas.List.{length-replicate}
use Rattle.std.proofs.lemmas.Option.{slice_get-get_or, same_Some}
use Rattle.session_model.specs.declared.route.Route.{Route}
use Rattle.session_model.specs.declared.session.Session.{Session}
use Rattle.session_model.specs.Formed.{channels_at}
use Rattle.capture_drain.specs.declared.track.TrackDrain.{TrackDrain}

-- what is kept of track t at first
abbrev pub IsFirstOf : Session → ℕ → TrackDrain → Type 0
IsFirstOf s t k = IsSomeAnd k.husk (λ b. length b.value.samples.items ≡ s.block * channels_at s t) × (k.ended ≡ false)

at_end : (xs : List TrackDrain) (x : TrackDrain) (u : ℕ) (q : TrackDrain) → slice_get (xs ++ x ∷ []) u ≡ Some q → (slice_get xs u ≡ Some q) ⊎ ((u ≡ length xs) × (x ≡ q))
at_end [] x zero q h = inr (refl, same_Some x q h)
at_end [] x (suc u) q h = absurd (grind (arith, h))
at_end (y ∷ ys) x zero q h = inl h
at_end (y ∷ ys) x (suc u) q h = elim (at_end ys x u q h) [ inl here ↦ inl here | inr last ↦ inr (ap suc last.0, last.1) ]

-- one track more
pub one_more : (s : Session) (ks : List TrackDrain) (n : ℕ) (x : TrackDrain) → length ks ≡ n → IsFirstOf s n x → ((t : ℕ) (k : TrackDrain) → slice_get ks t ≡ Some k → IsFirstOf s t k) →
    (t : ℕ) (k : TrackDrain) → slice_get (ks ++ x ∷ []) t ≡ Some k → IsFirstOf s t k
one_more s ks n x many is all t k hk = elim (at_end ks x t k hk) [
  | inl here ↦ all t k here
  | inr last ↦ subst (λ (m : ℕ). IsFirstOf s m k) (sym (last.0 ∙ many)) (subst (IsFirstOf s n) last.1 is)
]

-- the samples of a new box are one block of its track
pub block_is : (s : Session) (t n : ℕ) (q : Route) → t < length s.routes.items → n ≡ (get_or s.routes.items t q).channels → length (replicate {A = ℤ} (s.block * n) (pos 0)) ≡ s.block * channels_at s t
block_is s t n q lt is = length-replicate {A = ℤ} (s.block * n) (pos 0) ∙ ap (λ m. s.block * m) is
    ∙ ap (λ o. s.block * option_map_or (λ (r : Route). r.channels) o 0) (sym (slice_get-get_or s.routes.items t q lt))
