-- What kernels make of a route's block is what the route gives.
use Rattle.std.proofs.Common.{◌≡◌, ◌≢◌, ℕ, ◌*◌, ◌≤◌, inl, inr, ℤ, ◌+ℤ◌, true, false, cond, List, length, refl, ap, ap₂, sym, ◌∙◌, arith}
use Rattle.std.specs.Prelude.{◌==◌, ◌&&◌}
use Rattle.std.proofs.lemmas.Bool.Decides.{nat_tests}
use Rattle.std.proofs.lemmas.List.{length-map}
use Rattle.std.proofs.lemmas.Simd.{length-zip2}
use Rattle.sound_model.specs.Numbers.{scale}
use Rattle.session_model.specs.declared.route.Route.{Route}
use Rattle.mix_kernel.specs.Blocks.{scaled_evenly, sided, summed}
use Rattle.mix_kernel.proofs.SideLemmas.{length-sided}
use Rattle.route_mix.specs.Blocks.{block_of, AreFew}
use Rattle.route_mix.specs.Feeds.{IsFed}
use Rattle.route_mix.proofs.BlockLemmas.{scaled_block, summed_block, sided_block, at_side}

-- equal numbers of channels go channel by channel
equal_go : (own channels : ℕ) → own ≡ channels → (own == 1 && channels == 2) ≡ false
equal_go own channels same = rw same (grind (arith, nat_tests))

pub fed_even : (q : Route) (channels gain : ℕ) (samples old new : List ℤ) → AreFew q.channels → q.channels ≡ channels → new ≡ summed old (scaled_evenly samples gain) → IsFed q channels gain samples old new
fed_even q channels gain samples old new few same is tracks frames sound below from under =
    is ∙ ap₂ (λ o s. summed o (scaled_evenly s gain)) (under ∙ ap (λ n. block_of below n frames) (sym same)) from
    ∙ ap (summed (block_of below q.channels frames)) (scaled_block sound gain q.channels frames)
    ∙ summed_block below (λ i c. scale (sound i c) gain) q.channels frames
    ∙ ap (λ n. block_of (λ i c. below i c +ℤ scale (sound i c) gain) n frames) same
    ∙ ap (λ b. block_of (λ i c. below i c +ℤ cond b (scale (scale (sound i 0) gain) (cond (c == 0) q.left q.right)) (scale (sound i c) gain)) channels frames) (sym (equal_go q.channels channels same))

mono_goes : (own channels : ℕ) → own ≡ 1 → channels ≡ 2 → (own == 1 && channels == 2) ≡ true
mono_goes own channels one two = rw (one, two) refl

pub fed_sides : (q : Route) (channels gain : ℕ) (samples old new : List ℤ) → q.channels ≡ 1 → channels ≡ 2 → new ≡ summed old (sided gain q.left q.right samples) → IsFed q channels gain samples old new
fed_sides q channels gain samples old new one two is tracks frames sound below from under =
    is ∙ ap₂ (λ o s. summed o (sided gain q.left q.right s)) (under ∙ ap (λ n. block_of below n frames) two) (from ∙ ap (λ n. block_of sound n frames) one)
    ∙ ap (summed (block_of below 2 frames)) (sided_block sound gain q.left q.right frames)
    ∙ summed_block below (λ i c. at_side gain q.left q.right (sound i 0) c) 2 frames
    ∙ ap (λ n. block_of (λ i c. below i c +ℤ at_side gain q.left q.right (sound i 0) c) n frames) (sym two)
    ∙ ap (λ b. block_of (λ i c. below i c +ℤ cond b (scale (scale (sound i 0) gain) (cond (c == 0) q.left q.right)) (scale (sound i c) gain)) channels frames) (sym (mono_goes q.channels channels one two))

pub is_mono : (own channels : ℕ) → AreFew own → AreFew channels → own ≤ channels → own ≢ channels → (own ≡ 1) × (channels ≡ 2)
is_mono own channels (inl one) (inl uno) h n = absurd (n (one ∙ sym uno))
is_mono own channels (inl one) (inr two) h n = (one, two)
is_mono own channels (inr two) (inl one) h n = absurd (omega arith)
is_mono own channels (inr two) (inr dos) h n = absurd (n (two ∙ sym dos))

-- ---- lengths

pub even_long : (own channels samples sums : ℕ) → AreFew own → own ≡ channels → samples * channels ≡ sums * own → samples ≡ sums
even_long own channels samples sums (inl one) same long = let a : samples * channels ≡ samples * 1 = ap (λ n. samples * n) (sym same ∙ one) in let b : sums * own ≡ sums * 1 = ap (λ n. sums * n) one in omega arith
even_long own channels samples sums (inr two) same long = let a : samples * channels ≡ samples * 2 = ap (λ n. samples * n) (sym same ∙ two) in let b : sums * own ≡ sums * 2 = ap (λ n. sums * n) two in omega arith

pub sides_long : (own channels samples sums : ℕ) → own ≡ 1 → channels ≡ 2 → samples * channels ≡ sums * own → sums ≡ samples * 2
sides_long own channels samples sums one two long = let a : samples * channels ≡ samples * 2 = ap (λ n. samples * n) two in let b : sums * own ≡ sums * 1 = ap (λ n. sums * n) one in omega arith

pub even_sum_long : (samples old new : List ℤ) (gain : ℕ) → new ≡ summed old (scaled_evenly samples gain) → length samples ≡ length old → length new ≡ length old
even_sum_long samples old new gain is same = ap length is ∙ length-zip2 ◌+ℤ◌ old (scaled_evenly samples gain) (sym same ∙ sym (length-map samples (λ s. scale s gain)))

pub sides_sum_long : (samples old new : List ℤ) (gain left right : ℕ) → new ≡ summed old (sided gain left right samples) → length old ≡ length samples * 2 → length new ≡ length old
sides_sum_long samples old new gain left right is same = ap length is ∙ length-zip2 ◌+ℤ◌ old (sided gain left right samples) (same ∙ sym (length-sided gain left right samples))
