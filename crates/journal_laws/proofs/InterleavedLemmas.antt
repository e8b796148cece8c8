-- Frames one after another: blocks of them join, and those that agree are the same.
use Rattle.std.proofs.Common.{◌≡◌, inl, inr, ℕ, zero, suc, ◌+◌, ◌-◌, ◌*◌, ◌/◌, ◌%◌, ◌<◌, List, ◌++◌, length, get_or, sym, ap, subst, arith, ◌∙◌, length-append}
use Rattle.std.specs.Prelude.{ℤ, pos, replicate}
use Rattle.std.proofs.Math.Nat.{add-mul-div_right, add-mul-mod_self_right}
use Rattle.std.proofs.lemmas.Bool.{cases_lt}
use Rattle.std.proofs.lemmas.List.{get_or-append_right, get_or_append_left, get_or-replicate, length-replicate}
use Rattle.std.proofs.lemmas.List.FromFn.{fill_by_all, get_or-map-range_with_len, length-map-range_with_len}
use Rattle.std.proofs.lemmas.Nat.{div_below}
use Rattle.session_model.specs.Frames.{interleaved}

pub interleaved_long : (f : ℕ → ℕ → ℤ) (channels a n : ℕ) → length (interleaved f channels a n) ≡ n
interleaved_long f channels a n = length-map-range_with_len (λ k. f (a + k / channels) (k % channels)) 0 n

pub interleaved_at : (f : ℕ → ℕ → ℤ) (channels a n k : ℕ) → k < n → get_or (interleaved f channels a n) k (pos 0) ≡ f (a + k / channels) (k % channels)
interleaved_at f channels a n k lt = get_or-map-range_with_len (λ j. f (a + j / channels) (j % channels)) 0 n k k (pos 0) lt (omega arith)

-- there is a channel where there is a sample
some_channel : (k m channels : ℕ) → k < m * channels → 0 < channels
some_channel k m zero lt = absurd (grind (arith, lt))
some_channel k m (suc c) lt = omega arith

rem_below : (k channels : ℕ) → 0 < channels → k % channels < channels
rem_below k channels some = omega arith

-- so many frames are the same where they agree in each channel
pub same_frames : (f h : ℕ → ℕ → ℤ) (channels a b m : ℕ) → ((i c : ℕ) → i < m → c < channels → f (a + i) c ≡ h (b + i) c) →
    interleaved f channels a (m * channels) ≡ interleaved h channels b (m * channels)
same_frames f h channels a b m agree = fill_by_all (λ k. h (b + k / channels) (k % channels)) (interleaved f channels a (m * channels)) (m * channels) (pos 0)
    (interleaved_long f channels a (m * channels))
    (λ k lt. let some = some_channel k m channels lt in interleaved_at f channels a (m * channels) k lt
    ∙ agree (k / channels) (k % channels) (div_below k channels m some lt) (rem_below k channels some))

-- two stretches join
pub joined : (f : ℕ → ℕ → ℤ) (channels a m n : ℕ) → interleaved f channels a (m * channels) ++ interleaved f channels (a + m) (n * channels) ≡ interleaved f channels a (m * channels + n * channels)
joined f channels a m n = fill_by_all (λ k. f (a + k / channels) (k % channels)) (xs ++ ys) (m * channels + n * channels) (pos 0)
    (length-append xs ys ∙ ap (λ k. k + length ys) (interleaved_long f channels a (m * channels)) ∙ ap (λ k. m * channels + k) (interleaved_long f channels (a + m) (n * channels)))
    (λ k lt. elim (cases_lt k (m * channels)) [
      | inl less ↦ get_or_append_left xs ys (pos 0) k (subst (λ l. k < l) (sym (interleaved_long f channels a (m * channels))) less) ∙ interleaved_at f channels a (m * channels) k less
      | inr ge ↦ get_or-append_right xs ys (m * channels) k (pos 0) (interleaved_long f channels a (m * channels)) ge
          ∙ interleaved_at f channels (a + m) (n * channels) (k - m * channels) (omega (arith, lt, ge)) ∙ right k (k - m * channels) (omega (arith, lt, ge)) (omega (arith, ge))
    ])
  where
    xs : List ℤ
    xs = interleaved f channels a (m * channels)

    ys : List ℤ
    ys = interleaved f channels (a + m) (n * channels)

    right : (k r : ℕ) → r < n * channels → k ≡ r + m * channels → f (a + m + r / channels) (r % channels) ≡ f (a + k / channels) (k % channels)
    right k r lt is = let some = some_channel r n channels lt in
        ap (λ i. f i (r % channels)) (further a m (r / channels)) ∙ ap (λ i. f (a + i) (r % channels)) (sym (add-mul-div_right r m some))
        ∙ ap (λ c. f (a + (r + m * channels) / channels) c) (sym (add-mul-mod_self_right r m channels))
        ∙ ap (λ j. f (a + j / channels) (j % channels)) (sym is)
      where
        further : (a m q : ℕ) → a + m + q ≡ a + (q + m)
        further a m q = omega arith

-- silence
pub silence : (channels a n : ℕ) → replicate n (pos 0) ≡ interleaved (λ i c. pos 0) channels a n
silence channels a n = fill_by_all (λ k. pos 0) (replicate n (pos 0)) n (pos 0) (length-replicate n (pos 0)) (λ k lt. get_or-replicate n k (pos 0) (pos 0) lt)
