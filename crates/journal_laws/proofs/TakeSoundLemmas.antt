-- A take holds the input of its entries, lost blocks as zeros.
use Rattle.std.proofs.Common.{◌≡◌, inl, inr, ℕ, suc, ◌+◌, ◌-◌, ◌*◌, ◌≤◌, ◌<◌, List, [], ◌∷◌, ◌++◌, length, refl, sym, ap, arith, ◌∙◌}
use Rattle.std.specs.Prelude.{◌⊎◌, if◌then◌else◌, max, ℤ, pos, Option, Some, None}
use Rattle.std.proofs.lemmas.Bool.{cases_lt, ne_eqb, eq-eqb}
use Rattle.std.proofs.lemmas.Nat.{div-mul-add}
use Rattle.std.proofs.lemmas.Option.{some_pair_parts}
use Rattle.session_model.specs.declared.session.Session.{Session}
use Rattle.session_model.specs.Formed.{channels_at}
use Rattle.session_model.specs.Frames.{interleaved}
use Rattle.engine_model.specs.Journal.{Take, Off, Taken, Lost, Entry, note_of}
use Rattle.engine_model.specs.Fits.{take_number}
use Rattle.engine_model.specs.Takes.{Input, first_channel, input_block, silent_block, take_block, take_from}
use Rattle.journal_laws.specs.TakeRuns.{take_at, numbered, IsTakeOf}
use Rattle.journal_laws.specs.TakeSounds.{unless_lost, recorded_sample, ATakeHoldsItsInput}
use Rattle.journal_laws.proofs.InterleavedLemmas.{joined, same_frames, silence}

-- a note of another take adds nothing
other_adds : (session : Session) (input : Input) (t n c : ℕ) (k : Take) → (take_number k ≡ n → ⊥) → take_block session input t n c k ≡ []
other_adds session input t n c Off other = refl
other_adds session input t n c (Taken m i) other = ap (λ b. if b then input_block session input t c else []) (ne_eqb m n other)
other_adds session input t n c (Lost m i head) other = ap (λ b. if b then silent_block session t else []) (ne_eqb m n other)

-- a block of the run
run_adds : (session : Session) (input : Input) (t n first d : ℕ) (journal : List Entry) (k : Take) (i : ℕ) → numbered k ≡ Some (n, i) → take_at t (first + d) journal ≡ k →
    take_block session input t n (first + d) k ≡ interleaved (recorded_sample session input t first journal) (channels_at session t) (d * session.block) (session.block * channels_at session t)
run_adds session input t n first d journal Off i is at = absurd (none_is is)
  where
    none_is : ◌≡◌ {A = Option (ℕ × ℕ)} None (Some (n, i)) → ⊥
    none_is e = cc
run_adds session input t n first d journal (Taken m j) i is at =
    ap (λ b. if b then input_block session input t (first + d) else []) (eq-eqb m n (some_pair_parts m n j i is).0)
    ∙ same_frames (λ x k. input x (first_channel session t + k)) (recorded_sample session input t first journal) (channels_at session t) ((first + d) * session.block)
    (d * session.block) session.block
    (λ x k lt in_it. sym (ap (λ q. unless_lost (take_at t (first + q) journal) (input (first * session.block + (d * session.block + x)) (first_channel session t + k)))
    (div-mul-add d session.block x lt)
    ∙ ap (λ q. unless_lost q (input (first * session.block + (d * session.block + x)) (first_channel session t + k))) at
    ∙ ap (λ q. input q (first_channel session t + k)) (placed first d session.block x)))
  where
    placed : (f d b x : ℕ) → f * b + (d * b + x) ≡ (f + d) * b + x
    placed f d b x = grind arith
run_adds session input t n first d journal (Lost m j head) i is at =
    ap (λ b. if b then silent_block session t else []) (eq-eqb m n (some_pair_parts m n j i is).0)
    ∙ silence (channels_at session t) 0 (session.block * channels_at session t)
    ∙ same_frames (λ x k. pos 0) (recorded_sample session input t first journal) (channels_at session t) 0 (d * session.block) session.block
    (λ x k lt in_it. sym (ap (λ q. unless_lost (take_at t (first + q) journal) (input (first * session.block + (d * session.block + x)) (first_channel session t + k)))
    (div-mul-add d session.block x lt)
    ∙ ap (λ q. unless_lost q (input (first * session.block + (d * session.block + x)) (first_channel session t + k))) at))

no_frames : (f : ℕ → ℕ → ℤ) (channels a b n : ℕ) → n ≡ 0 → interleaved f channels a (n * b) ≡ []
no_frames f channels a b n none = ap (interleaved f channels a) (ap (λ k. k * b) none ∙ zero_of b)
  where
    zero_of : (b : ℕ) → 0 * b ≡ 0
    zero_of b = omega arith

-- the entries from a place on, where so many blocks of the take were passed and so many are left
abbrev RestIs : Session → Input → (t n : ℕ) (journal : List Entry) → IsTakeOf t n journal → ℕ → List Entry → Type 0
RestIs session input t n journal run c es = (passed left : ℕ) → passed ≡ max c run.first - run.first → left ≡ run.first + run.many - max c run.first →
    take_from session input t n c es ≡ interleaved (recorded_sample session input t run.first journal) (channels_at session t) (passed * session.block)
    (left * (session.block * channels_at session t))

take_step : (session : Session) (input : Input) (t n : ℕ) (journal : List Entry) (run : IsTakeOf t n journal) (c : ℕ) (e : Entry) (es : List Entry) →
    take_at t 0 (e ∷ es) ≡ take_at t (c + 0) journal → RestIs session input t n journal run (suc c) es → RestIs session input t n journal run c (e ∷ es)
take_step session input t n journal run c e es same rest passed left is are = by (cases_lt c run.first) (cases_lt c (run.first + run.many))
  where
    F : ℕ → ℕ → ℤ
    F = recorded_sample session input t run.first journal

    wide : ℕ
    wide = channels_at session t

    here : (note_of t e).take ≡ take_at t c journal
    here = same ∙ ap (λ k. take_at t k journal) {x = c + 0} {y = c} (omega arith)

    other : (c < run.first) ⊎ (run.first + run.many ≤ c) → take_number (note_of t e).take ≡ n → ⊥
    other out of = let at = run.only c (ap take_number (sym here) ∙ of) in away at out
      where
        away : (run.first ≤ c) × (c < run.first + run.many) → (c < run.first) ⊎ (run.first + run.many ≤ c) → ⊥
        away at (inl lt) = absurd (omega (arith, at.0))
        away at (inr ge) = absurd (omega (arith, at.1))

    skip : take_block session input t n c (note_of t e).take ≡ [] → take_from session input t n c (e ∷ es) ≡ take_from session input t n (suc c) es
    skip none = ap (λ l. l ++ take_from session input t n (suc c) es) none

    one_more : (l b w : ℕ) → b * w + l * b * w ≡ suc l * (b * w)
    one_more l b w = grind arith

    as_frames : (l b w : ℕ) → l * (b * w) ≡ l * b * w
    as_frames l b w = grind arith

    by : (c < run.first) ⊎ (run.first ≤ c) → (c < run.first + run.many) ⊎ (run.first + run.many ≤ c) →
        take_from session input t n c (e ∷ es) ≡ interleaved F wide (passed * session.block) (left * (session.block * wide))
    by (inl early) b = skip (other_adds session input t n c (note_of t e).take (other (inl early))) ∙ rest passed left (is ∙ grind (arith, early)) (are ∙ grind (arith, early))
    by (inr from) (inr late) = skip (other_adds session input t n c (note_of t e).take (other (inr late)))
        ∙ rest (suc passed) left (ap suc is ∙ grind (arith, from)) (are ∙ grind (arith, from, late))
        ∙ no_frames F wide (suc passed * session.block) (session.block * wide) left none_left ∙ sym (no_frames F wide (passed * session.block) (session.block * wide) left none_left)
      where
        none_left : left ≡ 0
        none_left = are ∙ grind (arith, from, late)
    by (inr from) (inl in_it) = let l : ℕ = run.first + run.many - suc c in
        ap (λ k. k ++ take_from session input t n (suc c) es)
        (ap (λ x. take_block session input t n x (note_of t e).take) place
        ∙ run_adds session input t n run.first passed journal (note_of t e).take passed (ap numbered (here ∙ ap (λ x. take_at t x journal) place) ∙ run.each passed (omega (arith, place, in_it)))
        (sym (here ∙ ap (λ x. take_at t x journal) place)))
        ∙ ap (λ k. interleaved F wide (passed * session.block) (session.block * wide) ++ k) (rest (suc passed) l (ap suc passed_is ∙ grind (arith, from)) (grind (arith, from)))
        ∙ ap (λ k. interleaved F wide (passed * session.block) (session.block * wide) ++ interleaved F wide k (l * (session.block * wide))) (on passed session.block)
        ∙ ap (λ k. interleaved F wide (passed * session.block) (session.block * wide) ++ interleaved F wide (passed * session.block + session.block) k) (as_frames l session.block wide)
        ∙ joined F wide (passed * session.block) session.block (l * session.block)
        ∙ ap (interleaved F wide (passed * session.block)) (one_more l session.block wide)
        ∙ ap (λ k. interleaved F wide (passed * session.block) (k * (session.block * wide))) left_is
      where
        passed_is : passed ≡ c - run.first
        passed_is = is ∙ grind (arith, from)

        place : c ≡ run.first + passed
        place = omega (arith, passed_is, from)

        left_is : suc (run.first + run.many - suc c) ≡ left
        left_is = sym (are ∙ grind (arith, from, in_it))

        on : (p b : ℕ) → suc p * b ≡ p * b + b
        on p b = grind arith

take_rest : (session : Session) (input : Input) (t n : ℕ) (journal : List Entry) (run : IsTakeOf t n journal) (c : ℕ) (es : List Entry) → c + length es ≡ length journal →
    ((i : ℕ) → take_at t i es ≡ take_at t (c + i) journal) → RestIs session input t n journal run c es
take_rest session input t n journal run c [] ends same passed left is are = sym
    (no_frames (recorded_sample session input t run.first journal) (channels_at session t) (passed * session.block) (session.block * channels_at session t) left over)
  where
    over : left ≡ 0
    over = are ∙ grind (arith, ends, run.within)
take_rest session input t n journal run c (e ∷ es) ends same passed left is are = take_step session input t n journal run c e es (same 0)
    (take_rest session input t n journal run (suc c) es (omega (arith, ends)) (λ i. same (suc i) ∙ ap (λ k. take_at t k journal) {x = c + suc i} {y = suc c + i} (omega arith))) passed left is are

pub a_take_holds_its_input : ATakeHoldsItsInput
a_take_holds_its_input session input t n journal run = take_rest session input t n journal run 0 journal (omega arith)
    (λ i. ap (λ k. take_at t k journal) {x = i} {y = 0 + i} (omega arith)) 0 run.many (grind arith) (grind arith)
    ∙ ap (λ k. interleaved (recorded_sample session input t run.first journal) (channels_at session t) k (run.many * (session.block * channels_at session t))) (none session.block)
  where
    none : (b : ℕ) → 0 * b ≡ 0
    none b = omega arith
