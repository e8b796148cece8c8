-- What a capture ring was given stands with one entry more, which took of its track what was captured.
use Rattle.std.proofs.Common.{◌≡◌, inl, inr, ℕ, suc, ◌+◌, ◌<◌, ◌≤◌, List, [], ◌∷◌, ◌++◌, length, map, reverse, refl, sym, ap, subst, arith, ◌∙◌}
use Rattle.std.specs.Prelude.{true, ◌==◌, ℤ, pos, Some}
use Rattle.std.proofs.lemmas.Bool.{eq-eqb}
use Rattle.std.proofs.lemmas.List.{append_assoc, append-nil, length-append, length-map, length-reverse, map-append, reverse-append}
use Rattle.session_model.specs.declared.session.Session.{Session}
use Rattle.engine_model.specs.Journal as engine
use Rattle.engine_model.specs.Journal.{Entry, note_of}
use Rattle.engine_model.specs.Takes.{Input, input_block}
use Rattle.engine_model.specs.Truth.{losses, loss_of}
use Rattle.machine_laws.specs.Stands.{block_of_take, blocks_taken, met_full}
use Rattle.machine_laws.proofs.LossLemmas.{losses_with, full_with}
use Rattle.disk_ring.specs.Sender.{Sender, FoundFull}
use Rattle.piece_item.specs.declared.take_block.TakeBlock.{TakeBlock}
use Rattle.cycle_journal.specs.declared.note.Take.{Take}
use Rattle.cycle_journal.specs.declared.note.Take.TheVariants.{Off, Taken, Lost}
use Rattle.cycle_journal.specs.JournalView.{seen_take}
use Rattle.capture_flush.specs.Blocks.{Block, block_of, place_of, taken_in, taken_from, taken_blocks}
use Rattle.track_capture.specs.Counted.{HasCaptured}
use Rattle.track_capture.specs.Picked.{picked}
use Rattle.process_cycle.specs.Captured.{AreCaptured}

-- ---- the blocks of a journal of one entry more

one_more : (s : Session) (input : Input) (t c : ℕ) (journal : List Entry) (e : Entry) →
    taken_from s input t c (journal ++ e ∷ []) ≡ taken_from s input t c journal ++ taken_in s input t (c + length journal) (note_of t e).take
one_more s input t c [] e = append-nil (taken_in s input t c (note_of t e).take) ∙ ap (λ n. taken_in s input t n (note_of t e).take) (here c)
  where
    here : (c : ℕ) → c ≡ c + 0
    here c = omega arith
one_more s input t c (j ∷ js) e = ap (λ l. taken_in s input t c (note_of t j).take ++ l)
    (one_more s input t (suc c) js e ∙ ap (λ n. taken_from s input t (suc c) js ++ taken_in s input t n (note_of t e).take) (next c (length js)))
    ∙ sym (append_assoc (taken_in s input t c (note_of t j).take) (taken_from s input t (suc c) js) (taken_in s input t (c + length (j ∷ js)) (note_of t e).take))
  where
    next : (c n : ℕ) → suc c + n ≡ c + suc n
    next c n = omega arith

taken_with : (s : Session) (input : Input) (t : ℕ) (e : Entry) (entries : List Entry) →
    taken_blocks s input t (reverse (e ∷ entries)) ≡ taken_blocks s input t (reverse entries) ++ taken_in s input t (length entries) (note_of t e).take
taken_with s input t e entries = ap (taken_blocks s input t) (reverse-append (e ∷ []) entries) ∙ one_more s input t 0 (reverse entries) e
    ∙ ap (λ n. taken_blocks s input t (reverse entries) ++ taken_in s input t n (note_of t e).take) (long (length (reverse entries)) (length-reverse entries))
  where
    long : (n : ℕ) → n ≡ length entries → 0 + n ≡ length entries
    long n is = omega (arith, is)

-- as many as the entries took
taken_many : (s : Session) (input : Input) (t : ℕ) (entries : List Entry) → length (taken_blocks s input t (reverse entries)) ≡ length (blocks_taken t entries)
taken_many s input t [] = refl
taken_many s input t (e ∷ es) = ap length (taken_with s input t e es) ∙ by (note_of t e).take (taken_blocks s input t (reverse es)) (taken_many s input t es)
  where
    by : (take : engine.Take) (bs : List Block) → length bs ≡ length (blocks_taken t es) →
        length (bs ++ taken_in s input t (length es) take) ≡ length (block_of_take take ++ blocks_taken t es)
    by engine.Off bs is = ap length (append-nil bs) ∙ is
    by (engine.Taken n i) bs is = let long = length-append bs (taken_in s input t (length es) (engine.Taken n i)) in omega (arith, long, is)
    by (engine.Lost n i head) bs is = ap length (append-nil bs) ∙ is

taken_few : (t : ℕ) (entries : List Entry) → length (blocks_taken t entries) ≤ length entries
taken_few t [] = omega arith
taken_few t (e ∷ es) = by (note_of t e).take (taken_few t es)
  where
    by : (take : engine.Take) → length (blocks_taken t es) ≤ length es → length (block_of_take take ++ blocks_taken t es) ≤ length (e ∷ es)
    by engine.Off le = omega (arith, le)
    by (engine.Taken n i) le = omega (arith, le)
    by (engine.Lost n i head) le = omega (arith, le)

-- ---- what a capture does to its ring

module _ (s : Session) (t channels : ℕ) (samples : List ℤ) where
  places_with : (input : Input) (c : ℕ) (take : Take) (d f : Sender TakeBlock) → HasCaptured s t channels samples d take f →
      map (λ b. place_of (block_of b)) f.sent ≡ map (λ b. place_of (block_of b)) d.sent ++ map place_of (taken_in s input t c (seen_take take))
  places_with input c Off d f same = ap (λ x. map (λ b. place_of (block_of b)) x.sent) same ∙ sym (append-nil (map (λ b. place_of (block_of b)) d.sent))
  places_with input c (Taken n i) d f taken = ap (λ x. map (λ b. place_of (block_of b)) x.sent) taken.sent ∙ map-append (λ b. place_of (block_of b)) d.sent (taken.block ∷ [])
      ∙ ap (λ k. map (λ b. place_of (block_of b)) d.sent ++ record { take = k; index = taken.block.index } ∷ []) taken.take
      ∙ ap (λ k. map (λ b. place_of (block_of b)) d.sent ++ record { take = n; index = k } ∷ []) taken.index
  places_with input c (Lost n i head) d f refused = ap (λ x. map (λ b. place_of (block_of b)) x.sent) refused.heads ∙ sym (append-nil (map (λ b. place_of (block_of b)) d.sent))

  blocks_with : (input : Input) (c : ℕ) (take : Take) (d f : Sender TakeBlock) → picked s t channels samples ≡ input_block s input t c → HasCaptured s t channels samples d take f →
      map block_of f.sent ≡ map block_of d.sent ++ taken_in s input t c (seen_take take)
  blocks_with input c Off d f is same = ap (λ x. map block_of x.sent) same ∙ sym (append-nil (map block_of d.sent))
  blocks_with input c (Taken n i) d f is taken = ap (λ x. map block_of x.sent) taken.sent ∙ map-append block_of d.sent (taken.block ∷ [])
      ∙ ap (λ k. map block_of d.sent ++ record { take = k; index = taken.block.index; samples = taken.block.samples.items } ∷ []) taken.take
      ∙ ap (λ k. map block_of d.sent ++ record { take = n; index = k; samples = taken.block.samples.items } ∷ []) taken.index
      ∙ ap (λ l. map block_of d.sent ++ record { take = n; index = i; samples = l } ∷ []) (taken.samples ∙ is)
  blocks_with input c (Lost n i head) d f is refused = ap (λ x. map block_of x.sent) refused.heads ∙ sym (append-nil (map block_of d.sent))

  heads_with : (n : ℕ) (take : Take) (d f : Sender TakeBlock) → HasCaptured s t channels samples d take f → f.heads ≡ d.heads ++ map (λ l. l.head) (loss_of n (seen_take take))
  heads_with n Off d f same = ap (λ x. x.heads) same ∙ sym (append-nil d.heads)
  heads_with n (Taken k i) d f taken = ap (λ x. x.heads) taken.sent ∙ sym (append-nil d.heads)
  heads_with n (Lost k i head) d f refused = ap (λ x. x.heads) refused.heads

  full_now : (n : ℕ) (take : Take) (d f : Sender TakeBlock) → d.depth ≡ s.depth → length d.sent ≡ n → n < 100000 → HasCaptured s t channels samples d take f →
      met_full s.depth n (Some (seen_take take)) ≡ true
  full_now n Off d f deep many few same = refl
  full_now n (Taken k i) d f deep many few taken = refl
  full_now n (Lost k i head) d f deep many few refused = by refused.full
    where
      by : FoundFull d head → (n == head + s.depth) ≡ true
      by (inl full) = eq-eqb n (head + s.depth) (sym many ∙ full ∙ ap (λ k. head + k) deep)
      by (inr most) = absurd (omega (arith, many, few, most))

  pub captured_more : (e : Entry) (entries : List Entry) (take : Take) (d f : Sender TakeBlock) → seen_take take ≡ (note_of t e).take → d.depth ≡ s.depth → length entries < 100000 →
      HasCaptured s t channels samples d take f → AreCaptured s t entries d → AreCaptured s t (e ∷ entries) f
  captured_more e entries take d f noted deep few captured was =
      let n : ℕ = length (blocks_taken t entries) in let silence : Input = λ i k. pos 0 in
      let many : length d.sent ≡ n = sym (length-map d.sent (λ b. place_of (block_of b))) ∙ ap length (was.places silence)
      ∙ length-map (taken_blocks s silence t (reverse entries)) place_of ∙ taken_many s silence t entries in
      let low = taken_few t entries in record {
        places = λ input. places_with input (length entries) take d f captured
            ∙ ap (λ l. l ++ map place_of (taken_in s input t (length entries) (seen_take take))) (was.places input)
            ∙ ap (λ k. map place_of (taken_blocks s input t (reverse entries)) ++ map place_of (taken_in s input t (length entries) k)) noted
            ∙ sym (map-append place_of (taken_blocks s input t (reverse entries)) (taken_in s input t (length entries) (note_of t e).take))
            ∙ sym (ap (map place_of) (taken_with s input t e entries));
        heads = heads_with n take d f captured ∙ ap (λ l. l ++ map (λ l. l.head) (loss_of n (seen_take take))) was.heads
            ∙ ap (λ k. map (λ l. l.head) (losses t (reverse entries)) ++ map (λ l. l.head) (loss_of n k)) noted
            ∙ sym (map-append (λ l. l.head) (losses t (reverse entries)) (loss_of n (note_of t e).take)) ∙ sym (ap (map (λ l. l.head)) (losses_with t e entries));
        full = full_with s.depth t e entries was.full
            (subst (λ k. met_full s.depth n (Some k) ≡ true) noted (full_now n take d f deep many (omega (arith, low, few)) captured));
      }

  pub of_input_more : (input : Input) (e : Entry) (entries : List Entry) (take : Take) (d f : Sender TakeBlock) → seen_take take ≡ (note_of t e).take →
      picked s t channels samples ≡ input_block s input t (length entries) → HasCaptured s t channels samples d take f → map block_of d.sent ≡ taken_blocks s input t (reverse entries) →
      map block_of f.sent ≡ taken_blocks s input t (reverse (e ∷ entries))
  of_input_more input e entries take d f noted is captured was = blocks_with input (length entries) take d f is captured
      ∙ ap (λ l. l ++ taken_in s input t (length entries) (seen_take take)) was
      ∙ ap (λ k. taken_blocks s input t (reverse entries) ++ taken_in s input t (length entries) k) noted ∙ sym (taken_with s input t e entries)
