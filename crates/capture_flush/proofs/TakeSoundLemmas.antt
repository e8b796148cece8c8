-- The samples of a take are those of its blocks that came, with silence for each that was lost.
use Rattle.std.proofs.Common.{◌≡◌, ℕ, zero, suc, ◌+◌, ◌-◌, ◌*◌, ◌≤◌, ◌<◌, List, [], ◌∷◌, ◌++◌, length, refl, sym, ap, ap₂, arith, ◌∙◌}
use Rattle.std.specs.Prelude.{Bool, true, false, ◌&&◌, ◌==◌, max, if◌then◌else◌, Some, None, ℤ, pos, replicate, flat_map, unwrap_or}
use Rattle.std.specs.List.{range_with_len}
use Rattle.std.proofs.lemmas.Bool.{eq-eqb, eqb-true}
use Rattle.std.proofs.lemmas.Grind.{flat_map-append}
use Rattle.std.proofs.lemmas.List.{length-append, length-replicate, replicate-append-replicate}
use Rattle.session_model.specs.declared.session.Session.{Session}
use Rattle.engine_model.specs.Journal.{Take, Off, Taken, Lost, Entry, note_of}
use Rattle.engine_model.specs.Takes.{Input, input_block, silent_block, take_block, take_from, take_samples}
use Rattle.capture_flush.specs.Blocks.{Block, block_at, block_samples, blocks_in, taken_blocks, taken_from, taken_in}
use Rattle.capture_flush.specs.Flushed.{flushed_samples}
use Rattle.capture_flush.proofs.NoteLemmas.{CountsUp, HasIndex, is_of, notes_of}
use Rattle.capture_flush.proofs.TakenLemmas.{length-input_block}

-- ---- ranges

one_first : (a n : ℕ) → range_with_len a (suc n) ≡ a ∷ range_with_len (suc a) n
one_first a n = ap (λ k. a ∷ range_with_len k n) {x = a + 1} {y = suc a} (omega arith)

pub same_on : {X : Type 0} (f g : ℕ → List X) (a n : ℕ) → ((j : ℕ) → a ≤ j → j < a + n → f j ≡ g j) → flat_map f (range_with_len a n) ≡ flat_map g (range_with_len a n)
same_on f g a zero same = refl
same_on f g a (suc n) same = ap (flat_map f) (one_first a n)
    ∙ ap₂ (λ x y. x ++ y) (same a (omega arith) (omega arith)) (same_on f g (suc a) n (λ j low high. same j (omega arith) (omega arith))) ∙ ap (flat_map g) (sym (one_first a n))

pub range_parts : (a m n : ℕ) → range_with_len a (m + n) ≡ range_with_len a m ++ range_with_len (a + m) n
range_parts a zero n = ap (λ k. range_with_len a k) {x = 0 + n} {y = n} (omega arith) ∙ ap (λ k. range_with_len k n) {x = a} {y = a + 0} (omega arith)
range_parts a (suc m) n = ap (range_with_len a) {x = suc m + n} {y = suc (m + n)} (omega arith) ∙ one_first a (m + n) ∙ ap (λ l. a ∷ l) (range_parts (suc a) m n)
    ∙ ap (λ k. a ∷ (range_with_len (suc a) m ++ range_with_len k n)) {x = suc a + m} {y = a + suc m} (omega arith)
    ∙ ap (λ l. l ++ range_with_len (a + suc m) n) (sym (one_first a m))

-- ---- the blocks of a take whose notes count up

-- where one stands
abbrev came_at : Session → ℕ → ℕ → List Block → ℕ → List ℤ
came_at s t n bs j = unwrap_or (block_at n j bs) (silent_block s t)

other_block : (n j : ℕ) (b : Block) (bs : List Block) → (b.take ≡ n → b.index ≡ j → ⊥) → block_at n j (b ∷ bs) ≡ block_at n j bs
other_block n j b bs other = by (b.take == n) refl (b.index == j) refl
  where
    by : (c : Bool) → (b.take == n) ≡ c → (d : Bool) → (b.index == j) ≡ d → (if c && d then Some b.samples else block_at n j bs) ≡ block_at n j bs
    by true of true at = absurd (other (eqb-true b.take n of) (eqb-true b.index j at))
    by true of false at = refl
    by false of d at = refl

this_block : (n j : ℕ) (b : Block) (bs : List Block) → b.take ≡ n → b.index ≡ j → block_at n j (b ∷ bs) ≡ Some b.samples
this_block n j b bs of at = ap₂ (λ c d. if c && d then Some b.samples else block_at n j bs) (eq-eqb b.take n of) (eq-eqb b.index j at)

-- none stands before the next index
none_before : (s : Session) (input : Input) (t n k c j : ℕ) (es : List Entry) → CountsUp t n k es → j < k → block_at n j (taken_from s input t c es) ≡ None
none_before s input t n k c j [] up lt = refl
none_before s input t n k c j (e ∷ es) up lt = by (note_of t e).take up.0 (none_before s input t n (if is_of n (note_of t e).take then suc k else k) (suc c) j es up.1 (further (is_of n (note_of t e).take)))
  where
    further : (b : Bool) → j < (if b then suc k else k)
    further true = omega arith
    further false = lt

    by : (take : Take) → HasIndex n k take → block_at n j (taken_from s input t (suc c) es) ≡ None → block_at n j (taken_in s input t c take ++ taken_from s input t (suc c) es) ≡ None
    by Off has rest = rest
    by (Taken m i) has rest = other_block n j (record { take = m; index = i; samples = input_block s input t c }) (taken_from s input t (suc c) es)
        (λ of at. let is = has of in absurd (omega (arith, is, at, lt))) ∙ rest
    by (Lost m i head) has rest = rest

-- none stands behind the last
pub none_behind : (n j : ℕ) (bs : List Block) → blocks_in n bs ≤ j → block_at n j bs ≡ None
none_behind n j [] le = refl
none_behind n j (b ∷ bs) le = by (b.take == n) refl (b.index == j) refl le (none_behind n j bs)
  where
    by : (c : Bool) → (b.take == n) ≡ c → (d : Bool) → (b.index == j) ≡ d → (if c then max (suc b.index) (blocks_in n bs) else blocks_in n bs) ≤ j →
        (blocks_in n bs ≤ j → block_at n j bs ≡ None) → (if c && d then Some b.samples else block_at n j bs) ≡ None
    by true of true at le rest = let is = eqb-true b.index j at in absurd (grind (arith, le, is))
    by true of false at le rest = rest (grind (arith, le))
    by false of d at le rest = rest le

-- ---- the samples

sound_more : (s : Session) (input : Input) (t n k c : ℕ) (take : Take) (es : List Entry) → HasIndex n k take → CountsUp t n (if is_of n take then suc k else k) es →
    ((l : ℕ) → CountsUp t n l es → take_from s input t n (suc c) es ≡ flat_map (came_at s t n (taken_from s input t (suc c) es)) (range_with_len l (notes_of t n es))) →
    take_block s input t n c take ++ take_from s input t n (suc c) es
    ≡ flat_map (came_at s t n (taken_in s input t c take ++ taken_from s input t (suc c) es)) (range_with_len k (if is_of n take then suc (notes_of t n es) else notes_of t n es))
sound_more s input t n k c Off es has up rest = rest k up
sound_more s input t n k c (Taken m i) es has up rest = by (m == n) refl up
  where
    bs : List Block
    bs = taken_from s input t (suc c) es

    here : Block
    here = record { take = m; index = i; samples = input_block s input t c }

    by : (b : Bool) → (m == n) ≡ b → CountsUp t n (if b then suc k else k) es → (if b then input_block s input t c else []) ++ take_from s input t n (suc c) es
        ≡ flat_map (came_at s t n (here ∷ bs)) (range_with_len k (if b then suc (notes_of t n es) else notes_of t n es))
    by true of up = let at : i ≡ k = has (eqb-true m n of) in ap₂ (λ x y. x ++ y) (sym (ap (λ o. unwrap_or o (silent_block s t)) (this_block n k here bs (eqb-true m n of) at)))
        (rest (suc k) up ∙ same_on (came_at s t n bs) (came_at s t n (here ∷ bs)) (suc k) (notes_of t n es)
        (λ j low high. sym (ap (λ o. unwrap_or o (silent_block s t)) (other_block n j here bs (λ of is. absurd (omega (arith, is, at, low)))))))
        ∙ ap (flat_map (came_at s t n (here ∷ bs))) (sym (one_first k (notes_of t n es)))
    by false of up = rest k up ∙ same_on (came_at s t n bs) (came_at s t n (here ∷ bs)) k (notes_of t n es)
        (λ j low high. sym (ap (λ o. unwrap_or o (silent_block s t)) (other_block n j here bs (λ is at. absurd (grind (arith, of, is))))))
sound_more s input t n k c (Lost m i head) es has up rest = by (m == n) refl up
  where
    bs : List Block
    bs = taken_from s input t (suc c) es

    by : (b : Bool) → (m == n) ≡ b → CountsUp t n (if b then suc k else k) es → (if b then silent_block s t else []) ++ take_from s input t n (suc c) es
        ≡ flat_map (came_at s t n bs) (range_with_len k (if b then suc (notes_of t n es) else notes_of t n es))
    by true of up = ap₂ (λ x y. x ++ y) (sym (ap (λ o. unwrap_or o (silent_block s t)) (none_before s input t n (suc k) (suc c) k es up (omega arith)))) (rest (suc k) up)
        ∙ ap (flat_map (came_at s t n bs)) (sym (one_first k (notes_of t n es)))
    by false of up = rest k up

sound_from : (s : Session) (input : Input) (t n k c : ℕ) (es : List Entry) → CountsUp t n k es →
    take_from s input t n c es ≡ flat_map (came_at s t n (taken_from s input t c es)) (range_with_len k (notes_of t n es))
sound_from s input t n k c [] up = refl
sound_from s input t n k c (e ∷ es) up = sound_more s input t n k c (note_of t e).take es up.0 up.1 (λ l up. sound_from s input t n l (suc c) es up)

-- ---- as a file is flushed

silent_run : (s : Session) (t n a m : ℕ) (bs : List Block) → blocks_in n bs ≤ a → flat_map (came_at s t n bs) (range_with_len a m) ≡ replicate (m * block_samples s t) (pos 0)
silent_run s t n a zero bs le = ap (λ k. replicate k (pos 0)) {x = 0} (omega arith)
silent_run s t n a (suc m) bs le = ap (flat_map (came_at s t n bs)) (one_first a m)
    ∙ ap₂ (λ x y. x ++ y) (ap (λ o. unwrap_or o (silent_block s t)) (none_behind n a bs le)) (silent_run s t n (suc a) m bs (omega arith))
    ∙ replicate-append-replicate (block_samples s t) (m * block_samples s t) (pos 0) ∙ ap (λ k. replicate k (pos 0)) (one_on (block_samples s t) m)
  where
    one_on : (b m : ℕ) → b + m * b ≡ suc m * b
    one_on b m = grind arith

up_to : (s : Session) (input : Input) (t n k c : ℕ) (es : List Entry) → CountsUp t n k es → blocks_in n (taken_from s input t c es) ≤ k + notes_of t n es
up_to s input t n k c [] up = omega arith
up_to s input t n k c (e ∷ es) up = by (note_of t e).take up.0 (λ l up. up_to s input t n l (suc c) es up) up.1
  where
    by : (take : Take) → HasIndex n k take → ((l : ℕ) → CountsUp t n l es → blocks_in n (taken_from s input t (suc c) es) ≤ l + notes_of t n es) →
        CountsUp t n (if is_of n take then suc k else k) es →
        blocks_in n (taken_in s input t c take ++ taken_from s input t (suc c) es) ≤ k + (if is_of n take then suc (notes_of t n es) else notes_of t n es)
    by Off has rest up = rest k up
    by (Taken m i) has rest up = at (m == n) refl up
      where
        at : (b : Bool) → (m == n) ≡ b → CountsUp t n (if b then suc k else k) es →
            (if b then max (suc i) (blocks_in n (taken_from s input t (suc c) es)) else blocks_in n (taken_from s input t (suc c) es)) ≤ k + (if b then suc (notes_of t n es) else notes_of t n es)
        at true of up = let is = has (eqb-true m n of) in let le = rest (suc k) up in grind (arith, is, le)
        at false of up = rest k up
    by (Lost m i head) has rest up = at (m == n) up
      where
        at : (b : Bool) → CountsUp t n (if b then suc k else k) es → blocks_in n (taken_from s input t (suc c) es) ≤ k + (if b then suc (notes_of t n es) else notes_of t n es)
        at true up = let le = rest (suc k) up in omega (arith, le)
        at false up = rest k up

-- those flushed, and silence for the blocks lost at the end
pub flushed_first : (s : Session) (input : Input) (t n : ℕ) (journal : List Entry) → CountsUp t n 0 journal → let bs = taken_blocks s input t journal in
    take_samples s input t n journal ≡ flushed_samples s t n bs ++ replicate ((notes_of t n journal - blocks_in n bs) * block_samples s t) (pos 0)
flushed_first s input t n journal up = let bs = taken_blocks s input t journal in let came = blocks_in n bs in let le = up_to s input t n 0 0 journal up in
    let lost = notes_of t n journal - came in
    sound_from s input t n 0 0 journal up ∙ ap (λ k. flat_map (came_at s t n bs) (range_with_len 0 k)) {x = notes_of t n journal} {y = came + lost} (omega (arith, le))
    ∙ ap (flat_map (came_at s t n bs)) (range_parts 0 came lost)
    ∙ flat_map-append (came_at s t n bs) (range_with_len 0 came) (range_with_len (0 + came) lost)
    ∙ ap (λ l. flushed_samples s t n bs ++ l) (silent_run s t n (0 + came) lost bs (omega arith))

-- ---- how many they are

pub take_long : (s : Session) (input : Input) (t n c : ℕ) (es : List Entry) → length (take_from s input t n c es) ≡ notes_of t n es * block_samples s t
take_long s input t n c [] = omega arith
take_long s input t n c (e ∷ es) = length-append (take_block s input t n c (note_of t e).take) (take_from s input t n (suc c) es) ∙ by (note_of t e).take (take_long s input t n (suc c) es)
  where
    one_on : (x y b m : ℕ) → x ≡ b → y ≡ m * b → x + y ≡ suc m * b
    one_on x y b m is rest = grind arith

    by : (take : Take) → length (take_from s input t n (suc c) es) ≡ notes_of t n es * block_samples s t →
        length (take_block s input t n c take) + length (take_from s input t n (suc c) es) ≡ (if is_of n take then suc (notes_of t n es) else notes_of t n es) * block_samples s t
    by Off rest = omega (arith, rest)
    by (Taken m i) rest = at (m == n)
      where
        at : (b : Bool) → length (if b then input_block s input t c else []) + length (take_from s input t n (suc c) es) ≡ (if b then suc (notes_of t n es) else notes_of t n es) * block_samples s t
        at true = one_on _ _ (block_samples s t) (notes_of t n es) (length-input_block s input t c) rest
        at false = omega (arith, rest)
    by (Lost m i head) rest = at (m == n)
      where
        at : (b : Bool) → length (if b then silent_block s t else []) + length (take_from s input t n (suc c) es) ≡ (if b then suc (notes_of t n es) else notes_of t n es) * block_samples s t
        at true = one_on _ _ (block_samples s t) (notes_of t n es) (length-replicate (block_samples s t) (pos 0)) rest
        at false = omega (arith, rest)
