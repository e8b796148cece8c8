-- The takes of a counted journal: their numbers rise, and each has as many blocks as the journal has notes of it.
use Rattle.std.proofs.Common.{◌≡◌, ℕ, suc, ◌+◌, ◌≤◌, ◌<◌, List, [], ◌∷◌, ◌++◌, length, refl, sym, ap, subst, arith, ◌∙◌}
use Rattle.std.specs.Prelude.{Bool, true, false, ◌==◌, max, if◌then◌else◌, Option, Some, None, All}
use Rattle.std.specs.Option.{option_map_or}
use Rattle.std.proofs.lemmas.Bool.{eq-eqb, ne_eqb}
use Rattle.std.proofs.lemmas.List.Elements.{All-cons, All-nil, All-weaker}
use Rattle.session_model.specs.declared.session.Session.{Session}
use Rattle.engine_model.specs.Journal.{Take, Off, Taken, Lost, Entry, note_of}
use Rattle.engine_model.specs.Fits.{take_number}
use Rattle.engine_model.specs.Takes.{Input}
use Rattle.capture_flush.specs.declared.run.Run.{Run}
use Rattle.capture_flush.specs.Blocks.{blocks_in, taken_from, taken_in}
use Rattle.capture_flush.specs.Closing.{open_after, ended_by, runs_from, runs_of}
use Rattle.capture_flush.proofs.CountedLemmas.{Follows, Goes, IsOpen, next_number, next_index, still_open}
use Rattle.capture_flush.proofs.NoteLemmas.{is_of, notes_of, none_below, no_notes, none_came, blocks_before, blocks_at}

-- ---- no take is longer than the journal

abbrev AtMost : ℕ → Run → Type 0
AtMost k r = r.blocks ≤ k

few_more : (before : Option Run) (take : Take) (t k : ℕ) (es : List Entry) → next_index before + suc (length es) ≤ k →
    ((b : Option Run) → next_index b + length es ≤ k → All (AtMost k) (runs_from b t es)) → All (AtMost k) (ended_by before take ++ runs_from (open_after before take) t es)
few_more None Off t k es le rest = rest None (omega arith)
few_more None (Taken n i) t k es le rest = rest (open_after None (Taken n i)) (omega arith)
few_more None (Lost n i head) t k es le rest = rest (open_after None (Lost n i head)) (omega arith)
few_more (Some run) Off t k es le rest = All-cons (AtMost k) run (runs_from None t es) (omega arith) (rest None (omega arith))
few_more (Some run) (Taken n i) t k es le rest = rest (open_after (Some run) (Taken n i)) (omega arith)
few_more (Some run) (Lost n i head) t k es le rest = rest (open_after (Some run) (Lost n i head)) (omega arith)

few_from : (before : Option Run) (t k : ℕ) (es : List Entry) → next_index before + length es ≤ k → All (AtMost k) (runs_from before t es)
few_from None t k [] le = All-nil (AtMost k)
few_from (Some run) t k [] le = All-cons (AtMost k) run [] (omega arith) (All-nil (AtMost k))
few_from before t k (e ∷ es) le = few_more before (note_of t e).take t k es le (λ b. few_from b t k es)

pub few_blocks : (t : ℕ) (journal : List Entry) → All (λ (r : Run). r.blocks ≤ length journal) (runs_of t journal)
few_blocks t journal = few_from None t (length journal) journal (omega arith)

-- ---- their numbers rise

abbrev pub Rising : ℕ → List Run → Type 0
Rising low [] = Unit {0}
Rising low (r ∷ rs) = (low ≤ r.take) × Rising (suc r.take) rs

rising_more : (before : Option Run) (most : ℕ) (take : Take) (t : ℕ) (es : List Entry) → IsOpen before most → Goes (next_number before most) (next_index before) take →
    Rising (next_number (open_after before take) (max (take_number take) most)) (runs_from (open_after before take) t es) →
    Rising (next_number before most) (ended_by before take ++ runs_from (open_after before take) t es)
rising_more None most Off t es is goes rest = subst (λ m. Rising (suc m) (runs_from None t es)) {x = max 0 most} {y = most} (grind arith) rest
rising_more None most (Taken n i) t es is goes rest = subst (λ m. Rising m (runs_from (open_after None (Taken n i)) t es)) goes.0 rest
rising_more None most (Lost n i head) t es is goes rest = subst (λ m. Rising m (runs_from (open_after None (Lost n i head)) t es)) goes.0 rest
rising_more (Some run) most Off t es is goes rest = (omega arith, subst (λ m. Rising (suc m) (runs_from None t es)) {x = max 0 most} {y = run.take} (grind (arith, is.0)) rest)
rising_more (Some run) most (Taken n i) t es is goes rest = subst (λ m. Rising m (runs_from (open_after (Some run) (Taken n i)) t es)) goes.0 rest
rising_more (Some run) most (Lost n i head) t es is goes rest = subst (λ m. Rising m (runs_from (open_after (Some run) (Lost n i head)) t es)) goes.0 rest

rising_from : (before : Option Run) (most t : ℕ) (es : List Entry) → IsOpen before most → Follows before most t es → Rising (next_number before most) (runs_from before t es)
rising_from None most t [] is on = tt
rising_from (Some run) most t [] is on = (omega arith, tt)
rising_from before most t (e ∷ es) is on = let take = (note_of t e).take in rising_more before most take t es is on.0
    (rising_from (open_after before take) (max (take_number take) most) t es (still_open before most take is on.0) on.1)

-- the takes of a counted journal, from 1 on
pub rising : (t : ℕ) (journal : List Entry) → Follows None 0 t journal → Rising 1 (runs_of t journal)
rising t journal on = rising_from None 0 t journal tt on

-- ---- how long they are, and how far they are filled

abbrev filled_before : Option Run → ℕ → ℕ
filled_before None n = 0
filled_before (Some run) n = if run.take == n then run.filled else 0

-- A take of entries with so many notes of each take, and so many blocks of each that came, where one may be open before them.
pub record RunIs (before : Option Run) (most : ℕ) (notes came : ℕ → ℕ) (r : Run) : Type 0 where
  pub above : next_number before most ≤ r.take
  pub some : 0 < r.blocks
  pub within : r.filled ≤ r.blocks
  pub blocks : r.blocks ≡ blocks_before before r.take + notes r.take
  pub filled : r.filled ≡ max (filled_before before r.take) (came r.take)

-- the one that is open before them, where no more notes of it come
ends_here : (run : Run) (most : ℕ) (notes came : ℕ → ℕ) → IsOpen (Some run) most → notes run.take ≡ 0 → came run.take ≡ 0 → RunIs (Some run) most notes came run
ends_here run most notes came is none away = let same = eq-eqb run.take run.take refl in record {
  above = omega arith;
  some = is.2;
  within = is.1;
  blocks = sym (ap (λ b. (if b then run.blocks else 0) + notes run.take) same ∙ ap (λ k. run.blocks + k) none ∙ omega arith);
  filled = sym (ap (λ b. max (if b then run.filled else 0) (came run.take)) same ∙ ap (λ k. max run.filled k) away ∙ grind arith);
}

-- those behind it
other_take : (before : Option Run) (most n : ℕ) → IsOpen before most → suc (max 0 most) ≤ n → (blocks_before before n ≡ 0) × (filled_before before n ≡ 0) × (next_number before most ≤ n)
other_take None most n is le = (refl, refl, grind (arith, le))
other_take (Some run) most n is le = let other = ne_eqb run.take n (λ same. absurd (grind (arith, is.0, le, same))) in
    (ap (λ b. if b then run.blocks else 0) other, ap (λ b. if b then run.filled else 0) other, grind (arith, is.0, le))

off_more : (before : Option Run) (most : ℕ) (notes came : ℕ → ℕ) (r : Run) → IsOpen before most → RunIs None (max 0 most) notes came r → RunIs before most notes came r
off_more before most notes came r is rest = let other = other_take before most r.take is rest.above in record {
  above = other.2;
  some = rest.some;
  within = rest.within;
  blocks = rest.blocks ∙ ap (λ k. k + notes r.take) (sym other.0);
  filled = rest.filled ∙ ap (λ k. max k (came r.take)) (sym other.1);
}

one_block : (b : Bool) (x idx n k : ℕ) → x ≡ (if b then idx else 0) → k ≡ (if b then suc idx else 0) + n → k ≡ x + (if b then suc n else n)
one_block true x idx n k is at = omega arith
one_block false x idx n k is at = omega arith

one_filled : (b : Bool) (f idx i c k : ℕ) → f ≤ (if b then idx else 0) → i ≡ idx → k ≡ max (if b then suc idx else 0) c → k ≡ max f (if b then max (suc i) c else c)
one_filled true f idx i c k le is at = at ∙ grind (arith, le, is)
one_filled false f idx i c k le is at = at ∙ grind (arith, le)

filled_within : (before : Option Run) (most n : ℕ) → IsOpen before most → filled_before before n ≤ blocks_before before n
filled_within None most n is = omega arith
filled_within (Some run) most n is = by (run.take == n)
  where
    by : (b : Bool) → (if b then run.filled else 0) ≤ (if b then run.blocks else 0)
    by true = is.1
    by false = omega arith

filled_at : (before : Option Run) (most m n : ℕ) → m ≡ next_number before most → filled_before before n ≡ (if m == n then option_map_or (λ r. r.filled) before 0 else 0)
filled_at None most m n same = either (m == n)
  where
    either : (b : Bool) → ◌≡◌ {A = ℕ} 0 (if b then 0 else 0)
    either true = refl
    either false = refl
filled_at (Some run) most m n same = ap (λ k. if k == n then run.filled else 0) (sym same)

taken_more : (before : Option Run) (most m i : ℕ) (notes came : ℕ → ℕ) (r : Run) → IsOpen before most → Goes (next_number before most) (next_index before) (Taken m i) →
    RunIs (open_after before (Taken m i)) (max m most) notes came r →
    RunIs before most (λ n. if m == n then suc (notes n) else notes n) (λ n. if m == n then max (suc i) (came n) else came n) r
taken_more before most m i notes came r is goes rest = let was = blocks_at before most m r.take goes.0 in record {
  above = omega (arith, goes.0, rest.above);
  some = rest.some;
  within = rest.within;
  blocks = one_block (m == r.take) (blocks_before before r.take) (next_index before) (notes r.take) r.blocks was rest.blocks;
  filled = one_filled (m == r.take) (filled_before before r.take) (next_index before) i (came r.take) r.filled
      (subst (λ k. filled_before before r.take ≤ k) was (filled_within before most r.take is)) goes.1 rest.filled;
}

lost_more : (before : Option Run) (most m i head : ℕ) (notes came : ℕ → ℕ) (r : Run) → IsOpen before most → Goes (next_number before most) (next_index before) (Lost m i head) →
    RunIs (open_after before (Lost m i head)) (max m most) notes came r → RunIs before most (λ n. if m == n then suc (notes n) else notes n) came r
lost_more before most m i head notes came r is goes rest = record {
  above = omega (arith, goes.0, rest.above);
  some = rest.some;
  within = rest.within;
  blocks = one_block (m == r.take) (blocks_before before r.take) (next_index before) (notes r.take) r.blocks (blocks_at before most m r.take goes.0) rest.blocks;
  filled = rest.filled ∙ ap (λ k. max k (came r.take)) (sym (filled_at before most m r.take goes.0));
}

-- the takes of these entries, of which the first is that of cycle c
abbrev AreRuns : Session → Input → Option Run → ℕ → ℕ → ℕ → List Entry → Type 0
AreRuns s input before most t c es = All (RunIs before most (λ n. notes_of t n es) (λ n. blocks_in n (taken_from s input t c es))) (runs_from before t es)

taken_runs : (s : Session) (input : Input) (before : Option Run) (most t c m i : ℕ) (es : List Entry) → IsOpen before most → Goes (next_number before most) (next_index before) (Taken m i) →
    AreRuns s input (open_after before (Taken m i)) (max m most) t (suc c) es →
    All (RunIs before most (λ n. if m == n then suc (notes_of t n es) else notes_of t n es)
    (λ n. if m == n then max (suc i) (blocks_in n (taken_from s input t (suc c) es)) else blocks_in n (taken_from s input t (suc c) es)))
    (runs_from (open_after before (Taken m i)) t es)
taken_runs s input before most t c m i es is goes rest = let notes = λ (n : ℕ). notes_of t n es in let came = λ (n : ℕ). blocks_in n (taken_from s input t (suc c) es) in
    All-weaker (RunIs (open_after before (Taken m i)) (max m most) notes came)
    (RunIs before most (λ n. if m == n then suc (notes n) else notes n) (λ n. if m == n then max (suc i) (came n) else came n))
    (λ r. taken_more before most m i notes came r is goes) (runs_from (open_after before (Taken m i)) t es) rest

lost_runs : (s : Session) (input : Input) (before : Option Run) (most t c m i head : ℕ) (es : List Entry) → IsOpen before most →
    Goes (next_number before most) (next_index before) (Lost m i head) → AreRuns s input (open_after before (Lost m i head)) (max m most) t (suc c) es →
    All (RunIs before most (λ n. if m == n then suc (notes_of t n es) else notes_of t n es) (λ n. blocks_in n (taken_from s input t (suc c) es)))
    (runs_from (open_after before (Lost m i head)) t es)
lost_runs s input before most t c m i head es is goes rest = let notes = λ (n : ℕ). notes_of t n es in let came = λ (n : ℕ). blocks_in n (taken_from s input t (suc c) es) in
    All-weaker (RunIs (open_after before (Lost m i head)) (max m most) notes came) (RunIs before most (λ n. if m == n then suc (notes n) else notes n) came)
    (λ r. lost_more before most m i head notes came r is goes) (runs_from (open_after before (Lost m i head)) t es) rest

more_runs : (s : Session) (input : Input) (before : Option Run) (most t c : ℕ) (take : Take) (es : List Entry) → IsOpen before most →
    Goes (next_number before most) (next_index before) take → Follows (open_after before take) (max (take_number take) most) t es →
    AreRuns s input (open_after before take) (max (take_number take) most) t (suc c) es →
    All (RunIs before most (λ n. if is_of n take then suc (notes_of t n es) else notes_of t n es) (λ n. blocks_in n (taken_in s input t c take ++ taken_from s input t (suc c) es)))
    (ended_by before take ++ runs_from (open_after before take) t es)
more_runs s input None most t c Off es is goes on rest = let notes = λ (n : ℕ). notes_of t n es in let came = λ (n : ℕ). blocks_in n (taken_from s input t (suc c) es) in
    All-weaker (RunIs None (max 0 most) notes came) (RunIs None most notes came) (λ r. off_more None most notes came r is) (runs_from None t es) rest
more_runs s input (Some run) most t c Off es is goes on rest = let notes = λ (n : ℕ). notes_of t n es in let came = λ (n : ℕ). blocks_in n (taken_from s input t (suc c) es) in
    let none = none_below None (max 0 most) t run.take es tt on (grind (arith, is.0)) in
    All-cons (RunIs (Some run) most notes came) run (runs_from None t es) (ends_here run most notes came is (no_notes t run.take es none) (none_came s input t run.take (suc c) es none))
    (All-weaker (RunIs None (max 0 most) notes came) (RunIs (Some run) most notes came) (λ r. off_more (Some run) most notes came r is) (runs_from None t es) rest)
more_runs s input None most t c (Taken m i) es is goes on rest = taken_runs s input None most t c m i es is goes rest
more_runs s input (Some run) most t c (Taken m i) es is goes on rest = taken_runs s input (Some run) most t c m i es is goes rest
more_runs s input None most t c (Lost m i head) es is goes on rest = lost_runs s input None most t c m i head es is goes rest
more_runs s input (Some run) most t c (Lost m i head) es is goes on rest = lost_runs s input (Some run) most t c m i head es is goes rest

pub runs_are : (s : Session) (input : Input) (before : Option Run) (most t c : ℕ) (es : List Entry) → IsOpen before most → Follows before most t es → AreRuns s input before most t c es
runs_are s input None most t c [] is on = All-nil (RunIs None most (λ n. 0) (λ n. 0))
runs_are s input (Some run) most t c [] is on = All-cons (RunIs (Some run) most (λ n. 0) (λ n. 0)) run [] (ends_here run most (λ n. 0) (λ n. 0) is refl refl) (All-nil (RunIs (Some run) most (λ n. 0) (λ n. 0)))
runs_are s input before most t c (e ∷ es) is on = let take = (note_of t e).take in
    more_runs s input before most t c take es is on.0 on.1 (runs_are s input (open_after before take) (max (take_number take) most) t (suc c) es (still_open before most take is on.0) on.1)
