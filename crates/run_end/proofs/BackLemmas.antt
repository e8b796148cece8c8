-- A sound of which captured blocks are, read back from the blocks themselves: where some such sound was heard, takes made of this one are made of that one.
use Rattle.std.proofs.Common.{◌≡◌, ℕ, zero, suc, ◌+◌, ◌-◌, ◌*◌, ◌/◌, ◌%◌, ◌<◌, List, [], ◌∷◌, ◌++◌, length, refl, sym, ap, subst, ◌∙◌, arith}
use Rattle.std.specs.Prelude.{Bool, true, false, ◌&&◌, ◌==◌, nat_le, nat_lt, if◌then◌else◌, ℤ, pos, slice_get, slice_index_or, Some}
use Rattle.std.specs.Option.{option_map_or}
use Rattle.std.proofs.lemmas.Bool.{and_from, and_parts, le-leb, leb-true, lt-ltb, ltb-true, true≢false}
use Rattle.std.proofs.lemmas.List.FromFn.{fill_by_all, get_or-map-range_with_len, length-map-range_with_len}
use Rattle.std.proofs.lemmas.Nat.{div-add-mod', div-mul-add, div_below, mod-mul-add, mod_below, mul-add-lt}
use Rattle.session_model.specs.declared.session.Session.{Session}
use Rattle.session_model.specs.Formed.{channels_at}
use Rattle.session_model.specs.Frames.{interleaved}
use Rattle.engine_model.specs.Journal.{Take, Off, Taken, Lost, Entry, note_of}
use Rattle.engine_model.specs.Takes.{Input, first_channel, input_block, take_block, take_from}
use Rattle.capture_flush.specs.Blocks.{Block, taken_from, taken_in}

-- ---- the block of a cycle

abbrev pub is_taken : Take → Bool
is_taken Off = false
is_taken (Taken n i) = true
is_taken (Lost n i head) = false

-- the block that a take noted is the first of these
abbrev pub first_of : Take → List Block → List ℤ
first_of (Taken n i) (b ∷ bs) = b.samples
first_of (Taken n i) [] = []
first_of Off bs = []
first_of (Lost n i head) bs = []

abbrev pub rest_of : Take → List Block → List Block
rest_of (Taken n i) (b ∷ bs) = bs
rest_of (Taken n i) [] = []
rest_of Off bs = bs
rest_of (Lost n i head) bs = bs

-- the samples of the block that entry c took, where these blocks are all that the entries took of track t
abbrev pub block_in : ℕ → ℕ → List Entry → List Block → List ℤ
block_in t c [] bs = []
block_in t zero (e ∷ es) bs = first_of (note_of t e).take bs
block_in t (suc c) (e ∷ es) bs = block_in t c es (rest_of (note_of t e).take bs)

-- whether entry c took a block of track t
abbrev pub took : ℕ → ℕ → List Entry → Bool
took t c es = option_map_or (λ e. is_taken (note_of t e).take) (slice_get es c) false

rest_is : (s : Session) (input : Input) (t c : ℕ) (take : Take) (bs : List Block) → rest_of take (taken_in s input t c take ++ bs) ≡ bs
rest_is s input t c Off bs = refl
rest_is s input t c (Taken n i) bs = refl
rest_is s input t c (Lost n i head) bs = refl

first_is : (s : Session) (input : Input) (t c : ℕ) (take : Take) (bs : List Block) → is_taken take ≡ true → first_of take (taken_in s input t c take ++ bs) ≡ input_block s input t c
first_is s input t c Off bs is = absurd (true≢false (sym is))
first_is s input t c (Taken n i) bs is = refl
first_is s input t c (Lost n i head) bs is = absurd (true≢false (sym is))

block_is : (s : Session) (input : Input) (t c from : ℕ) (es : List Entry) → took t c es ≡ true → block_in t c es (taken_from s input t from es) ≡ input_block s input t (from + c)
block_is s input t c from [] is = absurd (true≢false (sym is))
block_is s input t zero from (e ∷ es) is = first_is s input t from (note_of t e).take (taken_from s input t (suc from) es) is ∙ ap (input_block s input t) {x = from} {y = from + 0} (omega arith)
block_is s input t (suc c) from (e ∷ es) is = ap (block_in t c es) (rest_is s input t from (note_of t e).take (taken_from s input t (suc from) es)) ∙ block_is s input t c (suc from) es is
    ∙ ap (input_block s input t) {x = suc from + c} {y = from + suc c} (omega arith)

-- ---- blocks of the input

module _ (f h : ℕ → ℕ → ℤ) (channels a m : ℕ) where
  -- there is a channel where there is a sample
  some_channel : (k : ℕ) → k < m * channels → 0 < channels
  some_channel k lt = by channels lt
    where
      by : (n : ℕ) → k < m * n → 0 < n
      by zero below = absurd (grind (arith, below))
      by (suc n) below = omega arith

  -- so many frames are the same where they agree in each channel
  same_frames : ((i k : ℕ) → i < m → k < channels → f (a + i) k ≡ h (a + i) k) → interleaved f channels a (m * channels) ≡ interleaved h channels a (m * channels)
  same_frames agree = fill_by_all (λ k. h (a + k / channels) (k % channels)) (interleaved f channels a (m * channels)) (m * channels) (pos 0)
      (length-map-range_with_len (λ k. f (a + k / channels) (k % channels)) 0 (m * channels))
      (λ k lt. let some = some_channel k lt in get_or-map-range_with_len (λ j. f (a + j / channels) (j % channels)) 0 (m * channels) k k (pos 0) lt (omega arith)
      ∙ agree (k / channels) (k % channels) (div_below k channels m some lt) (mod_below k channels some))

-- the sample of a frame and a channel of the block that a track has of the input in a cycle
sample_is : (s : Session) (input : Input) (t c i k : ℕ) → i < s.block → k < channels_at s t →
    slice_index_or (input_block s input t c) (i * channels_at s t + k) (pos 0) ≡ input (c * s.block + i) (first_channel s t + k)
sample_is s input t c i k near within = let n = channels_at s t in let f : ℕ → ℤ = λ j. input (c * s.block + j / n) (first_channel s t + j % n) in
    get_or-map-range_with_len f 0 (s.block * n) (i * n + k) (i * n + k) (pos 0) (by n (mul-add-lt i n k s.block near within)) (omega arith)
    ∙ ap (λ j. input (c * s.block + j) (first_channel s t + (i * n + k) % n)) (div-mul-add i n k within) ∙ ap (λ j. input (c * s.block + i) (first_channel s t + j)) (mod-mul-add i n k within)
  where
    by : (n : ℕ) → i * n + k < n * s.block → i * n + k < s.block * n
    by n lt = grind (arith, lt)

-- ---- read back

-- whether the block of cycle c of track t has a channel
abbrev pub covers : Session → List Entry → ℕ → ℕ → ℕ → Bool
covers s journal t c k = took t c journal && (nat_le (first_channel s t) k && nat_lt k (first_channel s t + channels_at s t))

-- the sample of a frame and a channel, by the first track that has it; these are the blocks of the tracks from track t on
abbrev pub read_back : Session → List Entry → ℕ → List (List Block) → Input
read_back s journal t [] i k = pos 0
read_back s journal t (bs ∷ tracks) i k = if covers s journal t (i / s.block) k
    then slice_index_or (block_in t (i / s.block) journal bs) (i % s.block * channels_at s t + (k - first_channel s t)) (pos 0)
    else read_back s journal (suc t) tracks i k

module _ (s : Session) (input : Input) (journal : List Entry) (some_frame : 0 < s.block) where
  -- the tracks' blocks are those that the journal took of the input
  abbrev AreTaken : ℕ → List (List Block) → Type 0
  AreTaken t tracks = (u : ℕ) (bs : List Block) → slice_get tracks u ≡ Some bs → bs ≡ taken_from s input (t + u) 0 journal

  later : (t : ℕ) (bs : List Block) (tracks : List (List Block)) → AreTaken t (bs ∷ tracks) → AreTaken (suc t) tracks
  later t bs tracks are u ks here = are (suc u) ks here ∙ ap (λ n. taken_from s input n 0 journal) {x = t + suc u} {y = suc t + u} (omega arith)

  -- a track that covers a sample has that of the input
  sample_back : (t i k : ℕ) (bs : List Block) → bs ≡ taken_from s input t 0 journal → covers s journal t (i / s.block) k ≡ true →
      slice_index_or (block_in t (i / s.block) journal bs) (i % s.block * channels_at s t + (k - first_channel s t)) (pos 0) ≡ input i k
  sample_back t i k bs is covered =
      let c = i / s.block in let first = first_channel s t in let n = channels_at s t in
      let parts = and_parts (took t c journal) (nat_le first k && nat_lt k (first + n)) covered in let ends = and_parts (nat_le first k) (nat_lt k (first + n)) parts.1 in
      let low = leb-true first k ends.0 in let high = ltb-true k (first + n) ends.1 in
      ap (λ l. slice_index_or (block_in t c journal l) (i % s.block * n + (k - first)) (pos 0)) is
      ∙ ap (λ l. slice_index_or l (i % s.block * n + (k - first)) (pos 0)) (block_is s input t c 0 journal parts.0 ∙ ap (input_block s input t) {x = 0 + c} {y = c} (omega arith))
      ∙ sample_is s input t c (i % s.block) (k - first) (mod_below i s.block some_frame) (omega (arith, low, high))
      ∙ ap (λ j. input j (first + (k - first))) (div-add-mod' i s.block) ∙ ap (input i) {x = first + (k - first)} {y = k} (omega (arith, low))

  -- so a sample that some track covers is read back
  covered_back : (t : ℕ) (tracks : List (List Block)) → AreTaken t tracks → (u i k : ℕ) → u < length tracks → covers s journal (t + u) (i / s.block) k ≡ true → read_back s journal t tracks i k ≡ input i k
  covered_back t [] are u i k lt covered = absurd (omega (arith, lt))
  covered_back t (bs ∷ tracks) are u i k lt covered = by (covers s journal t (i / s.block) k) refl (covered_back (suc t) tracks (later t bs tracks are))
    where
      -- it isn't the first
      further : (u : ℕ) → u < length (bs ∷ tracks) → covers s journal (t + u) (i / s.block) k ≡ true → covers s journal t (i / s.block) k ≡ false →
          ((u i k : ℕ) → u < length tracks → covers s journal (suc t + u) (i / s.block) k ≡ true → read_back s journal (suc t) tracks i k ≡ input i k) → read_back s journal (suc t) tracks i k ≡ input i k
      further zero near so not rest = absurd (true≢false (sym so ∙ ap (λ n. covers s journal n (i / s.block) k) {x = t + 0} {y = t} (omega arith) ∙ not))
      further (suc u) near so not rest = rest u i k (omega (arith, near)) (ap (λ n. covers s journal n (i / s.block) k) {x = suc t + u} {y = t + suc u} (omega arith) ∙ so)

      by : (b : Bool) → covers s journal t (i / s.block) k ≡ b → ((u i k : ℕ) → u < length tracks → covers s journal (suc t + u) (i / s.block) k ≡ true → read_back s journal (suc t) tracks i k ≡ input i k) →
          (if b then slice_index_or (block_in t (i / s.block) journal bs) (i % s.block * channels_at s t + (k - first_channel s t)) (pos 0) else read_back s journal (suc t) tracks i k) ≡ input i k
      by true is rest = sample_back t i k bs (are 0 bs refl ∙ ap (λ n. taken_from s input n 0 journal) {x = t + 0} {y = t} (omega arith)) is
      by false is rest = further u lt covered is rest

  module _ (tracks : List (List Block)) (are : AreTaken 0 tracks) where
    -- the sound that is read back
    abbrev back : Input
    back = read_back s journal 0 tracks

    -- each block that was taken is of it
    block_back : (t c : ℕ) → t < length tracks → took t c journal ≡ true → input_block s back t c ≡ input_block s input t c
    block_back t c lt taken = same_frames (λ i k. back i (first_channel s t + k)) (λ i k. input i (first_channel s t + k)) (channels_at s t) (c * s.block) s.block
        (λ i k near within. let in_cycle : (c * s.block + i) / s.block ≡ c = div-mul-add c s.block i near in
        covered_back 0 tracks are t (c * s.block + i) (first_channel s t + k) lt (ap (λ n. covers s journal n ((c * s.block + i) / s.block) (first_channel s t + k)) {x = 0 + t} {y = t} (omega arith)
        ∙ ap (λ n. covers s journal t n (first_channel s t + k)) in_cycle
        ∙ and_from (took t c journal) (nat_le (first_channel s t) (first_channel s t + k) && nat_lt (first_channel s t + k) (first_channel s t + channels_at s t)) taken
        (and_from (nat_le (first_channel s t) (first_channel s t + k)) (nat_lt (first_channel s t + k) (first_channel s t + channels_at s t))
        (le-leb (first_channel s t) (first_channel s t + k) (omega arith)) (lt-ltb (first_channel s t + k) (first_channel s t + channels_at s t) (omega (arith, within))))))

    -- what entries from cycle `from` on took
    abbrev Agree : ℕ → ℕ → List Entry → Type 0
    Agree t from es = (c : ℕ) → took t c es ≡ true → input_block s back t (from + c) ≡ input_block s input t (from + c)

    agree_on : (t from : ℕ) (e : Entry) (es : List Entry) → Agree t from (e ∷ es) → Agree t (suc from) es
    agree_on t from e es agree c taken = subst (λ n. input_block s back t n ≡ input_block s input t n) {x = from + suc c} {y = suc from + c} (omega arith) (agree (suc c) taken)

    agree_here : (t from : ℕ) (e : Entry) (es : List Entry) → Agree t from (e ∷ es) → is_taken (note_of t e).take ≡ true → input_block s back t from ≡ input_block s input t from
    agree_here t from e es agree taken = subst (λ n. input_block s back t n ≡ input_block s input t n) {x = from + 0} {y = from} (omega arith) (agree 0 taken)

    taken_same : (t from : ℕ) (es : List Entry) → Agree t from es → taken_from s back t from es ≡ taken_from s input t from es
    taken_same t from [] agree = refl
    taken_same t from (e ∷ es) agree = ap (λ l. l ++ taken_from s back t (suc from) es) (by (note_of t e).take (agree_here t from e es agree))
        ∙ ap (λ l. taken_in s input t from (note_of t e).take ++ l) (taken_same t (suc from) es (agree_on t from e es agree))
      where
        by : (take : Take) → (is_taken take ≡ true → input_block s back t from ≡ input_block s input t from) → taken_in s back t from take ≡ taken_in s input t from take
        by Off same = refl
        by (Taken n i) same = ap (λ l. record { take = n; index = i; samples = l } ∷ []) (same refl)
        by (Lost n i head) same = refl

    take_same : (t n from : ℕ) (es : List Entry) → Agree t from es → take_from s back t n from es ≡ take_from s input t n from es
    take_same t n from [] agree = refl
    take_same t n from (e ∷ es) agree = ap (λ l. l ++ take_from s back t n (suc from) es) (by (note_of t e).take (agree_here t from e es agree))
        ∙ ap (λ l. take_block s input t n from (note_of t e).take ++ l) (take_same t n (suc from) es (agree_on t from e es agree))
      where
        by : (take : Take) → (is_taken take ≡ true → input_block s back t from ≡ input_block s input t from) → take_block s back t n from take ≡ take_block s input t n from take
        by Off same = refl
        by (Taken m i) same = ap (λ l. if m == n then l else []) (same refl)
        by (Lost m i head) same = refl

    agree_all : (t : ℕ) → t < length tracks → Agree t 0 journal
    agree_all t lt c taken = subst (λ n. input_block s back t n ≡ input_block s input t n) {x = c} {y = 0 + c} (omega arith) (block_back t c lt taken)

    -- **The blocks are of the sound that is read back**,
    pub taken_back : (t : ℕ) → t < length tracks → taken_from s back t 0 journal ≡ taken_from s input t 0 journal
    taken_back t lt = taken_same t 0 journal (agree_all t lt)

    -- and so is each take
    pub take_back : (t n : ℕ) → t < length tracks → take_from s back t n 0 journal ≡ take_from s input t n 0 journal
    take_back t n lt = take_same t n 0 journal (agree_all t lt)
