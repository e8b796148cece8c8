-- The pieces that blocks of tracks stand for: what is noted of them is what was heard.
use Rattle.std.proofs.Common.{◌≡◌, ℕ, zero, suc, ◌+◌, ◌<◌, ℤ, pos, List, [], ◌∷◌, length, map, replicate, refl, sym, ap, ◌∙◌, arith}
use Rattle.std.specs.Prelude.{true, false, ◌&&◌, ◌||◌, ◌==◌, if◌then◌else◌, Some, None, slice_index_or}
use Rattle.std.proofs.lemmas.Bool.{eq-eqb, true≢false}
use Rattle.engine_model.specs.Cycle.{first_state, has_piece, notes_of, play_of, rolling_state, waiting}
use Rattle.engine_model.specs.Fits.{fits_play}
use Rattle.engine_model.specs.Items.{Item, Kind, Piece, among}
use Rattle.engine_model.specs.Journal.{Heard, Note, Play, Rolling, Short, Silent, note_at}
use Rattle.engine_model.specs.Mixed.{newest_samples}
use Rattle.engine_model.specs.Played.{Samples, heard}

-- ---- the pieces that the blocks stand for

-- a block that was heard is a piece, and of a silent track there is none
abbrev pub items_of : ℕ → ℕ → ℕ → List ℤ → Play → List Item
items_of t g n block (Heard p) = record { kind = Piece t g n p; samples = block } ∷ []
items_of t g n block Silent = []
items_of t g n block (Short tail) = []

-- those of all tracks, of which the first note is that of track t
abbrev pub tracks_of : ℕ → ℕ → List (List ℤ) → ℕ → List Note → List (List Item)
tracks_of g n inputs t [] = []
tracks_of g n inputs t (note ∷ notes) = items_of t g n (slice_index_or inputs t []) note.play ∷ tracks_of g n inputs (suc t) notes

pub tracks_long : (g n : ℕ) (inputs : List (List ℤ)) (t : ℕ) (notes : List Note) → length (tracks_of g n inputs t notes) ≡ length notes
tracks_long g n inputs t [] = refl
tracks_long g n inputs t (note ∷ notes) = ap (λ m. suc m) (tracks_long g n inputs (suc t) notes)

pub items_at : (g n : ℕ) (inputs : List (List ℤ)) (t i : ℕ) (notes : List Note) →
    slice_index_or (tracks_of g n inputs t notes) i [] ≡ items_of (t + i) g n (slice_index_or inputs (t + i) []) (note_at i notes).play
items_at g n inputs t i [] = refl
items_at g n inputs t zero (note ∷ notes) = ap (λ u. items_of u g n (slice_index_or inputs u []) note.play) {x = t} {y = t + 0} (omega arith)
items_at g n inputs t (suc i) (note ∷ notes) = items_at g n inputs (suc t) i notes
    ∙ ap (λ u. items_of u g n (slice_index_or inputs u []) (note_at i notes).play) {x = suc t + i} {y = t + suc i} (omega arith)

pub newest_is : (t g n p : ℕ) (block : List ℤ) → newest_samples g n (items_of t g n block (Heard p)) ≡ block
newest_is t g n p block = ap (λ b. if b && n == n then block else []) (eq-eqb g g refl) ∙ ap (λ b. if b then block else []) (eq-eqb n n refl)

has_it : (t g n p : ℕ) → has_piece g n (Piece t g n p ∷ []) ≡ true
has_it t g n p = ap (λ b. among n (if b then n ∷ [] else [])) (eq-eqb g g refl) ∙ ap (λ b. b || false) (eq-eqb n n refl)

piece_played : (t g n p : ℕ) → play_of (Rolling g n) (Piece t g n p ∷ []) ≡ Heard p
piece_played t g n p = ap (λ b. if b then Heard (if g == g && n == n then p else 0) else Short 1) (has_it t g n p)
    ∙ ap (λ b. Heard (if b && n == n then p else 0)) (eq-eqb g g refl) ∙ ap (λ b. Heard (if b then p else 0)) (eq-eqb n n refl)

pub silence_at : (n k : ℕ) → slice_index_or (replicate n (pos 0)) k (pos 0) ≡ pos 0
silence_at zero k = refl
silence_at (suc n) zero = refl
silence_at (suc n) (suc k) = silence_at n k

abbrev pub kinds_of : List Item → List Kind
kinds_of items = map (λ i. i.kind) items

-- what is heard of the pieces is what the notes say
module _ (samples : Samples) (g n u c x : ℕ) (inputs : List (List ℤ)) where
  pub as_noted : (t i : ℕ) (notes : List Note) →
      heard samples u c x (note_at i (notes_of (Rolling g n) (map kinds_of (tracks_of g n inputs t notes)) (map (λ (note : Note). note.take) notes))).play ≡ heard samples u c x (note_at i notes).play
  as_noted t i [] = refl
  as_noted t zero (note ∷ notes) = by_play note.play
    where
      by_play : (play : Play) → heard samples u c x (play_of (Rolling g n) (kinds_of (items_of t g n (slice_index_or inputs t []) play))) ≡ heard samples u c x play
      by_play (Heard p) = ap (heard samples u c x) (piece_played t g n p)
      by_play Silent = refl
      by_play (Short tail) = refl
  as_noted t (suc i) (note ∷ notes) = as_noted (suc t) i notes

-- in the first block of a generation each track has its piece
none_waits : (g : ℕ) (inputs : List (List ℤ)) (t u : ℕ) (notes : List Note) → ((i : ℕ) → i < length notes → fits_play true 0 (note_at i notes).play ≡ true) →
    waiting g u (map kinds_of (tracks_of g 0 inputs t notes)) ≡ None
none_waits g inputs t u [] all = refl
none_waits g inputs t u (note ∷ notes) all = by_play note.play (all 0 (omega arith)) (none_waits g inputs (suc t) (suc u) notes (λ i lt. all (suc i) (omega (arith, lt))))
  where
    by_play : (play : Play) → fits_play true 0 play ≡ true → waiting g (suc u) (map kinds_of (tracks_of g 0 inputs (suc t) notes)) ≡ None →
        waiting g u (kinds_of (items_of t g 0 (slice_index_or inputs t []) play) ∷ map kinds_of (tracks_of g 0 inputs (suc t) notes)) ≡ None
    by_play (Heard p) fits rest = ap (λ b. if b then waiting g (suc u) (map kinds_of (tracks_of g 0 inputs (suc t) notes)) else Some (u, 1)) (has_it t g 0 p) ∙ rest
    by_play Silent fits rest = absurd (true≢false (sym fits))
    by_play (Short tail) fits rest = absurd (true≢false (sym fits))

pub rolls_by : (g n : ℕ) (inputs : List (List ℤ)) (notes : List Note) → ((i : ℕ) → i < length notes → fits_play true n (note_at i notes).play ≡ true) →
    rolling_state g n (map kinds_of (tracks_of g n inputs 0 notes)) ≡ Rolling g n
rolls_by g zero inputs notes all = ap (first_state g) (none_waits g inputs 0 0 notes all)
rolls_by g (suc n) inputs notes all = refl
