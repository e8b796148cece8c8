-- The order of what is sent of a track, sentence by sentence. Lists stand with their oldest item first; a blank box says nothing.
use Rattle.std.specs.Prelude.{◌≡◌, ◌≢◌, ◌↔◌, ℕ, ◌≤◌, ◌<◌, true, false, List, ◌∷◌, ◌++◌, length, Option, Some, None, All}
use Rattle.session_model.specs.declared.session.Session.{Session}
use Rattle.session_model.specs.declared.edit.Edit.{Edit}
use Rattle.engine_model.specs.Edits.{playlist_edition, generation}
use Rattle.engine_model.specs.Items.{Kind, Piece, Settled, Blank}
use Rattle.engine_model.specs.Mixed.{is_block}
use Rattle.engine_model.specs.Order.{is_ordered}

-- ---- what an item says

-- the generation of an item, the playlist edition of a piece, and the edition of a mark
abbrev pub generation_of : Kind → Option ℕ
generation_of (Piece t g s p) = Some g
generation_of (Settled k g s) = Some g
generation_of Blank = None

abbrev pub touched_of : Kind → Option ℕ
touched_of (Piece t g s p) = Some p
touched_of (Settled k g s) = None
touched_of Blank = None

abbrev pub edition_of : Kind → Option ℕ
edition_of (Piece t g s p) = None
edition_of (Settled k g s) = Some k
edition_of Blank = None

-- ---- each item, with those before it

abbrev pub EachItem : (List Kind → Kind → Type 0) → List Kind → Type 0
EachItem P sent = (before after : List Kind) (x : Kind) → sent ≡ before ++ x ∷ after → P before x

-- each piece: its track, generation, block and playlist edition
abbrev pub EachPiece : (List Kind → ℕ → ℕ → ℕ → ℕ → Type 0) → List Kind → Type 0
EachPiece P sent = (before after : List Kind) (u g s p : ℕ) → sent ≡ before ++ Piece u g s p ∷ after → P before u g s p

-- each mark: its edition, generation and first block
abbrev pub EachMark : (List Kind → ℕ → ℕ → ℕ → Type 0) → List Kind → Type 0
EachMark P sent = (before after : List Kind) (k g s : ℕ) → sent ≡ before ++ Settled k g s ∷ after → P before k g s

-- a number that items say is never below that of an item before
abbrev pub NeverFalls : (Kind → Option ℕ) → List Kind → Type 0
NeverFalls number sent = EachItem (λ before y. All (λ x. (m n : ℕ) → number x ≡ Some m → number y ≡ Some n → m ≤ n) before) sent

-- ---- pieces of a block

-- the list has no piece of block s of generation g
abbrev pub HasNone : ℕ → ℕ → List Kind → Type 0
HasNone g s items = All (λ x. is_block g s x ≡ false) items

-- the last piece of block s of generation g in the list is of playlist edition p
pub record HasLast (g s p : ℕ) (items : List Kind) : Type 0 where
  pub track : ℕ
  pub before : List Kind
  pub after : List Kind
  pub at : items ≡ before ++ Piece track g s p ∷ after
  pub none_after : HasNone g s after

-- ---- the order

-- What was sent of track t is ordered.
pub record IsOrderedAsWorded (session : Session) (edits : List Edit) (t : ℕ) (sent : List Kind) : Type 0 where
  -- generations of items, playlist editions of pieces and editions of marks never fall,
  pub generations : NeverFalls generation_of sent
  pub touched : NeverFalls touched_of sent
  pub marks : NeverFalls edition_of sent
  -- and a piece names the track, a playlist edition and a generation that there are;
  pub pieces : EachPiece (λ before u g s p. (u ≡ t) × (p ≡ playlist_edition session edits t p) × (g ≤ generation edits (length edits))) sent
  -- a mark has an edition that there is, and its generation, and no two marks have one edition;
  pub settled : EachMark (λ before k g s. (k ≤ length edits) × (g ≡ generation edits k) × All (λ x. edition_of x ≢ Some k) before) sent
  -- a piece that stands after a mark is as the mark's edition has the playlist, or newer;
  pub after_marks : EachPiece (λ before u g s p. All (λ x. (k : ℕ) → edition_of x ≡ Some k → playlist_edition session edits t k ≤ p) before) sent
  -- so is, of each block from a mark's own on, the last piece before the mark;
  pub under_marks : EachMark (λ before k g s. (r p : ℕ) → s ≤ r → HasLast g r p before → playlist_edition session edits t k ≤ p) sent
  -- in each generation the first pieces of the blocks stand in the blocks' order;
  pub rising : EachPiece (λ before u g s p. HasNone g s before → All (λ x. (r : ℕ) → is_block g r x ≡ true → r < s) before) sent
  -- and in each generation, at each time, the last pieces of the blocks don't fall along the blocks.
  pub along : (front rest : List Kind) → sent ≡ front ++ rest → (g r s p q : ℕ) → r ≤ s → HasLast g r p front → HasLast g s q front → p ≤ q

abbrev pub OrderedAsWorded : Type 0
OrderedAsWorded = (session : Session) (edits : List Edit) (t : ℕ) (sent : List Kind) → (is_ordered session edits t sent ≡ true) ↔ IsOrderedAsWorded session edits t sent
