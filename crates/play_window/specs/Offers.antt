-- What was offered to a window of one track and taken in, and what that says of blocks and marks. Lists of offers stand
-- newest first.
use Rattle.std.specs.Prelude.{◌≡◌, ℕ, ◌+◌, ◌<◌, ◌≤◌, Bool, false, ◌&&◌, ◌==◌, nat_le, nat_lt, if◌then◌else◌, List, [], ◌∷◌, map, Option, Some, None, ⊤}
use Rattle.engine_model.specs.Items.{Kind, Item, Piece, Settled, Blank}

-- one offer
pub record Offered : Type 0 where
  -- the generation that was asked for
  pub generation : ℕ
  -- the next block of it that is played
  pub next : ℕ
  pub item : Item

-- the kinds of what was offered
abbrev pub kinds : List Offered → List Kind
kinds offers = map (λ o. o.item.kind) offers

-- an item is of a generation above g
abbrev pub is_later : ℕ → Kind → Bool
is_later g (Piece t h s p) = nat_lt g h
is_later g (Settled k h s) = nat_lt g h
is_later g Blank = false

-- a piece of generation g lies less than `depth` blocks ahead, and a mark of it speaks from the next block or an earlier one on
abbrev pub IsNear : ℕ → ℕ → ℕ → Kind → Type 0
IsNear depth g next (Piece t h s p) = h ≡ g → s < next + depth
IsNear depth g next (Settled k h s) = h ≡ g → s ≤ next
IsNear depth g next Blank = ⊤

-- what the last offer asked for, 0 before the first
abbrev pub last_generation : List Offered → ℕ
last_generation [] = 0
last_generation (o ∷ offers) = o.generation

abbrev pub last_next : List Offered → ℕ
last_next [] = 0
last_next (o ∷ offers) = o.next

-- an offer may follow those before it
pub record MayFollow (depth : ℕ) (offers : List Offered) (o : Offered) : Type 0 where
  -- generations never fall
  pub generation : last_generation offers ≤ o.generation
  -- and within one the next block never falls
  pub next : last_generation offers ≡ o.generation → last_next offers ≤ o.next
  -- the item isn't of a later generation
  pub now : is_later o.generation o.item.kind ≡ false
  -- nor further ahead than the window reaches
  pub near : IsNear depth o.generation o.next o.item.kind

abbrev pub AreInOrder : ℕ → List Offered → Type 0
AreInOrder depth [] = ⊤
AreInOrder depth (o ∷ offers) = MayFollow depth offers o × AreInOrder depth offers

-- it is a piece of block s of generation g
abbrev pub is_piece_of : ℕ → ℕ → Kind → Bool
is_piece_of g s (Piece t h r p) = h == g && r == s
is_piece_of g s (Settled k h r) = false
is_piece_of g s Blank = false

-- the offer gave a piece of block s of generation g, while that was the generation and the block wasn't passed
abbrev pub gives : ℕ → ℕ → Offered → Bool
gives g s o = o.generation == g && nat_le o.next s && is_piece_of g s o.item.kind

-- the piece of block s of generation g that was given last
abbrev pub last_given : ℕ → ℕ → List Offered → Option Item
last_given g s [] = None
last_given g s (o ∷ offers) = if gives g s o then Some o.item else last_given g s offers

-- block s lies before the next block of the last offer of generation g
abbrev pub is_passed : ℕ → ℕ → List Offered → Bool
is_passed g s [] = false
is_passed g s (o ∷ offers) = if o.generation == g then nat_lt s o.next else is_passed g s offers

-- the piece of block s of generation g that is played: the one given last, where the block isn't passed
abbrev pub piece_of : ℕ → ℕ → List Offered → Option Item
piece_of g s offers = if is_passed g s offers then None else last_given g s offers
