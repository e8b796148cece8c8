-- What the butler sends next of a track (own): a stale block again, the farthest first; then the mark of its edition; then
-- the next block. What was sent stands newest first.
use Rattle.std.specs.Prelude.{ℕ, suc, ◌+◌, max, Bool, true, false, ◌&&◌, ◌==◌, nat_le, nat_lt, if◌then◌else◌, List, [], ◌∷◌, Option, Some, None}
use Rattle.session_model.specs.declared.session.Session.{Session}
use Rattle.session_model.specs.declared.edit.Edit.{Edit}
use Rattle.engine_model.specs.Edits.{playlist_edition, generation}
use Rattle.engine_model.specs.Items.{Kind, Piece, Settled, blocks, newest, has_mark}

-- an acknowledgement of the process: the entry's number, its generation, the next block of it, and the settled number
pub record Ack : Type 0 where
  pub cycle : ℕ
  pub generation : ℕ
  pub next : ℕ
  pub settled : ℕ

-- the next block of generation g by the acknowledgements taken: the greatest that one of that generation names, else 0
abbrev pub next_block : List Ack → ℕ → ℕ
next_block [] g = 0
next_block (ack ∷ acks) g = if ack.generation == g then max ack.next (next_block acks g) else next_block acks g

-- a further number x, with a property or not, beside the greatest one so far that has it
abbrev pub greater : Bool → ℕ → Option ℕ → Option ℕ
greater false x found = found
greater true x None = Some x
greater true x (Some y) = Some (if nat_le x y then y else x)

-- the greatest number of a list with a property
abbrev pub greatest : (ℕ → Bool) → List ℕ → Option ℕ
greatest p [] = None
greatest p (x ∷ xs) = greater (p x) x (greatest p xs)

-- the least number from a start on that is above all of a list
abbrev pub past : ℕ → List ℕ → ℕ
past start [] = start
past start (x ∷ xs) = max (suc x) (past start xs)

-- a block that is still to be played has an older piece than playlist edition p as its newest
abbrev pub is_stale : ℕ → ℕ → ℕ → List Kind → ℕ → Bool
is_stale g p next before r = nat_le next r && nat_lt (newest g r before) p

-- what the butler knows beside what it sent
pub record Needs : Type 0 where
  pub track : ℕ
  -- the edition that it entered, its generation, and its playlist edition of the track
  pub edition : ℕ
  pub generation : ℕ
  pub touched : ℕ
  -- the next block that is played
  pub next : ℕ
  -- how many blocks ahead it sends, and how many cycles were asked
  pub depth : ℕ
  pub cycles : ℕ

-- the three rules in their order, given the farthest stale block, whether the mark was sent, and the block past all sent
abbrev pub due_by : Needs → Option ℕ → Bool → ℕ → Option Kind
due_by n (Some s) marked far = Some (Piece n.track n.generation s n.touched)
due_by n None false far = Some (Settled n.edition n.generation n.next)
due_by n None true far = if nat_lt far (n.next + n.depth) && nat_lt far n.cycles then Some (Piece n.track n.generation far n.touched) else None

abbrev pub due_after : Needs → List Kind → Option Kind
due_after n before = due_by n (greatest (is_stale n.generation n.touched n.next before) (blocks n.generation before))
    (has_mark n.edition before) (past n.next (blocks n.generation before))

abbrev pub needs : Session → List Edit → ℕ → ℕ → ℕ → List Ack → Needs
needs session edits cycles t k acks = record {
  track = t;
  edition = k;
  generation = generation edits k;
  touched = playlist_edition session edits t k;
  next = next_block acks (generation edits k);
  depth = session.depth;
  cycles = cycles;
}

-- what a butler sends next of track t that entered edition k, saw these edits and took these acknowledgements
abbrev pub due : Session → List Edit → ℕ → ℕ → ℕ → List Ack → List Kind → Option Kind
due session edits cycles t k acks before = due_after (needs session edits cycles t k acks) before
