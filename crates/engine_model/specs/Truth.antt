-- When what a journal says of shorts, seeks and lost blocks is true of the rings (own). Lists stand oldest first here.
use Rattle.std.specs.Prelude.{◌≡◌, ℕ, zero, suc, ◌+◌, ◌-◌, Bool, true, false, ◌&&◌, not, ◌==◌, nat_le, nat_lt, if◌then◌else◌, List, [], ◌∷◌, ◌++◌, length, take, map}
use Rattle.std.specs.List.{list_all}
use Rattle.session_model.specs.declared.edit.Edit.{Edit}
use Rattle.engine_model.specs.Edits.{generation}
use Rattle.engine_model.specs.Items.{Kind, Blank, among, blocks}
use Rattle.engine_model.specs.Journal.{Play, Short, Take, Taken, Lost, State, Stopped, Seeking, Rolling, Entry, note_of}
use Rattle.engine_model.specs.Cycle.{is_held}

-- the first list is the second one with some left out
abbrev pub is_within : List ℕ → List ℕ → Bool
is_within [] ys = true
is_within (x ∷ xs) [] = false
is_within (x ∷ xs) (y ∷ ys) = if x == y then is_within xs ys else is_within (x ∷ xs) ys

-- ---- pieces that weren't there

-- a piece that wasn't there: its generation and block, and how many items had been received
pub record Miss : Type 0 where
  pub generation : ℕ
  pub block : ℕ
  pub tail : ℕ

abbrev pub miss_of_play : ℕ → ℕ → Play → List Miss
miss_of_play g s (Short tail) = record { generation = g; block = s; tail = tail } ∷ []
miss_of_play g s _ = []

abbrev pub miss_in : List Edit → ℕ → Entry → State → List Miss
miss_in edits t e Stopped = []
miss_in edits t e (Seeking u tail) = if u == t then record { generation = generation edits e.edition; block = 0; tail = tail } ∷ [] else []
miss_in edits t e (Rolling g s) = miss_of_play g s (note_of t e).play

-- the misses of track t that a journal names
abbrev pub misses : List Edit → ℕ → List Entry → List Miss
misses edits t [] = []
misses edits t (e ∷ es) = miss_in edits t e e.state ++ misses edits t es

-- the item at a place, counted from 0, and a blank past the end
abbrev pub item_at : ℕ → List Kind → Kind
item_at n [] = Blank
item_at zero (x ∷ xs) = x
item_at (suc n) (x ∷ xs) = item_at n xs

-- the last item received was held
abbrev pub was_held : ℕ → List Kind → Miss → Bool
was_held depth sent m = nat_lt 0 m.tail && nat_le m.tail (length sent) && is_held depth m.generation m.block (item_at (m.tail - 1) sent)

-- the tails of the misses that need a look of their own
abbrev pub looked : ℕ → List Kind → List Miss → List ℕ
looked depth sent [] = []
looked depth sent (m ∷ ms) = if was_held depth sent m then looked depth sent ms else m.tail ∷ looked depth sent ms

-- the piece isn't among the items that had been received
abbrev pub is_missing : List Kind → Miss → Bool
is_missing sent m = not (among m.block (blocks m.generation (take m.tail sent)))

-- ---- blocks that were lost

-- a lost block: how many blocks had been flushed, and how many had been taken
pub record Loss : Type 0 where
  pub head : ℕ
  pub taken : ℕ

abbrev pub loss_of : ℕ → Take → List Loss
loss_of taken (Lost n i head) = record { head = head; taken = taken } ∷ []
loss_of taken _ = []

abbrev pub taken_after : ℕ → Take → ℕ
taken_after taken (Taken n i) = suc taken
taken_after taken _ = taken

-- those of the entries of a journal before which so many blocks of track t were taken
abbrev pub losses_from : ℕ → ℕ → List Entry → List Loss
losses_from t taken [] = []
losses_from t taken (e ∷ es) = loss_of taken (note_of t e).take ++ losses_from t (taken_after taken (note_of t e).take) es

-- the losses of track t that a journal names
abbrev pub losses : ℕ → List Entry → List Loss
losses t journal = losses_from t 0 journal

-- ---- what is true

-- The journal is truthful of track t: each piece that wasn't there isn't among the items received by then, and was looked
-- for or stood behind a held item; each lost block met a full ring. `tails` are the looks that found nothing, `heads` those
-- that found the capture ring full, in their order.
pub record IsTruthful (edits : List Edit) (depth t : ℕ) (sent : List Kind) (tails heads : List ℕ) (journal : List Entry) : Type 0 where
  pub missing : list_all (is_missing sent) (misses edits t journal) ≡ true
  pub looked_for : is_within (looked depth sent (misses edits t journal)) tails ≡ true
  pub full : list_all (λ l. l.taken == l.head + depth) (losses t journal) ≡ true
  pub found_full : is_within (map (λ l. l.head) (losses t journal)) heads ≡ true
