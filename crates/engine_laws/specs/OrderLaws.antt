-- What is said of the order of what is sent. What was sent stands newest first unless it is said otherwise.
use Rattle.std.specs.Prelude.{◌≡◌, ℕ, ◌≤◌, true, List, [], ◌∷◌, ◌++◌, length, reverse, Some}
use Rattle.session_model.specs.declared.session.Session.{Session}
use Rattle.session_model.specs.declared.edit.Edit.{Edit}
use Rattle.engine_model.specs.Edits.{playlist_edition}
use Rattle.engine_model.specs.Items.{Kind, Settled, among, blocks, newest}
use Rattle.engine_model.specs.Order.{may_follow, is_ordered_newest, is_ordered}
use Rattle.engine_model.specs.Due.{Ack, due}
use Rattle.engine_laws.specs.Kept.{Kept}

-- ---- what keeps the order

-- sending what is due, whatever was acknowledged and however many cycles were asked
abbrev pub SendingKeeps : Type 0
SendingKeeps = (session : Session) (edits : List Edit) (cycles t k : ℕ) (acks : List Ack) (before : List Kind) (x : Kind) →
    Kept session edits t k before → due session edits cycles t k acks before ≡ Some x → Kept session edits t k (x ∷ before)

-- entering a later edition
abbrev pub EnteringKeeps : Type 0
EnteringKeeps = (session : Session) (edits : List Edit) (t j k : ℕ) (before : List Kind) → j ≤ k → k ≤ length edits →
    Kept session edits t j before → Kept session edits t k before

-- further edits
abbrev pub SeeingMoreKeeps : Type 0
SeeingMoreKeeps = (session : Session) (edits more : List Edit) (t k : ℕ) (before : List Kind) → Kept session edits t k before → Kept session (edits ++ more) t k before

-- what a ring received so far of what was sent, both with the oldest first
abbrev pub ReceivedIsOrdered : Type 0
ReceivedIsOrdered = (session : Session) (edits : List Edit) (t : ℕ) (received rest : List Kind) →
    is_ordered session edits t (received ++ rest) ≡ true → is_ordered session edits t received ≡ true

-- one more item at the end of a list with the oldest first
abbrev pub OneMoreIsOrdered : Type 0
OneMoreIsOrdered = (session : Session) (edits : List Edit) (t : ℕ) (sent : List Kind) (x : Kind) → is_ordered session edits t sent ≡ true →
    may_follow session edits t (reverse sent) x ≡ true → is_ordered session edits t (sent ++ x ∷ []) ≡ true

-- ---- what the order says

-- each item may follow those before it
abbrev pub EachFollows : Type 0
EachFollows = (session : Session) (edits : List Edit) (t : ℕ) (after : List Kind) (x : Kind) (before : List Kind) →
    is_ordered_newest session edits t (after ++ x ∷ before) ≡ true → may_follow session edits t before x ≡ true

-- a mark binds every block from its own on, in its generation and in each later one: whether the block was sent before the
-- mark or after it, its newest piece is as the mark's edition has the playlist, or newer
abbrev pub MarksBind : Type 0
MarksBind = (session : Session) (edits : List Edit) (t k h s0 g s : ℕ) (after before : List Kind) →
    is_ordered_newest session edits t (after ++ Settled k h s0 ∷ before) ≡ true → h ≤ g → (h ≡ g → s0 ≤ s) →
    among s (blocks g (after ++ Settled k h s0 ∷ before)) ≡ true → playlist_edition session edits t k ≤ newest g s (after ++ Settled k h s0 ∷ before)

-- in a generation the newest pieces are never older along the blocks
abbrev pub NewestNeverFallsAlong : Type 0
NewestNeverFallsAlong = (session : Session) (edits : List Edit) (t g r s : ℕ) (sent : List Kind) → is_ordered_newest session edits t sent ≡ true → r ≤ s →
    among r (blocks g sent) ≡ true → among s (blocks g sent) ≡ true → newest g r sent ≤ newest g s sent
