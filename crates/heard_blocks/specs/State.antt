-- What contracts see of the blocks that are heard along a journal.
use Rattle.std.specs.Prelude.{◌≡◌, ℕ, ◌*◌, ◌<◌, List, [], ◌∷◌, length, slice_index_or}
use Rattle.ses_io.specs.Memory.{SinkState}
use Rattle.session_model.specs.declared.session.Session.{Session}
use Rattle.session_model.specs.declared.edit.Edit.{Edit}
use Rattle.engine_model.specs.Journal.{Play, Heard, Silent, Short, State, Stopped, Seeking, Rolling, Entry, note_of}
use Rattle.master_blocks.specs.State.{MasterState, IsMasterOf}
use Rattle.heard_blocks.specs.Lists.{ListsState, HasLists}

-- an entry behind the entries so far
pub record NextEntry : Type 0 where
  pub session : Session
  pub before : List Entry
  pub entry : Entry

-- it rolls, by this block of its generation
abbrev pub RollsAt : State → ℕ → Type 0
RollsAt (Rolling g n) seq = n ≡ seq
RollsAt (Seeking t tail) seq = ⊥
RollsAt Stopped seq = ⊥

-- ---- what was heard last

-- the playlist edition of a play, or the one before where none was heard
abbrev pub heard_or : Play → ℕ → ℕ
heard_or (Heard p) before = p
heard_or Silent before = before
heard_or (Short tail) before = before

-- the playlist edition that was heard last of a track, 0 where none was; entries stand newest first
abbrev pub last_heard : ℕ → List Entry → ℕ
last_heard t [] = 0
last_heard t (e ∷ before) = heard_or (note_of t e).play (last_heard t before)

-- ---- the state

pub record HeardState : Type 0 where
  pub lists : ListsState
  -- room for frames, and for samples
  pub frames : ℕ
  pub room : ℕ
  -- what mixes the blocks
  pub master : MasterState SinkState

-- Blocks of a session can be played, with lists of these edits.
pub record IsReady (s : Session) (edits : List Edit) (h : HeardState) : Type 0 where
  pub lists : HasLists s edits h.lists
  pub master : IsMasterOf s h.master
  pub frames : h.frames ≡ s.block
  pub room : h.room ≡ 2 * s.block

-- Each track has the playlist that was heard of it last.
pub record HasHeard (s : Session) (edits : List Edit) (before : List Entry) (h : HeardState) : Type 0 where
  pub ready : IsReady s edits h
  pub last : (t : ℕ) → t < length s.tracks.items → slice_index_or h.lists.at t 0 ≡ last_heard t before
