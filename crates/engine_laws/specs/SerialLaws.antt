-- Why a run on one thread is plain: where nothing is due any more, each track has what the next cycle plays. What was sent and
-- received stands newest first.
use Rattle.std.specs.Prelude.{◌≡◌, ℕ, ◌+◌, ◌<◌, ◌≤◌, Bool, true, false, not, if◌then◌else◌, List, ◌∷◌, length, slice_get, Some, None}
use Rattle.std.specs.List.{list_all}
use Rattle.session_model.specs.declared.session.Session.{Session}
use Rattle.session_model.specs.declared.edit.Edit.{Edit}
use Rattle.engine_model.specs.Edits.{playlist_edition, generation}
use Rattle.engine_model.specs.Editions.{edition}
use Rattle.engine_model.specs.Items.{Kind, blocks, newest, has_mark}
use Rattle.engine_model.specs.Journal.{Entry, rolled}
use Rattle.engine_model.specs.Due.{Ack, next_block, past, due}
use Rattle.engine_model.specs.Cycle.{is_held, has_piece, force, entry_of}
use Rattle.engine_model.specs.Plain.{plain_entry}
use Rattle.engine_laws.specs.Kept.{Kept}
use Rattle.engine_laws.specs.Tracked.{Tracked}
use Rattle.engine_laws.specs.Entered.{GoneOn}
use Rattle.engine_laws.specs.JournalInvariant.{no_takes}

-- where block s of generation g is next, none of the items is held
abbrev pub none_is_held : ℕ → ℕ → ℕ → List Kind → Bool
none_is_held depth g s xs = list_all (λ x. not (is_held depth g s x)) xs

-- what is due isn't held where the next block by the acknowledgements is next
abbrev pub DueIsNotHeld : Type 0
DueIsNotHeld = (session : Session) (edits : List Edit) (cycles t k : ℕ) (acks : List Ack) (before : List Kind) (x : Kind) → 0 < session.depth →
    let g = generation edits k in none_is_held session.depth g (next_block acks g) before ≡ true →
    due session edits cycles t k acks before ≡ Some x → is_held session.depth g (next_block acks g) x ≡ false

-- what isn't held isn't held later
abbrev pub NoneIsHeldLater : Type 0
NoneIsHeldLater = (depth g s h r : ℕ) (xs : List Kind) → GoneOn g s h r → none_is_held depth g s xs ≡ true → none_is_held depth h r xs ≡ true

-- A track has what the next cycle plays in the newest edition: block s of its generation, by the newest playlist, and a mark of
-- that edition in force.
pub record IsReady (session : Session) (edits : List Edit) (t g s : ℕ) (xs : List Kind) : Type 0 where
  pub there : has_piece g s xs ≡ true
  pub fresh : newest g s xs ≡ playlist_edition session edits t (length edits)
  pub settled : force g s xs ≡ length edits

-- where nothing is due of a track, and a cycle is still to come, it is ready
abbrev pub NothingDueIsReady : Type 0
NothingDueIsReady = (session : Session) (edits : List Edit) (cycles t base fresh far : ℕ) (acks : List Ack) (sent : List Kind) →
    let g = generation edits (length edits) in Kept session edits t (length edits) sent →
    Tracked g (playlist_edition session edits t (length edits)) base fresh far sent → base ≤ next_block acks g →
    0 < session.depth → next_block acks g < cycles → none_is_held session.depth g (next_block acks g) sent ≡ true →
    due session edits cycles t (length edits) acks sent ≡ None → IsReady session edits t g (next_block acks g) sent

-- where each track is ready, the entry is the plain one
abbrev pub ReadyEntryIsPlain : Type 0
ReadyEntryIsPlain = (session : Session) (edits : List Edit) (before : List Entry) (tracks : List (List Kind)) → length tracks ≡ length session.tracks.items →
    (edition session edits (length edits)).transport.recording ≡ false →
    let g = generation edits (length edits) in
    ((t : ℕ) (xs : List Kind) → slice_get tracks t ≡ Some xs → IsReady session edits t g (rolled g before) xs) →
    entry_of session edits before tracks (no_takes session) (length edits) ≡ plain_entry session edits before

-- Few items were sent of a track in edition k, whose playlist no edit has touched: each block of generation g once, and one mark.
pub record AreFew (g k cycles : ℕ) (sent : List Kind) : Type 0 where
  pub each_once : length sent ≤ past 0 (blocks g sent) + (if has_mark k sent then 1 else 0)
  pub within : past 0 (blocks g sent) ≤ cycles

-- they stay few
abbrev pub FewAreSent : Type 0
FewAreSent = (session : Session) (edits : List Edit) (cycles t k : ℕ) (acks : List Ack) (before : List Kind) (x : Kind) → playlist_edition session edits t k ≡ 0 →
    AreFew (generation edits k) k cycles before → due session edits cycles t k acks before ≡ Some x → AreFew (generation edits k) k cycles (x ∷ before)
