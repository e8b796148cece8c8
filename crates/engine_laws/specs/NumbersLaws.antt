-- What is said of the few numbers that stand for a list of what was sent. That list stands newest first.
use Rattle.std.specs.Prelude.{◌≡◌, ℕ, suc, ◌-◌, ◌<◌, ◌≤◌, max, true, not, nat_lt, nat_eq, if◌then◌else◌, List, ◌∷◌}
use Rattle.std.specs.List.{list_all}
use Rattle.session_model.specs.declared.session.Session.{Session}
use Rattle.session_model.specs.declared.edit.Edit.{Edit}
use Rattle.engine_model.specs.Edits.{playlist_edition, generation}
use Rattle.engine_model.specs.Items.{Kind, Piece, Settled, has_mark}
use Rattle.engine_model.specs.Order.{is_ordered_newest}
use Rattle.engine_model.specs.Due.{Needs, due_after}
use Rattle.engine_model.specs.Cycle.{is_in_force, force, is_held}
use Rattle.engine_laws.specs.Kept.{is_from}
use Rattle.engine_laws.specs.Tracked.{Tracked, due_now}
use Rattle.engine_laws.specs.Marks.{next_mark, all_in_force}

-- ---- what is due

-- they say what is due, whatever was sent
abbrev pub NumbersSayWhatIsDue : Type 0
NumbersSayWhatIsDue = (n : Needs) (base fresh far : ℕ) (sent : List Kind) → Tracked n.generation n.touched base fresh far sent → base ≤ n.next →
    due_after n sent ≡ due_now n (has_mark n.edition sent) fresh far

-- at first, and in a new generation, nothing was sent
abbrev pub NewGenerationHasNothing : Type 0
NewGenerationHasNothing = (session : Session) (edits : List Edit) (t j g p : ℕ) (sent : List Kind) → list_all (is_from session edits t j) sent ≡ true →
    generation edits j < g → Tracked g p 0 0 0 sent

-- a block that is sent again is fresh
abbrev pub RevisionIsFresh : Type 0
RevisionIsFresh = (t g p base fresh far next : ℕ) (sent : List Kind) → Tracked g p base fresh far sent → base ≤ next → next < fresh →
    Tracked g p base (fresh - 1) far (Piece t g (fresh - 1) p ∷ sent)

-- a new block is the farthest, and may leave out those before the next that is played
abbrev pub NewBlockIsFarthest : Type 0
NewBlockIsFarthest = (t g p base fresh far next : ℕ) (sent : List Kind) → Tracked g p base fresh far sent → fresh ≤ next →
    Tracked g p (if nat_lt far next then next else base) fresh (suc (max far next)) (Piece t g (max far next) p ∷ sent)

abbrev pub MarkChangesNothing : Type 0
MarkChangesNothing = (g p base fresh far k h s : ℕ) (sent : List Kind) → Tracked g p base fresh far sent → Tracked g p base fresh far (Settled k h s ∷ sent)

-- an edit of the playlist makes all blocks of the generation stale
abbrev pub TouchedIsStale : Type 0
TouchedIsStale = (session : Session) (edits : List Edit) (t j k base fresh far : ℕ) (sent : List Kind) → list_all (is_from session edits t j) sent ≡ true →
    playlist_edition session edits t j < playlist_edition session edits t k →
    Tracked (generation edits j) (playlist_edition session edits t j) base fresh far sent →
    Tracked (generation edits j) (playlist_edition session edits t k) base far far sent

-- ---- marks

-- the mark of the butler's edition was sent exactly where the newest mark is of that edition
abbrev pub NewestMarkIsOfItsEdition : Type 0
NewestMarkIsOfItsEdition = (session : Session) (edits : List Edit) (t k : ℕ) (sent : List Kind) → is_ordered_newest session edits t sent ≡ true →
    list_all (is_from session edits t k) sent ≡ true → has_mark k sent ≡ nat_eq (next_mark sent) (suc k)

-- a mark is held exactly where it isn't in force
abbrev pub MarksAreHeldOrInForce : Type 0
MarksAreHeldOrInForce = (depth g s k h s0 : ℕ) → is_held depth g s (Settled k h s0) ≡ not (is_in_force h s0 g s)

-- where all are in force, the newest is the greatest
abbrev pub NewestMarkIsInForce : Type 0
NewestMarkIsInForce = (session : Session) (edits : List Edit) (t g s : ℕ) (xs : List Kind) → is_ordered_newest session edits t xs ≡ true →
    all_in_force g s xs ≡ true → suc (force g s xs) ≡ max 1 (next_mark xs)
