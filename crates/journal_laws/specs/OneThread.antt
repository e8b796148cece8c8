-- When an edit is heard in a run on one thread. Commands and journals stand with their first one first, edits and entries of a run
-- as the run has them.
use Rattle.std.specs.Prelude.{◌≡◌, ℕ, suc, ◌≤◌, ◌<◌, true, false, if◌then◌else◌, List, [], ◌∷◌, ◌++◌, length, reverse, All}
use Rattle.session_model.specs.declared.session.Session.{Session}
use Rattle.session_model.specs.declared.edit.Edit.{Edit}
use Rattle.engine_model.specs.Edits.{playlist_edition, has_quit, is_quit}
use Rattle.engine_model.specs.Journal.{Heard, Entry, is_rolling, note_of}
use Rattle.engine_model.specs.Plain.{Command, Do, Wait, Sync, Run, with_cycles, with_edit, needs_cycle, accepts, accepted, plain}

-- An entry is settled in its own edition, and where it rolls it hears of each track the playlist of that edition.
pub record HearsItsEdition (session : Session) (edits : List Edit) (e : Entry) : Type 0 where
  pub settled : e.settled ≡ e.edition
  pub heard : is_rolling e.state ≡ true → (t : ℕ) → t < length session.tracks.items → (note_of t e).play ≡ Heard (playlist_edition session edits t e.edition)

abbrev pub EachEntryHearsItsEdition : Type 0
EachEntryHearsItsEdition = (session : Session) (cycles : ℕ) (commands : List Command) → All (HearsItsEdition session (accepted session cycles commands)) (plain session cycles commands)

-- ---- the next cycle

-- the run after the first commands, when the rest of the cycles hasn't been played
abbrev pub run_from : Session → ℕ → Run → List Command → Run
run_from session cycles run [] = run
run_from session cycles run (Do edit ∷ cs) = if accepts session run edit
    then (if is_quit edit then with_edit run edit else run_from session cycles (with_edit run edit) cs)
    else run_from session cycles run cs
run_from session cycles run (Wait n ∷ cs) = run_from session cycles (with_cycles session cycles n run) cs
run_from session cycles run (Sync ∷ cs) = run_from session cycles (if needs_cycle (length run.edits) run.entries then with_cycles session cycles 1 run else run) cs

abbrev pub run_so_far : Session → ℕ → List Command → Run
run_so_far session cycles commands = run_from session cycles (record { edits = []; entries = [] }) commands

-- The journal goes on from the entries made so far with entries of edition k or later.
pub record GoesOnIn (k : ℕ) (so_far : List Entry) (journal : List Entry) : Type 0 where
  pub later : List Entry
  pub on : journal ≡ reverse so_far ++ later
  pub edition : All (λ e. k ≤ e.edition) later

-- Every entry made after an accepted edit, from the very next one on, is in the edition that it made, or a later one.
abbrev pub AnEditIsInTheNextCycle : Type 0
AnEditIsInTheNextCycle = (session : Session) (cycles : ℕ) (first rest : List Command) (edit : Edit) → let run = run_so_far session cycles first in
    has_quit run.edits (length run.edits) ≡ false → accepts session run edit ≡ true →
    GoesOnIn (suc (length run.edits)) run.entries (plain session cycles (first ++ Do edit ∷ rest))

-- The journal goes on from the entries made so far with an entry of edition k.
pub record HasNextIn (k : ℕ) (so_far : List Entry) (journal : List Entry) : Type 0 where
  pub next : Entry
  pub later : List Entry
  pub on : journal ≡ reverse so_far ++ next ∷ later
  pub edition : next.edition ≡ k

-- And the next entry is in the edition of all edits accepted so far, whether it is asked for by a wait or by the end of the commands.
abbrev pub TheNextCycleHasAllEdits : Type 0
TheNextCycleHasAllEdits = (session : Session) (cycles n : ℕ) (first rest : List Command) → let run = run_so_far session cycles first in
    has_quit run.edits (length run.edits) ≡ false → length run.entries < cycles →
    HasNextIn (length run.edits) run.entries (plain session cycles (first ++ Wait (suc n) ∷ rest)) × HasNextIn (length run.edits) run.entries (plain session cycles first)
