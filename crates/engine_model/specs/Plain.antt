-- The plain journal: what a run on one thread makes of a list of commands where nothing fails (own). It knows no ring: each
-- cycle is settled in its edition, hears the newest playlists and takes every block that is recorded.
use Rattle.std.specs.Prelude.{ℕ, zero, suc, ◌-◌, Bool, true, ◌&&◌, nat_lt, min, if◌then◌else◌, List, [], ◌∷◌, ◌++◌, length, map, reverse, is_ok}
use Rattle.std.specs.List.{range_with_len}
use Rattle.session_model.specs.declared.session.Session.{Session}
use Rattle.session_model.specs.declared.edit.Edit.{Edit}
use Rattle.session_model.specs.declared.edit.Edit.TheVariants.{Locate, Roll}
use Rattle.engine_model.specs.Edits.{playlist_edition, generation, is_quit}
use Rattle.engine_model.specs.Editions.{Edition, edition, apply}
use Rattle.engine_model.specs.Journal.{Silent, Heard, Take, Off, Taken, Note, State, Stopped, Rolling, Entry, rolled}
use Rattle.engine_model.specs.Fits.{records, next_take}

pub data Command : Type 0 where
  Do : Edit → Command
  -- so many cycles
  Wait : ℕ → Command
  Sync : Command

-- ---- one cycle

abbrev pub plain_state : Bool → ℕ → ℕ → State
plain_state rolls g s = if rolls then Rolling g s else Stopped

abbrev pub plain_take : Bool → ℕ × ℕ → Take
plain_take recorded next = if recorded then Taken next.0 next.1 else Off

abbrev pub plain_note : Session → List Edit → Edition → List Entry → ℕ → Note
plain_note session edits now before t = record {
  play = if now.transport.rolling then Heard (playlist_edition session edits t (length edits)) else Silent;
  take = plain_take (now.transport.rolling && records now t) (next_take t before);
}

abbrev pub plain_entry_in : Session → List Edit → Edition → List Entry → Entry
plain_entry_in session edits now before = let g = generation edits (length edits) in record {
  edition = length edits;
  settled = length edits;
  state = plain_state now.transport.rolling g (rolled g before);
  notes = map (plain_note session edits now before) (range_with_len 0 (length session.tracks.items));
}

-- the entry of a cycle in the newest edition; entries before it stand newest first
abbrev pub plain_entry : Session → List Edit → List Entry → Entry
plain_entry session edits before = plain_entry_in session edits (edition session edits (length edits)) before

abbrev pub plain_cycles : Session → List Edit → ℕ → List Entry → List Entry
plain_cycles session edits zero before = before
plain_cycles session edits (suc n) before = plain_cycles session edits n (plain_entry session edits before ∷ before)

-- ---- a list of commands

-- the accepted edits, and the entries, the newest first
pub record Run : Type 0 where
  pub edits : List Edit
  pub entries : List Entry

-- so many cycles more, none past those that were asked
abbrev pub with_cycles : Session → ℕ → ℕ → Run → Run
with_cycles session cycles n run = record {
  edits = run.edits;
  entries = plain_cycles session run.edits (min n (cycles - length run.entries)) run.entries;
}

abbrev pub with_edit : Run → Edit → Run
with_edit run edit = record { edits = run.edits ++ edit ∷ []; entries = run.entries }

-- a sync needs a cycle where there is no entry yet, or the last one is settled in an older edition
abbrev pub needs_cycle : ℕ → List Entry → Bool
needs_cycle k [] = true
needs_cycle k (e ∷ es) = nat_lt e.settled k

-- an edit is accepted after those of a run
abbrev pub accepts : Session → Run → Edit → Bool
accepts session run edit = is_ok (apply (edition session run.edits (length run.edits)) edit)

-- from a run on: an edit that is refused changes nothing, and after a quit nothing follows; at the end the rest is played
abbrev pub plain_from : Session → ℕ → Run → List Command → Run
plain_from session cycles run [] = with_cycles session cycles cycles run
plain_from session cycles run (Do edit ∷ cs) = if accepts session run edit
    then (if is_quit edit then with_edit run edit else plain_from session cycles (with_edit run edit) cs)
    else plain_from session cycles run cs
plain_from session cycles run (Wait n ∷ cs) = plain_from session cycles (with_cycles session cycles n run) cs
plain_from session cycles run (Sync ∷ cs) =
    plain_from session cycles (if needs_cycle (length run.edits) run.entries then with_cycles session cycles 1 run else run) cs

abbrev pub plain_run : Session → ℕ → List Command → Run
plain_run session cycles commands = plain_from session cycles (record { edits = []; entries = [] }) commands

-- the edits of the commands that are accepted, up to and with a quit
abbrev pub accepted : Session → ℕ → List Command → List Edit
accepted session cycles commands = (plain_run session cycles commands).edits

-- the plain journal of so many cycles, its first entry first
abbrev pub plain : Session → ℕ → List Command → List Entry
plain session cycles commands = reverse (plain_run session cycles commands).entries

-- what an export is told: play from a place on
abbrev pub export_commands : ℕ → List Command
export_commands from = Do (Locate from) ∷ Do Roll ∷ []
