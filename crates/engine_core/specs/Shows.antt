-- What a run shows to control.
use Rattle.std.specs.Prelude.{List, length}
use Rattle.session_model.specs.declared.edit.Edit.{Edit}
use Rattle.engine_model.specs.Journal.{Entry}
use Rattle.process_cycle.specs.ProcessState.{entries_of}
use Rattle.control_desk.specs.declared.progress.Progress.{Progress}
use Rattle.control_desk.specs.Seen.{last_settled}
use Rattle.engine_core.specs.declared.run.Run.{Run}
use Rattle.engine_core.specs.Now.{is_played_out}

module _ {V I W : Type 0} where
  -- the accepted edits
  abbrev pub edits_of : Run V I W → List Edit
  edits_of r = r.pair.edition.edits

  -- the entries, the newest first
  abbrev pub made_of : Run V I W → List Entry
  made_of r = entries_of r.pair.process

  abbrev pub shows : Run V I W → Progress
  shows r = record {
    edits = length (edits_of r);
    entries = length r.pair.process.journal.items;
    settled = last_settled (made_of r);
    played_out = is_played_out r;
  }
