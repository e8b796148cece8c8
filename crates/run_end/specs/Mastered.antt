-- What the master and the input of a run hold at its end.
use Rattle.std.specs.Prelude.{◌≡◌, ◌⊎◌, Bool, ℕ, suc, ◌-◌, ◌*◌, ◌≤◌, ◌<◌, true, false, List, [], ◌∷◌, ◌++◌, drop, length, min}
use Rattle.std.specs.List.{flat_map}
use Rattle.sound_model.specs.Wav.{align}
use Rattle.ses_io.specs.Outside.{MediaOutside, SourceOutside, SinkOutside}
use Rattle.ses_io.specs.Streams.{AppendsSome}
use Rattle.session_model.specs.declared.session.Session.{Session}
use Rattle.session_model.specs.declared.edit.Edit.{Edit}
use Rattle.engine_model.specs.Edits.{has_quit}
use Rattle.engine_model.specs.Fits.{is_lawful}
use Rattle.engine_model.specs.Journal.{Entry}
use Rattle.engine_model.specs.Played.{Samples, master_file}
use Rattle.input_blocks.specs.Rest.{StreamForm, stream_told}
use Rattle.master_blocks.specs.Bytes.{end_bytes, entry_bytes, head_bytes}
use Rattle.run_world.specs.declared.finished.Finished.{Finished}
use Rattle.run_world.specs.declared.opened.Opened.{Opened}
use Rattle.run_end.specs.Failures.{has_stopped}
use Rattle.run_end.specs.Finished.{failures_of, journal_of, samples_opened}

-- the header of so many cycles, and the blocks of all entries
abbrev pub bytes_made : Session → List Edit → Samples → ℕ → List Entry → List ℕ
bytes_made s edits samples cycles journal = head_bytes s cycles ++ flat_map (entry_bytes s edits samples) journal

-- A front was written of the block of an entry that isn't in the journal, and that makes a lawful one with it.
pub record HasNextInPart (first now : List ℕ) (s : Session) (edits : List Edit) (samples : Samples) (cycles : ℕ) (journal : List Entry) : Type 0 where
  pub next : Entry
  pub room : length journal < cycles
  pub lawful : is_lawful s edits (journal ++ next ∷ []) ≡ true
  pub front : AppendsSome (first ++ bytes_made s edits samples cycles journal) now (entry_bytes s edits samples next)

-- **where a write of the master failed**: after what it held at first it has a front of the header, and there is no entry; or it has
-- header and the blocks of all entries, and a front of the block of one entry more; or all of them, and a front of its end, where all
-- cycles were made unless there was a quit or the input has failed
abbrev pub IsCutOff : (input : Bool) → (first now : List ℕ) → Session → List Edit → Samples → ℕ → List Entry → Type 0
IsCutOff input first now s edits samples cycles journal = ((journal ≡ []) × AppendsSome first now (head_bytes s cycles))
    ⊎ (HasNextInPart first now s edits samples cycles journal
    ⊎ ((has_quit edits (length edits) ≡ false → input ≡ false → length journal ≡ cycles)
    × AppendsSome (first ++ bytes_made s edits samples cycles journal) now (end_bytes s cycles (length journal))))

-- ---- the input

-- the bytes that so many blocks leave of what an input had: their frames were taken, as far as its stream has them
abbrev pub left_behind : StreamForm → (block : ℕ) → List ℕ → (blocks : ℕ) → List ℕ
left_behind stream block start blocks = drop (min (blocks * block) stream.frames * align stream.form) start

-- and those that the next block asks of it
abbrev pub bytes_due_next : StreamForm → (block : ℕ) → (blocks : ℕ) → ℕ
bytes_due_next stream block blocks = min (stream.frames - min (blocks * block) stream.frames) block * align stream.form

-- ---- what a run leaves

module _ {M I C W O : Type 0} where
  -- **Where no write of it failed the master holds what it held, and then its file.**
  abbrev pub MasterIsWhole : MediaOutside M → SinkOutside W → Opened M I C W O → Finished M I C W O → Type 0
  MasterIsWhole media sinks o f = f.faults.master ≡ false →
      sinks.held f.world.master ≡ sinks.held o.world.master ++ master_file o.edition.session f.edits.items (samples_opened media o f) o.cycles (journal_of f)

  -- **Where one failed it is cut off.**
  abbrev pub MasterIsCutOff : MediaOutside M → SinkOutside W → Opened M I C W O → Finished M I C W O → Type 0
  MasterIsCutOff media sinks o f = f.faults.master ≡ true →
      IsCutOff f.faults.input (sinks.held o.world.master) (sinks.held f.world.master) o.edition.session f.edits.items (samples_opened media o f) o.cycles (journal_of f)

  -- It is whole or cut off, as its writes went.
  pub record WritesTheMaster (media : MediaOutside M) (sinks : SinkOutside W) (o : Opened M I C W O) (f : Finished M I C W O) : Type 0 where
    pub whole : MasterIsWhole media sinks o f
    pub cut_off : MasterIsCutOff media sinks o f

  -- **All cycles were made that were asked**; fewer only where some accepted edit has quit, entered or not, or the input or the master has failed.
  pub record MakesItsCycles (o : Opened M I C W O) (f : Finished M I C W O) : Type 0 where
    pub most : length (journal_of f) ≤ o.cycles
    pub all : has_quit f.edits.items (length f.edits.items) ≡ false → has_stopped (failures_of f.faults) ≡ false → length (journal_of f) ≡ o.cycles

  -- what the input has left after so many blocks
  abbrev pub after_blocks : SourceOutside I → Opened M I C W O → ℕ → List ℕ
  after_blocks inputs o = left_behind (stream_told o.form) o.edition.session.block (inputs.left o.world.input)

  -- and what the next block asks of it
  abbrev pub bytes_due_after : Opened M I C W O → ℕ → ℕ
  bytes_due_after o = bytes_due_next (stream_told o.form) o.edition.session.block

  -- **The input gave one block for each entry**, as far as its data goes and where it tells.
  pub record InputGave (inputs : SourceOutside I) (o : Opened M I C W O) (f : Finished M I C W O) : Type 0 where
    -- a stream that has no frames is asked for nothing
    pub untouched : (stream_told o.form).frames ≡ 0 → f.world.input ≡ o.world.input
    -- just these blocks where neither it nor the master has failed
    pub read : inputs.tells → has_stopped (failures_of f.faults) ≡ false → inputs.left f.world.input ≡ after_blocks inputs o (length (journal_of f))
    -- a read of it fails only where some was asked; it had given these blocks, and lost less than one more
    pub asked : f.faults.input ≡ true → 0 < bytes_due_after o (length (journal_of f))
    pub fell : inputs.tells → f.faults.input ≡ true → (n : ℕ) × (n < bytes_due_after o (length (journal_of f))) × (inputs.left f.world.input ≡ drop n (after_blocks inputs o (length (journal_of f))))
    -- and where a write of the master has failed, these or one block more, of a cycle that was cut off
    pub cut : inputs.tells → f.faults.input ≡ false → f.faults.master ≡ true → (inputs.left f.world.input ≡ after_blocks inputs o (length (journal_of f)))
        ⊎ (inputs.left f.world.input ≡ after_blocks inputs o (suc (length (journal_of f))))
