-- What the master gets of a render: frames of the session by its playlists, as its sources' files sound.
use Rattle.std.specs.Prelude.{◌≡◌, ◌≢◌, ℕ, List, ◌++◌, Ok, Err}
use Rattle.ses_io.specs.Files.{Files}
use Rattle.ses_io.specs.Outside.{MediaOutside, SinkOutside}
use Rattle.ses_io.specs.Streams.{AppendsSome}
use Rattle.session_model.specs.declared.session.Session.{Session}
use Rattle.cycle_journal.specs.declared.status.Status.{Status}
use Rattle.cycle_journal.specs.declared.status.Status.TheVariants.{Done}
use Rattle.master_render.specs.Offline.{offline_file}
use Rattle.session_opening.specs.Plan.{Open, session_plan}
use Rattle.command_words.specs.Words.{Render}
use Rattle.session_opening.specs.Sounds.{sounds_in}

-- **the master of a render**: so many frames of the session, from a position on, as it was read
abbrev pub rendered : Files → Session → Render → List ℕ
rendered files s r = offline_file (sounds_in files s) s r.from r.frames

-- Of that file a master has all, or a front.
pub record IsRendered {W : Type 0} (master : SinkOutside W) (file : List ℕ) (old new : W) (s : Status) : Type 0 where
  -- at Done it holds what it held, and then exactly the file
  pub all : s ≡ Done → master.held new ≡ master.held old ++ file
  -- at every other status it gained a front of it
  pub front : s ≢ Done → AppendsSome (master.held old) (master.held new) file

-- the file of the session that is opened; where none is, nothing
abbrev pub WhereOpened : {W : Type 0} → SinkOutside W → Files → Open Session → Render → W → W → Status → Type 0
WhereOpened master files (Ok session) r old new s = master.tells → IsRendered master (rendered files session r) old new s
WhereOpened master files (Err wrong) r old new s = new ≡ old

-- what the master gets of a render, by the files
abbrev pub GetsTheRender : {M W : Type 0} → MediaOutside M → M → SinkOutside W → Render → W → W → Status → Type 0
GetsTheRender media before master r old new s = WhereOpened master (media.files before) (session_plan (media.files before) r.session) r old new s
