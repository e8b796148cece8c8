-- What is so of a run without letters between two cycles, whatever has failed.
use Rattle.std.specs.Prelude.{◌≡◌, ℕ, false, List, ◌∷◌, length}
use Rattle.session_model.specs.declared.session.Session.{Session}
use Rattle.engine_model.specs.Journal.{Entry}
use Rattle.engine_model.specs.Lines.{Line}
use Rattle.engine_model.specs.Replies.{Reply}
use Rattle.machine_model.specs.Letters.{Letter}
use Rattle.control_desk.specs.Standing as desk
use Rattle.control_letter.specs.Shown.{shown_core, standing_by}
use Rattle.serial_laws.specs.Paced.{HasPaced}
use Rattle.engine_core.specs.declared.run.Run.{Run}
use Rattle.engine_core.specs.Fed.{AllHeard, IsFed, PlayAsPlain}
use Rattle.engine_core.specs.Lost.{NoneIsLost, captures_of}
use Rattle.engine_core.specs.Opening.{Way, Given, InRest}
use Rattle.engine_core.specs.Shows.{edits_of, made_of}
use Rattle.engine_core.specs.Now.{is_played_out}

-- the letters that it was given
abbrev pub letters_of : Way → List Letter
letters_of (Given letters) = letters
letters_of (InRest letters phase) = letters

module _ {V I W : Type 0} where
  -- A serial cycle is in the newest edition, if no cycle was open before it.
  pub record PlaysNewest (old new : Run V I W) : Type 0 where
    pub edition : old.pair.in_cycle ≡ false → (e : Entry) → made_of new ≡ e ∷ made_of old → e.edition ≡ length (edits_of old)
    -- and that has not quit
    pub unquit : new.pair.playing.transport.quit ≡ false
    pub shut : new.pair.in_cycle ≡ false

  -- **A run without letters**, by the lines that control has taken and the replies that it gave, the newest first.
  pub record KeepsUp (s : Session) (cycles : ℕ) (lines : List Line) (replies : List Reply) (standing : desk.Standing) (r : Run V I W) : Type 0 where
    -- no cycle is open, and the process has entered no quit
    pub shut : r.pair.in_cycle ≡ false
    pub unquit : r.pair.playing.transport.quit ≡ false
    -- unless a read of the media has failed all that was sent was received, and each entry plays as the plain one
    pub fed : r.failed.read ≡ false → IsFed s r × AllHeard r
    pub plays : r.failed.read ≡ false → PlayAsPlain s (edits_of r) (made_of r)
    -- no block of a take was lost
    pub none_lost : NoneIsLost (captures_of r)
    -- entries and replies are by the plain walk over the lines
    pub paced : HasPaced s cycles (is_played_out r) lines (standing_by (shown_core s (edits_of r) (made_of r)) standing replies)
