-- Where nothing is wrong and nothing fails a run is played to its end.
use Rattle.std.specs.Prelude.{◌≡◌, ◌⊎◌, true, false, Ok, IsOk, is_none}
use Rattle.ses_io.specs.Outside.{MediaOutside, SourceOutside, SinkOutside}
use Rattle.ses_io.specs.declared.world.World.{World}
use Rattle.session_model.specs.declared.session.Session.{Session}
use Rattle.engine_model.specs.Lines.{is_too_long}
use Rattle.edit_script.specs.Reading.{read_line}
use Rattle.cycle_journal.specs.declared.status.Status.TheVariants.{Done, NoMemory}
use Rattle.input_head.specs.Input.{input_head}
use Rattle.session_play.specs.declared.outcome.Outcome.{Outcome}
use Rattle.session_play.specs.Opening.{TakesAreThere, opens}
use Rattle.session_play.specs.Reported.{IsStill}
use Rattle.session_play.specs.Request.{Request, records}

module _ {M I C W O : Type 0} where
  -- Nothing is wrong with what a run is asked for: session, sources, takes, input and control.
  pub record IsRight (media : MediaOutside M) (inputs : SourceOutside I) (controls : SourceOutside C) (old : World M I C W O) (r : Request) : Type 0 where
    pub session : Session
    pub of_file : opens (media.files old.media) r ≡ Ok session
    pub fresh : records r ≡ true → ¬ (TakesAreThere (media.files old.media) session)
    pub heard : IsOk (input_head session (inputs.left old.input))
    pub short : records r ≡ true → is_too_long read_line session (controls.left old.control) ≡ false

  -- No count of faults rose.
  pub record NothingFails (media : MediaOutside M) (inputs : SourceOutside I) (controls : SourceOutside C) (masters : SinkOutside W) (outs : SinkOutside O) (old new : World M I C W O) : Type 0 where
    pub reads : IsStill (media.read_faults old.media) (media.read_faults new.media)
    pub writes : IsStill (media.write_faults old.media) (media.write_faults new.media)
    pub inputs_are : IsStill (inputs.faults old.input) (inputs.faults new.input)
    pub controls_are : IsStill (controls.faults old.control) (controls.faults new.control)
    pub masters_are : IsStill (masters.faults old.master) (masters.faults new.master)
    pub outs_are : IsStill (outs.faults old.out) (outs.faults new.out)

  -- **Then only want of memory keeps it from Done**: at Done it was played, so that with no letter its journal, edits and replies are plain.
  pub record IsComplete (media : MediaOutside M) (inputs : SourceOutside I) (controls : SourceOutside C) (masters : SinkOutside W) (outs : SinkOutside O) (old : World M I C W O) (r : Request)
      (new : Outcome M I C W O) : Type 0 where
    pub done : media.tells → inputs.tells → (records r ≡ true → controls.tells) → IsRight media inputs controls old r → NothingFails media inputs controls masters outs old new.world → (new.status ≡ Done) ⊎ (new.status ≡ NoMemory)
    -- and Done comes of a run that was played
    pub played : new.status ≡ Done → is_none new.journal ≡ false
