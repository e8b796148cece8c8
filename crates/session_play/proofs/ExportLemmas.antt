-- The master of an export that is Done is a function of its session, of what its files sound like, and of the place that it plays from.
use Rattle.std.proofs.Common.{◌≡◌, ℕ, refl, ap, sym, subst, ◌∙◌, List, [], ◌++◌, reverse}
use Rattle.std.specs.Prelude.{Bool, true, false, ◌||◌, not, Option, Some, None, Ok, is_none}
use Rattle.std.proofs.lemmas.Bool.{true≢false}
use Rattle.ses_io.specs.FixedList.{Listed}
use Rattle.ses_io.specs.Files.{Files}
use Rattle.ses_io.specs.Outside.{MediaOutside, SourceOutside, SinkOutside}
use Rattle.ses_io.specs.declared.world.World.{World}
use Rattle.session_model.specs.declared.edit.Edit.{Edit}
use Rattle.session_model.specs.declared.session.Session.{Session}
use Rattle.engine_model.specs.Journal.{Entry as Note}
use Rattle.engine_model.specs.Lines.{commands_of}
use Rattle.engine_model.specs.Plain.{Command, accepted, export_commands, plain, plain_run}
use Rattle.engine_model.specs.Played.{master_file}
use Rattle.cycle_journal.specs.declared.entry.Entry.{Entry}
use Rattle.cycle_journal.specs.declared.status.Status.TheVariants.{Done}
use Rattle.session_opening.specs.Sounds.{samples_in}
use Rattle.run_world.specs.declared.finished.Faults.{Faults}
use Rattle.run_world.specs.declared.finished.Finished.{Finished}
use Rattle.run_end.specs.Finished.{run_end_of, journal_of}
use Rattle.engine_core.specs.Machine.{IsPlain}
use Rattle.session_play.specs.declared.outcome.Outcome.{Outcome}
use Rattle.session_play.specs.Complete.{IsComplete}
use Rattle.session_play.specs.Controlled.{SaysItsOwn}
use Rattle.session_play.specs.Ending.{with_report}
use Rattle.session_play.specs.Opening.{opens}
use Rattle.session_play.specs.Played.{IsRun, WasPlayed}
use Rattle.session_play.specs.Request.{Request}
use Rattle.session_play.proofs.CauseLemmas.{NoneSet, SaysOf, says_of}

-- the file of an export of these: by the plain journal of its two commands, locate and roll
abbrev pub export_file : Files → Session → (cycles from : ℕ) → List ℕ
export_file files s cycles from = let edits = accepted s cycles (export_commands from) in
    master_file s edits (samples_in files s edits) cycles (plain s cycles (export_commands from))

quiet : (i m r w : Bool) → i ≡ false → m ≡ false → r ≡ false → w ≡ false → not (i || m || r || w) ≡ true
quiet i m r w a b c d = rw (a, b, c, d) refl

-- An export from this place has given its file to the master.
pub record HasExported {M I C W O : Type 0} (media : MediaOutside M) (masters : SinkOutside W) (old : World M I C W O) (r : Request) (new : Outcome M I C W O) (from : ℕ) : Type 0 where
  -- of this session, which is the file's
  pub session : Session
  pub of_file : media.tells → opens (media.files old.media) r ≡ Ok session
  pub written : media.tells → masters.tells → masters.held new.world.master ≡ masters.held old.master ++ export_file (media.files old.media) session r.cycles from

module _ {M I C W O : Type 0} {media : MediaOutside M} {inputs : SourceOutside I} {controls : SourceOutside C} {masters : SinkOutside W} {outs : SinkOutside O} {old : World M I C W O} {r : Request}
    {new : Outcome M I C W O} where
  module _ (p : IsRun media inputs controls masters outs old r new) (done : new.status ≡ Done) (from : ℕ) (script : r.script ≡ Some from) (letters : r.letters ≡ []) where
    abbrev f : Finished M I C W O
    f = p.finished

    abbrev ended : Faults
    ended = with_report p.out.unreported f.faults

    none : NoneSet ended
    none = subst (SaysOf ended) (sym p.out.status_is ∙ done) (says_of ended)

    own : SaysItsOwn old.control from f p.lines p.by_lines.left
    own = p.by_lines.scripted from script

    is_plain : IsPlain p.session r.cycles (p.lines ++ p.by_lines.left) p.replies (run_end_of f)
    is_plain = p.by_lines.machine.plainly (quiet f.faults.input f.faults.master f.faults.read f.faults.write none.input none.master none.read none.write) letters

    commands : commands_of (p.lines ++ p.by_lines.left) ≡ export_commands from
    commands = ap commands_of own.said

    journal : journal_of f ≡ plain p.session r.cycles (export_commands from)
    journal = is_plain.journal ∙ ap (λ (cs : List Command). reverse (plain_run p.session r.cycles cs).entries) commands

    edits : f.edits.items ≡ accepted p.session r.cycles (export_commands from)
    edits = is_plain.edits ∙ ap (λ (cs : List Command). (plain_run p.session r.cycles cs).edits) commands

    played_exported : HasExported media masters old r new from
    played_exported = record {
      session = p.session;
      of_file = p.of_file;
      written = λ t u. let files = media.files old.media in ap (λ (w : World M I C W O). masters.held w.master) p.hands_on.world ∙ p.master.written t u none.master
          ∙ ap (λ (es : List Edit). masters.held old.master ++ master_file p.session es (samples_in files p.session es) r.cycles (journal_of f)) edits
          ∙ ap (λ (notes : List Note). masters.held old.master ++ master_file p.session (accepted p.session r.cycles (export_commands from))
          (samples_in files p.session (accepted p.session r.cycles (export_commands from))) r.cycles notes) journal;
    }

  played_of : (has : Option (Listed Entry)) → WasPlayed media inputs controls masters outs old r new has → is_none has ≡ false → IsRun media inputs controls masters outs old r new
  played_of (Some entries) was e = was
  played_of None was e = absurd (true≢false e)

  -- where it ends with Done
  pub has_exported : IsComplete media inputs controls masters outs old r new → WasPlayed media inputs controls masters outs old r new new.journal → new.status ≡ Done → (from : ℕ) → r.script ≡ Some from → r.letters ≡ [] →
      HasExported media masters old r new from
  has_exported complete was done from script letters = played_exported (played_of new.journal was (complete.played done)) done from script letters
