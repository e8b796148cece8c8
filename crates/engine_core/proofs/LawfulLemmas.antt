-- The journal of a run is lawful at any time, for the edits that were accepted by then.
use Rattle.std.proofs.Common.{◌≡◌, ◌≤◌, List, ◌++◌, length, sym, ap, subst, ◌∙◌, arith, le_refl}
use Rattle.std.specs.Prelude.{true, drop, map}
use Rattle.std.proofs.lemmas.List.{length-append, reverse-reverse, take-append-drop}
use Rattle.ses_io.specs.Outside.{MediaOutside}
use Rattle.session_model.specs.declared.session.Session.{Session}
use Rattle.session_model.specs.declared.edit.Edit.{Edit}
use Rattle.engine_model.specs.Fits.{is_lawful_newest}
use Rattle.engine_model.specs.Made.{AreMade}
use Rattle.engine_laws.specs.JournalInvariant.{AreOrdered}
use Rattle.engine_laws.proofs.MadeLemmas.{made_stays, what_is_made_is_lawful}
use Rattle.track_playback.specs.SpareBoxes.{received_kinds}
use Rattle.process_cycle.specs.ProcessState.{entries_of}
use Rattle.worker_pair.specs.declared.pair.Pair.{Pair}
use Rattle.worker_pair.specs.Begun.{At}
use Rattle.worker_pair.specs.Runs.{Rests}
use Rattle.worker_pair.specs.Tied.{rings_of}
use Rattle.run_end.proofs.ReceivedLemmas as received

module _ {V I W : Type 0} (media : MediaOutside V) (at : At) (p : Pair V I W) (rests : Rests media at p) where
  abbrev s : Session
  s = at.begun.session

  abbrev edits : List Edit
  edits = p.edition.edits

  -- what was received of each track is ordered
  pub ordered : AreOrdered s edits (map received_kinds p.process.ends.plays.items)
  ordered = received.ordered media at (rings_of p) rests.serves

  -- the edits in which the process looked last are the first of all
  pub played_first : at.played ++ drop p.process.entered edits ≡ edits
  played_first = ap (λ l. l ++ drop p.process.entered edits) rests.entered.played ∙ take-append-drop p.process.entered edits

  pub journal_is_lawful : is_lawful_newest s edits (entries_of p.process) ≡ true
  journal_is_lawful = let tracks = map received_kinds p.process.ends.plays.items in let entries = entries_of p.process in
      let made : AreMade s (at.played ++ drop p.process.entered edits) (length at.played) tracks entries =
      made_stays s at.played (drop p.process.entered edits) (length at.played) tracks entries (le_refl (length at.played)) rests.promises.made in
      let within : length at.played ≤ length (at.played ++ drop p.process.entered edits) = omega (arith, length-append at.played (drop p.process.entered edits)) in
      ap (is_lawful_newest s edits) (sym (reverse-reverse entries))
      ∙ what_is_made_is_lawful s edits (length at.played) tracks entries (subst (λ l. length at.played ≤ length l) played_first within) ordered
      (subst (λ l. AreMade s l (length at.played) tracks entries) played_first made)
