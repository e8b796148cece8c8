-- The workers run on when an edit is published.
use Rattle.std.proofs.Common.{◌≡◌, ℕ, List, [], ◌∷◌, ◌++◌, take, append_assoc, refl, sym, ap, subst, ◌∙◌, arith}
use Rattle.std.specs.Prelude.{Result, Ok, Err, true, false, ◌&&◌}
use Rattle.std.specs.List.{list_all}
use Rattle.std.proofs.lemmas.Bool.{and_from}
use Rattle.std.proofs.lemmas.List.{take-append-le}
use Rattle.std.proofs.lemmas.List.Folds.{list_all-append}
use mathlib.Core.List.{IsPrefix}
use Rattle.ses_io.specs.Outside.{MediaOutside, SourceOutside, SinkOutside}
use Rattle.session_model.specs.declared.edit.Edit.{Edit}
use Rattle.session_model.specs.declared.session.Session.{Session}
use Rattle.engine_model.specs.Edits.{keeps_forms}
use Rattle.edit_resolve.specs.declared.reason.Refusal.{Refusal}
use Rattle.edition_log.specs.EditionState.{EditionState as Edition, IsEditionOf}
use Rattle.edition_log.specs.Steps.{Applies}
use Rattle.disk_ring.proofs.Beginnings.{begins_length}
use Rattle.worker_pair.specs.declared.pair.Pair.{Pair}
use Rattle.worker_pair.specs.Begun.{At}
use Rattle.worker_pair.specs.Never.{NeverRecords, starts_recording}
use Rattle.worker_pair.specs.Runs.{Rests, Runs}
use Rattle.worker_pair.specs.Steps.{PublishesAsMachine}
use Rattle.worker_pair.proofs.NeverLemmas.{never_more}

-- the first edits of a list are the first of a longer one
longer : (served edits more : List Edit) → IsPrefix served edits → IsPrefix served (edits ++ more)
longer served edits more first = (first.0 ++ more, sym (append_assoc served first.0 more) ∙ ap (λ l. l ++ more) first.1)

module _ {V I W : Type 0} (media : MediaOutside V) (inputs : SourceOutside I) (sinks : SinkOutside W) (at : At) (p : Pair V I W) (rests : Rests media at p)
    (e : Edition) (edit : Edit) (is : IsEditionOf at.begun.session e) (keeps : keeps_forms edit ≡ true) (quiet : at.begun.records ≡ false → starts_recording edit ≡ false) where
  -- the edition has one edit more
  longer_rests : e.edits ≡ p.edition.edits ++ edit ∷ [] → e.ended ≡ p.edition.ended → Rests media at (record p { edition = e })
  longer_rests more ended = let was = rests.entered in record {
    serves = record {
      edition_of = is;
      never = λ none. subst (λ (l : List Edit). NeverRecords at.begun.session l) (sym more) (never_more at.begun.session p.edition.edits edit (rests.serves.never none) (quiet none));
      served_of = subst (λ (l : List Edit). IsPrefix at.served l) (sym more) (longer at.served p.edition.edits (edit ∷ []) rests.serves.served_of);
      serving = rests.serves.serving;
      others = rests.serves.others;
      met = rests.serves.met;
      no_take = rests.serves.no_take;
      files = rests.serves.files;
      true_to = rests.serves.true_to;
    };
    entered = record {
      edition_of = was.edition_of;
      begins = subst (λ (l : List Edit). IsPrefix p.playing.edits l) (sym more) (longer p.playing.edits p.edition.edits (edit ∷ []) was.begins);
      not_ended = was.not_ended;
      newest_not_ended = ended ∙ was.newest_not_ended;
      forms = ap (list_all keeps_forms) more ∙ list_all-append keeps_forms p.edition.edits (edit ∷ []) ∙ and_from (list_all keeps_forms p.edition.edits) (keeps_forms edit && true) was.forms
          (and_from (keeps_forms edit) true keeps refl);
      room = was.room;
      unended = was.unended;
      few = was.few;
      played = was.played ∙ sym (take-append-le p.process.entered p.edition.edits (edit ∷ []) (omega (arith, was.few, begins_length p.playing.edits p.edition.edits was.begins))) ∙ ap (take p.process.entered) (sym more);
    };
    control = record { ring = rests.control.ring; none_taken = rests.control.none_taken; heads = rests.control.heads };
    promises = rests.promises;
    master = rests.master;
    asked = rests.asked;
  }

  -- whatever is answered
  pub rests_on : (answer : Result ℕ Refusal) → Applies p.edition edit answer e → Rests media at (record p { edition = e })
  rests_on (Ok number) applies = longer_rests applies.2 applies.3
  rests_on (Err why) applies = subst (λ (z : Edition). Rests media at (record p { edition = z })) (sym applies.1) rests

  -- and the workers run on if they ran
  pub runs_on : (answer : Result ℕ Refusal) → Applies p.edition edit answer e → Runs media inputs sinks at p → Runs media inputs sinks at (record p { edition = e })
  runs_on answer applies runs = let now = rests_on answer applies in record {
    serves = now.serves;
    entered = now.entered;
    control = now.control;
    playing = runs.playing;
    mastered = runs.mastered;
    asked = runs.asked;
  }

-- it is the core machine's step
pub published : {V I W : Type 0} (s : Session) (p : Pair V I W) (e : Edition) (edit : Edit) (answer : Result ℕ Refusal) → Applies p.edition edit answer e →
    PublishesAsMachine s p edit answer (record p { edition = e })
published s p e edit (Ok number) applies = λ c tied. record {
  rings = record {
    edits = ap (λ l. l ++ edit ∷ []) tied.rings.edits ∙ sym applies.2;
    entered = tied.rings.entered;
    many = tied.rings.many;
    tracks = tied.rings.tracks;
    acks = tied.rings.acks;
    taken = tied.rings.taken;
    none_read = tied.rings.none_read;
    none_written = tied.rings.none_written;
  };
  entries = tied.entries;
  playing = tied.playing;
  in_cycle = tied.in_cycle;
  control = tied.control;
  told_butler = tied.told_butler;
  told_control = tied.told_control;
}
published s p e edit (Err why) applies = ap (λ (z : Edition). record p { edition = z }) applies.1
