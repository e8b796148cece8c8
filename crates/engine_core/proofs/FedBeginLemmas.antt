-- What is so of playback where a run begins, and while edits come.
use Rattle.std.proofs.Common.{◌≡◌, ℕ, zero, suc, ◌≤◌, List, [], ◌∷◌, ◌++◌, length, refl, sym, ap, subst, arith, ◌∙◌, append-nil}
use Rattle.std.specs.Prelude.{Bool, true, false, map, take, slice_get, Option, Some, None, Result, Ok, Err}
use Rattle.std.proofs.lemmas.List.{length-map, length-reverse, take-append-le, take_all}
use mathlib.Core.List.{IsPrefix}
use Rattle.ses_io.specs.Outside.{MediaOutside, SourceOutside, SinkOutside}
use Rattle.session_model.specs.declared.session.Session.{Session}
use Rattle.session_model.specs.declared.edit.Edit.{Edit}
use Rattle.engine_model.specs.Due.{next_block}
use Rattle.engine_model.specs.Journal.{Entry, rolled}
use Rattle.engine_model.specs.Plain.{plain_entry}
use Rattle.engine_laws.specs.SerialLaws.{none_is_held}
use Rattle.machine_model.specs.Core as machine
use Rattle.machine_model.specs.Core.{TrackState}
use Rattle.machine_laws.specs.Stands.{each_once}
use Rattle.machine_laws.proofs.EventLemmas.{is_idle_track}
use Rattle.machine_laws.proofs.Tracks.{also_there}
use Rattle.disk_ring.specs.Receiver.{Receiver}
use Rattle.disk_ring.specs.Sender.{Sender}
use Rattle.edit_resolve.specs.declared.reason.Refusal.{Refusal}
use Rattle.piece_item.specs.declared.item.Item.{Item}
use Rattle.piece_item.specs.Views.{ack_of, kind_of}
use Rattle.control_desk.specs.declared.progress.Progress.{Progress}
use Rattle.control_desk.specs.State.{ControlState}
use Rattle.control_desk.specs.Standing.{is_ready}
use Rattle.control_letter.specs.Letter.{Finishes, IsLetter, edits_with}
use Rattle.worker_pair.specs.Tied.{IsTied}
use Rattle.engine_core.specs.declared.run.Run.{Run}
use Rattle.engine_core.specs.Fed.{AllHeard, IsFed, PlayAsPlain, PlaysAs, plays_of, sends_of, sent_of}
use Rattle.engine_core.specs.Shows.{made_of}
use Rattle.run_end.specs.Started.{Started}
use Rattle.engine_core.specs.UnderWay.{IsUnderWay}

no_length : {X : Type 0} (xs : List X) → length xs ≡ 0 → xs ≡ []
no_length [] e = refl
no_length (x ∷ xs) e = absurd (omega (arith, e))

-- ---- at first

module _ {V I W : Type 0} (media : MediaOutside V) (inputs : SourceOutside I) (sinks : SinkOutside W) (on : Started V I W) (r : Run V I W) (is : IsUnderWay media inputs sinks on r)
    (tied : IsTied on.begun.session (machine.at_first on.begun.session) r.pair) (none : made_of r ≡ []) where
  abbrev s : Session
  s = on.begun.session

  -- nothing went through the rings of a track
  track_of : (t : ℕ) (d : Sender Item) (q : Receiver Item) → slice_get (sends_of r) t ≡ Some d → slice_get (plays_of r) t ≡ Some q → (sent_of d ≡ []) × (length q.received ≡ 0)
  track_of t d q hd hq = let serving = is.rests.serves.serving in let x = also_there (sends_of r) (machine.at_first s).tracks t d (serving.sends ∙ sym tied.rings.many) hd in
      let f = also_there (sends_of r) r.pair.butler.ends.takes.items t d (serving.sends ∙ sym serving.takes) hd in
      let k = also_there r.pair.butler.ends.takes.items r.pair.process.ends.takes.items t f.0 is.rests.serves.others.takes.count f.1 in
      let of = tied.rings.tracks t x.0 d q k.0 f.0 x.1 hd hq k.1 f.1 in let idle = is_idle_track (length s.tracks.items) t x.0 x.1 in
      (sym of.sent ∙ sym (ap (λ (y : TrackState). y.sent) idle), sym of.received ∙ sym (ap (λ (y : TrackState). y.received) idle))

  none_sent : (t : ℕ) (d : Sender Item) → slice_get (sends_of r) t ≡ Some d → sent_of d ≡ []
  none_sent t d hd = let q = also_there (sends_of r) (plays_of r) t d (sym is.rests.serves.others.plays.count) hd in (track_of t d q.0 hd q.1).0

  pub first_heard : AllHeard r
  first_heard t d q hd hq = let both = track_of t d q hd hq in no_length q.received both.1
      ∙ sym (no_length d.sent (sym (length-reverse (map (λ (i : Item). kind_of i.kind) d.sent) ∙ length-map d.sent (λ (i : Item). kind_of i.kind)) ∙ ap length both.0))

  pub first_fed : IsFed s r
  first_fed = record {
    from = 0;
    reached = omega arith;
    free = λ t d hd. subst (λ l. none_is_held s.depth 0 (rolled 0 (made_of r)) l ≡ true) (sym (none_sent t d hd)) refl;
    once = λ t d hd. subst (λ l. each_once r.pair.butler.cycles l ≡ true) (sym (none_sent t d hd)) refl;
    acks = λ g. ap (λ l. next_block (map ack_of l) g) (no_length r.pair.process.ends.to_butler.sent
        (sym (length-reverse (map ack_of r.pair.process.ends.to_butler.sent) ∙ length-map r.pair.process.ends.to_butler.sent ack_of) ∙ ap length (sym tied.rings.acks))) ∙ ap (rolled g) (sym none);
  }

-- ---- while edits come

low_taken : (k : ℕ) (xs : List Edit) → length (take k xs) ≤ length xs
low_taken zero [] = omega arith
low_taken zero (x ∷ xs) = omega arith
low_taken (suc k) [] = omega arith
low_taken (suc k) (x ∷ xs) = omega (arith, low_taken k xs)

-- what played as the plain one does by more edits
pub plain_longer : (s : Session) (edits more : List Edit) (entries : List Entry) → PlayAsPlain s edits entries → PlayAsPlain s (edits ++ more) entries
plain_longer s edits more [] plays = tt
plain_longer s edits more (e ∷ before) plays = (
  subst (λ (l : List Edit). PlaysAs (plain_entry s l before) e)
      (sym (take-append-le e.edition edits more (omega (arith, plays.0.edition, low_taken e.edition edits)))) plays.0,
  plain_longer s edits more before plays.1,
)

-- and with one entry more, of the newest edition
pub plain_with : (s : Session) (edits : List Edit) (e : Entry) (before : List Entry) → e.edition ≡ length edits → PlaysAs (plain_entry s edits before) e → PlayAsPlain s edits before → PlayAsPlain s edits (e ∷ before)
plain_with s edits e before newest plays was = (subst (λ (l : List Edit). PlaysAs (plain_entry s l before) e) (sym (take_all e.edition edits (omega (arith, newest)))) plays, was)

-- the edits that a letter of control leaves begin with those before it
with_begins : (edit : Edit) (answer : Result ℕ Refusal) (edits now : List Edit) → now ≡ edits_with edit answer edits → IsPrefix edits now
with_begins edit (Ok k) edits now is = (edit ∷ [], sym is)
with_begins edit (Err why) edits now is = ([], append-nil edits ∙ sym is)

module _ {C O : Type 0} (source : SourceOutside C) (sink : SinkOutside O) (s : Session) where
  finished_begins : (edits now : List Edit) (given : Option Edit) (old new : ControlState C O) → Finishes source sink s edits given old now new → IsPrefix edits now
  finished_begins edits now None old new is = ([], append-nil edits ∙ sym is.0)
  finished_begins edits now (Some edit) old new is = with_begins edit is.answer edits now is.edits_are

  pub letter_begins : (seen : Progress) (edits now : List Edit) (old new : ControlState C O) → IsLetter source sink s seen edits old now new → IsPrefix edits now
  letter_begins seen edits now old new letter = by (is_ready letter.answered.standing) refl
    where
      by : (b : Bool) → is_ready letter.answered.standing ≡ b → IsPrefix edits now
      by false e = ([], append-nil edits ∙ sym (letter.stops e).0)
      by true e = let takes = letter.goes_on e in finished_begins edits now takes.given takes.taken new takes.finishes
