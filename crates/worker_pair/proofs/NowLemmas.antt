-- The lists of edits that the workers were given are as their own numbers say, and what stands while they run stands while they rest.
use Rattle.std.proofs.Common.{◌≡◌, ◌≤◌, List, length, take, sym, ap, subst, ◌∙◌}
use Rattle.std.specs.Prelude.{All}
use Rattle.std.proofs.Math.Seq.{take-append_seam}
use mathlib.Core.List.{IsPrefix}
use Rattle.ses_io.specs.Outside.{MediaOutside, SourceOutside, SinkOutside}
use Rattle.session_model.specs.declared.edit.Edit.{Edit}
use Rattle.session_model.specs.declared.session.Session.{Session}
use Rattle.disk_ring.specs.Receiver.{Receiver}
use Rattle.disk_ring.specs.Sender.{Sender}
use Rattle.piece_item.specs.declared.ack.Ack.{Ack}
use Rattle.butler.specs.ButlerState.{ButlerState as Butler}
use Rattle.butler.specs.Serving.{IsServing}
use Rattle.worker_pair.specs.declared.ending.Ending.{Ending}
use Rattle.worker_pair.specs.declared.pair.Pair.{Pair}
use Rattle.worker_pair.specs.Begun.{At, turned}
use Rattle.worker_pair.specs.Runs.{HasControl, HasEntered, Rests, Runs, Serves, at_now, given_last}

-- the edits that a butler entered last are so many of the edition's first as it says
entered_are : {V : Type 0} (s : Session) (served edits : List Edit) (b : Butler V) → IsPrefix served edits → IsServing s served b → take b.entered edits ≡ served
entered_are s served edits b first serving = ap (λ n. take n edits) serving.entered ∙ ap (take (length served)) (sym first.1) ∙ take-append_seam served first.0

-- the same lists are the same place of a run
same_at : (at : At) (served played : List Edit) → served ≡ at.served → played ≡ at.played → record { begun = at.begun; header = at.header; served = served; played = played } ≡ at
same_at at served played a b = ap (λ l. record at { served = l; played = played }) a ∙ ap (λ l. record at { played = l }) b

-- what is so of a butler and its edits is so of any place of the run with these
pub serves_as : {V : Type 0} (media : MediaOutside V) (at now : At) (e : Ending V) → now.begun ≡ at.begun → now.served ≡ at.served → Serves media at e → Serves media now e
serves_as media at now e begun served serves =
    let a : Serves media (record at { header = now.header; played = now.played }) e = record {
      edition_of = serves.edition_of;
      never = serves.never;
      served_of = serves.served_of;
      serving = serves.serving;
      others = serves.others;
      met = serves.met;
      no_take = serves.no_take;
      files = serves.files;
      true_to = serves.true_to;
    } in
    subst (λ l. Serves media (record now { served = l }) e) (sym served) (subst (λ g. Serves media (record { begun = g; header = now.header; served = at.served; played = now.played }) e) (sym begun) a)

-- so much of the edits was entered as the butler's number says
pub now_serves : {V : Type 0} (media : MediaOutside V) (at : At) (e : Ending V) → Serves media at e → Serves media (turned (take e.butler.entered e.edition.edits) at) e
now_serves media at e serves = subst (λ l. Serves media (turned l at) e) (sym (entered_are at.begun.session at.served e.edition.edits e.butler serves.served_of serves.serving)) serves

module _ {V I W : Type 0} (media : MediaOutside V) where
  -- so much was entered and given as the workers' numbers say
  now_is : (at : At) (p : Pair V I W) → IsPrefix at.served p.edition.edits → IsServing at.begun.session at.served p.butler → HasEntered at p → at_now at.begun at.header p ≡ at
  now_is at p first serving entered = same_at at (take p.butler.entered p.edition.edits) (given_last p)
      (entered_are at.begun.session at.served p.edition.edits p.butler first serving) (sym entered.played)

  -- the workers run by these lists,
  pub now_runs : (inputs : SourceOutside I) (sinks : SinkOutside W) (at : At) (p : Pair V I W) → Runs media inputs sinks at p → Runs media inputs sinks (at_now at.begun at.header p) p
  now_runs inputs sinks at p runs = subst (λ z. Runs media inputs sinks z p) (sym (now_is at p runs.serves.served_of runs.serves.serving runs.entered)) runs

  -- and rest by them
  pub now_rests : (at : At) (p : Pair V I W) → Rests media at p → Rests media (at_now at.begun at.header p) p
  now_rests at p rests = subst (λ z. Rests media z p) (sym (now_is at p rests.serves.served_of rests.serves.serving rests.entered)) rests

  -- workers that run may rest
  pub runs_rest : (inputs : SourceOutside I) (sinks : SinkOutside W) (at : At) (p : Pair V I W) → Runs media inputs sinks at p → Rests media at p
  runs_rest inputs sinks at p runs = record {
    serves = runs.serves;
    entered = runs.entered;
    promises = runs.playing.promises;
    master = runs.playing.master;
    control = runs.control;
    asked = runs.asked;
  }

-- control has its end where its ring and what it was told stay
pub control_on : {V I W : Type 0} (p q : Pair V I W) → q.acks ≡ p.acks → q.process.ends.to_control ≡ p.process.ends.to_control → HasControl p → HasControl q
control_on p q acks same was = record {
  ring = ap (λ (z : Receiver Ack). z.ring) acks ∙ was.ring ∙ sym (ap (λ (z : Sender Ack). z.ring) same);
  none_taken = ap (λ (z : Receiver Ack). z.received) acks ∙ was.none_taken;
  heads = subst (λ (z : Sender Ack). All (λ h. h ≤ z.got) z.heads) (sym same) was.heads;
}
