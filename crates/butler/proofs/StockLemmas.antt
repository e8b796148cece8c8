-- Each ring has its spare box after each step.
use Rattle.std.proofs.Common.{◌≡◌, ℕ, ◌∙◌, List, length, take, drop, ◌++◌, get_or, sym, ap, subst, arith}
use Rattle.std.specs.Prelude.{Option, Some, slice_get, Box, IsSomeAnd, Result, Ok, Err}
use Rattle.std.specs.Global.{Global}
use Rattle.std.proofs.lemmas.Grind.{common_steps}
use Rattle.std.proofs.lemmas.Option.{slice_get-get_or, slice_get_within}
use Rattle.sound_model.specs.Regions.{Sounds}
use Rattle.ses_io.specs.FixedList.{Listed}
use Rattle.audio_source.specs.declared.refusal.ReadFault.{ReadFault}
use Rattle.edition_log.specs.EditionState.{EditionState as Edition}
use Rattle.disk_ring.specs.Sender.{Sender}
use Rattle.disk_ring.specs.Receiver.{Receiver}
use Rattle.piece_item.specs.declared.item.Item.{Item}
use Rattle.piece_item.specs.declared.ack.Ack.{Ack}
use Rattle.piece_item.specs.declared.take_block.TakeBlock.{TakeBlock}
use Rattle.piece_item.specs.declared.butler_ends.ButlerEnds.{ButlerEnds}
use Rattle.read_ahead.specs.declared.supply.TrackSupply.{TrackSupply}
use Rattle.read_ahead.specs.Pass.{PassState}
use Rattle.read_ahead.specs.Serves.{HasSpare}
use Rattle.read_ahead.specs.AllServes.{AllServe, AreEntered, Goes}
use Rattle.capture_drain.specs.State.{DrainState, AreFitted}
use Rattle.butler.specs.Serving.{AreStocked}

-- what a slice of a whole list leaves in it
pub rewritten : {X : Type 0} (n : ℕ) (new old : List X) → length new ≡ n → take n (new ++ drop (length new) old) ≡ new
rewritten n new old long = grind (arith, common_steps)

-- a box that fits a ring fits one of the same room
pub fits_as : (p : TrackSupply) (d f : Sender Item) → f.room ≡ d.room → HasSpare p d → HasSpare p f
fits_as p d f same has = record { spare = subst (λ (n : ℕ). IsSomeAnd p.spare (λ (b : Box Item Global). length b.value.samples.items ≡ n)) (sym same) has.spare }

pub accepted_stocked : (ps : List TrackSupply) (drain : DrainState) (ends : ButlerEnds) (acks : Receiver Ack) → AreStocked ps drain ends → AreStocked ps drain (record ends { acks = acks })
accepted_stocked ps drain ends acks stocked = record { many = stocked.many; each = stocked.each; takes = stocked.takes }

pub entered_stocked : (e : Edition) (ps qs : List TrackSupply) (drain : DrainState) (ends : ButlerEnds) → AreStocked ps drain ends → AreEntered e ps qs → AreStocked qs drain ends
entered_stocked e ps qs drain ends stocked entered = let many = stocked.many in let sized = entered.supplies in record {
  many = omega arith;
  each = λ t q d hq hd. let within = slice_get_within qs t q hq in let here = slice_get-get_or ps t q (omega arith) in
      record {
        spare = subst (λ (o : Option (Box Item Global)). IsSomeAnd o (λ b. length b.value.samples.items ≡ d.room)) (sym (ap (λ (z : TrackSupply). z.spare) (entered.each t (get_or ps t q) q here hq)))
            (stocked.each t (get_or ps t q) d here hd).spare;
      };
  takes = stocked.takes;
}

pub flushed_stocked : (ps : List TrackSupply) (drain after : DrainState) (ends : ButlerEnds) (takes : Listed (Receiver TakeBlock)) → AreStocked ps drain ends → AreFitted after takes.items → AreStocked ps after (record ends { takes = takes })
flushed_stocked ps drain after ends takes stocked fitted = record { many = stocked.many; each = stocked.each; takes = fitted }

module _ (told : Type 0) (sounds : Sounds) (pass : PassState) (ps qs : List TrackSupply) (drain : DrainState) (ends : ButlerEnds) (stocked : AreStocked ps drain ends) where
  served_many : (fs : List (Sender Item)) → AllServe told sounds pass ps ends.sends.items qs fs → length qs ≡ length fs
  served_many fs serves = serves.supplies ∙ stocked.many ∙ sym serves.sends

  served_spare : (fs : List (Sender Item)) → AllServe told sounds pass ps ends.sends.items qs fs → (t : ℕ) (q : TrackSupply) (f : Sender Item) → slice_get qs t ≡ Some q → slice_get fs t ≡ Some f → HasSpare q f
  served_spare fs serves t q f hq hf = let same = serves.supplies in let sized = serves.sends in let near = slice_get_within qs t q hq in let within = slice_get_within fs t f hf in
      (serves.each t (get_or ps t q) q (get_or ends.sends.items t f) f (slice_get-get_or ps t q (omega arith)) hq (slice_get-get_or ends.sends.items t f (omega arith)) hf).1

  -- what was sent left the boxes fitting, whatever was answered
  pub sent_stocked : (most : ℕ) (sends : Listed (Sender Item)) (result : Result ℕ ReadFault) → Goes told sounds pass most ps ends.sends.items result qs sends.items → AreStocked qs drain (record ends { sends = sends })
  sent_stocked most sends (Ok n) goes = record { many = served_many sends.items goes.0; each = served_spare sends.items goes.0; takes = stocked.takes }
  sent_stocked most sends (Err fault) goes = let shut = goes.shut in let sized = shut.sends in record {
    many = served_many goes.between goes.serves ∙ sym shut.sends;
    each = λ t q f hq hf. let within = slice_get_within sends.items t f hf in let here = slice_get-get_or goes.between t f (omega arith) in
        fits_as q (get_or goes.between t f) f (ap (λ (z : Sender Item). z.room) (shut.each t (get_or goes.between t f) f here hf))
        (served_spare goes.between goes.serves t q (get_or goes.between t f) hq here);
    takes = stocked.takes;
  }
