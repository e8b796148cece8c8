-- The rings that the process puts into keep their depths.
use Rattle.std.proofs.Common.{◌≡◌, ℕ, ◌<◌, sym, ap, subst, ◌∙◌}
use Rattle.std.specs.Prelude.{slice_get, Some}
use Rattle.std.proofs.lemmas.Option.{get_or_from_slice_get, slice_get_within}
use Rattle.ses_io.specs.Outside.{SourceOutside}
use Rattle.session_model.specs.declared.session.Session.{Session}
use Rattle.machine_laws.proofs.Tracks.{also_there}
use Rattle.disk_ring.specs.Sender.{Sender}
use Rattle.piece_item.specs.declared.ack.Ack.{Ack}
use Rattle.piece_item.specs.declared.butler_ends.ButlerEnds.{ButlerEnds}
use Rattle.piece_item.specs.declared.take_block.TakeBlock.{TakeBlock}
use Rattle.process_ends.specs.declared.ends.ProcessEnds.{ProcessEnds}
use Rattle.process_ends.specs.Ends.{AreOtherEnds, EndsMeet}
use Rattle.process_cycle.specs.Playing.{IsPlaying}
use Rattle.process_cycle.specs.ProcessState.{Playing, ProcessState}
use Rattle.worker_pair.proofs.MetLemmas.{take_met}
use Rattle.run_end.specs.Depths.{HaveDepths}
use Rattle.run_end.specs.LastTurns.{AreToldMore}

-- a process that plays knows them,
pub depths_played : {I W : Type 0} (inputs : SourceOutside I) (at : Playing) (p : ProcessState I W) → IsPlaying inputs at p → HaveDepths at.session p.ends
depths_played inputs at p playing = record { takes = of_take; to_control = playing.to_control.depth }
  where
    of_take : (t : ℕ) (d : Sender TakeBlock) → slice_get p.ends.takes.items t ≡ Some d → d.depth ≡ at.session.depth
    of_take t d here = let k = also_there p.ends.takes.items p.captures t d (playing.takes ∙ sym playing.captures) here in
        ap (λ (z : Sender TakeBlock). z.depth) (sym (get_or_from_slice_get p.ends.takes.items t d d here))
        ∙ (playing.recorded t d k.0 (subst (λ n. t < n) playing.takes (slice_get_within p.ends.takes.items t d here))).depth

-- a meeting leaves them,
pub depths_met : (s : Session) (ours ours_now : ProcessEnds) (theirs theirs_now : ButlerEnds) → AreOtherEnds ours theirs → EndsMeet ours theirs ours_now theirs_now → HaveDepths s ours → HaveDepths s ours_now
depths_met s ours ours_now theirs theirs_now others meet was = record {
  takes = λ t l there. let k = also_there ours_now.takes.items ours.takes.items t l meet.takes.senders there in
      ap (λ (z : Sender TakeBlock). z.depth) (take_met ours ours_now theirs theirs_now others meet t k.0 l k.1 there) ∙ was.takes t k.0 k.1;
  to_control = ap (λ (z : Sender Ack). z.depth) meet.to_control ∙ was.to_control;
}

-- and so does all that the ends are told
pub depths_told : (s : Session) (old new : ProcessEnds) → AreToldMore old new → HaveDepths s old → HaveDepths s new
depths_told s old new told was = record {
  takes = λ t l there. let k = also_there new.takes.items old.takes.items t l told.many_takes there in
      ap (λ (z : Sender TakeBlock). z.depth) (told.takes t k.0 l k.1 there) ∙ was.takes t k.0 k.1;
  to_control = ap (λ (z : Sender Ack). z.depth) told.to_control ∙ was.to_control;
}
