-- In a turn of the butler nobody is at the other ends of its rings, so that a turn of one item makes one move, or none.
use Rattle.std.proofs.Common.{◌≡◌, ℕ, ◌≤◌, length, sym, subst, ◌∙◌, arith}
use Rattle.std.specs.Prelude.{Ok}
use mathlib.Core.List.{IsPrefix}
use Rattle.ses_io.specs.Outside.{MediaOutside}
use Rattle.machine_laws.proofs.Tracks.{also_there}
use Rattle.disk_ring.proofs.Beginnings.{begins_length, whole}
use Rattle.piece_item.specs.declared.butler_ends.ButlerEnds.{ButlerEnds}
use Rattle.butler.specs.declared.turning.Turn.{Turn}
use Rattle.butler.specs.ButlerState.{ButlerState}
use Rattle.butler.specs.Moves as moving
use Rattle.butler.specs.Moves.{IsAlone, MakesMove}
use Rattle.butler.proofs.MoveLemmas.{a_turn_of_one_is_one_move}
use Rattle.process_ends.specs.declared.ends.ProcessEnds.{ProcessEnds}
use Rattle.process_ends.specs.Ends.{EndsMeet}
use Rattle.worker_pair.specs.declared.ending.Ending.{Ending}
use Rattle.worker_pair.specs.Begun.{At}
use Rattle.worker_pair.specs.Runs.{Serves}
use Rattle.worker_pair.specs.Steps.{IsTurned}
use Rattle.worker_pair.proofs.MetLemmas.{meet_at}
use Rattle.worker_pair.proofs.TurnLemmas.{many_sends, others_turned}

module _ {V : Type 0} (media : MediaOutside V) (at : At) (e : Ending V) (t : Turn) (b : ButlerState V) (serves : Serves media at e) (turn : IsTurned media at e (Ok t) b) (ours : ProcessEnds) (theirs : ButlerEnds)
    (meet : EndsMeet e.ends b.ends ours theirs) where
  -- all acknowledgements were taken
  pub acks_are : b.ends.acks.received ≡ e.ends.to_butler.sent
  acks_are = let begins = meet.acks.met.passed.begins in
      let all = subst (λ l. IsPrefix l b.ends.acks.received) serves.met.acks.heard turn.receives.acks.told in
      whole b.ends.acks.received e.ends.to_butler.sent begins
      (both (length b.ends.acks.received) (length e.ends.to_butler.sent) (begins_length b.ends.acks.received e.ends.to_butler.sent begins) (begins_length e.ends.to_butler.sent b.ends.acks.received all))
    where
      both : (n m : ℕ) → n ≤ m → m ≤ n → n ≡ m
      both n m le ge = omega (arith, le, ge)

  -- nobody was at the other ends
  alone : IsAlone e.butler b
  alone = record {
    takes = λ u c q hc hq. let k = also_there e.butler.ends.takes.items e.ends.takes.items u c serves.others.takes.count hc in
        let f = also_there b.ends.takes.items theirs.takes.items u q (sym meet.takes.receivers) hq in let l = also_there e.ends.takes.items ours.takes.items u k.0 (sym meet.takes.senders) k.1 in
        let knew = serves.met.takes u k.0 c k.1 hc in
        let met = (meet_at e.ends.takes.items b.ends.takes.items ours.takes.items theirs.takes.items (others_turned media at e (Ok t) b serves turn).takes meet.takes u k.0 l.0 q f.0 k.1 hq l.1 f.1).met in (
          subst (λ xs. IsPrefix c.received xs) (sym knew.heard) knew.passed.begins,
          subst (λ xs. IsPrefix q.received xs) (sym knew.heard) met.passed.begins,
        );
    sends = λ u d f hd hf. let r = also_there e.butler.ends.sends.items e.ends.plays.items u d (sym serves.others.plays.count) hd in
        let g = also_there b.ends.sends.items theirs.sends.items u f (sym meet.plays.senders) hf in let q = also_there e.ends.plays.items ours.plays.items u r.0 (sym meet.plays.receivers) r.1 in
        let p = also_there e.butler.ends.sends.items e.butler.supplies u d (serves.serving.sends ∙ sym serves.serving.supplies) hd in
        let met = (meet_at b.ends.sends.items e.ends.plays.items theirs.sends.items ours.plays.items (others_turned media at e (Ok t) b serves turn).plays meet.plays u f g.0 r.0 q.0 hf r.1 g.1 q.1).met in (
          omega (arith, met.passed.within, (serves.met.plays u d r.0 hd r.1).got, (turn.sends u d f hd hf).depth),
          met.passed.small,
          (serves.serving.tracks u p.0 d p.1 hd).closed,
        );
    many = turn.receives.takes.many;
    many_sends = many_sends media at e (Ok t) b serves turn;
  }

  -- the turn makes one move
  pub made : MakesMove at.begun.session e.edition e.butler t b (moving.first_move at.begun.session e.edition e.butler b)
  made = a_turn_of_one_is_one_move at.begun.session e.edition e.butler t b turn.receives turn.sends turn.answers turn.fails.no_more_sent alone
